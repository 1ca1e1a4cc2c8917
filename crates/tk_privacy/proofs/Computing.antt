-- What a computation of the definitions unfolds.
use Rattle.std.specs.Prelude.{⊤}
use Rattle.std.specs.Int.Count.{ones}
use Rattle.std.specs.Fmt.{digits}
use Rattle.std.specs.Str.{is_utf8, chars}
use Rattle.std.specs.Char.{encode_utf8}
use Rattle.tk_schedule.specs.Schedule.{serial_history}
use Rattle.tk_words.specs.Pieces.{word_at_byte}
use Rattle.tk_words.specs.Words.{pair_of, hits_of, pad_of, tag_of, opened, fresh_write, fresh_pair}
use Rattle.tk_words.specs.Words.{fresh_seeds, fresh_vectors}
use Rattle.tk_frames.specs.Order.{before}
use Rattle.tk_script.specs.Sent.{sendings_from, sent, sent_as}
use Rattle.tk_report.specs.Entries.{write_at, placed_from, entries_before}
use Rattle.tk_place.specs.Place.{is_placeable}
use Rattle.tk_table.specs.Table.{retained_with, retained_on}
use Rattle.tk_client.specs.Reader.{target, after_read}
use Rattle.tk_report.specs.Report.{lookup, reader_before, history_lines, report_text, report_of}
use Rattle.tk_client.specs.Asked.{frame_with}
use Rattle.tk_report.specs.Exchange.{read_pair, read_at, frames_before}
use Rattle.tk_privacy.specs.Privacy.{tape_of, masked_cell, changed_read, normal_for, normal}
use Rattle.tk_privacy.specs.Privacy.{regained, with_reads_for, unnormal, shown_read, cells_view}

unfoldable pub computing : ⊤
unfolding ones digits chars encode_utf8 is_utf8 serial_history word_at_byte pair_of hits_of pad_of
    tag_of opened fresh_write fresh_pair fresh_seeds fresh_vectors before sendings_from sent write_at
    placed_from entries_before is_placeable retained_with retained_on target after_read lookup
    reader_before history_lines report_text report_of frame_with read_pair read_at frames_before
    tape_of masked_cell sent_as changed_read normal_for normal regained with_reads_for unnormal
    shown_read cells_view
computing = tt
