use Rattle.std.proofs.Common.{drop, sym, ◌∙◌}
use Rattle.tk_frames.specs.Spelling.{write_frame, read_frame, reply_frame, placed_frame}
use Rattle.tk_frames.specs.Fields.{write_in, read_in, reply_in, placed_in}
use Rattle.tk_frames.proofs.Spellings.{apart}
use Rattle.tk_frames.proofs.Frames.{write-again, reply-again, length-write_frame, length-reply_frame}
use Rattle.tk_frames.proofs.ReadLaws.{read-again, same_read_len}
use Rattle.tk_frames.proofs.PlacedFrames.{placed-again, same_len}
use Rattle.tk_frames.proofs.laws.one_spelling.Goals as goal

pub returns-clause-writes : goal.returns-clause-writes
returns-clause-writes c = λ shape a b rest fits_a fits_b e.
    apart write_frame (λ bytes. write_in shape (drop 2 bytes)) a b rest (write-again shape a fits_a) (write-again shape b fits_b)
    (length-write_frame shape a fits_a ∙ sym (length-write_frame shape b fits_b)) e

pub returns-clause-placed : goal.returns-clause-placed
returns-clause-placed c = λ shape a b rest fits_a fits_b e.
    apart placed_frame (placed_in shape) a b rest (placed-again shape a fits_a) (placed-again shape b fits_b) (same_len shape a b rest fits_a fits_b e) e

pub returns-clause-reads : goal.returns-clause-reads
returns-clause-reads c = λ shape a b rest fits_a fits_b e.
    apart read_frame (read_in shape) a b rest (read-again shape a fits_a) (read-again shape b fits_b)
    (same_read_len shape a b rest fits_a fits_b e) e

pub returns-clause-replies : goal.returns-clause-replies
returns-clause-replies c = λ shape a b rest fits_a fits_b e.
    apart reply_frame (reply_in shape) a b rest (reply-again shape a fits_a) (reply-again shape b fits_b)
    (length-reply_frame shape a fits_a ∙ sym (length-reply_frame shape b fits_b)) e
