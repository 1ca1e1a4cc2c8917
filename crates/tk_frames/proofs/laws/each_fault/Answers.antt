use Rattle.std.proofs.Common.{drop, ap, ◌∙◌}
use Rattle.tk_frames.specs.Fields.{write_in, read_in, reply_in, placed_in}
use Rattle.tk_frames.specs.Faults.{first_fault, write_checks, read_checks, reply_checks, placed_checks}
use Rattle.tk_frames.proofs.Frames.{write_found, write_passes, reply_found, reply_passes}
use Rattle.tk_frames.proofs.ReadLaws.{read_found, read_passes}
use Rattle.tk_frames.proofs.PlacedFrames.{placed_found, placed_passes}
use Rattle.tk_frames.proofs.laws.each_fault.Goals as goal

pub returns-clause-writes : goal.returns-clause-writes
returns-clause-writes c = λ shape bytes fits. (
  λ none. let found = write_found shape bytes fits none in (write_in shape (drop 2 bytes), found.0, found.1),
  λ spelled. ap (λ xs. first_fault (write_checks shape xs)) spelled.2 ∙ write_passes shape spelled.0 spelled.1,
)

pub returns-clause-placed : goal.returns-clause-placed
returns-clause-placed c = λ shape bytes fits. (
  λ none. let found = placed_found shape bytes fits none in (placed_in shape bytes, found.0, found.1),
  λ spelled. ap (λ xs. first_fault (placed_checks shape xs)) spelled.2 ∙ placed_passes shape spelled.0 spelled.1,
)

pub returns-clause-reads : goal.returns-clause-reads
returns-clause-reads c = λ shape bytes fits. (
  λ none. let found = read_found shape bytes fits none in (read_in shape bytes, found.0, found.1),
  λ spelled. ap (λ xs. first_fault (read_checks shape xs)) spelled.2 ∙ read_passes shape spelled.0 spelled.1,
)

pub returns-clause-replies : goal.returns-clause-replies
returns-clause-replies c = λ shape bytes fits. (
  λ none. let found = reply_found shape bytes fits none in (reply_in shape bytes, found.0, found.1),
  λ spelled. ap (λ xs. first_fault (reply_checks shape xs)) spelled.2 ∙ reply_passes shape spelled.0 spelled.1,
)
