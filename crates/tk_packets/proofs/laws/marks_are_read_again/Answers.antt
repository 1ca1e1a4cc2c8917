use Rattle.tk_packets.proofs.MarkLaws.{read_again}
use Rattle.tk_packets.proofs.laws.marks_are_read_again.Goals as goal

pub returns : goal.returns
returns c = read_again
