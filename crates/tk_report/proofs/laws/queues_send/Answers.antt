use Rattle.tk_report.proofs.QueueLaws.{queues-send}
use Rattle.tk_report.proofs.laws.queues_send.Goals as goal

pub returns : goal.returns
returns c = queues-send
