-- The texts of a client are apart: in later turns, and with higher numbers of the same log.
use Rattle.tk_script.proofs.SentLaws.{sent-once, sent-is, finds_by_number}
use Rattle.tk_script.proofs.laws.numbers_sent_once.Goals as goal

pub returns : goal.returns
returns c = record { once = sent-once; in_range = sent-is; found = finds_by_number }
