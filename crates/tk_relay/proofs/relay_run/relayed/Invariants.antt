-- The order that is opened.
use Rattle.tk_relay.proofs.relay_run.relayed.Given as goal

abbrev pub ghosts-relayed_over : goal.ghosts-relayed_over
ghosts-relayed_over g a = record { table = a.blank.table; shape = a.blank.shape }
