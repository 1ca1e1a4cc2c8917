use Rattle.tk_replica_tests.proofs.replica_tests.a_held_state_pins_and_serves.Given as goal

abbrev pub ghosts-released : goal.ghosts-released
ghosts-released g a = record { table = a.blank.table; shape = a.blank.shape }
