use Rattle.tk_replica_tests.proofs.replica_tests.replicas_advance_to_lengths_of_their_own.Given as goal

abbrev pub ghosts-three_lengths : goal.ghosts-three_lengths
ghosts-three_lengths g a = record { table = a.blank.table; shape = a.blank.shape }
