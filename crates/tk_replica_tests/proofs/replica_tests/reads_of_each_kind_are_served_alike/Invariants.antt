use Rattle.tk_replica_tests.proofs.replica_tests.reads_of_each_kind_are_served_alike.Given as goal

abbrev pub ghosts-served_alike : goal.ghosts-served_alike
ghosts-served_alike g a = record { table = a.blank.table; shape = a.blank.shape }
