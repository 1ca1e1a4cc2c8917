use Rattle.tk_cluster_tests.proofs.kind_tests.reads_of_each_kind_are_answered_alike.Given as goal

abbrev pub ghosts-kinds_alike : goal.ghosts-kinds_alike
ghosts-kinds_alike g a = record { table = a.blank.table; shape = a.blank.shape }
