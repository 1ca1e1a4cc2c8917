use Rattle.tk_cluster_tests.proofs.thread_tests.what_was_answered_stands_in_what_was_closed.Given as goal

abbrev pub ghosts-two_phases : goal.ghosts-two_phases
ghosts-two_phases g a = record { table = a.blank.table; shape = a.blank.shape }
