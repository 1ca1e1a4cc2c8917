use Rattle.tk_cluster_tests.proofs.hold_tests.held_states_serve_what_they_keep.Given as goal

abbrev pub ghosts-two_are_kept : goal.ghosts-two_are_kept
ghosts-two_are_kept g a = record { table = a.blank.table; shape = a.blank.shape }
