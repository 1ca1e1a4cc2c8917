use Rattle.tk_cluster_tests.proofs.set_tests.a_set_answers_after_its_epoch_was_released.Given as goal

abbrev pub ghosts-epoch_1_answers : goal.ghosts-epoch_1_answers
ghosts-epoch_1_answers g a = record { table = a.blank.table; shape = a.blank.shape }
