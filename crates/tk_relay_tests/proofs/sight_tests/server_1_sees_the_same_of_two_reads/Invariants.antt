use Rattle.tk_relay_tests.proofs.sight_tests.server_1_sees_the_same_of_two_reads.Given as goal

abbrev pub ghosts-of_a_new_set : goal.ghosts-of_a_new_set
ghosts-of_a_new_set g a = record { table = a.blank.table; shape = a.blank.shape }
