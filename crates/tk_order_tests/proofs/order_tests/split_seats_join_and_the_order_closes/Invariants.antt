use Rattle.tk_order_tests.proofs.order_tests.split_seats_join_and_the_order_closes.Given as goal

abbrev pub ghosts-split_and_joined : goal.ghosts-split_and_joined
ghosts-split_and_joined g a = record { table = a.blank.table; shape = a.blank.shape }
