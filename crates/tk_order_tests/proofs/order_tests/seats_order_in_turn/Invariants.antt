use Rattle.tk_order_tests.proofs.order_tests.seats_order_in_turn.Given as goal

abbrev pub ghosts-two_seats : goal.ghosts-two_seats
ghosts-two_seats g a = record { table = a.blank.table; shape = a.blank.shape }
