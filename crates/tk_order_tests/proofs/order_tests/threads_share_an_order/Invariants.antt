use Rattle.tk_order_tests.proofs.order_tests.threads_share_an_order.Given as goal

abbrev pub ghosts-two_threads : goal.ghosts-two_threads
ghosts-two_threads g a = record { table = a.blank.table; shape = a.blank.shape }
