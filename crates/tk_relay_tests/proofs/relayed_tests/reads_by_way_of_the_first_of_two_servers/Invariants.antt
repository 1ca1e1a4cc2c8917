use Rattle.tk_relay_tests.proofs.relayed_tests.reads_by_way_of_the_first_of_two_servers.Given as goal

abbrev pub ghosts-relayed_reads : goal.ghosts-relayed_reads
ghosts-relayed_reads g a = record { table = a.blank.table; shape = a.blank.shape }
