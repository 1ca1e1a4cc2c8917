mod BlockRuns
