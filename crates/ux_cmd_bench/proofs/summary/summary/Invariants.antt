use Rattle.ux_cmd_bench.proofs.summary.summary.Given as goal

-- steps are counted in the ledger of the blank
abbrev pub ghosts-counts : goal.ghosts-counts
ghosts-counts a = record { name = a.blank.name; parts = a.blank.parts }
