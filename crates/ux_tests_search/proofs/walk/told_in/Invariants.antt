use Rattle.ux_tests_search.proofs.walk.told_in.Given as goal

-- steps are counted in the ledger of the blank
abbrev pub ghosts-told_by : goal.ghosts-told_by
ghosts-told_by a = record { name = a.blank.name; parts = a.blank.parts }
