use Rattle.ux_cmd_cascade.proofs.searching.hits_of_step.Given as goal

-- steps are counted in the ledger of the blank
abbrev pub ghosts-applied_hits : goal.ghosts-applied_hits
ghosts-applied_hits a = record { name = a.blank.name; parts = a.blank.parts }
