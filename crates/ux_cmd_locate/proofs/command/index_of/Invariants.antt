use Rattle.ux_cmd_locate.proofs.command.index_of.Given as goal

-- steps are counted in the ledger of the blank
abbrev pub ghosts-hits_index : goal.ghosts-hits_index
ghosts-hits_index a = record { name = a.blank.name; parts = a.blank.parts }
