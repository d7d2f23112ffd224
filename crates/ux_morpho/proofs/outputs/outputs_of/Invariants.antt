use Rattle.ux_morpho.proofs.outputs.outputs_of.Given as goal

-- steps are counted in the ledger of the blank
abbrev pub ghosts-counted_outputs : goal.ghosts-counted_outputs
ghosts-counted_outputs a = record { name = a.blank.name; parts = a.blank.parts }
