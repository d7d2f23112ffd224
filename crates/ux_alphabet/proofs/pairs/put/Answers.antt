use Rattle.ux_alphabet.proofs.pairs.put.Goals as goal

pub returns-in-Pair : goal.returns-in-Pair
returns-in-Pair c = rw c.in-Pair.is c.insert.ensures
