use Rattle.ux_automaton.proofs.front_indexes.FrontIndexes.has_none.Goals as goal

pub returns-in-Some : goal.returns-in-Some
returns-in-Some c masked store text indexed numbered empty = c.has_none.ensures masked text
    store c.args.front
    (indexed.indexes c.args.front c.in-Some.index.now c.in-Some.ensures).1 numbered empty
