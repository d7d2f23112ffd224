use Rattle.ux_tests_search.proofs.walk.way_in.Goals as goal

pub of-requires-clause-plain : goal.of-requires-clause-plain
of-requires-clause-plain c = c.is_plain.ensures.0 c.if-is_plain.true
