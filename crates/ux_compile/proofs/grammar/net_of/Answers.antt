use Rattle.ux_compile.proofs.grammar.net_of.Goals as goal

pub closed_contexts-requires-clause-inside : goal.closed_contexts-requires-clause-inside
closed_contexts-requires-clause-inside c = λ k d within. (c.requires.fit k d within).inside
