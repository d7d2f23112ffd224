use Rattle.std.proofs.Common.{rules, nat_lt}
use Rattle.std.proofs.lemmas.List.Sorted.{answers_always}
use Rattle.ux_dawg.specs.declared.state.Edge.{Edge}
use Rattle.ux_dawg.proofs.FitLemmas.{ascending_tells}
use Rattle.ux_dawg.proofs.fit.ascend.Goals as goal

pub returns : goal.returns
returns c = ascending_tells c.args.edges.now c.is_sorted_by.result
    (c.is_sorted_by.ensures.cases (λ (x : Edge) (y : Edge). nat_lt x.letter y.letter)
    (answers_always _ _ _ (λ f a r g h. search rules)))
