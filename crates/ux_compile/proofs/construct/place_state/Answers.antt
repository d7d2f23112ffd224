use Rattle.std.proofs.Common.{ℕ, List, get_or, subst, arith}
use Rattle.std.proofs.lemmas.Grind.{common_steps}
use Rattle.std.specs.Prelude.{Contains}
use Rattle.std.proofs.lemmas.List.Elements.{Contains-get_or}
use Rattle.ux_compile.proofs.construct.place_state.Goals as goal

pub push_edges-requires-clause-place : goal.push_edges-requires-clause-place
push_edges-requires-clause-place c =
    let to = get_or c.targets-targets.result.now c.loop-target.target-index 0 in
    c.requires.fit.targets c.args.place to
    (subst (λ (ts : List ℕ). Contains ts to) c.targets-targets.ensures
    (Contains-get_or c.targets-targets.result.now c.loop-target.target-index 0
    c.loop-target-test.true))

pub loop-target-preserved : goal.loop-target-preserved
loop-target-preserved c = grind (arith, common_steps)

pub returns : goal.returns
returns c = grind (arith, common_steps)
