use Rattle.std.proofs.Common.{arith, ◌∙◌, ℕ, List, Vec, Global, map, subst, sym}
use Rattle.std.proofs.lemmas.List.{length-map}
use Rattle.ux_base.proofs.Lists.{take_whole}
use Rattle.ux_rules.specs.declared.step.Step.{Step}
use Rattle.ux_rules.specs.Rules.{AreLeaving}
use Rattle.ux_rules.proofs.LeavingLemmas.{leaving_next}
use Rattle.ux_rules.proofs.leaving.leaving_of.Goals as goal

pub put-requires : goal.put-requires
put-requires c =
    let below = c.requires.inside.from c.index-steps-number.result
    (c.loop-number.number, c.loop-number-test.true, sym c.index-steps-number.is) in
    let len = c.loop-number.invariant.len in
    record { inside = omega (arith, below, len) }

pub loop-number-preserved : goal.loop-number-preserved
loop-number-preserved c =
    let rows = λ (vs : List (Vec ℕ Global)). map (λ row. row.items) vs in
    let old = c.loop-number.rows.items in
    let step = c.index-steps-number.result in
    let below = c.requires.inside.from step
    (c.loop-number.number, c.loop-number-test.true, sym c.index-steps-number.is) in
    let len = c.loop-number.invariant.len in
    let same = length-map old (λ (row : Vec ℕ Global). row.items) in
    record {
      len = c.in_ok-put.ensures.len ∙ c.loop-number.invariant.len;
      rows = leaving_next c.args.steps.now c.loop-number.number step (rows old)
          (rows c.put.new.rows.items) c.loop-number-test.true c.index-steps-number.is
          (omega (arith, below, len, same)) c.in_ok-put.ensures.put c.loop-number.invariant.rows;
    }

pub returns : goal.returns
returns c =
    subst (λ (ss : List Step).
    AreLeaving ss (map (λ (row : Vec ℕ Global). row.items) c.loop-number.rows.items))
    (take_whole c.args.steps.now c.loop-number.number c.loop-number-test.false)
    c.loop-number.invariant.rows
