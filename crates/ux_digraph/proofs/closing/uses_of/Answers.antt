use Rattle.std.proofs.Common.{◌≡◌, ◌∙◌, length, get_or, map, List, take, ◌+◌, Vec, Global, arith}
use Rattle.std.proofs.lemmas.Grind.{common_steps}
use Rattle.std.proofs.lemmas.List.{length-map}
use Rattle.ux_digraph.specs.declared.closing.Rule.{Rule}
use Rattle.ux_base.proofs.Lists.{take_more}
use Rattle.ux_digraph.proofs.UsesLemmas.{no_uses, more_uses, premises_inside}
use Rattle.ux_digraph.proofs.closing.uses_of.Goals as goal

pub loop-rule-init : goal.loop-rule-init
loop-rule-init c = record {
  len = c.in_ok-uses.ensures.len;
  uses = no_uses (map (λ row. row.items) c.in_ok-uses.uses.items) c.in_ok-uses.ensures.empty;
}

pub put-requires : goal.put-requires
put-requires c = record {
  inside = (premises_inside c.args.rules.now c.args.size (length c.loop-rule.uses.items)
      c.loop-rule.rule-index _ c.requires.inside c.loop-rule.invariant.len
      c.loop-rule-test.true).0;
}

pub put-requires-in-loop-rule : goal.put-requires-in-loop-rule
put-requires-in-loop-rule c = record {
  inside = (premises_inside c.args.rules.now c.args.size (length c.put.new.uses.items)
      c.loop-rule.rule-index _ c.requires.inside
      (c.in_ok-put.ensures.len ∙ c.loop-rule.invariant.len) c.loop-rule-test.true).1;
}

pub loop-rule-preserved : goal.loop-rule-preserved
loop-rule-preserved c =
    let rows = λ (uses : List (Vec Rule Global)). map (λ row. row.items) uses in
    let first = c.loop-rule.uses.items in
    let second = c.put.new.uses.items in
    let len : length second ≡ c.args.size =
    c.in_ok-put.ensures.len ∙ c.loop-rule.invariant.len in
    record {
      len = c.in_ok-put-2.ensures.len ∙ len;
      uses = more_uses (take c.loop-rule.rule-index c.args.rules.now)
          (take (c.loop-rule.rule-index + 1) c.args.rules.now)
          (get_or c.args.rules.now c.loop-rule.rule-index _)
          (rows first) (rows second) (rows c.put-in-loop-rule.new.uses.items)
          (take_more c.args.rules.now c.loop-rule.rule-index _ c.loop-rule-test.true)
          (premises_inside c.args.rules.now c.args.size (length (rows first))
          c.loop-rule.rule-index _ c.requires.inside
          (length-map first (λ row. row.items) ∙ c.loop-rule.invariant.len)
          c.loop-rule-test.true).0
          (premises_inside c.args.rules.now c.args.size (length (rows second))
          c.loop-rule.rule-index _ c.requires.inside
          (length-map second (λ row. row.items) ∙ len) c.loop-rule-test.true).1
          c.in_ok-put.ensures.put c.in_ok-put-2.ensures.put c.loop-rule.invariant.uses;
    }

pub returns-clause-uses : goal.returns-clause-uses
returns-clause-uses c = grind (arith, common_steps)
