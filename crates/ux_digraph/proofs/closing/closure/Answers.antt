use Rattle.std.proofs.Common.{arith, ◌+◌, ◌∙◌, List, length, get_or, sym, subst, take, map}
use Rattle.std.proofs.lemmas.Grind.{common_steps}
use Rattle.std.proofs.lemmas.List.Elements.{Contains-get_or}
use Rattle.ux_digraph.specs.declared.closing.Rule.{Rule}
use Rattle.ux_digraph.specs.Marking.{Marking, Waiting}
use Rattle.ux_base.proofs.Lists.{take_more, emptied}
use Rattle.ux_digraph.proofs.MarkingLemmas.{more_facts, takes, none_waits, marks_exactly}
use Rattle.ux_digraph.proofs.UsesLemmas.{uses_known, uses_inside}
use Rattle.ux_digraph.proofs.closing.closure.Goals as goal

pub add-requires : goal.add-requires
add-requires c =
    let inside = c.requires.inside.start (get_or c.args.facts.now c.loop-fact.fact-index 0)
    (Contains-get_or c.args.facts.now c.loop-fact.fact-index 0 c.loop-fact-test.true) in
    let len = c.loop-fact.invariant.len in
    record { inside = omega arith }

pub loop-fact-preserved : goal.loop-fact-preserved
loop-fact-preserved c =
    let fact = get_or c.args.facts.now c.loop-fact.fact-index 0 in
    record {
      len = c.in_ok-add.ensures.len ∙ c.loop-fact.invariant.len;
      state = more_facts c.args.rules.now (take c.loop-fact.fact-index c.args.facts.now)
          (take (c.loop-fact.fact-index + 1) c.args.facts.now) c.loop-fact.marks.items
          c.add.new.marks.items c.loop-fact.work.items c.add.new.work.items fact
          (take_more c.args.facts.now c.loop-fact.fact-index 0 c.loop-fact-test.true)
          c.in_ok-add.ensures.added c.loop-fact.invariant.state;
    }

pub apply_all-requires : goal.apply_all-requires
apply_all-requires c = record {
  inside = uses_inside c.args.rules.now c.args.facts.now
      (map (λ row. row.items) c.in_ok-uses.uses.items) c.in-Some.place c.row_of.result.now
      c.args.size (length c.loop-place.marks.items) c.in_ok-uses.ensures.uses c.row_of.ensures
      c.requires.inside c.loop-place.invariant.len;
}

pub loop-place-preserved : goal.loop-place-preserved
loop-place-preserved c =
    let uses = map (λ row. row.items) c.in_ok-uses.uses.items in
    record {
      len = c.in_ok-apply_all.ensures.len ∙ c.loop-place.invariant.len;
      state = c.in_ok-apply_all.ensures.done c.args.rules.now c.args.facts.now
          (uses_known c.args.rules.now uses c.in-Some.place c.row_of.result.now
          c.in_ok-uses.ensures.uses c.row_of.ensures)
          (subst (λ (row : List Rule). Marking c.args.rules.now c.args.facts.now
          c.loop-place.marks.items (Waiting c.pop.new.self.items row)) (sym c.row_of.ensures)
          (takes c.args.rules.now c.args.facts.now uses c.in_ok-uses.ensures.uses
          c.loop-place.marks.items c.loop-place.work.items c.pop.new.self.items c.in-Some.place
          c.in-Some.ensures.items c.loop-place.invariant.state));
    }

pub returns-clause-marks : goal.returns-clause-marks
returns-clause-marks c =
    marks_exactly c.args.rules.now c.args.facts.now c.loop-place.marks.items
    (none_waits c.args.rules.now c.args.facts.now c.loop-place.marks.items c.loop-place.work.items
    (emptied c.loop-place.work.items c.pop.new.self.items _ c.in_default.ensures.items
    c.in_default.ensures.rest c.in_default.ensures.cases.0) c.loop-place.invariant.state)

pub loop-fact-init : goal.loop-fact-init
loop-fact-init c = grind (arith, common_steps)

pub loop-place-init : goal.loop-place-init
loop-place-init c = grind (arith, common_steps)
