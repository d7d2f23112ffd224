use Rattle.std.proofs.Common.{arith, ℕ, [], ◌++◌, ◌≡◌, ◌+◌, ◌∙◌, refl, sym, ap, subst, length, length-append}
use Rattle.ux_subsets.specs.declared.sets.Set.{Set}
use Rattle.ux_subsets.specs.Agenda.{filed_in}
use Rattle.ux_subsets.specs.Building.{states_of, states_at, seen_at, IsStage}
use Rattle.ux_subsets.proofs.PlacingLemmas.{states_at_behind, seen_at_behind, states_at_get, seen_at_get}
use Rattle.ux_subsets.proofs.StagesLemmas.{grows_none, grows_both}
use Rattle.ux_subsets.proofs.reaching.all_sets.Goals as goal

pub loop-place-init : goal.loop-place-init
loop-place-init g c = record {
  within = omega arith;
  due = refl;
  grows = grows_none (g.M.Machine.stands c.args.machine.now) (g.M.Machine.satisfies c.args.machine.now);
  staged = λ source before links state start up is none due s. (
    none,
    subst (λ (n : ℕ). IsStage (g.M.Machine.stands c.args.machine.now) (g.M.Machine.satisfies c.args.machine.now) c.args.last source (before ++ c.args.sets.now) links c.args.overs.now.items [] (filed_in c.args.agenda.now) n c.args.base state c.args.all) (omega arith) s,
  );
}

pub loop-place-preserved : goal.loop-place-preserved
loop-place-preserved g c = record {
  within = let lt = c.loop-place-test.true in omega (arith, lt);
  due = c.in_ok-now.ensures.due ∙ c.loop-place.invariant.due;
  grows = grows_both c.loop-place.invariant.grows c.in_ok-now.ensures.grows;
  staged = λ source before links state start up is none due s.
      let now = c.loop-place.invariant.staged source before links state start up is none due s in
      let sets = c.args.sets.now in
      let place = c.loop-place.place in
      let lt = c.loop-place-test.true in
      let number = c.in_ok-number.number in
      let at : number ≡ c.args.base + place = c.in_ok-number.ensures in
      let at' : length before + place ≡ number = omega (arith, at, is) in
      let len = length-append before sets in
      let it = c.index-sets-place.result in
      let is_it = c.index-sets-place.is in
      let S = g.M.Machine.stands c.loop-place.machine in
      let T = g.M.Machine.satisfies c.loop-place.machine in
      let next = c.in_ok-now.ensures.staged source (before ++ sets) links c.args.base state start up
      (ap (states_at (before ++ sets)) (sym at') ∙ (states_at_behind before sets place ∙ (states_at_get sets place it lt ∙ ap states_of (sym is_it))))
      (ap (seen_at (before ++ sets)) (sym at') ∙ (seen_at_behind before sets place ∙ (seen_at_get sets place it lt ∙ ap (λ (x : Set). x.seen) (sym is_it))))
      (omega (arith, len, at', lt)) now.0 (c.loop-place.invariant.due ∙ due)
      (subst (λ (n : ℕ). IsStage S T c.args.last source (before ++ sets) links c.loop-place.overs.items [] (filed_in c.loop-place.agenda) n c.args.base state c.loop-place.now) (sym at) now.1) in (
        next.0,
        subst (λ (n : ℕ). IsStage (g.M.Machine.stands c.one_set.new.machine) (g.M.Machine.satisfies c.one_set.new.machine) c.args.last source (before ++ sets) links c.one_set.new.overs.items [] (filed_in c.one_set.new.agenda) n c.args.base state c.in_ok-now.now)
            (omega (arith, at)) next.1,
      );
}

pub returns-clause-due : goal.returns-clause-due
returns-clause-due g c = c.loop-place.invariant.due

pub returns-clause-grows : goal.returns-clause-grows
returns-clause-grows g c = c.loop-place.invariant.grows

pub returns-clause-staged : goal.returns-clause-staged
returns-clause-staged g c = λ source before links state start up is none due s.
    let now = c.loop-place.invariant.staged source before links state start up is none due s in
    let within = c.loop-place.invariant.within in
    let here : c.loop-place.place ≡ length c.args.sets.now = omega (arith, within) in (
      now.0,
      subst (λ (k : ℕ). IsStage (g.M.Machine.stands c.loop-place.machine) (g.M.Machine.satisfies c.loop-place.machine) c.args.last source (before ++ c.args.sets.now) links c.loop-place.overs.items [] (filed_in c.loop-place.agenda) (c.args.base + k) c.args.base state c.loop-place.now) here now.1,
    )
