use Rattle.std.proofs.Common.{arith, ℕ, List, [], ◌∷◌, ◌++◌, ◌≡◌, ◌+◌, ◌∙◌, ◌<◌, ◌≤◌, refl, sym, subst, vec_len}
use Rattle.std.specs.Prelude.{Contains}
use Rattle.std.proofs.lemmas.List.{append-nil}
use Rattle.std.proofs.lemmas.List.Elements.{Contains-push, Contains-append_left}
use Rattle.ux_subsets.specs.declared.sets.Waiting.{Waiting}
use Rattle.ux_subsets.specs.Agenda.{filed_in}
use Rattle.ux_subsets.specs.Building.{states_at, seen_at, LeadsFrom, IsExpansion, IsStage}
use Rattle.ux_subsets.proofs.PlacingLemmas.{nothing_left}
use Rattle.ux_subsets.proofs.StagesLemmas.{stage_expanded, stage_filed}
use Rattle.ux_subsets.proofs.reaching.one_set.Goals as goal

pub loop-one-init : goal.loop-one-init
loop-one-init g c = record {
  due = refl;
  staged = λ source sets links border state start up at at_seen below none due s.
      let n = c.args.number in
      let last = c.args.last in
      let S0 = g.M.Machine.stands c.args.machine.now in
      let S1 = g.M.Machine.stands c.expand.new.machine in
      let T0 = g.M.Machine.satisfies c.args.machine.now in
      let e = c.in_ok-is_kept.ensures.expanded source start up in
      stage_expanded c.in_ok-is_kept.ensures.grows last source up sets links c.args.overs.now.items c.expand.new.overs.items c.expand.new.waiting.items (filed_in c.args.agenda.now)
      n border state below e.0
      (subst (λ (xs : List ℕ). (r t : ℕ) → LeadsFrom last source xs n r t → Contains e.0 r) (sym at) e.1)
      (subst (λ (ws : List Waiting). IsExpansion last source (states_at sets n) n S0 S1 T0 (seen_at sets n) e.0 ws c.expand.new.waiting.items c.args.overs.now.items c.expand.new.overs.items) none
      (subst (λ (q : ℕ). IsExpansion last source (states_at sets n) n S0 S1 T0 q e.0 c.args.waiting.now.items c.expand.new.waiting.items c.args.overs.now.items c.expand.new.overs.items) (sym at_seen)
      (subst (λ (xs : List ℕ). IsExpansion last source xs n S0 S1 T0 c.args.set.now.seen e.0 c.args.waiting.now.items c.expand.new.waiting.items c.args.overs.now.items c.expand.new.overs.items) (sym at) e.2)))
      c.args.all c.are_both-now.result (λ so. (c.are_both-now.ensures.0 so).0)
      (λ so r l. c.in_ok-is_kept.ensures.kept (c.are_both-now.ensures.0 so).1 source start up r (subst (λ (xs : List ℕ). LeadsFrom last source xs n r last) at l))
      s;
}

pub loop-one-preserved : goal.loop-one-preserved
loop-one-preserved g c = record {
  due = c.in_ok-file.ensures.due ∙ c.loop-one.invariant.due;
  staged = λ source sets links border state start up at at_seen below none due s.
      let now = c.loop-one.invariant.staged source sets links border state start up at at_seen below none due s in
      let front = c.pop.new.self.items in
      let one = c.in-Some.one in
      let popped : c.loop-one.waiting.items ≡ front ++ one ∷ [] = c.in-Some.ensures.items in
      let here = subst (λ (ws : List Waiting). (w : Waiting) → Contains ws w → state < w.set.first) popped now.1 in
      let later = here one (Contains-push front one) in
      let is : c.loop-one.agenda.due ≡ state + 1 = c.loop-one.invariant.due ∙ due in
      let rises : c.loop-one.agenda.due ≤ one.set.first = omega (arith, later, is) in (
        stage_filed c.args.last source sets links c.expand.new.overs.items front one (filed_in c.loop-one.agenda) (filed_in c.file.new.self)
            (c.args.number + 1) border state c.are_both-now.result later (c.in_ok-file.ensures.filed rises)
            (subst (λ (ws : List Waiting). IsStage (g.M.Machine.stands c.expand.new.machine) (g.M.Machine.satisfies c.expand.new.machine) c.args.last source sets links c.expand.new.overs.items ws (filed_in c.loop-one.agenda) (c.args.number + 1) border state c.are_both-now.result) popped now.0),
        λ w h. here w (Contains-append_left front (one ∷ []) w h),
      );
}

pub returns-clause-due : goal.returns-clause-due
returns-clause-due g c = c.loop-one.invariant.due

pub returns-clause-staged : goal.returns-clause-staged
returns-clause-staged g c = λ source sets links border state start up at at_seen below none due s.
    let now = c.loop-one.invariant.staged source sets links border state start up at at_seen below none due s in
    let empty : c.loop-one.waiting.items ≡ [] =
    nothing_left c.loop-one.waiting.items c.pop.new.self.items (vec_len c.loop-one.waiting) c.in_default.ensures.cases.0 c.in_default.ensures.rest c.in_default.ensures.items in (
      sym (append-nil c.pop.new.self.items) ∙ (sym c.in_default.ensures.items ∙ empty),
      subst (λ (ws : List Waiting). IsStage (g.M.Machine.stands c.expand.new.machine) (g.M.Machine.satisfies c.expand.new.machine) c.args.last source sets links c.expand.new.overs.items ws (filed_in c.loop-one.agenda) (c.args.number + 1) border state c.are_both-now.result) empty now.0,
    )
