use Rattle.std.proofs.Common.{arith, ℕ, ◌-◌, List, [], ◌∷◌, ◌++◌, refl, take, drop, ◌≢◌}
use Rattle.std.specs.Prelude.{IsTrue}
use Rattle.ux_subsets.specs.declared.departures.Step.{Step}
use Rattle.ux_subsets.specs.Departures.{LeadsTo, reading_at}
use Rattle.ux_subsets.specs.Building.{LeadsFrom, NextFrom}
use Rattle.ux_subsets.proofs.ElementsLemmas.{nothing_in}
use Rattle.ux_subsets.proofs.RunsLemmas.{run_length, run_rises, run_leads, run_within, cut_more, not_before, readings_more, all_read}
use Rattle.ux_subsets.proofs.NotingLemmas.{no_expansion, expansion_more, over_told, new_for, over_for, going_for, kept_more}
use Rattle.ux_subsets.proofs.StagesLemmas.{grows_none, grows_both}
use Rattle.ux_subsets.proofs.expanding.expand_steps.Goals as goal

pub loop-begin-init : goal.loop-begin-init
loop-begin-init g c = record {
  grows = grows_none (g.M.Machine.stands c.args.machine.now) (g.M.Machine.satisfies c.args.machine.now);
  expanded = λ source states are up. (
    λ k m lt. absurd (omega (arith, lt)),
    (
      [],
      λ r. (λ h. absurd (nothing_in h), λ h. let lt = h.1 in absurd (omega (arith, lt))),
      no_expansion c.args.last source states c.args.from (g.M.Machine.stands c.args.machine.now) (g.M.Machine.satisfies c.args.machine.now)
          c.args.seen [] c.args.waiting.now.items c.args.overs.now.items refl,
      λ is r h. absurd (nothing_in h),
    ),
  );
}

pub note_waiting-requires : goal.note_waiting-requires
note_waiting-requires g c =
    let is = c.run_end-end.ensures in
    let some = is.some in
    let len = run_length c.args.steps.now c.loop-begin.begin c.run_end-end.result is in
    omega (arith, some, len)

pub loop-begin-preserved : goal.loop-begin-preserved
loop-begin-preserved g c =
    let steps = c.args.steps.now in
    let begin = c.loop-begin.begin in
    let end = c.run_end-end.result in
    let is = c.run_end-end.ensures in
    let r = reading_at steps begin in
    let last = c.args.last in
    let from = c.args.from in
    let run : List Step = take (end - begin) (drop begin steps) in
    let S0 = g.M.Machine.stands c.args.machine.now in
    let S1 = g.M.Machine.stands c.loop-begin.machine in
    let S2 = g.M.Machine.stands c.step.new.self in
    let T0 = g.M.Machine.satisfies c.args.machine.now in
    let T1 = g.M.Machine.satisfies c.loop-begin.machine in
    let T2 = g.M.Machine.satisfies c.step.new.self in
    record {
      grows = grows_both c.loop-begin.invariant.grows c.in_ok-next.ensures.grows;
      expanded = λ source states are up.
          let so_far = c.loop-begin.invariant.expanded source states are up in
          let cut = so_far.0 in
          let readings = so_far.1.0 in
          let told = so_far.1.1 in
          let same = run_leads steps begin end is source states last from are cut in
          let new = c.in_ok-note_waiting.ensures (run_rises steps begin end is are.ordered) (run_within steps begin end is source states last from are up) in
          let over = over_for c.loop-begin.overs.items c.note_over.new.overs.items from r (LeadsTo run last) (LeadsFrom last source states from r last)
          (IsTrue c.accepts-is_wanted.result) (same last) c.in_ok-is_kept.ensures.noted in
          let verdict = over_told last source states from S0 S1 S2 T0 T1 T2 c.args.seen c.in_ok-next.next r (IsTrue c.accepts-is_wanted.result)
          c.loop-begin.overs.items c.note_over.new.overs.items c.loop-begin.invariant.grows c.in_ok-next.ensures.grows c.in_ok-next.ensures.stepped c.accepts-is_wanted.ensures over in (
            cut_more steps begin end is are.ordered cut,
            (
              readings ++ r ∷ [],
              readings_more steps begin end is readings told,
              expansion_more last source states from S0 S1 S2 T0 T1 T2 c.args.seen c.in_ok-next.next
                  c.loop-begin.invariant.grows c.in_ok-next.ensures.grows readings (readings ++ r ∷ []) r
                  c.args.waiting.now.items c.loop-begin.waiting.items c.note_waiting.new.waiting.items c.args.overs.now.items c.loop-begin.overs.items c.note_over.new.overs.items
                  refl (not_before steps begin end is cut readings (λ q h. (told q).0 h)) so_far.1.2
                  c.in_ok-next.ensures.stepped verdict new.0 new.1
                  (new_for (λ (t : ℕ). (t ≢ last) × LeadsTo run t) (NextFrom last source states from r) from r c.in_ok-next.next new.0
                  (going_for last (LeadsTo run) (LeadsFrom last source states from r) same) new.2),
              λ so.
                  let both = c.are_both-all.ensures.0 so in
                  kept_more c.loop-begin.overs.items c.note_over.new.overs.items from readings r (λ q. LeadsFrom last source states from q last) (LeadsTo run last) (IsTrue c.accepts-is_wanted.result)
                  c.in_ok-is_kept.ensures.noted
                  (λ l. let there = (same last).1 l in (there, c.in_ok-is_kept.ensures.kept both.1 there))
                  (so_far.1.3 both.0),
            ),
          );
    }

pub returns-clause-expanded : goal.returns-clause-expanded
returns-clause-expanded g c = λ source states are up.
    let so_far = c.loop-begin.invariant.expanded source states are up in (
      so_far.1.0,
      λ r t l. (so_far.1.1 r).1 (all_read c.args.steps.now c.loop-begin.begin c.loop-begin-test.false source states c.args.last c.args.from are r t l),
      so_far.1.2,
    )

pub returns-clause-kept : goal.returns-clause-kept
returns-clause-kept g c = λ so source states are up r l.
    let so_far = c.loop-begin.invariant.expanded source states are up in
    so_far.1.3 so r ((so_far.1.1 r).1 (all_read c.args.steps.now c.loop-begin.begin c.loop-begin-test.false source states c.args.last c.args.from are r c.args.last l)) l
