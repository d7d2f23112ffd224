use Rattle.std.proofs.Common.{arith, ℕ, ◌+◌, ◌≤◌, List, length, sym, subst}
use Rattle.ux_text_automaton.specs.declared.run.Run.{Run}
use Rattle.ux_text_automaton.specs.declared.runs_of.Begun.{Begun}
use Rattle.ux_text_automaton.specs.Candidates.{AreRunsBefore, HasBegun, next_begun, with_run}
use Rattle.ux_text_automaton.specs.Runs.{AreRuns}
use Rattle.ux_text_automaton.proofs.RunLemmas.{few_next, has_next, runs_are, runs_next}
use Rattle.ux_text_automaton.proofs.runs_of.runs.Goals as goal

pub loop-place-preserved : goal.loop-place-preserved
loop-place-preserved c =
    let tokens = c.args.text.now in
    let place = c.loop-place.place in
    let begun = c.loop-place.begun in
    let kind = c.kind-kind.result in
    let runs = c.loop-place.runs.items in
    let next = next_begun kind place begun in
    let made = c.in_ok-put_ended.ensures in
    let before = runs_next tokens place begun c.loop-place.invariant.has runs (omega arith)
    c.loop-place.invariant.runs kind c.kind-kind.ensures in
    record {
      has = subst (HasBegun tokens (place + 1)) (sym c.after-begun.ensures)
          (has_next tokens place begun c.loop-place.invariant.has kind c.kind-kind.ensures);
      runs = subst (λ (b : Begun). AreRunsBefore tokens b.first c.put_ended.new.runs.items)
          (sym c.after-begun.ensures)
          (subst (AreRunsBefore tokens next.first) (sym made) before);
      few = subst (λ (l : List Run). length l ≤ place + 1) (sym made)
          (few_next kind place begun runs place c.loop-place.invariant.few);
    }

pub returns-clause-runs : goal.returns-clause-runs
returns-clause-runs c =
    subst (AreRuns c.args.text.now) (sym c.in_ok-put_run.ensures)
    (subst
    (λ (n : ℕ). AreRuns c.args.text.now (with_run c.loop-place.runs.items c.loop-place.begun n))
    (omega arith)
    (runs_are c.args.text.now c.loop-place.place c.loop-place.begun c.loop-place.runs.items
    (omega (arith, c.len-end.ensures.len)) c.loop-place.invariant.has c.loop-place.invariant.runs))
