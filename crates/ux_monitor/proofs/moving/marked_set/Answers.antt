use Rattle.std.proofs.Common.{ℕ, List, ◌↔◌, ◌⊎◌, subst}
use Rattle.std.specs.Prelude.{Contains}
use Rattle.ux_monitor.specs.Steps.{Marks}
use Rattle.ux_monitor.proofs.FreeStepsLemmas.{reaches_only, marks_run}
use Rattle.ux_monitor.proofs.WordsLemmas.{both_ways}
use Rattle.ux_monitor.proofs.moving.marked_set.Goals as goal

pub returns : goal.returns
returns c =
    let steps = c.args.steps.now in
    let here = c.in_ok-here.here.items in
    let mark = c.args.mark in
    let ahead = c.push_marked.new.ahead.items in
    let more = subst (λ (xs : List ℕ). (k : ℕ) → Contains ahead k ↔
    (Contains c.new-ahead.result.items k ⊎ ((p : ℕ) × Contains xs p × Marks steps mark p k)))
    c.as_slice.ensures.value c.in_ok-push_marked.ensures in
    λ k. both_ways (c.in_ok-found.ensures k)
    (both_ways
    (reaches_only steps (λ a. (p : ℕ) × Contains here p × Marks steps mark p a)
    c.new-ahead.result.items ahead c.new-ahead.ensures.items more k)
    (marks_run steps c.args.from.now here c.in_ok-here.ensures mark c.requires k))
