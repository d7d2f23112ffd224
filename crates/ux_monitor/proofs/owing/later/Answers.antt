use Rattle.std.proofs.Common.{ℕ, List, subst, ◌↔◌}
use Rattle.std.specs.Prelude.{Contains}
use Rattle.ux_monitor.specs.Monitor.{Moves}
use Rattle.ux_monitor.specs.Steps.{Among}
use Rattle.ux_monitor.proofs.owing.later.Goals as goal

pub returns : goal.returns
returns c =
    let steps = c.args.steps.now in
    let ends = c.args.ends.now in
    let passed = c.args.passed.now.keys in
    let Moved : List ℕ → ℕ → Type 0 =
    λ xs k. (p : ℕ) × Contains xs p × Moves steps ends (Among passed) p 0 k in
    record {
      unpaid = c.requires;
      found = c.in_ok-found.ensures;
      ifs = subst (λ (xs : List ℕ). (k : ℕ) → Contains c.in_ok-ifs.ifs.items k ↔ Moved xs k)
          c.as_slice.ensures.value c.in_ok-ifs.ensures;
      thens = subst (λ (xs : List ℕ). (k : ℕ) → Contains c.in_ok-thens.thens.items k ↔ Moved xs k)
          c.as_slice-2.ensures.value c.in_ok-thens.ensures;
    }
