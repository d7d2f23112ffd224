use Rattle.std.specs.Prelude.{◌≡◌, ◌⊎◌, Contains}
use Rattle.ux_outputs.specs.declared.hit.Hit.{Hit}
use Rattle.ux_locate.proofs.PassLemmas.{IsPending}
use Rattle.ux_locate.proofs.keeping.kept_of.Given as goal

-- the hits so far begin with the token or before it, and one of them with it
abbrev pub invariant-loop-hit : goal.invariant-loop-hit
invariant-loop-hit l = record {
  pending : IsPending l.policy l.yielded l.first l.kept.items l.best.items;
  from : (l.first ≡ 0) ⊎ ((x : Hit) × Contains l.yielded x × (x.first ≡ l.first));
}
