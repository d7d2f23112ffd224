use Rattle.std.proofs.Common.{◌≡◌, ◌∷◌, [], take}
use Rattle.std.specs.Prelude.{Contains}
use Rattle.ux_walk.specs.Joins.{AreListed, Joins}
use Rattle.ux_walk.proofs.joining.join_each.Given as goal

-- the caller goes on behind the derivations so far
abbrev pub invariant-loop-found : goal.invariant-loop-found
invariant-loop-found l = AreListed l.fn.events.links.keys (l.waiting ∷ []) l.derived →
    Joins (λ w f. (w ≡ l.waiting) × Contains (take l.found-index l.derived) f)
    l.fn.events.links.keys l.events.links.keys l.fn.configs.keys l.configs.keys
