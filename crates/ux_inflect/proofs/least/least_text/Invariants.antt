use Rattle.std.proofs.Common.{◌≡◌, ℕ, ◌<◌, [], get_or, length}
use Rattle.std.specs.Prelude.{Contains}
use Rattle.ux_inflect.specs.Ways.{lists_in, lists_of, IsBestAt}
use Rattle.ux_inflect.proofs.least.least_text.Given as goal

-- the nodes of the turns so far have their texts
abbrev pub invariant-loop-turn : goal.invariant-loop-turn
invariant-loop-turn l = (length l.best.items ≡ length l.links)
    × ((j u : ℕ) → j < l.turn → Contains (get_or (lists_in l.turns.items) j []) u →
    IsBestAt (lists_of l.links) l.wanted l.best.items u)
