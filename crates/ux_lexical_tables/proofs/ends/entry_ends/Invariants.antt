use Rattle.std.proofs.Common.{◌≡◌, ◌+◌, take}
use Rattle.ux_lexical_tables.specs.Ends.{AreEndsTo, Asks, EndsBy, HasSo}
use Rattle.ux_lexical_tables.proofs.ends.entry_ends.Given as goal

-- the positions are those of the entries so far
abbrev pub invariant-loop-last : goal.invariant-loop-last
invariant-loop-last l =
    AreEndsTo l.i l.told
    (EndsBy (Asks l.asked) (λ k. HasSo (Asks l.asked) l.simple × (k ≡ l.i + 1))
    (take l.last-index l.compounds)) l.ends.items
