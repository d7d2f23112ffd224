use Rattle.std.proofs.Common.{ℕ, take}
use Rattle.std.specs.Prelude.{Contains}
use Rattle.ux_listing.specs.Sets.{Adds}
use Rattle.ux_listing.proofs.marking.add_all.Given as goal

-- the numbers so far were added
abbrev pub invariant-loop-item : goal.invariant-loop-item
invariant-loop-item l = record {
  adds : Adds (Contains (take l.item-index l.numbers)) l.fn.marked.keys l.marked.keys;
  has : (n : ℕ) → Contains (take l.item-index l.numbers) n → Contains l.marked.keys n;
}
