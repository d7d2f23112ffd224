-- Pairs of positions between which the main graph is found. Inner: the crate's own functions alone
-- speak of it.
use Rattle.std.specs.Prelude.{◌≡◌, ◌↔◌, ◌⊎◌, ℕ, ◌<◌, Bool, List, AllPairs, Contains, IsTrue, get_or}
use Rattle.ux_tfst_locate.specs.declared.lattice.Place.{Place}
use Rattle.ux_tfst_locate.specs.declared.listing.Stretch.{Stretch}
use Rattle.ux_tfst_locate.specs.declared.span.Span.{Span}
use Rattle.ux_tfst_locate.specs.Reaching.{is_marked}

-- one stretch stands before another: by where it begins, then by where it ends
abbrev pub ComesFirst : Stretch → Stretch → Type 0
ComesFirst one other =
    (one.from < other.from) ⊎ ((one.from ≡ other.from) × (one.to < other.to))

-- the stretch leads on between these ends, and lies on a path, as these marks tell
pub record IsFound (reached leading : List Bool) (Ends : (from to : ℕ) → Type 0)
    (stretch : Stretch) : Type 0 where
  pub some : stretch.from < stretch.to
  pub is_reached : IsTrue (is_marked reached stretch.from)
  pub is_leading : IsTrue (is_marked leading stretch.to)
  pub ends : Ends stretch.from stretch.to

-- the stretches stand in order, and begin before a position
pub record AreListedTo (from : ℕ) (stretches : List Stretch) : Type 0 where
  pub ascend : AllPairs ComesFirst stretches
  pub below : (stretch : Stretch) → Contains stretches stretch → stretch.from < from

-- exactly the stretches that are so, in order, each once
pub record AreListed (IsSo : Stretch → Type 0) (stretches : List Stretch) : Type 0 where
  pub ascend : AllPairs ComesFirst stretches
  pub exact : (stretch : Stretch) → Contains stretches stretch ↔ IsSo stretch

-- the place at a position of the list
abbrev pub place_at : List Place → ℕ → Place
place_at places i = get_or places i (record { sentence = 0; state = 0; last = 0 })

-- the span of a stretch between these places
abbrev pub span_of : List Place → Stretch → Span
span_of places stretch = record {
  sentence = (place_at places stretch.from).sentence;
  from = (place_at places stretch.from).state;
  to = (place_at places stretch.to).state;
}
