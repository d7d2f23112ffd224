-- The order of a sentence's links. Public: the crate's public contracts speak of it.
use Rattle.std.specs.Prelude.{◌≡◌, List, AllPairs}
use Rattle.std.specs.declared.cmp.Ordering.{Ordering}
use Rattle.std.specs.declared.cmp.Ordering.TheVariants.{Less}
use Rattle.std.specs.Ordering.{nat_cmp, ordering_then}
use Rattle.std.specs.Cmp.Lexicographic.{slice_cmp}
use Rattle.ux_sentence.specs.Written.{reading_text}
use Rattle.ux_sentence.specs.declared.sentence.Link.{Link}

-- links are compared by the state that they leave, then by that to which they lead, and then by the
-- bytes of the printed reading
abbrev pub link_cmp : Link → Link → Ordering
link_cmp a b = ordering_then (nat_cmp a.from b.from) (ordering_then (nat_cmp a.to b.to)
    (slice_cmp nat_cmp (reading_text a.reading) (reading_text b.reading)))

-- the links are in this order, and none stands twice
abbrev pub AreInOrder : List Link → Type 0
AreInOrder links = AllPairs (λ a b. link_cmp a b ≡ Less) links
