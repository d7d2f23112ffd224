-- Which hits of small sets each policy keeps.
use Rattle.std.proofs.Common.{arith, ◌≡◌, ◌<◌, ◌≤◌, List, [], ◌∷◌, codes, refl}
use Rattle.std.specs.Prelude.{Contains}
use Rattle.std.proofs.lemmas.List.Elements.{All-contains, All-from_recursion, Contains-push}
use Rattle.ux_base.specs.declared.settings.Policy.TheVariants.{Shortest, Longest, All}
use Rattle.ux_outputs.specs.declared.hit.Hit.{Hit}
use Rattle.ux_locate.specs.Policies.{Keeps}

-- in the text `a a`, the first token, both, and the last
abbrev front : Hit
front = record { first = 0; last = 0; text = codes "a" }

abbrev both : Hit
both = record { first = 0; last = 2; text = codes "a a" }

abbrev back : Hit
back = record { first = 2; last = 2; text = codes "a" }

abbrev hits : List Hit
hits = front ∷ both ∷ back ∷ []

abbrev IsOne : Hit → Type 0
IsOne hit = Contains hits hit

has_front : IsOne front
has_front = (0, omega arith, refl)

has_both : IsOne both
has_both = (1, omega arith, refl)

has_back : IsOne back
has_back = (2, omega arith, refl)

-- each of the three is so
of_each : (P : Hit → Type 0) → P front → P both → P back → (hit : Hit) → IsOne hit → P hit
of_each P f b l hit c = All-contains P hits hit (All-from_recursion P hits (f, (b, (l, tt)))) c

-- the longest hit is kept
longest_kept : Keeps Longest IsOne (both ∷ []) both
longest_kept = (
  has_both,
  of_each (λ other. other.first ≡ 0 → other.last ≤ 2) (λ same. omega arith) (λ same. omega arith)
      (λ same. omega arith),
  λ other c lt. absurd (omega (arith, lt)),
)

-- one that begins with it is shorter
shorter_dropped : Keeps Longest IsOne (both ∷ []) front → ⊥
shorter_dropped k = let le = k.1 both has_both refl in omega (arith, le)

-- and one that begins inside it is left out
inside_dropped : Keeps Longest IsOne (both ∷ []) back → ⊥
inside_dropped k = let lt = k.2 both (Contains-push [] both) (omega arith) in omega (arith, lt)

-- the shortest one leaves room for the next
next_kept : Keeps Shortest IsOne (front ∷ back ∷ []) back
next_kept = (
  has_back,
  of_each (λ other. other.first ≡ 2 → 2 ≤ other.last) (λ same. absurd (omega (arith, same)))
      (λ same. omega arith) (λ same. omega arith),
  λ other c lt.
      let P : Hit → Type 0 = λ x. x.first < 2 → x.last < 2 in
      All-contains P (front ∷ back ∷ []) other (All-from_recursion P (front ∷ back ∷ [])
      (λ low. omega arith, (λ low. absurd (omega (arith, low)), tt))) c lt,
)

longer_dropped : Keeps Shortest IsOne (front ∷ back ∷ []) both → ⊥
longer_dropped k = let le = k.1 front has_front refl in omega (arith, le)

-- all are kept
all_kept : Keeps All IsOne hits back
all_kept = has_back

-- `a b` and `b c` in `a b c`: the second begins with the last token of the first
abbrev early : Hit
early = record { first = 0; last = 2; text = codes "a b" }

abbrev late : Hit
late = record { first = 2; last = 4; text = codes "b c" }

overlapping_dropped : Keeps Shortest (Contains (early ∷ late ∷ [])) (early ∷ []) late → ⊥
overlapping_dropped k =
    let lt = k.2 early (Contains-push [] early) (omega arith) in omega (arith, lt)
