-- The signs at which parts end are ASCII and no backslashes, so that a text may be cut at them.
use Rattle.std.proofs.Common.{arith, ◌≡◌, ℕ, ◌<◌, ◌≤◌, ◌+◌, List, [], ◌∷◌, true, false, inl, inr, refl, ◌∙◌, ap, subst, length, drop, get_or}
use Rattle.std.specs.Prelude.{◌==◌}
use Rattle.std.proofs.lemmas.Bool.{both_ways, or_cases, eqb-true, ne_eqb}
use Rattle.std.proofs.lemmas.List.{drop_more}
use Rattle.std.proofs.lemmas.Str.{IsCharBoundary-after_ascii}
use Rattle.std.specs.Str.{IsUtf8, IsCharBoundary}
use Rattle.ux_dela.specs.Signs.{BACKSLASH}
use Rattle.ux_dela.specs.Written.{is_end}
use Rattle.ux_dela.specs.Reading.{is_stop, sign_before, Begins, IsPartEnd}
use Rattle.ux_dela.specs.declared.codes.Kind.{Kind}
use Rattle.ux_dela.specs.declared.codes.Kind.TheVariants.{Sem, Infl, StemSem}
use Rattle.ux_dela.specs.declared.part.Stop.{Stop}
use Rattle.ux_dela.specs.declared.part.Stop.TheVariants.{Comma, Dot, Slash, Code, Colon, Plus, Equals, Brace}

pub stop_backslash : (stop : Stop) → is_stop stop BACKSLASH ≡ false
stop_backslash Comma = refl
stop_backslash Dot = refl
stop_backslash Slash = refl
stop_backslash Code = refl
stop_backslash Colon = refl
stop_backslash Plus = refl
stop_backslash Equals = refl
stop_backslash Brace = refl

pub stop_other : (stop : Stop) (b : ℕ) → is_stop stop b ≡ true → (b == BACKSLASH) ≡ false
stop_other stop b h =
    ne_eqb b BACKSLASH
    (λ e. both_ways (is_stop stop b) (ap (is_stop stop) e ∙ stop_backslash stop) h)

pub stop_ascii : (stop : Stop) (b : ℕ) → is_stop stop b ≡ true → b < 128
stop_ascii Comma b h = let e = eqb-true b 44 h in omega (arith, e)
stop_ascii Dot b h = let e = eqb-true b 46 h in omega (arith, e)
stop_ascii Slash b h = let e = eqb-true b 47 h in omega (arith, e)
stop_ascii Code b h =
    elim (or_cases (b == 43) (b == 58) h) [
      | inl l ↦ (let e = eqb-true b 43 l in omega (arith, e))
      | inr r ↦ (let e = eqb-true b 58 r in omega (arith, e))
    ]
stop_ascii Colon b h = let e = eqb-true b 58 h in omega (arith, e)
stop_ascii Plus b h = let e = eqb-true b 43 h in omega (arith, e)
stop_ascii Equals b h = let e = eqb-true b 61 h in omega (arith, e)
stop_ascii Brace b h =
    elim (or_cases (b == 123) (b == 125) h) [
      | inl l ↦ (let e = eqb-true b 123 l in omega (arith, e))
      | inr r ↦ (let e = eqb-true b 125 r in omega (arith, e))
    ]

end_ascii : (stop : Stop) (b : ℕ) → is_end (is_stop stop) b ≡ true → b < 128
end_ascii stop b h =
    elim (or_cases (b == BACKSLASH) (is_stop stop b) h) [
      | inl l ↦ (let e = eqb-true b BACKSLASH l in omega (arith, e))
      | inr r ↦ stop_ascii stop b r
    ]

-- what stands at the end of a part is ASCII
pub part_end_ascii : (stop : Stop) (b : ℕ) (rest : List ℕ) →
    IsPartEnd (is_stop stop) (b ∷ rest) → b < 128
part_end_ascii stop b [] h = end_ascii stop b h
part_end_ascii stop b (c ∷ rest) h = stop_ascii stop b h

pub part_end_at : (stop : Stop) (text : List ℕ) (end : ℕ) →
    IsPartEnd (is_stop stop) (drop end text) → end < length text → get_or text end 0 < 128
part_end_at stop text end h lt =
    part_end_ascii stop (get_or text end 0) (drop (end + 1) text)
    (subst (λ (t : List ℕ). IsPartEnd (is_stop stop) t) (drop_more text end 0 lt) h)

-- a text may be cut where a part ends
pub part_end_cut : (stop : Stop) (bytes text : List ℕ) (end : ℕ) → bytes ≡ text →
    end ≤ length bytes → IsPartEnd (is_stop stop) (drop end bytes) → IsCharBoundary text end
part_end_cut stop bytes text end is inside ends =
    subst (λ (t : List ℕ). IsCharBoundary t end) is (
      inside,
      λ lt high.
          (let small = part_end_at stop bytes end ends lt in absurd (omega (arith, small, high))),
    )

-- and behind the sign that ends it
pub part_end_behind : (stop : Stop) (bytes rest : List ℕ) → bytes ≡ rest → IsUtf8 bytes →
    0 < length bytes → IsPartEnd (is_stop stop) rest → IsCharBoundary rest 1
part_end_behind stop bytes [] is utf8 some ends =
    absurd (omega (arith, some, ap length is))
part_end_behind stop bytes (b ∷ rest) is utf8 some ends =
    IsCharBoundary-after_ascii (b ∷ rest) 0 (subst (λ (t : List ℕ). IsUtf8 t) is utf8)
    (omega arith) (part_end_ascii stop b rest ends)

-- a text may be cut behind an ASCII character in front
pub behind_first : (text : List ℕ) (byte : ℕ) → IsUtf8 text → Begins text byte → byte < 128 →
    IsCharBoundary text 1
behind_first [] byte utf8 begins small = absurd begins
behind_first (b ∷ text) byte utf8 begins small =
    IsCharBoundary-after_ascii (b ∷ text) 0 utf8 (omega arith) (omega (arith, begins))

pub sign_before_ascii : (kind : Kind) → sign_before kind < 128
sign_before_ascii Sem = omega arith
sign_before_ascii Infl = omega arith
sign_before_ascii StemSem = omega arith
