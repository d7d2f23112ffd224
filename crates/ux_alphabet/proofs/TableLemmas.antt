-- A table of the spans of the lines is one of the letters.
use Rattle.std.proofs.Common.{arith, ◌≡◌, ◌↔◌, ℕ, ◌≤◌, List, map, Bool, false, get_or, subst, inl, inr}
use Rattle.std.specs.Prelude.{IsTrue}
use Rattle.ux_alphabet.specs.Letters.{letters_of, IsUpper, IsLower, IsLetter, NamesUpper, NamesLower}
use Rattle.ux_alphabet.specs.Spans.{upper_span, lower_span, Holds, IsTableOf}
use Rattle.ux_alphabet.specs.Tables.{IsEither}
use Rattle.ux_alphabet.specs.declared.line.Line.{Line}
use Rattle.ux_alphabet.specs.declared.line.Line.TheVariants.{Single, Pair, Range}
use Rattle.ux_alphabet.specs.declared.spans.Span.{Span}
use Rattle.ux_alphabet.proofs.AnyLemmas.{Any-map}

only : (letter c : ℕ) → ((letter ≤ c) × (c ≤ letter)) ↔ (c ≡ letter)
only letter c = (λ h. omega (arith, h.0, h.1), λ e. (omega (arith, e), omega (arith, e)))

upper_span-names : (c : ℕ) (line : Line) → Holds c (upper_span line) ↔ NamesUpper line c
upper_span-names c (Single letter) = only letter c
upper_span-names c (Pair upper lower) = only upper c
upper_span-names c (Range first last) = (λ h. h, λ h. h)

lower_span-names : (c : ℕ) (line : Line) → Holds c (lower_span line) ↔ NamesLower line c
lower_span-names c (Single letter) = only letter c
lower_span-names c (Pair upper lower) = only lower c
lower_span-names c (Range first last) = (λ h. h, λ h. h)

pub IsUpper-table : (lines : List Line) (spans : List Span) (table : List Bool) →
    spans ≡ map upper_span lines →
    IsTableOf spans table → (c : ℕ) → IsTrue (get_or table c false) ↔ IsUpper (letters_of lines) c
IsUpper-table lines spans table are is c =
    let mark = subst (λ (s : List Span). IsTableOf s table) are is c in
    let names = Any-map upper_span (Holds c) (λ line. NamesUpper line c)
    (upper_span-names c) lines in
    (λ t. let m = mark.0 t in (m.0, names.0 m.1), λ u. mark.1 (u.0, names.1 u.1))

pub IsLower-table : (lines : List Line) (spans : List Span) (table : List Bool) →
    spans ≡ map lower_span lines →
    IsTableOf spans table → (c : ℕ) → IsTrue (get_or table c false) ↔ IsLower (letters_of lines) c
IsLower-table lines spans table are is c =
    let mark = subst (λ (s : List Span). IsTableOf s table) are is c in
    let names = Any-map lower_span (Holds c) (λ line. NamesLower line c)
    (lower_span-names c) lines in
    (λ t. let m = mark.0 t in (m.0, names.0 m.1), λ l. mark.1 (l.0, names.1 l.1))

pub IsLetter-table : (lines : List Line) (upper lower letter : List Bool) →
    ((c : ℕ) → IsTrue (get_or upper c false) ↔ IsUpper (letters_of lines) c) →
    ((c : ℕ) → IsTrue (get_or lower c false) ↔ IsLower (letters_of lines) c) →
    IsEither upper lower letter → (c : ℕ) → IsTrue (get_or letter c false) ↔ IsLetter (letters_of lines) c
IsLetter-table lines upper lower letter uppers lowers either c = (
  λ t. elim ((either c).0 t) [
    | inl u ↦ inl ((uppers c).0 u)
    | inr l ↦ inr ((lowers c).0 l)
  ],
  λ letter. (either c).1 (elim letter [
    | inl u ↦ inl ((uppers c).1 u)
    | inr l ↦ inr ((lowers c).1 l)
  ]),
)
