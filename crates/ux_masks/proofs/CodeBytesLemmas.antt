-- Whether a name is a code is seen at its bytes.
use Rattle.std.proofs.Common.{arith, ◌<◌, ◌≤◌, length, get_or, ◌≡◌, ℕ, List, [], ◌∷◌, Bool, true, false, inl, inr, refl, sym, ◌∙◌, ap, subst}
use Rattle.std.specs.Prelude.{◌==◌, ◌&&◌, ◌||◌, nat_le, All}
use Rattle.std.proofs.lemmas.Bool.{both_ways, and_from, and_parts, cases_Bool, eqb-true, ne_eqb}
use Rattle.std.proofs.lemmas.List.Elements.{All-nil, All-cons, All-head, All-tail}
use Rattle.ux_dela.specs.Signs.{BACKSLASH}
use Rattle.ux_dela.specs.Reading.{characters}
use Rattle.ux_dela.proofs.CharactersLemmas.{characters_bare}
use Rattle.ux_masks.specs.Signs.{is_capital, is_code_character}
use Rattle.ux_masks.specs.Pieces.{are_code_bare, is_code_name}

or_left : (a b d : Bool) → a ≡ true → (a || b || d) ≡ true
or_left a b d is = ap (λ t. t || b || d) is

abbrev pub IsCodeByte : ℕ → Type 0
IsCodeByte b = is_code_character b ≡ true

code_other : (b : ℕ) → is_code_character b ≡ true → (b == BACKSLASH) ≡ false
code_other b is = ne_eqb b BACKSLASH (λ e. both_ways (is_code_character b) (ap is_code_character e) is)

capital_other : (b : ℕ) → is_capital b ≡ true → (b == BACKSLASH) ≡ false
capital_other b is = ne_eqb b BACKSLASH (λ e. both_ways (is_capital b) (ap is_capital e) is)

pub code_bytes : (text : List ℕ) → All IsCodeByte text → are_code_bare (characters text) ≡ true
code_bytes [] are = refl
code_bytes (b ∷ text) are =
    let is = All-head IsCodeByte b text are in
    ap are_code_bare (characters_bare b text (code_other b is))
    ∙ and_from (is_code_character b) (are_code_bare (characters text)) is
    (code_bytes text (All-tail IsCodeByte b text are))

at_backslash : (text : List ℕ) → are_code_bare (characters (BACKSLASH ∷ text)) ≡ false
at_backslash [] = refl
at_backslash (c ∷ text) = refl

pub code_bytes_back : (text : List ℕ) → are_code_bare (characters text) ≡ true →
    All IsCodeByte text
code_bytes_back [] are = All-nil IsCodeByte
code_bytes_back (b ∷ text) are =
    elim (cases_Bool (b == BACKSLASH)) [
      | inl is ↦ absurd (both_ways (are_code_bare (characters (b ∷ text)))
          (ap (λ x. are_code_bare (characters (x ∷ text))) (eqb-true b BACKSLASH is)
          ∙ at_backslash text) are)
      | inr other ↦ (
          let both = and_parts (is_code_character b) (are_code_bare (characters text))
          (sym (ap are_code_bare (characters_bare b text other)) ∙ are) in
          All-cons IsCodeByte b text both.0 (code_bytes_back text both.1))
    ]

same_bool : (s t : Bool) → (s ≡ true → t ≡ true) → (t ≡ true → s ≡ true) → s ≡ t
same_bool true t f g = sym (f refl)
same_bool false true f g = g refl
same_bool false false f g = refl

-- a name that begins with a capital letter is a code where its bytes allow it
pub is_code_at : (text : List ℕ) (answer : Bool) → 0 < length text →
    is_capital (get_or text 0 0) ≡ true → (answer ≡ true → All IsCodeByte text) →
    (All IsCodeByte text → answer ≡ true) → answer ≡ is_code_name (characters text)
is_code_at [] answer some is back there = absurd (omega (arith, some))
is_code_at (b ∷ text) answer some is back there =
    let e : is_code_name (characters (b ∷ text)) ≡ (is_capital b && are_code_bare (characters text)) =
    ap is_code_name (characters_bare b text (capital_other b is)) in
    same_bool answer (is_code_name (characters (b ∷ text)))
    (λ h. e ∙ and_from (is_capital b) (are_code_bare (characters text)) is
    (code_bytes text (All-tail IsCodeByte b text (back h))))
    (λ h. there (All-cons IsCodeByte b text (or_left (is_capital b) (nat_le 48 b && nat_le b 57) (b == 95) is)
    (code_bytes_back text
    (and_parts (is_capital b) (are_code_bare (characters text)) (sym e ∙ h)).1)))

no_code_backslash : (text : List ℕ) → is_code_name (characters (BACKSLASH ∷ text)) ≡ false
no_code_backslash [] = refl
no_code_backslash (c ∷ text) = refl

-- and no other is
pub no_code_at : (text : List ℕ) → 0 < length text → is_capital (get_or text 0 0) ≡ false →
    false ≡ is_code_name (characters text)
no_code_at [] some not = absurd (omega (arith, some))
no_code_at (b ∷ text) some not =
    elim (cases_Bool (b == BACKSLASH)) [
      | inl is ↦ sym (ap (λ x. is_code_name (characters (x ∷ text))) (eqb-true b BACKSLASH is)
          ∙ no_code_backslash text)
      | inr other ↦ sym (ap is_code_name (characters_bare b text other)
          ∙ ap (λ t. t && are_code_bare (characters text)) not)
    ]

pub is_code_of : (bytes later text : List ℕ) (answer : Bool) → bytes ≡ text → later ≡ text →
    1 ≤ length bytes → is_capital (get_or bytes 0 0) ≡ true →
    (answer ≡ true → All IsCodeByte later) → (All IsCodeByte later → answer ≡ true) →
    answer ≡ is_code_name (characters text)
is_code_of bytes later text answer e f some is back there =
    let some' : 0 < length text = omega (arith, ap length e) in
    is_code_at text answer some' (ap (λ t. is_capital (get_or t 0 0)) (sym e) ∙ is)
    (λ h. subst (All IsCodeByte) f (back h)) (λ h. there (subst (All IsCodeByte) (sym f) h))

pub no_code_of : (bytes text : List ℕ) (answer : Bool) → bytes ≡ text → 1 ≤ length bytes →
    answer ≡ is_capital (get_or bytes 0 0) → answer ≡ false → answer ≡ is_code_name (characters text)
no_code_of bytes text answer e some is not =
    let some' : 0 < length text = omega (arith, ap length e) in
    not ∙ no_code_at text some' (ap (λ t. is_capital (get_or t 0 0)) (sym e) ∙ sym is ∙ not)
