-- What a name means, up to the first backslash that protects.
use Rattle.std.proofs.Common.{arith, ◌≡◌, ℕ, ◌<◌, ◌≤◌, ◌+◌, ◌-◌, List, [], ◌∷◌, ◌++◌, Bool, true, false, inl, inr, refl, sym, ◌∙◌, ap, subst, append_assoc, length, take, drop, get_or, length-drop}
use Rattle.std.specs.Prelude.{◌==◌}
use Rattle.std.proofs.lemmas.Bool.{cond-false, cond-true, cases_Bool, eqb-true}
use Rattle.std.proofs.lemmas.List.{append-nil, drop_all, drop_more, take_all, take_more, take_rest}
use Rattle.std.specs.Str.{IsUtf8, IsCharBoundary}
use Rattle.std.proofs.lemmas.Str.{IsCharBoundary-after_ascii}
use Rattle.ux_dela.specs.Signs.{BACKSLASH, EQUALS, is_equals}
use Rattle.ux_dela.specs.Written.{meant, byte_as}
use Rattle.ux_dela.proofs.CharactersLemmas.{characters_bare}
use Rattle.ux_masks.specs.Names.{protects, means, IsBackslashAt}

-- `=` is a character as any other
as_itself : (b : ℕ) → byte_as EQUALS b ≡ b
as_itself b =
    elim (cases_Bool (is_equals b)) [
      | inl is ↦ cond-true (is_equals b) EQUALS b is ∙ sym (eqb-true b EQUALS is)
      | inr other ↦ cond-false (is_equals b) EQUALS b other
    ]

copied_bare : (b : ℕ) (rest : List ℕ) → (b == BACKSLASH) ≡ false →
    means false (b ∷ rest) ≡ b ∷ means false rest
copied_bare b rest other =
    ap meant (characters_bare b rest other) ∙ ap (λ x. x ∷ means false rest) (as_itself b)

-- a byte that protects nothing is copied
copied : (p : Bool) (b : ℕ) (rest : List ℕ) → (p ≡ false → protects b rest ≡ false) →
    means p (b ∷ rest) ≡ b ∷ means false rest
copied true b rest h = refl
copied false b [] h =
    elim (cases_Bool (b == BACKSLASH)) [
      | inl is ↦ (
          ap (λ x. means false (x ∷ [])) (eqb-true b BACKSLASH is)
          ∙ ap (λ x. x ∷ []) (sym (eqb-true b BACKSLASH is)))
      | inr other ↦ copied_bare b [] other
    ]
copied false b (c ∷ rest) h = copied_bare b (c ∷ rest) (h refl)

-- no backslash so far: what the text means is what was copied, and what the rest means
abbrev pub IsCopiedTo : Bool → List ℕ → ℕ → Bool → Type 0
IsCopiedTo p text place now = means p text ≡ take place text ++ means now (drop place text)

pub copied_more : (p : Bool) (text : List ℕ) (place : ℕ) (now : Bool) → place < length text →
    IsCopiedTo p text place now →
    (now ≡ false → protects (get_or text place 0) (drop (place + 1) text) ≡ false) →
    IsCopiedTo p text (place + 1) false
copied_more p text place now lt so_far other =
    let b = get_or text place 0 in
    let rest = drop (place + 1) text in
    so_far
    ∙ ap (λ t. take place text ++ means now t) (drop_more text place 0 lt)
    ∙ ap (λ t. take place text ++ t) (copied now b rest other)
    ∙ sym (append_assoc (take place text) (b ∷ []) (means false rest))
    ∙ ap (λ t. t ++ means false rest) (sym (take_more text place 0 lt))

some_behind : (b : ℕ) (rest : List ℕ) → protects b rest ≡ true →
    (0 < length rest) × (b ≡ BACKSLASH)
some_behind b [] is = absurd (let e : false ≡ true = is in cc)
some_behind b (c ∷ rest) is = (omega arith, eqb-true b BACKSLASH is)

at_backslash : (b : ℕ) (rest : List ℕ) → b ≡ BACKSLASH → means false (b ∷ rest) ≡ means true rest
at_backslash b rest is = ap (λ x. means false (x ∷ rest)) is

pub copied_to_backslash : (p : Bool) (text : List ℕ) (place : ℕ) → place < length text →
    IsCopiedTo p text place false →
    protects (get_or text place 0) (drop (place + 1) text) ≡ true → IsBackslashAt p text place
copied_to_backslash p text place lt so_far is =
    let b = get_or text place 0 in
    let rest = drop (place + 1) text in
    let both = some_behind b rest is in
    let long = both.0 in
    let same = both.1 in
    record {
      inside = omega (arith, long, length-drop (place + 1) text);
      ascii = omega (arith, same);
      cut = so_far
          ∙ ap (λ t. take place text ++ means false t) (drop_more text place 0 lt)
          ∙ ap (λ t. take place text ++ t) (at_backslash b rest same);
    }

-- what a test of a byte and the slice behind it tells
pub protects_test : (text : List ℕ) (place : ℕ) (test answer : Bool) →
    test ≡ protects (get_or text place 0)
    (take (length text - (place + 1)) (drop (place + 1) text)) → test ≡ answer →
    protects (get_or text place 0) (drop (place + 1) text) ≡ answer
protects_test text place test answer e is =
    ap (protects (get_or text place 0)) (sym (take_rest text (place + 1))) ∙ sym e ∙ is

-- where no backslash protects, all is copied
pub copied_all : (p : Bool) (text : List ℕ) (place : ℕ) (now : Bool) → length text ≤ place →
    now ≡ false → IsCopiedTo p text place now → means p text ≡ text
copied_all p text place now end is so_far =
    so_far
    ∙ ap (λ t. take place text ++ means now t) (drop_all place text end)
    ∙ ap (λ t. take place text ++ means t []) is
    ∙ append-nil (take place text) ∙ take_all place text end

-- the text so far, and what the rest means
pub meant_more : (p : Bool) (text rest whole added : List ℕ) (place : ℕ) →
    IsBackslashAt p rest place → text ++ means p rest ≡ whole → added ≡ text ++ take place rest →
    added ++ means true (drop (place + 1) rest) ≡ whole
meant_more p text rest whole added place at so_far is =
    let later = means true (drop (place + 1) rest) in
    ap (λ t. t ++ later) is
    ∙ append_assoc text (take place rest) later
    ∙ ap (λ t. text ++ t) (sym at.cut)
    ∙ so_far

-- a text may be cut behind a backslash that protects
pub cut_behind : (p : Bool) (bytes rest : List ℕ) (place : ℕ) → bytes ≡ rest → IsUtf8 bytes →
    IsBackslashAt p bytes place → IsCharBoundary rest (place + 1)
cut_behind p bytes rest place is utf8 at =
    let long = at.inside in
    subst (λ (t : List ℕ). IsCharBoundary t (place + 1)) is
    (IsCharBoundary-after_ascii bytes place utf8 (omega (arith, long)) at.ascii)
