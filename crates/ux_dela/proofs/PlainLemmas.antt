-- What a text means, up to the first sign that isn't copied.
use Rattle.std.proofs.Common.{arith, ◌≡◌, ℕ, ◌<◌, ◌≤◌, ◌+◌, ◌-◌, List, [], ◌∷◌, ◌++◌, Bool, true, false, inl, inr, refl, sym, ◌∙◌, ap, subst, append_assoc, length, take, drop, get_or}
use Rattle.std.specs.Prelude.{◌==◌}
use Rattle.std.proofs.lemmas.Bool.{cond-false, cases_Bool, or_parts, or_cases, eqb-true}
use Rattle.std.proofs.lemmas.List.{append-nil, drop_all, drop_more, take_all, take_more, take_rest}
use Rattle.ux_dela.specs.Signs.{BACKSLASH, EQUALS, is_equals}
use Rattle.ux_dela.specs.Written.{meant_as}
use Rattle.ux_dela.specs.Reading.{characters_from, mark_in, is_sign_before, IsSignAt}
use Rattle.ux_dela.proofs.CharactersLemmas.{characters_bare}

-- what the text means from there on
abbrev pub means : ℕ → Bool → List ℕ → List ℕ
means sign p text = meant_as sign (characters_from p text)

copied_bare : (sign b : ℕ) (rest : List ℕ) → is_equals b ≡ false → (b == BACKSLASH) ≡ false →
    means sign false (b ∷ rest) ≡ b ∷ means sign false rest
copied_bare sign b rest e other =
    ap (meant_as sign) (characters_bare b rest other)
    ∙ ap (λ x. x ∷ means sign false rest) (cond-false (is_equals b) sign b e)

-- a byte that is no sign is copied
pub copied : (sign : ℕ) (p : Bool) (b : ℕ) (rest : List ℕ) →
    (p ≡ false → is_sign_before b rest ≡ false) →
    means sign p (b ∷ rest) ≡ b ∷ means sign false rest
copied sign true b rest h = refl
copied sign false b [] h =
    elim (cases_Bool (b == BACKSLASH)) [
      | inl is ↦ (
          ap (λ x. means sign false (x ∷ [])) (eqb-true b BACKSLASH is)
          ∙ ap (λ x. x ∷ []) (sym (eqb-true b BACKSLASH is)))
      | inr other ↦ copied_bare sign b [] (h refl) other
    ]
copied sign false b (c ∷ rest) h =
    let parts = or_parts (is_equals b) (b == BACKSLASH) (h refl) in
    copied_bare sign b (c ∷ rest) parts.0 parts.1

-- a mark means its sign
marks : (sign b : ℕ) (rest : List ℕ) → is_equals b ≡ true →
    means sign false (b ∷ rest) ≡ mark_in sign b ++ means sign (b == BACKSLASH) rest
marks sign b rest is =
    subst (λ (x : ℕ).
    means sign false (x ∷ rest) ≡ mark_in sign x ++ means sign (x == BACKSLASH) rest)
    (sym (eqb-true b EQUALS is)) refl

-- a backslash means nothing, and protects what stands behind it
protects : (sign b : ℕ) (rest : List ℕ) → (b == BACKSLASH) ≡ true →
    means sign false (b ∷ rest) ≡ mark_in sign b ++ means sign (b == BACKSLASH) rest
protects sign b rest is =
    subst (λ (x : ℕ).
    means sign false (x ∷ rest) ≡ mark_in sign x ++ means sign (x == BACKSLASH) rest)
    (sym (eqb-true b BACKSLASH is)) refl

at_sign : (sign b : ℕ) (rest : List ℕ) → is_sign_before b rest ≡ true →
    means sign false (b ∷ rest) ≡ mark_in sign b ++ means sign (b == BACKSLASH) rest
at_sign sign b [] h = marks sign b [] h
at_sign sign b (c ∷ rest) h =
    elim (or_cases (is_equals b) (b == BACKSLASH) h) [
      | inl l ↦ marks sign b (c ∷ rest) l
      | inr r ↦ protects sign b (c ∷ rest) r
    ]

sign_ascii : (b : ℕ) (rest : List ℕ) → is_sign_before b rest ≡ true → b < 128
sign_ascii b [] h = let e = eqb-true b EQUALS h in omega (arith, e)
sign_ascii b (c ∷ rest) h =
    elim (or_cases (is_equals b) (b == BACKSLASH) h) [
      | inl l ↦ (let e = eqb-true b EQUALS l in omega (arith, e))
      | inr r ↦ (let e = eqb-true b BACKSLASH r in omega (arith, e))
    ]

-- no sign so far: what the text means is what was copied, and what the rest means
abbrev pub IsCopiedTo : ℕ → Bool → List ℕ → ℕ → Bool → Type 0
IsCopiedTo sign p text place now =
    means sign p text ≡ take place text ++ means sign now (drop place text)

pub copied_more : (sign : ℕ) (p : Bool) (text : List ℕ) (place : ℕ) (now : Bool) →
    place < length text → IsCopiedTo sign p text place now →
    (now ≡ false → is_sign_before (get_or text place 0) (drop (place + 1) text) ≡ false) →
    IsCopiedTo sign p text (place + 1) false
copied_more sign p text place now lt so_far other =
    let b = get_or text place 0 in
    let rest = drop (place + 1) text in
    so_far
    ∙ ap (λ t. take place text ++ means sign now t) (drop_more text place 0 lt)
    ∙ ap (λ t. take place text ++ t) (copied sign now b rest other)
    ∙ sym (append_assoc (take place text) (b ∷ []) (means sign false rest))
    ∙ ap (λ t. t ++ means sign false rest) (sym (take_more text place 0 lt))

pub copied_to_sign : (sign : ℕ) (p : Bool) (text : List ℕ) (place : ℕ) →
    place < length text → IsCopiedTo sign p text place false →
    is_sign_before (get_or text place 0) (drop (place + 1) text) ≡ true →
    IsSignAt sign p text place
copied_to_sign sign p text place lt so_far is =
    let b = get_or text place 0 in
    let rest = drop (place + 1) text in
    record {
      inside = lt;
      is_sign = is;
      ascii = sign_ascii b rest is;
      cut = so_far
          ∙ ap (λ t. take place text ++ means sign false t) (drop_more text place 0 lt)
          ∙ ap (λ t. take place text ++ t) (at_sign sign b rest is);
    }

-- a backslash that protects isn't the last byte
pub some_behind : (b : ℕ) (rest : List ℕ) → is_sign_before b rest ≡ true →
    (b == BACKSLASH) ≡ true → 0 < length rest
some_behind b [] is e =
    let equals = eqb-true b EQUALS is in
    let backslash = eqb-true b BACKSLASH e in
    absurd (omega (arith, equals, backslash))
some_behind b (c ∷ rest) is e = omega arith

-- the text so far, and what the rest means
pub meant_more : (sign : ℕ) (p : Bool) (text rest whole added : List ℕ) (place : ℕ) →
    IsSignAt sign p rest place → text ++ means sign p rest ≡ whole →
    added ≡ text ++ (take place rest ++ mark_in sign (get_or rest place 0)) →
    added ++ means sign (get_or rest place 0 == BACKSLASH) (drop (place + 1) rest) ≡ whole
meant_more sign p text rest whole added place at so_far is =
    let b = get_or rest place 0 in
    let later = means sign (b == BACKSLASH) (drop (place + 1) rest) in
    ap (λ t. t ++ later) is
    ∙ append_assoc text (take place rest ++ mark_in sign b) later
    ∙ ap (λ t. text ++ t) (append_assoc (take place rest) (mark_in sign b) later ∙ sym at.cut)
    ∙ so_far

-- what a test of a byte and the slice behind it tells
pub sign_test : (text : List ℕ) (place : ℕ) (test answer : Bool) →
    test ≡ is_sign_before (get_or text place 0)
    (take (length text - (place + 1)) (drop (place + 1) text)) → test ≡ answer →
    is_sign_before (get_or text place 0) (drop (place + 1) text) ≡ answer
sign_test text place test answer e is =
    ap (is_sign_before (get_or text place 0)) (sym (take_rest text (place + 1))) ∙ sym e ∙ is

-- where no sign stands, all is copied
pub copied_all : (sign : ℕ) (p : Bool) (text : List ℕ) (place : ℕ) (now : Bool) →
    length text ≤ place → now ≡ false → IsCopiedTo sign p text place now → means sign p text ≡ text
copied_all sign p text place now end is so_far =
    so_far
    ∙ ap (λ t. take place text ++ means sign now t) (drop_all place text end)
    ∙ ap (λ t. take place text ++ means sign t []) is
    ∙ append-nil (take place text) ∙ take_all place text end
