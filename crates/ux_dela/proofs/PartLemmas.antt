-- The first part of a text, one character after the other.
use Rattle.std.proofs.Common.{arith, ◌≡◌, ℕ, ◌<◌, ◌≤◌, ◌+◌, List, [], ◌∷◌, ◌++◌, Bool, false, inl, inr, sym, ◌∙◌, ap, subst, length, take, drop, get_or}
use Rattle.std.specs.Prelude.{◌==◌, if◌then◌else◌}
use Rattle.std.proofs.lemmas.Bool.{cond-false, cond-true, cases_Bool, or_parts, eqb-true, false_from_ne_true, or_from}
use Rattle.std.proofs.lemmas.List.{take-append-drop, drop-take, take-take, get_or-drop, length-drop}
use Rattle.ux_dela.specs.Signs.{BACKSLASH}
use Rattle.ux_dela.specs.Written.{Written, IsPart, is_end}
use Rattle.ux_dela.specs.Reading.{characters, IsPartEnd}
use Rattle.ux_dela.proofs.CharactersLemmas.{IsPart-append, characters-append, characters_bare}

-- how many bytes a character takes that begins with this byte, if it is ASCII
abbrev pub character_len : ℕ → ℕ
character_len b = if b == BACKSLASH then 2 else 1

-- a part goes on with what is a part
longer : (stops : ℕ → Bool) (front more : List ℕ) → IsPart stops (characters front) →
    IsPart stops (characters more) → IsPart stops (characters (front ++ more))
longer stops front more p q =
    subst (λ (w : List Written). IsPart stops w) (sym (characters-append stops front more p))
    (IsPart-append stops (characters front) (characters more) p q)

one_bare : (stops : ℕ → Bool) (b : ℕ) → is_end stops b ≡ false → IsPart stops (characters (b ∷ []))
one_bare stops b e =
    let other : (b == BACKSLASH) ≡ false = (or_parts (b == BACKSLASH) (stops b) e).0 in
    subst (λ (w : List Written). IsPart stops w) (sym (characters_bare b [] other)) (e, tt)

one_protected : (stops : ℕ → Bool) (b c : ℕ) → b ≡ BACKSLASH →
    IsPart stops (characters (b ∷ (c ∷ [])))
one_protected stops b c e =
    subst (λ (x : ℕ). IsPart stops (characters (x ∷ (c ∷ [])))) (sym e) tt

-- a part that doesn't end goes on with one character
next_character : (stops : ℕ → Bool) (front rest : List ℕ) → IsPart stops (characters front) →
    (IsPartEnd stops rest → ⊥) →
    (character_len (get_or rest 0 0) ≤ length rest)
    × IsPart stops (characters (front ++ take (character_len (get_or rest 0 0)) rest))
next_character stops front [] p goes_on = absurd (goes_on tt)
next_character stops front (b ∷ []) p goes_on =
    let e : is_end stops b ≡ false = false_from_ne_true (is_end stops b) goes_on in
    let other : (b == BACKSLASH) ≡ false = (or_parts (b == BACKSLASH) (stops b) e).0 in
    let one : character_len b ≡ 1 = cond-false (b == BACKSLASH) 2 1 other in
    subst (λ (n : ℕ). (n ≤ 1) × IsPart stops (characters (front ++ take n (b ∷ [])))) (sym one)
    (omega arith, longer stops front (b ∷ []) p (one_bare stops b e))
next_character stops front (b ∷ (c ∷ rest)) p goes_on =
    elim (cases_Bool (b == BACKSLASH)) [
      | inl is ↦ (
          let two : character_len b ≡ 2 = cond-true (b == BACKSLASH) 2 1 is in
          subst (λ (n : ℕ). (n ≤ length (b ∷ (c ∷ rest)))
          × IsPart stops (characters (front ++ take n (b ∷ (c ∷ rest))))) (sym two) (
            omega arith,
            longer stops front (b ∷ (c ∷ [])) p
                (one_protected stops b c (eqb-true b BACKSLASH is)),
          ))
      | inr other ↦ (
          let one : character_len b ≡ 1 = cond-false (b == BACKSLASH) 2 1 other in
          let e : is_end stops b ≡ false =
          or_from (b == BACKSLASH) (stops b) other (false_from_ne_true (stops b) goes_on) in
          subst (λ (n : ℕ). (n ≤ length (b ∷ (c ∷ rest)))
          × IsPart stops (characters (front ++ take n (b ∷ (c ∷ rest))))) (sym one)
          (omega arith, longer stops front (b ∷ []) p (one_bare stops b e)))
    ]

take_further : (text : List ℕ) (place n : ℕ) →
    take place text ++ take n (drop place text) ≡ take (place + n) text
take_further text place n =
    let less : place ≤ place + n = omega arith in
    ap (λ t. take place text ++ t) (sym (drop-take place n text))
    ∙ ap (λ t. t ++ drop place (take (place + n) text))
    (sym (take-take place (place + n) text less))
    ∙ take-append-drop place (take (place + n) text)

add_zero : (n : ℕ) → n + 0 ≡ n
add_zero n = omega arith

some_there : (stops : ℕ → Bool) (rest : List ℕ) → (IsPartEnd stops rest → ⊥) → 0 < length rest
some_there stops [] goes_on = absurd (goes_on tt)
some_there stops (b ∷ rest) goes_on = omega arith

-- a part of which so many bytes are read goes on with the character that stands there
pub part_step : (stops : ℕ → Bool) (text : List ℕ) (place n : ℕ) → place ≤ length text →
    IsPart stops (characters (take place text)) → (IsPartEnd stops (drop place text) → ⊥) →
    n ≡ character_len (get_or text place 0) →
    (place + n ≤ length text) × IsPart stops (characters (take (place + n) text))
part_step stops text place n inside p goes_on is =
    let there : get_or (drop place text) 0 0 ≡ get_or text place 0 =
    get_or-drop place text 0 0 ∙ ap (λ k. get_or text k 0) (add_zero place) in
    let len : character_len (get_or (drop place text) 0 0) ≡ n = ap character_len there ∙ sym is in
    let next = next_character stops (take place text) (drop place text) p goes_on in
    let fits : n ≤ length (drop place text) =
    subst (λ (k : ℕ). k ≤ length (drop place text)) len next.0 in
    let part : IsPart stops (characters (take place text ++ take n (drop place text))) =
    subst (λ (k : ℕ). IsPart stops (characters (take place text ++ take k (drop place text)))) len
    next.1 in (
      omega (arith, length-drop place text),
      subst (λ (t : List ℕ). IsPart stops (characters t)) (take_further text place n) part,
    )

-- there is a character where the part doesn't end
pub part_more : (stops : ℕ → Bool) (text : List ℕ) (place : ℕ) → place ≤ length text →
    (IsPartEnd stops (drop place text) → ⊥) → place < length text
part_more stops text place inside goes_on =
    let some = some_there stops (drop place text) goes_on in
    omega (arith, length-drop place text)
