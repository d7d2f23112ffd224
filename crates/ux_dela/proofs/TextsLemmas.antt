-- Texts that stand one behind the other are told by their ends: each by itself, and all of them.
use Rattle.std.proofs.Common.{◌≡◌, ℕ, zero, suc, ◌<◌, ◌≤◌, ◌+◌, ◌-◌, List, [], ◌∷◌, ◌++◌, length, take, drop, get_or, refl, sym, ◌∙◌, ap, subst, inl, inr, arith, length-append}
use Rattle.std.proofs.lemmas.Bool.{cases_lt}
use Rattle.std.proofs.lemmas.List.{drop-append-le, drop-drop, drop_at, length-drop, length-take-le, take-append-drop, take-append-le, take_all, get_or_append_left, drop_all}
use Rattle.std.proofs.lemmas.Str.{IsCharBoundary-at_seam, IsCharBoundary-end, IsCharBoundary-start}
use Rattle.std.specs.Str.{IsCharBoundary, IsUtf8}
use Rattle.ux_dela.specs.Texts.{texts_from, AreEnds}

-- there is a text for each end
pub length-texts_from : (begin : ℕ) (ends text : List ℕ) →
    length (texts_from begin ends text) ≡ length ends
length-texts_from begin [] text = refl
length-texts_from begin (end ∷ ends) text = ap suc (length-texts_from end ends text)

-- they begin within the text
AreEnds-within : (begin : ℕ) (ends text : List ℕ) → AreEnds begin ends text → begin ≤ length text
AreEnds-within begin [] text are = omega arith
AreEnds-within begin (end ∷ ends) text are =
    let behind = AreEnds-within end ends text are.2 in
    omega (arith, are.0, behind)

-- where a text may be cut it may still be once another stands behind it
boundary-append : (text more : List ℕ) (end : ℕ) → IsUtf8 more → IsCharBoundary text end →
    IsCharBoundary (text ++ more) end
boundary-append text more end utf8 at =
    elim (cases_lt end (length text)) [
      | inl inside ↦ (
        omega (arith, at.0, length-append text more),
        λ _. subst (λ (n : ℕ). 128 ≤ n → 192 ≤ n)
            (sym (get_or_append_left text more 0 end inside)) (at.1 inside),
      )
      | inr behind ↦ (
          let here : length text ≡ end = omega (arith, at.0, behind) in
          subst (λ (n : ℕ). IsCharBoundary (text ++ more) n) here
          (IsCharBoundary-at_seam (text ++ more) text more refl utf8))
    ]

-- one more text stands behind the others
pub AreEnds-push : (begin : ℕ) (ends text more : List ℕ) → IsUtf8 more → AreEnds begin ends text →
    AreEnds begin (ends ++ (length text + length more) ∷ []) (text ++ more)
AreEnds-push begin [] text more utf8 are = (
  omega (arith, are),
  subst (λ (n : ℕ). IsCharBoundary (text ++ more) n) (length-append text more)
      (IsCharBoundary-end (text ++ more)),
  sym (length-append text more),
)
AreEnds-push begin (end ∷ ends) text more utf8 are = (
  are.0,
  boundary-append text more end utf8 are.1,
  AreEnds-push end ends text more utf8 are.2,
)

-- and the others are as they were
pub texts_from-push : (begin : ℕ) (ends text more : List ℕ) → AreEnds begin ends text →
    texts_from begin (ends ++ (length text + length more) ∷ []) (text ++ more)
    ≡ texts_from begin ends text ++ more ∷ []
texts_from-push begin [] text more are =
    let last : take (length text + length more - begin) (drop begin (text ++ more)) ≡ more =
    rw (drop_at text more begin (sym are))
    (take_all (length text + length more - begin) more (omega (arith, are))) in
    ap (λ t. t ∷ []) last
texts_from-push begin (end ∷ ends) text more are =
    let behind = AreEnds-within end ends text are.2 in
    let inside : begin ≤ length text = omega (arith, are.0, behind) in
    let fits : end - begin ≤ length (drop begin text) =
    omega (arith, length-drop begin text, behind) in
    let first : take (end - begin) (drop begin (text ++ more))
    ≡ take (end - begin) (drop begin text) =
    rw (drop-append-le begin text more inside)
    (take-append-le (end - begin) (drop begin text) more fits) in
    rw (first, texts_from-push end ends text more are.2) refl

-- the text of a number stands between the end before it and its own
pub texts_from-at : (begin : ℕ) (ends text : List ℕ) (number : ℕ) → number < length ends →
    get_or (texts_from begin ends text) number []
    ≡ take (get_or ends number 0 - get_or (begin ∷ ends) number 0)
    (drop (get_or (begin ∷ ends) number 0) text)
texts_from-at begin [] text number below = absurd (omega (arith, below))
texts_from-at begin (end ∷ ends) text zero below = refl
texts_from-at begin (end ∷ ends) text (suc number) below =
    texts_from-at end ends text number (omega (arith, below))

-- and may be cut out there
pub ends_cut : (begin : ℕ) (ends text : List ℕ) (number : ℕ) → IsCharBoundary text begin →
    AreEnds begin ends text → number < length ends →
    (get_or (begin ∷ ends) number 0 ≤ get_or ends number 0)
    × IsCharBoundary text (get_or (begin ∷ ends) number 0)
    × IsCharBoundary text (get_or ends number 0)
ends_cut begin [] text number at are below = absurd (omega (arith, below))
ends_cut begin (end ∷ ends) text zero at are below = (are.0, at, are.1)
ends_cut begin (end ∷ ends) text (suc number) at are below =
    ends_cut end ends text number are.1 are.2 (omega (arith, below))

-- a text from a place on is its first text and what stands behind it
split_first : (begin end : ℕ) (text : List ℕ) → begin ≤ end →
    drop begin text ≡ take (end - begin) (drop begin text) ++ drop end text
split_first begin end text up =
    let there : begin + (end - begin) ≡ end = omega (arith, up) in
    sym (take-append-drop (end - begin) (drop begin text))
    ∙ ap (λ t. take (end - begin) (drop begin text) ++ t)
    (drop-drop (end - begin) begin text ∙ ap (λ n. drop n text) there)

-- how long the first text is
first_length : (begin end : ℕ) (ends text : List ℕ) → AreEnds begin (end ∷ ends) text →
    length (take (end - begin) (drop begin text)) ≡ end - begin
first_length begin end ends text are =
    let behind = AreEnds-within end ends text are.2 in
    length-take-le (end - begin) (drop begin text)
    (omega (arith, are.0, length-drop begin text, behind))

head_of : List (List ℕ) → List ℕ
head_of [] = []
head_of (first ∷ texts) = first

tail_of : List (List ℕ) → List (List ℕ)
tail_of [] = []
tail_of (first ∷ texts) = texts

-- equal texts have equal ends, and stand in equal texts
pub texts_from-same : (begin : ℕ) (ends others text other : List ℕ) → AreEnds begin ends text →
    AreEnds begin others other → texts_from begin ends text ≡ texts_from begin others other →
    (ends ≡ others) × (drop begin text ≡ drop begin other)
unfolding head_of tail_of
texts_from-same begin [] [] text other are those same = (
  refl,
  drop_all begin text (omega (arith, are)) ∙ sym (drop_all begin other (omega (arith, those))),
)
texts_from-same begin [] (b ∷ others) text other are those same = absurd (omega (arith, ap length same))
texts_from-same begin (a ∷ ends) [] text other are those same = absurd (omega (arith, ap length same))
texts_from-same begin (a ∷ ends) (b ∷ others) text other are those same =
    let first = ap head_of same in
    let long : a - begin ≡ b - begin =
    sym (first_length begin a ends text are) ∙ ap length first ∙ first_length begin b others other those in
    let end : a ≡ b = omega (arith, long, are.0, those.0) in
    let rest = texts_from-same a ends others text other are.2
    (subst (λ (n : ℕ). AreEnds n others other) (sym end) those.2)
    (ap tail_of same ∙ ap (λ n. texts_from n others other) (sym end)) in (
      ap (λ n. n ∷ ends) end ∙ ap (λ t. b ∷ t) rest.0,
      split_first begin a text are.0
          ∙ ap (λ t. t ++ drop a text) first
          ∙ ap (λ t. take (b - begin) (drop begin other) ++ t) (rest.1 ∙ ap (λ n. drop n other) end)
          ∙ sym (split_first begin b other those.0),
    )

-- a number below the texts is one of an end
pub number_below : (ends text : List ℕ) (texts : List (List ℕ)) (number : ℕ) →
    texts_from 0 ends text ≡ texts → number < length texts → number < length ends
number_below ends text texts number is below =
    omega (arith, ap length is, length-texts_from 0 ends text)

-- the text of a number may be cut out
pub text_cut : (ends text bytes : List ℕ) (number begin end : ℕ) → IsUtf8 text →
    AreEnds 0 ends text → number < length ends → begin ≡ get_or (0 ∷ ends) number 0 →
    end ≡ get_or ends number 0 → bytes ≡ text →
    (begin ≤ end) × IsCharBoundary bytes begin × IsCharBoundary bytes end
text_cut ends text bytes number begin end utf8 are below is_begin is_end is =
    rw (is_begin, is_end, is) (ends_cut 0 ends text number (IsCharBoundary-start text utf8) are below)

-- and is what was cut out
pub text_at : (ends text bytes : List ℕ) (texts : List (List ℕ)) (number begin end : ℕ) →
    number < length ends → begin ≡ get_or (0 ∷ ends) number 0 → end ≡ get_or ends number 0 →
    bytes ≡ text → texts_from 0 ends text ≡ texts →
    take (end - begin) (drop begin bytes) ≡ get_or texts number []
text_at ends text bytes texts number begin end below is_begin is_end is are =
    rw (is_begin, is_end, is, ← are) (sym (texts_from-at 0 ends text number below))
