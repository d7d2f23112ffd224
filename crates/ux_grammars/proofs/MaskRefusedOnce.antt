-- Texts of which one is no mask's are bad first at one place.
use Rattle.std.proofs.Common.{arith, ◌≡◌, ◌⊎◌, inl, inr, ℕ, zero, suc, ◌+◌, ◌<◌, ◌≤◌, List, [], ◌∷◌, ◌++◌, length, get_or, drop, take, append_assoc, encode_utf8, encode_utf8_all, refl, sym, ap, ◌∙◌, subst}
use Rattle.std.specs.Str.{chars}
use Rattle.std.proofs.lemmas.Bool.{cases_order}
use Rattle.std.proofs.lemmas.List.Elements.{All-head, All-tail}
use Rattle.ux_masks.specs.Texts.{BeginsMask, IsBadAt, IsMaskText, front_of}
use Rattle.ux_boxes.specs.MaskTexts.{AreMasks, IsFirstBad, IsMask}

-- more characters of a text go on where fewer end
front_grows : (cs : List ℕ) (p q : ℕ) → p ≤ q →
    (more : List ℕ) × (encode_utf8_all (take q cs) ≡ encode_utf8_all (take p cs) ++ more)
front_grows cs zero q low = (encode_utf8_all (take q cs), refl)
front_grows cs (suc p) zero low = absurd (omega (arith, low))
front_grows [] (suc p) (suc q) low = ([], refl)
front_grows (c ∷ cs) (suc p) (suc q) low =
    let later = front_grows cs p q (omega (arith, low)) in (
      later.0,
      ap (λ (t : List ℕ). encode_utf8 c ++ t) later.1
          ∙ sym (append_assoc (encode_utf8 c) (encode_utf8_all (take p cs)) later.0),
    )

-- the first characters of what begins a mask text begin one
fewer_begin : (text : List ℕ) (p q : ℕ) → p ≤ q → BeginsMask (front_of text q) →
    BeginsMask (front_of text p)
fewer_begin text p q low begins =
    let grows = front_grows (chars text) p q low in (
      grows.0 ++ begins.0,
      begins.1,
      subst (λ (t : List ℕ). IsMaskText t begins.1)
          (ap (λ (t : List ℕ). t ++ begins.0) grows.1
          ∙ append_assoc (front_of text p) grows.0 begins.0) begins.2,
    )

not_before : (text : List ℕ) (place other : ℕ) → IsBadAt text place → IsBadAt text other →
    place < other → ⊥
not_before text place other one also low = by one.stops also.stops
  where
    by : ((place ≡ length (chars text))
        ⊎ ((place < length (chars text)) × (BeginsMask (front_of text (place + 1)) → ⊥))) →
        ((other ≡ length (chars text))
        ⊎ ((other < length (chars text)) × (BeginsMask (front_of text (other + 1)) → ⊥))) → ⊥
    by (inl end) (inl last) = omega (arith, low, end, last)
    by (inl end) (inr inside) = omega (arith, low, end, inside.0)
    by (inr stops) last =
        stops.1 (fewer_begin text (place + 1) other (omega (arith, low)) also.begins)

-- a text that is no mask's is bad at one place
one_place : (text : List ℕ) (place other : ℕ) → IsBadAt text place → IsBadAt text other →
    place ≡ other
one_place text place other one also = elim (cases_order place other) [
  | inl same ↦ same
  | inr (inl low) ↦ absurd (not_before text place other one also low)
  | inr (inr low) ↦ absurd (not_before text other place also one low)
]

-- the first of the texts that is no mask's is one
first_text : (before after front rest : List (List ℕ)) (text other : List ℕ) →
    before ++ text ∷ after ≡ front ++ other ∷ rest → AreMasks before → AreMasks front →
    (IsMask text → ⊥) → (IsMask other → ⊥) → text ≡ other
first_text [] after [] rest text other same good also bad worse =
    ap (λ (l : List (List ℕ)). get_or l 0 []) same
first_text [] after (x ∷ front) rest text other same good also bad worse =
    absurd (bad (subst IsMask (sym (ap (λ (l : List (List ℕ)). get_or l 0 []) same))
    (All-head IsMask x front also)))
first_text (x ∷ before) after [] rest text other same good also bad worse =
    absurd (worse (subst IsMask (ap (λ (l : List (List ℕ)). get_or l 0 []) same)
    (All-head IsMask x before good)))
first_text (x ∷ before) after (y ∷ front) rest text other same good also bad worse =
    first_text before after front rest text other (ap (λ (l : List (List ℕ)). drop 1 l) same)
    (All-tail IsMask x before good) (All-tail IsMask y front also) bad worse

-- so texts are first bad at one place
pub first_place : (texts : List (List ℕ)) (place other : ℕ) → IsFirstBad texts place →
    IsFirstBad texts other → place ≡ other
first_place texts place other one also =
    let same = first_text one.before one.after also.before also.after one.text also.text
    (sym one.all ∙ also.all) one.good also.good (λ is. one.bad.none is.0 is.1)
    (λ is. also.bad.none is.0 is.1) in
    one_place also.text place other (subst (λ (t : List ℕ). IsBadAt t place) same one.bad) also.bad
