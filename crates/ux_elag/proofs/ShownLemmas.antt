-- Where each place that is told is told.
use Rattle.std.proofs.Common.{arith, ◌≡◌, ℕ, ◌+◌, ◌<◌, List, inl, inr, sym, ◌∙◌, ap, subst, length, get_or, set, length-set}
use Rattle.std.proofs.lemmas.List.{get_or-set_same, get_or-set_other}
use Rattle.ux_base.proofs.Lists.{same_or, less_or}
use Rattle.ux_elag.specs.Numbering.{IsShownBy}

-- the first places that are told are told where they are shown
pub record AreShown (places : List ℕ) (count i : ℕ) (shown : List ℕ) : Type 0 where
  pub counted : length shown ≡ count
  pub within : (k : ℕ) → k < i → get_or shown (get_or places k 0) 0 < i
  pub same : (k : ℕ) → k < i → get_or places (get_or shown (get_or places k 0) 0) 0 ≡ get_or places k 0

pub shown-none : (places : List ℕ) (count : ℕ) (shown : List ℕ) → length shown ≡ count →
    AreShown places count 0 shown
shown-none places count shown counted = record {
  counted = counted;
  within = λ k lt. absurd (omega arith);
  same = λ k lt. absurd (omega arith);
}

pub shown-more : (places : List ℕ) (count i : ℕ) (old now : List ℕ) → get_or places i 0 < count →
    now ≡ set old (get_or places i 0) i → AreShown places count i old →
    AreShown places count (i + 1) now
shown-more places count i old now inside is are =
    let p = get_or places i 0 in
    let here : get_or now p 0 ≡ i = ap (λ (xs : List ℕ). get_or xs p 0) is
    ∙ get_or-set_same old p i 0 (omega (arith, inside, are.counted)) in
    let there : (q : ℕ) → (q ≡ p → ⊥) → get_or now q 0 ≡ get_or old q 0 =
    λ q other. ap (λ (xs : List ℕ). get_or xs q 0) is ∙ get_or-set_other old p q i 0 other in
    let earlier : (k : ℕ) → k < i + 1 → (get_or places k 0 ≡ p → ⊥) → k < i =
    λ k lt other. elim (less_or k i) [
      | inl less ↦ less
      | inr past ↦ absurd (other (let e : k ≡ i = omega arith in
          ap (λ (n : ℕ). get_or places n 0) e))
    ] in
    record {
      counted = ap length is ∙ (length-set old p i ∙ are.counted);
      within = λ k lt. elim (same_or (get_or places k 0) p) [
        | inl e ↦ subst (λ (q : ℕ). get_or now q 0 < i + 1) (sym e)
            (subst (λ (n : ℕ). n < i + 1) (sym here) (omega arith))
        | inr other ↦
            let less : k < i = earlier k lt other in
            let was = are.within k less in
            let e = there (get_or places k 0) other in omega (arith, was, e)
      ];
      same = λ k lt. elim (same_or (get_or places k 0) p) [
        | inl e ↦ ap (λ (q : ℕ). get_or places (get_or now q 0) 0) e
            ∙ (ap (λ (n : ℕ). get_or places n 0) here ∙ sym e)
        | inr other ↦ ap (λ (n : ℕ). get_or places n 0) (there (get_or places k 0) other)
            ∙ are.same k (earlier k lt other)
      ];
    }

pub shown-whole : (places : List ℕ) (count i : ℕ) (shown : List ℕ) → length places ≡ i →
    AreShown places count i shown → IsShownBy places count shown
shown-whole places count i shown end are = record {
  counted = are.counted;
  within = λ k lt. let here = are.within k (omega (arith, lt, end)) in omega (arith, here, end);
  same = λ k lt. are.same k (omega (arith, lt, end));
}
