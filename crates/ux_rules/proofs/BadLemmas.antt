-- What is bad behind marks is bad in their phase.
use Rattle.std.proofs.Common.{arith, ◌≡◌, ◌≢◌, ℕ, suc, ◌+◌, ◌<◌, ◌≤◌, inl, inr, min, List, [], ◌∷◌, true, false, refl, sym, ap, subst, length}
use Rattle.std.specs.Prelude.{◌↔◌}
use Rattle.ux_rules.specs.declared.step.Sign.{Sign}
use Rattle.ux_rules.specs.declared.step.Sign.TheVariants.{Free, If, Then, Read}
use Rattle.std.proofs.lemmas.Option.{same_Some}
use Rattle.ux_rules.specs.declared.test.Test.{Test}
use Rattle.ux_rules.specs.Marks.{IsBadMark, IsBadBehind}
use Rattle.ux_rules.specs.Phases.{phase_of, bad_at, is_bad_item_at, is_short_at}
use Rattle.ux_rules.proofs.PhaseLemmas.{AreMarks}

other_first : (first mark : Sign) (met : List Sign) → first ≢ mark → IsBadMark (first ∷ met) mark
other_first first mark met other = inr (first, refl, other)

pub false_true : {P : Type 0} → false ≡ true → P
false_true e = cc

min_long : (n : ℕ) → min (suc (suc (suc n))) 3 ≡ 3
min_long n = omega arith

-- four marks and more
long_if : (b c d : Sign) (met : List Sign) → phase_of (If ∷ b ∷ c ∷ d ∷ met) ≡ 4
long_if b c d met = ap (λ n. 1 + n) (min_long (length met))

long_then : (b c d : Sign) (met : List Sign) → phase_of (Then ∷ b ∷ c ∷ d ∷ met) ≡ 8
long_then b c d met = ap (λ n. 5 + n) (min_long (length met))

-- fewer than three marks
pub short_same : (met : List Sign) → AreMarks met →
    (length met < 3) ↔ (is_short_at (phase_of met) ≡ true)
short_same [] are = (λ h. refl, λ h. omega arith)
short_same (If ∷ []) are = (λ h. refl, λ h. omega arith)
short_same (Then ∷ []) are = (λ h. refl, λ h. omega arith)
short_same (If ∷ b ∷ []) are = (λ h. refl, λ h. omega arith)
short_same (Then ∷ b ∷ []) are = (λ h. refl, λ h. omega arith)
short_same (If ∷ b ∷ c ∷ []) are = (λ h. absurd (omega (arith, h)), λ h. false_true h)
short_same (Then ∷ b ∷ c ∷ []) are = (λ h. absurd (omega (arith, h)), λ h. false_true h)
short_same (If ∷ b ∷ c ∷ d ∷ met) are = (
  λ h. absurd (omega (arith, h)),
  λ h. false_true (subst (λ (n : ℕ). is_short_at n ≡ true) (long_if b c d met) h),
)
short_same (Then ∷ b ∷ c ∷ d ∷ met) are = (
  λ h. absurd (omega (arith, h)),
  λ h. false_true (subst (λ (n : ℕ). is_short_at n ≡ true) (long_then b c d met) h),
)
short_same (Free ∷ met) are = elim are [ ]
short_same (Read t ∷ met) are = elim are [ ]

-- a list has no other first mark than its own
same_first : (mark : Sign) (met : List Sign) → (length (mark ∷ met) ≡ 3 → ⊥) →
    IsBadMark (mark ∷ met) mark → ⊥
same_first mark met short (inl e) = short e
same_first mark met short (inr (first, e, other)) = other (sym (same_Some mark first e))

bad_if : (met : List Sign) → AreMarks met → IsBadMark met If ↔ (bad_at (phase_of met) If ≡ true)
bad_if [] are = (none_first, λ h. false_true h) where
  none_first : IsBadMark [] If → bad_at 0 If ≡ true
  none_first (inl e) = absurd (omega (arith, e))
  none_first (inr (first, e, other)) = cc
bad_if (If ∷ []) are =
    (λ h. absurd (same_first If [] (λ e. omega (arith, e)) h), λ h. false_true h)
bad_if (If ∷ b ∷ []) are =
    (λ h. absurd (same_first If (b ∷ []) (λ e. omega (arith, e)) h), λ h. false_true h)
bad_if (If ∷ b ∷ c ∷ []) are = (λ h. refl, λ h. inl refl)
bad_if (If ∷ b ∷ c ∷ d ∷ met) are = (
  λ h. absurd (same_first If (b ∷ c ∷ d ∷ met) (λ e. omega (arith, e)) h),
  λ h. false_true (subst (λ (n : ℕ). bad_at n If ≡ true) (long_if b c d met) h),
)
bad_if (Then ∷ []) are = (λ h. refl, λ h. other_first Then If [] (λ e. cc))
bad_if (Then ∷ b ∷ []) are = (λ h. refl, λ h. other_first Then If (b ∷ []) (λ e. cc))
bad_if (Then ∷ b ∷ c ∷ []) are = (λ h. refl, λ h. other_first Then If (b ∷ c ∷ []) (λ e. cc))
bad_if (Then ∷ b ∷ c ∷ d ∷ met) are = (
  λ h. subst (λ (n : ℕ). bad_at n If ≡ true) (sym (long_then b c d met)) refl,
  λ h. other_first Then If (b ∷ c ∷ d ∷ met) (λ e. cc),
)
bad_if (Free ∷ met) are = elim are [ ]
bad_if (Read t ∷ met) are = elim are [ ]

bad_then : (met : List Sign) → AreMarks met →
    IsBadMark met Then ↔ (bad_at (phase_of met) Then ≡ true)
bad_then [] are = (none_first, λ h. false_true h) where
  none_first : IsBadMark [] Then → bad_at 0 Then ≡ true
  none_first (inl e) = absurd (omega (arith, e))
  none_first (inr (first, e, other)) = cc
bad_then (Then ∷ []) are =
    (λ h. absurd (same_first Then [] (λ e. omega (arith, e)) h), λ h. false_true h)
bad_then (Then ∷ b ∷ []) are =
    (λ h. absurd (same_first Then (b ∷ []) (λ e. omega (arith, e)) h), λ h. false_true h)
bad_then (Then ∷ b ∷ c ∷ []) are = (λ h. refl, λ h. inl refl)
bad_then (Then ∷ b ∷ c ∷ d ∷ met) are = (
  λ h. absurd (same_first Then (b ∷ c ∷ d ∷ met) (λ e. omega (arith, e)) h),
  λ h. false_true (subst (λ (n : ℕ). bad_at n Then ≡ true) (long_then b c d met) h),
)
bad_then (If ∷ []) are = (λ h. refl, λ h. other_first If Then [] (λ e. cc))
bad_then (If ∷ b ∷ []) are = (λ h. refl, λ h. other_first If Then (b ∷ []) (λ e. cc))
bad_then (If ∷ b ∷ c ∷ []) are = (λ h. refl, λ h. other_first If Then (b ∷ c ∷ []) (λ e. cc))
bad_then (If ∷ b ∷ c ∷ d ∷ met) are = (
  λ h. subst (λ (n : ℕ). bad_at n Then ≡ true) (sym (long_if b c d met)) refl,
  λ h. other_first If Then (b ∷ c ∷ d ∷ met) (λ e. cc),
)
bad_then (Free ∷ met) are = elim are [ ]
bad_then (Read t ∷ met) are = elim are [ ]

read_bad : (met : List Sign) → 3 ≤ length met → (t : Test) → IsBadBehind met (Read t)
read_bad met h t = inr h

read_short : (mark : Sign) (met : List Sign) (t : Test) → (3 ≤ length (mark ∷ met) → ⊥) →
    IsBadBehind (mark ∷ met) (Read t) → ⊥
read_short mark met t short (inl e) = absurd (let f : ⊥ = cc in f)
read_short mark met t short (inr h) = short h

bad_read : (met : List Sign) → AreMarks met → (t : Test) →
    IsBadBehind met (Read t) ↔ (is_bad_item_at (phase_of met) ≡ true)
bad_read [] are t = (λ h. refl, λ h. inl refl)
bad_read (If ∷ []) are t =
    (λ h. absurd (read_short If [] t (λ e. omega (arith, e)) h), λ h. false_true h)
bad_read (Then ∷ []) are t =
    (λ h. absurd (read_short Then [] t (λ e. omega (arith, e)) h), λ h. false_true h)
bad_read (If ∷ b ∷ []) are t =
    (λ h. absurd (read_short If (b ∷ []) t (λ e. omega (arith, e)) h), λ h. false_true h)
bad_read (Then ∷ b ∷ []) are t =
    (λ h. absurd (read_short Then (b ∷ []) t (λ e. omega (arith, e)) h), λ h. false_true h)
bad_read (If ∷ b ∷ c ∷ []) are t = (λ h. refl, λ h. inr (omega arith))
bad_read (Then ∷ b ∷ c ∷ []) are t = (λ h. refl, λ h. inr (omega arith))
bad_read (If ∷ b ∷ c ∷ d ∷ met) are t = (
  λ h. subst (λ (n : ℕ). is_bad_item_at n ≡ true) (sym (long_if b c d met)) refl,
  λ h. inr (omega arith),
)
bad_read (Then ∷ b ∷ c ∷ d ∷ met) are t = (
  λ h. subst (λ (n : ℕ). is_bad_item_at n ≡ true) (sym (long_then b c d met)) refl,
  λ h. inr (omega arith),
)
bad_read (Free ∷ met) are t = elim are [ ]
bad_read (Read u ∷ met) are t = elim are [ ]

-- what is bad behind marks is bad in their phase
pub bad_same : (met : List Sign) → AreMarks met → (sign : Sign) →
    IsBadBehind met sign ↔ (bad_at (phase_of met) sign ≡ true)
bad_same met are Free = (λ h. absurd h, λ h. false_true h)
bad_same met are If = bad_if met are
bad_same met are Then = bad_then met are
bad_same met are (Read t) = bad_read met are t
