-- Steps with numbers for their tests, and the tests that a reading passes, step by step.
use Rattle.std.proofs.Common.{arith, ◌≡◌, ℕ, suc, ◌+◌, ◌<◌, ◌≤◌, ◌↔◌, List, [], ◌∷◌, ◌++◌, ◌⊎◌, inl, inr, sym, ◌∙◌, ap, subst, length, get_or, take}
use Rattle.std.specs.Prelude.{Contains, Some, slice_get}
use Rattle.std.proofs.lemmas.List.{length-take, take_more}
use Rattle.std.proofs.lemmas.List.Elements.{Contains-append_left, Contains-push, Contains-push_cases}
use Rattle.std.proofs.lemmas.Option.{same_Some, slice_get_within}
use Rattle.ux_base.proofs.Lists.{nothing_in, same_or, less_or}
use Rattle.ux_sentence.specs.declared.sentence.Reading.{Reading}
use Rattle.ux_rules.specs.declared.step.Step.{Step}
use Rattle.ux_monitor.specs.declared.rule.Sign as numbered
use Rattle.ux_monitor.specs.declared.rule.Step as numbered_step
use Rattle.ux_elag.specs.Ready.{ArePassed, IsPassedBy, PassesTest, numbered_one, numbered_sign, numbered_steps}

-- the tests of the first steps that the reading passes
abbrev pub ArePassedTo : List Step → Reading → (count : ℕ) → List ℕ → Type 0
ArePassedTo steps reading count tests =
    (number : ℕ) → Contains tests number ↔ ((number < count) × PassesTest steps number reading)

pub passed-none : (steps : List Step) (reading : Reading) → ArePassedTo steps reading 0 []
passed-none steps reading number = (λ h. absurd (nothing_in h), λ h. absurd (omega (arith, h.0)))

below : (number count : ℕ) → number < count + 1 → (number ≡ count → ⊥) → number < count
below number count lt other = elim (less_or number count) [
  | inl less ↦ less
  | inr past ↦ absurd (other (omega arith))
]

pub passed-more : (steps : List Step) (reading : Reading) (count : ℕ) (step : Step)
    (old now : List ℕ) → slice_get steps count ≡ Some step → ArePassedTo steps reading count old →
    ((number : ℕ) → Contains now number
    ↔ (Contains old number ⊎ ((number ≡ count) × IsPassedBy reading step.sign))) →
    ArePassedTo steps reading (count + 1) now
passed-more steps reading count step old now at are more number = (
  λ h. elim ((more number).0 h) [
    | inl was ↦ let w = (are number).0 was in (omega (arith, w.0), w.1)
    | inr here ↦ (
      omega (arith, here.0),
      subst (λ (n : ℕ). PassesTest steps n reading) (sym here.0)
          (step, at, here.1),
    )
  ],
  λ h. elim (same_or number count) [
    | inl is ↦
        let step_is : h.1.0 ≡ step = same_Some h.1.0 step
        (sym h.1.1 ∙ (ap (slice_get steps) is ∙ at)) in
        (more number).1 (inr (is, subst (λ (s : Step). IsPassedBy reading s.sign) step_is h.1.2))
    | inr other ↦ (more number).1 (inl ((are number).1 (below number count h.0 other, h.1)))
  ],
)

pub passed-whole : (steps : List Step) (reading : Reading) (count : ℕ) (tests : List ℕ) →
    length steps ≤ count → ArePassedTo steps reading count tests → ArePassed steps reading tests
passed-whole steps reading count tests past are number = (
  λ h. ((are number).0 h).1,
  λ h. let inside = slice_get_within steps number h.0 h.1 in
      (are number).1 (omega (arith, inside), h),
)

pub noted : (old now : List ℕ) (number : ℕ) (P : Type 0) → now ≡ old ++ number ∷ [] → P →
    (other : ℕ) → Contains now other ↔ (Contains old other ⊎ ((other ≡ number) × P))
noted old now number P is holds other = (
  λ h. elim (Contains-push_cases old number other (subst (λ (xs : List ℕ). Contains xs other) is
      h)) [
        | inl was ↦ inl was
        | inr e ↦ inr (sym e, holds)
      ],
  λ h. elim h [
    | inl was ↦ subst (λ (xs : List ℕ). Contains xs other) (sym is)
        (Contains-append_left old (number ∷ []) other was)
    | inr here ↦ subst (λ (xs : List ℕ). Contains xs other) (sym is)
        (subst (λ (n : ℕ). Contains (old ++ number ∷ []) n) (sym here.0) (Contains-push old number))
  ],
)

pub not_noted : (old : List ℕ) (number : ℕ) (P : Type 0) → (P → ⊥) →
    (other : ℕ) → Contains old other ↔ (Contains old other ⊎ ((other ≡ number) × P))
not_noted old number P never other = (
  λ h. inl h,
  λ h. elim h [ inl was ↦ was | inr here ↦ absurd (never here.1) ],
)

-- one more numbered step
pub numbered-push : (steps : List Step) (count : ℕ) (step : Step) →
    numbered_steps count (steps ++ step ∷ [])
    ≡ numbered_steps count steps ++ numbered_one (count + length steps) step ∷ []
numbered-push [] count step =
    let e : count + 0 ≡ count = omega arith in
    ap (λ (n : ℕ). numbered_one n step ∷ []) (sym e)
numbered-push (first ∷ steps) count step =
    let e : count + 1 + length steps ≡ count + suc (length steps) = omega arith in
    ap (λ (rest : List numbered_step.Step). numbered_one count first ∷ rest)
    (numbered-push steps (count + 1) step
    ∙ ap (λ (n : ℕ). numbered_steps (count + 1) steps ++ numbered_one n step ∷ []) e)

length_front : (steps : List Step) (i : ℕ) → i < length steps → 0 + length (take i steps) ≡ i
length_front steps i lt = let e = length-take i steps in omega (arith, e)

pub numbered-more : (steps : List Step) (i : ℕ) (step : Step) (sign : numbered.Sign)
    (old now : List numbered_step.Step) → i < length steps → step ≡ get_or steps i step →
    sign ≡ numbered_sign i step.sign →
    now ≡ old ++ record { from = step.from; to = step.to; sign = sign } ∷ [] →
    old ≡ numbered_steps 0 (take i steps) → now ≡ numbered_steps 0 (take (i + 1) steps)
numbered-more steps i step sign old now lt is sign_is now_is old_is =
    let front : take (i + 1) steps ≡ take i steps ++ step ∷ [] =
    take_more steps i step lt ∙ ap (λ (s : Step). take i steps ++ s ∷ []) (sym is) in
    let count : 0 + length (take i steps) ≡ i = length_front steps i lt in
    now_is ∙ (ap (λ (s : numbered.Sign). old ++ record { from = step.from; to = step.to; sign = s }
    ∷ []) sign_is
    ∙ (ap (λ (xs : List numbered_step.Step). xs ++ numbered_one i step ∷ []) old_is
    ∙ (ap (λ (n : ℕ). numbered_steps 0 (take i steps) ++ numbered_one n step ∷ []) (sym count)
    ∙ (sym (numbered-push (take i steps) 0 step) ∙ ap (numbered_steps 0) (sym front)))))
