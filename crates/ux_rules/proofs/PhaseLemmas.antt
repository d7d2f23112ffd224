-- The phase after one more sign.
use Rattle.std.proofs.Common.{arith, ◌≡◌, ℕ, zero, suc, ◌+◌, ◌*◌, ◌<◌, ◌≤◌, ◌⊎◌, inl, inr, min, List, [], ◌∷◌, ◌++◌, Bool, true, refl, sym, ap, ◌∙◌, append-nil, append_assoc, subst, length, length-append}
use Rattle.std.specs.Prelude.{◌↔◌}
use Rattle.ux_digraph.specs.declared.closing.Rule.{Rule}
use Rattle.ux_digraph.specs.Rules.{is_marked_at, Derived, fact, by}
use Rattle.ux_base.proofs.Lists.{nothing_in, first_or_later, contains_first}
use Rattle.ux_rules.specs.declared.step.Sign.{Sign}
use Rattle.ux_rules.specs.declared.step.Sign.TheVariants.{Free, If, Then, Read}
use Rattle.ux_rules.specs.declared.step.Step.{Step}
use Rattle.ux_rules.specs.Drafts.{said_by}
use Rattle.ux_rules.specs.Marks.{marks}
use Rattle.ux_rules.specs.Phases.{mark_phase, next_phase, phase_of, rule_at, AreRulesOf, IsIn, FindsPhases}
use Rattle.ux_rules.specs.Runs.{Run, stop, free, along}
use Rattle.ux_rules.proofs.RunLemmas.{run_append, run_one, said_one}

-- the marks of two words
pub marks_append : (v w : List Sign) → marks (v ++ w) ≡ marks v ++ marks w
marks_append [] w = refl
marks_append (Free ∷ v) w = marks_append v w
marks_append (If ∷ v) w = ap (λ (x : List Sign). If ∷ x) (marks_append v w)
marks_append (Then ∷ v) w = ap (λ (x : List Sign). Then ∷ x) (marks_append v w)
marks_append (Read t ∷ v) w = marks_append v w

-- a list of marks
pub data AreMarks : List Sign → Type 0 where
  no_mark : AreMarks []
  if_then : {met : List Sign} → AreMarks met → AreMarks (If ∷ met)
  then_then : {met : List Sign} → AreMarks met → AreMarks (Then ∷ met)

pub marks_are : (word : List Sign) → AreMarks (marks word)
marks_are [] = no_mark
marks_are (Free ∷ word) = marks_are word
marks_are (If ∷ word) = if_then (marks_are word)
marks_are (Then ∷ word) = then_then (marks_are word)
marks_are (Read t ∷ word) = marks_are word

phase_more : (n first next : ℕ) → (first ≡ 1) ⊎ (first ≡ 5) →
    first + min (n + 1) 3 ≡ mark_phase next (first + min n 3)
phase_more zero first next (inl e) = rw e refl
phase_more (suc zero) first next (inl e) = rw e refl
phase_more (suc (suc zero)) first next (inl e) = rw e refl
phase_more (suc (suc (suc n))) first next (inl e) =
    let more : min (suc (suc (suc n)) + 1) 3 ≡ 3 = omega arith in
    let most : min (suc (suc (suc n))) 3 ≡ 3 = omega arith in
    rw (e, more, most) refl
phase_more zero first next (inr e) = rw e refl
phase_more (suc zero) first next (inr e) = rw e refl
phase_more (suc (suc zero)) first next (inr e) = rw e refl
phase_more (suc (suc (suc n))) first next (inr e) =
    let more : min (suc (suc (suc n)) + 1) 3 ≡ 3 = omega arith in
    let most : min (suc (suc (suc n))) 3 ≡ 3 = omega arith in
    rw (e, more, most) refl

len_more : (met : List Sign) (mark : Sign) → length (met ++ mark ∷ []) ≡ length met + 1
len_more met mark = length-append met (mark ∷ [])

-- the phase behind one more mark
phase_if : (met : List Sign) → AreMarks met →
    phase_of (met ++ If ∷ []) ≡ next_phase (phase_of met) If
phase_if [] are = refl
phase_if (If ∷ met) are =
    ap (λ n. 1 + min n 3) (len_more met If) ∙ phase_more (length met) 1 1 (inl refl)
phase_if (Then ∷ met) are =
    ap (λ n. 5 + min n 3) (len_more met If) ∙ phase_more (length met) 5 1 (inr refl)
phase_if (Free ∷ met) are = elim are [ ]
phase_if (Read t ∷ met) are = elim are [ ]

phase_then : (met : List Sign) → AreMarks met →
    phase_of (met ++ Then ∷ []) ≡ next_phase (phase_of met) Then
phase_then [] are = refl
phase_then (If ∷ met) are =
    ap (λ n. 1 + min n 3) (len_more met Then) ∙ phase_more (length met) 1 5 (inl refl)
phase_then (Then ∷ met) are =
    ap (λ n. 5 + min n 3) (len_more met Then) ∙ phase_more (length met) 5 5 (inr refl)
phase_then (Free ∷ met) are = elim are [ ]
phase_then (Read t ∷ met) are = elim are [ ]

-- the phase behind one more sign
pub phase_next : (word : List Sign) (sign : Sign) →
    phase_of (marks (word ++ said_by sign)) ≡ next_phase (phase_of (marks word)) sign
phase_next word Free = ap (λ (w : List Sign). phase_of (marks w)) (append-nil word)
phase_next word If =
    ap phase_of (marks_append word (If ∷ [])) ∙ phase_if (marks word) (marks_are word)
phase_next word Then =
    ap phase_of (marks_append word (Then ∷ [])) ∙ phase_then (marks word) (marks_are word)
phase_next word (Read t) =
    ap phase_of (marks_append word (Read t ∷ []) ∙ append-nil (marks word))

min_three : (n : ℕ) → min n 3 ≤ 3
min_three n = omega arith

-- there are nine phases
pub phase_below : (met : List Sign) → phase_of met < 9
phase_below [] = omega arith
phase_below (Free ∷ met) = omega arith
phase_below (If ∷ met) = let most = min_three (length met) in omega (arith, most)
phase_below (Then ∷ met) = let most = min_three (length met) in omega (arith, most)
phase_below (Read t ∷ met) = omega arith

module _ (steps : List Step) (rules : List Rule) (are : AreRulesOf steps rules) where
  -- what follows by the rules is a place that is reached in a phase
  pub derived_in : {x : ℕ} → Derived rules (0 ∷ []) x →
      (place phase : ℕ) × (x ≡ place * 9 + phase) × (phase < 9) × IsIn steps place phase
  derived_in (fact {x = x} here) = elim (first_or_later 0 [] x here) [
    | inl e ↦ (0, 0, sym e, omega arith, ([], stop, refl))
    | inr none ↦ absurd (nothing_in none)
  ]
  derived_in (by r here first second) =
      let rule = are.only r here in
      let s = rule.0 in
      let phase = rule.2.0 in
      let is = rule.2.2 in
      let before = derived_in first in
      let same : before.0 * 9 + before.1 ≡ s.from * 9 + phase =
      sym before.2 ∙ ap (λ (q : Rule). q.first) is in
      let less = before.3 in
      let less_too = rule.2.1 in
      let place_is : before.0 ≡ s.from = omega (arith, same, less, less_too) in
      let phase_is : before.1 ≡ phase = omega (arith, same, less, less_too) in
      let word = before.4.0 in
      let run : Run steps 0 s.from word =
      subst (λ (p : ℕ). Run steps 0 p word) place_is before.4.1 in
      let next : phase_of (marks (word ++ said_by s.sign)) ≡ next_phase phase s.sign =
      phase_next word s.sign
      ∙ ap (λ (p : ℕ). next_phase p s.sign) (before.4.2 ∙ phase_is) in (
        s.to,
        next_phase phase s.sign,
        ap (λ (q : Rule). q.place) is,
        subst (λ (p : ℕ). p < 9) next (phase_below (marks (word ++ said_by s.sign))),
        (word ++ said_by s.sign, run_append run (run_one steps s rule.1), next),
      )

  -- a run goes on
  derived_on : {a b : ℕ} {w : List Sign} → Run steps a b w → (u : List Sign) →
      Derived rules (0 ∷ []) (a * 9 + phase_of (marks u)) →
      Derived rules (0 ∷ []) (b * 9 + phase_of (marks (u ++ w)))
  derived_on (stop {a = a}) u h =
      subst (λ (x : List Sign). Derived rules (0 ∷ []) (a * 9 + phase_of (marks x)))
      (sym (append-nil u)) h
  derived_on (free {b = b} {word = w} s here is run) u h =
      let phase = phase_of (marks u) in
      let rule = are.all s here phase (phase_below (marks u)) in
      let there : Derived rules (0 ∷ []) (s.to * 9 + next_phase phase s.sign) =
      by (rule_at s phase) rule h h in
      derived_on run u (subst (λ (x : Sign). Derived rules (0 ∷ []) (s.to * 9 + next_phase phase x))
      is there)
  derived_on (along {b = b} {word = w} s here other run) u h =
      let phase = phase_of (marks u) in
      let rule = are.all s here phase (phase_below (marks u)) in
      let there : Derived rules (0 ∷ []) (s.to * 9 + next_phase phase s.sign) =
      by (rule_at s phase) rule h h in
      let next : next_phase phase s.sign ≡ phase_of (marks (u ++ s.sign ∷ [])) =
      sym (phase_next u s.sign)
      ∙ ap (λ (x : List Sign). phase_of (marks (u ++ x))) (said_one s.sign other) in
      subst (λ (x : List Sign). Derived rules (0 ∷ []) (b * 9 + phase_of (marks x)))
      (append_assoc u (s.sign ∷ []) w)
      (derived_on run (u ++ s.sign ∷ [])
      (subst (λ (p : ℕ). Derived rules (0 ∷ []) (s.to * 9 + p)) next there))

  -- a pair of a place and a phase follows by the rules where a run leads there
  pub derived_phase : (place phase : ℕ) → phase < 9 →
      Derived rules (0 ∷ []) (place * 9 + phase) ↔ IsIn steps place phase
  derived_phase place phase below = (
    λ derived.
        let d = derived_in derived in
        let same = d.2 in
        let less = d.3 in
        let place_is : d.0 ≡ place = omega (arith, same, less, below) in
        let phase_is : d.1 ≡ phase = omega (arith, same, less, below) in
        subst (λ (k : ℕ). IsIn steps place k) phase_is
        (subst (λ (p : ℕ). IsIn steps p d.1) place_is d.4),
    λ is_in.
        subst (λ (k : ℕ). Derived rules (0 ∷ []) (place * 9 + k)) is_in.2
        (derived_on is_in.1 [] (fact (contains_first 0 []))),
  )

-- marks by the rules tell the phases
pub found_phases : (steps : List Step) (rules : List Rule) → AreRulesOf steps rules →
    (found : List Bool) →
    ((x : ℕ) → (is_marked_at found x ≡ true) ↔ Derived rules (0 ∷ []) x) → FindsPhases steps found
found_phases steps rules are found marked place phase below =
    let d = derived_phase steps rules are place phase below in
    let m = marked (place * 9 + phase) in
    (λ h. d.0 (m.0 h), λ h. m.1 (d.1 h))
