-- The rules of the steps, phase by phase.
use Rattle.std.proofs.Common.{arith, ◌≡◌, ℕ, zero, suc, ◌+◌, ◌*◌, ◌<◌, ◌≤◌, inl, inr, sym, ap, ◌∙◌, subst, List, [], ◌∷◌, ◌++◌, length, take, get_or}
use Rattle.std.specs.Prelude.{Contains}
use Rattle.std.proofs.lemmas.List.Elements.{Contains-append_left, Contains-push, Contains-push_cases}
use Rattle.ux_base.proofs.Lists.{same_or, nothing_in, first_or_later, take_more, take_whole}
use Rattle.ux_digraph.specs.declared.closing.Rule.{Rule}
use Rattle.ux_digraph.specs.Rules.{AreRulesInside}
use Rattle.ux_rules.specs.declared.step.Sign.{Sign}
use Rattle.ux_rules.specs.declared.step.Sign.TheVariants.{Free, If, Then, Read}
use Rattle.ux_rules.specs.declared.step.Step.{Step}
use Rattle.ux_rules.specs.Phases.{mark_phase, next_phase, rule_at, AreRulesOf, AreRulesAdded}
use Rattle.ux_rules.specs.Rules.{AreInside}

pub added_none : (rules : List Rule) (s : Step) → AreRulesAdded rules s 0 rules
added_none rules s = record {
  kept = λ r here. here;
  only = λ r here. inl here;
  all = λ phase less. absurd (omega (arith, less));
}

pub added_next : (old now new : List Rule) (s : Step) (count : ℕ) → AreRulesAdded old s count now →
    new ≡ now ++ rule_at s count ∷ [] → AreRulesAdded old s (count + 1) new
added_next old now new s count h is =
    subst (λ (rs : List Rule). AreRulesAdded old s (count + 1) rs) (sym is) (record {
      kept = λ r here. Contains-append_left now (rule_at s count ∷ []) r (h.kept r here);
      only = λ r here. elim (Contains-push_cases now (rule_at s count) r here) [
        | inl a ↦ elim (h.only r a) [
          | inl b ↦ inl b
          | inr b ↦ inr (b.0, (let less = b.1 in omega (arith, less)), b.2)
        ]
        | inr e ↦ inr (count, omega arith, sym e)
      ];
      all = λ phase less. elim (same_or phase count) [
        | inl e ↦ subst (λ (k : ℕ). Contains (now ++ rule_at s count ∷ []) (rule_at s k)) (sym e)
            (Contains-push now (rule_at s count))
        | inr other ↦ Contains-append_left now (rule_at s count ∷ []) (rule_at s phase)
            (h.all phase (omega (arith, less, other)))
      ];
    })

pub rules_none : AreRulesOf [] []
rules_none = record {
  only = λ r here. absurd (nothing_in here);
  all = λ s here. absurd (nothing_in here);
}

pub rules_next : (steps : List Step) (i : ℕ) (s : Step) (old new : List Rule) → i < length steps →
    s ≡ get_or steps i s → AreRulesOf (take i steps) old → AreRulesAdded old s 9 new →
    AreRulesOf (take (i + 1) steps) new
rules_next steps i s old new inside is h added =
    let front : take (i + 1) steps ≡ take i steps ++ s ∷ [] =
    take_more steps i s inside ∙ ap (λ (x : Step). take i steps ++ x ∷ []) (sym is) in
    subst (λ (ss : List Step). AreRulesOf ss new) (sym front) (record {
      only = λ r here. elim (added.only r here) [
        | inl a ↦ let o = h.only r a in
            (o.0, Contains-append_left (take i steps) (s ∷ []) o.0 o.1, o.2)
        | inr b ↦ (s, Contains-push (take i steps) s, b)
      ];
      all = λ x here phase less. elim (Contains-push_cases (take i steps) s x here) [
        | inl a ↦ added.kept (rule_at x phase) (h.all x a phase less)
        | inr e ↦ subst (λ (y : Step). Contains new (rule_at y phase)) e (added.all phase less)
      ];
    })

pub rules_end : (steps : List Step) (i : ℕ) (rules : List Rule) → length steps ≤ i →
    AreRulesOf (take i steps) rules → AreRulesOf steps rules
rules_end steps i rules past h =
    subst (λ (ss : List Step). AreRulesOf ss rules) (take_whole steps i past) h

mark_below : (first : ℕ) → first < 9 → (phase : ℕ) → phase < 9 → mark_phase first phase < 9
mark_below first low zero less = low
mark_below first low (suc zero) less = omega arith
mark_below first low (suc (suc zero)) less = omega arith
mark_below first low (suc (suc (suc zero))) less = omega arith
mark_below first low (suc (suc (suc (suc zero)))) less = omega arith
mark_below first low (suc (suc (suc (suc (suc zero))))) less = omega arith
mark_below first low (suc (suc (suc (suc (suc (suc zero)))))) less = omega arith
mark_below first low (suc (suc (suc (suc (suc (suc (suc zero))))))) less = omega arith
mark_below first low (suc (suc (suc (suc (suc (suc (suc (suc zero)))))))) less = omega arith
mark_below first low (suc (suc (suc (suc (suc (suc (suc (suc (suc n))))))))) less =
    absurd (omega (arith, less))

-- the phase after a sign is one of the nine
pub next_below : (phase : ℕ) (sign : Sign) → phase < 9 → next_phase phase sign < 9
next_below phase Free less = less
next_below phase If less = mark_below 1 (omega arith) phase less
next_below phase Then less = mark_below 5 (omega arith) phase less
next_below phase (Read test) less = less

-- the rules speak of the pairs of places and phases
pub rules_inside : (places size : ℕ) (steps : List Step) (rules : List Rule) →
    AreInside places steps → AreRulesOf steps rules → size ≡ places * 9 →
    AreRulesInside size rules (0 ∷ [])
rules_inside places size steps rules inside are is = record {
  rule = λ r here.
      let o = are.only r here in
      let s = o.0 in
      let phase = o.2.0 in
      let less = o.2.1 in
      let from = inside.from s o.1 in
      let to = inside.to s o.1 in
      let next = next_below phase s.sign less in
      subst (λ (x : Rule). (x.place < size) × (x.first < size) × (x.second < size)) (sym o.2.2)
      (omega (arith, to, next, is), omega (arith, from, less, is), omega (arith, from, less, is));
  start = λ x here. elim (first_or_later 0 [] x here) [
    | inl e ↦ let two = inside.two in omega (arith, e, two, is)
    | inr later ↦ absurd (nothing_in later)
  ];
}

-- the rule as it is made
abbrev pub rule_with : Step → (phase next : ℕ) → Rule
rule_with s phase next = record {
  place = s.to * 9 + next;
  first = s.from * 9 + phase;
  second = s.from * 9 + phase;
}

pub rule_is : (rules : List Rule) (s : Step) (phase next : ℕ) → next ≡ next_phase phase s.sign →
    rules ++ rule_with s phase next ∷ [] ≡ rules ++ rule_at s phase ∷ []
rule_is rules s phase next is = ap (λ (k : ℕ). rules ++ rule_with s phase k ∷ []) is
