-- The places that reach an end are those that follow by rules, one for each step and each jump.
use Rattle.std.proofs.Common.{arith, ◌≡◌, ℕ, ◌<◌, List, [], ◌∷◌, length, get_or, refl, subst, sym, ◌⊎◌, inl, inr, ◌↔◌, Bool, true, false, nat_eq}
use Rattle.std.specs.Prelude.{Contains, Option, Some, None}
use Rattle.std.proofs.lemmas.Bool.{eqb-true}
use Rattle.ux_digraph.specs.Paths.{row_of}
use Rattle.ux_base.proofs.Lists.{nothing_in, contains_first}
use Rattle.ux_digraph.specs.Rules.{Derived, fact, by, AreRulesInside, is_marked_at}
use Rattle.ux_digraph.specs.declared.closing.Rule.{Rule}
use Rattle.ux_admission.specs.declared.leading.Leading.{Leading}
use Rattle.ux_admission.specs.BadContexts.{rule_to, IsRuleFrom, Ends, stops, follows, passes, IsStepRule, IsJumpRule, IsNextRule, AreNextRules, AreEndMarks, IsUnclosed, IsBad, IsLeastOf, IsLesser}
use Rattle.ux_admission.specs.Gains.{Gains, SoBelow, SoOfOne}
use Rattle.ux_admission.specs.Leading.{is_noted, no_marks, IsLeadingInside, AreClosersIn}
use Rattle.ux_net.specs.Words.{Sign, ordinary, opens}
use Rattle.ux_admission.proofs.FindingLemmas.{row_inside, closes_inside}
use Rattle.ux_admission.proofs.GainsLemmas.{gains_as, gains_none}

-- a list that isn't empty has an item
pub item_of : (xs : List ℕ) → nat_eq (length xs) 0 ≡ false → (x : ℕ) × Contains xs x
item_of [] e = absurd (cc)
item_of (x ∷ xs) e = (x, contains_first x xs)

-- an empty one has none
pub none_of : (xs : List ℕ) → nat_eq (length xs) 0 ≡ true → (x : ℕ) → Contains xs x → ⊥
none_of [] e x h = nothing_in {x = x} h
none_of (y ∷ xs) e x h =
    let none = eqb-true (length (y ∷ xs)) 0 e in absurd (omega arith)

module _ (leading : Leading) where
  -- the rules of the sources of a place with an ordinary line are those of its steps
  pub step_rules : (before after : List Rule) (n : ℕ) →
      is_noted ordinary (get_or leading.marks.items n no_marks) ≡ true →
      Gains before after (IsRuleFrom (row_of leading.sources.items n) n) →
      Gains before after (IsStepRule leading n)
  step_rules before after n noted gains =
      gains_as before after (IsRuleFrom (row_of leading.sources.items n) n)
      (IsStepRule leading n)
      (λ r. (λ s. (s.0, (s.1, noted), s.2), λ s. (s.0, s.1.0, s.2))) gains

  -- a place with no ordinary line has none
  pub no_step_rules : (rules : List Rule) (n : ℕ) →
      (is_noted ordinary (get_or leading.marks.items n no_marks) ≡ true → ⊥) →
      Gains rules rules (IsStepRule leading n)
  no_step_rules rules n never =
      gains_none rules (IsStepRule leading n) (λ r s. never s.1.1)

  -- the rules of the sources of a place with an opening line, one for each closer
  pub jump_rules : (before after : List Rule) (closers : List ℕ) (n : ℕ) →
      ((sign : Sign) × (is_noted (opens sign) (get_or leading.marks.items n no_marks) ≡ true)) →
      Gains before after (SoOfOne closers (IsRuleFrom (row_of leading.sources.items n))) →
      Gains before after (IsJumpRule leading closers n)
  jump_rules before after closers n noted gains =
      gains_as before after (SoOfOne closers (IsRuleFrom (row_of leading.sources.items n)))
      (IsJumpRule leading closers n) (λ r. (
        λ s. (s.0, s.1, (s.2.0, (noted.0, (s.2.1, noted.1)), s.2.2)),
        λ s. (s.0, s.1, (s.2.0, s.2.1.1.0, s.2.2)),
      )) gains

  -- a place with no opening line has none
  pub no_jump_rules : (rules : List Rule) (closers : List ℕ) (n : ℕ) →
      ((sign : Sign) × (is_noted (opens sign) (get_or leading.marks.items n no_marks) ≡ true)
      → ⊥) →
      Gains rules rules (IsJumpRule leading closers n)
  no_jump_rules rules closers n never =
      gains_none rules (IsJumpRule leading closers n)
      (λ r s. never (s.2.1.0, s.2.1.1.1))

  module _ (rows : List (List ℕ)) (are : AreClosersIn leading rows) where
    -- the rules of all places
    pub next_rules : (before after : List Rule) →
        Gains before after (SoBelow (length leading.sources.items)
        (λ n r. IsStepRule leading n r ⊎ IsJumpRule leading (row_of rows n) n r)) →
        Gains before after (IsNextRule leading)
    next_rules before after gains =
        gains_as before after (SoBelow (length leading.sources.items)
        (λ n r. IsStepRule leading n r ⊎ IsJumpRule leading (row_of rows n) n r))
        (IsNextRule leading) (λ r. (
          λ s. elim s.2 [
            | inl t ↦ inl (s.0, t)
            | inr t ↦ inr (s.0, t.2.0, t.0, t.2.1, (are.row s.0 t.0).0 t.1, t.2.2)
          ],
          λ s. elim s [
            | inl t ↦ (
              t.0,
              row_inside leading.sources.items t.0 t.1.0 t.1.1.0,
              inl t.1,
            )
            | inr t ↦ (
              t.0,
              row_inside leading.sources.items t.0 t.1 t.3.1.0,
              inr (t.2, (are.row t.0 t.2).1 t.4, (t.1, t.3, t.5)),
            )
          ],
        )) gains

  module _ (rules : List Rule) (exact : AreNextRules leading rules) where
    -- the rules speak of places that are there
    pub rules_inside : IsLeadingInside leading →
        AreRulesInside (length leading.sources.items) rules (row_of leading.sources.items 1)
    rules_inside inside = record {
      rule = λ r h. elim ((exact r).0 h) [
        | inl s ↦ subst (λ (z : Rule). (z.place < length leading.sources.items)
            × (z.first < length leading.sources.items)
            × (z.second < length leading.sources.items)) s.1.2
            (let at = row_inside leading.sources.items s.0 s.1.0 s.1.1.0 in
            (inside.source s.1.0 s.0 s.1.1.0, at, at))
        | inr s ↦ subst (λ (z : Rule). (z.place < length leading.sources.items)
            × (z.first < length leading.sources.items)
            × (z.second < length leading.sources.items)) s.5
            (let at = (closes_inside leading inside s.4).1 in
            (inside.source s.1 s.0 s.3.1.0, at, at))
      ];
      start = λ x h. inside.source x 1 h;
    }

    derived_ends : {x : ℕ} → Derived rules (row_of leading.sources.items 1) x → Ends leading x
    derived_ends (fact h) = stops h
    derived_ends (by r h a b) =
        let first = derived_ends a in
        elim ((exact r).0 h) [
          | inl s ↦ subst (λ (z : Rule). Ends leading z.place) s.1.2 (follows s.1.1
              (subst (λ (z : Rule). Ends leading z.first) (sym s.1.2) first))
          | inr s ↦ subst (λ (z : Rule). Ends leading z.place) s.5 (passes s.3 s.4
              (subst (λ (z : Rule). Ends leading z.first) (sym s.5) first))
        ]

    ends_derived : {x : ℕ} → Ends leading x → Derived rules (row_of leading.sources.items 1) x
    ends_derived (stops h) = fact h
    ends_derived (follows {a = a} {b = b} l r) =
        let rest = ends_derived r in
        by (rule_to a b) ((exact (rule_to a b)).1 (inl (b, (a, l, refl)))) rest rest
    ends_derived (passes {a = a} {o = o} {d = d} q p r) =
        let rest = ends_derived r in
        by (rule_to a d) ((exact (rule_to a d)).1 (inr (o, a, d, q, p, refl))) rest rest

    -- what follows by them is what reaches an end
    pub marks_are : (marks : List Bool) →
        ((x : ℕ) → (is_marked_at marks x ≡ true)
        ↔ Derived rules (row_of leading.sources.items 1) x) → AreEndMarks leading marks
    marks_are marks made = record {
      exact = λ a. (
        λ h. derived_ends ((made a).0 h),
        λ e. (made a).1 (ends_derived e),
      );
    }

    -- the same by the sources of place 1
    pub marks_made : (marks : List Bool) (sources : List ℕ) →
        sources ≡ row_of leading.sources.items 1 →
        ((x : ℕ) → (is_marked_at marks x ≡ true) ↔ Derived rules sources x) →
        AreEndMarks leading marks
    marks_made marks sources same made = marks_are marks
        (subst (λ (row : List ℕ). (x : ℕ) → (is_marked_at marks x ≡ true) ↔ Derived rules row x)
        same made)

  -- a place into which a context opens is there
  pub unclosed_inside : (n : ℕ) → IsUnclosed leading n → n < length leading.sources.items
  unclosed_inside n (inl x) = row_inside leading.sources.items n x.0.0 x.0.1.1.0
  unclosed_inside n (inr x) = row_inside leading.sources.items n x.0.0 x.0.1.0

  module _ (rows : List (List ℕ)) (are : AreClosersIn leading rows) where
    -- the lesser of the least unclosed and the least unopened place is the least bad one
    pub least_bad : (first second least : Option ℕ) → IsLeastOf (IsUnclosed leading) first →
        IsLeastOf (λ n. Contains (row_of rows 0) n) second → IsLesser first second least →
        IsLeastOf (IsBad leading) least
    least_bad None None least f s is =
        subst (λ (o : Option ℕ). IsLeastOf (IsBad leading) o) (sym is) (λ n bad. elim bad [
          | inl u ↦ f n u
          | inr c ↦ s n ((are.row 0 n).1 c)
        ])
    least_bad None (Some b) least f s is =
        subst (λ (o : Option ℕ). IsLeastOf (IsBad leading) o) (sym is) (
          inr ((are.row 0 b).0 s.0),
          λ m l bad. elim bad [
            | inl u ↦ f m u
            | inr c ↦ s.1 m l ((are.row 0 m).1 c)
          ],
        )
    least_bad (Some a) None least f s is =
        subst (λ (o : Option ℕ). IsLeastOf (IsBad leading) o) (sym is) (
          inl f.0,
          λ m l bad. elim bad [
            | inl u ↦ f.1 m l u
            | inr c ↦ s m ((are.row 0 m).1 c)
          ],
        )
    least_bad (Some a) (Some b) None f s is = absurd is
    least_bad (Some a) (Some b) (Some n) f s is = (
      elim is.2 [
        | inl e ↦ inl (subst (λ k. IsUnclosed leading k) (sym e) f.0)
        | inr e ↦ inr ((are.row 0 n).0 (subst (λ k. Contains (row_of rows 0) k) (sym e) s.0))
      ],
      λ m l bad.
          let low = is.0 in
          let lower = is.1 in
          elim bad [
            | inl u ↦ f.1 m (omega arith) u
            | inr c ↦ s.1 m (omega arith) ((are.row 0 m).1 c)
          ],
    )
