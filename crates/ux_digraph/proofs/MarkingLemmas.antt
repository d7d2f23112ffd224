-- Marking a place, applying a rule and taking a place from the list keep the state of the closure,
-- and where no rule waits the marks are what follows.
use Rattle.std.proofs.Common.{arith, ◌≡◌, ℕ, suc, ◌+◌, ◌<◌, ◌≤◌, List, [], ◌∷◌, ◌++◌, refl, sym, ◌∙◌, ap, subst, ◌⊎◌, inl, inr, length, length-append, get_or, set, Bool, true, false, ◌↔◌, drop, drop-cons}
use Rattle.std.specs.Prelude.{Contains}
use Rattle.std.proofs.lemmas.List.{get_or-set_same, get_or-set_other, get_or_default}
use Rattle.std.proofs.lemmas.List.Sums.{sum_by-set}
use Rattle.std.proofs.lemmas.List.Elements.{Contains-get_or, Contains-append_left, Contains-push, Contains-push_cases}
use Rattle.ux_base.proofs.Lists.{nothing_in, first_or_later, same_or, drop_whole}
use Rattle.ux_digraph.specs.declared.closing.Rule.{Rule}
use Rattle.ux_digraph.specs.Rules.{Derived, fact, by, AreRulesInside}
use Rattle.ux_digraph.specs.Marking.{HaveUses, Marking, Added, Applied, Waiting, IsRowDone, unmarked, work_left}
use Rattle.ux_digraph.specs.Rules.{is_marked_at}

pub added_before : (marks : List Bool) (work : List ℕ) (place : ℕ) →
    is_marked_at marks place ≡ true → Added marks work place marks work
added_before marks work place h = record {
  here = h;
  kept = λ x e. e;
  only = λ x e. inl e;
  noted = λ x c. c;
}

pub added_now : (marks : List Bool) (work later : List ℕ) (place : ℕ) → place < length marks →
    later ≡ work ++ place ∷ [] → Added marks work place (set marks place true) later
added_now marks work later place h is = record {
  here = get_or-set_same marks place true false h;
  kept = λ x e. elim (same_or x place) [
    | inl s ↦ rw s (get_or-set_same marks place true false h)
    | inr n ↦ get_or-set_other marks place x true false n ∙ e
  ];
  only = λ x e. elim (same_or x place) [
    | inl s ↦ inr (
      s,
      subst (λ (xs : List ℕ). Contains xs x) (sym is)
          (subst (λ n. Contains (work ++ place ∷ []) n) (sym s) (Contains-push work place)),
    )
    | inr n ↦ inl (sym (get_or-set_other marks place x true false n) ∙ e)
  ];
  noted = λ x c. subst (λ (xs : List ℕ). Contains xs x) (sym is)
      (Contains-append_left work (place ∷ []) x c);
}

pub left_now : (marks : List Bool) (work later : List ℕ) (place : ℕ) → place < length marks →
    is_marked_at marks place ≡ false → later ≡ work ++ place ∷ [] →
    work_left (set marks place true) later ≤ work_left marks work
left_now marks work later place h e is =
    let s = sum_by-set unmarked marks place true false h in
    let o : unmarked (is_marked_at marks place) ≡ 1 = rw e refl in
    let l : length later ≡ length work + 1 = ap length is ∙ length-append work (place ∷ []) in
    omega arith

module _ (rules : List Rule) (facts : List ℕ) where
  -- where no rule waits the marks are what follows
  pub marks_all : (marks : List Bool) → Marking rules facts marks (λ r. ⊥) → (x : ℕ) →
      Derived rules facts x → is_marked_at marks x ≡ true
  marks_all marks s x (fact h) = s.whole x h
  marks_all marks s x (by r h a b) =
      elim (s.closed r h (marks_all marks s r.first a) (marks_all marks s r.second b)) [
        | inl e ↦ e
        | inr n ↦ absurd n
      ]

  pub marks_exactly : (marks : List Bool) → Marking rules facts marks (λ r. ⊥) → (x : ℕ) →
      (is_marked_at marks x ≡ true) ↔ Derived rules facts x
  marks_exactly marks s x = (s.sound x, marks_all marks s x)

  -- the rule in front was not applied, since a premise is not marked
  passes : (marks : List Bool) (work : List ℕ) (r : Rule) (rest all : List Rule) →
      ((q : Rule) → Contains all q → (r ≡ q) ⊎ Contains rest q) →
      ((is_marked_at marks r.first ≡ true) × (is_marked_at marks r.second ≡ true) → ⊥) →
      Marking rules facts marks (Waiting work all) → Marking rules facts marks (Waiting work rest)
  passes marks work r rest all split not s = record {
    sound = s.sound;
    whole = s.whole;
    closed = λ q h a b. elim (s.closed q h a b) [
      | inl e ↦ inl e
      | inr w ↦ elim w [
        | inl x ↦ inr (inl x)
        | inr x ↦ elim (split q x) [
          | inl e ↦ absurd (not (
            subst (λ (z : Rule). is_marked_at marks z.first ≡ true) (sym e) a,
            subst (λ (z : Rule). is_marked_at marks z.second ≡ true) (sym e) b,
          ))
          | inr y ↦ inr (inr y)
        ]
      ]
    ];
  }

  -- the rule in front is applied
  applies : (marks more : List Bool) (work later : List ℕ) (r : Rule) (rest all : List Rule) →
      ((q : Rule) → Contains all q → (r ≡ q) ⊎ Contains rest q) → Contains rules r →
      is_marked_at marks r.first ≡ true → is_marked_at marks r.second ≡ true →
      Added marks work r.place more later → Marking rules facts marks (Waiting work all) →
      Marking rules facts more (Waiting later rest)
  applies marks more work later r rest all split in_rules a b added s = record {
    sound = λ x e. elim (added.only x e) [
      | inl o ↦ s.sound x o
      | inr n ↦ subst (λ y. Derived rules facts y) (sym n.0)
          (by r in_rules (s.sound r.first a) (s.sound r.second b))
    ];
    whole = λ x h. added.kept x (s.whole x h);
    closed = λ q h c d. elim (added.only q.first c) [
      | inr n ↦ inr (inl (inl n.1))
      | inl c' ↦ elim (added.only q.second d) [
        | inr n ↦ inr (inl (inr n.1))
        | inl d' ↦ elim (s.closed q h c' d') [
          | inl e ↦ inl (added.kept q.place e)
          | inr w ↦ elim w [
            | inl x ↦ elim x [
              | inl y ↦ inr (inl (inl (added.noted q.first y)))
              | inr y ↦ inr (inl (inr (added.noted q.second y)))
            ]
            | inr x ↦ elim (split q x) [
              | inl e ↦ inl (subst (λ (z : Rule). is_marked_at more z.place ≡ true) e added.here)
              | inr y ↦ inr (inr y)
            ]
          ]
        ]
      ]
    ];
  }

  -- a noted place is taken: the rules that it is a premise of are to be looked at
  pub takes : (uses : List (List Rule)) → HaveUses rules uses → (marks : List Bool)
      (work left : List ℕ) (x : ℕ) → work ≡ left ++ x ∷ [] →
      Marking rules facts marks (Waiting work []) →
      Marking rules facts marks (Waiting left (get_or uses x []))
  takes uses have marks work left x is s = record {
    sound = s.sound;
    whole = s.whole;
    closed = λ q h a b. elim (s.closed q h a b) [
      | inl e ↦ inl e
      | inr w ↦ elim w [
        | inl y ↦ elim y [
          | inl f ↦ elim (cases q.first f) [
            | inl l ↦ inr (inl (inl l))
            | inr e ↦ inr (inr (subst (λ n. Contains (get_or uses n []) q) (sym e)
                (have.first q h)))
          ]
          | inr f ↦ elim (cases q.second f) [
            | inl l ↦ inr (inl (inr l))
            | inr e ↦ inr (inr (subst (λ n. Contains (get_or uses n []) q) (sym e)
                (have.second q h)))
          ]
        ]
        | inr y ↦ absurd (nothing_in y)
      ]
    ];
  }
    where
      cases : (n : ℕ) → Contains work n → Contains left n ⊎ (x ≡ n)
      cases n f = Contains-push_cases left x n (subst (λ (xs : List ℕ). Contains xs n) is f)

  -- with nothing to look at no rule waits
  pub none_waits : (marks : List Bool) (work : List ℕ) → work ≡ [] →
      Marking rules facts marks (Waiting work []) → Marking rules facts marks (λ r. ⊥)
  none_waits marks work is s = record {
    sound = s.sound;
    whole = s.whole;
    closed = λ q h a b. elim (s.closed q h a b) [
      | inl e ↦ inl e
      | inr w ↦ elim w [
        | inl y ↦ elim y [ inl f ↦ absurd (none q.first f) | inr f ↦ absurd (none q.second f) ]
        | inr y ↦ absurd (nothing_in y)
      ]
    ];
  }
    where
      none : (n : ℕ) → Contains work n → ⊥
      none n f = nothing_in (subst (λ (xs : List ℕ). Contains xs n) is f)

  -- one more rule of a row
  looked : (marks more : List Bool) (work later : List ℕ) (row : List Rule) (i : ℕ) (r : Rule) →
      i < length row → r ≡ get_or row i r → ((q : Rule) → Contains row q → Contains rules q) →
      Applied marks work r more later → Marking rules facts marks (Waiting work (drop i row)) →
      Marking rules facts more (Waiting later (drop (i + 1) row))
  looked marks more work later row i r h is known applied s =
      let n : suc i ≡ i + 1 = omega arith in
      let e : drop i row ≡ r ∷ drop (i + 1) row =
      drop-cons row i r h ∙ (ap (λ (x : Rule). x ∷ drop (suc i) row) (sym is)
      ∙ ap (λ n. r ∷ drop n row) n) in
      let split : (q : Rule) → Contains (drop i row) q → (r ≡ q) ⊎ Contains (drop (i + 1) row) q =
      λ q c. first_or_later r (drop (i + 1) row) q (subst (λ (xs : List Rule). Contains xs q) e c)
      in
      let in_row : Contains row r = (i, h, sym is) in
      elim applied [
        | inl a ↦ applies marks more work later r (drop (i + 1) row) (drop i row) split
            (known r in_row) a.0 a.1 a.2 s
        | inr n ↦ subst (λ (m : List Bool). Marking rules facts m
            (Waiting later (drop (i + 1) row))) (sym n.1)
            (subst (λ (w : List ℕ). Marking rules facts marks (Waiting w (drop (i + 1) row)))
            (sym n.2) (passes marks work r (drop (i + 1) row) (drop i row) split n.0 s))
      ]

-- how far a row was looked through
pub record IsLook (row : List Rule) (before : List Bool) (noted : List ℕ) (marks : List Bool)
    (work : List ℕ) (rest : List Rule) : Type 0 where
  pub len : length marks ≡ length before
  pub left : work_left marks work ≤ work_left before noted
  pub done : (rules : List Rule) (facts : List ℕ) →
      ((r : Rule) → Contains row r → Contains rules r) →
      Marking rules facts before (Waiting noted row) →
      Marking rules facts marks (Waiting work rest)

module _ (row : List Rule) (before : List Bool) (noted : List ℕ) where
  pub look_goes_on : (marks more : List Bool) (work later : List ℕ) (i : ℕ) (d : Rule) →
      i < length row → IsLook row before noted marks work (drop i row) →
      length more ≡ length marks → work_left more later ≤ work_left marks work →
      Applied marks work (get_or row i d) more later →
      IsLook row before noted more later (drop (i + 1) row)
  look_goes_on marks more work later i d h l len less applied = record {
    len = len ∙ l.len;
    left = let a = l.left in omega arith;
    done = λ rules facts known begun.
        looked rules facts marks more work later row i (get_or row i d) h
        (get_or_default row i d (get_or row i d) h) known applied
        (l.done rules facts known begun);
  }

  pub look_ends : (marks : List Bool) (work : List ℕ) (i : ℕ) → length row ≤ i →
      IsLook row before noted marks work (drop i row) → IsRowDone row before noted marks work
  look_ends marks work i h l = λ rules facts known begun.
      subst (λ (xs : List Rule). Marking rules facts marks (Waiting work xs))
      (drop_whole row i h) (l.done rules facts known begun)

-- each rule of the row speaks of places
pub rule_inside : (row : List Rule) (size now i : ℕ) (d : Rule) → AreRulesInside size row [] →
    now ≡ size → i < length row → ((get_or row i d).place < now)
    × ((get_or row i d).first < now) × ((get_or row i d).second < now)
rule_inside row size now i d inside is h =
    let x = inside.rule (get_or row i d) (Contains-get_or row i d h) in
    (let a = x.0 in omega arith, let a = x.1 in omega arith, let a = x.2 in omega arith)

module _ (rules : List Rule) where
  -- with no fact nothing is marked
  pub begins : (marks : List Bool) (work : List ℕ) → ((x : ℕ) → is_marked_at marks x ≡ false) →
      Marking rules [] marks (Waiting work [])
  begins marks work none = record {
    sound = λ x e. let n : false ≡ true = sym (none x) ∙ e in cc;
    whole = λ x h. absurd (nothing_in h);
    closed = λ r h a b. let n : false ≡ true = sym (none r.first) ∙ a in cc;
  }

  -- one more fact
  pub more_facts : (facts all : List ℕ) (marks more : List Bool) (work later : List ℕ) (x : ℕ) →
      all ≡ facts ++ x ∷ [] → Added marks work x more later →
      Marking rules facts marks (Waiting work []) → Marking rules all more (Waiting later [])
  more_facts facts all marks more work later x is added s = record {
    sound = λ y e. subst (λ (fs : List ℕ). Derived rules fs y) (sym is) (elim (added.only y e) [
      | inl o ↦ wider y (s.sound y o)
      | inr n ↦ fact (subst (λ z. Contains (facts ++ x ∷ []) z) (sym n.0) (Contains-push facts x))
    ]);
    whole = λ y h. elim (Contains-push_cases facts x y
        (subst (λ (fs : List ℕ). Contains fs y) is h)) [
          | inl o ↦ added.kept y (s.whole y o)
          | inr e ↦ subst (λ z. is_marked_at more z ≡ true) e added.here
        ];
    closed = λ q h a b. elim (added.only q.first a) [
      | inr n ↦ inr (inl (inl n.1))
      | inl a' ↦ elim (added.only q.second b) [
        | inr n ↦ inr (inl (inr n.1))
        | inl b' ↦ elim (s.closed q h a' b') [
          | inl e ↦ inl (added.kept q.place e)
          | inr w ↦ elim w [
            | inl y ↦ elim y [
              | inl z ↦ inr (inl (inl (added.noted q.first z)))
              | inr z ↦ inr (inl (inr (added.noted q.second z)))
            ]
            | inr y ↦ absurd (nothing_in y)
          ]
        ]
      ]
    ];
  }
    where
      wider : (y : ℕ) → Derived rules facts y → Derived rules (facts ++ x ∷ []) y
      wider y (fact c) = fact (Contains-append_left facts (x ∷ []) y c)
      wider y (by r c a b) = by r c (wider r.first a) (wider r.second b)

-- how far the closure has come
pub record IsClosing (rules : List Rule) (facts : List ℕ) (size : ℕ) (marks : List Bool)
    (work : List ℕ) : Type 0 where
  pub len : length marks ≡ size
  pub state : Marking rules facts marks (Waiting work [])
