-- What follows by the rules is where chains of edges meet states.
use Rattle.std.proofs.Common.{arith, ◌≡◌, ◌∙◌, ℕ, ◌+◌, ◌*◌, ◌<◌, ◌⊎◌, inl, inr, Bool, true, List, [], ◌∷◌, ◌++◌, ap, get_or, length, refl, subst, sym, take}
use Rattle.std.specs.Prelude.{◌↔◌, ◌≤◌, Contains, IsSomeAnd, None, Option, Some, slice_get}
use Rattle.std.proofs.lemmas.Option.{slice_get_within}
use Rattle.std.proofs.lemmas.List.Elements.{Contains-append_left, Contains-push, Contains-push_cases}
use Rattle.ux_base.proofs.Lists.{contains_first, first_or_later, less_or, nothing_in, take_more, take_whole}
use Rattle.ux_digraph.specs.declared.closing.Rule.{Rule}
use Rattle.ux_digraph.specs.Rules.{AreRulesInside, Derived, by, fact, is_marked_at}
use Rattle.ux_net.specs.declared.state.Edge.{Edge}
use Rattle.ux_net.specs.declared.state.State.{State}
use Rattle.ux_marks.specs.declared.stage.Stage.{Stage}
use Rattle.ux_marks.specs.declared.stage.Stage.TheVariants.{Before, Inside, Behind}
use Rattle.ux_marks.specs.Marks.{Leaves, Meets, after, along, start}
use Rattle.ux_marks.specs.Meeting.{Adds, AreRulesOf, IsRuleAlong, IsRuleBelow, IsRuleIn, IsRuleTo, TellsStages, number_of, rule_along, stage_number}

pub stage_below : (stage : Stage) → stage_number stage < 3
stage_below Before = omega arith
stage_below Inside = omega arith
stage_below Behind = omega arith

same_stage : (s t : Stage) → stage_number s ≡ stage_number t → s ≡ t
same_stage Before Before e = refl
same_stage Before Inside e = absurd (omega (arith, e))
same_stage Before Behind e = absurd (omega (arith, e))
same_stage Inside Before e = absurd (omega (arith, e))
same_stage Inside Inside e = refl
same_stage Inside Behind e = absurd (omega (arith, e))
same_stage Behind Before e = absurd (omega (arith, e))
same_stage Behind Inside e = absurd (omega (arith, e))
same_stage Behind Behind e = refl

apart : (n m s t : ℕ) → s < 3 → t < 3 → n * 3 + s ≡ m * 3 + t → (n ≡ m) × (s ≡ t)
apart n m s t low less same = (omega (arith, low, less, same), omega (arith, low, less, same))

-- a number is that of one pair
one_pair : (n m : ℕ) (s t : Stage) → number_of n s ≡ number_of m t → (n ≡ m) × (s ≡ t)
one_pair n m s t same =
    let pair = apart n m (stage_number s) (stage_number t) (stage_below s) (stage_below t) same in
    (pair.0, same_stage s t pair.1)

module _ (states : List State) (rules : List Rule) (are : AreRulesOf states rules) where
  -- what follows is a state that a chain meets in a stage
  derived_meets : {x : ℕ} → Derived rules (0 ∷ []) x →
      (n : ℕ) × (stage : Stage) × (x ≡ number_of n stage) × Meets states stage n
  derived_meets (fact {x = x} here) = elim (first_or_later 0 [] x here) [
    | inl e ↦ (0, Before, sym e, start)
    | inr none ↦ absurd (nothing_in none)
  ]
  derived_meets (by r here first second) =
      let rule = (are r).0 here in
      let n = rule.0 in
      let edge = rule.2 in
      let stage = rule.5.0 in
      let is = rule.5.1 in
      let before = derived_meets first in
      let pair = one_pair before.0 n before.1 stage
      (sym before.2 ∙ ap (λ (q : Rule). q.first) is) in
      let met : Meets states stage n =
      subst (λ (s : Stage). Meets states s n) pair.1
      (subst (λ (m : ℕ). Meets states before.1 m) pair.0 before.3) in (
        edge.target,
        after stage edge.label,
        ap (λ (q : Rule). q.place) is,
        along edge met rule.3,
      )

  -- and each such state follows
  meets_derived : {stage : Stage} {n : ℕ} → Meets states stage n → n < length states →
      Derived rules (0 ∷ []) (number_of n stage)
  meets_derived start low = fact (contains_first 0 [])
  meets_derived (along {stage = stage} {n = n} edge met leaves) low =
      let from : n < length states = slice_get_within states n leaves.state leaves.found in
      let before = meets_derived met from in
      by (rule_along n edge stage)
      ((are (rule_along n edge stage)).1 (n, from, edge, leaves, low, (stage, refl))) before before

  pub tells_stages : (found : List Bool) →
      ((x : ℕ) → (is_marked_at found x ≡ true) ↔ Derived rules (0 ∷ []) x) →
      TellsStages states found
  tells_stages found marked n stage low = (
    λ h.
        let met = derived_meets ((marked (number_of n stage)).0 h) in
        let pair = one_pair met.0 n met.1 stage (sym met.2) in
        subst (λ (s : Stage). Meets states s n) pair.1
        (subst (λ (m : ℕ). Meets states met.1 m) pair.0 met.3),
    λ met. (marked (number_of n stage)).1 (meets_derived met low),
  )

  -- the rules speak of the pairs of states and stages
  pub rules_inside : (size : ℕ) → 1 ≤ length states → size ≡ length states * 3 →
      AreRulesInside size rules (0 ∷ [])
  rules_inside size some is = record {
    rule = λ r here.
        let rule = (are r).0 here in
        let from = rule.1 in
        let to = rule.4 in
        let stage = rule.5.0 in
        let low = stage_below stage in
        let next = stage_below (after stage rule.2.label) in
        subst (λ (x : Rule). (x.place < size) × (x.first < size) × (x.second < size))
        (sym rule.5.1) (omega (arith, to, next, is), omega (arith, from, low, is), omega (arith, from, low, is));
    start = λ x here. elim (first_or_later 0 [] x here) [
      | inl e ↦ omega (arith, e, some, is)
      | inr later ↦ absurd (nothing_in later)
    ];
  }

-- no rule leads from a state before the first
pub rules_none : (states : List State) (rule : Rule) → Contains [] rule ↔ IsRuleBelow states 0 rule
rules_none states rule = (
  λ none. absurd (nothing_in none),
  λ is. absurd (let less = is.1 in omega (arith, less)),
)

pub some_and : {A : Type 0} (o : Option A) (P : A → Type 0) → IsSomeAnd o P →
    (x : A) × (o ≡ Some x) × P x
some_and (Some x) P h = (x, refl, h)
some_and None P h = absurd h

-- the rules from one more state
pub rules_next : (states : List State) (k count : ℕ) (edges : List Edge) (old new : List Rule) →
    count ≡ length states → IsSomeAnd (slice_get states k) (λ (s : State). edges ≡ s.edges) →
    ((rule : Rule) → Contains old rule ↔ IsRuleBelow states k rule) →
    Adds (IsRuleIn count k edges) old new →
    (rule : Rule) → Contains new rule ↔ IsRuleBelow states (k + 1) rule
rules_next states k count edges old new whole at known adds rule =
    let s = some_and (slice_get states k) (λ (s : State). edges ≡ s.edges) at in (
      λ here. elim ((adds rule).0 here) [
        | inl before ↦
            let is = (known rule).0 before in
            let less = is.1 in
            (is.0, omega (arith, less), is.2, is.3, is.4, is.5)
        | inr is ↦ (
          k,
          omega arith,
          is.0,
          record {
            state = s.0;
            found = s.1;
            inside = subst (λ (l : List Edge). Contains l is.0) s.2 is.1;
          },
          subst (λ (c : ℕ). is.0.target < c) whole is.2.0,
          is.2.1,
        )
      ],
      λ is. elim (less_or is.0 k) [
        | inl before ↦ (adds rule).1 (inl ((known rule).1 (is.0, before, is.2, is.3, is.4, is.5)))
        | inr after ↦
            let below = is.1 in
            let same : is.0 ≡ k = omega (arith, after, below) in
            let found = subst (λ (n : ℕ). slice_get states n ≡ Some is.3.state) same is.3.found in
            let state : s.0 ≡ is.3.state = cc (s.1, found) in
            (adds rule).1 (inr (
              is.2,
              subst (λ (l : List Edge). Contains l is.2)
                  (sym (s.2 ∙ ap (λ (x : State). x.edges) state)) is.3.inside,
              (
                subst (λ (c : ℕ). is.2.target < c) (sym whole) is.4,
                subst (λ (n : ℕ). IsRuleAlong n is.2 rule) same is.5,
              ),
            ))
      ],
    )

-- one after the other, the rules of the three stages
pub adds_three : (n : ℕ) (edge : Edge) (old one two new : List Rule) (a b c : Rule) →
    a ≡ rule_along n edge Before → b ≡ rule_along n edge Inside → c ≡ rule_along n edge Behind →
    one ≡ old ++ a ∷ [] → two ≡ one ++ b ∷ [] → new ≡ two ++ c ∷ [] →
    Adds (IsRuleAlong n edge) old new
adds_three n edge old one two new a b c is_a is_b is_c first second third rule = (
  λ here. elim (Contains-push_cases two c rule (subst (λ (l : List Rule). Contains l rule) third here)) [
    | inl before ↦ elim (Contains-push_cases one b rule
        (subst (λ (l : List Rule). Contains l rule) second before)) [
          | inl early ↦ elim (Contains-push_cases old a rule
              (subst (λ (l : List Rule). Contains l rule) first early)) [
                | inl there ↦ inl there
                | inr is ↦ inr (Before, sym is ∙ is_a)
              ]
          | inr is ↦ inr (Inside, sym is ∙ is_b)
        ]
    | inr is ↦ inr (Behind, sym is ∙ is_c)
  ],
  λ either. elim either [
    | inl there ↦ last (middle (beginning there))
    | inr is ↦ at is.0 is.1
  ],
)
  where
    beginning : {x : Rule} → Contains old x → Contains one x
    beginning {x} h = subst (λ (l : List Rule). Contains l x) (sym first)
        (Contains-append_left old (a ∷ []) x h)

    middle : {x : Rule} → Contains one x → Contains two x
    middle {x} h = subst (λ (l : List Rule). Contains l x) (sym second)
        (Contains-append_left one (b ∷ []) x h)

    last : {x : Rule} → Contains two x → Contains new x
    last {x} h = subst (λ (l : List Rule). Contains l x) (sym third)
        (Contains-append_left two (c ∷ []) x h)

    at : (stage : Stage) → rule ≡ rule_along n edge stage → Contains new rule
    at Before is = subst (Contains new) (is_a ∙ sym is)
        (last (middle (subst (λ (l : List Rule). Contains l a) (sym first) (Contains-push old a))))
    at Inside is = subst (Contains new) (is_b ∙ sym is)
        (last (subst (λ (l : List Rule). Contains l b) (sym second) (Contains-push one b)))
    at Behind is = subst (Contains new) (is_c ∙ sym is)
        (subst (λ (l : List Rule). Contains l c) (sym third) (Contains-push two c))

-- along no edge there is none
pub adds_none : (count n : ℕ) (old : List Rule) → Adds (IsRuleIn count n []) old old
adds_none count n old rule = (
  λ here. inl here,
  λ either. elim either [ inl here ↦ here | inr is ↦ absurd (nothing_in is.1) ],
)

-- an edge that leads to no state adds none
pub adds_past : (count n : ℕ) (edge : Edge) (rules : List Rule) → count ≤ edge.target →
    Adds (IsRuleTo count n edge) rules rules
adds_past count n edge rules high rule = (
  λ here. inl here,
  λ either. elim either [
    | inl here ↦ here
    | inr is ↦ absurd (let low = is.0 in omega (arith, low, high))
  ],
)

-- one that leads to a state adds its rules
pub adds_to : (count n : ℕ) (edge : Edge) (old new : List Rule) → edge.target < count →
    Adds (IsRuleAlong n edge) old new → Adds (IsRuleTo count n edge) old new
adds_to count n edge old new low adds rule = (
  λ here. elim ((adds rule).0 here) [ inl before ↦ inl before | inr is ↦ inr (low, is) ],
  λ either. elim either [
    | inl before ↦ (adds rule).1 (inl before)
    | inr is ↦ (adds rule).1 (inr is.1)
  ],
)

-- along one more edge
pub adds_next : (count n : ℕ) (edges : List Edge) (i : ℕ) (edge : Edge) (old mid new : List Rule) →
    i < length edges → edge ≡ get_or edges i edge →
    Adds (IsRuleIn count n (take i edges)) old mid → Adds (IsRuleTo count n edge) mid new →
    Adds (IsRuleIn count n (take (i + 1) edges)) old new
adds_next count n edges i edge old mid new inside is known adds rule =
    let front : take (i + 1) edges ≡ take i edges ++ edge ∷ [] =
    take_more edges i edge inside ∙ ap (λ (x : Edge). take i edges ++ x ∷ []) (sym is) in (
      λ here. elim ((adds rule).0 here) [
        | inl before ↦ elim ((known rule).0 before) [
          | inl early ↦ inl early
          | inr r ↦ inr (
            r.0,
            subst (λ (l : List Edge). Contains l r.0) (sym front)
                (Contains-append_left (take i edges) (edge ∷ []) r.0 r.1),
            r.2,
          )
        ]
        | inr r ↦ inr (
          edge,
          subst (λ (l : List Edge). Contains l edge) (sym front)
              (Contains-push (take i edges) edge),
          r,
        )
      ],
      λ either. elim either [
        | inl early ↦ (adds rule).1 (inl ((known rule).1 (inl early)))
        | inr r ↦ elim (Contains-push_cases (take i edges) edge r.0
            (subst (λ (l : List Edge). Contains l r.0) front r.1)) [
              | inl before ↦ (adds rule).1 (inl ((known rule).1 (inr (r.0, before, r.2))))
              | inr same ↦ (adds rule).1
                  (inr (subst (λ (e : Edge). IsRuleTo count n e rule) (sym same) r.2))
            ]
      ],
    )

-- along all of them
pub adds_all : (count n : ℕ) (edges : List Edge) (i : ℕ) (old new : List Rule) → length edges ≤ i →
    Adds (IsRuleIn count n (take i edges)) old new → Adds (IsRuleIn count n edges) old new
adds_all count n edges i old new past known =
    subst (λ (l : List Edge). Adds (IsRuleIn count n l) old new) (take_whole edges i past) known

-- the rules from all states
pub rules_all : (states : List State) (k : ℕ) (rules : List Rule) → length states ≡ k →
    ((rule : Rule) → Contains rules rule ↔ IsRuleBelow states k rule) → AreRulesOf states rules
rules_all states k rules same known rule =
    subst (λ (n : ℕ). Contains rules rule ↔ IsRuleBelow states n rule) (sym same) (known rule)
