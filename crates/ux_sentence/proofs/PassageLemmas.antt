-- The states that steps up lead on to the last one: the steps are gone through by the states that they
-- leave, the greatest first, so what is known of a state stays.
use Rattle.std.proofs.Common.{arith, ◌≡◌, ℕ, ◌+◌, ◌-◌, ◌<◌, ◌≤◌, ◌↔◌, List, [], ◌∷◌, ◌++◌, refl, sym, ◌∙◌, ap, subst, ◌⊎◌, inl, inr, length, get_or, take}
use Rattle.std.specs.Prelude.{All, Contains}
use Rattle.std.specs.List.Sorted.{IsNonDecreasingBy, IsPermutation}
use Rattle.std.proofs.lemmas.List.Elements.{All-nil, All-cons, All-head, All-tail, Contains-push_cases, Contains-push, Contains-append_left, Contains-get_or}
use Rattle.std.proofs.lemmas.List.{get_or_default}
use Rattle.std.proofs.lemmas.List.Sorted.{Contains-permutation, IsPermutation-sym}
use Rattle.std.specs.Ordering.{nat_cmp, is_eq}
use Rattle.std.specs.declared.cmp.Ordering.{Ordering}
use Rattle.std.specs.declared.cmp.Ordering.TheVariants.{Less, Equal, Greater}
use Rattle.std.specs.Cmp.{nat_cmp_total}
use Rattle.std.specs.BTreeMap.{is_at}
use Rattle.std.specs.BTreeSet.{BTreeSet, contains, Updates}
use Rattle.std.proofs.Common.{Bool, true, false, cond, IsTrue}
use Rattle.std.proofs.lemmas.Map.Lookups.{exact_unsigned}
use Rattle.std.proofs.lemmas.Map.Views.{btree_set_contains_iff}
use Rattle.ux_base.proofs.Lists.{nothing_in, less_or, take_more}
use Rattle.ux_sentence.specs.declared.sentence.Link.{Link}
use Rattle.ux_sentence.specs.declared.sentence.Sentence.{Sentence}
use Rattle.ux_sentence.specs.Paths.{IsPath, last_of}
use Rattle.ux_sentence.specs.Written.{LeadsUp, HasPath}
use Rattle.ux_sentence.specs.Passages.{IsStepOf, AreSteps, Leads, stays, steps_on, left_by, PassesStep}

-- a look-up finds exactly the set's states
pub reads : (s : BTreeSet ℕ) (q : ℕ) → (contains nat_cmp s q ≡ true) ↔ Contains s.keys q
reads s q = let h = btree_set_contains_iff nat_cmp_total exact_unsigned s q in h

either : (b c : Bool) → cond b true c ≡ true → (b ≡ true) ⊎ (c ≡ true)
either true c h = inl refl
either false c h = inr h

both : (b : Bool) → cond b true true ≡ true
both true = refl
both false = refl

equal_from_test : (o : Ordering) → is_eq o ≡ true → o ≡ Equal
equal_from_test Less h = cc
equal_from_test Equal h = refl
equal_from_test Greater h = cc

-- the set finds a state that was there before
found_before : (s n : BTreeSet ℕ) (at e : ℕ) → Updates nat_cmp s n at true →
    Contains s.keys e → Contains n.keys e
found_before s n at e u old =
    let was = (reads s e).1 old in
    let kept = ap (λ c. cond (is_at (nat_cmp at) e) true c) was ∙ both (is_at (nat_cmp at) e) in
    (reads n e).0 (u.0 e ∙ kept)

-- a set after one more state
pub state_put : (s n : BTreeSet ℕ) (at : ℕ) → Updates nat_cmp s n at true →
    (e : ℕ) → Contains n.keys e ↔ (Contains s.keys e ⊎ (e ≡ at))
state_put s n at u e = (
  λ h.
      let found = sym (u.0 e) ∙ (reads n e).1 h in
      elim (either (is_at (nat_cmp at) e) (contains nat_cmp s e) found) [
        | inl t ↦ inr (sym (exact_unsigned at e (equal_from_test (nat_cmp at e) t)))
        | inr t ↦ inl ((reads s e).0 t)
      ],
  λ h. elim h [
    | inl old ↦ found_before s n at e u old
    | inr same ↦ subst (λ (q : ℕ). Contains n.keys q) (sym same) ((reads n at).0 u.1)
  ],
)

-- the steps of one more link
pub AreSteps-push : (links : List Link) (link : Link) (steps : List (ℕ × ℕ)) →
    AreSteps links steps → link.from < link.to →
    AreSteps (links ++ link ∷ []) (steps ++ (link.from, link.to) ∷ [])
AreSteps-push links link steps so_far up =
    let new : ℕ × ℕ = (link.from, link.to) in
    record {
      each = λ step h. elim (Contains-push_cases steps new step h) [
        | inl old ↦
            let is = so_far.each step old in
            (is.0, (is.1.0, Contains-append_left links (link ∷ []) is.1.0 is.1.1, is.1.2, is.1.3))
        | inr same ↦
            subst (λ (s : ℕ × ℕ). IsStepOf (links ++ link ∷ []) s) same
            (up, (link, Contains-push links link, refl, refl))
      ];
      all = λ other h leads. elim (Contains-push_cases links link other h) [
        | inl old ↦ Contains-append_left steps (new ∷ []) (other.from, other.to)
            (so_far.all other old leads)
        | inr same ↦
            subst (λ (l : Link). Contains (steps ++ new ∷ []) (l.from, l.to)) same
            (Contains-push steps new)
      ];
    }

-- a link that doesn't lead up has no step
pub AreSteps-skip : (links : List Link) (link : Link) (steps : List (ℕ × ℕ)) →
    AreSteps links steps → link.to ≤ link.from → AreSteps (links ++ link ∷ []) steps
AreSteps-skip links link steps so_far down =
    record {
      each = λ step h.
          let is = so_far.each step h in
          (is.0, (is.1.0, Contains-append_left links (link ∷ []) is.1.0 is.1.1, is.1.2, is.1.3));
      all = λ other h leads. elim (Contains-push_cases links link other h) [
        | inl old ↦ so_far.all other old leads
        | inr same ↦
            let from = ap (λ (l : Link). l.from) same in
            let to = ap (λ (l : Link). l.to) same in
            absurd (omega (arith, leads, down, from, to))
      ];
    }

pub AreSteps-none : AreSteps [] []
AreSteps-none = record {
  each = λ step h. absurd (nothing_in h);
  all = λ link h leads. absurd (nothing_in h);
}

-- the steps in another order
pub AreSteps-permutation : (links : List Link) (steps other : List (ℕ × ℕ)) →
    AreSteps links steps → IsPermutation steps other → AreSteps links other
AreSteps-permutation links steps other are one = record {
  each = λ step h. are.each step
      (Contains-permutation other steps step (IsPermutation-sym steps other one) h);
  all = λ link h leads. Contains-permutation steps other (link.from, link.to) one
      (are.all link h leads);
}

-- below, or the same
less_or_same : (a b : ℕ) → a ≤ b → (a < b) ⊎ (b ≡ a)
less_or_same a b le = elim (less_or a b) [ inl less ↦ inl less | inr more ↦ inr (omega arith) ]

-- what stands at a place doesn't depend on what would stand past the end
found_same : (steps : List (ℕ × ℕ)) (place k : ℕ) (d at : ℕ × ℕ) → k ≡ place →
    place < length steps → at ≡ get_or steps place at → get_or steps k d ≡ at
found_same steps place k d at equal within is =
    ap (λ (n : ℕ). get_or steps n d) equal ∙ get_or_default steps place d at within ∙ sym is

-- what is known of states, once the steps from this place on were gone through
pub record IsKnown (steps : List (ℕ × ℕ)) (last place : ℕ) (states : List ℕ) : Type 0 where
  pub inside : place ≤ length steps
  pub has_last : Contains states last
  pub sound : (state : ℕ) → Contains states state → Leads steps state last
  pub closed : (k : ℕ) (d : ℕ × ℕ) → place ≤ k → k < length steps →
      Contains states (get_or steps k d).1 → Contains states (get_or steps k d).0

-- at first the last state alone is known
pub known_first : (steps : List (ℕ × ℕ)) (last place : ℕ) (none states : List ℕ) →
    none ≡ [] → place ≡ length steps →
    ((state : ℕ) → Contains states state ↔ (Contains none state ⊎ (state ≡ last))) →
    IsKnown steps last place states
known_first steps last place none states empty is put = record {
  inside = omega arith;
  has_last = (put last).1 (inr refl);
  sound = λ state h. elim ((put state).0 h) [
    | inl old ↦ absurd (nothing_in (subst (λ (ss : List ℕ). Contains ss state) empty old))
    | inr same ↦ subst (λ (s : ℕ). Leads steps s last) (sym same) (stays last)
  ];
  closed = λ k d from inside h. absurd (omega (arith, is, from, inside));
}

-- one more step is gone through
pub known_more : (steps : List (ℕ × ℕ)) (last before place : ℕ) (at : ℕ × ℕ)
    (old states : List ℕ) → IsNonDecreasingBy left_by steps →
    ((s : ℕ × ℕ) → Contains steps s → s.0 < s.1) → before ≡ place + 1 →
    at ≡ get_or steps place at → IsKnown steps last before old → PassesStep old at states →
    IsKnown steps last place states
known_more steps last before place at old states ascend up next is known put =
    let within : place < length steps = omega (arith, known.inside, next) in
    let here : Contains steps at = (place, within, sym is) in
    record {
      inside = omega arith;
      has_last = (put.each last).1 (inl known.has_last);
      sound = λ state h. elim ((put.each state).0 h) [
        | inl was ↦ known.sound state was
        | inr new ↦ subst (λ (s : ℕ). Leads steps s last) (sym new.0)
            (steps_on at.0 at.1 last here (known.sound at.1 new.1))
      ];
      closed = λ k d from inside h.
          let other = get_or steps k d in
          elim ((put.each other.1).0 h) [
            | inl was ↦ elim (less_or_same place k from) [
              | inl less ↦ (put.each other.0).1
                  (inl (known.closed k d (omega (arith, next, less)) inside was))
              | inr equal ↦
                  let same : get_or steps k d ≡ at =
                  found_same steps place k d at equal within is in
                  (put.each other.0).1
                  (inr (
                    ap left_by same,
                    subst (λ (s : ℕ × ℕ). Contains old s.1) same was,
                  ))
            ]
            | inr back ↦
                let order = ascend place k d from inside in
                let first = ap left_by (found_same steps place place d at refl within is) in
                let rises = up other (Contains-get_or steps k d inside) in
                absurd (omega (arith, order, first, rises, back.0))
          ];
    }

-- what a step passes on, where the state to which it leads is there, and where it isn't
pub passes_known : (old new : List ℕ) (at : ℕ × ℕ) → Contains old at.1 →
    ((state : ℕ) → Contains new state ↔ (Contains old state ⊎ (state ≡ at.0))) →
    PassesStep old at new
passes_known old new at to put = record {
  each = λ state. (
    λ h. elim ((put state).0 h) [ inl was ↦ inl was | inr same ↦ inr (same, to) ],
    λ h. elim h [ inl was ↦ (put state).1 (inl was) | inr new ↦ (put state).1 (inr new.0) ],
  );
}

pub passes_none : (old : List ℕ) (at : ℕ × ℕ) → (Contains old at.1 → ⊥) → PassesStep old at old
passes_none old at none = record {
  each = λ state. (
    λ h. inl h,
    λ h. elim h [ inl was ↦ was | inr new ↦ absurd (none new.1) ],
  );
}

-- the step at the next place is gone through
pub known_next : (steps : List (ℕ × ℕ)) (last before : ℕ) (d : ℕ × ℕ) (old states : List ℕ) →
    IsNonDecreasingBy left_by steps → ((s : ℕ × ℕ) → Contains steps s → s.0 < s.1) →
    0 < before → IsKnown steps last before old →
    PassesStep old (get_or steps (before - 1) d) states →
    IsKnown steps last (before - 1) states
known_next steps last before d old states ascend up some known put =
    let place = before - 1 in
    let within : place < length steps = omega (arith, known.inside, some) in
    known_more steps last before place (get_or steps place d) old states ascend up
    (omega (arith, some)) (get_or_default steps place d (get_or steps place d) within) known put

-- the steps of the links so far and the next one
pub steps_more : (links : List Link) (i : ℕ) (link : Link) (steps new : List (ℕ × ℕ)) →
    i < length links → link ≡ get_or links i link → AreSteps (take i links) steps →
    link.from < link.to → new ≡ steps ++ (link.from, link.to) ∷ [] →
    AreSteps (take (i + 1) links) new
steps_more links i link steps new lt is so_far up added =
    let front : take i links ++ link ∷ [] ≡ take (i + 1) links =
    ap (λ (l : Link). take i links ++ l ∷ []) is ∙ sym (take_more links i link lt) in
    subst (λ (ls : List Link). AreSteps ls new) front
    (subst (λ (ss : List (ℕ × ℕ)). AreSteps (take i links ++ link ∷ []) ss) (sym added)
    (AreSteps-push (take i links) link steps so_far up))

pub steps_same : (links : List Link) (i : ℕ) (link : Link) (steps : List (ℕ × ℕ)) →
    i < length links → link ≡ get_or links i link → AreSteps (take i links) steps →
    link.to ≤ link.from → AreSteps (take (i + 1) links) steps
steps_same links i link steps lt is so_far down =
    let front : take i links ++ link ∷ [] ≡ take (i + 1) links =
    ap (λ (l : Link). take i links ++ l ∷ []) is ∙ sym (take_more links i link lt) in
    subst (λ (ls : List Link). AreSteps ls steps) front
    (AreSteps-skip (take i links) link steps so_far down)

-- a state that leads to the last one is known, once all steps were gone through
known_all : (steps : List (ℕ × ℕ)) (last : ℕ) (states : List ℕ) → IsKnown steps last 0 states →
    (from to : ℕ) → Leads steps from to → to ≡ last → Contains states from
known_all steps last states known from to (stays state) is =
    subst (λ (s : ℕ). Contains states s) (sym is) known.has_last
known_all steps last states known from to (steps_on first middle end here later) is =
    let at : ℕ × ℕ = (first, middle) in
    let behind = known_all steps last states known middle end later is in
    let found : get_or steps here.0 at ≡ at = here.2 in
    subst (λ (s : ℕ × ℕ). Contains states s.0) found
    (known.closed here.0 at (omega arith) here.1
    (subst (λ (s : ℕ × ℕ). Contains states s.1) (sym found) behind))

pub known_whole : (steps : List (ℕ × ℕ)) (last place : ℕ) (states : List ℕ) → place ≡ 0 →
    IsKnown steps last place states → (state : ℕ) →
    Contains states state ↔ Leads steps state last
known_whole steps last place states over known state =
    let all = subst (λ (n : ℕ). IsKnown steps last n states) over known in
    (known.sound state, λ h. known_all steps last states all state last h refl)

-- a path of links that lead up gives steps
path_leads : (links : List Link) (steps : List (ℕ × ℕ)) → AreSteps links steps →
    (from to : ℕ) (path : List Link) → IsPath links from to path → All LeadsUp path →
    Leads steps from to
path_leads links steps are from to [] is up =
    subst (λ (s : ℕ). Leads steps from s) is (stays from)
path_leads links steps are from to (link ∷ path) is up =
    let first = are.all link is.0 (All-head LeadsUp link path up) in
    let later = path_leads links steps are link.to to path is.2 (All-tail LeadsUp link path up) in
    subst (λ (s : ℕ). Leads steps s to) is.1 (steps_on link.from link.to to first later)

-- links that lead up from a state to a state
abbrev Goes : List Link → (from to : ℕ) → Type 0
Goes links from to = (path : List Link) × IsPath links from to path × All LeadsUp path

-- steps give a path of links that lead up
leads_path : (links : List Link) (steps : List (ℕ × ℕ)) → AreSteps links steps →
    (from to : ℕ) → Leads steps from to → Goes links from to
leads_path links steps are from to (stays state) = ([], refl, All-nil LeadsUp)
leads_path links steps are from to (steps_on first middle end here later) =
    let rest = leads_path links steps are middle end later in
    let is = are.each (first, middle) here in
    let link = is.1.0 in
    let up : LeadsUp link = omega (arith, is.0, is.1.2, is.1.3) in
    let moved : IsPath links link.to end rest.0 =
    subst (λ (s : ℕ). IsPath links s end rest.0) (sym is.1.3) rest.1 in
    (link ∷ rest.0, (is.1.1, is.1.2, moved), All-cons LeadsUp link rest.0 up rest.2)

-- a sentence has a path where steps lead from the first state to the last
pub path_where_steps : (sentence : Sentence) (steps : List (ℕ × ℕ)) → 0 < sentence.states →
    AreSteps sentence.links steps → Leads steps 0 (last_of sentence) ↔ HasPath sentence
path_where_steps sentence steps some are = (
  λ leads. (some, leads_path sentence.links steps are 0 (last_of sentence) leads),
  λ has. path_leads sentence.links steps are 0 (last_of sentence) has.1.0 has.1.1 has.1.2,
)

-- a sentence has a path where its first state is known to lead to the last one
pub has_where_known : (b : Bool) (sentence : Sentence) (links : List Link)
    (given steps : List (ℕ × ℕ)) (states : List ℕ) → (sentence.states ≡ 0 → ⊥) →
    links ≡ sentence.links → given ≡ steps → AreSteps links steps →
    ((state : ℕ) → Contains states state ↔ Leads given state (sentence.states - 1)) →
    (IsTrue b ↔ Contains states 0) → IsTrue b ↔ HasPath sentence
has_where_known b sentence links given steps states some same are_given are known test =
    let of_links : AreSteps sentence.links given =
    subst (λ (ss : List (ℕ × ℕ)). AreSteps sentence.links ss) (sym are_given)
    (subst (λ (ls : List Link). AreSteps ls steps) same are) in
    let more : 0 < sentence.states = omega (arith, some) in
    let path = path_where_steps sentence given more of_links in
    let first = known 0 in
    (λ h. path.0 (first.0 (test.0 h)), λ h. test.1 (first.1 (path.1 h)))
