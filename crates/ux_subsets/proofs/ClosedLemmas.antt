-- The sets that are reached are the states of an automaton of subsets.
use Rattle.std.proofs.Common.{arith, ◌≡◌, ℕ, ◌<◌, ◌⊎◌, inl, inr, List, [], ◌++◌, refl, sym, ap, subst, length, map}
use Rattle.std.specs.Prelude.{Contains, Bool}
use Rattle.std.proofs.lemmas.List.Elements.{Contains-append_left, Contains-append_right, Contains-append_cases}
use Rattle.ux_subsets.specs.declared.automaton.Link.{Link}
use Rattle.ux_subsets.specs.declared.sets.Set.{Set}
use Rattle.ux_subsets.specs.declared.sets.Over.{Over}
use Rattle.ux_subsets.specs.Paths.{link}
use Rattle.ux_subsets.specs.Machines.{AreSubsets}
use Rattle.ux_subsets.specs.Building.{states_at, seen_at, over_at, IsReached, IsClosed, IsPass, closing}
use Rattle.ux_subsets.proofs.ElementsLemmas.{nothing_in, first_or_later, contains_first, contains_map, contained_map}
use Rattle.ux_subsets.proofs.BackwardsLemmas.{weaker}
use Rattle.ux_subsets.proofs.SpellingLemmas.{spells_iff}

same_over : (a b r q : ℕ) → a ≡ b → r ≡ q → over_at a r ≡ over_at b q
same_over a b r q e f = cc

module _ {Stands : ℕ → List ℕ → Type 0} {Satisfies : List ℕ → Type 0} (last : ℕ) (links : List Link) (sets : List Set) (links' : List Link) (overs : List Over) (all : Bool)
    (s : IsReached Stands Satisfies last links sets links' overs (length sets) all) where
  abbrev count : ℕ
  count = length sets

  abbrev whole : List Link
  whole = links' ++ map (closing count) overs

  of_link : (l : Link) → Contains whole l → Contains links' l ⊎ ((o : Over) × Contains overs o × (closing count o ≡ l))
  of_link l h = elim (Contains-append_cases links' (map (closing count) overs) l h) [
    | inl a ↦ inl a
    | inr b ↦ inr (contained_map (closing count) overs l b)
  ]

  put : (l : Link) → Contains links' l → Contains whole l
  put l h = Contains-append_left links' (map (closing count) overs) l h

  own : (n k r : ℕ) → k < count → Contains whole (link n k r) → Contains links' (link n k r)
  own n k r lt h = elim (of_link (link n k r) h) [
    | inl m ↦ m
    | inr o ↦ let to : count ≡ k = ap (λ (l : Link). l.to) o.2 in absurd (omega (arith, to, lt))
  ]

  from_in : (l : Link) → Contains whole l → l.from < count
  from_in l h = elim (of_link l h) [
    | inl m ↦ (s.built.linked l m).0
    | inr o ↦ let w = s.built.over_in o.0 o.1 in let e : o.0.from ≡ l.from = ap (λ (x : Link). x.from) o.2 in omega (arith, w, e)
  ]

  closed_are : AreSubsets Stands Satisfies last links (λ n t. Contains (states_at sets n) t) (seen_at sets) count whole
  closed_are = record {
    first = λ t. (
      λ h. elim (first_or_later 0 [] t (subst (λ (xs : List ℕ). Contains xs t) s.built.first h)) [ inl e ↦ sym e | inr nowhere ↦ absurd (nothing_in nowhere) ],
      λ e. subst (λ (x : ℕ). Contains (states_at sets 0) x) (sym e) (subst (λ (xs : List ℕ). Contains xs 0) (sym s.built.first) (contains_first 0 [])),
    );
    fresh = s.built.fresh;
    from_inside = from_in;
    over = λ n r lt before here. (
      λ h. elim (of_link (link n count r) h) [
        | inl m ↦ let w = (s.built.linked (link n count r) m).1 in absurd (omega (arith, w))
        | inr o ↦
            let same : o.0 ≡ over_at n r = same_over o.0.from n o.0.reading r (ap (λ (x : Link). x.from) o.2) (ap (λ (x : Link). x.reading) o.2) in
            (s.built.over n r lt before here).0 (subst (λ (x : Over). Contains overs x) same o.1)
      ],
      λ h. Contains-append_right links' (map (closing count) overs) (link n count r)
          (contains_map (closing count) overs (over_at n r) ((s.built.over n r lt before here).1 h)),
    );
    goes = λ n k r lt h t. s.built.linked_set (link n k r) (own n k r lt h) t;
    sees = λ n k r lt h before here. s.built.linked_seen (link n k r) (own n k r lt h) before here;
    going = λ n r t lt differs h. elim (s.built.going n r t lt (differs, h)) [
      | inl k ↦ (k.0, (s.built.linked (link n k.0 r) k.1).1, put (link n k.0 r) k.1)
      | inr w ↦ absurd w.1
    ];
    once = λ n k k' r lt lt' h h'. s.built.once (link n k r) (link n k' r) (own n k r lt h) (own n k' r lt' h') refl refl;
    inside = s.built.inside;
    filled = s.built.filled;
    reached = λ n lt.
        let v = s.built.reached n lt in
        (v.0, (spells_iff whole v.0 0 n).1 (weaker links' whole put v.0 0 n ((spells_iff links' v.0 0 n).0 v.1)));
    ascending = λ l h. elim (of_link l h) [
      | inl m ↦ s.rising l m
      | inr o ↦ subst (λ (x : Link). x.from < x.to) o.2 (s.built.over_in o.0 o.1)
    ];
    within = λ l h. elim (of_link l h) [
      | inl m ↦ let w = (s.built.linked l m).1 in omega (arith, w)
      | inr o ↦ let e : count ≡ l.to = ap (λ (x : Link). x.to) o.2 in omega (arith, e)
    ];
  }

  closed_pass : IsPass Stands Satisfies last links count whole
  closed_pass = record {
    sets = sets;
    some = s.built.some;
    are = closed_are;
    stood = s.built.stood;
    sorted = s.apart.sorted;
    different = s.apart.different;
  }

-- the sets that are reached are a pass, with the links to the last state
pub reached_pass : {Stands : ℕ → List ℕ → Type 0} {Satisfies : List ℕ → Type 0} (last : ℕ) (links : List Link) (sets : List Set) (links' : List Link) (overs : List Over) (count : ℕ) (all : Bool) →
    IsReached Stands Satisfies last links sets links' overs count all → (last' : ℕ) (links'' : List Link) → IsClosed links' overs count last' links'' → IsPass Stands Satisfies last links last' links''
reached_pass {Stands} {Satisfies} last links sets links' overs count all s last' links'' c =
    let s' = subst (λ (k : ℕ). IsReached Stands Satisfies last links sets links' overs k all) s.counted s in
    subst (λ (ls : List Link). IsPass Stands Satisfies last links last' ls) (sym c.made)
    (subst (λ (k : ℕ). IsPass Stands Satisfies last links k (links' ++ map (closing count) overs)) (sym c.last)
    (subst (λ (k : ℕ). IsPass Stands Satisfies last links k (links' ++ map (closing k) overs)) (sym s.counted)
    (closed_pass last links sets links' overs all s')))
