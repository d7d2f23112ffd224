-- Nodes whose links lead to nodes of earlier turns, and what a turn adds.
use Rattle.std.proofs.Common.{arith, ◌≡◌, ◌≢◌, ◌↔◌, ℕ, zero, suc, ◌+◌, ◌<◌, ◌≤◌, List, [], ◌∷◌, ◌++◌, refl, sym, ◌∙◌, ap, subst, map, length, get_or, take, ◌⊎◌, inl, inr, Bool, None}
use Rattle.std.specs.Prelude.{Contains, Option, Vec, slice_set}
use Rattle.ux_base.proofs.JoinedLists.{contains_mapped, contained_mapped}
use Rattle.ux_base.proofs.Lists.{less_or, same_or, take_more}
use Rattle.ux_subsets.specs.Rows.{row_at}
use Rattle.std.proofs.lemmas.List.{get_or_default}
use Rattle.std.proofs.lemmas.List.Elements.{Contains-push_cases}
use Rattle.ux_digraph.specs.Components.{AreComponents}
use Rattle.ux_digraph.specs.Paths.{row_of, Path, one, more, IsInside}
use Rattle.ux_digraph.specs.Rules.{is_marked_at}
use Rattle.ux_digraph.proofs.ComponentsLemmas.{falls_strictly}
use Rattle.ux_inflect.specs.declared.exploring.Link.{Link}
use Rattle.ux_inflect.specs.Ways.{ends_rows, lists_of, least_in, if_wanted_text, AreFalling, AreTurns, AreReady, IsTaken, IsBestAt, IsBest}
use Rattle.ux_inflect.proofs.ListLemmas.{map_more, map_push}
use Rattle.ux_inflect.proofs.WaysLemmas.{best_from}

length_mapped : {A B : Type 0} (f : A → B) (xs : List A) → length (map f xs) ≡ length xs
length_mapped f [] = refl
length_mapped f (x ∷ xs) = ap suc (length_mapped f xs)

ends_row : (links : List (List Link)) (u : ℕ) →
    row_of (ends_rows links) u ≡ map (λ (link : Link). link.to) (get_or links u [])
ends_row [] u = refl
ends_row (row ∷ links) zero = refl
ends_row (row ∷ links) (suc u) = ends_row links u

module _ (links : List (List Link)) (falling : AreFalling links) where
  -- an end in the row of a node is that of a link
  end_link : (u v : ℕ) → Contains (row_of (ends_rows links) u) v →
      (link : Link) × Contains (get_or links u []) link × (link.to ≡ v)
  end_link u v c = contained_mapped (λ (link : Link). link.to) (get_or links u []) v
      (subst (λ (row : List ℕ). Contains row v) (ends_row links u) c)

  link_end : (u : ℕ) (link : Link) → Contains (get_or links u []) link →
      Contains (row_of (ends_rows links) u) link.to
  link_end u link c = subst (λ (row : List ℕ). Contains row link.to) (sym (ends_row links u))
      (contains_mapped (λ (link : Link). link.to) (get_or links u []) link c)

  pub length_ends : length (ends_rows links) ≡ length links
  length_ends = length_mapped (λ (row : List Link). map (λ (link : Link). link.to) row) links

  pub ends_inside : IsInside (ends_rows links)
  ends_inside = record {
    inside = λ u v c.
        let l = end_link u v c in
        subst (λ n. n < length (ends_rows links)) l.2
        (subst (λ n. l.0.to < n) (sym length_ends) (falling.inside u l.0 l.1));
  }

  edge_falls : (u v : ℕ) → Contains (row_of (ends_rows links) u) v → falling.rank v < falling.rank u
  edge_falls u v c =
      let l = end_link u v c in
      subst (λ n. falling.rank n < falling.rank u) l.2 (falling.falls u l.0 l.1)

  path_falls : {u v : ℕ} → Path (ends_rows links) u v → falling.rank v < falling.rank u
  path_falls {u = u} {v = v} (one c) = edge_falls u v c
  path_falls {u = u} {v = v} (more {v = w} c p) =
      let a = edge_falls u w c in
      let b = path_falls p in
      omega (arith, a, b)

  -- a turn for each number of a component
  pub turns_are : (numbers : List ℕ) → AreComponents (ends_rows links) numbers →
      (turns : List (List ℕ)) → ((k x : ℕ) → Contains (get_or turns k []) x ↔
      ((x < length links) × (k ≡ get_or numbers x 0))) → AreTurns links turns
  turns_are numbers components turns at = record {
    placed = λ u less. (
      get_or numbers u 0,
      subst (λ n. get_or numbers u 0 < n) length_ends
          (components.below u (subst (λ n. u < n) (sym length_ends) less)),
      (at (get_or numbers u 0) u).1 (less, refl),
    );
    inside = λ k u c. ((at k u).0 c).0;
    earlier = λ k u link c l.
        let here = ((at k u).0 c).1 in
        let falls = falls_strictly (ends_rows links) numbers ends_inside components
        (λ w p. let f = path_falls p in omega (arith, f)) u link.to (link_end u link l) in (
          get_or numbers link.to 0,
          omega (arith, here, falls),
          (at (get_or numbers link.to 0) link.to).1 (falling.inside u link l, refl),
        );
  }

set_same : {A : Type 0} (xs : List A) (n : ℕ) (x d : A) → n < length xs → get_or (slice_set xs n x) n d ≡ x
set_same [] n x d less = absurd (omega (arith, less))
set_same (y ∷ xs) zero x d less = refl
set_same (y ∷ xs) (suc n) x d less = set_same xs n x d (omega (arith, less))

set_other : {A : Type 0} (xs : List A) (n m : ℕ) (x d : A) → m ≢ n →
    get_or (slice_set xs n x) m d ≡ get_or xs m d
set_other [] n m x d other = refl
set_other (y ∷ xs) zero zero x d other = absurd (other refl)
set_other (y ∷ xs) zero (suc m) x d other = refl
set_other (y ∷ xs) (suc n) zero x d other = refl
set_other (y ∷ xs) (suc n) (suc m) x d other =
    set_other xs n m x d (λ e. other (ap suc e))

length_set : {A : Type 0} (xs : List A) (n : ℕ) (x : A) → length (slice_set xs n x) ≡ length xs
length_set [] n x = refl
length_set (y ∷ xs) zero x = refl
length_set (y ∷ xs) (suc n) x = ap suc (length_set xs n x)

module _ (links : List (List Link)) (wanted : List Bool) (nodes : List ℕ)
    (old : List (Option (List ℕ))) (ready : AreReady links wanted nodes old) where
  pub taken_none : IsTaken links wanted [] old old
  taken_none = record {
    len = refl;
    kept = λ u b. b;
    done = λ u c. absurd (omega (arith, c.1));
  }

  -- one node more
  pub taken_next : (i : ℕ) (best : List (Option (List ℕ))) → IsTaken links wanted (take i nodes) old best →
      i < length nodes → (node : ℕ) → node ≡ get_or nodes i 0 → (text : Option (List ℕ)) →
      text ≡ least_in best (if_wanted_text (is_marked_at wanted node)) (get_or links node []) →
      IsTaken links wanted (take (i + 1) nodes) old (slice_set best node text)
  taken_next i best taken less node is text least = record {
    len = length_set best node text ∙ taken.len;
    kept = λ u b. at u (taken.kept u b);
    done = λ u c. elim (Contains-push_cases (take i nodes) (get_or nodes i 0) u
        (subst (λ (l : List ℕ). Contains l u) (take_more nodes i 0 less) c)) [
          | inl before ↦ at u (taken.done u before)
          | inr e ↦ subst (λ n. IsBestAt links wanted (slice_set best node text) n) (is ∙ e) here
        ];
  }
    where
      member : Contains nodes node
      member = (i, less, get_or_default nodes i node 0 less ∙ sym is)

      within : node < length best
      within = (
          let w = ready.inside node member in
          let l = taken.len in
          omega (arith, w, l))

      here : IsBestAt links wanted (slice_set best node text) node
      here = subst (λ (t : Option (List ℕ)). IsBest links wanted node t)
          (sym (set_same best node text None within ∙ least))
          (best_from links wanted best node
          (λ link c. taken.kept link.to (ready.ready node link member c)))

      at : (u : ℕ) → IsBestAt links wanted best u → IsBestAt links wanted (slice_set best node text) u
      at u b = elim (same_or u node) [
        | inl e ↦ subst (λ n. IsBestAt links wanted (slice_set best node text) n) (sym e) here
        | inr other ↦ subst (λ (t : Option (List ℕ)). IsBest links wanted u t)
            (sym (set_other best node u text None other)) b
      ]

-- the ends of one row more
pub ends_more : {Z : Type 0} (rows : List (Vec Link Z)) (i : ℕ) (d : Vec Link Z) → i < length rows →
    ends_rows (lists_of (take (i + 1) rows)) ≡ ends_rows (lists_of (take i rows))
    ++ map (λ (link : Link). link.to) (get_or rows i d).items ∷ []
ends_more rows i d less = ap ends_rows (map_more (λ (row : Vec Link _). row.items) rows i d less)
    ∙ map_push (λ (row : List Link). map (λ (link : Link). link.to) row) (lists_of (take i rows))
    (get_or rows i d).items

pub length_lists : {Z : Type 0} (rows : List (Vec Link Z)) → length (lists_of rows) ≡ length rows
length_lists rows = length_mapped (λ (row : Vec Link _). row.items) rows

-- one node more is put into the row of its number
pub turn_more : (n m k x : ℕ) (number : ℕ → ℕ) (old new : List ℕ) → m ≡ number n →
    (Contains new x ↔ (Contains old x ⊎ ((k ≡ m) × (x ≡ n)))) →
    (Contains old x ↔ ((x < n) × (k ≡ number x))) → Contains new x ↔ ((x < n + 1) × (k ≡ number x))
turn_more n m k x number old new is put known = (
  λ c. elim (put.0 c) [
    | inl before ↦ (let b = known.0 before in ((let l = b.0 in omega (arith, l)), b.1))
    | inr here ↦ (
      (let e = here.1 in omega (arith, e)),
      here.0 ∙ (is ∙ ap number (sym here.1)),
    )
  ],
  λ h. elim (less_or x n) [
    | inl less ↦ put.1 (inl (known.1 (less, h.1)))
    | inr past ↦
        let e : x ≡ n = (let l = h.0 in omega (arith, l, past)) in
        put.1 (inr (h.1 ∙ (ap number e ∙ sym is), e))
  ],
)

-- the row of a number is that of its list
pub row_list : {Z : Type 0} (rows : List (Vec Link Z)) (u : ℕ) →
    row_at rows u ≡ get_or (lists_of rows) u []
row_list rows u = refl

module _ (links : List (List Link)) (wanted : List Bool) (turns : List (List ℕ)) where
  -- what is known when the turns so far are taken
  abbrev pub AreBest : ℕ → List (Option (List ℕ)) → Type 0
  AreBest turn best = (j u : ℕ) → j < turn → Contains (get_or turns j []) u →
      IsBestAt links wanted best u

  pub ready_turn : AreTurns links turns → (turn : ℕ) (best : List (Option (List ℕ))) →
      length best ≡ length links → AreBest turn best →
      AreReady links wanted (get_or turns turn []) best
  ready_turn are turn best len known = record {
    inside = λ u c. (let i = are.inside turn u c in omega (arith, i, len));
    ready = λ u link c l.
        let e = are.earlier turn u link c l in known e.0 link.to e.1 e.2;
  }

  pub next_turn : (turn : ℕ) (best new : List (Option (List ℕ))) →
      IsTaken links wanted (get_or turns turn []) best new → AreBest turn best → AreBest (turn + 1) new
  next_turn turn best new taken known j u less c = elim (less_or j turn) [
    | inl before ↦ taken.kept u (known j u before c)
    | inr after ↦
        let e : j ≡ turn = omega (arith, less, after) in
        taken.done u (subst (λ k. Contains (get_or turns k []) u) e c)
  ]

  pub all_turns : AreTurns links turns → (turn : ℕ) (best : List (Option (List ℕ))) →
      length links ≤ turn → 0 < length links → AreBest turn best → IsBestAt links wanted best 0
  all_turns are turn best over some known =
      let p = are.placed 0 some in
      known p.0 0 (let l = p.1 in omega (arith, l, over)) p.2
