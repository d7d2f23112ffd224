-- Places of ways into states: each place but the end is one way's, with the line of its kind.
use Rattle.std.proofs.Common.{arith, ◌≡◌, ◌≢◌, ◌⊎◌, inl, inr, ℕ, zero, suc, ◌+◌, ◌<◌, List, [], ◌∷◌, length, refl, sym, ap, subst, ◌∙◌}
use Rattle.std.specs.Prelude.{Contains, Some, slice_get, IsTrue}
use Rattle.std.proofs.lemmas.Option.{same_Some, slice_get_cases, slice_get_within}
use Rattle.ux_base.proofs.Lists.{nothing_in, same_or, first_or_later, contains_first}
use Rattle.ux_base.proofs.OrderedLists.{place_of}
use Rattle.ux_net.specs.declared.label.Label.{Label}
use Rattle.ux_net.specs.declared.label.Label.TheVariants.{Empty}
use Rattle.ux_net.specs.declared.state.Edge.{Edge}
use Rattle.ux_net.specs.declared.state.State.{State}
use Rattle.ux_net.specs.Nets.{IsNetEnd}
use Rattle.ux_net.specs.Words.{Step}
use Rattle.ux_boxes.specs.declared.place.Place.{Place}
use Rattle.ux_boxes.specs.Places.{label_lines, place_targets, IsPlaceStep}
use Rattle.ux_boxes.proofs.StepsLemmas.{line_from, target_from}
use Rattle.ux_state_places.specs.declared.arrival.Arrival.{Arrival}
use Rattle.ux_state_places.specs.declared.arrival.Kind.{Kind}
use Rattle.ux_state_places.specs.declared.arrival.Kind.TheVariants as kind
use Rattle.ux_state_places.specs.Arrivals.{label_of, arriving, hub_arrival, edge_arrival, arrival_at, AreArrivals, AreRawPlaces, IsTargetOf}
use Rattle.ux_state_places.specs.Kinds.{kind_of}

-- the label of the kind is the kind of the label
pub label_arriving : (x : Label) → label_of (arriving x) ≡ kind_of x
label_arriving Empty = refl
label_arriving x = refl

-- the kind of the label of a kind, by which two kinds of one label are one
abbrev kind_in : Label → Kind
kind_in label = arriving label

kind_back : (k : Kind) → kind_in (label_of k) ≡ k
kind_back kind.Hub = refl
kind_back kind.Token = refl
kind_back kind.Positive = refl
kind_back kind.Negative = refl
kind_back kind.ContextEnd = refl
kind_back (kind.Call graph) = refl

pub kind_same : (k l : Kind) → label_of k ≡ label_of l → k ≡ l
kind_same k l e = sym (kind_back k) ∙ (ap kind_in e ∙ kind_back l)

-- kinds by numbers, by which two kinds are one or not
abbrev kind_number : Kind → ℕ
kind_number kind.Hub = 0
kind_number kind.Token = 1
kind_number kind.Positive = 2
kind_number kind.Negative = 3
kind_number kind.ContextEnd = 4
kind_number (kind.Call graph) = suc (suc (suc (suc (suc graph))))

abbrev kind_numbered : ℕ → Kind
kind_numbered zero = kind.Hub
kind_numbered (suc zero) = kind.Token
kind_numbered (suc (suc zero)) = kind.Positive
kind_numbered (suc (suc (suc zero))) = kind.Negative
kind_numbered (suc (suc (suc (suc zero)))) = kind.ContextEnd
kind_numbered (suc (suc (suc (suc (suc graph))))) = kind.Call graph

kind_numbered-number : (k : Kind) → kind_numbered (kind_number k) ≡ k
kind_numbered-number kind.Hub = refl
kind_numbered-number kind.Token = refl
kind_numbered-number kind.Positive = refl
kind_numbered-number kind.Negative = refl
kind_numbered-number kind.ContextEnd = refl
kind_numbered-number (kind.Call graph) = refl

kind_or : (k l : Kind) → (k ≡ l) ⊎ (k ≢ l)
kind_or k l = elim (same_or (kind_number k) (kind_number l)) [
  | inl e ↦ inl (sym (kind_numbered-number k)
      ∙ (ap (λ n. kind_numbered n) e ∙ kind_numbered-number l))
  | inr other ↦ inr (λ e. other (ap (λ k. kind_number k) e))
]

-- a way is that into the hub of its state, or another
pub hub_or : (kinds : List Kind) (x : Arrival) →
    (x ≡ hub_arrival kinds x.state) ⊎ (x ≢ hub_arrival kinds x.state)
hub_or kinds x = elim (kind_or x.kind (hub_arrival kinds x.state).kind) [
  | inl e ↦ inl (ap (λ (k : Kind). let y : Arrival = record { state = x.state; kind = k } in y) e)
  | inr other ↦ inr (λ same. other (ap (λ (y : Arrival). y.kind) same))
]

-- where one of the places is, the other is not the end
pub arrival_place : (arrivals : List Arrival) (p : ℕ) (x : Arrival) →
    arrival_at arrivals p ≡ Some x → (p < length arrivals + 1) × (p ≢ 1)
arrival_place arrivals zero x e =
    let within = slice_get_within arrivals 0 x e in
    (omega arith, λ one. absurd (omega (arith, one)))
arrival_place arrivals (suc zero) x e = absurd cc
arrival_place arrivals (suc (suc n)) x e =
    let within = slice_get_within arrivals (suc n) x e in
    (omega (arith, within), λ one. absurd (omega (arith, one)))

-- which is one of all
pub arrival_among : (arrivals : List Arrival) (p : ℕ) (x : Arrival) →
    arrival_at arrivals p ≡ Some x → (i : ℕ) × (slice_get arrivals i ≡ Some x)
arrival_among arrivals zero x e = (0, e)
arrival_among arrivals (suc zero) x e = absurd cc
arrival_among arrivals (suc (suc n)) x e = (suc n, e)

-- each place but the end has its way
pub place_arrival : (arrivals : List Arrival) (p : ℕ) → 0 < length arrivals →
    p < length arrivals + 1 → p ≢ 1 → (x : Arrival) × (arrival_at arrivals p ≡ Some x)
place_arrival arrivals zero some inside other = elim (slice_get_cases arrivals 0).1 [
  | inl x ↦ (x.0, x.2)
  | inr past ↦ let p = past.0 in absurd (omega (arith, p, some))
]
place_arrival arrivals (suc zero) some inside other = absurd (other refl)
place_arrival arrivals (suc (suc n)) some inside other =
    elim (slice_get_cases arrivals (suc n)).1 [
      | inl x ↦ (x.0, x.2)
      | inr past ↦ let p = past.0 in absurd (omega (arith, p, inside))
    ]

-- two places of one way are one
pub place_once : (states : List State) (kinds : List Kind) (arrivals : List Arrival) →
    AreArrivals states kinds arrivals →
    (p q : ℕ) (x : Arrival) → arrival_at arrivals p ≡ Some x → arrival_at arrivals q ≡ Some x →
    p ≡ q
place_once states kinds arrivals are zero zero x d e = refl
place_once states kinds arrivals are zero (suc zero) x d e = absurd cc
place_once states kinds arrivals are zero (suc (suc n)) x d e =
    let same = are.once 0 (suc n) x d e in absurd (omega (arith, same))
place_once states kinds arrivals are (suc zero) q x d e = absurd cc
place_once states kinds arrivals are (suc (suc m)) zero x d e =
    let same = are.once (suc m) 0 x d e in absurd (omega (arith, same))
place_once states kinds arrivals are (suc (suc m)) (suc zero) x d e = absurd cc
place_once states kinds arrivals are (suc (suc m)) (suc (suc n)) x d e =
    ap suc (are.once (suc m) (suc n) x d e)

-- places ascend by their states
pub place_order : (states : List State) (kinds : List Kind) (arrivals : List Arrival) →
    AreArrivals states kinds arrivals →
    (p q : ℕ) (x y : Arrival) → arrival_at arrivals p ≡ Some x → arrival_at arrivals q ≡ Some y →
    x.state < y.state → p < q
place_order states kinds arrivals are zero zero x y d e low =
    let less = are.ascend 0 0 x y d e low in absurd (omega (arith, less))
place_order states kinds arrivals are zero (suc zero) x y d e low = absurd cc
place_order states kinds arrivals are zero (suc (suc n)) x y d e low = omega arith
place_order states kinds arrivals are (suc zero) q x y d e low = absurd cc
place_order states kinds arrivals are (suc (suc m)) zero x y d e low =
    let less = are.ascend (suc m) 0 x y d e low in absurd (omega (arith, less))
place_order states kinds arrivals are (suc (suc m)) (suc zero) x y d e low = absurd cc
place_order states kinds arrivals are (suc (suc m)) (suc (suc n)) x y d e low =
    let less = are.ascend (suc m) (suc n) x y d e low in omega (arith, less)

-- the state of the way of a place is there
pub arrival_state : (states : List State) (kinds : List Kind) (arrivals : List Arrival) →
    AreArrivals states kinds arrivals →
    (p : ℕ) (x : Arrival) → arrival_at arrivals p ≡ Some x → x.state < length states
arrival_state states kinds arrivals are zero x e = are.inside 0 x e
arrival_state states kinds arrivals are (suc zero) x e = absurd cc
arrival_state states kinds arrivals are (suc (suc n)) x e = are.inside (suc n) x e

module _ (states : List State) (kinds : List Kind) (arrivals : List Arrival)
    (are : AreArrivals states kinds arrivals) (raw : List Place)
    (is : AreRawPlaces states kinds arrivals raw) where
  pub arrivals_some : 0 < length arrivals
  arrivals_some = slice_get_within arrivals 0 (hub_arrival kinds 0) are.start

  -- the way of a place with a line, which is that of its kind
  pub line_arrival : (p : ℕ) (line : List Label) → Contains (label_lines raw p) line →
      (x : Arrival) × (arrival_at arrivals p ≡ Some x) × (line ≡ label_of x.kind ∷ [])
  line_arrival p line h =
      let inside = line_from raw p line h in
      let len = is.len in
      let x = place_arrival arrivals p arrivals_some (omega (arith, inside, len)) (λ e.
      nothing_in {x = line} (subst (λ (l : List (List Label)). Contains l line) is.bare
      (subst (λ n. Contains (label_lines raw n) line) e h))) in
      (x.0, x.1, sym (only_line (label_lines raw p) (label_of x.0.kind ∷ []) line (is.lines p x.0 x.1) h))
    where
      only_line : (lines : List (List Label)) (a b : List Label) → lines ≡ a ∷ [] →
          Contains lines b → a ≡ b
      only_line lines a b e h = elim (first_or_later a [] b
          (subst (λ (l : List (List Label)). Contains l b) e h)) [
            | inl same ↦ same
            | inr none ↦ absurd (nothing_in {x = b} none)
          ]

  -- and the line stands there
  pub arrival_line : (p : ℕ) (x : Arrival) → arrival_at arrivals p ≡ Some x →
      Contains (label_lines raw p) (label_of x.kind ∷ [])
  arrival_line p x e =
      subst (λ (l : List (List Label)). Contains l (label_of x.kind ∷ [])) (sym (is.lines p x e))
      (contains_first (label_of x.kind ∷ []) [])

  -- What a step of the places is: from the place of one way to that of another.
  pub record IsStepOf (s : Step) : Type 0 where
    pub source : Arrival
    pub from : arrival_at arrivals s.from ≡ Some source
    pub target : Arrival
    pub to : arrival_at arrivals s.to ≡ Some target
    pub leads : IsTargetOf states kinds arrivals source s.to
    pub line : s.labels ≡ label_of target.kind ∷ []

  pub step_of : (s : Step) → IsPlaceStep raw s → (s.from < length raw) → IsStepOf s
  step_of s i inside =
      let len = is.len in
      let x = place_arrival arrivals s.from arrivals_some (omega (arith, inside, len)) i.before_end in
      let y = line_arrival s.to s.labels i.line in
      record {
        source = x.0;
        from = x.1;
        target = y.0;
        to = y.1;
        leads = (is.targets s.from s.to x.0 x.1).0 i.leads;
        line = y.2;
      }

  -- What a step of the places is of the states: one along an edge from a hub, or one to a hub.
  abbrev pub IsEdgeOrHub : (s : Step) → IsStepOf s → Type 0
  IsEdgeOrHub s o = ((o.source ≡ hub_arrival kinds o.source.state)
      × ((state : State) × (edge : Edge) × (slice_get states o.source.state ≡ Some state)
      × Contains state.edges edge × (o.target ≡ edge_arrival edge)))
      ⊎ ((o.source ≢ hub_arrival kinds o.source.state)
      × (o.target ≡ hub_arrival kinds o.source.state))

  -- a step is one of both
  pub edge_or_hub : (s : Step) (o : IsStepOf s) → IsEdgeOrHub s o
  edge_or_hub s o = elim o.leads [
    | inl (whole, leads) ↦ elim leads.2 [
      | inl last ↦ absurd ((arrival_place arrivals s.to o.target o.to).1 last.0)
      | inr edge ↦ inl (
        whole,
        (
          leads.0,
          edge.0,
          leads.1,
          edge.1,
          same_Some o.target (edge_arrival edge.0) (sym o.to ∙ edge.2),
        ),
      )
    ]
    | inr (apart, leads) ↦ inr (
      apart,
      same_Some o.target (hub_arrival kinds o.source.state) (sym o.to ∙ leads),
    )
  ]

  -- a way that is there has a place
  pub way_place : (x : Arrival) → Contains arrivals x → (p : ℕ) × (arrival_at arrivals p ≡ Some x)
  way_place x h = numbered (place_of arrivals x h).0 (place_of arrivals x h).1
    where
      numbered : (k : ℕ) → slice_get arrivals k ≡ Some x →
          (p : ℕ) × (arrival_at arrivals p ≡ Some x)
      numbered zero e = (0, e)
      numbered (suc n) e = (suc (suc n), e)

  -- the hub leads along each edge of its state
  pub edge_leads : (p n : ℕ) (state : State) (edge : Edge) →
      arrival_at arrivals p ≡ Some (hub_arrival kinds n) → slice_get states n ≡ Some state →
      Contains state.edges edge → (q : ℕ) × (arrival_at arrivals q ≡ Some (edge_arrival edge))
      × Contains (place_targets raw p) q
  edge_leads p n state edge at found inside =
      let q = way_place (edge_arrival edge) (are.edges n state edge found inside) in (
        q.0,
        q.1,
        (is.targets p q.0 (hub_arrival kinds n) at).1
            (inl (refl, (state, found, inr (edge, inside, q.1)))),
      )

  -- and to the end where that is final
  pub end_leads : (p n : ℕ) (state : State) → arrival_at arrivals p ≡ Some (hub_arrival kinds n) →
      slice_get states n ≡ Some state → IsTrue state.is_final → Contains (place_targets raw p) 1
  end_leads p n state at found final =
      (is.targets p 1 (hub_arrival kinds n) at).1 (inl (refl, (state, found, inl (refl, final))))

  -- only hubs of final states lead to the end
  pub end_back : (p : ℕ) (x : Arrival) → arrival_at arrivals p ≡ Some x →
      Contains (place_targets raw p) 1 →
      (x ≡ hub_arrival kinds x.state) × IsNetEnd states x.state
  end_back p x at h = elim ((is.targets p 1 x at).0 h) [
    | inl (whole, leads) ↦ elim leads.2 [
      | inl last ↦ (whole, record { state = leads.0; found = leads.1; final = last.1 })
      | inr edge ↦ absurd (let none = edge.2 in cc)
    ]
    | inr (apart, none) ↦ absurd (cc)
  ]

  -- another place than a hub leads to the hub
  pub hub_leads : (p q : ℕ) (x : Arrival) → arrival_at arrivals p ≡ Some x →
      x ≢ hub_arrival kinds x.state → arrival_at arrivals q ≡ Some (hub_arrival kinds x.state) →
      Contains (place_targets raw p) q
  hub_leads p q x at apart hub = (is.targets p q x at).1 (inr (apart, hub))

  -- what a way leads to is a place
  target_so : (x : Arrival) (q : ℕ) → IsTargetOf states kinds arrivals x q → q < length raw
  target_so x q h = elim h [
    | inl (whole, leads) ↦ elim leads.2 [
      | inl last ↦
          let one = last.0 in
          let len = is.len in
          let there = arrivals_some in
          omega (arith, one, len, there)
      | inr edge ↦ at_place (edge_arrival edge.0) edge.2
    ]
    | inr (apart, e) ↦ at_place (hub_arrival kinds x.state) e
  ]
    where
      at_place : (x : Arrival) → arrival_at arrivals q ≡ Some x → q < length raw
      at_place x e =
          let low = (arrival_place arrivals q x e).0 in
          let len = is.len in
          omega (arith, low, len)

  -- targets are places
  pub target_inside : (p q : ℕ) → Contains (place_targets raw p) q → q < length raw
  target_inside p q h = elim (same_or p 1) [
    | inl e ↦ absurd (nothing_in {x = q} (subst (λ (l : List ℕ). Contains l q) is.last
        (subst (λ n. Contains (place_targets raw n) q) e h)))
    | inr other ↦
        let inside = target_from raw p q h in
        let len = is.len in
        let x = place_arrival arrivals p arrivals_some (omega (arith, inside, len)) other in
        target_so x.0 q ((is.targets p q x.0 x.1).0 h)
  ]
