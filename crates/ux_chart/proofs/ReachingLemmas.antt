-- The states that are seen are those that runs reach.
use Rattle.std.proofs.Common.{arith, ◌≡◌, ℕ, zero, suc, ◌+◌, ◌<◌, ◌≤◌, List, [], ◌∷◌, ◌++◌, ◌⊎◌, ◌↔◌, inl, inr, refl, sym, ap, subst, ◌∙◌, length, get_or}
use Rattle.std.specs.Prelude.{Contains, Some, slice_get}
use Rattle.std.specs.List.{flat_map}
use Rattle.std.proofs.lemmas.Option.{same_Some, slice_get-get_or, slice_get_within}
use Rattle.std.proofs.lemmas.List.Elements.{Contains-append_left, Contains-append_right}
use Rattle.ux_net.specs.declared.label.Label.{Label}
use Rattle.ux_net.specs.declared.label.Label.TheVariants as label
use Rattle.ux_net.specs.declared.state.Edge.{Edge}
use Rattle.ux_net.specs.declared.net_graph.NetGraph.{NetGraph}
use Rattle.ux_net.specs.Words.{Step}
use Rattle.ux_net.specs.Nets.{net_grammar, states_of, IsNetStep}
use Rattle.ux_base.proofs.Lists.{nothing_in, first_or_later, contains_first, contains_later}
use Rattle.ux_base.proofs.JoinedLists.{contains_joined}
use Rattle.ux_meaning.specs.Inputs.{Input}
use Rattle.ux_parts.specs.declared.part.Part.{Part}
use Rattle.ux_parts.specs.declared.parts.Parts.{Parts}
use Rattle.ux_parts.specs.Parts.{ArePartsOf}
use Rattle.ux_parts.specs.Runs.{NextBy}
use Rattle.ux_parts.specs.Ordered.{GoesAhead}
use Rattle.ux_parts.proofs.Running.{from_here, from_step, whole}
use Rattle.ux_parts.proofs.Ahead.{step_lies}
use Rattle.ux_chart.specs.declared.config.Config.{Config}
use Rattle.ux_chart.specs.Search.{GoesTo, IsReached, IsReady, Adds, targets_of, states_near}
use Rattle.ux_base.proofs.FirstsLemmas.{Contains-from_place}
use Rattle.ux_base.proofs.JoinedLists.{contains_mapped}
use Rattle.ux_chart.proofs.Entering.{single, step_of, is_step, IsEdge}
use Rattle.ux_chart.proofs.Searching.{kept_contained}

-- all pairs of one of the states and a position below n
abbrev pub row_of : ℕ → ℕ → List Config
row_of a zero = []
row_of a (suc n) = record { state = a; at = n } ∷ row_of a n

abbrev pub box : List ℕ → ℕ → List Config
box [] n = []
box (a ∷ states) n = row_of a n ++ box states n

pub last_or_before : (i n : ℕ) → i < n + 1 → (i ≡ n) ⊎ (i < n)
last_or_before zero zero h = inl refl
last_or_before zero (suc n) h = inr (omega arith)
last_or_before (suc i) zero h = absurd (omega arith)
last_or_before (suc i) (suc n) h = elim (last_or_before i n (omega arith)) [
  | inl e ↦ inl (ap suc e)
  | inr l ↦ inr (omega arith)
]

in_row : (a n p : ℕ) → p < n → Contains (row_of a n) (record { state = a; at = p })
in_row a zero p h = absurd (omega arith)
in_row a (suc n) p h = elim (last_or_before p n (omega arith)) [
  | inl e ↦ subst (λ q. Contains (row_of a (suc n)) (record { state = a; at = q })) (sym e)
      (contains_first (record { state = a; at = n }) (row_of a n))
  | inr l ↦ contains_later (record { state = a; at = n }) (row_of a n)
      (record { state = a; at = p }) (in_row a n p l)
]

pub in_box : (states : List ℕ) (n : ℕ) (w : Config) → Contains states w.state → w.at < n →
    Contains (box states n) w
in_box [] n w s p = absurd (nothing_in s)
in_box (a ∷ states) n w s p = elim (first_or_later a states w.state s) [
  | inl e ↦ Contains-append_left (row_of a n) (box states n) w
      (subst (λ q. Contains (row_of q n) w) (sym e) (in_row w.state n w.at p))
  | inr l ↦ Contains-append_right (row_of a n) (box states n) w (in_box states n w l p)
]

-- what a search from (first, at) knows when `next` of what it has seen were looked at
pub record IsReaching (input : Input) (net : List NetGraph) (parts : Parts)
    (g first last at number : ℕ) (seen : List Config) (next : ℕ) : Type 0 where
  pub start : Contains seen (record { state = first; at = at })
  pub sound : (w : Config) → Contains seen w → IsReached input net parts.levels g first at w
  pub ready : (w : Config) → Contains seen w → IsReady net parts last at number g w
  pub near : (w : Config) → Contains seen w → Contains (states_near (states_of net g) first) w.state
  pub closed : (i : ℕ) (v : Config) → i < next → slice_get seen i ≡ Some v →
      (w : Config) → GoesTo input net parts.levels g v w → Contains seen w

module _ (input : Input) (last : ℕ) (ahead : GoesAhead input last) (net : List NetGraph)
    (parts : Parts) (are : ArePartsOf net parts) (g first at number : ℕ) where
  pub begins : (part : Part) → slice_get parts.list number ≡ Some part → part.graph ≡ g →
      part.first ≡ first → at ≤ last → (old seen : List Config) → old ≡ [] →
      Adds old (record { state = first; at = at } ∷ []) seen →
      IsReaching input net parts g first last at number seen 0
  begins part found of_graph of_first to old seen none a = record {
    start = a.each (record { state = first; at = at }) (contains_first _ []);
    sound = λ w h. only w h (λ v. IsReached input net parts.levels g first at v)
        (from_here input last ahead (net_grammar net) (single net) parts.levels g first at);
    ready = λ w h. only w h (λ v. IsReady net parts last at number g v) (record {
      from = omega arith;
      to = to;
      part = part;
      found = found;
      before = λ ranks here.
          subst (λ p. ranks.rank p first ≤ ranks.rank part.graph part.first) of_graph
          (subst (λ p. ranks.rank part.graph p ≤ ranks.rank part.graph part.first) of_first
          (omega arith));
    });
    near = λ w h. only w h (λ v. Contains (states_near (states_of net g) first) v.state)
        (contains_first first (flat_map targets_of (states_of net g)));
    closed = λ i v h. absurd (omega arith);
  }
    where
      only : (w : Config) → Contains seen w → (P : Config → Type 0) →
          P (record { state = first; at = at }) → P w
      only w h P p = elim (a.only w h) [
        | inl o ↦ absurd (nothing_in (subst (λ (l : List Config). Contains l w) none o))
        | inr f ↦ elim (first_or_later (record { state = first; at = at }) [] w f) [
          | inl e ↦ subst P e p
          | inr n ↦ absurd (nothing_in n)
        ]
      ]

  -- a step leads to a state that is near
  edge_near : (from : ℕ) (edge : Edge) → IsEdge net g from edge →
      Contains (states_near (states_of net g) first) edge.target
  edge_near from edge inside =
      contains_later first (flat_map targets_of (states_of net g)) edge.target
      (contains_joined targets_of (states_of net g) inside.0 edge.target
      (Contains-from_place (states_of net g) from inside.0 inside.1)
      (contains_mapped (λ (e : Edge). e.target) inside.0.edges edge inside.2))

  step_near : (s : Step) → IsNetStep (states_of net g) s → (b : ℕ) → s.to ≡ b →
      Contains (states_near (states_of net g) first) b
  step_near s step b to =
      subst (λ p. Contains (states_near (states_of net g) first) p) (sym step.to ∙ to)
      (edge_near s.from step.edge (step.state, step.found, step.inside))

  label_near : (x : Label) (to i b k : ℕ) → Contains (states_near (states_of net g) first) to →
      NextBy input (net_grammar net) parts.levels g x to i b k →
      Contains (states_near (states_of net g) first) b
  label_near label.Positive to i b k h n = step_near n.1.step n.1.inside b n.1.after
  label_near label.Negative to i b k h n =
      step_near n.1.body.step n.1.body.inside b n.1.body.after
  label_near label.ContextEnd to i b k h n = absurd n
  label_near x to i b k h n =
      subst (λ p. Contains (states_near (states_of net g) first) p) (sym n.0) h

  next_near : (v w : Config) → GoesTo input net parts.levels g v w →
      Contains (states_near (states_of net g) first) w.state
  next_near v w t =
      label_near t.edge.label t.edge.target v.at w.state w.at
      (edge_near v.state t.edge (t.state, t.found, t.inside)) t.leads

  goes_ready : (v w : Config) → IsReady net parts last at number g v →
      GoesTo input net parts.levels g v w → IsReady net parts last at number g w
  goes_ready v w r t =
      let step = is_step net g v.state t.edge (t.state, t.found, t.inside) in
      let lies = step_lies input last ahead (net_grammar net) parts.levels are.rank are.ordered g
      (step_of v.state t.edge) t.edge.label step refl v.at w.state w.at t.leads in
      let to = lies.inside r.to in
      let forward = lies.ahead in
      let from = r.from in
      record {
        from = omega arith;
        to = to;
        part = r.part;
        found = r.found;
        before = λ ranks e.
            let here : v.at ≡ at = omega arith in
            let falls = step_lies input last ahead (net_grammar net) parts.levels ranks.rank
            ranks.ordered g (step_of v.state t.edge) t.edge.label step refl v.at w.state w.at
            t.leads in
            let low = falls.lower (e ∙ sym here) in
            let old = r.before ranks here in
            omega arith;
      }

  goes_reached : (v w : Config) → IsReached input net parts.levels g first at v →
      GoesTo input net parts.levels g v w → IsReached input net parts.levels g first at w
  goes_reached v w r t =
      from_step input last ahead (net_grammar net) (single net) parts.levels g first at v.at
      (step_of v.state t.edge) t.edge.label w.state w.at r
      (is_step net g v.state t.edge (t.state, t.found, t.inside)) refl t.leads

  -- one more was looked at
  pub goes_on : (seen found new : List Config) (next : ℕ) (v : Config) →
      slice_get seen next ≡ Some v →
      ((w : Config) → Contains found w ↔ GoesTo input net parts.levels g v w) →
      Adds seen found new → IsReaching input net parts g first last at number seen next →
      IsReaching input net parts g first last at number new (next + 1)
  goes_on seen found new next v here told a r =
      let has : Contains seen v = Contains-from_place seen next v here in
      record {
        start = kept_contained seen new found a _ r.start;
        sound = λ w h. elim (a.only w h) [
          | inl o ↦ r.sound w o
          | inr f ↦ goes_reached v w (r.sound v has) ((told w).0 f)
        ];
        ready = λ w h. elim (a.only w h) [
          | inl o ↦ r.ready w o
          | inr f ↦ goes_ready v w (r.ready v has) ((told w).0 f)
        ];
        near = λ w h. elim (a.only w h) [
          | inl o ↦ r.near w o
          | inr f ↦ next_near v w ((told w).0 f)
        ];
        closed = λ i u below at_i w t.
            let within = slice_get_within seen next v here in
            let old = slice_get-get_or seen i v (omega arith) in
            let same : get_or seen i v ≡ u =
            same_Some (get_or seen i v) u (sym (a.kept i (get_or seen i v) old) ∙ at_i) in
            elim (last_or_before i next (omega arith)) [
              | inl e ↦
                  let is_v : v ≡ u = same_Some v u (sym here
                  ∙ (ap (λ k. slice_get seen k) (sym e) ∙ (old ∙ ap Some same))) in
                  a.each w ((told w).1
                  (subst (λ (z : Config). GoesTo input net parts.levels g z w) (sym is_v) t))
              | inr l ↦ kept_contained seen new found a w (r.closed i u l (old ∙ ap Some same) w t)
            ];
      }

  -- all was looked at
  pub ends_whole : (seen : List Config) (next : ℕ) → length seen ≤ next →
      IsReaching input net parts g first last at number seen next →
      (w : Config) → Contains seen w ↔ IsReached input net parts.levels g first at w
  ends_whole seen next past r w = (
    r.sound w,
    λ f. whole input last ahead (net_grammar net) (single net) parts.levels g
        (λ a p. Contains seen (record { state = a; at = p }))
        (λ s x inside named i b k has n.
        r.closed has.0 (record { state = s.from; at = i }) (let l = has.1 in omega arith)
        (slice_get-get_or seen has.0 (record { state = s.from; at = i }) has.1 ∙ ap Some has.2)
        (record { state = b; at = k })
        (record {
          state = inside.state;
          found = inside.found;
          edge = inside.edge;
          inside = inside.inside;
          leads = edge_next s x inside named i b k n;
        }))
        f.run at w.at f.events f.seq r.start,
  )
    where
      edge_next : (s : Step) (x : Label) (inside : IsNetStep (states_of net g) s) →
          s.labels ≡ x ∷ [] → (i b k : ℕ) →
          NextBy input (net_grammar net) parts.levels g x s.to i b k →
          NextBy input (net_grammar net) parts.levels g inside.edge.label inside.edge.target i b k
      edge_next s x inside named i b k n =
          let e = sym named ∙ inside.label in
          let same : x ≡ inside.edge.label = cc in
          subst (λ p. NextBy input (net_grammar net) parts.levels g inside.edge.label p i b k)
          inside.to
          (subst (λ y. NextBy input (net_grammar net) parts.levels g y s.to i b k) same n)
