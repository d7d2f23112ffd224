-- The theorem by which a search knows where to go on behind a context that may not follow: a net that
-- is built of states, of which no context is refused, tells the one state into which it is closed.
use Rattle.std.proofs.Common.{arith, ◌≡◌, ℕ, zero, suc, ◌+◌, ◌<◌, ◌≤◌, List, [], ◌∷◌, ◌++◌, refl, sym, ◌∙◌, ap, subst, inl, inr, length, get_or, append-nil, Bool, true, false, cond, ◌||◌, Some}
use Rattle.std.specs.Prelude.{Option, Contains}
use Rattle.std.specs.List.{range_with_len, flat_map, list_any}
use Rattle.std.proofs.lemmas.List.{get_or_default}
use Rattle.std.proofs.lemmas.List.Elements.{Contains-push_cases, Contains-get_or}
use Rattle.std.proofs.lemmas.List.Folds.{list_any_at}
use Rattle.ux_base.proofs.Lists.{same_or, less_or, nothing_in, contains_first, contains_later}
use Rattle.ux_base.proofs.JoinedLists.{contains_joined, contains_range, joined_more}
use Rattle.ux_net.specs.declared.label.Label.{Label}
use Rattle.ux_net.specs.declared.label.Label.TheVariants.{Negative}
use Rattle.ux_net.specs.declared.net_graph.Closing.{Closing}
use Rattle.ux_net.specs.declared.net_graph.NetGraph.{NetGraph}
use Rattle.ux_net.specs.declared.state.Edge.{Edge}
use Rattle.ux_net.specs.Closers.{ClosesInto, OpensInto}
use Rattle.ux_net.specs.Closings.{closing_in, closings_at as told_by, closing_of, Ascend, IsClosedInto, TellsClosings}
use Rattle.ux_net.specs.Nets.{graph_at, IsNetStep}
use Rattle.ux_net.specs.StateGraphs.{told_states, state_grammar}
use Rattle.ux_net.specs.Words.{negative, Step, opens, mark_of}
use Rattle.ux_net.proofs.ClosingsLemmas.{none_ascend, one_more, told_at}
use Rattle.ux_boxes.specs.Places.{places_of, label_lines}
use Rattle.ux_state_places.specs.Kinds.{kind_of}
use Rattle.ux_state_places.proofs.RunLifts.{Opened, opened_place}
use Rattle.ux_state_places.proofs.RunProjects.{closes_forth, closes_back}
use Rattle.ux_admission.specs.ToldClosings.{is_refusing, is_refused, closing_from, closings_at, closings_of}
use Rattle.ux_states.proofs.Found.{Found, IsBuilt}
use Rattle.ux_states.proofs.HubLemmas.{state, row, Into}
use Rattle.ux_states.proofs.NetStates.{step_of, of_state, there, both}
use Rattle.ux_states.proofs.RunsOfNet.{into_told, into_net}

-- a line that opens a context which may not follow
refusing : (line : List Label) → is_refusing line ≡ true → line ≡ Negative ∷ []
refusing [] e = cc
refusing (Negative ∷ []) e = refl
refusing (Negative ∷ y ∷ rest) e = cc
refusing (x ∷ rest) e = cc

-- such a line among others
refusing_in : (lines : List (List Label)) → list_any is_refusing lines ≡ true →
    Contains lines (Negative ∷ [])
refusing_in [] e = cc
refusing_in (line ∷ lines) e = go (is_refusing line) refl e (refusing_in lines)
  where
    go : (t : Bool) → is_refusing line ≡ t → list_any is_refusing (line ∷ lines) ≡ true →
        (list_any is_refusing lines ≡ true → Contains lines (Negative ∷ [])) →
        Contains (line ∷ lines) (Negative ∷ [])
    go true is all later =
        subst (λ l. Contains (line ∷ lines) l) (refusing line is) (contains_first line lines)
    go false is all later =
        contains_later line lines (Negative ∷ []) (later
        (sym (ap (λ (b : Bool). b || list_any is_refusing lines) is) ∙ all))

module _ (it : Found) (g : ℕ) where
  open it use {graphs, places, stands, hubs, stand}

  -- such contexts open into different states at different places, and in their order
  rise : (p q : ℕ) → p < q → q < length (places_of places g) → is_refused (places_of places g) p ≡ true →
      is_refused (places_of places g) q ≡ true → state it g p < state it g q
  rise p q lt inside first second = elim (less_or (state it g p) (state it g q)) [
    | inl less ↦ less
    | inr le ↦ elim (same_or (state it g p) (state it g q)) [
      | inl e ↦
          let same = stand.apart g p q (Negative ∷ [])
          (refusing_in (label_lines (places_of places g) p) first)
          (refusing_in (label_lines (places_of places g) q) second) e in
          absurd (omega (arith, same, lt))
      | inr n ↦
          let more : state it g q < state it g p =
          elim (less_or (state it g q) (state it g p)) [
            | inl less ↦ less
            | inr ge ↦ absurd (n (omega (arith, le, ge)))
          ] in
          let back = stand.order g q p inside (omega (arith, lt, inside)) more in
          absurd (omega (arith, back, lt))
    ]
  ]

  abbrev closings : ℕ → List Closing
  closings n = flat_map (closings_at (state it g) (places_of places g) (row it g))
      (range_with_len 0 n)

  -- what is told of the places before n ascends, and is of such places
  record UpTo (n : ℕ) (entries : List Closing) : Type 0 where
    pub up : Ascend entries
    pub from : (e : Closing) → Contains entries e →
        (p : ℕ) × (p < n) × (is_refused (places_of places g) p ≡ true) × (e.opening ≡ state it g p)

  -- what is told of fewer places
  wider : (n : ℕ) (entries : List Closing) → UpTo n entries → UpTo (n + 1) entries
  wider n entries u = record {
    up = u.up;
    from = λ e has.
        let r = u.from e has in
        (r.0, (let lt = r.1 in omega (arith, lt)), r.2, r.3);
  }

  -- one entry more
  one : (n : ℕ) (entries : List Closing) (e : Closing) → n < length (places_of places g) →
      is_refused (places_of places g) n ≡ true → e.opening ≡ state it g n → UpTo n entries →
      UpTo (n + 1) (entries ++ e ∷ [])
  one n entries e inside refused is u = record {
    up = (one_more entries e (record {
      up = u.up;
      below = λ i lt.
          let x : Closing = get_or entries i (record { opening = 0; closing = 0 }) in
          let r = u.from x (Contains-get_or entries i (record { opening = 0; closing = 0 }) lt) in
          let less = rise r.0 n r.1 inside r.2 refused in
          let same = r.3 in
          omega (arith, less, same, is);
    })).up;
    from = λ x has. elim (Contains-push_cases entries e x has) [
      | inl old ↦ (wider n entries u).from x old
      | inr new ↦ (n, omega arith, refused, ap (λ (y : Closing). y.opening) (sym new) ∙ is)
    ];
  }

  -- what is told of one place more
  next : (n : ℕ) (entries : List Closing) → n < length (places_of places g) → UpTo n entries →
      UpTo (n + 1) (entries ++ closings_at (state it g) (places_of places g) (row it g) n)
  next n entries inside u = go (is_refused (places_of places g) n) refl
    where
      none : UpTo (n + 1) (entries ++ [])
      none = subst (UpTo (n + 1)) (sym (append-nil entries)) (wider n entries u)

      some : is_refused (places_of places g) n ≡ true → (list : List ℕ) →
          UpTo (n + 1) (entries ++ closing_from (state it g) n list)
      some is [] = none
      some is (c ∷ later) =
          one n entries (record { opening = state it g n; closing = state it g c }) inside is refl u

      go : (t : Bool) → is_refused (places_of places g) n ≡ t →
          UpTo (n + 1) (entries ++ cond t (closing_from (state it g) n (row it g n)) [])
      go true is = some is (row it g n)
      go false is = none

  -- of all places before n
  up_to : (n : ℕ) → n ≤ length (places_of places g) → UpTo n (closings n)
  up_to zero le = record { up = none_ascend; from = λ e has. absurd (nothing_in {x = e} has) }
  up_to (suc n) le =
      let more : n + 1 ≡ suc n = omega arith in
      subst (λ k. UpTo k (closings k)) more
      (subst (UpTo (n + 1))
      (sym (joined_more (closings_at (state it g) (places_of places g) (row it g)) n))
      (next n (closings n) (omega (arith, le)) (up_to n (omega (arith, le)))))

  -- what is told of a graph ascends
  pub closings_ascend : Ascend (closings_of (state it g) (places_of places g) (row it g))
  closings_ascend = (up_to (length (places_of places g)) (omega arith)).up

  -- and tells for such a place where it is closed
  pub closing_told : (p c : ℕ) (later : List ℕ) → p < length (places_of places g) →
      is_refused (places_of places g) p ≡ true → row it g p ≡ c ∷ later →
      closing_in (closings_of (state it g) (places_of places g) (row it g)) (state it g p)
      ≡ Some (state it g c)
  closing_told p c later inside refused is =
      let all = closings_of (state it g) (places_of places g) (row it g) in
      let entry : Closing = record { opening = state it g p; closing = state it g c } in
      let here : closings_at (state it g) (places_of places g) (row it g) p ≡ entry ∷ [] =
      ap (λ (t : Bool). cond t (closing_from (state it g) p (row it g p)) []) refused
      ∙ ap (closing_from (state it g) p) is in
      let within : Contains all entry =
      contains_joined (closings_at (state it g) (places_of places g) (row it g))
      (range_with_len 0 (length (places_of places g))) p entry
      (contains_range (length (places_of places g)) p inside)
      (subst (λ (l : List Closing). Contains l entry) (sym here) (contains_first entry [])) in
      let nothing : Closing = record { opening = 0; closing = 0 } in
      let found = told_at all closings_ascend within.0 within.1 in
      let same : get_or all within.0 nothing ≡ entry =
      get_or_default all within.0 nothing entry within.1 ∙ within.2 in
      subst (λ (e : Closing). closing_in all e.opening ≡ Some e.closing) same found

module _ (it : Found) (net : List NetGraph) (made : IsBuilt it net) where
  open it use {graphs, places, stands, hubs, stand, closing, closed}

  -- such a context is closed, and into one state
  module _ (g n : ℕ) (edge : Edge) (i : IsNetStep (told_states graphs g) (step_of n edge))
      (is : edge.label ≡ Negative) where
    abbrev t : Step
    t = step_of n edge

    -- the edge opens a context that may not follow
    mark : mark_of t.labels ≡ opens negative
    mark = ap (λ (x : Label). mark_of (x ∷ [])) is

    abbrev o : Opened graphs places stands hubs stand g t
    o = opened_place graphs places stands hubs stand g t negative i mark

    abbrev p : ℕ
    p = o.step.to

    opening : OpensInto (state_grammar graphs) g negative edge.target
    opening = record { step = t; of_graph = i; to = refl; opens = mark }

    -- where it is closed stands in the row of its place
    in_row : (c : ℕ) → Into it g p c → Contains (row it g p) c
    in_row c into = (closing.row g p c o.place.inside).1 into

    -- the place has a line for it
    refused : is_refused (places_of places g) p ≡ true
    refused =
        let line = o.same.of_places.line in
        let label : o.step.labels ≡ Negative ∷ [] =
        o.same.kind ∙ ap (λ (x : Label). kind_of x ∷ []) is in
        list_any_at is_refusing (label_lines (places_of places g) p) line.0 o.step.labels line.1
        (ap is_refusing (line.2 ∙ label))

    -- by the row of the place the one state into which it is closed is told
    tells : (list : List ℕ) → row it g p ≡ list →
        (target : ℕ) × (closing_of net g edge.target ≡ Some target)
        × IsClosedInto net g edge.target target
    tells [] none = absurd (closed g edge.target (inl (inl (record {
      sign = negative;
      opening = opening;
      never = λ c into.
          let x = closes_forth graphs places stands hubs stand g edge.target c p into o.met o.enters in
          nothing_in {x = x.0} (subst (λ (l : List ℕ). Contains l x.0) none (in_row x.0 x.1));
    }))))
    tells (c ∷ later) first =
        let b = there it net made g edge.target o.met.inside in
        let into : Into it g p c = (closing.row g p c o.place.inside).0
        (subst (λ (l : List ℕ). Contains l c) (sym first) (contains_first c later)) in
        let told : ClosesInto (state_grammar graphs) g edge.target (state it g c) =
        subst (λ k. ClosesInto (state_grammar graphs) g k (state it g c)) o.same.to
        (closes_back graphs places stands hubs stand g p c into) in (
          state it g c,
          ap (λ (x : Option NetGraph). closing_in (told_by x) edge.target) b.there
              ∙ (ap (λ (l : List Closing). closing_in l edge.target) b.of.closings
              ∙ (ap (closing_in (closings_of (state it g) (places_of places g) (row it g)))
              (sym o.same.to)
              ∙ closing_told it g p c later o.place.inside refused first)),
          record {
            into = into_net it net made g edge.target (state it g c) o.met told;
            only = λ m other.
                elim (same_or m (state it g c)) [
                  | inl same ↦ same
                  | inr apart ↦ absurd (closed g edge.target (inr (inl (record {
                    opening = opening;
                    first = m;
                    second = state it g c;
                    apart = apart;
                    into_first = into_told it net made g edge.target m other;
                    into_second = told;
                  }))))
                ];
          },
        )

  -- the law
  pub net_tells : TellsClosings net
  net_tells g n state edge found within is =
      let r = of_state it net made g n state found edge within in
      tells g n edge r.1 is (row it g (p g n edge r.1 is)) refl

  -- what is told ascends
  pub net_ascends : (g : ℕ) → Ascend (told_by (graph_at net g))
  net_ascends g = elim (both it net made g) [
    | inl b ↦
        subst (λ (o : Option NetGraph). Ascend (told_by o)) (sym b.there)
        (subst Ascend (sym b.of.closings) (closings_ascend it g))
    | inr none ↦ subst (λ (o : Option NetGraph). Ascend (told_by o)) (sym none.1) none_ascend
  ]
