-- The stacks behind edges, by stands: the front of the targets at a position has exactly these.
use Rattle.std.proofs.Common.{◌≡◌, ℕ, List, [], ◌∷◌, ◌⊎◌, ◌↔◌, inl, inr, sym, ◌∙◌, ap, subst, refl, Bool}
use Rattle.std.specs.Prelude.{Contains, IsTrue, Some, slice_get}
use Rattle.std.proofs.lemmas.Option.{same_Some}
use Rattle.ux_net.specs.declared.net_graph.NetGraph.{NetGraph}
use Rattle.ux_net.specs.declared.state.Edge.{Edge}
use Rattle.ux_net.specs.declared.state.State.{State}
use Rattle.ux_net.specs.Nets.{states_of}
use Rattle.ux_closure.specs.declared.closing.Closure.{Closure}
use Rattle.ux_closure.specs.declared.stand.Stand.{Stand}
use Rattle.ux_closure.specs.Holding.{IsClosure, IsStack}
use Rattle.ux_closure.specs.Passing.{behind}
use Rattle.ux_closure.specs.Taking.{LeadsByTaking, TakesOn, TellsSpace}
use Rattle.ux_closure.proofs.ClosureLaws.{closure_parts}
use Rattle.ux_walk.specs.declared.config.Frame.{Frame}
use Rattle.ux_walk.specs.declared.lists.Link.{Link}
use Rattle.ux_walk.specs.Leads.{LeadsFrom, LeadsTo, Stack}
use Rattle.ux_walk.specs.Links.{Names}
use Rattle.ux_walk.specs.Settings.{Setting}
use Rattle.ux_automaton.specs.declared.target.Target.{Target}
use Rattle.ux_automaton.specs.Fronts.{Store, HasStand, HoldsIn, NamesStack}
use Rattle.ux_automaton.specs.Kept.{Grows, IsSound, IsStand}
use Rattle.ux_automaton.specs.Targets.{GoesOver, IsEdgeOf, IsOver, IsTarget, IsTargetOver, Takes}
use Rattle.ux_automaton.proofs.StoreLemmas.{names_same}

module _ (setting : Setting) (A B : Stack → Type 0) (has : (stack : Stack) → A stack → B stack)
  where
    pub over_by : (p k : ℕ) (stack : Stack) → IsOver setting A p k stack → IsOver setting B p k stack
    over_by p k stack (f, fs, there, edge, of, takes, is) =
        (f, fs, has (f ∷ fs) there, edge, of, takes, is)

    pub goes_by : (p end : ℕ) → GoesOver setting A p end → GoesOver setting B p end
    goes_by p end (k, stack, over, leads) = (k, stack, over_by p k stack over, leads)

    pub leads_by : (p end : ℕ) → LeadsFrom setting A p end → LeadsFrom setting B p end
    leads_by p end (stack, there, leads) = (stack, has stack there, leads)

module _ (setting : Setting) (IsThere : Stand → Type 0) (targets : List Target) (p k : ℕ)
    (exact : (target : Target) → Contains targets target ↔ IsTarget setting p IsThere target) where
  -- a target returns to a list that is there
  pub target_stand : (store : Store) → ((stand : Stand) → IsThere stand → IsStand store stand) →
      (target : Target) → Contains targets target → IsStand store target.stand
  target_stand store there target inside = go ((exact target).0 inside)
    where
      go : IsTarget setting p IsThere target → IsStand store target.stand
      go (from, is_there, edge, of, (takes, is)) =
          subst (IsStand store) (sym is) (there from is_there)

  module _ (HasNext : Stand → Type 0) (next : (stand : Stand) →
      HasNext stand ↔ Contains targets (record { at = k; stand = stand })) where
    targets_forth : (stacks : List (Link Frame)) (stack : Stack) →
        NamesStack stacks HasNext stack → IsOver setting (NamesStack stacks IsThere) p k stack
    targets_forth stacks [] (stand, has, is) = absurd is
    targets_forth stacks (f ∷ fs) (stand, has, is) =
        go ((exact (record { at = k; stand = stand })).0 ((next stand).0 has))
      where
        go : IsTarget setting p IsThere (record { at = k; stand = stand }) →
            IsOver setting (NamesStack stacks IsThere) p k (f ∷ fs)
        go (from, is_there, edge, of, (takes, same)) = (
          from.here,
          fs,
          (
            from,
            is_there,
            (refl, subst (λ n. Names stacks n fs) (ap (λ (s : Stand). s.back) same) is.1),
          ),
          edge,
          of,
          takes,
          ap (λ (x : Frame). x ∷ fs) (sym is.0 ∙ ap (λ (s : Stand). s.here) same),
        )

    targets_back : (stacks : List (Link Frame)) (stack : Stack) →
        IsOver setting (NamesStack stacks IsThere) p k stack → NamesStack stacks HasNext stack
    targets_back stacks stack (f, fs, (from, is_there, held), edge, of, takes, is) =
        let stand : Stand = record { here = behind from.here edge; back = from.back } in
        let there = subst (λ (x : Frame). IsEdgeOf setting.net x edge) (sym held.0) of in
        let target = (exact (record { at = k; stand = stand })).1
        (from, is_there, edge, there, (takes, refl)) in (
          stand,
          (next stand).1 target,
          subst (IsStack stacks stand) (sym is)
              (ap (λ (x : Frame). behind x edge) held.0, held.1),
        )

    pub targets_over : (stacks : List (Link Frame)) (stack : Stack) →
        NamesStack stacks HasNext stack ↔ IsOver setting (NamesStack stacks IsThere) p k stack
    targets_over stacks stack = (targets_forth stacks stack, targets_back stacks stack)

  -- the front of the targets at a position has the stacks to which edges lead
  pub front_over : (old new : Store) → IsSound old → Grows old new →
      ((stand : Stand) → IsThere stand → IsStand old stand) → (front : ℕ) →
      ((stand : Stand) → HasStand new front stand
      ↔ Contains targets (record { at = k; stand = stand })) →
      (stack : Stack) → HoldsIn new front stack
      ↔ IsOver setting (NamesStack old.stacks IsThere) p k stack
  front_over old new sound grows there front next stack =
      let over = targets_over (HasStand new front) next new.stacks stack in
      let same = names_same old new sound grows IsThere there in (
        λ h. over_by setting (NamesStack new.stacks IsThere) (NamesStack old.stacks IsThere)
            (λ s. (same s).1) p k stack (over.0 h),
        λ h. over.1 (over_by setting (NamesStack old.stacks IsThere) (NamesStack new.stacks IsThere)
            (λ s. (same s).0) p k stack h),
      )

module _ (setting : Setting) (There : Stack → Type 0) (p end : ℕ) where
  taking_forth : (stack : Stack) → There stack → TakesOn setting stack p end →
      GoesOver setting There p end
  taking_forth [] there takes = absurd takes
  taking_forth (f ∷ fs) there (state, found, edge, inside, k, takes, leads) = (
    k,
    behind f edge ∷ fs,
    (f, fs, there, edge, (state, found, inside), takes, refl),
    leads,
  )

  -- walks go on by taking a token, or over an edge: it is the same
  pub taking_over : LeadsByTaking setting There p end ↔ GoesOver setting There p end
  taking_over = (
    λ h. taking_forth h.0 h.1 h.2,
    λ h. back h,
  )
    where
      back : GoesOver setting There p end → LeadsByTaking setting There p end
      back (k, stack, (f, fs, there, edge, (state, found, inside), takes, is), leads) = (
        f ∷ fs,
        there,
        (
          state,
          found,
          edge,
          inside,
          k,
          takes,
          subst (λ (s : Stack). LeadsTo setting s k end) is leads,
        ),
      )

-- what a closure tells of walks
pub closure_leads : (setting : Setting) (is_spaced : Bool) (Given : Stack → Type 0)
    (stacks : List (Link Frame)) (closure : Closure) →
    IsClosure setting.net is_spaced Given stacks closure → (p : ℕ) →
    TellsSpace setting p is_spaced → (end : ℕ) →
    LeadsFrom setting Given p end
    ↔ ((IsTrue closure.ends × (end ≡ p))
    ⊎ GoesOver setting (NamesStack stacks (Contains closure.stands.items)) p end)
closure_leads setting is_spaced Given stacks closure is p tells end =
    let parts = closure_parts setting p is_spaced tells Given stacks closure is end in
    let over = taking_over setting (NamesStack stacks (Contains closure.stands.items)) p end in (
      λ h. elim (parts.0 h) [ inl e ↦ inl e | inr t ↦ inr (over.0 t) ],
      λ h. parts.1 (elim h [ inl e ↦ inl e | inr t ↦ inr (over.1 t) ]),
    )

-- a target for each end
pub ends_over : (setting : Setting) (p : ℕ) (stand : Stand) (edge : Edge) (ends : List ℕ) →
    ((k : ℕ) → Contains ends k ↔ Takes setting edge.label p k) → (target : Target) →
    ((end : ℕ) × Contains ends end × (target ≡ record {
      at = end;
      stand = record { here = behind stand.here edge; back = stand.back };
    })) ↔ IsTargetOver setting p stand edge target
ends_over setting p stand edge ends exact target = (
  λ h. (
    subst (λ (t : Target). Takes setting edge.label p t.at) (sym h.2) ((exact h.0).0 h.1),
    ap (λ (t : Target). t.stand) h.2,
  ),
  λ h. (
    target.at,
    (exact target.at).1 h.0,
    ap (λ (s : Stand). record { at = target.at; stand = s }) h.1,
  ),
)

-- the edges of a state
pub edges_of : (net : List NetGraph) (f : Frame) (state : State) →
    slice_get (states_of net f.graph) f.state ≡ Some state → (edges : List Edge) →
    edges ≡ state.edges → (edge : Edge) → Contains edges edge ↔ IsEdgeOf net f edge
edges_of net f state found edges same edge = (
  λ inside. (state, found, subst (λ (l : List Edge). Contains l edge) same inside),
  λ of. subst (λ (l : List Edge). Contains l edge) (sym same)
      (subst (λ (s : State). Contains s.edges edge) (same_Some of.0 state (sym of.1 ∙ found)) of.2),
)

pub given_same : (net : List NetGraph) (is_spaced : Bool) (A B : Stack → Type 0) →
    ((stack : Stack) → A stack ↔ B stack) → (stacks : List (Link Frame)) (closure : Closure) →
    IsClosure net is_spaced A stacks closure → IsClosure net is_spaced B stacks closure
given_same net is_spaced A B same stacks closure is = record {
  exactly = λ stack. (
    λ h. let r = (is.exactly stack).0 h in (r.0, (same r.0).0 r.1, r.2),
    λ h. (is.exactly stack).1 (h.0, (same h.0).1 h.1, h.2),
  );
  named = is.named;
  once = is.once;
}

pub target_is : (target : Target) (at : ℕ) (stand : Stand) → target.at ≡ at →
    stand ≡ target.stand → target ≡ record { at = at; stand = stand }
target_is target at stand here same =
    ap (λ (p : ℕ). record { at = p; stand = target.stand }) here
    ∙ ap (λ (s : Stand). record { at = at; stand = s }) (sym same)

-- the same targets by the same stands, told in other words
pub exact_by : (setting : Setting) (p : ℕ) (A B : Stand → Type 0) →
    ((stand : Stand) → A stand ↔ B stand) → (targets : List Target) →
    ((target : Target) → Contains targets target ↔ IsTarget setting p A target) →
    (target : Target) → Contains targets target ↔ IsTarget setting p B target
exact_by setting p A B same targets exact target = (
  λ h. let t = (exact target).0 h in (t.0, (same t.0).0 t.1, t.2, t.3, t.4),
  λ t. (exact target).1 (t.0, (same t.0).1 t.1, t.2, t.3, t.4),
)
