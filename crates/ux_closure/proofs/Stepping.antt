-- What one step from a stand adds.
use Rattle.std.proofs.Common.{arith, ◌≡◌, ℕ, zero, suc, ◌+◌, ◌<◌, ◌≤◌, List, [], ◌∷◌, ◌++◌, ◌↔◌, inl, inr, sym, ◌∙◌, ap, subst, length, take, get_or, Bool}
use Rattle.std.specs.Prelude.{Some, None, slice_get, Contains, IsTrue}
use Rattle.std.proofs.lemmas.Option.{same_Some, none-some}
use Rattle.std.proofs.lemmas.List.{take_more, take_all}
use Rattle.std.proofs.lemmas.List.Elements.{Contains-append_left, Contains-push_cases, Contains-push}
use Rattle.ux_net.specs.declared.label.Label.{Label}
use Rattle.ux_net.specs.declared.label.Label.TheVariants.{Call}
use Rattle.ux_net.specs.declared.state.Edge.{Edge}
use Rattle.ux_net.specs.declared.state.State.{State}
use Rattle.ux_net.specs.declared.net_graph.NetGraph.{NetGraph}
use Rattle.ux_net.specs.Nets.{states_of}
use Rattle.ux_walk.specs.declared.lists.Link.{Link}
use Rattle.ux_walk.specs.declared.config.Frame.{Frame}
use Rattle.ux_walk.specs.Leads.{Stack}
use Rattle.ux_walk.specs.Links.{link_at, Names, AreBelow}
use Rattle.ux_walk.proofs.LinksLemmas.{names_kept}
use Rattle.ux_closure.specs.declared.stand.Stand.{Stand}
use Rattle.ux_closure.specs.Passing.{LetsPass, IsPast, PassesOn, behind, start_of}
use Rattle.ux_closure.specs.Meeting.{Known, IsSound, Adds, AddsFrom, IsPastSome, IsPut}
use Rattle.ux_closure.proofs.Adding.{adds_nothing, adds_then, adds_alike, adds_put, adds_end}

calls_once : (h g : ℕ) → Call h ≡ Call g → h ≡ g
calls_once h g e = cc

-- a label that lets a walk pass calls no graph
no_call : (is_spaced : Bool) (x : Label) (h : ℕ) → LetsPass is_spaced x → x ≡ Call h → ⊥
no_call is_spaced x h lets is = subst (λ (y : Label). LetsPass is_spaced y) is lets

module _ (is_spaced : Bool) (f : Frame) (fs : Stack) (edge : Edge) (next : Stack) where
  -- behind an edge that lets a walk pass
  pub past_behind : LetsPass is_spaced edge.label →
      (next ≡ behind f edge ∷ fs) ↔ IsPast is_spaced f fs edge next
  past_behind lets = (
    λ e. inl (lets, e),
    λ past. elim past [
      | inl p ↦ p.1
      | inr c ↦ absurd (no_call is_spaced edge.label c.0 lets c.1)
    ],
  )

  -- in the graph that it calls
  pub past_call : (h : ℕ) → edge.label ≡ Call h →
      (next ≡ start_of h ∷ behind f edge ∷ fs) ↔ IsPast is_spaced f fs edge next
  past_call h calls = (
    λ e. inr (h, calls, e),
    λ past. elim past [
      | inl p ↦ absurd (no_call is_spaced edge.label h p.0 calls)
      | inr c ↦
          let same : h ≡ c.0 = calls_once h c.0 (sym calls ∙ c.1) in
          c.2 ∙ ap (λ g. start_of g ∷ behind f edge ∷ fs) (sym same)
    ],
  )

  -- nowhere
  pub past_nowhere : (LetsPass is_spaced edge.label → ⊥) → ((h : ℕ) → edge.label ≡ Call h → ⊥) →
      IsPast is_spaced f fs edge next → ⊥
  past_nowhere stops calls past = elim past [ inl p ↦ stops p.0 | inr c ↦ calls c.0 c.1 ]

module _ (is_spaced : Bool) (f : Frame) (fs : Stack) where
  abbrev Past : List Edge → Stack → Type 0
  Past edges = IsPastSome is_spaced f fs edges

  pub adds_first : (k : Known) (all : List Edge) → AreBelow k.links → Adds (Past (take 0 all)) k k
  adds_first k all below =
      adds_nothing (Past (take 0 all)) k below (λ s a. absurd (omega (arith, a.1.1)))

  -- one more edge, with the stack behind it
  pub adds_next : (old now new : Known) (all : List Edge) (i : ℕ) (edge : Edge) → i < length all →
      edge ≡ get_or all i edge → Adds (Past (take i all)) old now →
      Adds (IsPast is_spaced f fs edge) now new → Adds (Past (take (i + 1) all)) old new
  adds_next old now new all i edge lt is before next =
      let more : take (i + 1) all ≡ take i all ++ edge ∷ [] = take_more all i edge lt
      ∙ ap (λ y. take i all ++ y ∷ []) (sym is) in
      adds_then (Past (take i all)) (IsPast is_spaced f fs edge) (Past (take (i + 1) all)) old now
      new before next (λ s. (
        λ a. elim (Contains-push_cases (take i all) edge a.0
            (subst (λ (l : List Edge). Contains l a.0) more a.1)) [
              | inl c ↦ inl (a.0, c, a.2)
              | inr e ↦ inr (subst (λ (x : Edge). IsPast is_spaced f fs x s) (sym e) a.2)
            ],
        λ a. elim a [
          | inl b ↦ (
            b.0,
            subst (λ (l : List Edge). Contains l b.0) (sym more)
                (Contains-append_left (take i all) (edge ∷ []) b.0 b.1),
            b.2,
          )
          | inr b ↦ (
            edge,
            subst (λ (l : List Edge). Contains l edge) (sym more) (Contains-push (take i all) edge),
            b,
          )
        ],
      ))

  pub adds_all : (old now : Known) (all : List Edge) (i : ℕ) → length all ≤ i →
      Adds (Past (take i all)) old now → Adds (Past all) old now
  adds_all old now all i past adds =
      subst (λ (l : List Edge). Adds (Past l) old now) (take_all i all past) adds

module _ (net : List NetGraph) (is_spaced : Bool) (stand : Stand) where
  abbrev Next : Stack → Stack → Type 0
  Next fs = PassesOn net is_spaced (stand.here ∷ fs)

  -- there is no such state
  pub steps_nowhere : (k : Known) → IsSound k →
      slice_get (states_of net stand.here.graph) stand.here.state ≡ None → AddsFrom stand Next k k
  steps_nowhere k sound none fs named =
      adds_nothing (Next fs) k sound.below (λ s g. none-some g.0 (sym none ∙ g.1))

  module _ (state : State)
      (found : slice_get (states_of net stand.here.graph) stand.here.state ≡ Some state) where
    same_state : (other : State) →
        slice_get (states_of net stand.here.graph) stand.here.state ≡ Some other → other ≡ state
    same_state other at = same_Some other state (sym at ∙ found)

    abbrev Over : Stack → Stack → Type 0
    Over fs = IsPastSome is_spaced stand.here fs state.edges

    pub over_same : (edges : List Edge) → edges ≡ state.edges → (old new : Known) →
        AddsFrom stand (λ fs. IsPastSome is_spaced stand.here fs edges) old new →
        AddsFrom stand Over old new
    over_same edges is old new adds =
        subst (λ (l : List Edge). AddsFrom stand (λ fs. IsPastSome is_spaced stand.here fs l) old
        new) is adds

    -- past the edges, and back
    pub steps_final : (old mid new : Known) → IsTrue state.is_final →
        AddsFrom stand Over old mid → AddsFrom stand (λ fs s. s ≡ fs) mid new →
        AddsFrom stand Next old new
    steps_final old mid new final over back fs named =
        let first = over fs named in
        let second = back fs (names_kept old.links mid.links first.grows.extends stand.back fs named)
        in
        adds_then (Over fs) (λ s. s ≡ fs) (Next fs) old mid new first second (λ s. (
          λ g.
              let same = same_state g.0 g.1 in
              elim g.2 [
                | inl o ↦ inl (
                  o.0,
                  subst (λ (x : State). Contains x.edges o.0) same o.1,
                  o.2,
                )
                | inr b ↦ inr b.1
              ],
          λ h. elim h [
            | inl o ↦ (state, found, inl o)
            | inr e ↦ (state, found, inr (final, e))
          ],
        ))

    -- past the edges alone
    pub steps_on : (old new : Known) → (IsTrue state.is_final → ⊥) → AddsFrom stand Over old new →
        AddsFrom stand Next old new
    steps_on old new not_final over fs named =
        adds_alike (Over fs) (Next fs) old new (over fs named) (λ s. (
          λ o. (state, found, inl o),
          λ g.
              let same = same_state g.0 g.1 in
              elim g.2 [
                | inl o ↦ (o.0, subst (λ (x : State). Contains x.edges o.0) same o.1, o.2)
                | inr b ↦ absurd (not_final (subst (λ (x : State). IsTrue x.is_final) same b.0))
              ],
        ))

module _ (old new : Known) (sound : IsSound old) (links : new.links ≡ old.links) (stand : Stand)
  where
    -- where a frame is left to return to, it is the first of the list
    pub backs_to : (link : Link Frame) → link_at old.links stand.back ≡ Some link →
        new.ends ≡ old.ends →
        IsPut old.stands new.stands (record { here = link.head; back = link.tail }) →
        AddsFrom stand (λ fs s. s ≡ fs) old new
    backs_to link at ends put [] named = absurd (empty stand.back named at)
      where
        empty : (n : ℕ) → n ≡ 0 → link_at old.links n ≡ Some link → ⊥
        empty zero is there = none-some link there
        empty (suc n) is there = absurd (omega (arith, is))
    backs_to link at ends put (f ∷ fs) named =
        let same : link ≡ record { head = f; tail = named.0 } =
        same_Some _ _ (sym at ∙ named.1) in
        let tail : Names old.links link.tail fs = subst (λ t. Names old.links t fs)
        (sym (ap (λ (l : Link Frame). l.tail) same)) named.2 in
        adds_put old new sound.below links ends (record { here = link.head; back = link.tail }) put
        (f ∷ fs) (ap (λ (l : Link Frame). l.head) same, tail)

    -- where none is left, the empty stack was met
    pub backs_none : link_at old.links stand.back ≡ None → new.stands ≡ old.stands →
        IsTrue new.ends → AddsFrom stand (λ fs s. s ≡ fs) old new
    backs_none none stands ends [] named = adds_end old new sound.below links stands ends
    backs_none none stands ends (f ∷ fs) named = absurd (none-some _ (sym none ∙ named.1))
