-- What one step of a walk adds.
use Rattle.std.proofs.Common.{arith, ◌≡◌, ℕ, zero, suc, ◌+◌, ◌<◌, ◌≤◌, List, [], ◌∷◌, ◌++◌, ◌↔◌, inl, inr, refl, sym, ◌∙◌, ap, subst, length, take, get_or, Global}
use Rattle.std.specs.Prelude.{Some, None, slice_get, Contains, IsTrue, Vec}
use Rattle.std.proofs.lemmas.Option.{same_Some, none-some}
use Rattle.std.proofs.lemmas.List.Elements.{Contains-get_or}
use Rattle.ux_alphabet.specs.Letters.{Letters}
use Rattle.ux_tokens.specs.Tokens.{Token}
use Rattle.ux_lexical_tables.specs.Tables.{Tables}
use Rattle.ux_net.specs.declared.label.Label.{Label}
use Rattle.ux_net.specs.declared.state.Edge.{Edge}
use Rattle.ux_net.specs.declared.state.State.{State}
use Rattle.ux_net.specs.declared.net_graph.NetGraph.{NetGraph}
use Rattle.ux_net.specs.Nets.{states_of}
use Rattle.ux_outputs.specs.declared.event.Event.{Event}
use Rattle.ux_outputs.specs.declared.event.Event.TheVariants.{Take}
use Rattle.ux_walk.specs.declared.config.Frame.{Frame}
use Rattle.ux_walk.specs.declared.config.Config.{Config}
use Rattle.ux_walk.specs.declared.matching.LabelMatch.{LabelMatch}
use Rattle.ux_walk.specs.declared.matching.LabelMatch.TheVariants as how
use Rattle.ux_walk.specs.declared.reached.Reached.{Reached}
use Rattle.ux_walk.specs.LabelMatches.{IsLabelMatch, TakesUpTo}
use Rattle.ux_walk.specs.Contexts.{Applying}
use Rattle.ux_walk.specs.Courses.{Course, IsBehind, IsClosed, IsOverSome, GoesOn, TakesPlainly, passing}
use Rattle.ux_walk.specs.declared.config.Visit.{Visit}
use Rattle.ux_walk.specs.Configurations.{Adds, AddsFrom, IsPast, IsSound, Of}
use Rattle.ux_walk.proofs.Collecting.{seen_all, seen_before, seen_itself, seen_next}
use Rattle.ux_walk.proofs.Adding.{adds_alike, adds_nothing, adds_then}
use Rattle.ux_walk.proofs.Keeping.{keeps, spells_kept}

-- the course that goes on in these frames
abbrev pub course : List Frame → ℕ → List Event → Course
course frames at before = record { frames = frames; at = at; before = before }

calls_once : (k m : ℕ) → how.Calls k ≡ how.Calls m → k ≡ m
calls_once k m h = cc

module _ (alphabet : Letters) (tokens : List Token) (tables : Tables) (applies : Applying)
    (label : Label) (f : Frame) (i : ℕ) (before : List Event) (r : LabelMatch)
    (is : IsLabelMatch alphabet tokens tables label i r) (w : Course) where
  abbrev Behind : Type 0
  Behind = IsBehind alphabet tokens tables applies label f [] i before w

  -- what is behind the label, by the label match
  by_match : (Wanted : Type 0) →
      ((k : ℕ) → TakesUpTo r k → IsPast i f before k w → Wanted) →
      (r ≡ how.Stays → w ≡ course (f ∷ []) i (passing label ++ before) → Wanted) →
      ((h : ℕ) → r ≡ how.Calls h → applies.enters h i →
      w ≡ course (record { graph = h; state = 0 } ∷ f ∷ []) i before → Wanted) →
      (r ≡ how.Opens → (c : ℕ) → applies.contexts f.graph label f.state i c →
      IsClosed f [] i before c w → Wanted) → Behind → Wanted
  by_match Wanted takes stays calls opens b = elim b [
    | inl t ↦ takes t.0 ((is.takes t.0).1 t.1) t.2
    | inr o ↦ elim o [
      | inl s ↦ stays (is.stays.1 s.0) s.1
      | inr p ↦ elim p [
        | inl h ↦ calls h.0 ((is.calls h.0).1 h.1) h.2 h.3
        | inr c ↦ opens (is.opens.1 c.1) c.0 c.2 c.3
      ]
    ]
  ]

  upto : (this : LabelMatch) → r ≡ this → (k : ℕ) → TakesUpTo r k → TakesUpTo this k
  upto this is_this k takes = subst (λ (x : LabelMatch). TakesUpTo x k) is_this takes

  takes_it : (this : LabelMatch) → r ≡ this → (k : ℕ) → TakesUpTo this k →
      TakesPlainly alphabet tokens tables label i k
  takes_it this is_this k upto =
      (is.takes k).0 (subst (λ (x : LabelMatch). TakesUpTo x k) (sym is_this) upto)

  pub behind_takes : (k : ℕ) → r ≡ how.Takes k → IsPast i f before k w ↔ Behind
  behind_takes k this = (
    λ e. inl (k, takes_it (how.Takes k) this k refl, e),
    by_match (IsPast i f before k w)
        (λ m takes e. e ∙ ap (λ n. course (f ∷ []) n (Take i n ∷ before))
        (upto (how.Takes k) this m takes))
        (λ that e. let no : how.Takes k ≡ how.Stays = sym this ∙ that in cc)
        (λ h that enters e. let no : how.Takes k ≡ how.Calls h = sym this ∙ that in cc)
        (λ that c applied e. let no : how.Takes k ≡ how.Opens = sym this ∙ that in cc),
  )

  pub behind_spans : (ends : Vec ℕ Global) → r ≡ how.Spans ends →
      ((k : ℕ) × Contains ends.items k × IsPast i f before k w) ↔ Behind
  behind_spans ends this = (
    λ (k, inside, e). inl (k, takes_it (how.Spans ends) this k inside, e),
    by_match ((k : ℕ) × Contains ends.items k × IsPast i f before k w)
        (λ m takes e. (m, upto (how.Spans ends) this m takes, e))
        (λ that e. let no : how.Spans ends ≡ how.Stays = sym this ∙ that in cc)
        (λ h that enters e. let no : how.Spans ends ≡ how.Calls h = sym this ∙ that in cc)
        (λ that c applied e. let no : how.Spans ends ≡ how.Opens = sym this ∙ that in cc),
  )

  pub behind_stays : r ≡ how.Stays →
      (w ≡ course (f ∷ []) i (passing label ++ before)) ↔ Behind
  behind_stays this = (
    λ e. inr (inl (is.stays.0 this, e)),
    by_match (w ≡ course (f ∷ []) i (passing label ++ before))
        (λ m takes e. absurd (upto how.Stays this m takes))
        (λ that e. e)
        (λ h that enters e. let no : how.Stays ≡ how.Calls h = sym this ∙ that in cc)
        (λ that c applied e. let no : how.Stays ≡ how.Opens = sym this ∙ that in cc),
  )

  -- the course over a call of the graph, which is entered
  abbrev Enters : ℕ → Type 0
  Enters h =
      applies.enters h i × (w ≡ course (record { graph = h; state = 0 } ∷ f ∷ []) i before)

  pub behind_calls : (h : ℕ) → r ≡ how.Calls h → Enters h ↔ Behind
  behind_calls h this = (
    λ (enters, e). inr (inr (inl (h, (is.calls h).0 this, enters, e))),
    by_match (Enters h) (λ m takes e. absurd (upto (how.Calls h) this m takes))
        (λ that e. let no : how.Calls h ≡ how.Stays = sym this ∙ that in cc)
        (λ g that enters e. subst Enters (sym (calls_once h g (sym this ∙ that))) (enters, e))
        (λ that c applied e. let no : how.Calls h ≡ how.Opens = sym this ∙ that in cc),
  )

  pub behind_opens : r ≡ how.Opens → (closers : List ℕ) →
      ((c : ℕ) → Contains closers c ↔ applies.contexts f.graph label f.state i c) →
      ((c : ℕ) × Contains closers c × IsClosed f [] i before c w) ↔ Behind
  behind_opens this closers exact = (
    λ (c, inside, e). inr (inr (inr (c, is.opens.0 this, (exact c).0 inside, e))),
    by_match ((c : ℕ) × Contains closers c × IsClosed f [] i before c w)
        (λ m takes e. absurd (upto how.Opens this m takes))
        (λ that e. let no : how.Opens ≡ how.Stays = sym this ∙ that in cc)
        (λ h that enters e. let no : how.Opens ≡ how.Calls h = sym this ∙ that in cc)
        (λ that c applied e. (c, (exact c).1 applied, e)),
  )

  pub behind_closed : r ≡ how.Closed → Behind → ⊥
  behind_closed this = by_match ⊥
      (λ m takes e. upto how.Closed this m takes)
      (λ that e. let no : how.Closed ≡ how.Stays = sym this ∙ that in cc)
      (λ h that enters e. let no : how.Closed ≡ how.Calls h = sym this ∙ that in cc)
      (λ that c applied e. let no : how.Closed ≡ how.Opens = sym this ∙ that in cc)

-- what some element of the list leads to
abbrev pub Among : {S : Type 0} → (S → Course → Type 0) → List S → Course → Type 0
Among {S} Leads seen w = (s : S) × Contains seen s × Leads s w

module _ {S : Type 0} (v : Visit) (Leads : S → Course → Type 0) where
  pub adds_first : (r : Reached) (all : List S) → IsSound r →
      Adds (Of v (Among Leads (take 0 all))) r r
  adds_first r all sound = adds_nothing (Of v (Among Leads (take 0 all))) r sound
      (λ u w t. absurd (let inside = t.1.1.1 in omega (arith, inside)))

  -- one more element, with all that it leads to
  pub adds_next : (old now new : Reached) (all : List S) (i : ℕ) (s : S) → i < length all →
      s ≡ get_or all i s → Adds (Of v (Among Leads (take i all))) old now →
      Adds (Of v (Leads s)) now new → Adds (Of v (Among Leads (take (i + 1) all))) old new
  adds_next old now new all i s lt is before next =
      adds_then (Of v (Among Leads (take i all))) (Of v (Leads s))
      (Of v (Among Leads (take (i + 1) all))) old now new before next (λ u w. (
        λ t. elim (seen_next all i s t.1.0 lt is t.1.1) [
          | inl c ↦ inl (t.0, (t.1.0, c, t.1.2))
          | inr e ↦ inr (t.0, subst (λ (x : S). Leads x w) (sym e) t.1.2)
        ],
        λ t. elim t [
          | inl b ↦ (b.0, (b.1.0, seen_before all i s b.1.0 lt is b.1.1, b.1.2))
          | inr b ↦ (b.0, (s, seen_itself all i s lt is, b.1))
        ],
      ))

  pub adds_all : (old now : Reached) (all : List S) (i : ℕ) → length all ≤ i →
      Adds (Of v (Among Leads (take i all))) old now → Adds (Of v (Among Leads all)) old now
  adds_all old now all i past adds =
      subst (λ (l : List S). Adds (Of v (Among Leads l)) old now) (seen_all all i past) adds

module _ (alphabet : Letters) (tokens : List Token) (tables : Tables) (applies : Applying)
    (graphs : List NetGraph) (c : Config) where
  abbrev Next : List Event → Course → Type 0
  Next before = GoesOn alphabet tokens tables applies graphs c.here [] c.at before

  abbrev Over : List Edge → List Event → Course → Type 0
  Over edges before = IsOverSome alphabet tokens tables applies c.here [] c.at before edges

  abbrev Left : List Event → Course → Type 0
  Left before w = w ≡ course [] c.at before

  -- there is no such state
  pub steps_nowhere : (r : Reached) →
      slice_get (states_of graphs c.here.graph) c.here.state ≡ None → AddsFrom r r c Next
  steps_nowhere r none v before sound spells =
      adds_nothing (Of v (Next before)) r sound (λ u w t. none-some t.1.0 (sym none ∙ t.1.1))

  module _ (state : State)
      (found : slice_get (states_of graphs c.here.graph) c.here.state ≡ Some state) where
    same_state : (other : State) →
        slice_get (states_of graphs c.here.graph) c.here.state ≡ Some other → other ≡ state
    same_state other at = same_Some other state (sym at ∙ found)

    pub steps_final : (old mid new : Reached) → IsTrue state.is_final →
        AddsFrom old mid c (Over state.edges) → AddsFrom mid new c Left → AddsFrom old new c Next
    steps_final old mid new final over left v before sound spells =
        let first = over v before sound spells in
        let second = left v before first.sound
        (spells_kept old mid (keeps first) c v before spells) in
        adds_then (Of v (Over state.edges before)) (Of v (Left before)) (Of v (Next before)) old
        mid new first second (λ u w. (
          λ t. elim t.1.2 [
            | inl o ↦ inl (
              t.0,
              subst (λ (x : State). Over x.edges before w)
                  (same_state t.1.0 t.1.1) o,
            )
            | inr l ↦ inr (t.0, l.1)
          ],
          λ t. elim t [
            | inl o ↦ (o.0, (state, found, inl o.1))
            | inr l ↦ (l.0, (state, found, inr (final, l.1)))
          ],
        ))

    pub steps_on : (old new : Reached) → (IsTrue state.is_final → ⊥) →
        AddsFrom old new c (Over state.edges) → AddsFrom old new c Next
    steps_on old new never over v before sound spells =
        adds_alike (Of v (Over state.edges before)) (Of v (Next before)) old new
        (over v before sound spells) (λ u w. (
          λ o. (o.0, (state, found, inl o.1)),
          λ t. let same = same_state t.1.0 t.1.1 in elim t.1.2 [
            | inl o ↦ (t.0, subst (λ (x : State). Over x.edges before w) same o)
            | inr l ↦ absurd (never (subst (λ (x : State). IsTrue x.is_final) same l.0))
          ],
        ))

-- an element of a list, read with any other in place of a missing one
pub item_at : {X : Type 0} (xs : List X) (i : ℕ) (d : X) → i < length xs →
    get_or xs i d ≡ get_or xs i (get_or xs i d)
item_at [] i d lt = absurd (omega (arith, lt))
item_at (x ∷ xs) zero d lt = refl
item_at (x ∷ xs) (suc i) d lt = item_at xs i d (omega (arith, lt))

pub item_in : {X : Type 0} (xs : List X) (i : ℕ) (d : X) → i < length xs →
    Contains xs (get_or xs i d)
item_in xs i d lt = Contains-get_or xs i d lt
