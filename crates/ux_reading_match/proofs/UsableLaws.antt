-- A net is usable or refused, for one cause; and nets that have the same states alike.
use Rattle.std.proofs.Common.{◌≡◌, ◌≢◌, ℕ, zero, suc, ◌<◌, List, Option, None, Some, inl, inr, refl, sym, ap, ◌∙◌, map, subst}
use Rattle.std.specs.Prelude.{slice_get}
use Rattle.std.specs.Option.{option_map}
use Rattle.std.proofs.lemmas.Bool.{cases_order}
use Rattle.std.proofs.lemmas.Option.{same_Some, slice_get-map}
use Rattle.ux_net.specs.declared.net_graph.NetGraph.{NetGraph}
use Rattle.ux_net.specs.declared.state.State.{State}
use Rattle.ux_net.specs.declared.state_graph.StateGraph.{StateGraph}
use Rattle.ux_net.specs.Nets.{graph_at}
use Rattle.ux_net.specs.Whole.{told_graph, whole_in, whole_states_of}
use Rattle.ux_reading_match.specs.Usable.{IsBadState, IsFirstBad, IsNameOf, IsUsable, Refuses}
use Rattle.ux_reading_match.specs.declared.error.TfstError.{TfstError}
use Rattle.ux_reading_match.specs.declared.error.TfstError.TheVariants.{BadItem, NoMemory}

module _ (net : List NetGraph) where
  -- a graph has one name
  one_name : (g : ℕ) (name other : List ℕ) → IsNameOf net g name → IsNameOf net g other →
      name ≡ other
  one_name g name other one also =
      let graph = same_Some one.graph also.graph (sym one.found ∙ also.found) in
      one.same ∙ (ap (λ (x : NetGraph). x.name) graph ∙ sym also.same)

  -- one state of one graph is the first bad one
  first_graph : (g h n m : ℕ) → IsFirstBad net g n → IsFirstBad net h m → g ≡ h
  first_graph g h n m one also = elim (cases_order g h) [
    | inl same ↦ same
    | inr (inl low) ↦ absurd (also.graph g n low one.bad)
    | inr (inr low) ↦ absurd (one.graph h m low also.bad)
  ]

  first_state : (g n m : ℕ) → IsFirstBad net g n → IsFirstBad net g m → n ≡ m
  first_state g n m one also = elim (cases_order n m) [
    | inl same ↦ same
    | inr (inl low) ↦ absurd (also.state n low one.bad)
    | inr (inr low) ↦ absurd (one.state m low also.bad)
  ]

  -- a net is refused for one error, want of memory aside
  pub refused_once : (e f : TfstError) → e ≢ NoMemory → f ≢ NoMemory → Refuses net e →
      Refuses net f → e ≡ f
  refused_once (BadItem x n) (BadItem y m) some also a b =
      let graph = first_graph a.0 b.0 n m a.1 b.1 in
      let state = first_state b.0 n m (subst (λ g. IsFirstBad net g n) graph a.1) b.1 in
      let name = one_name b.0 x y (subst (λ g. IsNameOf net g x) graph a.2) b.2 in
      ap (λ (name : List ℕ). BadItem name n) name ∙ ap (BadItem y) state
  refused_once NoMemory f some also a b = absurd (some refl)
  refused_once (BadItem x n) NoMemory some also a b = absurd (also refl)

  -- and not where it is usable
  pub not_refused : (e : TfstError) → e ≢ NoMemory → IsUsable net → Refuses net e → ⊥
  not_refused (BadItem x n) some usable refuses = usable refuses.0 n refuses.1.bad
  not_refused NoMemory some usable refuses = some refl

module _ (a b : List NetGraph) (same : map told_graph a ≡ map told_graph b) where
  told_alike : (n : ℕ) →
      option_map told_graph (slice_get a n) ≡ option_map told_graph (slice_get b n)
  told_alike n =
      sym (slice_get-map told_graph a n)
      ∙ (ap (λ (l : List StateGraph). slice_get l n) same ∙ slice_get-map told_graph b n)

  states_alike : (g : ℕ) → whole_states_of a g ≡ whole_states_of b g
  states_alike zero = refl
  states_alike (suc n) = by (slice_get a n) (slice_get b n) (told_alike n)
    where
      by : (x y : Option NetGraph) → option_map told_graph x ≡ option_map told_graph y →
          whole_in x ≡ whole_in y
      by None None e = refl
      by None (Some y) e = cc
      by (Some x) None e = cc
      by (Some x) (Some y) e =
          ap (λ (t : StateGraph). t.states) (same_Some (told_graph x) (told_graph y) e)

  bad_alike : (g n : ℕ) → IsBadState a g n → IsBadState b g n
  bad_alike g n bad = record {
    state = bad.state;
    found = subst (λ (states : List State). slice_get states n ≡ Some bad.state) (states_alike g)
        bad.found;
    bad = bad.bad;
  }

  name_alike : (g : ℕ) (name : List ℕ) → IsNameOf a g name → IsNameOf b g name
  name_alike zero name is = let none = is.found in cc
  name_alike (suc n) name is =
      by (slice_get b n) refl (sym (ap (option_map told_graph) is.found) ∙ told_alike n)
    where
      by : (o : Option NetGraph) → slice_get b n ≡ o →
          Some (told_graph is.graph) ≡ option_map told_graph (slice_get b n) →
          IsNameOf b (suc n) name
      by None there e =
          let none : Some (told_graph is.graph) ≡ None = e ∙ ap (option_map told_graph) there in
          cc
      by (Some graph) there e = record {
        graph = graph;
        found = there;
        same = is.same ∙ ap (λ (t : StateGraph). t.name) (same_Some (told_graph is.graph)
            (told_graph graph) (e ∙ ap (option_map told_graph) there));
      }

-- nets with the same states are usable alike
pub usable_alike : (a b : List NetGraph) → map told_graph a ≡ map told_graph b → IsUsable a →
    IsUsable b
usable_alike a b same usable g n bad = usable g n (bad_alike b a (sym same) g n bad)

-- and refused alike
pub refuses_alike : (a b : List NetGraph) → map told_graph a ≡ map told_graph b → (e : TfstError) →
    Refuses a e → Refuses b e
refuses_alike a b same (BadItem name node) (g, first, named) = (
  g,
  record {
    bad = bad_alike a b same g node first.bad;
    graph = λ h m low bad. first.graph h m low (bad_alike b a (sym same) h m bad);
    state = λ m low bad. first.state m low (bad_alike b a (sym same) g m bad);
  },
  name_alike a b same g name named,
)
refuses_alike a b same NoMemory refuses = refuses
