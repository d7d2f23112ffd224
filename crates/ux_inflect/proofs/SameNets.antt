-- Nets whose graphs have the same names and states accept the same stems, and refuse others alike.
use Rattle.std.proofs.Common.{arith, ◌≡◌, inl, inr, ℕ, zero, suc, List, [], ◌∷◌, Some, None, refl, sym, ap, ◌∙◌, subst, length, map}
use Rattle.std.specs.Prelude.{Option, slice_get}
use Rattle.std.specs.List.{AllZip, flat_map}
use Rattle.std.specs.Option.{option_map}
use Rattle.std.proofs.lemmas.Option.{same_Some}
use Rattle.std.proofs.Math.Path.{fun_ext}
use Rattle.ux_digraph.specs.Paths.{Path, Reaches}
use Rattle.ux_dela.specs.declared.entry.Stem.{Stem}
use Rattle.ux_net.specs.declared.net_graph.NetGraph.{NetGraph}
use Rattle.ux_net.specs.declared.state.State.{State}
use Rattle.ux_net.specs.Nets.{net_graph, net_grammar, states_in, states_of}
use Rattle.ux_net.specs.Words.{Grammar, Letter}
use Rattle.ux_inflect.specs.declared.error.InflectError.{InflectError}
use Rattle.ux_inflect.specs.declared.error.InflectError.TheVariants.{Cyclic, BadItem, StackEnd, BadCodes, NoMemory}
use Rattle.ux_inflect.specs.Cyclic.{HasCycle, IsCyclic, call_rows, calls_of, calls_of_state}
use Rattle.ux_inflect.specs.Refusing.{IsAccepted, IsAcyclic, IsBadState, IsClean, IsDoable, IsFirstBad, IsFirstCyclic, IsLeast, IsNameOf, IsStuck, IsMiscoded, Refuses}
use Rattle.ux_inflect.specs.Whole.{IsWhole, IsWholeFrom}

-- the graphs have one name, the same states, and the same is kept aside of them
abbrev pub AreAlike : NetGraph → NetGraph → Type 0
AreAlike a b = (a.name ≡ b.name) × (a.states ≡ b.states) × (a.unmet ≡ b.unmet)

alike_back : (a b : NetGraph) → AreAlike a b → AreAlike b a
alike_back a b alike = (sym alike.0, sym alike.1, sym alike.2)

pub all_back : (a b : List NetGraph) → AllZip AreAlike a b → AllZip AreAlike b a
all_back [] [] each = tt
all_back [] (y ∷ b) each = absurd each
all_back (x ∷ a) [] each = absurd each
all_back (x ∷ a) (y ∷ b) each = (alike_back x y each.0, all_back a b each.1)

same_length : (a b : List NetGraph) → AllZip AreAlike a b → length a ≡ length b
same_length [] [] each = refl
same_length [] (y ∷ b) each = absurd each
same_length (x ∷ a) [] each = absurd each
same_length (x ∷ a) (y ∷ b) each = let more = same_length a b each.1 in omega (arith, more)

-- what a function tells of a graph by its name and states is one
told_alike : {A : Type 0} (tell : NetGraph → A) →
    ((x y : NetGraph) → AreAlike x y → tell x ≡ tell y) → (a b : List NetGraph) (n : ℕ) →
    AllZip AreAlike a b → option_map tell (slice_get a n) ≡ option_map tell (slice_get b n)
told_alike tell same [] [] n each = refl
told_alike tell same [] (y ∷ b) n each = absurd each
told_alike tell same (x ∷ a) [] n each = absurd each
told_alike tell same (x ∷ a) (y ∷ b) zero each = ap Some (same x y each.0)
told_alike tell same (x ∷ a) (y ∷ b) (suc n) each = told_alike tell same a b n each.1

module _ (a b : List NetGraph) (each : AllZip AreAlike a b) where
  states_alike : (g : ℕ) → states_of a g ≡ states_of b g
  states_alike zero = refl
  states_alike (suc n) =
      let same = told_alike (λ (graph : NetGraph). graph.states) (λ x y alike. alike.1) a b n each in
      by (slice_get a n) (slice_get b n) same
    where
      by : (v w : Option NetGraph) →
          option_map (λ (graph : NetGraph). graph.states) v
          ≡ option_map (λ (graph : NetGraph). graph.states) w → states_in v ≡ states_in w
      by None None is = refl
      by None (Some y) is = cc
      by (Some x) None is = cc
      by (Some x) (Some y) is = same_Some x.states y.states is

  grammar_alike : net_grammar a ≡ net_grammar b
  grammar_alike =
      let G : ℕ → (ℕ → List State) → Grammar =
      λ n states. record { count = n; graph = λ g. net_graph (states g) } in
      ap (λ n. G n (states_of a)) (same_length a b each)
      ∙ ap (G (length b)) (fun_ext states_alike)

  whole_words : (whole : List Letter) → IsWhole b whole → IsWhole a whole
  whole_words whole is =
      subst (λ (grammar : Grammar). IsWholeFrom grammar 1 0 whole) (sym grammar_alike) is

  name_alike : (g : ℕ) (name : List ℕ) → IsNameOf a g name → IsNameOf b g name
  name_alike zero name is = let none = is.found in cc
  name_alike (suc n) name is =
      by (slice_get b n) refl (sym (ap (option_map (λ (graph : NetGraph). graph.name)) is.found)
      ∙ told_alike (λ (graph : NetGraph). graph.name) (λ x y alike. alike.0) a b n each)
    where
      by : (o : Option NetGraph) → slice_get b n ≡ o →
          Some is.graph.name ≡ option_map (λ (graph : NetGraph). graph.name) (slice_get b n) →
          IsNameOf b (suc n) name
      by None there same =
          let none : Some is.graph.name ≡ None =
          same ∙ ap (option_map (λ (graph : NetGraph). graph.name)) there in
          cc
      by (Some graph) there same = record {
        graph = graph;
        found = there;
        same = is.same ∙ same_Some is.graph.name graph.name
            (same ∙ ap (option_map (λ (graph : NetGraph). graph.name)) there);
      }

-- the same calls
rows_alike : (a b : List NetGraph) → AllZip AreAlike a b → map calls_of a ≡ map calls_of b
rows_alike [] [] each = refl
rows_alike [] (y ∷ b) each = absurd each
rows_alike (x ∷ a) [] each = absurd each
rows_alike (x ∷ a) (y ∷ b) each =
    ap (λ (row : List ℕ). row ∷ map calls_of a)
    (ap (λ (states : List State). flat_map calls_of_state states) each.0.1)
    ∙ ap (λ (rows : List (List ℕ)). calls_of y ∷ rows) (rows_alike a b each.1)

module _ (a b : List NetGraph) (each : AllZip AreAlike a b) where
  calls_alike : call_rows a ≡ call_rows b
  calls_alike = ap (λ (rows : List (List ℕ)). [] ∷ rows) (rows_alike a b each)

  cyclic_alike : (g : ℕ) → IsCyclic a g → IsCyclic b g
  cyclic_alike g is = record {
    reached = subst (λ (rows : List (List ℕ)). Reaches rows 1 g) calls_alike is.reached;
    cyclic = elim is.cyclic [
      | inl cycle ↦ inl (subst HasCycle (states_alike a b each g) cycle)
      | inr path ↦ inr (subst (λ (rows : List (List ℕ)). Path rows g g) calls_alike path)
    ];
  }

  bad_alike : (g n : ℕ) → IsBadState a g n → IsBadState b g n
  bad_alike g n is = record {
    state = is.state;
    found = subst (λ (states : List State). slice_get states n ≡ Some is.state)
        (states_alike a b each g) is.found;
    edge = is.edge;
    inside = is.inside;
    bad = is.bad;
  }

-- nets that are alike: what holds of one holds of the other
module _ (a b : List NetGraph) (each : AllZip AreAlike a b) where
  back : AllZip AreAlike b a
  back = all_back a b each

  acyclic_alike : IsAcyclic a → IsAcyclic b
  acyclic_alike is g cyclic = is g (cyclic_alike b a back g cyclic)

  clean_alike : IsClean a → IsClean b
  clean_alike is = record {
    acyclic = acyclic_alike is.acyclic;
    clean = λ g n bad. is.clean g n (bad_alike b a back g n bad);
  }

  first_cyclic_alike : (g : ℕ) → IsFirstCyclic a g → IsFirstCyclic b g
  first_cyclic_alike g is = record {
    cyclic = cyclic_alike a b each g is.cyclic;
    first = λ h low cyclic. is.first h low (cyclic_alike b a back h cyclic);
  }

  first_bad_alike : (g n : ℕ) → IsFirstBad a g n → IsFirstBad b g n
  first_bad_alike g n is = record {
    bad = bad_alike a b each g n is.bad;
    graph = λ h m low bad. is.graph h m low (bad_alike b a back h m bad);
    state = λ m low bad. is.state m low (bad_alike b a back g m bad);
  }

  least_alike : (Is : List Letter → Type 0) (path : List ℕ) → IsLeast a Is path → IsLeast b Is path
  least_alike Is path least = record {
    whole = least.whole;
    is_whole = whole_words b a back least.whole least.is_whole;
    is = least.is;
    text = least.text;
    least = λ other whole is. least.least other (whole_words a b each other whole) is;
  }

  doable_alike : (stem : Stem) → IsDoable stem a → IsDoable stem b
  doable_alike stem is = record {
    clean = clean_alike is.clean;
    doable = λ whole is_whole stuck.
        is.doable whole (whole_words a b each whole is_whole) stuck;
  }

  pub accepted_alike : (stem : Stem) → IsAccepted stem a → IsAccepted stem b
  accepted_alike stem is = record {
    doable = doable_alike stem is.doable;
    coded = λ whole is_whole miscoded.
        is.coded whole (whole_words a b each whole is_whole) miscoded;
  }

  pub refused_alike : (stem : Stem) (error : InflectError) → Refuses stem a error →
      Refuses stem b error
  refused_alike stem (Cyclic name) is =
      (is.0, first_cyclic_alike is.0 is.1, name_alike a b each is.0 name is.2)
  refused_alike stem (BadItem name node) is = (
    acyclic_alike is.0,
    (
      is.1.0,
      first_bad_alike is.1.0 node is.1.1,
      name_alike a b each is.1.0 name is.1.2,
    ),
  )
  refused_alike stem (StackEnd path) is = (clean_alike is.0, least_alike (IsStuck stem) path is.1)
  refused_alike stem (BadCodes path) is =
      (doable_alike stem is.0, least_alike (IsMiscoded stem) path is.1)
  refused_alike stem NoMemory is = tt
