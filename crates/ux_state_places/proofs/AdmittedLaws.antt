-- What a refusal of places tells of states.
use Rattle.std.proofs.Common.{arith, ◌≡◌, ℕ, zero, suc, ◌-◌, ◌<◌, ◌≤◌, List, [], length, get_or, refl, sym, ap, subst, ◌∙◌}
use Rattle.std.specs.Prelude.{All, Option, Some, None}
use Rattle.std.specs.Option.{option_map}
use Rattle.std.proofs.lemmas.Option.{slice_get-map, slice_get_read}
use Rattle.ux_net.specs.declared.state_graph.StateGraph.{StateGraph}
use Rattle.ux_net.specs.StateGraphs.{state_grammar, AreInsideStates}
use Rattle.ux_boxes.specs.declared.place.Place.{Place}
use Rattle.ux_boxes.specs.Places.{places_of, place_grammar}
use Rattle.ux_boxes.specs.Fit.{IsFit, HasTargetsInside}
use Rattle.ux_boxes.specs.Refusing.{IsFirst, is_name_at}
use Rattle.ux_admission.specs.declared.admissible.AdmissionError.{AdmissionError}
use Rattle.ux_admission.specs.declared.admissible.AdmissionError.TheVariants.{EmptyLoop, LeftRecursion}
use Rattle.ux_admission.specs.declared.negative_recursion.LevelsError.{LevelsError}
use Rattle.ux_admission.specs.declared.negative_recursion.LevelsError.TheVariants.{NegativeRecursion}
use Rattle.ux_admission.specs.declared.spot.Spot.{Spot}
use Rattle.ux_admission.specs.LevelsRefusal.{RefusesLevels}
use Rattle.ux_admission.specs.Refusals.{IsRefusal}
use Rattle.ux_admission.specs.Spots.{FindsFirst}
use Rattle.ux_admission.specs.Admissible.{IsOnEmptyLoop, IsLeftRecursive, IsAdmissible}
use Rattle.ux_admission.specs.Admission.{row_at}
use Rattle.ux_admission.specs.ContextClose.{IsBadContext, AreClosed}
use Rattle.ux_admission.specs.NegativeRecursion.{IsFirstNegative, HasNoNegativeRecursion}
use Rattle.ux_boxes.proofs.NumbersLemmas.{graph_inside}
use Rattle.ux_boxes.proofs.StepsLemmas.{step_inside}
use Rattle.ux_state_places.specs.RefusingStates.{names_told}
use Rattle.ux_state_places.specs.Standing.{Stand, entry_at}
use Rattle.ux_state_places.proofs.BadStates.{bad_states, bad_forth, first_negative, no_recursion_states}
use Rattle.ux_state_places.proofs.EntryLemmas.{first_states}
use Rattle.ux_state_places.proofs.LoopStates.{admissible_states, loop_states, loop_forth, recursion_states, recursion_forth}

-- targets are places
pub all_inside : (places : List (List Place)) → All (IsFit (length places)) places →
    All HasTargetsInside places
all_inside places fit k d within = (fit k d within).inside

-- the row of a number
pub row_of_number : {A : Type 0} (rows : List (List A)) (g : ℕ) → 1 ≤ g →
    row_at rows g ≡ get_or rows (g - 1) []
row_of_number rows zero from = absurd (omega (arith, from))
row_of_number rows (suc g) from = ap (λ n. get_or rows n []) (let e : g ≡ suc g - 1 = omega arith in e)

module _ (graphs : List StateGraph) (places : List (List Place)) (stands hubs : List (List ℕ))
    (stand : Stand graphs places stands hubs) where
  -- the place that is named is in a graph that is there, and its state comes first
  pub record IsTold (IsSo : (g n : ℕ) → Type 0) (g p : ℕ) : Type 0 where
    pub from : 1 ≤ g
    pub to : g ≤ length graphs
    pub row : g ≤ length stands
    pub inside : p < length (row_at stands g)
    pub first : IsFirst IsSo g (entry_at stands g p)

  told : (IsSo : (g n : ℕ) → Type 0) (g p : ℕ) → p < length (places_of places g) →
      IsFirst IsSo g (entry_at stands g p) → IsTold IsSo g p
  told IsSo g p inside first =
      let there = graph_inside places g p inside in
      let to = there.1 in
      let count = stand.count in
      let len = stand.standing.len in
      let row = stand.standing.row g in
      record {
        from = there.0;
        to = omega (arith, to, count);
        row = omega (arith, to, count, len);
        inside = omega (arith, inside, row);
        first = first;
      }

  pub context_told : (g p : ℕ) → IsFirst (IsBadContext (place_grammar places)) g p →
      IsTold (IsBadContext (state_grammar graphs)) g p
  context_told g p f =
      told (IsBadContext (state_grammar graphs)) g p
      (bad_states graphs places stands hubs stand g p f.here).0
      (first_states graphs places stands hubs stand (IsBadContext (place_grammar places))
      (IsBadContext (state_grammar graphs)) (bad_states graphs places stands hubs stand)
      (bad_forth graphs places stands hubs stand) g p f)

  pub loop_told : (g p : ℕ) → IsFirst (IsOnEmptyLoop (place_grammar places)) g p →
      IsTold (IsOnEmptyLoop (state_grammar graphs)) g p
  loop_told g p f =
      told (IsOnEmptyLoop (state_grammar graphs)) g p
      (loop_states graphs places stands hubs stand g p f.here).0
      (first_states graphs places stands hubs stand (IsOnEmptyLoop (place_grammar places))
      (IsOnEmptyLoop (state_grammar graphs)) (loop_states graphs places stands hubs stand)
      (loop_forth graphs places stands hubs stand) g p f)

  pub recursion_told : AreInsideStates graphs → (g p : ℕ) →
      IsFirst (IsLeftRecursive (place_grammar places)) g p →
      IsTold (IsLeftRecursive (state_grammar graphs)) g p
  recursion_told inside g p f =
      told (IsLeftRecursive (state_grammar graphs)) g p
      (recursion_states graphs places stands hubs stand g p f.here).0
      (first_states graphs places stands hubs stand (IsLeftRecursive (place_grammar places))
      (IsLeftRecursive (state_grammar graphs)) (recursion_states graphs places stands hubs stand)
      (recursion_forth graphs places stands hubs stand inside) g p f)

  -- where no place is on a loop, no state is
  pub no_loop_states : ((g p : ℕ) → IsOnEmptyLoop (place_grammar places) g p → ⊥) →
      (g n : ℕ) → IsOnEmptyLoop (state_grammar graphs) g n → ⊥
  no_loop_states none g n o =
      let x = loop_forth graphs places stands hubs stand g n o in none g x.0 x.1

  -- the graph of a negative recursion is there
  pub record IsNegativeTold (g : ℕ) : Type 0 where
    pub from : 1 ≤ g
    pub to : g ≤ length graphs
    pub first : IsFirstNegative (state_grammar graphs) g

  pub negative_told : AreInsideStates graphs → (g : ℕ) →
      IsFirstNegative (place_grammar places) g → IsNegativeTold g
  negative_told inside g f =
      let has = f.here.has in
      let there = graph_inside places g has.step.from
      (step_inside (places_of places g) has.step has.leads.of_graph).0 in
      let to = there.1 in
      let count = stand.count in
      record {
        from = there.0;
        to = omega (arith, to, count);
        first = first_negative graphs places stands hubs stand inside g f;
      }

  -- The same of what a search found among these places.
  module _ (now : List (List Place)) (same : now ≡ places) where
    pub context_found : (found : Option Spot) (spot : Spot) → found ≡ Some spot →
        FindsFirst (IsBadContext (place_grammar now)) found →
        IsTold (IsBadContext (state_grammar graphs)) spot.graph spot.node
    context_found found spot is first =
        context_told spot.graph spot.node
        (subst (λ (ps : List (List Place)).
        IsFirst (IsBadContext (place_grammar ps)) spot.graph spot.node) same
        (subst (FindsFirst (IsBadContext (place_grammar now))) is first))

    pub none_found : (found : Option Spot) → found ≡ None →
        FindsFirst (IsBadContext (place_grammar now)) found → AreClosed (state_grammar graphs)
    none_found found is none g n bad =
        let x = bad_forth graphs places stands hubs stand g n bad in
        subst (λ (ps : List (List Place)). (g p : ℕ) → IsBadContext (place_grammar ps) g p → ⊥) same
        (subst (FindsFirst (IsBadContext (place_grammar now))) is none) g x.0 x.1

    pub negative_found : AreInsideStates graphs → (error : LevelsError) (g : ℕ) →
        error ≡ NegativeRecursion g → RefusesLevels now error → IsNegativeTold g
    negative_found inside error g is cause =
        negative_told inside g
        (subst (λ (ps : List (List Place)). IsFirstNegative (place_grammar ps) g) same
        (subst (RefusesLevels now) is cause))

    pub loop_found : (error : AdmissionError) (g p : ℕ) → error ≡ EmptyLoop g p →
        IsRefusal now error → IsTold (IsOnEmptyLoop (state_grammar graphs)) g p
    loop_found error g p is cause =
        loop_told g p
        (subst (λ (ps : List (List Place)). IsFirst (IsOnEmptyLoop (place_grammar ps)) g p) same
        (subst (IsRefusal now) is cause))

    pub recursion_found : AreInsideStates graphs → (error : AdmissionError) (g p : ℕ) →
        error ≡ LeftRecursion g p → IsRefusal now error →
        IsTold (IsLeftRecursive (state_grammar graphs)) g p
        × ((h n : ℕ) → IsOnEmptyLoop (state_grammar graphs) h n → ⊥)
    recursion_found inside error g p is cause =
        let both = subst (λ (ps : List (List Place)).
        ((h n : ℕ) → IsOnEmptyLoop (place_grammar ps) h n → ⊥)
        × IsFirst (IsLeftRecursive (place_grammar ps)) g p) same
        (subst (IsRefusal now) is cause) in
        (recursion_told inside g p both.1, no_loop_states both.0)

    pub admissible_found : AreInsideStates graphs → IsAdmissible (place_grammar now) →
        IsAdmissible (state_grammar graphs)
    admissible_found inside a =
        admissible_states graphs places stands hubs stand inside
        (subst (λ (ps : List (List Place)). IsAdmissible (place_grammar ps)) same a)

    pub levels_found : AreInsideStates graphs → HasNoNegativeRecursion (place_grammar now) →
        HasNoNegativeRecursion (state_grammar graphs)
    levels_found inside none =
        no_recursion_states graphs places stands hubs stand inside
        (subst (λ (ps : List (List Place)). HasNoNegativeRecursion (place_grammar ps)) same none)

-- a list and its copy by another name
pub fit_now : (now places : List (List Place)) → now ≡ places →
    All (IsFit (length places)) places → All (IsFit (length now)) now
fit_now now places same fit =
    subst (λ (ps : List (List Place)). All (IsFit (length ps)) ps) (sym same) fit

-- the name of the graph of a number
pub name_of_number : (graphs : List StateGraph) (g : ℕ) (graph : StateGraph) (name : List ℕ) →
    1 ≤ g → g ≤ length graphs → graph ≡ get_or graphs (g - 1) graph → name ≡ graph.name →
    is_name_at (names_told graphs) g name
name_of_number graphs zero graph name from to is same = absurd (omega (arith, from))
name_of_number graphs (suc g) graph name from to is same =
    let e : suc g - 1 ≡ g = omega arith in
    slice_get-map (λ (graph : StateGraph). graph.name) graphs g
    ∙ (ap (λ o. option_map (λ (graph : StateGraph). graph.name) o)
    (slice_get_read graphs (length graphs) g graph refl (omega (arith, to))
    (is ∙ ap (λ m. get_or graphs m graph) e))
    ∙ ap (λ n. Some n) (sym same))
