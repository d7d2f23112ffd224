-- The grammar of the boxes and that of the places have the same steps.
use Rattle.std.proofs.Common.{arith, ◌≡◌, ℕ, zero, suc, ◌<◌, List, [], refl, sym, ◌∙◌, ap, subst, inl, inr, length, true}
use Rattle.std.specs.Prelude.{Contains, slice_get}
use Rattle.std.proofs.lemmas.Option.{slice_get_past}
use Rattle.ux_alphabet.specs.Letters.{Letters}
use Rattle.ux_grf.specs.declared.graph.GrfBox.{GrfBox}
use Rattle.ux_base.specs.Distinct.{StandOnce}
use Rattle.ux_boxes.specs.declared.error.NetError.{NetError}
use Rattle.ux_boxes.specs.declared.error.NetError.TheVariants.{MissingGraph, BadMask, ContextClose, NegativeRecursion, EmptyLoop, LeftRecursion, NoMemory}
use Rattle.ux_boxes.specs.declared.place.Place.{Place}
use Rattle.ux_admission.specs.Admissible.{IsOnEmptyLoop, IsLeftRecursive, IsAdmissible}
use Rattle.ux_boxes.specs.Boxes.{Drawn, boxes_in, boxes_of, names_of, box_reached_in, box_targets_in, targets_at, box_graph, box_grammar}
use Rattle.ux_boxes.specs.Places.{ArePlaces, places_in, places_of, is_reached, reached_in, place_graph, place_grammar}
use Rattle.ux_boxes.specs.Splitting.{AreSplit}
use Rattle.ux_admission.specs.SoundGrammar.{HasSoundContexts}
use Rattle.ux_compile.specs.Compiling.{RefusesNet}
use Rattle.ux_admission.specs.Refusals.{RefusesPlaces, RefusesContexts, RefusesRecursion}
use Rattle.ux_admission.specs.ContextClose.{IsBadContext, AreClosed}
use Rattle.ux_admission.specs.NegativeRecursion.{HasNoNegativeRecursion, IsFirstNegative}
use Rattle.ux_boxes.specs.Refusing.{AreWhole, AreMasked}
use Rattle.ux_compile.specs.Refusing.{HaveSoundContexts, Refuses}
use Rattle.ux_base.proofs.Lists.{less_or, nothing_in}
use Rattle.ux_boxes.proofs.StepsLemmas.{step_inside, target_from}
use Rattle.ux_boxes.proofs.SameGraph.{place_step, box_step}
use Rattle.ux_admission.proofs.SameContexts.{bad_within, closed_within, negative_within}
use Rattle.ux_net.proofs.SameGrammar.{IsWithin}
use Rattle.ux_admission.proofs.SameLoops.{loop_within, recursion_within, first_so, admissible_within}

-- without boxes nothing leads anywhere
none_leads : (boxes : List GrfBox) (a b : ℕ) → boxes ≡ [] → Contains (targets_at boxes a) b → ⊥
none_leads boxes a b none leads =
    nothing_in (subst (λ (l : List ℕ). Contains l b)
    (ap box_targets_in (slice_get_past boxes a (rw none (omega arith)))) leads)

-- a list without places has none
pub none_there : (places : List Place) (a : ℕ) → places ≡ [] → a < length places → ⊥
none_there places a none h =
    let e = ap (λ (l : List Place). length l) none in absurd (omega (arith, e, h))

-- of no boxes none is reached
no_box : (boxes : List GrfBox) (n : ℕ) → boxes ≡ [] →
    box_reached_in (slice_get boxes n) ≡ true → ⊥
no_box boxes n none on =
    let off = ap box_reached_in (slice_get_past boxes n (rw none (omega arith))) in cc

-- and of no places none
no_place : (places : List Place) (n : ℕ) → places ≡ [] → is_reached places n ≡ true → ⊥
no_place places n none on =
    let off = ap reached_in (slice_get_past places n (rw none (omega arith))) in cc

module _ (alphabet : Letters) (names : List (List ℕ)) (boxes : List GrfBox)
    (places : List Place) where
  none_to_places : boxes ≡ [] → IsWithin (box_graph alphabet names boxes) (place_graph places)
  none_to_places none = record {
    start = refl;
    places = λ n p. absurd (no_box boxes n none p.1);
    ends = λ n e. absurd (none_leads boxes n 1 none e.1);
    steps = λ s i. absurd (none_leads boxes s.from s.to none i.leads);
  }

  none_to_boxes : places ≡ [] → IsWithin (place_graph places) (box_graph alphabet names boxes)
  none_to_boxes none = record {
    start = refl;
    places = λ n p. absurd (no_place places n none p.1);
    ends = λ n e. absurd (none_there places n none (target_from places n 1 e.1));
    steps = λ s i. absurd (none_there places s.from none (step_inside places s i).0);
  }

  some_to_places : StandOnce names → ArePlaces alphabet names boxes places →
      IsWithin (box_graph alphabet names boxes) (place_graph places)
  some_to_places once are = record {
    start = refl;
    places = λ n p. (p.0, are.reached n ∙ p.1);
    ends = λ n e. (e.0, subst (λ (l : List ℕ). Contains l 1) (sym (are.targets n)) e.1);
    steps = place_step alphabet names boxes places once are;
  }

  some_to_boxes : StandOnce names → ArePlaces alphabet names boxes places →
      IsWithin (place_graph places) (box_graph alphabet names boxes)
  some_to_boxes once are = record {
    start = refl;
    places = λ n p. (p.0, sym (are.reached n) ∙ p.1);
    ends = λ n e. (e.0, subst (λ (l : List ℕ). Contains l 1) (are.targets n) e.1);
    steps = box_step alphabet names boxes places once are;
  }

module _ (alphabet : Letters) (graphs : List Drawn) (places : List (List Place))
    (once : StandOnce (names_of graphs)) (are : AreSplit alphabet graphs places) where
  -- the boxes are within the places
  pub to_places : (g : ℕ) → IsWithin
      (box_graph alphabet (names_of graphs) (boxes_of graphs g)) (place_graph (places_of places g))
  to_places zero = none_to_places alphabet (names_of graphs) [] [] refl
  to_places (suc n) = elim (less_or n (length graphs)) [
    | inl lt ↦
        some_to_places alphabet (names_of graphs) (boxes_of graphs (suc n))
        (places_of places (suc n)) once (are.each n lt)
    | inr past ↦
        none_to_places alphabet (names_of graphs) (boxes_of graphs (suc n))
        (places_of places (suc n)) (ap boxes_in (slice_get_past graphs n past))
  ]

  -- and the places within the boxes
  pub to_boxes : (g : ℕ) → IsWithin (place_graph (places_of places g))
      (box_graph alphabet (names_of graphs) (boxes_of graphs g))
  to_boxes zero = none_to_boxes alphabet (names_of graphs) [] [] refl
  to_boxes (suc n) = elim (less_or n (length graphs)) [
    | inl lt ↦
        some_to_boxes alphabet (names_of graphs) (boxes_of graphs (suc n))
        (places_of places (suc n)) once (are.each n lt)
    | inr past ↦
        none_to_boxes alphabet (names_of graphs) (boxes_of graphs (suc n))
        (places_of places (suc n))
        (ap places_in (slice_get_past places n (let e = are.count in omega (arith, past, e))))
  ]

  -- the grammar of the boxes is admissible where that of the places is
  pub boxes_admissible : IsAdmissible (place_grammar places) →
      IsAdmissible (box_grammar alphabet graphs)
  boxes_admissible = admissible_within (place_grammar places) (box_grammar alphabet graphs) to_places

  -- an empty loop of the places is one of the boxes
  loop_boxes : (g n : ℕ) → IsOnEmptyLoop (place_grammar places) g n →
      IsOnEmptyLoop (box_grammar alphabet graphs) g n
  loop_boxes = loop_within (place_grammar places) (box_grammar alphabet graphs) to_boxes

  -- and back
  loop_places : (g n : ℕ) → IsOnEmptyLoop (box_grammar alphabet graphs) g n →
      IsOnEmptyLoop (place_grammar places) g n
  loop_places = loop_within (box_grammar alphabet graphs) (place_grammar places) to_places

  -- the contexts of the boxes are closed where those of the places are
  pub boxes_closed : AreClosed (place_grammar places) → AreClosed (box_grammar alphabet graphs)
  boxes_closed =
      closed_within (place_grammar places) (box_grammar alphabet graphs) to_boxes to_places

  -- contexts that are sound in the places are so in the boxes
  pub boxes_sound : AreClosed (place_grammar places) →
      HasNoNegativeRecursion (place_grammar places) → HaveSoundContexts alphabet graphs
  boxes_sound closed none = record {
    closed = boxes_closed closed;
    no_recursion = λ g n. none g
        (negative_within (box_grammar alphabet graphs) (place_grammar places) to_places g n);
  }

  -- a context that the places show, the boxes do
  refused_context : AreWhole graphs → AreMasked graphs → (error : NetError) →
      RefusesContexts (names_of graphs) places error → Refuses alphabet graphs error
  refused_context whole masked (MissingGraph name) r = absurd r
  refused_context whole masked (BadMask name node place) r = absurd r
  refused_context whole masked (ContextClose name node) (g, named, first) = (
    whole,
    masked,
    (
      g,
      named,
      first_so (IsBadContext (place_grammar places)) (IsBadContext (box_grammar alphabet graphs))
          (bad_within (place_grammar places) (box_grammar alphabet graphs) to_boxes to_places)
          (bad_within (box_grammar alphabet graphs) (place_grammar places) to_places to_boxes)
          g node first,
    ),
  )
  refused_context whole masked (NegativeRecursion name) r = absurd r
  refused_context whole masked (EmptyLoop name node) r = absurd r
  refused_context whole masked (LeftRecursion name node) r = absurd r
  refused_context whole masked NoMemory r = tt

  -- the first graph with a negative recursion is the same
  first_negative : (g : ℕ) → IsFirstNegative (place_grammar places) g →
      IsFirstNegative (box_grammar alphabet graphs) g
  first_negative g first = record {
    here = negative_within (place_grammar places) (box_grammar alphabet graphs) to_boxes g first.here;
    least = λ h low so. first.least h low
        (negative_within (box_grammar alphabet graphs) (place_grammar places) to_places h so);
  }

  -- so is a negative context that comes back to itself
  refused_recursion : AreWhole graphs → AreMasked graphs → AreClosed (place_grammar places) →
      (error : NetError) → RefusesRecursion (names_of graphs) places error →
      Refuses alphabet graphs error
  refused_recursion whole masked closed (MissingGraph name) r = absurd r
  refused_recursion whole masked closed (BadMask name node place) r = absurd r
  refused_recursion whole masked closed (ContextClose name node) r = absurd r
  refused_recursion whole masked closed (NegativeRecursion name) (g, named, first) =
      (whole, masked, boxes_closed closed, (g, named, first_negative g first))
  refused_recursion whole masked closed (EmptyLoop name node) r = absurd r
  refused_recursion whole masked closed (LeftRecursion name node) r = absurd r
  refused_recursion whole masked closed NoMemory r = tt

  -- and loops, and units that begin with themselves
  refused_places : AreWhole graphs → AreMasked graphs → HasSoundContexts (place_grammar places) →
      (error : NetError) → RefusesPlaces (names_of graphs) places error →
      Refuses alphabet graphs error
  refused_places whole masked sound (MissingGraph name) r = absurd r
  refused_places whole masked sound (BadMask name node place) r = absurd r
  refused_places whole masked sound (ContextClose name node) r = absurd r
  refused_places whole masked sound (NegativeRecursion name) r = absurd r
  refused_places whole masked sound (EmptyLoop name node) (g, named, first) = (
    whole,
    masked,
    boxes_sound sound.closed sound.no_recursion,
    (
      g,
      named,
      first_so (IsOnEmptyLoop (place_grammar places)) (IsOnEmptyLoop (box_grammar alphabet graphs))
          loop_boxes loop_places g node first,
    ),
  )
  refused_places whole masked sound (LeftRecursion name node) (no_loop, (g, named, first)) = (
    whole,
    masked,
    boxes_sound sound.closed sound.no_recursion,
    λ h m so. no_loop h m (loop_places h m so),
    (
      g,
      named,
      first_so (IsLeftRecursive (place_grammar places))
          (IsLeftRecursive (box_grammar alphabet graphs))
          (recursion_within (place_grammar places) (box_grammar alphabet graphs) to_boxes)
          (recursion_within (box_grammar alphabet graphs) (place_grammar places) to_places)
          g node first,
    ),
  )
  refused_places whole masked sound NoMemory r = tt

  -- what the places show, the boxes do
  pub refused : (error : NetError) → AreWhole graphs → AreMasked graphs →
      RefusesNet (names_of graphs) places error → Refuses alphabet graphs error
  refused error whole masked r = elim r [
    | inl context ↦ refused_context whole masked error context
    | inr later ↦ elim later [
      | inl recursion ↦ refused_recursion whole masked recursion.0 error recursion.1
      | inr rest ↦ refused_places whole masked rest.0 error rest.1
    ]
  ]
