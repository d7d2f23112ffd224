-- The graphs of the classes are read one class after another.
use Rattle.std.proofs.Common.{◌≡◌, ℕ, ◌+◌, ◌≤◌, List, [], ◌∷◌, ◌++◌, Option, Some, length, take, drop, sym, ap, ◌∙◌, subst, append_assoc}
use Rattle.std.specs.Prelude.{slice_get}
use Rattle.std.specs.List.{AllZip}
use Rattle.std.proofs.lemmas.List.{take-append-drop, take_all}
use Rattle.std.proofs.lemmas.Option.{get_or_from_slice_get, slice_get_within}
use Rattle.std.proofs.lemmas.Slice.Zip.{AllZip-long}
use Rattle.ux_base.specs.Outside.{Files, Seen, IsLater}
use Rattle.ux_boxes.specs.Boxes.{Drawn}
use Rattle.ux_boxes.proofs.SplittingLemmas.{AllZip-grown, take-next}
use Rattle.ux_grammars.specs.Reading.{HasDrawnNet}
use Rattle.ux_net.specs.declared.net_graph.NetGraph.{NetGraph}
use Rattle.ux_plan.specs.declared.stop.Stop.{Stop}
use Rattle.ux_plan.specs.Plans.{Comes, Halts, all}
use Rattle.ux_plan.proofs.InTurn.{all_come, all_halt_later}
use Rattle.ux_reasons.specs.declared.reason.Reason.{Reason}
use Rattle.ux_cmd_inflect.specs.Files.{AreNets, IsNetOfDrawn}
use Rattle.ux_cmd_inflect.specs.Reading.{NO_LETTERS, class_plan}

module _ (word : List ℕ) (names : List (List ℕ)) (told : Option Files) where
  -- the graphs of this class were read
  abbrev pub IsRead : List ℕ → List Drawn → Type 0
  IsRead class graphs = Comes (class_plan word class) told graphs

  -- those of the classes so far were
  pub record AreReadTo (i : ℕ) (nets : List (List NetGraph)) : Type 0 where
    pub grammars : List (List Drawn)
    pub each : AllZip IsRead (take i names) grammars
    pub made : AllZip IsNetOfDrawn grammars nets

  pub read_none : AreReadTo 0 []
  read_none = record { grammars = []; each = tt; made = tt }

  -- those of the next, too
  pub read_more : (i : ℕ) (class : List ℕ) (nets more : List (List NetGraph))
      (net : List NetGraph) → slice_get names i ≡ Some class → AreReadTo i nets →
      HasDrawnNet (class_plan word class) told NO_LETTERS net → more ≡ nets ++ net ∷ [] →
      AreReadTo (i + 1) more
  read_more i class nets more net at so_far has grown = record {
    grammars = so_far.grammars ++ has.graphs ∷ [];
    each = subst (λ (l : List (List ℕ)). AllZip IsRead l (so_far.grammars ++ has.graphs ∷ []))
        (take-next names i class (slice_get_within names i class at)
        (sym (get_or_from_slice_get names i class class at)))
        (AllZip-grown IsRead (take i names) so_far.grammars class has.graphs so_far.each has.comes);
    made = subst (λ (l : List (List NetGraph)).
        AllZip IsNetOfDrawn (so_far.grammars ++ has.graphs ∷ []) l) (sym grown)
        (AllZip-grown IsNetOfDrawn so_far.grammars nets has.graphs net so_far.made has.compiles);
  }

  -- those of all
  pub read_all : (i : ℕ) (nets : List (List NetGraph)) → length names ≤ i → AreReadTo i nets →
      AreNets word names told nets
  read_all i nets past so_far = record {
    grammars = so_far.grammars;
    comes = all_come (class_plan word) told names so_far.grammars
        (subst (λ (l : List (List ℕ)). AllZip IsRead l so_far.grammars) (take_all i names past)
        so_far.each);
    made = so_far.made;
  }

-- what stops the reading of the next class stops the whole
pub class_stops : (word : List ℕ) (names : List (List ℕ)) (old mid new : Seen) (i : ℕ)
    (class : List ℕ) (nets : List (List NetGraph)) (stop : Stop Reason) →
    slice_get names i ≡ Some class → IsLater old mid → AreReadTo word names old.files i nets →
    Halts (class_plan word class) mid new stop → Halts (all (class_plan word) names) old new stop
class_stops word names old mid new i class nets stop at later so_far stops =
    let next : take i names ++ class ∷ [] ≡ take (i + 1) names =
    take-next names i class (slice_get_within names i class at)
    (sym (get_or_from_slice_get names i class class at)) in
    let whole : take i names ++ class ∷ drop (i + 1) names ≡ names =
    sym (append_assoc (take i names) (class ∷ []) (drop (i + 1) names))
    ∙ (ap (λ (l : List (List ℕ)). l ++ drop (i + 1) names) next
    ∙ take-append-drop (i + 1) names) in
    subst (λ (l : List (List ℕ)). Halts (all (class_plan word) l) old new stop) whole
    (all_halt_later (class_plan word) (take i names) (drop (i + 1) names) class so_far.grammars
    old mid new stop later so_far.each stops)

-- there are as many nets as classes
pub nets_count : (word : List ℕ) (names : List (List ℕ)) (told : Option Files)
    (nets : List (List NetGraph)) (i : ℕ) → length names ≤ i → AreReadTo word names told i nets →
    length nets ≡ length names
nets_count word names told nets i past so_far =
    let made = AllZip-long IsNetOfDrawn so_far.grammars nets so_far.made in
    let read = AllZip-long (IsRead word names told) (take i names) so_far.grammars so_far.each in
    made ∙ (read ∙ ap (λ (l : List (List ℕ)). length l) (take_all i names past))
