-- The net at a class's number is the net of the class: that of the drawn graphs that were read.
use Rattle.std.proofs.Common.{◌≡◌, ℕ, List, Option, Some, None, refl, subst}
use Rattle.std.specs.Prelude.{IsSomeAnd, MatchOption, slice_get}
use Rattle.std.proofs.lemmas.Slice.Zip.{AllZip-right}
use Rattle.ux_base.specs.Outside.{Files}
use Rattle.ux_boxes.specs.Boxes.{Drawn}
use Rattle.ux_dela.specs.declared.entry.Stem.{Stem}
use Rattle.ux_net.specs.declared.net_graph.NetGraph.{NetGraph}
use Rattle.ux_cmd_inflect.specs.Files.{AreNets, IsNetAt, IsNetOfDrawn}
use Rattle.ux_plan.specs.Plans.{Comes, all}
use Rattle.ux_cmd_inflect.specs.Reading.{Classed, IsNetOf, class_plan, classes_of}

-- what the lemmas and their classes come to
abbrev pub classed : List Stem → List (List Drawn) → Classed
classed stems grammars = record { stems = stems; grammars = grammars }

module _ (word : List ℕ) (stems : List Stem) (names : List (List ℕ)) (told : Option Files)
    (nets : List (List NetGraph)) (are : names ≡ classes_of stems)
    (read : AreNets word names told nets) where
  -- the graphs of the net at a number
  drawn_at : (number : ℕ) (net : List NetGraph) → slice_get nets number ≡ Some net →
      (graphs : List Drawn) × (slice_get read.grammars number ≡ Some graphs)
      × IsNetOfDrawn graphs net
  drawn_at number net at =
      by (slice_get read.grammars number) refl
      (subst (λ (o : Option (List NetGraph)). MatchOption o (Unit {0})
      (λ net. IsSomeAnd (slice_get read.grammars number) (λ graphs. IsNetOfDrawn graphs net))) at
      (AllZip-right IsNetOfDrawn read.grammars nets read.made number))
    where
      by : (o : Option (List Drawn)) → slice_get read.grammars number ≡ o →
          IsSomeAnd (slice_get read.grammars number) (λ graphs. IsNetOfDrawn graphs net) →
          (graphs : List Drawn) × (slice_get read.grammars number ≡ Some graphs)
          × IsNetOfDrawn graphs net
      by None is has =
          absurd
          (subst (λ (o : Option (List Drawn)). IsSomeAnd o (λ graphs. IsNetOfDrawn graphs net)) is has)
      by (Some graphs) is has = (
        graphs,
        is,
        subst (λ (o : Option (List Drawn)). IsSomeAnd o (λ graphs. IsNetOfDrawn graphs net)) is has,
      )

  pub is_net_of : (class : List ℕ) (net : List NetGraph) → IsNetAt names nets class net →
      IsNetOf (classed stems read.grammars) class net
  is_net_of class net at =
      let drawn = drawn_at at.number net at.is_net in
      record {
        number = at.number;
        is_class = subst (λ (l : List (List ℕ)). slice_get l at.number ≡ Some class) are at.is_class;
        graphs = drawn.0;
        drawn = drawn.1;
        states = drawn.2.states;
      }

  -- and the graphs of all classes come to what was read
  pub classes_come : Comes (all (class_plan word) (classes_of stems)) told read.grammars
  classes_come =
      subst (λ (l : List (List ℕ)). Comes (all (class_plan word) l) told read.grammars) are read.comes
