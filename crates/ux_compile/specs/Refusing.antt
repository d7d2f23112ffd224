-- Why a list of graphs isn't compiled. Public: the crate's public contracts speak of it.
use Rattle.std.specs.Prelude.{ℕ, List}
use Rattle.ux_alphabet.specs.Letters.{Letters}
use Rattle.ux_boxes.specs.declared.error.NetError.{NetError}
use Rattle.ux_boxes.specs.declared.error.NetError.TheVariants.{MissingGraph, BadMask, ContextClose, NegativeRecursion, EmptyLoop, LeftRecursion, NoMemory}
use Rattle.ux_boxes.specs.Boxes.{Drawn, box_grammar}
use Rattle.ux_admission.specs.Admissible.{IsOnEmptyLoop, IsLeftRecursive, IsAdmissible}
use Rattle.ux_admission.specs.ContextClose.{IsBadContext, AreClosed}
use Rattle.ux_admission.specs.NegativeRecursion.{IsFirstNegative, HasNoNegativeRecursion}
use Rattle.ux_boxes.specs.Refusing.{IsFirstNamed, is_named, AreMasked, IsFirstBadMask, AreWhole, IsFirstMissing}

-- the contexts of the graphs are closed, and none that may not follow uses what has it
pub record HaveSoundContexts (alphabet : Letters) (graphs : List Drawn) : Type 0 where
  pub closed : AreClosed (box_grammar alphabet graphs)
  pub no_recursion : HasNoNegativeRecursion (box_grammar alphabet graphs)

-- the first graph of which a context that may not follow uses what has it
abbrev pub IsFirstRecursive : Letters → List Drawn → List ℕ → Type 0
IsFirstRecursive alphabet graphs name =
    (g : ℕ) × is_named graphs g name × IsFirstNegative (box_grammar alphabet graphs) g

-- why a list of graphs isn't compiled: the tests in their order, each with its place
abbrev pub Refuses : Letters → List Drawn → NetError → Type 0
Refuses alphabet graphs (MissingGraph name) = IsFirstMissing graphs name
Refuses alphabet graphs (BadMask name node place) =
    AreWhole graphs × IsFirstBadMask graphs name node place
Refuses alphabet graphs (ContextClose name node) =
    AreWhole graphs × AreMasked graphs
    × IsFirstNamed graphs (IsBadContext (box_grammar alphabet graphs)) name node
Refuses alphabet graphs (NegativeRecursion name) =
    AreWhole graphs × AreMasked graphs × AreClosed (box_grammar alphabet graphs)
    × IsFirstRecursive alphabet graphs name
Refuses alphabet graphs (EmptyLoop name node) =
    AreWhole graphs × AreMasked graphs × HaveSoundContexts alphabet graphs
    × IsFirstNamed graphs (IsOnEmptyLoop (box_grammar alphabet graphs)) name node
Refuses alphabet graphs (LeftRecursion name node) =
    AreWhole graphs × AreMasked graphs × HaveSoundContexts alphabet graphs
    × ((g m : ℕ) → IsOnEmptyLoop (box_grammar alphabet graphs) g m → ⊥)
    × IsFirstNamed graphs (IsLeftRecursive (box_grammar alphabet graphs)) name node
Refuses alphabet graphs NoMemory = Unit {0}

-- every call is of a graph that is there, every mask text is a mask's, contexts are sound, and the
-- grammar is admissible
pub record IsCompilable (alphabet : Letters) (graphs : List Drawn) : Type 0 where
  pub whole : AreWhole graphs
  pub masked : AreMasked graphs
  pub contexts : HaveSoundContexts alphabet graphs
  pub admissible : IsAdmissible (box_grammar alphabet graphs)
