-- What a search for bad mask texts answers. Public: the contract of `refuse_bad_masks` speaks of
-- it.
use Rattle.std.specs.Prelude.{ℕ, ◌<◌, List, Option, MatchOption, slice_get}
use Rattle.ux_grf.specs.declared.graph.GrfBox.{GrfBox}
use Rattle.ux_boxes.specs.declared.bad_masks.BadText.{BadText}
use Rattle.ux_boxes.specs.MaskTexts.{mask_texts_in, AreMasks, HaveMasks, IsFirstBad}
use Rattle.ux_boxes.specs.declared.error.NetError.{NetError}
use Rattle.ux_boxes.specs.declared.error.NetError.TheVariants.{MissingGraph, BadMask, ContextClose, NegativeRecursion, EmptyLoop, LeftRecursion, NoMemory}
use Rattle.ux_boxes.specs.Boxes.{Drawn}
use Rattle.ux_boxes.specs.Refusing.{IsFirstBadMask}

-- the place of the first of the texts that is no mask's, or each is
abbrev pub Checks : List (List ℕ) → Option ℕ → Type 0
Checks texts place = MatchOption place (AreMasks texts) (IsFirstBad texts)

-- the box is the first with a bad text, and the place is that of its first
pub record IsFirstBadBox (boxes : List GrfBox) (bad : BadText) : Type 0 where
  pub here : IsFirstBad (mask_texts_in (slice_get boxes bad.node)) bad.place
  pub before : (m : ℕ) → m < bad.node → AreMasks (mask_texts_in (slice_get boxes m))

abbrev pub ChecksBoxes : List GrfBox → Option BadText → Type 0
ChecksBoxes boxes bad = MatchOption bad (HaveMasks boxes) (IsFirstBadBox boxes)

-- a list of graphs is refused for the first mask text that is no mask's, or when it is out of
-- memory
abbrev pub RefusesMasks : List Drawn → NetError → Type 0
RefusesMasks graphs (MissingGraph name) = ⊥
RefusesMasks graphs (BadMask name node place) = IsFirstBadMask graphs name node place
RefusesMasks graphs (ContextClose name node) = ⊥
RefusesMasks graphs (NegativeRecursion name) = ⊥
RefusesMasks graphs (EmptyLoop name node) = ⊥
RefusesMasks graphs (LeftRecursion name node) = ⊥
RefusesMasks graphs NoMemory = Unit {0}
