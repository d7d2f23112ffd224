-- The steps of a rule as they are made. Inner: the crate's own functions alone speak of it.
use Rattle.std.specs.Prelude.{◌≡◌, ◌≢◌, ℕ, ◌+◌, ◌<◌, ◌≤◌, List, [], ◌∷◌, Option, Some, None, Contains, codes, if◌then◌else◌, length}
use Rattle.std.specs.Str.{bytes_eq}
use Rattle.ux_grf.specs.declared.graph.Graph.{Graph}
use Rattle.ux_grf.specs.declared.item.Item.{Item}
use Rattle.ux_masks.specs.declared.mask.Mask as masks
use Rattle.ux_masks.specs.declared.mask.Mask.TheVariants as mask
use Rattle.ux_masks.specs.Texts.{IsMaskText}
use Rattle.ux_rules.specs.declared.draft.Draft.{Draft}
use Rattle.ux_rules.specs.declared.error.RuleError.{RuleError}
use Rattle.ux_rules.specs.declared.error.RuleError.TheVariants as error
use Rattle.ux_rules.specs.declared.step.Sign.{Sign}
use Rattle.ux_rules.specs.declared.step.Sign.TheVariants.{Free, If, Then, Read}
use Rattle.ux_rules.specs.declared.step.Step.{Step}
use Rattle.ux_rules.specs.declared.test.Test.TheVariants.{Form, Lexical, Known, Unknown, Any}
use Rattle.ux_rules.specs.Refusing.{HasBadItem, IsFirst}
use Rattle.ux_rules.specs.Runs.{Run}
use Rattle.ux_rules.specs.Words.{IsSaid, IsSpelled, IsThrough, lines_of, targets_of, mark_of}

-- the mark of a mask text, if it is one
abbrev pub mark_in : List ℕ → Option Sign
mark_in text = if bytes_eq text (codes "!") then Some If
    else (if bytes_eq text (codes "=") then Some Then else None)

-- the sign of a mask, if it tests a reading
abbrev pub test_in : masks.Mask → Option Sign
test_in (mask.Lexical parts) = Some (Read (Lexical (mask.Lexical parts)))
test_in (mask.NotLexical parts) = Some (Read (Lexical (mask.NotLexical parts)))
test_in mask.Dic = Some (Read Known)
test_in mask.NotDic = Some (Read Unknown)
test_in mask.Token = Some (Read Any)
test_in other = None

-- what a step with this sign adds to a word
abbrev pub said_by : Sign → List Sign
said_by Free = []
said_by If = If ∷ []
said_by Then = Then ∷ []
said_by (Read test) = Read test ∷ []

-- the sign says what the item does, and nothing else does
abbrev pub IsOnlySign : Item → Sign → Type 0
IsOnlySign item sign =
    IsSaid item (said_by sign) × ((signs : List Sign) → IsSaid item signs → signs ≡ said_by sign)

-- the sign of the item, if it has one
abbrev pub SaysItem : Item → Option Sign → Type 0
SaysItem item None = (signs : List Sign) → IsSaid item signs → ⊥
SaysItem item (Some sign) = IsOnlySign item sign

-- the sign of a text that a reading has as its form
abbrev pub SaysText : List ℕ → Option Sign → Type 0
SaysText text sign = sign ≡ Some (Read (Form text))

-- the sign of a mask text, if its mask tests a reading
abbrev pub SaysMask : List ℕ → Option Sign → Type 0
SaysMask text None = (m : masks.Mask) → IsMaskText text m → test_in m ≡ None
SaysMask text (Some sign) = (m : masks.Mask) × IsMaskText text m × (test_in m ≡ Some sign)

abbrev pub step_at : (from to : ℕ) → Sign → Step
step_at a b sign = record { from = a; to = b; sign = sign }

-- where a place stands: before a box, behind it, or in one of its lines before these items
pub data Spot : Type 0 where
  before : ℕ → Spot
  behind : ℕ → Spot
  within : ℕ → List Item → Spot

-- the line is one of the box, which isn't the end
pub record IsLineOf (graph : Graph) (node : ℕ) (line : List Item) : Type 0 where
  pub inner : node ≢ 1
  pub of_box : Contains (lines_of graph node) line

-- how a step leads from a spot to a spot
pub data Fits (graph : Graph) : Spot → Sign → Spot → Type 0 where
  enters : {node : ℕ} {line : List Item} → IsLineOf graph node line → mark_of line ≡ None →
      Fits graph (before node) Free (within node line)
  reads : {node : ℕ} {rest : List Item} (item : Item) (sign : Sign) → IsSaid item (said_by sign) →
      Fits graph (within node (item ∷ rest)) sign (within node rest)
  leaves : {node : ℕ} → Fits graph (within node []) Free (behind node)
  passes : {node : ℕ} (sign : Sign) → IsThrough graph node (said_by sign) →
      Fits graph (before node) sign (behind node)
  goes : {node target : ℕ} → Contains (targets_of graph node) target →
      Fits graph (behind node) Free (before target)

-- each place stands where the spots say, and each step leads from place to place and fits
pub record IsDrawn (graph : Graph) (places : ℕ) (steps : List Step) (spot : ℕ → Spot) : Type 0 where
  pub room : length graph.boxes + length graph.boxes ≤ places
  pub first : (node : ℕ) → node < length graph.boxes → spot node ≡ before node
  pub second : (node : ℕ) → node < length graph.boxes →
      spot (length graph.boxes + node) ≡ behind node
  pub from : (s : Step) → Contains steps s → s.from < places
  pub to : (s : Step) → Contains steps s → s.to < places
  pub fits : (s : Step) → Contains steps s → Fits graph (spot s.from) s.sign (spot s.to)

abbrev pub IsDraft : Graph → Draft → Type 0
IsDraft graph draft =
    (spot : ℕ → Spot) × IsDrawn graph draft.places draft.steps.items spot

-- a place of the draft stands there
pub record IsDraftAt (graph : Graph) (draft : Draft) (place : ℕ) (at : Spot) : Type 0 where
  pub spot : ℕ → Spot
  pub drawn : IsDrawn graph draft.places draft.steps.items spot
  pub inside : place < draft.places
  pub here : spot place ≡ at

-- no step is lost
abbrev pub Keeps : (old new : Draft) → Type 0
Keeps old new = (s : Step) → Contains old.steps.items s → Contains new.steps.items s

-- the steps lead from before the box to behind it
abbrev pub Crosses : Graph → ℕ → Draft → List Sign → Type 0
Crosses graph node draft signs = Run draft.steps.items node (length graph.boxes + node) signs

-- each item tests a reading or is empty
abbrev pub AreGood : List Item → Type 0
AreGood items = (item : Item) → Contains items item → (signs : List Sign) × IsSaid item signs

-- so do those of each line of the box that is no mark
abbrev pub AreLinesGood : Graph → ℕ → Type 0
AreLinesGood graph node = (line : List Item) → Contains (lines_of graph node) line →
    mark_of line ≡ None → AreGood line

-- the steps lead along the line of the box, and its items are good
pub record IsLineDone (graph : Graph) (node : ℕ) (line : List Item) (old new : Draft) : Type 0 where
  pub kept : Keeps old new
  pub crosses : (signs : List Sign) → IsSpelled line signs → Crosses graph node new signs
  pub good : mark_of line ≡ None → AreGood line

-- the steps lead along all lines of the box, and its items are good
pub record AreLinesDone (graph : Graph) (node : ℕ) (old new : Draft) : Type 0 where
  pub kept : Keeps old new
  pub crosses : (signs : List Sign) → IsThrough graph node signs → Crosses graph node new signs
  pub good : AreLinesGood graph node

-- the steps lead from behind the box to its targets
pub record AreTargetsDone (graph : Graph) (node : ℕ) (old new : Draft) : Type 0 where
  pub kept : Keeps old new
  pub goes : (target : ℕ) → Contains (targets_of graph node) target →
      Run new.steps.items (length graph.boxes + node) target []

-- the steps of the first boxes are there, and their items are good
pub record AreBoxesDone (graph : Graph) (count : ℕ) (draft : Draft) : Type 0 where
  pub crosses : (node : ℕ) → node < count → (signs : List Sign) → IsThrough graph node signs →
      Crosses graph node draft signs
  pub goes : (node : ℕ) → node < count → node ≢ 1 → (target : ℕ) →
      Contains (targets_of graph node) target →
      Run draft.steps.items (length graph.boxes + node) target []
  pub good : (node : ℕ) → node < count → AreLinesGood graph node

-- why the steps of a box aren't made: it has a bad item
abbrev pub StopsBox : Graph → ℕ → RuleError → Type 0
StopsBox graph node (error.Call other) = ⊥
StopsBox graph node (error.BadItem other) = (other ≡ node) × HasBadItem graph node
StopsBox graph node (error.BadMarks other) = ⊥
StopsBox graph node error.NoIf = ⊥
StopsBox graph node error.NoMemory = Unit {0}

-- why the steps of a graph aren't made: the first box with a bad item
abbrev pub StopsBoxes : Graph → RuleError → Type 0
StopsBoxes graph (error.Call node) = ⊥
StopsBoxes graph (error.BadItem node) = IsFirst (HasBadItem graph) node
StopsBoxes graph (error.BadMarks node) = ⊥
StopsBoxes graph error.NoIf = ⊥
StopsBoxes graph error.NoMemory = Unit {0}
