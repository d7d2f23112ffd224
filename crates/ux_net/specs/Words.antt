-- The words of a graph: what stands along its runs, one letter after another. The manual, on graphs
-- and on contexts. Public: the crate's public contracts speak of it.
use Rattle.std.specs.Prelude.{◌≡◌, ℕ, List, [], ◌∷◌, ◌++◌, map}
use Rattle.ux_grf.specs.declared.item.Piece.{Piece}
use Rattle.ux_net.specs.declared.label.Label.{Label}
use Rattle.ux_net.specs.declared.label.Label.TheVariants.{Empty, Positive, Negative, ContextEnd}

-- a context has to follow, or may not
pub data Sign : Type 0 where
  positive : Sign
  negative : Sign

-- A letter: a label, a piece of an output, or a whole context of a graph, told by its sign and the
-- places after its opening and its closing step.
pub data Letter : Type 0 where
  plain : Label → Letter
  piece : Piece → Letter
  context : Sign → (g opening closing : ℕ) → Letter

-- what a line of labels does to contexts
pub data Mark : Type 0 where
  ordinary : Mark
  opens : Sign → Mark
  closes : Mark

abbrev pub mark_of : List Label → Mark
mark_of (Positive ∷ []) = opens positive
mark_of (Negative ∷ []) = opens negative
mark_of (ContextEnd ∷ []) = closes
mark_of labels = ordinary

-- the empty word is left out
abbrev pub letter_of : Label → List Letter
letter_of Empty = []
letter_of label = plain label ∷ []

abbrev pub letters : List Label → List Letter
letters [] = []
letters (label ∷ labels) = letter_of label ++ letters labels

-- a step from a place to a place, with its output and then the labels along it
pub record Step : Type 0 where
  pub from : ℕ
  pub to : ℕ
  pub output : List Piece
  pub labels : List Label

-- the letters of a step's output
abbrev pub put_by : Step → List Letter
put_by step = map piece step.output

-- a graph, seen as places, one to start at, some to end at, and steps
pub record StepGraph : Type 1 where
  pub start : ℕ
  pub IsPlace : ℕ → Type 0
  pub IsEnd : ℕ → Type 0
  pub IsStep : Step → Type 0

-- graphs that call each other by number, counted from 1
pub record Grammar : Type 1 where
  pub count : ℕ
  pub graph : ℕ → StepGraph

module _ (g : ℕ) (graph : StepGraph) where
  -- Steps that follow each other from a place to a place, with the letters along them. From an
  -- opening step a run goes on at a closing step that a run from there reaches: that is one letter.
  pub data Run : ℕ → ℕ → List Letter → Type 0 where
    stop : {a : ℕ} → Run a a []
    along : {b : ℕ} {word : List Letter} (s : Step) → graph.IsStep s →
        mark_of s.labels ≡ ordinary → Run s.to b word →
        Run s.from b ((put_by s ++ letters s.labels) ++ word)
    across : {b : ℕ} {body word : List Letter} (sign : Sign) (s t : Step) → graph.IsStep s →
        mark_of s.labels ≡ opens sign → Run s.to t.from body → graph.IsStep t →
        mark_of t.labels ≡ closes → Run t.to b word →
        Run s.from b (put_by s ++ context sign g s.to t.to ∷ word)

  -- a word of the graph: the letters of a run from its start to an end
  pub record IsWord (word : List Letter) : Type 0 where
    pub last : ℕ
    pub ends : graph.IsEnd last
    pub run : Run graph.start last word

  -- a word of the body of a context: the letters of a run from the place after its opening step to a
  -- step that closes it
  pub record IsBody (opening closing : ℕ) (word : List Letter) : Type 0 where
    pub step : Step
    pub inside : graph.IsStep step
    pub closed : mark_of step.labels ≡ closes
    pub after : step.to ≡ closing
    pub run : Run opening step.from word

-- a place of the graph of this number
abbrev pub HasPlace : Grammar → (g place : ℕ) → Type 0
HasPlace grammar g place = (grammar.graph g).IsPlace place

-- Words that are the same but for the numbers of places: each place of the old grammar has a number
-- in the new one.
module _ (old : Grammar) (number : (g place : ℕ) → ℕ) where
  -- the new letter is the old one, its places numbered
  pub data IsRenumbered : Letter → Letter → Type 0 where
    same_plain : {label : Label} → IsRenumbered (plain label) (plain label)
    same_piece : {part : Piece} → IsRenumbered (piece part) (piece part)
    same_context : {sign : Sign} {g opening closing : ℕ} → HasPlace old g opening →
        HasPlace old g closing → IsRenumbered (context sign g opening closing)
        (context sign g (number g opening) (number g closing))

  pub data AreRenumbered : List Letter → List Letter → Type 0 where
    none : AreRenumbered [] []
    more : {x y : Letter} {v w : List Letter} → IsRenumbered x y → AreRenumbered v w →
        AreRenumbered (x ∷ v) (y ∷ w)

-- Two grammars say the same: each graph has the same words in both, and each context the same
-- bodies, but for the numbers of places.
pub record SayTheSame (old new : Grammar) : Type 0 where
  pub number : (g place : ℕ) → ℕ
  pub words : (g : ℕ) (v : List Letter) → IsWord g (old.graph g) v →
      (w : List Letter) × AreRenumbered old number v w × IsWord g (new.graph g) w
  pub words_back : (g : ℕ) (w : List Letter) → IsWord g (new.graph g) w →
      (v : List Letter) × AreRenumbered old number v w × IsWord g (old.graph g) v
  pub bodies : (g opening closing : ℕ) → HasPlace old g opening →
      HasPlace old g closing → (v : List Letter) →
      IsBody g (old.graph g) opening closing v →
      (w : List Letter) × AreRenumbered old number v w
      × IsBody g (new.graph g) (number g opening) (number g closing) w
  pub bodies_back : (g opening closing : ℕ) → HasPlace old g opening →
      HasPlace old g closing → (w : List Letter) →
      IsBody g (new.graph g) (number g opening) (number g closing) w →
      (v : List Letter) × AreRenumbered old number v w
      × IsBody g (old.graph g) opening closing v
