-- What one line of a compiled grammar says. The manual, on .fst2 files. Public: the crate's public
-- contracts speak of it.
use Rattle.std.specs.Prelude.{◌≡◌, ◌≢◌, ℕ, ◌<◌, ◌≤◌, ◌^◌, Bool, true, false, List, [], ◌∷◌, codes, length}
use Rattle.ux_fst2_file.specs.Fields.{IsNumber, begins_with_field, fields_of, before_space, from_space, without_spaces, without_end_spaces}
use Rattle.ux_fst2_file.specs.declared.file.Fst2Label.{Fst2Label}
use Rattle.ux_fst2_file.specs.declared.file.Fst2Label.TheVariants.{Tag, Call}
use Rattle.ux_fst2_file.specs.declared.file.Fst2Edge.{Fst2Edge}
use Rattle.ux_fst2_file.specs.declared.file.Fst2State.{Fst2State}

-- `-`
abbrev pub MINUS : ℕ
MINUS = 45

-- the end of a graph, and of the tags: `f`
abbrev pub END : List ℕ
END = codes "f"

-- `t` where a state is final, else `:`
abbrev pub sign_of : (is_final : Bool) → List ℕ
sign_of true = codes "t"
sign_of false = codes ":"

-- the line has these fields, and no space before them
pub record HasFields (line : List ℕ) (fields : List (List ℕ)) : Type 0 where
  pub front : begins_with_field line ≡ true
  pub are : fields_of line ≡ fields

-- the first line: the number of graphs in ten digits
pub record IsCount (line : List ℕ) (count : ℕ) : Type 0 where
  pub digits : List ℕ
  pub fields : HasFields line (digits ∷ [])
  pub ten : length digits ≡ 10
  pub number : IsNumber digits count
  pub some : 1 ≤ count
  pub fits : count ≤ 65535

-- the first line of a graph: `-k name`
pub record IsHead (number : ℕ) (line name : List ℕ) : Type 0 where
  pub behind : List ℕ
  pub sign : line ≡ MINUS ∷ behind
  pub is_number : IsNumber (before_space behind) number
  pub is_name : name ≡ without_end_spaces (without_spaces (from_space behind))
  pub some : name ≢ []

-- a label: the number of a tag, or `-` and that of a graph
abbrev pub IsLabel : (text : List ℕ) → Fst2Label → Type 0
IsLabel text (Tag tag) = IsNumber text tag
IsLabel text (Call graph) = (digits : List ℕ) × (text ≡ MINUS ∷ digits) × IsNumber digits graph

-- the fields are pairs of label and target
pub data AreEdges : (fields : List (List ℕ)) → List Fst2Edge → Type 0 where
  no_edge : AreEdges [] []
  edge_then : (label target : List ℕ) (fields : List (List ℕ)) (edge : Fst2Edge)
      (edges : List Fst2Edge) → IsLabel label edge.label → IsNumber target edge.target →
      AreEdges fields edges → AreEdges (label ∷ (target ∷ fields)) (edge ∷ edges)

-- the line of a state: whether it is final, and its edges
pub record IsState (line : List ℕ) (state : Fst2State) : Type 0 where
  pub fields : List (List ℕ)
  pub has : HasFields line (sign_of state.is_final ∷ fields)
  pub edges : AreEdges fields state.edges
  pub fits : length state.edges < 2 ^ 32

-- the line `f`
abbrev pub IsEnd : (line : List ℕ) → Type 0
IsEnd line = HasFields line (END ∷ [])
