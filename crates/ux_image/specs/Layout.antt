-- The bytes of an image, and which states and lists 32 bits serve. Public: the crate's public
-- contracts speak of it.
use Rattle.std.specs.Prelude.{ℕ, ◌+◌, ◌^◌, ◌<◌, List, [], ◌∷◌, ◌++◌, Option, None, Some, All, length}
use Rattle.std.specs.Int.{to_le_bytes, w32}
use Rattle.std.specs.List.{flat_map}
use Rattle.ux_dawg.specs.declared.state.Edge.{Edge}
use Rattle.ux_dawg.specs.declared.state.State.{State}
use Rattle.ux_image.specs.declared.code.Pair.{Pair}
use Rattle.ux_image.specs.declared.code.Code.{Code}
use Rattle.ux_image.specs.declared.code.CodeList.{CodeList}

-- the bytes with which each image begins
abbrev pub MAGIC_BYTES : List ℕ
MAGIC_BYTES = 0x55 ∷ 0x58 ∷ 0x55 ∷ 0x44 ∷ 0x49 ∷ 0x02 ∷ 0x0d ∷ 0x0a ∷ []

-- a number, its lowest byte first
abbrev pub number_bytes : ℕ → List ℕ
number_bytes n = to_le_bytes w32 n

-- the number of the items, and then their bytes
abbrev pub counted : {X : Type 0} → (X → List ℕ) → List X → List ℕ
counted item_bytes items = number_bytes (length items) ++ flat_map item_bytes items

-- the number of a text's bytes, and then these
abbrev pub text_bytes : List ℕ → List ℕ
text_bytes text = number_bytes (length text) ++ text

-- an edge: its character, and the state to which it leads
abbrev pub edge_bytes : Edge → List ℕ
edge_bytes edge = number_bytes edge.letter ++ number_bytes edge.target

-- how a state tells the number of its list of codes: one more, and 0 where it isn't final
abbrev pub final_number : Option ℕ → ℕ
final_number None = 0
final_number (Some list) = list + 1

-- a state: its list of codes, and its edges
abbrev pub state_bytes : State → List ℕ
state_bytes state = number_bytes (final_number state.code) ++ counted edge_bytes state.edges

-- a pair: how many characters are taken off, and the text that is added
abbrev pub pair_bytes : Pair → List ℕ
pair_bytes pair = number_bytes pair.taken ++ text_bytes pair.added

-- a code: its pairs, and its printed codes
abbrev pub code_bytes : Code → List ℕ
code_bytes code = counted pair_bytes code.pairs ++ text_bytes code.codes

-- a list of codes
abbrev pub list_bytes : CodeList → List ℕ
list_bytes list = counted code_bytes list.codes

-- an image: how many states and lists there are, the states and the lists, each from number 0 on
abbrev pub layout : List State → List CodeList → List ℕ
layout states lists =
    MAGIC_BYTES ++ (number_bytes (length states) ++ (number_bytes (length lists)
    ++ (flat_map state_bytes states ++ flat_map list_bytes lists)))

-- 32 bits hold the number of the items, and each of them fits
abbrev pub AllFit : {X : Type 0} → (X → Type 0) → List X → Type 0
AllFit Fits items = (length items < 2 ^ 32) × All Fits items

-- 32 bits hold each number of an edge
abbrev pub EdgeFits : Edge → Type 0
EdgeFits edge = (edge.letter < 2 ^ 32) × (edge.target < 2 ^ 32)

-- 32 bits hold each number of a state
abbrev pub StateFits : State → Type 0
StateFits state = (final_number state.code < 2 ^ 32) × AllFit EdgeFits state.edges

-- 32 bits hold each number of a pair
abbrev pub PairFits : Pair → Type 0
PairFits pair = (pair.taken < 2 ^ 32) × (length pair.added < 2 ^ 32)

-- 32 bits hold each number of a code
abbrev pub CodeFits : Code → Type 0
CodeFits code = AllFit PairFits code.pairs × (length code.codes < 2 ^ 32)

-- 32 bits hold each number of a list of codes
abbrev pub ListFits : CodeList → Type 0
ListFits list = AllFit CodeFits list.codes
