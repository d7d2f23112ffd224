-- How the front of an image is laid out: the magic, and the numbers of the states. Public: the
-- crate's public contracts speak of it.
use Rattle.std.specs.Prelude.{◌≡◌, ℕ, ◌+◌, ◌*◌, List, [], ◌∷◌, ◌++◌, Option, None, Some, codes, drop, flat_map, length, take}
use Rattle.ux_dawg.specs.declared.state.Edge.{Edge}
use Rattle.ux_dawg.specs.declared.state.State.{State}
use Rattle.ux_image_reader.specs.declared.front.Version.{Version}
use Rattle.ux_image_reader.specs.declared.front.Version.TheVariants.{One, Two}
use Rattle.ux_image_reader.specs.Numbers.{numbers_of}

-- the eight bytes that a version begins with
abbrev pub magic_of : Version → List ℕ
magic_of One = codes "UXUDI" ++ 1 ∷ (13 ∷ (10 ∷ []))
magic_of Two = codes "UXUDI" ++ 2 ∷ (13 ∷ (10 ∷ []))

-- the file has the magic of this version
abbrev pub HasMagic : Version → List ℕ → Type 0
HasMagic version bytes = take 8 bytes ≡ magic_of version

-- what is there of the file's first eight bytes begins a magic
abbrev pub BeginsMagic : List ℕ → Type 0
BeginsMagic bytes =
    (version : Version) × (take 8 bytes ≡ take (length bytes) (magic_of version))

-- the whole numbers behind the magic
abbrev pub numbers_behind : List ℕ → List ℕ
numbers_behind bytes = numbers_of (drop 8 bytes)

-- how a state tells the number of its list of codes: one more, and 0 where it isn't final
abbrev pub final_number : Option ℕ → ℕ
final_number None = 0
final_number (Some list) = list + 1

-- the numbers of an edge
abbrev pub written_edge : Edge → List ℕ
written_edge edge = edge.letter ∷ (edge.target ∷ [])

-- the numbers of edges
abbrev pub written_edges : List Edge → List ℕ
written_edges edges = flat_map written_edge edges

-- the numbers of a state
abbrev pub written : State → List ℕ
written state = final_number state.code ∷ (length state.edges ∷ written_edges state.edges)

-- the numbers of states
abbrev pub written_all : List State → List ℕ
written_all states = flat_map written states

-- the place of the byte behind these states, which begin behind the magic and two numbers
abbrev pub place_behind : List State → ℕ
place_behind states = 16 + 4 * length (written_all states)
