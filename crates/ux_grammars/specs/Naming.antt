-- The names of the graphs of a grammar: in which files they stand, and in which order they are read.
-- This file carries public meaning.
use Rattle.std.specs.Prelude.{Bool, ℕ, zero, suc, ◌-◌, nat_eq, if◌then◌else◌, List, ◌∷◌, ◌++◌, length, take, codes, Option, slice_get}
use Rattle.std.specs.List.{ends_with, flat_map}
use Rattle.std.specs.Str.{bytes_eq}
use Rattle.ux_plan.specs.FileNames.{base_of, folder_of}
use Rattle.ux_base.specs.Distinct.{each_once}
use Rattle.ux_boxes.specs.Boxes.{Drawn}
use Rattle.ux_boxes.specs.Refusing.{calls_of}

-- a name without `.grf` at its end
abbrev pub without_ending : List ℕ → List ℕ
without_ending name =
    if ends_with nat_eq name (codes ".grf") then take (length name - 4) name else name

-- the word names the file of a compiled grammar
abbrev pub is_compiled : List ℕ → Bool
is_compiled word = ends_with nat_eq word (codes ".fst2")

-- the name of the main graph, whose file the word names
abbrev pub main_name : List ℕ → List ℕ
main_name word = without_ending (base_of word)

-- the file of a graph that is called: in the folder of the main graph's file
abbrev pub callee_file : (word name : List ℕ) → List ℕ
callee_file word name = folder_of word ++ name ++ codes ".grf"

-- the file of the graph that is read at this place, counted from 0: first the main graph's
abbrev pub file_of : (word : List ℕ) → ℕ → (name : List ℕ) → List ℕ
file_of word zero name = word
file_of word (suc k) name = callee_file word name

-- the file of a graph by its name
abbrev pub named_file : (word name : List ℕ) → List ℕ
named_file word name = if bytes_eq name (main_name word) then word else callee_file word name

-- the file in which a graph of the grammar stands: a compiled grammar is one file
abbrev pub graph_file : (word name : List ℕ) → List ℕ
graph_file word name = if is_compiled word then word else named_file word name

-- the main graph's name and those that the graphs call, in order, each once
abbrev pub names_after : List ℕ → List Drawn → List (List ℕ)
names_after word graphs = each_once (main_name word ∷ flat_map calls_of graphs)

-- the name of the graph that is read after these
abbrev pub next_name : List ℕ → List Drawn → Option (List ℕ)
next_name word graphs = slice_get (names_after word graphs) (length graphs)
