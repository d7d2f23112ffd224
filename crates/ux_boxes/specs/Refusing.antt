-- What refuses a list of graphs before their places are looked at: a mask text that is no mask's,
-- or a call of a graph that isn't there. Public: contracts of compiling speak of it.
use Rattle.std.specs.Prelude.{◌≡◌, ℕ, zero, suc, ◌<◌, List, [], map, Option, Some, None, slice_get, string_bytes, String, Contains, All}
use Rattle.std.specs.declared.alloc.Global.{Global}
use Rattle.std.specs.List.{flat_map}
use Rattle.ux_grf.specs.declared.graph.Graph.{Graph}
use Rattle.ux_grf.specs.Needs.{calls_of_box}
use Rattle.ux_boxes.specs.Boxes.{Drawn, boxes_of, names_of}
use Rattle.ux_boxes.specs.MaskTexts.{mask_texts_in, IsMask, HaveMasks, IsFirstBad}

-- a graph that is given with its name
abbrev pub drawn_of : String Global × Graph → Drawn
drawn_of graph = record { name = string_bytes graph.0; boxes = graph.1.boxes }

abbrev pub drawn : List (String Global × Graph) → List Drawn
drawn graphs = map drawn_of graphs

-- the name of this number, counted from 1
abbrev pub is_name_at : (names : List (List ℕ)) → ℕ → List ℕ → Type 0
is_name_at names zero name = ⊥
is_name_at names (suc n) name = slice_get names n ≡ Some name

-- the name of the graph of this number
abbrev pub is_named : List Drawn → ℕ → List ℕ → Type 0
is_named graphs g name = is_name_at (names_of graphs) g name

-- the first graph of which some node is so, and its least such node
pub record IsFirst (IsSo : (g node : ℕ) → Type 0) (g node : ℕ) : Type 0 where
  pub here : IsSo g node
  pub first : (h m : ℕ) → h < g → IsSo h m → ⊥
  pub least : (m : ℕ) → m < node → IsSo g m → ⊥

-- the graph of this name, and a node of it, come first, where graphs have these names
abbrev pub IsFirstAmong : (names : List (List ℕ)) → (IsSo : (g node : ℕ) → Type 0) → List ℕ → ℕ →
    Type 0
IsFirstAmong names IsSo name node = (g : ℕ) × is_name_at names g name × IsFirst IsSo g node

abbrev pub IsFirstNamed : List Drawn → (IsSo : (g node : ℕ) → Type 0) → List ℕ → ℕ → Type 0
IsFirstNamed graphs IsSo name node = IsFirstAmong (names_of graphs) IsSo name node

-- the mask texts of a box of the graph of this number
abbrev pub mask_texts_at : List Drawn → (g node : ℕ) → List (List ℕ)
mask_texts_at graphs g node = mask_texts_in (slice_get (boxes_of graphs g) node)

-- one of them is no mask's
abbrev pub HasBadMask : List Drawn → (g node : ℕ) → Type 0
HasBadMask graphs g node =
    (text : List ℕ) × Contains (mask_texts_at graphs g node) text × (IsMask text → ⊥)

-- each mask text of each graph is a mask's
abbrev pub AreMasked : List Drawn → Type 0
AreMasked graphs = All (λ (graph : Drawn). HaveMasks graph.boxes) graphs

-- The first graph that has a mask text which is no mask's, the least node of it that has one, and
-- the place at which the first such text there is bad.
abbrev pub IsFirstBadMask : List Drawn → List ℕ → (node place : ℕ) → Type 0
IsFirstBadMask graphs name node place =
    (g : ℕ) × is_named graphs g name × IsFirst (HasBadMask graphs) g node
    × IsFirstBad (mask_texts_at graphs g node) place

-- the names by which a graph calls others, in order
abbrev pub calls_of : Drawn → List (List ℕ)
calls_of graph = flat_map calls_of_box graph.boxes

abbrev pub calls_in : Option Drawn → List (List ℕ)
calls_in None = []
calls_in (Some graph) = calls_of graph

-- every call of the graph of this number is of a graph that is there
abbrev pub AreCalled : List Drawn → ℕ → Type 0
AreCalled graphs n =
    (name : List ℕ) → Contains (calls_in (slice_get graphs n)) name →
    Contains (names_of graphs) name

-- every call is
abbrev pub AreWhole : List Drawn → Type 0
AreWhole graphs = (n : ℕ) → AreCalled graphs n

-- the first name that is called and that no graph has
pub record IsFirstMissing (graphs : List Drawn) (name : List ℕ) : Type 0 where
  pub n : ℕ
  pub k : ℕ
  pub called : slice_get (calls_in (slice_get graphs n)) k ≡ Some name
  pub missing : Contains (names_of graphs) name → ⊥
  pub earlier : (m : ℕ) → m < n → AreCalled graphs m
  pub before : (j : ℕ) (other : List ℕ) → j < k →
      slice_get (calls_in (slice_get graphs n)) j ≡ Some other → Contains (names_of graphs) other
