-- What the steps of printing and reading give. Inner: the crate's own functions alone speak of it.
use Rattle.std.specs.Prelude.{◌≡◌, ℕ, ◌<◌, ◌+◌, ◌++◌, Bool, List, [], ◌∷◌, All, Some, slice_get, drop, length, slice_index, take}
use Rattle.ux_base.specs.Distinct.{with_text}
use Rattle.ux_dela.specs.Written.{written}
use Rattle.ux_dela.specs.Printed.{shielded}
use Rattle.ux_grf.specs.Protection.{BACKSLASH}
use Rattle.ux_fst2.specs.Masks.{is_name_sign}
use Rattle.ux_fst2.specs.Tags.{is_text_sign, is_output_sign, IsItemOf, IsExactOf, IsTag}
use Rattle.ux_fst2.specs.declared.tag.Mark.{Mark}
use Rattle.ux_fst2.specs.declared.tag.Mark.TheVariants.{Percent, At}
use Rattle.ux_grf.specs.declared.item.Item.{Item}
use Rattle.ux_grf.specs.declared.item.Piece.{Piece}
use Rattle.ux_net.specs.declared.label.Label.{Label}
use Rattle.ux_net.specs.declared.label.Label.TheVariants as labels
use Rattle.ux_fst2_file.specs.declared.file.Fst2Label.{Fst2Label}
use Rattle.ux_fst2_file.specs.declared.file.Fst2Label.TheVariants as bears
use Rattle.ux_fst2_file.specs.declared.file.Fst2Edge.{Fst2Edge}
use Rattle.ux_fst2_file.specs.declared.file.Fst2State.{Fst2State}
use Rattle.ux_fst2_file.specs.declared.file.Fst2Graph.{Fst2Graph}
use Rattle.ux_fst2.specs.declared.tag.Tag.{Tag}
use Rattle.ux_fst2_file.specs.declared.error.Fst2Error as lines
use Rattle.ux_fst2_file.specs.declared.error.Fst2Error.TheVariants as line_error
use Rattle.ux_fst2.specs.declared.error.Fst2Error.{Fst2Error}
use Rattle.ux_fst2.specs.declared.error.Fst2Error.TheVariants.{BadCount, BadLine, NoMemory}
use Rattle.ux_fst2.specs.declared.shielding.Signs.{Signs}
use Rattle.ux_fst2.specs.declared.shielding.Signs.TheVariants as signs

-- the signs that get a backslash
abbrev pub is_shielded : Signs → ℕ → Bool
is_shielded signs.Text = is_text_sign
is_shielded signs.Output = is_output_sign
is_shielded signs.Name = is_name_sign

-- the first sign that gets a backslash stands there
pub record IsShieldedAt (signs : Signs) (text : List ℕ) (place : ℕ) : Type 0 where
  pub inside : place < length text
  pub ascii : slice_index text place < 128
  pub cut : written (shielded (is_shielded signs) text)
      ≡ take place text ++ (BACKSLASH ∷ (slice_index text place
      ∷ written (shielded (is_shielded signs) (drop (place + 1) text))))

-- the texts with more, each of which goes last where it is new
abbrev pub with_texts : (texts more : List (List ℕ)) → List (List ℕ)
with_texts texts [] = texts
with_texts texts (text ∷ more) = with_texts (with_text texts text) more

-- the error of a text whose lines are refused
abbrev pub error_of : lines.Fst2Error → Fst2Error
error_of line_error.BadCount = BadCount
error_of (line_error.BadLine line) = BadLine line
error_of line_error.NoMemory = NoMemory

-- the label that an item is behind a sign
abbrev pub IsMarked : Mark → Item → Label → Type 0
IsMarked Percent = IsItemOf
IsMarked At = IsExactOf

-- what was read of a tag
abbrev pub IsReadTag : List ℕ → Tag → Type 0
IsReadTag text tag = IsTag text tag.label tag.output

-- the label names one of so many tags, or calls a graph
abbrev pub NamesTagBy : (count : ℕ) → Fst2Label → Type 0
NamesTagBy count (bears.Tag tag) = tag < count
NamesTagBy count (bears.Call graph) = Unit {0}

abbrev pub NamesTag : (count : ℕ) → Fst2Edge → Type 0
NamesTag count edge = NamesTagBy count edge.label

abbrev pub NamesTags : (count : ℕ) → Fst2State → Type 0
NamesTags count state = All (NamesTag count) state.edges

abbrev pub NamesTagsIn : (count : ℕ) → Fst2Graph → Type 0
NamesTagsIn count graph = All (NamesTags count) graph.states

-- the label and the output that a number bears, where tags were read
abbrev pub IsBorneBy : (tags : List Tag) → Fst2Label → Label → List Piece → Type 0
IsBorneBy tags (bears.Call graph) label output = (label ≡ labels.Call graph) × (output ≡ [])
IsBorneBy tags (bears.Tag tag) label output =
    slice_get tags tag ≡ Some (record { label = label; output = output })
