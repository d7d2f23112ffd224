-- A text with what the masks of a net accept in it. Public: the contracts of the text and of what
-- searches it speak of it.
use Rattle.std.specs.Prelude.{◌≡◌, ◌↔◌, ◌++◌, ℕ, List, Contains}
use Rattle.std.specs.List.Sorted.{IsStrictlyIncreasing}
use Rattle.ux_alphabet.specs.Letters.{Letters}
use Rattle.ux_tokens.specs.Tokens.{Token}
use Rattle.ux_masks.specs.declared.mask.Mask.{Mask}
use Rattle.ux_lexical_tables.specs.Accepting.{Accepts}
use Rattle.ux_lexical_tables.specs.Belonging.{Belongs}
use Rattle.ux_lexical_tables.specs.Tables.{Tables}
use Rattle.ux_net.specs.declared.label.Label.{Label}
use Rattle.ux_net.specs.declared.net_graph.NetGraph.{NetGraph}
use Rattle.ux_net.specs.declared.state.Edge.{Edge}
use Rattle.ux_net.specs.Masks.{masks_of, masks_of_label}
use Rattle.ux_mask_table.specs.declared.masked_text.MaskedText.{MaskedText}
use Rattle.ux_mask_table.specs.MaskTables.{IsMaskTable}

-- it is that of this grammar and text, with these letters and entries
pub record IsOver (net : List NetGraph) (tokens : List Token) (alphabet : Letters) (tables : Tables)
    (text : MaskedText) : Type 0 where
  pub net_is : text.net.now ≡ net
  pub text_is : text.text.now ≡ tokens
  pub alphabet_is : text.alphabet.now ≡ alphabet
  pub applied_is : text.applied.now ≡ tables

-- the entries belong to the text, and the table of masks is theirs
pub record HasTable (text : MaskedText) : Type 0 where
  pub belongs : Belongs text.alphabet.now text.text.now text.applied.now
  pub table : IsMaskTable text.alphabet.now text.text.now text.applied.now text.net.now text.masks

-- the mask accepts the tokens of the text from one place up to another
abbrev pub accepts_in : MaskedText → Mask → (place k : ℕ) → Type 0
accepts_in text mask place k =
    Accepts text.alphabet.now text.text.now text.applied.now mask place k

-- these ends were added behind the others, ascending
pub record AddsEnds (IsEnd : ℕ → Type 0) (old new : List ℕ) : Type 0 where
  pub more : List ℕ
  pub added : new ≡ old ++ more
  pub exactly : (k : ℕ) → Contains more k ↔ IsEnd k
  pub ascending : IsStrictlyIncreasing more

-- the mask of a label, if it is one, stands in the net
abbrev pub IsMaskIn : List NetGraph → Label → Type 0
IsMaskIn net label =
    (mask : Mask) → Contains (masks_of_label label) mask → Contains (masks_of net) mask

-- the table tells of a label
pub record IsKnown (text : MaskedText) (label : Label) : Type 0 where
  pub table : HasTable text
  pub mask : IsMaskIn text.net.now label

-- it tells of the labels of these edges
pub record AreEdgesKnown (text : MaskedText) (edges : List Edge) : Type 0 where
  pub table : HasTable text
  pub masks : (edge : Edge) → Contains edges edge → IsMaskIn text.net.now edge.label
