-- Tags: the text of a label with its output, and what such a text says. The manual, on .fst2 files.
-- Public: the crate's public contracts speak of it.
use Rattle.std.specs.Prelude.{◌≡◌, ◌⊎◌, ℕ, ◌==◌, ◌||◌, Bool, List, [], ◌∷◌, ◌++◌, codes}
use Rattle.std.specs.List.{flat_map}
use Rattle.ux_dela.specs.Written.{written}
use Rattle.ux_dela.specs.Printed.{shielded}
use Rattle.ux_grf.specs.declared.graph.GraphKind.TheVariants.{Plain}
use Rattle.ux_grf.specs.declared.item.Item.{Item}
use Rattle.ux_grf.specs.declared.item.Item.TheVariants as item
use Rattle.ux_grf.specs.declared.item.Piece.{Piece}
use Rattle.ux_grf.specs.declared.item.Piece.TheVariants.{Chars, Value}
use Rattle.ux_grf.specs.Items.{SLASH}
use Rattle.ux_grf.specs.Protection.{QUOTE}
use Rattle.ux_grf.specs.Words.{SPACE}
use Rattle.ux_grf.specs.Lines.{DOLLAR}
use Rattle.ux_grf.specs.Content.{IsContent}
use Rattle.ux_masks.specs.declared.mask.Mask as masks
use Rattle.ux_masks.specs.Texts.{IsMaskText}
use Rattle.ux_net.specs.declared.label.Label.{Label}
use Rattle.ux_net.specs.declared.label.Label.TheVariants.{Empty, CaseFolded, CaseExact, Mask, Brace, Space, NoSpace, Begin, End, Positive, Negative, ContextEnd, Cut, Call}
use Rattle.ux_fst2.specs.Masks.{mask_text}

-- `%`, in front of a tag
abbrev pub PERCENT : ℕ
PERCENT = 37

-- `@`, in front of a tag whose text is matched exactly
abbrev pub AT : ℕ
AT = 64

-- tag 0, that of the empty word
abbrev pub EMPTY_TAG : List ℕ
EMPTY_TAG = codes "%<E>"

-- one of + / : < > " { } $ # \ space tab
abbrev pub is_text_sign : ℕ → Bool
is_text_sign b =
    b == 43 || b == 47 || b == 58 || b == 60 || b == 62 || b == 34 || b == 123 || b == 125
    || b == 36 || b == 35 || b == 92 || b == 32 || b == 9

-- one of \ $ <
abbrev pub is_output_sign : ℕ → Bool
is_output_sign b = b == 92 || b == 36 || b == 60

-- the text of a token, with a backslash before each sign
abbrev pub token_text : List ℕ → List ℕ
token_text text = written (shielded is_text_sign text)

-- a label in the box language; a call has no tag
abbrev pub item_text : Label → List ℕ
item_text Empty = codes "<E>"
item_text (CaseFolded text) = token_text text
item_text (CaseExact text) = token_text text
item_text (Mask mask) = codes "<" ++ (mask_text mask ++ codes ">")
item_text (Brace text) = text
item_text Space = QUOTE ∷ (SPACE ∷ (QUOTE ∷ []))
item_text NoSpace = codes "#"
item_text (Begin name) = codes "$" ++ (name ++ codes "(")
item_text (End name) = codes "$" ++ (name ++ codes ")")
item_text Positive = codes "$["
item_text Negative = codes "$!["
item_text ContextEnd = codes "$]"
item_text Cut = codes "$*"
item_text (Call graph) = []

abbrev pub piece_text : Piece → List ℕ
piece_text (Chars text) = written (shielded is_output_sign text)
piece_text (Value name) = DOLLAR ∷ (name ++ DOLLAR ∷ [])

-- an output, behind a `/` where it isn't empty
abbrev pub output_text : List Piece → List ℕ
output_text [] = []
output_text (piece ∷ pieces) = SLASH ∷ flat_map piece_text (piece ∷ pieces)

-- the sign in front of a tag
abbrev pub mark_of : Label → ℕ
mark_of Empty = PERCENT
mark_of (CaseFolded text) = PERCENT
mark_of (CaseExact text) = AT
mark_of (Mask mask) = PERCENT
mark_of (Brace text) = PERCENT
mark_of Space = PERCENT
mark_of NoSpace = PERCENT
mark_of (Begin name) = PERCENT
mark_of (End name) = PERCENT
mark_of Positive = PERCENT
mark_of Negative = PERCENT
mark_of ContextEnd = PERCENT
mark_of Cut = PERCENT
mark_of (Call graph) = PERCENT

-- the tag of a label and an output
abbrev pub tag_text : Label → List Piece → List ℕ
tag_text label output = mark_of label ∷ (item_text label ++ output_text output)

-- the label that an item is behind `%`; a call is none, and a quoted text only where it is one space
abbrev pub IsItemOf : Item → Label → Type 0
IsItemOf (item.Literal text) label = label ≡ CaseFolded text
IsItemOf (item.Quoted text) label = (text ≡ codes " ") × (label ≡ Space)
IsItemOf (item.Mask text) label = (mask : masks.Mask) × IsMaskText text mask × (label ≡ Mask mask)
IsItemOf (item.Brace text) label = label ≡ Brace text
IsItemOf item.NoSpace label = label ≡ NoSpace
IsItemOf item.Empty label = label ≡ Empty
IsItemOf (item.Call name) label = ⊥
IsItemOf (item.Begin name) label = label ≡ Begin name
IsItemOf (item.End name) label = label ≡ End name
IsItemOf item.Positive label = label ≡ Positive
IsItemOf item.Negative label = label ≡ Negative
IsItemOf item.ContextEnd label = label ≡ ContextEnd
IsItemOf item.Cut label = label ≡ Cut

-- the label that an item is behind `@`: only characters are one
abbrev pub IsExactOf : Item → Label → Type 0
IsExactOf (item.Literal text) label = label ≡ CaseExact text
IsExactOf (item.Quoted text) label = ⊥
IsExactOf (item.Mask text) label = ⊥
IsExactOf (item.Brace text) label = ⊥
IsExactOf item.NoSpace label = ⊥
IsExactOf item.Empty label = ⊥
IsExactOf (item.Call name) label = ⊥
IsExactOf (item.Begin name) label = ⊥
IsExactOf (item.End name) label = ⊥
IsExactOf item.Positive label = ⊥
IsExactOf item.Negative label = ⊥
IsExactOf item.ContextEnd label = ⊥
IsExactOf item.Cut label = ⊥

-- the content of a tag: one line of one item, which is the label, and the output
pub record IsTagContent (Is : Item → Label → Type 0) (content : List ℕ) (label : Label)
    (output : List Piece) : Type 0 where
  pub item : Item
  pub content_is : IsContent Plain content (record { lines = (item ∷ []) ∷ []; output = output })
  pub label_is : Is item label

-- the text of a tag says this label and this output
abbrev pub IsTag : (text : List ℕ) → Label → List Piece → Type 0
IsTag [] label output = ⊥
IsTag (b ∷ content) label output =
    ((b ≡ PERCENT) × IsTagContent IsItemOf content label output)
    ⊎ ((b ≡ AT) × IsTagContent IsExactOf content label output)
