-- The box language, on items: what each sign begins in a line. Public, through `File` and
-- `Content`.
use Rattle.std.specs.Prelude.{◌≡◌, ℕ, ◌==◌, ◌+◌, ◌<◌, ◌⊎◌, false, List, [], ◌∷◌, Option, None, Some, if◌then◌else◌, take, drop, codes, length, slice_index}
use Rattle.std.specs.Str.{bytes_eq}
use Rattle.ux_grf.specs.declared.item.Item.{Item}
use Rattle.ux_grf.specs.declared.item.Item.TheVariants.{Literal, Quoted, Mask, Brace, NoSpace, Empty}
use Rattle.ux_grf.specs.declared.protection.Stop.TheVariants.{Mark, Greater, CloseBrace, LiteralEnd}
use Rattle.ux_grf.specs.declared.protection.Layer.TheVariants.{Language}
use Rattle.ux_grf.specs.declared.start.Sign.{Sign}
use Rattle.ux_grf.specs.declared.start.Sign.TheVariants.{Nothing, Plus, Slash, Blank, Sharp, Quotation, Less, OpenBrace, Other}
use Rattle.ux_grf.specs.declared.start.Start.{Start}
use Rattle.ux_grf.specs.declared.start.Start.TheVariants.{Over, Written, Bad}
use Rattle.ux_grf.specs.Protection.{BACKSLASH, first_free, ends_open, resolved}

abbrev pub PLUS : ℕ
PLUS = 43

abbrev pub SLASH : ℕ
SLASH = 47

-- a line ends before `+` or `/`, or at the content's end
abbrev pub EndsLine : List ℕ → Type 0
EndsLine [] = Unit {0}
EndsLine (b ∷ after) = (b ≡ PLUS) ⊎ (b ≡ SLASH)

-- the text's first character is one byte
abbrev pub BeginsInAscii : List ℕ → Type 0
BeginsInAscii text = (0 < length text) × (slice_index text 0 < 128)

-- the sign that a byte is
abbrev pub sign_of : ℕ → Sign
sign_of b =
    if b == 43 then Plus else if b == 47 then Slash
    else if b == 32 then Blank else if b == 9 then Blank
    else if b == 35 then Sharp else if b == 34 then Quotation
    else if b == 60 then Less else if b == 123 then OpenBrace
    else Other

abbrev pub sign_at : List ℕ → Sign
sign_at [] = Nothing
sign_at (b ∷ text) = sign_of b

-- a sign that ends no line and begins no literal is one byte
abbrev pub IsByte : Sign → List ℕ → Type 0
IsByte Nothing text = EndsLine text
IsByte Plus text = EndsLine text
IsByte Slash text = EndsLine text
IsByte Blank text = BeginsInAscii text
IsByte Sharp text = BeginsInAscii text
IsByte Quotation text = BeginsInAscii text
IsByte Less text = BeginsInAscii text
IsByte OpenBrace text = BeginsInAscii text
IsByte Other text = Unit {0}

-- what begins at a place of a line: nothing, since the line is over; a part that writes an item or
-- none, and what stands after it; or a fault, with what stands from there on
pub data Beginning : Type 0 where
  no_more : Beginning
  part : Option Item → List ℕ → Beginning
  fault : List ℕ → Beginning

-- what the reader gives
abbrev pub begin_by : Start → Beginning
begin_by Over = no_more
begin_by (Written item rest) = part item rest.now
begin_by (Bad rest) = fault rest.now

-- a line that is over has ended, and what stands after a part is shorter
abbrev pub Leaves : List ℕ → Start → Type 0
Leaves text Over = EndsLine text
Leaves text (Written item rest) = length rest.now < length text
Leaves text (Bad rest) = Unit {0}

-- the item of a text that isn't empty
abbrev pub some_text : (List ℕ → Item) → List ℕ → Option Item
some_text item [] = None
some_text item (b ∷ text) = Some (item (b ∷ text))

-- a quoted text up to the mark at this place after the first; empty quotes write no item
abbrev pub quoted_begin : List ℕ → Option ℕ → Beginning
quoted_begin text None = fault text
quoted_begin text (Some k) =
    part (some_text Quoted (resolved Language false (take k (drop 1 text))))
    (drop (k + 1) (drop 1 text))

abbrev pub mask_item : List ℕ → Item
mask_item text = if bytes_eq text (codes "E") then Empty else Mask text

-- a mask up to the sign at this place after the first; it isn't empty
abbrev pub mask_begin : List ℕ → Option ℕ → Beginning
mask_begin text None = fault text
mask_begin text (Some k) =
    if k == 0 then fault text
    else part (Some (mask_item (take k (drop 1 text)))) (drop (k + 1) (drop 1 text))

-- a text in braces up to the brace at this place after the first
abbrev pub brace_begin : List ℕ → Option ℕ → Beginning
brace_begin text None = fault text
brace_begin text (Some k) = part (Some (Brace (take (k + 2) text))) (drop (k + 1) (drop 1 text))

-- a literal up to this place, or else up to the content's end, which no backslash may be
abbrev pub literal_begin : List ℕ → Option ℕ → Beginning
literal_begin text None =
    if ends_open false text then fault (BACKSLASH ∷ [])
    else part (some_text Literal (resolved Language false text)) []
literal_begin text (Some k) =
    part (some_text Literal (resolved Language false (take k text))) (drop k text)

-- what begins at each sign
abbrev pub begin_at : Sign → List ℕ → Beginning
begin_at Nothing text = no_more
begin_at Plus text = no_more
begin_at Slash text = no_more
begin_at Blank text = part None (drop 1 text)
begin_at Sharp text = part (Some NoSpace) (drop 1 text)
begin_at Quotation text = quoted_begin text (first_free Mark false (drop 1 text))
begin_at Less text = mask_begin text (first_free Greater false (drop 1 text))
begin_at OpenBrace text = brace_begin text (first_free CloseBrace false (drop 1 text))
begin_at Other text = literal_begin text (first_free LiteralEnd false text)

abbrev pub begin_of : List ℕ → Beginning
begin_of text = begin_at (sign_at text) text

-- the items, with the one that was written before them
abbrev pub with_first : Option Item → List Item → List Item
with_first None items = items
with_first (Some item) items = item ∷ items

-- the items of a line, and what stands after the line
pub data Reads : List ℕ → List Item → List ℕ → Type 0 where
  line_over : {text : List ℕ} → begin_of text ≡ no_more → Reads text [] text
  item_then : {text rest after : List ℕ} {item : Option Item} {items : List Item} →
      begin_of text ≡ part item rest → Reads rest items after →
      Reads text (with_first item items) after

-- what stands from the first fault of a line on
pub data Fails : List ℕ → List ℕ → Type 0 where
  fault_here : {text left : List ℕ} → begin_of text ≡ fault left → Fails text left
  fault_later : {text rest left : List ℕ} {item : Option Item} →
      begin_of text ≡ part item rest → Fails rest left → Fails text left
