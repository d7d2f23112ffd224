-- The box language, on lines: lines of one item, lines of items, and where a line is refused.
-- Public, through `File` and `Content`.
use Rattle.std.specs.Prelude.{◌≡◌, ℕ, suc, ◌==◌, ◌-◌, ◌<◌, Bool, true, false, ◌&&◌, ◌||◌, ◌⊎◌, nat_lt, nat_le, not, List, [], ◌∷◌, Option, None, Some, if◌then◌else◌, length, take, drop, slice_index, codes}
use Rattle.std.specs.List.{list_all, list_any}
use Rattle.std.specs.Option.{option_or}
use Rattle.std.specs.Str.{bytes_eq}
use Rattle.ux_grf.specs.declared.graph.GraphKind.{GraphKind}
use Rattle.ux_grf.specs.declared.graph.GraphKind.TheVariants.{Plain, Morphological}
use Rattle.ux_grf.specs.declared.item.Item.{Item}
use Rattle.ux_grf.specs.declared.item.Item.TheVariants.{Literal, Empty, Call, Begin, End, Positive, Negative, ContextEnd, Cut}
use Rattle.ux_grf.specs.declared.words.Gap.TheVariants.{Blanks}
use Rattle.ux_grf.specs.Words.{is_gap}
use Rattle.ux_grf.specs.Items.{PLUS, SLASH, EndsLine, Reads, Fails}

abbrev pub COLON : ℕ
COLON = 58

abbrev pub DOLLAR : ℕ
DOLLAR = 36

-- the text without the spaces and tabs in front
abbrev pub without_front : List ℕ → List ℕ
without_front [] = []
without_front (b ∷ text) = if is_gap Blanks b then without_front text else b ∷ text

-- a byte in front of a text, unless that text is empty and the byte a space or a tab
abbrev pub put_front : ℕ → List ℕ → List ℕ
put_front b [] = if is_gap Blanks b then [] else b ∷ []
put_front b (c ∷ text) = b ∷ (c ∷ text)

-- the text without the spaces and tabs at its end
abbrev pub without_back : List ℕ → List ℕ
without_back [] = []
without_back (b ∷ text) = put_front b (without_back text)

-- a space or a tab begins the text, or ends it
abbrev pub begins_blank : List ℕ → Bool
begins_blank text = is_gap Blanks (slice_index text 0)

abbrev pub ends_blank : List ℕ → Bool
ends_blank text = is_gap Blanks (slice_index text (length text - 1))

-- a letter, a digit or `_`, of ASCII
abbrev pub is_name_byte : ℕ → Bool
is_name_byte b =
    nat_le 97 b && nat_le b 122 || nat_le 65 b && nat_le b 90 || nat_le 48 b && nat_le b 57 || b == 95

-- the name of a variable
abbrev pub is_name : List ℕ → Bool
is_name text = nat_lt 0 (length text) && list_all is_name_byte text

-- the sign before the name of an output's variable
abbrev pub BAR : ℕ
BAR = 124

abbrev pub without_bar : List ℕ → List ℕ
without_bar text = if slice_index text 0 == BAR then drop 1 text else text

-- what stands in front of the last sign of a begin or an end: the name of a variable, after a bar
-- where an output is meant
abbrev pub is_bound_name : List ℕ → Bool
is_bound_name text = is_name (without_bar text)

-- the text without one such ending
abbrev pub without_ending : (ending text : List ℕ) → List ℕ
without_ending ending text =
    if bytes_eq (drop (length text - length ending) text) ending
    then take (length text - length ending) text else text

-- one of : \ " < {
abbrev pub is_no_name_sign : ℕ → Bool
is_no_name_sign b = b == 58 || b == 92 || b == 34 || b == 60 || b == 123

-- a call of the graph of this name, if it may be one
abbrev pub call_of : List ℕ → Option Item
call_of name =
    if nat_lt 0 (length name) && not (list_any is_no_name_sign name) then Some (Call name) else None

-- the item of a line, from what stands after its `:`
abbrev pub call_item : List ℕ → Option Item
call_item text = call_of (without_ending (codes ".grf") (without_back (without_front text)))

-- a variable's beginning or end, by the last sign
abbrev pub bound_of : List ℕ → ℕ → Option Item
bound_of name sign =
    if not (is_bound_name name) then None
    else if sign == 40 then Some (Begin name)
    else if sign == 41 then Some (End name)
    else None

-- where the part of a graph begins and ends that lies inside one word: lines of graphs of the
-- morphological mode alone
abbrev pub word_item : GraphKind → List ℕ → Option Item
word_item Plain text = None
word_item Morphological text =
    if bytes_eq text (codes "<") then Some (Begin (codes "<"))
    else if bytes_eq text (codes ">") then Some (End (codes "<"))
    else None

-- a variable's beginning or end, or that of the part inside a word, from what stands after a `$`
abbrev pub bound_item : GraphKind → List ℕ → Option Item
bound_item kind text =
    option_or (word_item kind text)
    (bound_of (take (length text - 1) text) (slice_index text (length text - 1)))

-- the item of a line, from what stands after its `$`
abbrev pub dollar_item : GraphKind → List ℕ → Option Item
dollar_item kind text =
    if bytes_eq text (codes "") then Some (Literal (codes "$"))
    else if bytes_eq text (codes "[") then Some Positive
    else if bytes_eq text (codes "![") then Some Negative
    else if bytes_eq text (codes "]") then Some ContextEnd
    else if bytes_eq text (codes "*") then Some Cut
    else bound_item kind text

-- the line's first sign is `:` or `$`
abbrev pub is_marked : List ℕ → Bool
is_marked text = slice_index text 0 == COLON || slice_index text 0 == DOLLAR

-- the one item of such a line
abbrev pub marked_item : GraphKind → List ℕ → Option Item
marked_item kind text =
    if slice_index text 0 == COLON then call_item (drop 1 text)
    else dollar_item kind (without_back (drop 1 text))

-- the place of the first `+` or `/`, or the end
abbrev pub line_end : List ℕ → ℕ
line_end [] = 0
line_end (b ∷ text) = if b == PLUS || b == SLASH then 0 else suc (line_end text)

-- the first `+` or `/` stands there
pub record IsFirstEnd (text : List ℕ) (end : ℕ) : Type 0 where
  pub is : line_end text ≡ end
  pub inside : end < length text
  pub sign : EndsLine (drop end text)
  pub ascii : slice_index text end < 128

-- such a line's own text, and what stands after it
abbrev pub own_text : List ℕ → List ℕ
own_text text = take (line_end text) text

abbrev pub after_line : List ℕ → List ℕ
after_line text = drop (line_end text) text

-- a line without items writes the empty word
abbrev pub or_empty : List Item → List Item
or_empty [] = Empty ∷ []
or_empty (item ∷ items) = item ∷ items

-- the items of a line, and what stands after the line
pub data IsLine (kind : GraphKind) : List ℕ → List Item → List ℕ → Type 0 where
  of_items : {text after : List ℕ} {items : List Item} →
      is_marked (without_front text) ≡ false → Reads text items after →
      IsLine kind text (or_empty items) after
  of_mark : {text : List ℕ} {item : Item} →
      is_marked (without_front text) ≡ true →
      marked_item kind (own_text (without_front text)) ≡ Some item →
      IsLine kind text (item ∷ []) (after_line (without_front text))

-- the text is a line of one item, and what stands after it
pub record IsMarkedLine (kind : GraphKind) (text : List ℕ) (items : List Item) (after : List ℕ) :
    Type 0 where
  pub item : Item
  pub is : marked_item kind (own_text text) ≡ Some item
  pub alone : items ≡ item ∷ []
  pub rest : after ≡ after_line text

-- what stands from the first fault of a line on; a bad line of one item is named at its sign
pub data IsBadLine (kind : GraphKind) : List ℕ → List ℕ → Type 0 where
  in_items : {text left : List ℕ} →
      is_marked (without_front text) ≡ false → Fails text left → IsBadLine kind text left
  at_mark : {text : List ℕ} →
      is_marked (without_front text) ≡ true →
      marked_item kind (own_text (without_front text)) ≡ None →
      IsBadLine kind text (without_front text)

-- the lines of a content, and what stands after its first free `/`
pub data AreLines (kind : GraphKind) : List ℕ → List (List Item) → List ℕ → Type 0 where
  last_line : {text : List ℕ} {line : List Item} → IsLine kind text line [] →
      AreLines kind text (line ∷ []) []
  line_with_output : {text output : List ℕ} {line : List Item} →
      IsLine kind text line (SLASH ∷ output) → AreLines kind text (line ∷ []) output
  line_then : {text rest output : List ℕ} {line : List Item} {lines : List (List Item)} →
      IsLine kind text line (PLUS ∷ rest) → AreLines kind rest lines output →
      AreLines kind text (line ∷ lines) output

-- what stands after the last line of a content, and the output
abbrev pub IsLastRest : (after output : List ℕ) → Type 0
IsLastRest after output =
    (after ≡ SLASH ∷ output) ⊎ ((after ≡ []) × (output ≡ []))

-- what stands from the first fault of the lines on
pub data IsBadIn (kind : GraphKind) : List ℕ → List ℕ → Type 0 where
  in_first : {text left : List ℕ} → IsBadLine kind text left → IsBadIn kind text left
  in_rest : {text rest left : List ℕ} {line : List Item} →
      IsLine kind text line (PLUS ∷ rest) → IsBadIn kind rest left → IsBadIn kind text left
