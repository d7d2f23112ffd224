-- What holds of an item that was read: characters are some, braces close, and a bound has a name.
use Rattle.std.proofs.Common.{◌≡◌, ℕ, ◌+◌, ◌-◌, List, [], ◌∷◌, Bool, true, false, length, take, drop, refl, subst, Option, Some, None}
use Rattle.std.specs.Prelude.{◌==◌, ◌&&◌, if◌then◌else◌, nat_lt, not, slice_index, codes}
use Rattle.std.specs.List.{list_any}
use Rattle.std.specs.Str.{bytes_eq}
use Rattle.std.proofs.lemmas.Bool.{cond_both}
use Rattle.ux_grf.specs.declared.graph.GraphKind.TheVariants.{Plain}
use Rattle.ux_grf.specs.declared.item.Item.{Item}
use Rattle.ux_grf.specs.declared.item.Item.TheVariants.{Literal, Quoted, Mask, Brace, NoSpace, Empty, Call, Begin, End, Positive, Negative, ContextEnd, Cut}
use Rattle.ux_grf.specs.declared.protection.Stop.TheVariants.{CloseBrace, Greater, LiteralEnd}
use Rattle.ux_grf.specs.declared.protection.Stop.TheVariants as stop
use Rattle.ux_grf.specs.declared.protection.Layer.TheVariants.{Language}
use Rattle.ux_grf.specs.declared.start.Sign.{Sign}
use Rattle.ux_grf.specs.declared.start.Sign.TheVariants.{Nothing, Plus, Slash, Blank, Sharp, Quotation, Less, OpenBrace, Other}
use Rattle.ux_grf.specs.Items.{Beginning, no_more, part, fault, Reads, begin_at, begin_of, brace_begin, item_then, line_over, literal_begin, mask_begin, mask_item, quoted_begin, sign_of, some_text}
use Rattle.ux_grf.specs.Lines.{AreLines, COLON, IsLine, bound_item, bound_of, call_item, call_of, dollar_item, is_bound_name, is_no_name_sign, last_line, line_then, line_with_output, marked_item, of_items, of_mark, or_empty, own_text, without_back, without_ending, without_front}
use Rattle.ux_grf.specs.Protection.{BACKSLASH, ends_open, first_free, resolved}
use Rattle.ux_fst2.proofs.BraceLines.{IsBraceText, brace_read}

-- what holds of an item that was read: characters are some, braces close, and a bound has a name
abbrev pub IsRead : Item → Type 0
IsRead (Literal text) = (b : ℕ) × (rest : List ℕ) × (text ≡ b ∷ rest)
IsRead (Quoted text) = Unit {0}
IsRead (Mask text) = Unit {0}
IsRead (Brace text) = IsBraceText text
IsRead NoSpace = Unit {0}
IsRead Empty = Unit {0}
IsRead (Call name) = Unit {0}
IsRead (Begin name) = is_bound_name name ≡ true
IsRead (End name) = is_bound_name name ≡ true
IsRead Positive = Unit {0}
IsRead Negative = Unit {0}
IsRead ContextEnd = Unit {0}
IsRead Cut = Unit {0}

abbrev IsReadSome : Option Item → Type 0
IsReadSome None = Unit {0}
IsReadSome (Some item) = IsRead item

abbrev IsReadPart : Beginning → Type 0
IsReadPart no_more = Unit {0}
IsReadPart (part item rest) = IsReadSome item
IsReadPart (fault left) = Unit {0}

literal_read : (text : List ℕ) → IsReadSome (some_text Literal text)
literal_read [] = tt
literal_read (b ∷ text) = (b, text, refl)

quoted_read : (text : List ℕ) → IsReadSome (some_text Quoted text)
quoted_read [] = tt
quoted_read (b ∷ text) = tt

quoted_part : (text : List ℕ) (end : Option ℕ) → IsReadPart (quoted_begin text end)
quoted_part text None = tt
quoted_part text (Some k) = quoted_read (resolved Language false (take k (drop 1 text)))

mask_read : (text : List ℕ) → IsRead (mask_item text)
mask_read text = by (bytes_eq text (codes "E"))
  where
    by : (q : Bool) → IsRead (if q then Empty else Mask text)
    by true = tt
    by false = tt

mask_part : (text : List ℕ) (end : Option ℕ) → IsReadPart (mask_begin text end)
mask_part text None = tt
mask_part text (Some k) = by (k == 0)
  where
    by : (q : Bool) → IsReadPart (if q then fault text
        else part (Some (mask_item (take k (drop 1 text)))) (drop (k + 1) (drop 1 text)))
    by true = tt
    by false = mask_read (take k (drop 1 text))

brace_part : (b : ℕ) (text : List ℕ) (end : Option ℕ) → sign_of b ≡ OpenBrace →
    first_free CloseBrace false text ≡ end → IsReadPart (brace_begin (b ∷ text) end)
brace_part b text None sign at = tt
brace_part b text (Some k) sign at = brace_read b text k sign at

literal_part : (text : List ℕ) (end : Option ℕ) → IsReadPart (literal_begin text end)
literal_part text None = by (ends_open false text)
  where
    by : (q : Bool) → IsReadPart (if q then fault (BACKSLASH ∷ [])
        else part (some_text Literal (resolved Language false text)) [])
    by true = tt
    by false = literal_read (resolved Language false text)
literal_part text (Some k) = literal_read (resolved Language false (take k text))

sign_part : (sign : Sign) (b : ℕ) (text : List ℕ) → sign_of b ≡ sign →
    IsReadPart (begin_at sign (b ∷ text))
sign_part Nothing b text is = tt
sign_part Plus b text is = tt
sign_part Slash b text is = tt
sign_part Blank b text is = tt
sign_part Sharp b text is = tt
sign_part Quotation b text is = quoted_part (b ∷ text) (first_free stop.Mark false text)
sign_part Less b text is = mask_part (b ∷ text) (first_free Greater false text)
sign_part OpenBrace b text is = brace_part b text (first_free CloseBrace false text) is refl
sign_part Other b text is = literal_part (b ∷ text) (first_free LiteralEnd false (b ∷ text))

begin_read : (text : List ℕ) → IsReadPart (begin_of text)
begin_read [] = tt
begin_read (b ∷ text) = sign_part (sign_of b) b text refl

abbrev AreRead : List Item → Type 0
AreRead [] = Unit {0}
AreRead (item ∷ items) = IsRead item × AreRead items

reads_read : {text after : List ℕ} {items : List Item} → Reads text items after → AreRead items
reads_read (line_over is) = tt
reads_read (item_then {item = None} is later) = reads_read later
reads_read (item_then {text = text} {item = Some item} is later) =
    (subst IsReadPart is (begin_read text), reads_read later)

empty_read : (items : List Item) → AreRead items → AreRead (or_empty items)
empty_read [] are = (tt, tt)
empty_read (item ∷ items) are = are

call_read : (name : List ℕ) → IsReadSome (call_of name)
call_read name = by (nat_lt 0 (length name) && not (list_any is_no_name_sign name))
  where
    by : (q : Bool) → IsReadSome (if q then Some (Call name) else None)
    by true = tt
    by false = tt

bound_read : (name : List ℕ) (sign : ℕ) → IsReadSome (bound_of name sign)
bound_read name sign = by (is_bound_name name) (sign == 40) (sign == 41) refl
  where
    by : (p q r : Bool) → is_bound_name name ≡ p → IsReadSome (if not p then None
        else if q then Some (Begin name) else if r then Some (End name) else None)
    by false q r is = tt
    by true true r is = is
    by true false true is = is
    by true false false is = tt

dollar_read : (text : List ℕ) → IsReadSome (dollar_item Plain text)
dollar_read text =
    by (bytes_eq text (codes "")) (bytes_eq text (codes "[")) (bytes_eq text (codes "!["))
    (bytes_eq text (codes "]")) (bytes_eq text (codes "*"))
  where
    by : (p q r s t : Bool) → IsReadSome (if p then Some (Literal (codes "$"))
        else if q then Some Positive else if r then Some Negative else if s then Some ContextEnd
        else if t then Some Cut else bound_item Plain text)
    by true q r s t = (36, [], refl)
    by false true r s t = tt
    by false false true s t = tt
    by false false false true t = tt
    by false false false false true = tt
    by false false false false false =
        bound_read (take (length text - 1) text) (slice_index text (length text - 1))

marked_read : (text : List ℕ) → IsReadSome (marked_item Plain text)
marked_read text =
    cond_both (slice_index text 0 == COLON) (call_item (drop 1 text))
    (dollar_item Plain (without_back (drop 1 text))) IsReadSome
    (λ e. call_read (without_ending (codes ".grf") (without_back (without_front (drop 1 text)))))
    (λ e. dollar_read (without_back (drop 1 text)))

line_read : {text after : List ℕ} {line : List Item} → IsLine Plain text line after → AreRead line
line_read (of_items unmarked reads) = empty_read _ (reads_read reads)
line_read (of_mark {text = text} marked is) =
    (subst IsReadSome is (marked_read (own_text (without_front text))), tt)

-- so the first line of a content has items of which this holds
pub lines_read : {text output : List ℕ} {item : Item} {lines : List (List Item)} →
    AreLines Plain text ((item ∷ []) ∷ lines) output → IsRead item
lines_read (last_line is) = (line_read is).0
lines_read (line_with_output is) = (line_read is).0
lines_read (line_then is later) = (line_read is).0
