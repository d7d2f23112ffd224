-- What is left after a part, or from a fault on, stands at the content's end.
use Rattle.std.proofs.Common.{◌≡◌, ℕ, ◌+◌, List, [], ◌∷◌, ◌++◌, refl, sym, ◌∙◌, ap, subst, cond, Bool, true, false, not, ◌&&◌, inl, inr, length, take, drop, append_assoc, append-nil, length-append, Option, None, Some, eqb}
use Rattle.std.specs.Str.{chars, IsUtf8}
use Rattle.std.proofs.lemmas.List.{take-append-drop, take_at}
use Rattle.std.proofs.lemmas.Str.{IsCharBoundary-at_seam, IsUtf8-take, chars-append}
use Rattle.std.proofs.lemmas.Bool.{eqb-true, false≢true}
use Rattle.ux_grf.specs.declared.graph.GraphKind.{GraphKind}
use Rattle.ux_grf.specs.declared.item.Item.{Item}
use Rattle.ux_grf.specs.declared.protection.Stop.TheVariants.{Mark, Greater, CloseBrace, LiteralEnd}
use Rattle.ux_grf.specs.declared.protection.Layer.TheVariants.{Language}
use Rattle.ux_grf.specs.declared.start.Sign.{Sign}
use Rattle.ux_grf.specs.declared.start.Sign.TheVariants.{Nothing, Plus, Slash, Blank, Sharp, Quotation, Less, OpenBrace, Other}
use Rattle.ux_grf.specs.declared.words.Gap.TheVariants.{Blanks}
use Rattle.ux_grf.specs.Words.{is_gap}
use Rattle.ux_grf.specs.Protection.{BACKSLASH, first_free, ends_open, resolved}
use Rattle.ux_grf.specs.Items.{PLUS, SLASH, Beginning, no_more, part, fault, sign_of, some_text, quoted_begin, mask_item, mask_begin, brace_begin, literal_begin, begin_at, begin_of, Reads, line_over, item_then, Fails, fault_here, fault_later}
use Rattle.ux_grf.specs.declared.item.Item.TheVariants.{Literal}
use Rattle.ux_grf.specs.Lines.{without_front, line_end, after_line, IsLine, of_items, of_mark, IsBadLine, in_items, at_mark, AreLines, last_line, line_with_output, line_then, IsBadIn, in_first, in_rest}
use Rattle.ux_grf.specs.Content.{IsEndOf, IsFault}
use Rattle.ux_grf.proofs.NumbersLemmas.{and_left}

itself : (text : List ℕ) → IsEndOf text text
itself text = ([], refl)

dropped : (k : ℕ) (text : List ℕ) → IsEndOf text (drop k text)
dropped k text = (take k text, sym (take-append-drop k text))

further : (text rest left : List ℕ) → IsEndOf text rest → IsEndOf rest left → IsEndOf text left
further text rest left a b =
    (a.0 ++ b.0, a.1 ∙ (ap (λ r. a.0 ++ r) b.1 ∙ sym (append_assoc a.0 b.0 left)))

after_one : (b : ℕ) (text rest : List ℕ) → IsEndOf text rest → IsEndOf (b ∷ text) rest
after_one b text rest a = (b ∷ a.0, ap (λ t. b ∷ t) a.1)

after_sign : (text rest : List ℕ) (b : ℕ) → IsEndOf text (b ∷ rest) → IsEndOf text rest
after_sign text rest b a =
    further text (b ∷ rest) rest a (after_one b rest rest (itself rest))

-- a text that ends open ends in a backslash
open_end : (protected : Bool) (b : ℕ) (text : List ℕ) → ends_open protected (b ∷ text) ≡ true →
    IsEndOf (b ∷ text) (BACKSLASH ∷ [])
open_end protected b [] e =
    let is : b ≡ BACKSLASH = eqb-true b BACKSLASH (and_left (eqb b BACKSLASH) (not protected) e) in
    ([], ap (λ x. x ∷ []) is)
open_end protected b (c ∷ text) e =
    after_one b (c ∷ text) (BACKSLASH ∷ [])
    (open_end (eqb b BACKSLASH && not protected) c text e)

pub open_ends : (text : List ℕ) → ends_open false text ≡ true → IsEndOf text (BACKSLASH ∷ [])
open_ends [] e = absurd (false≢true e)
open_ends (b ∷ text) e = open_end false b text e

abbrev EndsIn : List ℕ → Beginning → Type 0
EndsIn text no_more = Unit {0}
EndsIn text (part item rest) = IsEndOf text rest
EndsIn text (fault left) = IsEndOf text left

module _ (b : ℕ) (text : List ℕ) where
  after_sign_at : (k : ℕ) → IsEndOf (b ∷ text) (drop k text)
  after_sign_at k = after_one b text (drop k text) (dropped k text)

  quoted_ends : (end : Option ℕ) → EndsIn (b ∷ text) (quoted_begin (b ∷ text) end)
  quoted_ends None = itself (b ∷ text)
  quoted_ends (Some k) = after_sign_at (k + 1)

  mask_ends : (end : Option ℕ) → EndsIn (b ∷ text) (mask_begin (b ∷ text) end)
  mask_ends None = itself (b ∷ text)
  mask_ends (Some k) = by (eqb k 0)
    where
      by : (t : Bool) → EndsIn (b ∷ text) (cond t (fault (b ∷ text))
          (part (Some (mask_item (take k text))) (drop (k + 1) text)))
      by true = itself (b ∷ text)
      by false = after_sign_at (k + 1)

  brace_ends : (end : Option ℕ) → EndsIn (b ∷ text) (brace_begin (b ∷ text) end)
  brace_ends None = itself (b ∷ text)
  brace_ends (Some k) = after_sign_at (k + 1)

literal_ends : (text : List ℕ) (end : Option ℕ) → EndsIn text (literal_begin text end)
literal_ends text None = by (ends_open false text) refl
  where
    by : (t : Bool) → ends_open false text ≡ t → EndsIn text (cond t (fault (BACKSLASH ∷ []))
        (part (some_text Literal (resolved Language false text)) []))
    by true e = open_ends text e
    by false e = (text, sym (append-nil text))
literal_ends text (Some k) = dropped k text

sign_ends : (sign : Sign) (b : ℕ) (text : List ℕ) → EndsIn (b ∷ text) (begin_at sign (b ∷ text))
sign_ends Nothing b text = tt
sign_ends Plus b text = tt
sign_ends Slash b text = tt
sign_ends Blank b text = after_one b text text (itself text)
sign_ends Sharp b text = after_one b text text (itself text)
sign_ends Quotation b text = quoted_ends b text (first_free Mark false text)
sign_ends Less b text = mask_ends b text (first_free Greater false text)
sign_ends OpenBrace b text = brace_ends b text (first_free CloseBrace false text)
sign_ends Other b text = literal_ends (b ∷ text) (first_free LiteralEnd false (b ∷ text))

begin_ends : (text : List ℕ) → EndsIn text (begin_of text)
begin_ends [] = tt
begin_ends (b ∷ text) = sign_ends (sign_of b) b text

-- what stands after a line, and from a fault of it on
reads_end : {text after : List ℕ} {items : List Item} → Reads text items after →
    IsEndOf text after
reads_end {text} (line_over is) = itself text
reads_end {text} {after} (item_then {rest = rest} is r) =
    further text rest after (subst (EndsIn text) is (begin_ends text)) (reads_end r)

fails_end : {text left : List ℕ} → Fails text left → IsEndOf text left
fails_end {text} (fault_here is) = subst (EndsIn text) is (begin_ends text)
fails_end {text} {left} (fault_later {rest = rest} is f) =
    further text rest left (subst (EndsIn text) is (begin_ends text)) (fails_end f)

front_end : (text : List ℕ) → IsEndOf text (without_front text)
front_end [] = itself []
front_end (b ∷ text) = by (is_gap Blanks b) (front_end text)
  where
    by : (t : Bool) → IsEndOf text (without_front text) →
        IsEndOf (b ∷ text) (cond t (without_front text) (b ∷ text))
    by true later = after_one b text (without_front text) later
    by false later = itself (b ∷ text)

line_ends : {kind : GraphKind} {text after : List ℕ} {line : List Item} → IsLine kind text line after →
    IsEndOf text after
line_ends (of_items mark r) = reads_end r
line_ends (of_mark {text = text} mark is) =
    further text (without_front text) (after_line (without_front text)) (front_end text)
    (dropped (line_end (without_front text)) (without_front text))

bad_line_end : {kind : GraphKind} {text left : List ℕ} → IsBadLine kind text left → IsEndOf text left
bad_line_end (in_items mark f) = fails_end f
bad_line_end (at_mark {text = text} mark is) = front_end text

lines_end : {kind : GraphKind} {text output : List ℕ} {lines : List (List Item)} → AreLines kind text lines output →
    IsEndOf text output
lines_end (last_line is) = line_ends is
lines_end (line_with_output {text = text} {output = output} is) =
    after_sign text output SLASH (line_ends is)
lines_end (line_then {text = text} {rest = rest} {output = output} is ls) =
    further text rest output (after_sign text rest PLUS (line_ends is)) (lines_end ls)

bad_in_end : {kind : GraphKind} {text left : List ℕ} → IsBadIn kind text left → IsEndOf text left
bad_in_end (in_first bad) = bad_line_end bad
bad_in_end (in_rest {text = text} {rest = rest} {left = left} is bad) =
    further text rest left (after_sign text rest PLUS (line_ends is)) (bad_in_end bad)

-- what stands from the first fault of a content on
pub fault_end : {kind : GraphKind} (content left : List ℕ) → IsFault kind content left → IsEndOf content left
fault_end content left (inl bad) = bad_in_end bad
fault_end content left (inr opened) =
    subst (IsEndOf content) (sym opened.here)
    (further content opened.written (BACKSLASH ∷ []) (lines_end opened.good)
    (open_ends opened.written opened.opened))

-- the characters of a content are those before what is left, and those that are left
pub characters : (content front left : List ℕ) → IsUtf8 content → IsUtf8 left →
    content ≡ front ++ left → length (chars content) ≡ length (chars front) + length (chars left)
characters content front left whole end is =
    let cut = IsUtf8-take content (length front) whole
    (IsCharBoundary-at_seam content front left is end) in
    let first : take (length front) content ≡ front =
    ap (take (length front)) is ∙ take_at front left (length front) refl in
    ap (λ (t : List ℕ). length (chars t)) is
    ∙ (ap (λ (cs : List ℕ). length cs) (chars-append front left (subst IsUtf8 first cut))
    ∙ length-append (chars front) (chars left))
