-- Each part of a line has a text that isn't empty, and no more than twice the bytes that write it.
use Rattle.std.proofs.Common.{arith, ◌≡◌, ◌≢◌, ℕ, suc, ◌+◌, ◌*◌, ◌<◌, ◌≤◌, List, [], ◌∷◌, refl, sym, ◌∙◌, subst, cond, Bool, true, false, not, ◌&&◌, length, take, drop, length-take, length-drop, Option, None, Some, eqb, eq-eqb}
use Rattle.std.specs.Prelude.{All, sum_by, option_map, codes}
use Rattle.std.specs.Str.{bytes_eq}
use Rattle.std.proofs.lemmas.List.Sums.{sum_by-cons}
use Rattle.std.proofs.lemmas.List.Elements.{All-nil, All-cons}
use Rattle.std.proofs.lemmas.Bool.{false≢true}
use Rattle.ux_grf.specs.declared.item.Item.{Item}
use Rattle.ux_grf.specs.declared.item.Item.TheVariants.{Literal, Quoted, Mask, Empty}
use Rattle.ux_grf.specs.declared.protection.Stop.{Stop}
use Rattle.ux_grf.specs.declared.protection.Stop.TheVariants.{Mark, Greater, CloseBrace, LiteralEnd}
use Rattle.ux_grf.specs.declared.protection.Layer.{Layer}
use Rattle.ux_grf.specs.declared.protection.Layer.TheVariants.{Language}
use Rattle.ux_grf.specs.declared.start.Sign.{Sign}
use Rattle.ux_grf.specs.declared.start.Sign.TheVariants.{Nothing, Plus, Slash, Blank, Sharp, Quotation, Less, OpenBrace, Other}
use Rattle.ux_grf.specs.Protection.{BACKSLASH, is_stop, first_free, ends_open, protects, resolved}
use Rattle.ux_grf.specs.Items.{Beginning, no_more, part, fault, sign_of, some_text, quoted_begin, mask_item, mask_begin, brace_begin, literal_begin, begin_at, begin_of, with_first, Reads, line_over, item_then}
use Rattle.ux_grf.specs.WellFormed.{HasText, may_be_beside}
use Rattle.ux_grf.specs.Size.{size_of_item}

-- a text has at least as many bytes as are left without backslashes
pub resolved-length : (layer : Layer) (protected : Bool) (text : List ℕ) →
    length (resolved layer protected text) ≤ length text
resolved-length layer protected [] = omega arith
resolved-length layer protected (b ∷ text) =
    by (eqb b BACKSLASH && not protected && protects layer text)
    (resolved-length layer true text) (resolved-length layer false text)
  where
    by : (t : Bool) → length (resolved layer true text) ≤ length text →
        length (resolved layer false text) ≤ length text →
        length (cond t (resolved layer true text) (b ∷ resolved layer false text))
        ≤ suc (length text)
    by true left kept = omega arith
    by false left kept = omega arith

-- a place, if there is one, is below a length
abbrev pub IsInside : Option ℕ → ℕ → Type 0
IsInside None n = Unit {0}
IsInside (Some k) n = k < n

pub first_free-inside : (stop : Stop) (protected : Bool) (text : List ℕ) →
    IsInside (first_free stop protected text) (length text)
first_free-inside stop protected [] = tt
first_free-inside stop protected (b ∷ text) =
    by (is_stop stop b && not protected)
    (first_free stop (eqb b BACKSLASH && not protected) text)
    (first_free-inside stop (eqb b BACKSLASH && not protected) text)
  where
    by : (t : Bool) (later : Option ℕ) → IsInside later (length text) →
        IsInside (cond t (Some 0) (option_map suc later)) (suc (length text))
    by true later in_rest = omega arith
    by false None in_rest = tt
    by false (Some k) in_rest = omega arith

-- the item, if there is one, has a text and may have others beside it
abbrev pub IsFilledPart : Option Item → Type 0
IsFilledPart None = Unit {0}
IsFilledPart (Some item) = HasText item × (may_be_beside item ≡ true)

abbrev pub size_of_part : Option Item → ℕ
size_of_part None = 0
size_of_part (Some item) = size_of_item item

pub record IsGoodPart (text : List ℕ) (item : Option Item) (rest : List ℕ) : Type 0 where
  pub filled : IsFilledPart item
  pub small : size_of_part item + 2 * length rest ≤ 2 * length text

abbrev IsGood : List ℕ → Beginning → Type 0
IsGood text no_more = Unit {0}
IsGood text (part item rest) = IsGoodPart text item rest
IsGood text (fault left) = Unit {0}

literal_filled : (text : List ℕ) → IsFilledPart (some_text Literal text)
literal_filled [] = tt
literal_filled (b ∷ text) = (omega arith, refl)

literal_small : (text : List ℕ) → size_of_part (some_text Literal text) ≤ 2 * length text
literal_small [] = omega arith
literal_small (b ∷ text) = omega arith

quoted_filled : (text : List ℕ) → IsFilledPart (some_text Quoted text)
quoted_filled [] = tt
quoted_filled (b ∷ text) = (omega arith, refl)

quoted_small : (text : List ℕ) → size_of_part (some_text Quoted text) ≤ 2 * length text
quoted_small [] = omega arith
quoted_small (b ∷ text) = omega arith

module _ (b : ℕ) (text : List ℕ) where
  good_quoted : (end : Option ℕ) → IsInside end (length text) →
      IsGood (b ∷ text) (quoted_begin (b ∷ text) end)
  good_quoted None lt = tt
  good_quoted (Some k) lt = record {
    filled = quoted_filled (resolved Language false (take k text));
    small = omega (
      arith,
      quoted_small (resolved Language false (take k text)),
      resolved-length Language false (take k text),
      length-take k text,
      length-drop (k + 1) text,
    );
  }

  mask_filled : (inside : List ℕ) → 0 < length inside →
      IsFilledPart (Some (mask_item inside)) × (size_of_item (mask_item inside) ≤ 1 + length inside)
  mask_filled inside some = by (bytes_eq inside (codes "E"))
    where
      by : (t : Bool) → IsFilledPart (Some (cond t Empty (Mask inside)))
          × (size_of_item (cond t Empty (Mask inside)) ≤ 1 + length inside)
      by true = ((tt, refl), omega arith)
      by false = ((some, refl), omega arith)

  good_mask : (end : Option ℕ) → IsInside end (length text) →
      IsGood (b ∷ text) (mask_begin (b ∷ text) end)
  good_mask None lt = tt
  good_mask (Some k) lt = by (eqb k 0) refl
    where
      by : (t : Bool) → eqb k 0 ≡ t →
          IsGood (b ∷ text) (cond t (fault (b ∷ text))
          (part (Some (mask_item (take k text))) (drop (k + 1) text)))
      by true is = tt
      by false is =
          let some : k ≢ 0 = λ e. false≢true (sym is ∙ eq-eqb k 0 e) in
          let m = mask_filled (take k text) (omega (arith, some, length-take k text)) in
          record {
            filled = m.0;
            small = omega (arith, m.1, length-take k text, length-drop (k + 1) text);
          }

  good_brace : (end : Option ℕ) → IsInside end (length text) →
      IsGood (b ∷ text) (brace_begin (b ∷ text) end)
  good_brace None lt = tt
  good_brace (Some k) lt = record {
    filled = (omega (arith, length-take (k + 2) (b ∷ text)), refl);
    small = omega (arith, length-take (k + 2) (b ∷ text), length-drop (k + 1) text);
  }

good_literal : (text : List ℕ) (end : Option ℕ) → IsGood text (literal_begin text end)
good_literal text None = by (ends_open false text)
  where
    by : (t : Bool) → IsGood text (cond t (fault (BACKSLASH ∷ []))
        (part (some_text Literal (resolved Language false text)) []))
    by true = tt
    by false = record {
      filled = literal_filled (resolved Language false text);
      small = omega (
        arith,
        literal_small (resolved Language false text),
        resolved-length Language false text,
      );
    }
good_literal text (Some k) = record {
  filled = literal_filled (resolved Language false (take k text));
  small = omega (
    arith,
    literal_small (resolved Language false (take k text)),
    resolved-length Language false (take k text),
    length-take k text,
    length-drop k text,
  );
}

good_at : (sign : Sign) (b : ℕ) (text : List ℕ) → IsGood (b ∷ text) (begin_at sign (b ∷ text))
good_at Nothing b text = tt
good_at Plus b text = tt
good_at Slash b text = tt
good_at Blank b text = record { filled = tt; small = omega arith }
good_at Sharp b text = record { filled = (tt, refl); small = omega arith }
good_at Quotation b text =
    good_quoted b text (first_free Mark false text) (first_free-inside Mark false text)
good_at Less b text =
    good_mask b text (first_free Greater false text) (first_free-inside Greater false text)
good_at OpenBrace b text =
    good_brace b text (first_free CloseBrace false text) (first_free-inside CloseBrace false text)
good_at Other b text = good_literal (b ∷ text) (first_free LiteralEnd false (b ∷ text))

good_begin : (text : List ℕ) → IsGood text (begin_of text)
good_begin [] = tt
good_begin (b ∷ text) = good_at (sign_of b) b text

-- the items of a line
pub record AreGoodItems (text : List ℕ) (items : List Item) (after : List ℕ) : Type 0 where
  pub texts : All HasText items
  pub beside : All (λ (item : Item). may_be_beside item ≡ true) items
  pub small : sum_by size_of_item items + 2 * length after ≤ 2 * length text

one_more : (text rest after : List ℕ) (item : Option Item) (items : List Item) →
    IsGoodPart text item rest → AreGoodItems rest items after →
    AreGoodItems text (with_first item items) after
one_more text rest after None items p g =
    record { texts = g.texts; beside = g.beside; small = omega (arith, p.small, g.small) }
one_more text rest after (Some item) items p g = record {
  texts = All-cons HasText item items p.filled.0 g.texts;
  beside = All-cons (λ (x : Item). may_be_beside x ≡ true) item items p.filled.1 g.beside;
  small = omega (arith, p.small, g.small, sum_by-cons size_of_item item items);
}

pub good_items : {text after : List ℕ} {items : List Item} → Reads text items after →
    AreGoodItems text items after
good_items {text} (line_over is) = record {
  texts = All-nil HasText;
  beside = All-nil (λ (x : Item). may_be_beside x ≡ true);
  small = omega arith;
}
good_items {text} {after} (item_then {rest = rest} {item = item} {items = items} is r) =
    one_more text rest after item items (subst (IsGood text) is (good_begin text)) (good_items r)
