-- Each line of a content is filled, and lines and items are no more than twice its bytes and two.
use Rattle.std.proofs.Common.{arith, ◌≡◌, ℕ, suc, ◌+◌, ◌*◌, ◌-◌, ◌<◌, ◌≤◌, List, [], ◌∷◌, refl, subst, cond, Bool, true, false, not, ◌&&◌, ◌||◌, inl, inr, length, take, drop, get_or, length-take, length-drop, Option, None, Some, eqb, ltb}
use Rattle.std.specs.Prelude.{All, sum_by, codes}
use Rattle.std.specs.List.{list_all, list_any}
use Rattle.std.specs.Str.{bytes_eq}
use Rattle.std.proofs.lemmas.List.Sums.{sum_by-cons}
use Rattle.std.proofs.lemmas.List.Elements.{All-nil, All-cons}
use Rattle.std.proofs.lemmas.Bool.{eqb-true, ltb-true, false≢true}
use Rattle.std.specs.Option.{option_or}
use Rattle.ux_grf.specs.declared.graph.GraphKind.{GraphKind}
use Rattle.ux_grf.specs.declared.graph.GraphKind.TheVariants.{Plain, Morphological}
use Rattle.ux_grf.specs.declared.item.Item.{Item}
use Rattle.ux_grf.specs.declared.item.Item.TheVariants.{Empty, Call, Begin, End}
use Rattle.ux_grf.specs.declared.words.Gap.TheVariants.{Blanks}
use Rattle.ux_grf.specs.Words.{is_gap}
use Rattle.ux_grf.specs.Items.{PLUS, SLASH}
use Rattle.ux_grf.specs.Lines.{COLON, BAR, without_front, without_back, put_front, without_ending, without_bar, is_bound_name, is_name_byte, is_no_name_sign, call_of, bound_item, bound_of, dollar_item, is_marked, marked_item, line_end, own_text, after_line, or_empty, IsLine, of_items, of_mark, AreLines, last_line, line_with_output, line_then}
use Rattle.ux_grf.specs.WellFormed.{HasText, IsFilled}
use Rattle.ux_grf.specs.Size.{size_of_item, size_of_line}
use Rattle.ux_grf.proofs.NumbersLemmas.{and_left}
use Rattle.ux_grf.proofs.WordsLemmas.{or_true}
use Rattle.ux_grf.proofs.LinesLemmas.{without_front-length}
use Rattle.ux_grf.proofs.PartsLemmas.{AreGoodItems, good_items}

put_front-length : (b : ℕ) (text : List ℕ) → length (put_front b text) ≤ suc (length text)
put_front-length b [] = by (is_gap Blanks b)
  where
    by : (t : Bool) → length (cond t [] (b ∷ [])) ≤ 1
    by true = omega arith
    by false = omega arith
put_front-length b (c ∷ text) = omega arith

without_back-length : (text : List ℕ) → length (without_back text) ≤ length text
without_back-length [] = omega arith
without_back-length (b ∷ text) =
    omega (arith, put_front-length b (without_back text), without_back-length text)

without_ending-length : (ending text : List ℕ) →
    length (without_ending ending text) ≤ length text
without_ending-length ending text =
    by (bytes_eq (drop (length text - length ending) text) ending)
  where
    by : (t : Bool) → length (cond t (take (length text - length ending) text) text) ≤ length text
    by true = omega (arith, length-take (length text - length ending) text)
    by false = omega arith

-- the item, if there is one, has a text, and at most this size
abbrev HasGoodText : ℕ → Option Item → Type 0
HasGoodText n None = Unit {0}
HasGoodText n (Some item) = HasText item × (size_of_item item ≤ n)

either : (n : ℕ) (t : Bool) (x y : Option Item) → HasGoodText n x → HasGoodText n y →
    HasGoodText n (cond t x y)
either n true x y a b = a
either n false x y a b = b

good_call : (name : List ℕ) (n : ℕ) → 1 + length name ≤ n → HasGoodText n (call_of name)
good_call name n le = by (ltb 0 (length name) && not (list_any is_no_name_sign name)) refl
  where
    by : (t : Bool) → (ltb 0 (length name) && not (list_any is_no_name_sign name)) ≡ t →
        HasGoodText n (cond t (Some (Call name)) None)
    by true is = (
      ltb-true 0 (length name) (and_left (ltb 0 (length name)) (not
          (list_any is_no_name_sign name)) is),
      le,
    )
    by false is = tt

without_bar-length : (text : List ℕ) → length (without_bar text) ≤ length text
without_bar-length text = by (eqb (get_or text 0 0) BAR)
  where
    by : (t : Bool) → length (cond t (drop 1 text) text) ≤ length text
    by true = omega (arith, length-drop 1 text)
    by false = omega arith

good_bound : (name : List ℕ) (sign n : ℕ) → 1 + length name ≤ n →
    HasGoodText n (bound_of name sign)
good_bound name sign n le = by (is_bound_name name) refl
  where
    by : (t : Bool) → is_bound_name name ≡ t → HasGoodText n (cond (not t) None
        (cond (eqb sign 40) (Some (Begin name)) (cond (eqb sign 41) (Some (End name)) None)))
    by true is =
        let bare = without_bar name in
        let inside : 0 < length bare = ltb-true 0 (length bare) (and_left (ltb 0 (length bare))
        (list_all is_name_byte bare) is) in
        let some : 0 < length name = omega (arith, inside, without_bar-length name) in
        either n (eqb sign 40) (Some (Begin name)) (cond (eqb sign 41) (Some (End name)) None)
        (some, le) (either n (eqb sign 41) (Some (End name)) None (some, le) tt)
    by false is = tt

-- the part inside a word has a name
good_bound_item : (kind : GraphKind) (text : List ℕ) (n : ℕ) → 2 + length text ≤ n →
    HasGoodText n (bound_item kind text)
good_bound_item Plain text n le =
    good_bound (take (length text - 1) text) (get_or text (length text - 1) 0) n
    (omega (arith, length-take (length text - 1) text))
good_bound_item Morphological text n le = by (bytes_eq text (codes "<")) (bytes_eq text (codes ">"))
  where
    by : (first second : Bool) → HasGoodText n (option_or
        (cond first (Some (Begin (codes "<"))) (cond second (Some (End (codes "<"))) None))
        (bound_of (take (length text - 1) text) (get_or text (length text - 1) 0)))
    by true second = (omega arith, omega (arith, le))
    by false true = (omega arith, omega (arith, le))
    by false false =
        good_bound (take (length text - 1) text) (get_or text (length text - 1) 0) n
        (omega (arith, length-take (length text - 1) text))

good_dollar : (kind : GraphKind) (text : List ℕ) (n : ℕ) → 2 + length text ≤ n → HasGoodText n (dollar_item kind text)
good_dollar kind text n le =
    either n (bytes_eq text (codes "")) _ _ (omega arith, omega arith)
    (either n (bytes_eq text (codes "[")) _ _ (tt, omega arith)
    (either n (bytes_eq text (codes "![")) _ _ (tt, omega arith)
    (either n (bytes_eq text (codes "]")) _ _ (tt, omega arith)
    (either n (bytes_eq text (codes "*")) _ _ (tt, omega arith)
    (good_bound_item kind text n le)))))

good_mark : (kind : GraphKind) (own : List ℕ) → 0 < length own → HasGoodText (2 * length own) (marked_item kind own)
good_mark kind own some =
    either (2 * length own) (eqb (get_or own 0 0) COLON) _ _
    (good_call (without_ending (codes ".grf") (without_back (without_front (drop 1 own))))
    (2 * length own) (omega (
      arith,
      without_ending-length (codes ".grf") (without_back (without_front (drop 1 own))),
      without_back-length (without_front (drop 1 own)),
      without_front-length (drop 1 own),
      length-drop 1 own,
    )))
    (good_dollar kind (without_back (drop 1 own)) (2 * length own)
    (omega (arith, without_back-length (drop 1 own), length-drop 1 own)))

-- a line of one item has its sign
own_some : (front : List ℕ) → is_marked front ≡ true → 0 < length (own_text front)
own_some [] is = absurd (false≢true is)
own_some (b ∷ front) is = by (eqb b PLUS || eqb b SLASH) refl
  where
    by : (t : Bool) → (eqb b PLUS || eqb b SLASH) ≡ t →
        0 < length (take (cond t 0 (suc (line_end front))) (b ∷ front))
    by true ends = elim (or_true (eqb b PLUS) (eqb b SLASH) ends) [
      | inl plus ↦
          absurd (false≢true (subst (λ x. is_marked (x ∷ front) ≡ true) (eqb-true b PLUS plus) is))
      | inr slash ↦
          absurd (false≢true (subst (λ x. is_marked (x ∷ front) ≡ true) (eqb-true b SLASH slash) is))
    ]
    by false ends = omega arith

-- a line
pub record IsGoodLine (text : List ℕ) (line : List Item) (after : List ℕ) : Type 0 where
  pub filled : IsFilled line
  pub small : size_of_line line + 2 * length after ≤ 2 * length text + 2

good_or_empty : (text after : List ℕ) (items : List Item) → AreGoodItems text items after →
    IsGoodLine text (or_empty items) after
good_or_empty text after [] g = record {
  filled = record {
    some = omega arith;
    texts = All-cons HasText Empty [] tt (All-nil HasText);
    shared = inl refl;
  };
  small = omega (arith, g.small);
}
good_or_empty text after (item ∷ items) g = record {
  filled = record { some = omega arith; texts = g.texts; shared = inr g.beside };
  small = omega (arith, g.small);
}

good_alone : (text : List ℕ) (item : Item) → is_marked (without_front text) ≡ true →
    HasGoodText (2 * length (own_text (without_front text))) (Some item) →
    IsGoodLine text (item ∷ []) (after_line (without_front text))
good_alone text item mark good = record {
  filled = record {
    some = omega arith;
    texts = All-cons HasText item [] good.0 (All-nil HasText);
    shared = inl refl;
  };
  small = omega (
    arith,
    good.1,
    sum_by-cons size_of_item item [],
    length-take (line_end (without_front text)) (without_front text),
    length-drop (line_end (without_front text)) (without_front text),
    without_front-length text,
  );
}

pub good_line : {kind : GraphKind} {text after : List ℕ} {line : List Item} → IsLine kind text line after →
    IsGoodLine text line after
good_line (of_items {text = text} {after = after} {items = items} mark r) =
    good_or_empty text after items (good_items r)
good_line {kind} (of_mark {text = text} {item = item} mark is) =
    good_alone text item mark
    (subst (HasGoodText (2 * length (own_text (without_front text)))) is
    (good_mark kind (own_text (without_front text)) (own_some (without_front text) mark)))

-- the lines of a content
pub record AreGoodLines (text : List ℕ) (lines : List (List Item)) (output : List ℕ) : Type 0 where
  pub some : 0 < length lines
  pub filled : All IsFilled lines
  pub small : sum_by size_of_line lines + 2 * length output ≤ 2 * length text + 2

one_line : (text output after : List ℕ) (line : List Item) → IsGoodLine text line after →
    length output ≤ length after → AreGoodLines text (line ∷ []) output
one_line text output after line g le = record {
  some = omega arith;
  filled = All-cons IsFilled line [] g.filled (All-nil IsFilled);
  small = omega (arith, g.small, sum_by-cons size_of_line line []);
}

pub good_lines : {kind : GraphKind} {text output : List ℕ} {lines : List (List Item)} → AreLines kind text lines output →
    AreGoodLines text lines output
good_lines (last_line {text = text} {line = line} is) =
    one_line text [] [] line (good_line is) (omega arith)
good_lines (line_with_output {text = text} {output = output} {line = line} is) =
    one_line text output (SLASH ∷ output) line (good_line is) (omega arith)
good_lines (line_then {text = text} {rest = rest} {output = output} {line = line} {lines = lines}
    is ls) =
    let g = good_line is in
    let later = good_lines ls in
    record {
      some = omega arith;
      filled = All-cons IsFilled line lines g.filled later.filled;
      small = omega (arith, g.small, later.small, sum_by-cons size_of_line line lines);
    }
