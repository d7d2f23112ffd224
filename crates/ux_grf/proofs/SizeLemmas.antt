-- A graph that is read is at most four times as large as its file.
use Rattle.std.proofs.Common.{arith, ◌≡◌, ℕ, zero, suc, ◌+◌, ◌*◌, ◌-◌, ◌<◌, ◌≤◌, List, [], ◌∷◌, ◌++◌, refl, ap, subst, cond, Bool, true, false, length, take, drop, get_or, length-take, length-drop, length-append, Option, None, Some, eqb}
use Rattle.std.specs.Prelude.{sum_by, option_map, codes}
use Rattle.std.proofs.lemmas.List.Sums.{sum_by-cons}
use Rattle.ux_base.specs.Lines.{LINE_FEED, ends_in_return, without_return, last_line, lines_behind, lines_of}
use Rattle.ux_grf.specs.declared.graph.GraphKind.{GraphKind}
use Rattle.ux_grf.specs.declared.graph.Graph.{Graph}
use Rattle.ux_grf.specs.declared.graph.GrfBox.{GrfBox}
use Rattle.ux_grf.specs.declared.item.Item.{Item}
use Rattle.ux_grf.specs.declared.protection.Layer.TheVariants.{File}
use Rattle.ux_grf.specs.declared.protection.Stop.TheVariants.{Mark}
use Rattle.ux_grf.specs.declared.words.Gap.TheVariants.{Spaces}
use Rattle.ux_grf.specs.Words.{SPACE, words_of}
use Rattle.ux_grf.specs.Header.{is_mark, after_mark, after_header}
use Rattle.ux_grf.specs.Protection.{QUOTE, first_free}
use Rattle.ux_grf.specs.BoxLine.{BoxText, START_MARK, targets_in, box_in, cut_at, content_and_fields, without_mark, quoted, box_of}
use Rattle.ux_grf.specs.Boxes.{box_at, text_at, IsTextOf}
use Rattle.ux_grf.specs.Content.{is_read, IsBoxOf}
use Rattle.ux_grf.specs.File.{IsGraphOf}
use Rattle.ux_grf.specs.WellFormed.{box_of_graph}
use Rattle.ux_grf.specs.Size.{size_of_line, size_of_box, size_of}
use Rattle.ux_grf.proofs.PartsLemmas.{resolved-length, IsInside, first_free-inside}
use Rattle.ux_grf.proofs.FilledLemmas.{good_lines}

abbrev total : List (List ℕ) → ℕ
total lines = sum_by (λ (line : List ℕ). length line) lines

total-cons : (line : List ℕ) (lines : List (List ℕ)) →
    total (line ∷ lines) ≡ length line + total lines
total-cons line lines = sum_by-cons (λ (l : List ℕ). length l) line lines

-- the lines of a text are no longer than the text
without_return-length : (line : List ℕ) → length (without_return line) ≤ length line
without_return-length line = by (ends_in_return line)
  where
    by : (t : Bool) → length (cond t (take (length line - 1) line) line) ≤ length line
    by true = omega (arith, length-take (length line - 1) line)
    by false = omega arith

last_line-total : (line : List ℕ) → total (last_line line) ≤ length line
last_line-total [] = omega arith
last_line-total (b ∷ line) =
    omega (arith, total-cons (without_return (b ∷ line)) [], without_return-length (b ∷ line))

lines_behind-total : (text front : List ℕ) →
    total (lines_behind text front) ≤ length front + length text
lines_behind-total [] front = omega (arith, last_line-total front)
lines_behind-total (b ∷ text) front =
    by (eqb b LINE_FEED) (lines_behind-total text []) (lines_behind-total text (front ++ b ∷ []))
  where
    by : (t : Bool) → total (lines_behind text []) ≤ 0 + length text →
        total (lines_behind text (front ++ b ∷ [])) ≤ length (front ++ b ∷ []) + length text →
        total (cond t (without_return front ∷ lines_behind text [])
        (lines_behind text (front ++ b ∷ []))) ≤ length front + suc (length text)
    by true cut more = omega (
      arith,
      total-cons (without_return front) (lines_behind text []),
      without_return-length front,
    )
    by false cut more = omega (arith, length-append front (b ∷ []))

-- lines that are left are no longer than all
abbrev IsTotal : ℕ → Option (List (List ℕ)) → Type 0
IsTotal n None = Unit {0}
IsTotal n (Some lines) = total lines ≤ n

after_mark-total : (lines : List (List ℕ)) → IsTotal (total lines) (after_mark lines)
after_mark-total [] = tt
after_mark-total (line ∷ lines) =
    by (is_mark (codes "#") line) (after_mark lines) (after_mark-total lines)
  where
    by : (t : Bool) (later : Option (List (List ℕ))) → IsTotal (total lines) later →
        IsTotal (total (line ∷ lines)) (cond t (Some lines) later)
    by true later le = omega (arith, total-cons line lines)
    by false None le = tt
    by false (Some ls) le = omega (arith, total-cons line lines)

after_header-total : (lines : List (List ℕ)) → IsTotal (total lines) (after_header lines)
after_header-total [] = tt
after_header-total (line ∷ lines) =
    by (is_mark (codes "#Unigraph") line) (after_mark lines) (after_mark-total lines)
  where
    by : (t : Bool) (later : Option (List (List ℕ))) → IsTotal (total lines) later →
        IsTotal (total (line ∷ lines)) (cond t later None)
    by true None le = tt
    by true (Some ls) le = omega (arith, total-cons line lines)
    by false later le = tt

-- a box line is longer than its content
abbrev IsWithin : ℕ → Option BoxText → Type 0
IsWithin n None = Unit {0}
IsWithin n (Some text) = length text.content < n

box_in-within : (content fields : List ℕ) (n : ℕ) → length content < n →
    IsWithin n (box_in content fields)
box_in-within content fields n lt =
    by (eqb (get_or fields 0 0) SPACE) (targets_in (words_of Spaces fields))
  where
    by : (t : Bool) (targets : Option (List ℕ)) →
        IsWithin n (cond t (option_map (λ ts. record { content = content; targets = ts }) targets)
        None)
    by true None = tt
    by true (Some targets) = lt
    by false targets = tt

quoted-within : (text : List ℕ) → IsWithin (length text) (quoted text)
quoted-within [] = tt
quoted-within (b ∷ text) = by (eqb b QUOTE)
  where
    cut : (end : Option ℕ) → IsInside end (length text) →
        IsWithin (suc (length text)) (cut_at text end)
    cut None lt = tt
    cut (Some k) lt =
        box_in-within (take k text) (drop (k + 1) text) (suc (length text))
        (omega (arith, length-take k text))

    by : (t : Bool) →
        IsWithin (suc (length text)) (cond t (content_and_fields text) None)
    by true = cut (first_free Mark false text) (first_free-inside Mark false text)
    by false = tt

within-more : (n m : ℕ) (said : Option BoxText) → n ≤ m → IsWithin n said → IsWithin m said
within-more n m None le h = tt
within-more n m (Some text) le h = omega (arith, le, h)

without_mark-length : (line : List ℕ) → length (without_mark line) ≤ length line
without_mark-length line = by (eqb (get_or line 0 0) START_MARK)
  where
    by : (t : Bool) → length (cond t (drop 1 line) line) ≤ length line
    by true = omega (arith, length-drop 1 line)
    by false = omega arith

box_of-within : (line : List ℕ) → IsWithin (length line) (box_of line)
box_of-within line =
    within-more (length (without_mark line)) (length line) (quoted (without_mark line))
    (without_mark-length line) (quoted-within (without_mark line))

-- a box and its lines are no more than four times its line
box_small : {kind : GraphKind} (said : BoxText) (node n : ℕ) (b : GrfBox) → length said.content < n →
    IsBoxOf kind said node b → 1 + size_of_box b ≤ 4 * n
box_small said node n b lt is = by (is_read node b.reached) refl
  where
    by : (t : Bool) → is_read node b.reached ≡ t → 1 + size_of_box b ≤ 4 * n
    by true e = omega (
      arith,
      (good_lines (is.read e).lines).small,
      resolved-length File false said.content,
    )
    by false e =
        let none : size_of_box b ≡ 0 = ap (λ (ls : List (List Item)). sum_by size_of_line ls)
        (is.bare e).0 in
        omega arith

good_small : {kind : GraphKind} (count node : ℕ) (line : List ℕ) (said : Option BoxText) (text : BoxText)
    (b : GrfBox) → IsWithin (length line) said → IsTextOf said text → IsBoxOf kind text node b →
    1 + size_of_box b ≤ 4 * length line
good_small count node line None text b lt tells is = absurd tells
good_small count node line (Some said) text b lt tells is =
    box_small text node (length line) b (omega (arith, lt, ap (λ (l : List ℕ). length l) tells.0)) is

-- the line of a box, which is empty where it is missing
line_small : {kind : GraphKind} (count node place : ℕ) (lines : List (List ℕ)) (text : BoxText) (b : GrfBox) →
    IsTextOf (box_at lines place) text → IsBoxOf kind text node b →
    1 + size_of_box b ≤ 4 * length (get_or lines place [])
line_small count node place [] text b tells is = absurd tells
line_small count node zero (line ∷ lines) text b tells is =
    good_small count node line (box_of line) text b (box_of-within line) tells is
line_small count node (suc place) (line ∷ lines) text b tells is =
    line_small count node place lines text b tells is

-- boxes that are each no more than four times their line
boxes_small : (boxes : List GrfBox) (lines : List (List ℕ)) →
    ((node : ℕ) → node < length boxes →
    1 + size_of_box (get_or boxes node (record { reached = false; lines = []; output = []; targets = [] })) ≤ 4 * length (get_or lines node [])) →
    length boxes + sum_by size_of_box boxes ≤ 4 * total lines
boxes_small [] lines each = omega arith
boxes_small (b ∷ boxes) [] each = absurd (omega (arith, each 0 (omega arith)))
boxes_small (b ∷ boxes) (line ∷ lines) each = omega (
  arith,
  each 0 (omega arith),
  boxes_small boxes lines (λ node lt. each (suc node) (omega arith)),
  total-cons line lines,
  sum_by-cons size_of_box b boxes,
)

pub graph_small : {kind : GraphKind} (text : List ℕ) (graph : Graph) → IsGraphOf kind text graph →
    size_of graph ≤ 4 * length text
graph_small text graph (texts, has, d) = omega (
  arith,
  boxes_small graph.boxes has.lines each,
  subst (IsTotal (total (lines_of text))) has.has.header (after_header-total (lines_of text)),
  total-cons has.has.first has.lines,
  lines_behind-total text [],
)
  where
    each : (node : ℕ) → node < length graph.boxes →
        1 + size_of_box (box_of_graph graph node) ≤ 4 * length (get_or has.lines node [])
    each node lt =
        let inside : node < length texts = omega (arith, lt, d.len) in
        line_small has.count node node has.lines (text_at texts node) (box_of_graph graph node)
        (has.told.each node (omega (arith, inside, has.told.len))) (d.boxes node inside)
