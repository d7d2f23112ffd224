-- The states of a graph can be numbered: a line has no more labels than its items have bytes.
use Rattle.std.proofs.Common.{arith, ◌≡◌, ◌≢◌, ℕ, zero, suc, ◌+◌, ◌<◌, ◌≤◌, List, [], ◌∷◌, refl, sym, ◌∙◌, ap, Bool, true, false, cond, length, length-append, Option, Some}
use Rattle.std.specs.Prelude.{All, slice_get, sum_by}
use Rattle.std.specs.List.{AllZip}
use Rattle.std.proofs.lemmas.List.{length-map}
use Rattle.std.proofs.lemmas.List.Elements.{All-tail}
use Rattle.std.proofs.lemmas.List.Sums.{sum_by-cons}
use Rattle.std.proofs.lemmas.Str.{length-encode, len_utf8_bounds}
use Rattle.ux_alphabet.specs.Letters.{Letters, is_separator}
use Rattle.ux_tokens.specs.declared.kind.Kind.{Kind}
use Rattle.ux_tokens.specs.declared.kind.Kind.TheVariants as kind
use Rattle.ux_tokens.specs.Tokens.{Token, IsTokenText, joined, with_single_spaces, begins_with_separator}
use Rattle.ux_grf.specs.declared.graph.Graph.{Graph}
use Rattle.ux_grf.specs.declared.graph.GrfBox.{GrfBox}
use Rattle.ux_grf.specs.declared.item.Item.{Item}
use Rattle.ux_grf.specs.declared.item.Piece.{Piece}
use Rattle.ux_grf.specs.declared.item.Item.TheVariants as item
use Rattle.ux_grf.specs.Size.{size_of_item, size_of_line, size_of_box, size_of}
use Rattle.ux_net.specs.declared.label.Label.{Label}
use Rattle.ux_net.specs.declared.label.Label.TheVariants.{Empty}
use Rattle.ux_boxes.specs.declared.place.Place.{Place}
use Rattle.ux_boxes.specs.Boxes.{fold_label, exact_label, IsCut, IsSplit, IsSplitLine, lines_at, box_lines_in}
use Rattle.ux_compile.specs.Construct.{called_behind, later_edges, place_size}
use Rattle.ux_boxes.specs.Places.{label_lines, lines_in, ArePlaces}
use Rattle.ux_compile.proofs.EdgeLabelsLemmas.{one_more}

-- spaces made single don't lengthen a text
kept : (b : ℕ) (s t : Bool) (rest : List ℕ) →
    length (cond s (cond t rest (32 ∷ rest)) (b ∷ rest)) ≤ suc (length rest)
kept b true true rest = omega arith
kept b true false rest = omega arith
kept b false t rest = omega arith

-- spaces made single leave no more
spaced : (text : List ℕ) → length (with_single_spaces text) ≤ length text
spaced [] = omega arith
spaced (b ∷ rest) =
    let k = kept b (is_separator b) (begins_with_separator rest) (with_single_spaces rest) in
    let r = spaced rest in
    omega (arith, k, r)

-- no token is empty
some_text : (text : List ℕ) → text ≢ [] → 0 < length text
some_text [] h = absurd (h refl)
some_text (b ∷ text) h = omega arith

-- a token has a text
token_some : (alphabet : Letters) (k : Kind) (text : List ℕ) → IsTokenText alphabet k text →
    0 < length text
token_some alphabet kind.Word text t = some_text text t.some
token_some alphabet kind.Space text t = rw t (omega arith)
token_some alphabet kind.Other text t =
    let len = ap (λ (l : List ℕ). length l) t.1 ∙ length-encode t.0 in
    let some = (len_utf8_bounds t.0).0 in
    omega (arith, len, some)
token_some alphabet kind.Sentence text t = rw t (omega arith)
token_some alphabet kind.Stop text t = rw t (omega arith)
token_some alphabet kind.Tag text (entry, (body, is, tag)) = rw is (omega arith)

-- a text has no more tokens than bytes
tokens_few : (alphabet : Letters) (tokens : List Token) →
    All (λ (token : Token). IsTokenText alphabet token.kind token.text) tokens →
    length tokens ≤ length (joined tokens)
tokens_few alphabet [] each = omega arith
tokens_few alphabet (token ∷ tokens) each =
    let some = token_some alphabet token.kind token.text (each 0 token (omega arith)) in
    let r = tokens_few alphabet tokens
    (All-tail (λ (t : Token). IsTokenText alphabet t.kind t.text) token tokens each) in
    let len = length-append token.text (joined tokens) in
    omega (arith, some, r, len)

-- a text is cut into no more labels than it has signs
cut_few : (alphabet : Letters) (label_of : Kind → List ℕ → Label) (text : List ℕ)
    (labels : List Label) → IsCut alphabet label_of text labels → length labels ≤ length text
cut_few alphabet label_of text labels (tokens, are, is) =
    let few = tokens_few alphabet tokens are.cut.each in
    let whole = ap (λ (l : List ℕ). length l) are.cut.whole in
    let short = spaced text in
    let same = ap (λ (l : List Label). length l) is
    ∙ length-map tokens (λ (token : Token). label_of token.kind token.text) in
    omega (arith, few, whole, short, same)

module _ (alphabet : Letters) (names : List (List ℕ)) where
  -- an item has no more labels than its size
  item_few : (x : Item) (labels : List Label) → IsSplit alphabet names x labels →
      length labels ≤ size_of_item x
  item_few (item.Literal text) labels s =
      let few = cut_few alphabet fold_label text labels s in omega (arith, few)
  item_few (item.Quoted text) labels s =
      let few = cut_few alphabet exact_label text labels s in omega (arith, few)
  item_few item.NoSpace labels s = rw s (omega arith)
  item_few item.Empty labels s = rw s (omega arith)
  item_few (item.Call name) labels s = rw s.2 (omega arith)
  item_few (item.Mask text) labels s = rw s.2 (omega arith)
  item_few (item.Brace text) labels s = rw s (omega arith)
  item_few (item.Begin name) labels s = rw s (omega arith)
  item_few (item.End name) labels s = rw s (omega arith)
  item_few item.Positive labels s = rw s (omega arith)
  item_few item.Negative labels s = rw s (omega arith)
  item_few item.ContextEnd labels s = rw s (omega arith)
  item_few item.Cut labels s = rw s (omega arith)

  -- a line has no more labels than it is large
  line_few : (line : List Item) (labels : List Label) → IsSplitLine alphabet names line labels →
      length labels ≤ sum_by size_of_item line
  line_few [] labels s = rw s (omega arith)
  line_few (x ∷ line) labels s =
      let one = item_few x s.0 s.2 in
      let r = line_few line s.1 s.3 in
      let len = ap (λ (l : List Label). length l) s.4 ∙ length-append s.0 s.1 in
      let sum = sum_by-cons size_of_item x line in
      omega (arith, one, r, len, sum)

  -- and no more edges but the first
  lines_few : (output : List Piece) (lines : List (List Item)) (split : List (List Label)) →
      AllZip (IsSplitLine alphabet names) lines split →
      sum_by (later_edges output) split ≤ sum_by size_of_line lines
  lines_few output [] [] z = omega arith
  lines_few output [] (labels ∷ split) z = absurd z
  lines_few output (line ∷ lines) [] z = absurd z
  lines_few output (line ∷ lines) (labels ∷ split) z =
      let one = line_few line labels z.0 in
      let most = one_more (called_behind output labels) labels in
      let r = lines_few output lines split z.1 in
      let a = sum_by-cons (later_edges output) labels split in
      let b = sum_by-cons size_of_line line lines in
      omega (arith, one, most, r, a, b)

-- a list of places is no larger than its boxes, if each place is no larger than its box
sums_few : (places : List Place) (boxes : List GrfBox) → length places ≡ length boxes →
    ((n : ℕ) (p : Place) (b : GrfBox) → slice_get places n ≡ Some p → slice_get boxes n ≡ Some b →
    place_size p ≤ 1 + size_of_box b) →
    sum_by place_size places ≤ length boxes + sum_by size_of_box boxes
sums_few [] [] len each = omega arith
sums_few [] (b ∷ boxes) len each = absurd (omega (arith, len))
sums_few (p ∷ places) [] len each = absurd (omega (arith, len))
sums_few (p ∷ places) (b ∷ boxes) len each =
    let one = each 0 p b refl refl in
    let r = sums_few places boxes (omega (arith, len)) (λ n q c at_q at_c. each (suc n) q c at_q at_c) in
    let s = sum_by-cons place_size p places in
    let t = sum_by-cons size_of_box b boxes in
    omega (arith, one, r, s, t)

module _ (alphabet : Letters) (names : List (List ℕ)) (graph : Graph) (places : List Place)
    (are : ArePlaces alphabet names graph.boxes places)
    (start : label_lines places 0 ≡ (Empty ∷ []) ∷ []) where
  abbrev later : List Piece → List (List Label) → ℕ
  later output lines = sum_by (later_edges output) lines

  start_later : (output : List Piece) → later output ((Empty ∷ []) ∷ []) ≡ 0
  start_later [] = refl
  start_later (first ∷ rest) = refl

  -- a place is no larger than its box
  place_few : (n : ℕ) (p : Place) (b : GrfBox) → slice_get places n ≡ Some p →
      slice_get graph.boxes n ≡ Some b → place_size p ≤ 1 + size_of_box b
  place_few zero p b at_p at_b =
      let one : later p.output p.lines ≡ 0 =
      ap (λ (o : Option Place). later p.output (lines_in o)) (sym at_p)
      ∙ (ap (later p.output) start ∙ start_later p.output) in
      omega (arith, one)
  place_few (suc zero) p b at_p at_b =
      let few = lines_few alphabet names p.output [] (label_lines places 1) (are.lines 1) in
      let same = ap (λ (o : Option Place). later p.output (lines_in o)) at_p in
      omega (arith, few, same)
  place_few (suc (suc n)) p b at_p at_b =
      let few = lines_few alphabet names p.output (lines_at graph.boxes (suc (suc n)))
      (label_lines places (suc (suc n))) (are.lines (suc (suc n))) in
      let same = ap (λ (o : Option Place). later p.output (lines_in o)) at_p in
      let size = ap (λ (o : Option GrfBox). sum_by size_of_line (box_lines_in o)) at_b in
      omega (arith, few, same, size)

  -- the places of a graph weigh no more than its size
  pub places_few : sum_by place_size places ≤ size_of graph
  places_few = sums_few places graph.boxes are.len place_few
