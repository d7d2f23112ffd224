-- What a word does to a place, letter by letter, and what a step does.
use Rattle.std.proofs.Common.{◌≡◌, ℕ, List, [], ◌∷◌, ◌++◌, refl, sym, ◌∙◌, ap, append_assoc, append-nil, map, None}
use Rattle.std.specs.Prelude.{Option}
use Rattle.std.specs.List.{flat_map}
use Rattle.ux_base.proofs.JoinedLists.{joined_append}
use Rattle.ux_grf.specs.declared.item.Piece.{Piece}
use Rattle.ux_grf.specs.declared.item.Piece.TheVariants.{Chars, Value}
use Rattle.ux_net.specs.declared.label.Label.{Label}
use Rattle.ux_net.specs.declared.label.Label.TheVariants as label
use Rattle.ux_net.specs.declared.state.Edge.{Edge}
use Rattle.ux_net.specs.Words.{Letter, plain, piece, letter_of}
use Rattle.ux_inflect.specs.declared.codes.CodeState.{CodeState}
use Rattle.ux_inflect.specs.declared.config.Frame.{Frame}
use Rattle.ux_inflect.specs.declared.stroke.Detail.{Detail}
use Rattle.ux_inflect.specs.declared.stroke.Detail.TheVariants.{Whole, Outline}
use Rattle.ux_inflect.specs.declared.stroke.Stroke.{Stroke}
use Rattle.ux_inflect.specs.Places.{Place, strokes_in, text_of, put_of, output_in, after_byte, after_text, entered, along_edge}
use Rattle.ux_inflect.specs.Strokes.{Cursor, all_stroked, also}
use Rattle.ux_inflect.specs.Whole.{input_by, output_by, input_of, output_of}

-- what a letter does, and what it puts out where outputs are kept
abbrev pub strokes_out : Detail → Letter → List Stroke
strokes_out detail (plain x) = strokes_in detail x
strokes_out detail letter = []

abbrev pub kept_output : Detail → List Letter → List ℕ
kept_output Whole word = output_of word
kept_output Outline word = []

-- the place after a word, with these frames
abbrev pub after : Detail → List Frame → Place → List Letter → Place
after detail frames p word = record {
  frames = frames;
  cursor = all_stroked (flat_map (strokes_out detail) word) p.cursor;
  output = p.output ++ kept_output detail word;
  codes = after_text p.codes (output_of word);
}

pub all_stroked-append : (u v : List Stroke) (c : Option Cursor) →
    all_stroked (u ++ v) c ≡ all_stroked v (all_stroked u c)
all_stroked-append [] v c = refl
all_stroked-append (s ∷ u) v c = all_stroked-append u v (also s c)

-- no stroke finds a form that is lost
pub all_lost : (strokes : List Stroke) → all_stroked strokes None ≡ None
all_lost [] = refl
all_lost (s ∷ strokes) = all_lost strokes

pub after_text-append : (codes : CodeState) (u v : List ℕ) →
    after_text codes (u ++ v) ≡ after_text (after_text codes u) v
after_text-append codes [] v = refl
after_text-append codes (b ∷ u) v = after_text-append (after_byte codes b) u v

pub kept_output-append : (detail : Detail) (u v : List Letter) →
    kept_output detail (u ++ v) ≡ kept_output detail u ++ kept_output detail v
kept_output-append Whole u v = joined_append output_by u v
kept_output-append Outline u v = refl

-- places are the same where their parts are
abbrev pub place_with : List Frame → Option Cursor → List ℕ → CodeState → Place
place_with frames cursor output codes =
    record { frames = frames; cursor = cursor; output = output; codes = codes }

pub same_place : (frames : List Frame) {c d : Option Cursor} {u v : List ℕ} {k l : CodeState} →
    c ≡ d → u ≡ v → k ≡ l → place_with frames c u k ≡ place_with frames d v l
same_place frames a b e = λ i. place_with frames (a i) (b i) (e i)

-- one word after another
pub after_both : (detail : Detail) (between frames : List Frame) (p : Place) (u v : List Letter) →
    after detail frames (after detail between p u) v ≡ after detail frames p (u ++ v)
after_both detail between frames p u v = same_place frames
    (sym (ap (λ strokes. all_stroked strokes p.cursor) (joined_append (strokes_out detail) u v)
    ∙ all_stroked-append (flat_map (strokes_out detail) u) (flat_map (strokes_out detail) v) p.cursor))
    (append_assoc p.output (kept_output detail u) (kept_output detail v)
    ∙ sym (ap (λ o. p.output ++ o) (kept_output-append detail u v)))
    (sym (ap (λ o. after_text p.codes o) (joined_append output_by u v)
    ∙ after_text-append p.codes (output_of u) (output_of v)))

pub after_none : (detail : Detail) (frames : List Frame) (p : Place) →
    after detail frames p [] ≡ record p { frames = frames }
after_none Whole frames p = same_place frames refl (append-nil p.output) refl
after_none Outline frames p = same_place frames refl (append-nil p.output) refl

-- the letters of an edge, but for a call
abbrev pub label_word : Label → List Letter
label_word (label.Call h) = []
label_word x = letter_of x

abbrev pub word_by : Edge → List Letter
word_by edge = map piece edge.output ++ label_word edge.label

-- pieces read nothing and do nothing
pub pieces_read : (pieces : List Piece) → input_of (map piece pieces) ≡ []
pieces_read [] = refl
pieces_read (x ∷ pieces) = pieces_read pieces

pub pieces_do : (detail : Detail) (pieces : List Piece) →
    flat_map (strokes_out detail) (map piece pieces) ≡ []
pieces_do detail [] = refl
pieces_do detail (x ∷ pieces) = pieces_do detail pieces

put_same : (x : Piece) → output_by (piece x) ≡ put_of x
put_same (Chars text) = refl
put_same (Value name) = refl

pub pieces_put : (pieces : List Piece) → output_of (map piece pieces) ≡ flat_map put_of pieces
pieces_put [] = refl
pieces_put (x ∷ pieces) = ap (λ u. u ++ output_of (map piece pieces)) (put_same x)
    ∙ ap (λ u. put_of x ++ u) (pieces_put pieces)

-- a label reads and does what its letters do, and puts out nothing
pub label_reads : (x : Label) → input_of (label_word x) ≡ text_of x
label_reads label.Empty = refl
label_reads (label.CaseFolded text) = append-nil text
label_reads (label.CaseExact text) = append-nil text
label_reads (label.Mask mask) = refl
label_reads (label.Brace text) = refl
label_reads label.Space = refl
label_reads label.NoSpace = refl
label_reads (label.Begin name) = refl
label_reads (label.End name) = refl
label_reads label.Positive = refl
label_reads label.Negative = refl
label_reads label.ContextEnd = refl
label_reads label.Cut = refl
label_reads (label.Call h) = refl

pub label_does : (detail : Detail) (x : Label) →
    flat_map (strokes_out detail) (label_word x) ≡ strokes_in detail x
label_does detail label.Empty = refl
label_does detail (label.CaseFolded text) = append-nil (strokes_in detail (label.CaseFolded text))
label_does detail (label.CaseExact text) = append-nil (strokes_in detail (label.CaseExact text))
label_does detail (label.Mask mask) = refl
label_does detail (label.Brace text) = refl
label_does detail label.Space = refl
label_does detail label.NoSpace = refl
label_does detail (label.Begin name) = refl
label_does detail (label.End name) = refl
label_does detail label.Positive = refl
label_does detail label.Negative = refl
label_does detail label.ContextEnd = refl
label_does detail label.Cut = refl
label_does detail (label.Call h) = refl

pub label_puts : (x : Label) → output_of (label_word x) ≡ []
label_puts label.Empty = refl
label_puts (label.CaseFolded text) = refl
label_puts (label.CaseExact text) = refl
label_puts (label.Mask mask) = refl
label_puts (label.Brace text) = refl
label_puts label.Space = refl
label_puts label.NoSpace = refl
label_puts (label.Begin name) = refl
label_puts (label.End name) = refl
label_puts label.Positive = refl
label_puts label.Negative = refl
label_puts label.ContextEnd = refl
label_puts label.Cut = refl
label_puts (label.Call h) = refl

-- the same of an edge
pub edge_reads : (edge : Edge) → input_of (word_by edge) ≡ text_of edge.label
edge_reads edge = joined_append input_by (map piece edge.output) (label_word edge.label)
    ∙ (ap (λ u. u ++ input_of (label_word edge.label)) (pieces_read edge.output)
    ∙ label_reads edge.label)

pub edge_does : (detail : Detail) (edge : Edge) →
    flat_map (strokes_out detail) (word_by edge) ≡ strokes_in detail edge.label
edge_does detail edge = joined_append (strokes_out detail) (map piece edge.output) (label_word edge.label)
    ∙ (ap (λ u. u ++ flat_map (strokes_out detail) (label_word edge.label)) (pieces_do detail edge.output)
    ∙ label_does detail edge.label)

pub edge_puts : (edge : Edge) → output_of (word_by edge) ≡ flat_map put_of edge.output
edge_puts edge = joined_append output_by (map piece edge.output) (label_word edge.label)
    ∙ (ap (λ u. output_of (map piece edge.output) ++ u) (label_puts edge.label)
    ∙ (append-nil (output_of (map piece edge.output)) ∙ pieces_put edge.output))

kept_puts : (detail : Detail) (edge : Edge) →
    kept_output detail (word_by edge) ≡ output_in detail edge.output
kept_puts Whole edge = edge_puts edge
kept_puts Outline edge = refl

-- the place behind an edge is the one after its word
pub edge_after : (detail : Detail) (g : ℕ) (below : List Frame) (p : Place) (edge : Edge) →
    (along_edge detail g below p edge).1
    ≡ after detail (entered edge.label g edge.target below) p (word_by edge)
edge_after detail g below p edge = same_place (entered edge.label g edge.target below)
    (sym (ap (λ strokes. all_stroked strokes p.cursor) (edge_does detail edge)))
    (sym (ap (λ o. p.output ++ o) (kept_puts detail edge)))
    (sym (ap (λ o. after_text p.codes o) (edge_puts edge)))
