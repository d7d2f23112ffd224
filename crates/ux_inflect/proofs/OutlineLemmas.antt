-- An outline of a form, which keeps no character, can do exactly what the form can.
use Rattle.std.proofs.Common.{◌≡◌, ℕ, List, [], ◌∷◌, ◌++◌, refl, sym, ◌∙◌, ap, map, Some, None}
use Rattle.std.specs.Prelude.{Option, option_map, chars}
use Rattle.std.specs.List.{flat_map}
use Rattle.std.proofs.lemmas.List.{map-append}
use Rattle.ux_net.specs.declared.label.Label.TheVariants as label
use Rattle.ux_net.specs.Words.{Letter, plain, piece, context}
use Rattle.ux_inflect.specs.declared.stroke.Detail.{Detail}
use Rattle.ux_inflect.specs.declared.stroke.Stroke.{Stroke}
use Rattle.ux_inflect.specs.declared.stroke.Stroke.TheVariants.{Back, Forth, Copy, Delete, Write}
use Rattle.ux_inflect.specs.declared.stroke.Taking.TheVariants.{Literal, Quoted}
use Rattle.ux_inflect.specs.Places.{kept_by, outlined, outlined_stroke, stroke_by}
use Rattle.ux_inflect.specs.Strokes.{Cursor, stroked, also, all_stroked, stroke_of}
use Rattle.ux_inflect.specs.Whole.{strokes_by, strokes_of}
use Rattle.ux_inflect.proofs.PlacesLemmas.{strokes_out}

module _ (detail : Detail) where
  abbrev outline : List ℕ → List ℕ
  outline cs = map (kept_by detail) cs

  -- one stroke
  pub stroked_outline : (s : Stroke) (left right : List ℕ) →
      stroked (outlined_stroke detail s) (outline left) (outline right)
      ≡ option_map (outlined detail) (stroked s left right)
  stroked_outline Back [] right = refl
  stroked_outline Back (c ∷ left) right = refl
  stroked_outline Forth left [] = refl
  stroked_outline Forth left (c ∷ right) = refl
  stroked_outline Copy left [] = refl
  stroked_outline Copy left (c ∷ right) = refl
  stroked_outline Delete [] right = refl
  stroked_outline Delete (c ∷ left) right = refl
  stroked_outline (Write c) left [] = refl
  stroked_outline (Write c) left (d ∷ right) = refl

  also_outline : (s : Stroke) (o : Option Cursor) →
      also (outlined_stroke detail s) (option_map (outlined detail) o)
      ≡ option_map (outlined detail) (also s o)
  also_outline s None = refl
  also_outline s (Some cursor) = stroked_outline s cursor.left cursor.right

  -- all strokes of a word
  all_outline : (strokes : List Stroke) (o : Option Cursor) →
      all_stroked (map (outlined_stroke detail) strokes) (option_map (outlined detail) o)
      ≡ option_map (outlined detail) (all_stroked strokes o)
  all_outline [] o = refl
  all_outline (s ∷ strokes) o =
      ap (λ (c : Option Cursor). all_stroked (map (outlined_stroke detail) strokes) c)
      (also_outline s o) ∙ all_outline strokes (also s o)

  literal_strokes : (cs : List ℕ) →
      map (stroke_by Literal detail) cs ≡ map (outlined_stroke detail) (map stroke_of cs)
  literal_strokes [] = refl
  literal_strokes (c ∷ cs) =
      ap (λ (l : List Stroke). outlined_stroke detail (stroke_of c) ∷ l) (literal_strokes cs)

  quoted_strokes : (cs : List ℕ) →
      map (stroke_by Quoted detail) cs ≡ map (outlined_stroke detail) (map Write cs)
  quoted_strokes [] = refl
  quoted_strokes (c ∷ cs) = ap (λ (l : List Stroke). Write (kept_by detail c) ∷ l) (quoted_strokes cs)

  letter_strokes : (letter : Letter) →
      strokes_out detail letter ≡ map (outlined_stroke detail) (strokes_by letter)
  letter_strokes (plain label.Empty) = refl
  letter_strokes (plain (label.CaseFolded text)) = literal_strokes (chars text)
  letter_strokes (plain (label.CaseExact text)) = quoted_strokes (chars text)
  letter_strokes (plain (label.Mask mask)) = refl
  letter_strokes (plain (label.Brace text)) = refl
  letter_strokes (plain label.Space) = refl
  letter_strokes (plain label.NoSpace) = refl
  letter_strokes (plain (label.Begin name)) = refl
  letter_strokes (plain (label.End name)) = refl
  letter_strokes (plain label.Positive) = refl
  letter_strokes (plain label.Negative) = refl
  letter_strokes (plain label.ContextEnd) = refl
  letter_strokes (plain label.Cut) = refl
  letter_strokes (plain (label.Call h)) = refl
  letter_strokes (piece x) = refl
  letter_strokes (context sign g opening closing) = refl

  word_strokes : (word : List Letter) →
      flat_map (strokes_out detail) word ≡ map (outlined_stroke detail) (strokes_of word)
  word_strokes [] = refl
  word_strokes (letter ∷ word) =
      ap (λ (l : List Stroke). l ++ flat_map (strokes_out detail) word) (letter_strokes letter)
      ∙ (ap (λ (l : List Stroke). map (outlined_stroke detail) (strokes_by letter) ++ l)
      (word_strokes word)
      ∙ sym (map-append (outlined_stroke detail) (strokes_by letter) (strokes_of word)))

  -- what a search keeps of the form at the end of a word
  pub word_outline : (word : List Letter) (cursor : Cursor) →
      all_stroked (flat_map (strokes_out detail) word) (Some (outlined detail cursor))
      ≡ option_map (outlined detail) (all_stroked (strokes_of word) (Some cursor))
  word_outline word cursor =
      ap (λ (l : List Stroke). all_stroked l (Some (outlined detail cursor))) (word_strokes word)
      ∙ all_outline (strokes_of word) (Some cursor)
