-- What the characters of a graph do to a form. The manual, on inflection. Public: the crate's public
-- contracts speak of it.
use Rattle.std.specs.Prelude.{ℕ, ◌==◌, List, [], ◌∷◌, Option, Some, None, if◌then◌else◌, chars, drop, reverse}
use Rattle.ux_inflect.specs.declared.stroke.Stroke.{Stroke}
use Rattle.ux_inflect.specs.declared.stroke.Stroke.TheVariants.{Back, Forth, Copy, Delete, Write}

-- a form with a cursor: the characters on its left, the nearest first, and those on its right
pub record Cursor : Type 0 where
  pub left : List ℕ
  pub right : List ℕ

-- what a character of a literal does: `L`, `R`, `C` and `D` are operators, any other is written
abbrev pub stroke_of : ℕ → Stroke
stroke_of c =
    if c == 76 then Back else
    if c == 82 then Forth else
    if c == 67 then Copy else
    if c == 68 then Delete else Write c

-- the cursor goes one left, one right; what is on its right is copied to its left; what is on its
-- left goes; a character is written over what is on its right, or at the end
abbrev pub stroked : Stroke → (left right : List ℕ) → Option Cursor
stroked Back [] right = None
stroked Back (c ∷ left) right = Some (record { left = left; right = c ∷ right })
stroked Forth left [] = None
stroked Forth left (c ∷ right) = Some (record { left = c ∷ left; right = right })
stroked Copy left [] = None
stroked Copy left (c ∷ right) = Some (record { left = c ∷ left; right = c ∷ right })
stroked Delete [] right = None
stroked Delete (c ∷ left) right = Some (record { left = left; right = right })
stroked (Write c) left right = Some (record { left = c ∷ left; right = drop 1 right })

-- the same, where there is a form yet
abbrev pub also : Stroke → Option Cursor → Option Cursor
also stroke None = None
also stroke (Some cursor) = stroked stroke cursor.left cursor.right

-- one stroke after another; nothing, where one can't be done
abbrev pub all_stroked : List Stroke → Option Cursor → Option Cursor
all_stroked [] cursor = cursor
all_stroked (stroke ∷ strokes) cursor = all_stroked strokes (also stroke cursor)

-- the lemma, with the cursor at its right end
abbrev pub at_end : List ℕ → Cursor
at_end lemma = record { left = reverse (chars lemma); right = [] }
