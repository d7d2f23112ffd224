-- Strokes touch what stands at the cursor: what is far left of it stays, and is never missed.
use Rattle.std.proofs.Common.{◌≡◌, ℕ, List, [], ◌∷◌, ◌++◌, Option, Some, None, refl, sym, ◌∙◌, ap, option_map}
use Rattle.ux_inflect.proofs.PlacesLemmas.{all_lost}
use Rattle.ux_inflect.specs.Strokes.{Cursor, all_stroked, also, stroked}
use Rattle.ux_inflect.specs.declared.stroke.Stroke.{Stroke}
use Rattle.ux_inflect.specs.declared.stroke.Stroke.TheVariants.{Back, Forth, Copy, Delete, Write}

-- the form with more on its left end
abbrev pub longer : List ℕ → Cursor → Cursor
longer more cursor = record { left = cursor.left ++ more; right = cursor.right }

module _ (more : List ℕ) where
  -- one stroke does the same to it
  stroked_longer : (stroke : Stroke) (left right : List ℕ) (cursor : Cursor) →
      stroked stroke left right ≡ Some cursor →
      stroked stroke (left ++ more) right ≡ Some (longer more cursor)
  stroked_longer Back [] right cursor is = cc
  stroked_longer Back (c ∷ left) right cursor is = ap (option_map (longer more)) is
  stroked_longer Forth left [] cursor is = cc
  stroked_longer Forth left (c ∷ right) cursor is = ap (option_map (longer more)) is
  stroked_longer Copy left [] cursor is = cc
  stroked_longer Copy left (c ∷ right) cursor is = ap (option_map (longer more)) is
  stroked_longer Delete [] right cursor is = cc
  stroked_longer Delete (c ∷ left) right cursor is = ap (option_map (longer more)) is
  stroked_longer (Write c) left right cursor is = ap (option_map (longer more)) is

  -- and so do all
  pub all_stroked_longer : (strokes : List Stroke) (start cursor : Cursor) →
      all_stroked strokes (Some start) ≡ Some cursor →
      all_stroked strokes (Some (longer more start)) ≡ Some (longer more cursor)
  all_stroked_longer [] start cursor is = ap (option_map (longer more)) is
  all_stroked_longer (stroke ∷ strokes) start cursor is =
      by (stroked stroke start.left start.right) refl
      (λ next later. all_stroked_longer strokes next cursor later) is
    where
      by : (o : Option Cursor) → stroked stroke start.left start.right ≡ o →
          ((next : Cursor) → all_stroked strokes (Some next) ≡ Some cursor →
          all_stroked strokes (Some (longer more next)) ≡ Some (longer more cursor)) →
          all_stroked strokes o ≡ Some cursor →
          all_stroked strokes (also stroke (Some (longer more start))) ≡ Some (longer more cursor)
      by None lost rest is = let none : None ≡ Some cursor = sym (all_lost strokes) ∙ is in cc
      by (Some next) done rest is =
          ap (all_stroked strokes) (stroked_longer stroke start.left start.right next done)
          ∙ rest next is
