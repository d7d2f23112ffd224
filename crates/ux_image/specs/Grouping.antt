-- A content whose forms are numbered one after another. Inner: the crate's own functions alone
-- speak of it.
use Rattle.std.specs.Prelude.{◌≡◌, ◌≢◌, ℕ, List, [], ◌∷◌, ◌++◌, ◌⊎◌, Some, slice_get}
use Rattle.std.specs.Cmp.Lexicographic.{slice_cmp}
use Rattle.std.specs.Ordering.{nat_cmp}
use Rattle.std.specs.declared.cmp.Ordering.TheVariants.{Less}
use Rattle.std.specs.Str.{chars}
use Rattle.ux_base.specs.Distinct.{GrowsBy}
use Rattle.ux_dawg.specs.Forms.{last_letters}
use Rattle.ux_dawg.specs.declared.state.Form.{Form}
use Rattle.ux_dela.specs.declared.entry.Entry.{Entry}
use Rattle.ux_image.specs.Contents.{Precedes, AreInOrder, AreNumbered, code_list, forms_with_codes}
use Rattle.ux_image.specs.declared.code.CodeList.{CodeList}

-- an entry of the form may stand behind one of the last form
abbrev pub MayFollow : (last form : List ℕ) → Type 0
MayFollow last form = (form ≢ []) × ((form ≡ last) ⊎ Precedes last form)

-- the letters come after those of the last form
abbrev pub ComesNext : List Form → (letters : List ℕ) → Type 0
ComesNext forms letters = slice_cmp nat_cmp (last_letters [] forms) letters ≡ Less

-- the list has this number among the lists, and the others keep theirs
pub record IsKept (old new : List CodeList) (list : CodeList) (number : ℕ) : Type 0 where
  pub grows : GrowsBy (list ∷ []) old new
  pub same : (k : ℕ) (other : CodeList) → slice_get old k ≡ Some other →
      slice_get new k ≡ Some other
  pub stored : slice_get new number ≡ Some list

-- the form of these entries was added
pub record IsPut (form : List ℕ) (run : List Entry) (lists lists' : List CodeList)
    (forms forms' : List Form) : Type 0 where
  pub number : ℕ
  pub kept : IsKept lists lists' (code_list run) number
  pub pushed : forms' ≡ forms ++ record { letters = chars form; code = number } ∷ []

-- the forms so far are numbered, the last one has the letters of `last`, and those of the rest, which
-- come after it, are left
pub record IsGrouped (content rest : List Entry) (lists : List CodeList) (forms : List Form) :
    Type 0 where
  pub last : List ℕ
  pub so_far : last_letters [] forms ≡ chars last
  pub ordered : AreInOrder last rest
  pub fresh : (entry : Entry) → slice_get rest 0 ≡ Some entry → entry.form ≢ last
  pub done : List (List ℕ × CodeList)
  pub whole : done ++ forms_with_codes rest ≡ forms_with_codes content
  pub numbered : AreNumbered done lists forms
