-- The content of a dictionary: its forms, each with the codes of its entries. The manual, on
-- compressing dictionaries. Public: the crate's public contracts speak of it.
use Rattle.std.specs.Prelude.{◌≡◌, ◌≢◌, ℕ, List, [], ◌∷◌, ◌⊎◌, Some, All, IsUtf8, map, filter, slice_get}
use Rattle.std.specs.Cmp.Lexicographic.{slice_cmp}
use Rattle.std.specs.Ordering.{nat_cmp}
use Rattle.std.specs.declared.cmp.Ordering.TheVariants.{Less}
use Rattle.std.specs.Str.{bytes_eq, chars}
use Rattle.ux_base.specs.Distinct.{each_once, AreFirsts}
use Rattle.ux_dawg.specs.declared.state.Form.{Form}
use Rattle.ux_dela.specs.declared.entry.Entry.{Entry}
use Rattle.ux_image.specs.Codes.{entry_code}
use Rattle.ux_image.specs.declared.code.CodeList.{CodeList}

-- a form comes before another, by the code points of their characters
abbrev pub Precedes : List ℕ → List ℕ → Type 0
Precedes a b = slice_cmp nat_cmp (chars a) (chars b) ≡ Less

-- the form of each entry is that of the one before it or comes after it; `last` is before the first
abbrev pub AreInOrder : List ℕ → List Entry → Type 0
AreInOrder last [] = Unit {0}
AreInOrder last (entry ∷ entries) =
    ((entry.form ≡ last) ⊎ Precedes last entry.form) × AreInOrder entry.form entries

-- the entries stand in the order of their forms, none of which is empty
pub record IsContent (entries : List Entry) : Type 0 where
  pub some : All (λ entry. entry.form ≢ []) entries
  pub ordered : AreInOrder [] entries

-- the form and the lemma of the entry are text
pub record HasTexts (entry : Entry) : Type 0 where
  pub form : IsUtf8 entry.form
  pub lemma : IsUtf8 entry.lemma

-- the forms of the entries, each once
abbrev pub forms_in : List Entry → List (List ℕ)
forms_in entries = each_once (map (λ entry. entry.form) entries)

-- the entries of a form
abbrev pub entries_of_form : List ℕ → List Entry → List Entry
entries_of_form form entries = filter (λ entry. bytes_eq entry.form form) entries

-- the codes of entries
abbrev pub code_list : List Entry → CodeList
code_list entries = record { codes = map entry_code entries }

-- each form of the entries with the list of its codes
abbrev pub forms_with_codes : List Entry → List (List ℕ × CodeList)
forms_with_codes entries =
    map (λ form. (form, code_list (entries_of_form form entries))) (forms_in entries)

-- the different lists, by their first forms; and the forms, each with the number of its list
pub record AreNumbered (groups : List (List ℕ × CodeList)) (lists : List CodeList)
    (forms : List Form) : Type 0 where
  pub once : AreFirsts (map (λ group. group.1) groups) lists
  pub letters : map (λ form. form.letters) forms ≡ map (λ group. chars group.0) groups
  pub numbers : map (λ form. slice_get lists form.code) forms ≡ map (λ group. Some group.1) groups

-- the forms of a content, and their different lists of codes
abbrev pub AreForms : List Entry → List CodeList → List Form → Type 0
AreForms content lists forms = AreNumbered (forms_with_codes content) lists forms
