-- Which entries an automaton tells with its lists of codes. The manual, on compressing dictionaries.
-- Public: the crate's public contracts speak of it.
use Rattle.std.specs.Prelude.{◌≡◌, ℕ, ◌<◌, ◌^◌, List, [], ◌∷◌, All, IsUtf8, Option, None, Some, flat_map, length, map, slice_get, sum_by}
use Rattle.std.specs.List.{AllZip}
use Rattle.std.specs.Str.{encode_utf8_all}
use Rattle.indexmap.specs.IndexSet.{insert_all}
use Rattle.ux_dawg.specs.Paths.{MakeAutomaton}
use Rattle.ux_dawg.specs.declared.state.Form.{Form}
use Rattle.ux_dawg.specs.declared.state.State.{State}
use Rattle.ux_dela.specs.Printed.{IsCodesText}
use Rattle.ux_dela.specs.Sound.{IsSound}
use Rattle.ux_dela.specs.declared.entry.Entry.{Entry}
use Rattle.ux_dict.specs.Equal.{entry_eq}
use Rattle.ux_image.specs.Codes.{rebuilt_lemma}
use Rattle.ux_image.specs.declared.code.Code.{Code as ImageCode}
use Rattle.ux_image.specs.declared.code.CodeList.{CodeList}
use Rattle.ux_image_lists.specs.Sizes.{forms_of}
use Rattle.ux_image_look_ups.specs.Ways.{HaveForms}
use Rattle.ux_image_lexicon.specs.declared.codes.ReadCode.{ReadCode}
use Rattle.ux_image_lexicon.specs.declared.codes.ReadList.{ReadList}

-- the states of an automaton, and the lists of codes in which its forms end
pub record CodedForms : Type 0 where
  pub states : List State
  pub lists : List ReadList

-- the code was read of that of the image
pub record IsRead (code : ImageCode) (read : ReadCode) : Type 0 where
  pub pairs : read.pairs ≡ code.pairs
  pub codes : IsCodesText code.codes read.codes

-- the lists were read of those of the image
abbrev pub AreRead : List CodeList → List ReadList → Type 0
AreRead lists read =
    AllZip (λ (list : CodeList) (one : ReadList). AllZip IsRead list.codes one.codes) lists read

-- the entry that a code makes of a form
abbrev pub entry_by : (form : List ℕ) → ReadCode → Entry
entry_by form code = record {
  form = form;
  lemma = rebuilt_lemma code.pairs form;
  gram = code.codes.gram;
  sem = code.codes.sem;
  infl = code.codes.infl;
}

-- the codes of a list; none, where there is no list
abbrev pub read_in : Option ReadList → List ReadCode
read_in None = []
read_in (Some list) = list.codes

-- the entries that the codes of its list make of the form
abbrev pub entries_by : List ReadList → Form → List Entry
entries_by lists form =
    map (entry_by (encode_utf8_all form.letters)) (read_in (slice_get lists form.code))

-- those of some forms, form by form
abbrev pub entries_told : List ReadList → List Form → List Entry
entries_told lists forms = flat_map (entries_by lists) forms

-- the different ones, each at its first place
abbrev pub entries_once : List ReadList → List Form → List Entry
entries_once lists forms = insert_all entry_eq [] (entries_told lists forms)

-- how many different entries its list makes of the form
abbrev pub made_of : List ReadList → Form → ℕ
made_of lists form = length (entries_once lists (form ∷ []))

-- the content of an automaton with its lists: the entries of all forms, each once
unfoldable pub content_in : CodedForms → List Entry
content_in coded = entries_once coded.lists (forms_of coded.states)

-- the form is text, and its list has a code
pub record IsTold (lists : List ReadList) (form : Form) : Type 0 where
  pub utf8 : IsUtf8 (encode_utf8_all form.letters)
  pub some : 0 < length (read_in (slice_get lists form.code))

-- the states are those of an automaton in which each leads to a form, each form is told, what is
-- told is sound, and 64 bits hold its number
pub record IsCoded (coded : CodedForms) : Type 0 where
  pub automaton : MakeAutomaton coded.states
  pub forms : HaveForms coded.states
  pub told : All (IsTold coded.lists) (forms_of coded.states)
  pub sound : All IsSound (entries_told coded.lists (forms_of coded.states))
  pub few : sum_by (made_of coded.lists) (forms_of coded.states) < 2 ^ 64
