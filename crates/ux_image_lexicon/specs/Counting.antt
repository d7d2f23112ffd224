-- How many entries are counted. Inner: the crate's own functions alone speak of it.
use Rattle.std.specs.Prelude.{◌≡◌, ℕ, ◌+◌, ◌-◌, ◌^◌, Bool, List, [], ◌++◌, ◌⊎◌, All, Contains, IsTrue, Option, None, Some, bytes_eq, cond, get_or, length, map, min, slice_get, sum_by}
use Rattle.std.specs.List.{AllZip}
use Rattle.std.specs.Option.{unwrap_or}
use Rattle.std.specs.Str.{encode_utf8_all}
use Rattle.indexmap.specs.IndexMap.{get_by_text}
use Rattle.indexmap.specs.IndexSet.{insert_all}
use Rattle.ux_dawg.specs.Building.{bare}
use Rattle.ux_dawg.specs.declared.state.Form.{Form}
use Rattle.ux_dela.specs.declared.entry.Entry.{Entry}
use Rattle.ux_dict.specs.Equal.{entry_eq}
use Rattle.ux_image_lists.specs.Sizes.{forms_of}
use Rattle.ux_image_lexicon.specs.Told.{content_in, entry_by, made_of, read_in, CodedForms}
use Rattle.ux_image_lexicon.specs.Walking.{branch_by}
use Rattle.ux_image_lexicon.specs.declared.codes.ReadCode.{ReadCode}
use Rattle.ux_image_lexicon.specs.declared.codes.ReadList.{ReadList}
use Rattle.ux_image_lexicon.specs.declared.counts.Counts.{Counts}
use Rattle.ux_image_lexicon.specs.declared.walk.Walk.{Walk}

-- how many different entries the codes make of the form
abbrev pub different_by : (form : List ℕ) → List ReadCode → ℕ
different_by form codes = length (insert_all entry_eq [] (map (entry_by form) codes))

-- the entry without form and lemma
abbrev pub bare_of : ReadCode → Entry
bare_of code = record {
  form = [];
  lemma = [];
  gram = code.codes.gram;
  sem = code.codes.sem;
  infl = code.codes.infl;
}

-- no two of the codes make one entry of any form
abbrev pub IsApart : List ReadCode → Type 0
IsApart codes = (form : List ℕ) → different_by form codes ≡ length codes

-- where a list has a true flag, its codes are so
abbrev pub AreApart : List ReadList → List Bool → Type 0
AreApart lists flags =
    AllZip (λ (list : ReadList) (flag : Bool). IsTrue flag → IsApart list.codes) lists flags

-- how many are told of the form: those that are kept, or one for each code
abbrev pub told_of : Counts → (form : List ℕ) → (codes : ℕ) → ℕ
told_of counts form codes = unwrap_or (get_by_text counts.fewer form) codes

-- what is told of the form is how many its list makes
abbrev pub TellsForm : List ReadList → Counts → Form → Type 0
TellsForm lists counts form =
    told_of counts (encode_utf8_all form.letters) (length (read_in (slice_get lists form.code)))
    ≡ made_of lists form

-- the sum is that of the content, and what is told of each form is right
pub record AreCounts (coded : CodedForms) (counts : Counts) : Type 0 where
  pub total : counts.total ≡ length (content_in coded)
  pub each : (form : Form) → Contains (forms_of coded.states) form →
      TellsForm coded.lists counts form

-- so many entries are told, and of each form as many as its list has codes
pub record TellsEach (coded : CodedForms) (entries : ℕ) : Type 0 where
  pub total : entries ≡ length (content_in coded)
  pub each : All (λ (form : Form).
      length (read_in (slice_get coded.lists form.code)) ≡ made_of coded.lists form)
      (forms_of coded.states)

-- nothing is counted
pub record AreNone (counts : Counts) : Type 0 where
  pub total : counts.total ≡ 0
  pub fewer : (form : List ℕ) → get_by_text counts.fewer form ≡ None

-- all forms are counted but those that are left
pub record AreCountedBut (coded : CodedForms) (counts : Counts) (left : List Form) : Type 0 where
  pub among : (form : Form) → Contains left form → Contains (forms_of coded.states) form
  pub total : counts.total + sum_by (made_of coded.lists) left
      ≡ sum_by (made_of coded.lists) (forms_of coded.states)
  pub kept : (form : Form) → Contains (forms_of coded.states) form → (n : ℕ) →
      get_by_text counts.fewer (encode_utf8_all form.letters) ≡ Some n →
      n ≡ made_of coded.lists form
  pub each : (form : Form) → Contains (forms_of coded.states) form →
      Contains left form ⊎ TellsForm coded.lists counts form

-- what is kept of a text
abbrev pub IsKeptAs : Counts → (text : List ℕ) → Option ℕ → Type 0
IsKeptAs counts text n = get_by_text counts.fewer text ≡ n

-- the form is counted, of which so many codes make so many entries
pub record Puts (form : List ℕ) (made codes : ℕ) (old new : Counts) : Type 0 where
  pub total : new.total ≡ min (old.total + made) (2 ^ 64 - 1)
  pub fewer : ((made ≡ codes)
      × ((text : List ℕ) → IsKeptAs new text (get_by_text old.fewer text)))
      ⊎ ((text : List ℕ) →
      IsKeptAs new text (cond (bytes_eq form text) (Some made) (get_by_text old.fewer text)))

-- the form of these letters is counted, where it has a list
abbrev pub Notes : List ReadList → (letters : List ℕ) → Option ℕ → (old new : Counts) → Type 0
Notes lists letters None old new =
    (new.total ≡ old.total) × ((text : List ℕ) → IsKeptAs new text (get_by_text old.fewer text))
Notes lists letters (Some number) old new =
    let form = encode_utf8_all letters in
    let codes = read_in (slice_get lists number) in
    Puts form (different_by form codes) (length codes) old new

-- the form that ends in the state is counted, and the states behind it are left
pub record Enters (coded : CodedForms) (number : ℕ) (walk next : Walk) (old new : Counts) :
    Type 0 where
  pub letters : next.letters.items ≡ walk.letters.items
  pub branches : next.branches.items ≡ walk.branches.items
      ++ map (branch_by (length walk.letters.items)) (get_or coded.states number bare).edges
  pub notes : Notes coded.lists walk.letters.items (get_or coded.states number bare).code old new
