-- What the forms that begin in a state have together, and how they are counted by it. Inner: the
-- crate's own functions alone speak of it.
use Rattle.std.specs.Prelude.{◌≡◌, ℕ, ◌+◌, List, ◌⊎◌, All, IsTrue, Some, length, min, slice_get, sum_by}
use Rattle.ux_dawg.specs.declared.state.Form.{Form}
use Rattle.ux_image_lists.specs.Sizes.{MOST}
use Rattle.ux_image_look_ups.specs.Ways.{forms_at}
use Rattle.ux_image_lexicon.specs.Counting.{AreApart, Enters, IsApart}
use Rattle.ux_image_lexicon.specs.Told.{read_in, CodedForms}
use Rattle.ux_image_lexicon.specs.declared.codes.ReadList.{ReadList}
use Rattle.ux_image_lexicon.specs.declared.counts.Counts.{Counts}
use Rattle.ux_image_lexicon.specs.declared.sums.Sum.{Sum}
use Rattle.ux_image_lexicon.specs.declared.sums.Sums.{Sums}
use Rattle.ux_image_lexicon.specs.declared.walk.Walk.{Walk}

-- how many codes the list of the form has
abbrev pub codes_of : List ReadList → Form → ℕ
codes_of lists form = length (read_in (slice_get lists form.code))

-- how many the lists of all these forms have together: as many entries, where each code makes one
abbrev pub codes_told : List ReadList → List Form → ℕ
codes_told lists forms = sum_by (codes_of lists) forms

-- no two codes of a list of these forms make one entry
abbrev pub AreFormsApart : List ReadList → List Form → Type 0
AreFormsApart lists forms =
    All (λ (form : Form). IsApart (read_in (slice_get lists form.code))) forms

-- the sum is that of these forms: as many codes, as far as 64 bits hold it, and each code makes an
-- entry where it says so
pub record IsSumOf (lists : List ReadList) (forms : List Form) (sum : Sum) : Type 0 where
  pub codes : sum.codes ≡ min (codes_told lists forms) MOST
  pub apart : IsTrue sum.apart → AreFormsApart lists forms

-- the first n states have the sums of the forms that begin in them
pub record AreSumsTo (coded : CodedForms) (n : ℕ) (sums : List Sum) : Type 0 where
  pub long : length sums ≡ n
  pub each : (i : ℕ) (sum : Sum) → slice_get sums i ≡ Some sum →
      IsSumOf coded.lists (forms_at coded.states i) sum

-- so have all states, and the lists have their flags
pub record AreSums (coded : CodedForms) (sums : Sums) : Type 0 where
  pub lists : AreApart coded.lists sums.lists.items
  pub states : AreSumsTo coded (length coded.states) sums.states.items

-- the walk stays where it is, and the forms behind the state are counted at once: each of their
-- codes makes an entry
pub record PassesOver (coded : CodedForms) (number : ℕ) (walk next : Walk) (old new : Counts) :
    Type 0 where
  pub letters : next.letters.items ≡ walk.letters.items
  pub branches : next.branches.items ≡ walk.branches.items
  pub apart : AreFormsApart coded.lists (forms_at coded.states number)
  pub total : new.total
      ≡ min (old.total + codes_told coded.lists (forms_at coded.states number)) MOST
  pub fewer : new.fewer ≡ old.fewer

-- so they are, or the state is entered
abbrev pub Visits : CodedForms → ℕ → (walk next : Walk) → (old new : Counts) → Type 0
Visits coded number walk next old new =
    Enters coded number walk next old new ⊎ PassesOver coded number walk next old new
