-- Which list of entries a dictionary has, by the list of what its lines say: each entry once, in
-- order of form. Forms are in order of their bytes, which for UTF-8 is the order of code points.
-- Public: the crate's public contracts speak of it.
use Rattle.std.specs.Prelude.{◌≡◌, ◌≢◌, ◌⊎◌, ◌↔◌, ℕ, ◌<◌, List, All, AllPairs, Contains, Some, slice_get}
use Rattle.std.specs.Ordering.{nat_cmp}
use Rattle.std.specs.Cmp.Lexicographic.{slice_cmp}
use Rattle.std.specs.declared.cmp.Ordering.TheVariants.{Less}
use Rattle.ux_dela.specs.declared.entry.Entry.{Entry}
use Rattle.ux_dela.specs.Sound.{IsSound}

-- the form of an entry
abbrev pub form_of : Entry → List ℕ
form_of entry = entry.form

-- the text comes before the other one in order of bytes
abbrev pub IsBelow : (text other : List ℕ) → Type 0
IsBelow text other = slice_cmp nat_cmp text other ≡ Less

-- the entry stands in the list at this place, and at no earlier one
pub record IsFirstPlace (listed : List Entry) (entry : Entry) (place : ℕ) : Type 0 where
  pub here : slice_get listed place ≡ Some entry
  pub first : (earlier : ℕ) → earlier < place → slice_get listed earlier ≢ Some entry

-- the first place of one entry is before that of the other
abbrev pub IsEarlier : (listed : List Entry) (entry other : Entry) → Type 0
IsEarlier listed entry other = (i j : ℕ) → IsFirstPlace listed entry i →
    IsFirstPlace listed other j → i < j

-- the second list has the entries of the first one, each at its first place alone
pub record AreDifferent (listed different : List Entry) : Type 0 where
  pub members : (entry : Entry) → Contains different entry ↔ Contains listed entry
  pub once : AllPairs (λ entry other. entry ≢ other) different
  pub ordered : AllPairs (IsEarlier listed) different

-- the form of one entry is below that of the other, or the forms are equal and its first place is
-- before that of the other
abbrev pub ComesBefore : (listed : List Entry) (entry other : Entry) → Type 0
ComesBefore listed entry other = IsBelow entry.form other.form
    ⊎ ((entry.form ≡ other.form) × IsEarlier listed entry other)

-- the content has the entries of the list, each once, in order of form, and those of one form in
-- the order of their first places
pub record IsContent (listed content : List Entry) : Type 0 where
  pub members : (entry : Entry) → Contains content entry ↔ Contains listed entry
  pub once : AllPairs (λ entry other. entry ≢ other) content
  pub ordered : AllPairs (ComesBefore listed) content

-- the form of the entry isn't above that of the other
abbrev pub IsUpTo : (entry other : Entry) → Type 0
IsUpTo entry other = IsBelow entry.form other.form ⊎ (entry.form ≡ other.form)

-- what is known of any content: its entries are sound, each stands once, and they are in order
pub record IsDictionary (content : List Entry) : Type 0 where
  pub sound : All IsSound content
  pub once : AllPairs (λ entry other. entry ≢ other) content
  pub ordered : AllPairs IsUpTo content
