-- Forms with their numbers, in order, and which form may come next. Public: the crate's public
-- contracts speak of it.
use Rattle.std.specs.Prelude.{◌≡◌, ℕ, ◌<◌, ◌+◌, ◌^◌, List, [], ◌∷◌, length, sum_by}
use Rattle.std.specs.Cmp.Lexicographic.{slice_cmp}
use Rattle.std.specs.Ordering.{nat_cmp}
use Rattle.std.specs.declared.cmp.Ordering.TheVariants.{Less}
use Rattle.ux_dawg.specs.declared.state.Form.{Form}

-- the form of these letters with this number
abbrev pub form_of : List ℕ → ℕ → Form
form_of letters code = record { letters = letters; code = code }

-- each form comes after the one before it, the first after `last`
abbrev pub AreSorted : List ℕ → List Form → Type 0
AreSorted last [] = Unit {0}
AreSorted last (f ∷ fs) = (slice_cmp nat_cmp last f.letters ≡ Less) × AreSorted f.letters fs

-- how many letters the forms have together
abbrev pub letters_in : List Form → ℕ
letters_in forms = sum_by (λ (f : Form). length f.letters) forms

-- the letters of the last form, or `none` where there is no form
abbrev pub last_letters : List ℕ → List Form → List ℕ
last_letters none [] = none
last_letters none (f ∷ fs) = last_letters f.letters fs

-- with a form of these letters there still are fewer than 2^32 letters
abbrev pub HasRoomFor : List Form → (word : List ℕ) → Type 0
HasRoomFor forms word = letters_in forms + length word < 2 ^ 32

-- a form of these letters may come next: it comes after the last one, and there is room for it
pub record MayFollow (forms : List Form) (word : List ℕ) : Type 0 where
  pub after : slice_cmp nat_cmp (last_letters [] forms) word ≡ Less
  pub few : HasRoomFor forms word
