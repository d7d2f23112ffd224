-- Sums that stay at the greatest number of 64 bits where it doesn't hold them. Inner: the crate's
-- own functions alone speak of it.
use Rattle.std.specs.Prelude.{◌≡◌, ℕ, ◌+◌, List, Option, Some, get_or, length, min, slice_get, sum_by}
use Rattle.ux_dawg.specs.Building.{bare}
use Rattle.ux_dawg.specs.Listed.{ending, forms_from}
use Rattle.ux_dawg.specs.declared.state.Edge.{Edge}
use Rattle.ux_dawg.specs.declared.state.Form.{Form}
use Rattle.ux_dawg.specs.declared.state.State.{State}
use Rattle.ux_image.specs.declared.code.CodeList.{CodeList}
use Rattle.ux_image_lists.specs.Sizes.{codes_told, letters_told, MOST}
use Rattle.ux_image_lists.specs.declared.sizes.Sums.{Sums}

-- how many codes a form has that ends in a state with this list
abbrev pub ending_codes : List CodeList → Option ℕ → ℕ
ending_codes lists number = codes_told lists (ending number)

-- what no form comes to
abbrev pub nothing : Sums
nothing = record { codes = 0; letters = 0 }

abbrev pub codes_behind : List Sums → Edge → ℕ
codes_behind sums edge = (get_or sums edge.target nothing).codes

abbrev pub letters_behind : List Sums → Edge → ℕ
letters_behind sums edge = (get_or sums edge.target nothing).letters

-- the sum of a state whose own form has so many codes, and of which these are the edges
pub record IsSumOf (own : ℕ) (edges : List Edge) (sums : List Sums) (sum : Sums) : Type 0 where
  pub codes : sum.codes ≡ min (own + sum_by (codes_behind sums) edges) MOST
  pub letters : sum.letters
      ≡ min (sum_by (λ (e : Edge). letters_behind sums e + codes_behind sums e) edges) MOST

-- the sum tells of these forms
pub record TellsForms (lists : List CodeList) (forms : List Form) (sum : Sums) : Type 0 where
  pub codes : sum.codes ≡ min (codes_told lists forms) MOST
  pub letters : sum.letters ≡ min (letters_told lists forms) MOST

-- the sums of the first n states tell of the forms that begin in them
pub record AreSums (states : List State) (lists : List CodeList) (n : ℕ) (sums : List Sums) :
    Type 0 where
  pub long : length sums ≡ n
  pub each : (i : ℕ) (sum : Sums) → slice_get sums i ≡ Some sum →
      TellsForms lists (forms_from (length states) states (get_or states i bare)) sum
