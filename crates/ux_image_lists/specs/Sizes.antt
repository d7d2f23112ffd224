-- How many letters the entries of an image have. Public: the crate's public contracts speak of it.
use Rattle.std.specs.Prelude.{ℕ, ◌-◌, ◌*◌, ◌^◌, List, Option, None, Some, get_or, length, slice_get, sum_by}
use Rattle.ux_dawg.specs.Building.{bare}
use Rattle.ux_dawg.specs.Listed.{forms_from}
use Rattle.ux_dawg.specs.declared.state.Form.{Form}
use Rattle.ux_dawg.specs.declared.state.State.{State}
use Rattle.ux_image.specs.declared.code.CodeList.{CodeList}

-- the greatest number of 64 bits
abbrev pub MOST : ℕ
MOST = 2 ^ 64 - 1

-- the forms of the states, each with the number of its list
abbrev pub forms_of : List State → List Form
forms_of states = forms_from (length states) states (get_or states (length states - 1) bare)

-- how many codes a list has; none, where there is no list
abbrev pub count_of : Option CodeList → ℕ
count_of None = 0
count_of (Some list) = length list.codes

-- how many codes the list of this number has
abbrev pub codes_at : List CodeList → ℕ → ℕ
codes_at lists number = count_of (slice_get lists number)

-- how many codes the forms have together
abbrev pub codes_told : List CodeList → List Form → ℕ
codes_told lists forms = sum_by (λ (f : Form). codes_at lists f.code) forms

-- how many letters the forms have together, each counted for each of its codes
abbrev pub letters_told : List CodeList → List Form → ℕ
letters_told lists forms = sum_by (λ (f : Form). length f.letters * codes_at lists f.code) forms
