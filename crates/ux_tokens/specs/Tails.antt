-- Which texts stand in a tag's body from a part of it on to its end: for inner functions alone.
use Rattle.std.specs.Prelude.{◌≡◌, ℕ, Bool, true, false, ◌||◌, List, [], ◌∷◌, if◌then◌else◌}
use Rattle.ux_dela.specs.Signs.{is_comma, is_dot, is_slash, is_plus, is_colon, is_equals}
use Rattle.ux_dela.specs.Written.{Written, bare, protected}
use Rattle.ux_tokens.specs.declared.tails.Tails.{Tails}

-- the part of a body that goes on at a place
pub data Part : Type 0 where
  no_part : Part
  before_form : Part
  form : Part
  lemma : Part
  before_code : Part
  code : Part
  before_feature : Part
  feature : Part

-- the part after a character of its own
abbrev pub inside : Part → Part
inside no_part = no_part
inside before_form = form
inside form = form
inside lemma = lemma
inside before_code = code
inside code = code
inside before_feature = feature
inside feature = feature

-- the part after a bare character
abbrev pub behind : Part → ℕ → Part
behind no_part b = no_part
behind before_form b = if is_comma b || (is_equals b || is_slash b) then no_part else form
behind form b = if is_comma b then lemma else (if is_equals b then no_part else form)
behind lemma b = if is_dot b then before_code else (if is_equals b then no_part else lemma)
behind before_code b = if is_plus b || (is_colon b || is_slash b) then no_part else code
behind code b =
    if is_plus b then before_code
    else (if is_colon b then before_feature else (if is_slash b then no_part else code))
behind before_feature b = if is_colon b || is_slash b then no_part else feature
behind feature b =
    if is_colon b then before_feature else (if is_slash b then no_part else feature)

-- a body may end there
abbrev pub is_last : Part → Bool
is_last no_part = false
is_last before_form = false
is_last form = false
is_last lemma = false
is_last before_code = false
is_last code = true
is_last before_feature = false
is_last feature = true

-- from the part on, the characters go to the end of a body
abbrev pub is_tail : Part → List Written → Bool
is_tail part [] = is_last part
is_tail part (bare b ∷ w) = is_tail (behind part b) w
is_tail part (protected b ∷ w) = is_tail (inside part) w

-- of which parts the characters are the rest
pub record AreTails (tails : Tails) (w : List Written) : Type 0 where
  pub is_before_form : tails.before_form ≡ is_tail before_form w
  pub is_form : tails.form ≡ is_tail form w
  pub is_lemma : tails.lemma ≡ is_tail lemma w
  pub is_before_code : tails.before_code ≡ is_tail before_code w
  pub is_code : tails.code ≡ is_tail code w
  pub is_before_feature : tails.before_feature ≡ is_tail before_feature w
  pub is_feature : tails.feature ≡ is_tail feature w
