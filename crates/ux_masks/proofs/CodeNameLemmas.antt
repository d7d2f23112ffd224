-- The spelling alone tells whether a name is taken for a code.
use Rattle.std.proofs.Common.{◌≡◌, List, [], ◌∷◌, Bool, true, false, refl}
use Rattle.std.specs.Prelude.{All}
use Rattle.std.proofs.lemmas.Bool.{false≢true, and_from, and_parts}
use Rattle.std.proofs.lemmas.List.Elements.{All-nil, All-cons, All-head, All-tail}
use Rattle.ux_dela.specs.Written.{Written, bare, protected}
use Rattle.ux_masks.specs.Signs.{is_capital}
use Rattle.ux_masks.specs.Pieces.{is_code_bare, are_code_bare, is_code_name}
use Rattle.ux_masks.specs.Texts.{IsCodeCharacter, IsCodeName}

code_bare : (x : Written) → IsCodeCharacter x → is_code_bare x ≡ true
code_bare (bare b) is = is
code_bare (protected b) is = absurd is

code_bare_back : (x : Written) → is_code_bare x ≡ true → IsCodeCharacter x
code_bare_back (bare b) is = is
code_bare_back (protected b) is = false≢true is

all_bare : (name : List Written) → All IsCodeCharacter name → are_code_bare name ≡ true
all_bare [] is = refl
all_bare (x ∷ name) is =
    and_from (is_code_bare x) (are_code_bare name)
    (code_bare x (All-head IsCodeCharacter x name is))
    (all_bare name (All-tail IsCodeCharacter x name is))

all_bare_back : (name : List Written) → are_code_bare name ≡ true → All IsCodeCharacter name
all_bare_back [] is = All-nil IsCodeCharacter
all_bare_back (x ∷ name) is =
    All-cons IsCodeCharacter x name
    (code_bare_back x (and_parts (is_code_bare x) (are_code_bare name) is).0)
    (all_bare_back name (and_parts (is_code_bare x) (are_code_bare name) is).1)

pub code_name : (name : List Written) → IsCodeName name → is_code_name name ≡ true
code_name [] is = absurd is
code_name (protected b ∷ name) is = absurd is
code_name (bare b ∷ name) is =
    and_from (is_capital b) (are_code_bare name) is.0 (all_bare name is.1)

pub code_name_back : (name : List Written) → is_code_name name ≡ true → IsCodeName name
code_name_back [] is = false≢true is
code_name_back (protected b ∷ name) is = false≢true is
code_name_back (bare b ∷ name) is = (
  (and_parts (is_capital b) (are_code_bare name) is).0,
  all_bare_back name (and_parts (is_capital b) (are_code_bare name) is).1,
)

pub other_name : (name : List Written) → (IsCodeName name → ⊥) → is_code_name name ≡ false
other_name name other = by (is_code_name name) (code_name_back name)
  where
    by : (t : Bool) → (t ≡ true → IsCodeName name) → t ≡ false
    by true back = absurd (other (back refl))
    by false back = refl
