-- The names of a lexical mask in a row, each behind its sign: what the reader takes one after the
-- other. Inner: the crate's own functions alone speak of it.
use Rattle.std.specs.Prelude.{◌==◌, if◌then◌else◌, ◌≡◌, ◌≢◌, ℕ, Bool, true, false, ◌&&◌, List, [], ◌∷◌, ◌++◌, Option, None, Some}
use Rattle.ux_dela.specs.Written.{Written, bare, protected, meant, IsPart}
use Rattle.ux_masks.specs.declared.lexical.Parts.{Parts}
use Rattle.ux_masks.specs.declared.sign.Sign.{Sign}
use Rattle.ux_masks.specs.declared.sign.Sign.TheVariants.{Comma, Dot, Plus, Tilde, Colon}
use Rattle.ux_masks.specs.Signs.{COMMA, DOT, PLUS, TILDE, COLON, is_sign, is_capital, is_code_character}

-- a name with the sign before it
pub data Piece : Type 0 where
  piece : (sign : Sign) (name : List Written) → Piece

abbrev pub byte_of : Sign → ℕ
byte_of Comma = COMMA
byte_of Dot = DOT
byte_of Plus = PLUS
byte_of Tilde = TILDE
byte_of Colon = COLON

-- the sign that is written by the byte
abbrev pub sign_of : ℕ → Option Sign
sign_of b = if b == COMMA then Some Comma
    else (if b == DOT then Some Dot
    else (if b == PLUS then Some Plus
    else (if b == TILDE then Some Tilde
    else (if b == COLON then Some Colon else None))))

-- the sign with which the text begins
abbrev pub sign_at : List ℕ → Option Sign
sign_at [] = None
sign_at (b ∷ rest) = sign_of b

-- the pieces, one behind the other
abbrev pub joined : List Piece → List Written
joined [] = []
joined (piece sign name ∷ pieces) = bare (byte_of sign) ∷ (name ++ joined pieces)

-- whether the second sign may follow the first
abbrev pub goes_on : Sign → Sign → Bool
goes_on Comma Comma = false
goes_on Comma next = true
goes_on Dot Comma = false
goes_on Dot Dot = false
goes_on Dot next = true
goes_on Plus Comma = false
goes_on Plus Dot = false
goes_on Plus next = true
goes_on Tilde Comma = false
goes_on Tilde Dot = false
goes_on Tilde next = true
goes_on Colon Colon = true
goes_on Colon next = false

-- whether the sign may come next, where this sign came last, or none yet
abbrev pub may_follow : Option Sign → Sign → Bool
may_follow None next = true
may_follow (Some last) next = goes_on last next

-- a lemma behind a comma may be empty, and a code behind a dot; no other name may
abbrev pub needs_name : Sign → Bool
needs_name Comma = false
needs_name Dot = false
needs_name Plus = true
needs_name Tilde = true
needs_name Colon = true

-- the name may stand behind the sign
pub record IsPiece (sign : Sign) (name : List Written) : Type 0 where
  pub part : IsPart is_sign name
  pub some : needs_name sign ≡ true → name ≢ []

-- the pieces may stand behind this sign, in this order
abbrev pub AreInOrder : Option Sign → List Piece → Type 0
AreInOrder last [] = Unit {0}
AreInOrder last (piece sign name ∷ pieces) = (may_follow last sign ≡ true)
    × IsPiece sign name × AreInOrder (Some sign) pieces

-- the last sign
abbrev pub last_sign : Option Sign → List Piece → Option Sign
last_sign last [] = last
last_sign last (piece sign name ∷ pieces) = last_sign (Some sign) pieces

-- whether a character may stand in a code of capital letters
abbrev pub is_code_bare : Written → Bool
is_code_bare (bare b) = is_code_character b
is_code_bare (protected b) = false

abbrev pub are_code_bare : List Written → Bool
are_code_bare [] = true
are_code_bare (x ∷ name) = is_code_bare x && are_code_bare name

-- whether a name alone is taken for a code
abbrev pub is_code_name : List Written → Bool
is_code_name [] = false
is_code_name (protected b ∷ name) = false
is_code_name (bare b ∷ name) = is_capital b && are_code_bare name

-- what a lexical mask asks for that has no more than this form and lemma
abbrev pub asking : (form lemma : Option (List ℕ)) → Parts
asking form lemma = record { form = form; lemma = lemma; need = []; forbid = []; infl = [] }

-- what a name alone asks for
abbrev pub alone : Bool → List ℕ → Parts
alone true name = record { form = None; lemma = None; need = name ∷ []; forbid = []; infl = [] }
alone false name = asking None (Some name)

-- what the first name asks for, where this sign comes next, or none
abbrev pub begun : List Written → Option Sign → Parts
begun name None = alone (is_code_name name) (meant name)
begun name (Some Comma) = asking (Some (meant name)) (Some (meant name))
begun name (Some Dot) = asking None (Some (meant name))
begun name (Some Plus) = alone (is_code_name name) (meant name)
begun name (Some Tilde) = alone (is_code_name name) (meant name)
begun name (Some Colon) = alone (is_code_name name) (meant name)

abbrev pub with_need : Parts → List ℕ → Parts
with_need parts code = record parts { need = parts.need ++ code ∷ [] }

-- what is asked with one piece more
abbrev pub with_piece : Parts → Sign → List Written → Parts
with_piece parts Comma [] = parts
with_piece parts Comma (x ∷ name) = record parts { lemma = Some (meant (x ∷ name)) }
with_piece parts Dot [] = parts
with_piece parts Dot (x ∷ name) = with_need parts (meant (x ∷ name))
with_piece parts Plus name = with_need parts (meant name)
with_piece parts Tilde name = record parts { forbid = parts.forbid ++ meant name ∷ [] }
with_piece parts Colon name = record parts { infl = parts.infl ++ meant name ∷ [] }

abbrev pub with_pieces : Parts → List Piece → Parts
with_pieces parts [] = parts
with_pieces parts (piece sign name ∷ pieces) = with_pieces (with_piece parts sign name) pieces

abbrev pub first_sign : List Piece → Option Sign
first_sign [] = None
first_sign (piece sign name ∷ pieces) = Some sign

-- what the first name and the pieces behind it ask for
abbrev pub asked_by : List Written → List Piece → Parts
asked_by name pieces = with_pieces (begun name (first_sign pieces)) pieces

-- no sign that may come next begins the text
abbrev pub IsOver : Option Sign → List ℕ → Type 0
IsOver last text = (sign : Sign) → sign_at text ≡ Some sign → may_follow last sign ≡ false
