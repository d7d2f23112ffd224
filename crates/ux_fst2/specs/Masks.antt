-- How a mask is printed in a tag. The manual, on .fst2 files. Public: the crate's public contracts
-- speak of it.
use Rattle.std.specs.Prelude.{ℕ, ◌||◌, Bool, true, false, not, nat_le, List, [], ◌∷◌, ◌++◌, Option, Some, None, codes, if◌then◌else◌}
use Rattle.std.specs.List.{flat_map}
use Rattle.std.specs.Str.{bytes_eq}
use Rattle.ux_dela.specs.Written.{written}
use Rattle.ux_dela.specs.Printed.{shielded}
use Rattle.ux_grf.specs.Lines.{is_name_byte}
use Rattle.ux_masks.specs.Signs.{COMMA, DOT, PLUS, TILDE, COLON, EXCLAMATION}
use Rattle.ux_masks.specs.declared.lexical.Parts.{Parts}
use Rattle.ux_masks.specs.declared.mask.Mask.{Mask}
use Rattle.ux_masks.specs.declared.mask.Mask.TheVariants.{Word, NotWord, Lower, NotLower, Upper, NotUpper, First, NotFirst, Dic, NotDic, SDic, NotSDic, CDic, TDic, Nb, Token, Lexical, NotLexical}

-- every character but ASCII letters, digits, `_`, and those past ASCII
abbrev pub is_name_sign : ℕ → Bool
is_name_sign b = not (is_name_byte b || nat_le 128 b)

-- a form, a lemma, a code or an alternative, with a backslash before each such character
abbrev pub name_text : List ℕ → List ℕ
name_text name = written (shielded is_name_sign name)

-- the lemma, which is left out where it is the form
abbrev pub lemma_text : (form lemma : List ℕ) → List ℕ
lemma_text form lemma = if bytes_eq lemma form then [] else name_text lemma

-- form and lemma, where they are told, up to the `.` behind them
abbrev pub target_text : (form lemma : Option (List ℕ)) → List ℕ
target_text None None = []
target_text None (Some lemma) = name_text lemma ++ DOT ∷ []
target_text (Some form) None = name_text form ++ (COMMA ∷ (DOT ∷ []))
target_text (Some form) (Some lemma) =
    name_text form ++ (COMMA ∷ (lemma_text form lemma ++ DOT ∷ []))

-- neither form nor lemma is told
abbrev pub is_code_alone : (form lemma : Option (List ℕ)) → Bool
is_code_alone None None = true
is_code_alone None (Some lemma) = false
is_code_alone (Some form) lemma = false

-- the first required code, which is printed plainly where it stands alone
abbrev pub code_text : (alone : Bool) → List ℕ → List ℕ
code_text alone code = if alone then code else name_text code

-- a name behind a sign
abbrev pub behind_sign : (sign : ℕ) → List ℕ → List ℕ
behind_sign sign name = sign ∷ name_text name

-- the required codes
abbrev pub codes_text : (alone : Bool) → List (List ℕ) → List ℕ
codes_text alone [] = []
codes_text alone (code ∷ later) = code_text alone code ++ flat_map (behind_sign PLUS) later

-- what a lexical mask asks for
abbrev pub lexical_text : Parts → List ℕ
lexical_text parts = target_text parts.form parts.lemma
    ++ (codes_text (is_code_alone parts.form parts.lemma) parts.need
    ++ (flat_map (behind_sign TILDE) parts.forbid ++ flat_map (behind_sign COLON) parts.infl))

-- the mask
abbrev pub mask_text : Mask → List ℕ
mask_text Word = codes "WORD"
mask_text NotWord = codes "!WORD"
mask_text Lower = codes "LOWER"
mask_text NotLower = codes "!LOWER"
mask_text Upper = codes "UPPER"
mask_text NotUpper = codes "!UPPER"
mask_text First = codes "FIRST"
mask_text NotFirst = codes "!FIRST"
mask_text Dic = codes "DIC"
mask_text NotDic = codes "!DIC"
mask_text SDic = codes "SDIC"
mask_text NotSDic = codes "!SDIC"
mask_text CDic = codes "CDIC"
mask_text TDic = codes "TDIC"
mask_text Nb = codes "NB"
mask_text Token = codes "TOKEN"
mask_text (Lexical parts) = lexical_text parts
mask_text (NotLexical parts) = EXCLAMATION ∷ lexical_text parts
