-- The box language, on outputs: characters, the values of variables and tests of them. Public,
-- through `File` and `Content`.
use Rattle.std.specs.Prelude.{◌≡◌, ℕ, suc, ◌==◌, ◌+◌, Bool, true, false, ◌&&◌, not, nat_lt, nat_eq, List, [], ◌∷◌, ◌++◌, Option, None, Some, option_map, if◌then◌else◌, take, drop, slice_index, codes}
use Rattle.std.specs.List.{starts_with}
use Rattle.std.specs.Str.{bytes_eq}
use Rattle.ux_grf.specs.declared.item.Piece.{Piece}
use Rattle.ux_grf.specs.declared.item.Piece.TheVariants.{Chars, Value}
use Rattle.ux_grf.specs.declared.protection.Layer.TheVariants.{Language}
use Rattle.ux_grf.specs.Protection.{BACKSLASH, resolved}
use Rattle.ux_grf.specs.Lines.{DOLLAR, is_name_byte}

-- how many characters of a name stand in front
abbrev pub name_len : List ℕ → ℕ
name_len [] = 0
name_len (b ∷ text) = if is_name_byte b then suc (name_len text) else 0

-- how many characters of a test stand in front: that a variable has a value, or that it has none
abbrev pub test_len : List ℕ → ℕ
test_len text =
    if starts_with nat_eq text (codes ".SET") then 4
    else if starts_with nat_eq text (codes ".UNSET") then 6
    else 0

-- how many characters of a value stand in front: a name, and a test of it where one follows
abbrev pub value_len : List ℕ → ℕ
value_len text = name_len text + test_len (drop (name_len text) text)

-- a `$` before this text begins a value: a name, or a test of one, and another `$` follow
abbrev pub names_value : List ℕ → Bool
names_value text = nat_lt 0 (name_len text) && slice_index text (value_len text) == DOLLAR

-- the place of the first `$` that begins a value and isn't protected
abbrev pub first_value : Bool → List ℕ → Option ℕ
first_value protected [] = None
first_value protected (b ∷ text) =
    if b == DOLLAR && not protected && names_value text then Some 0
    else option_map suc (first_value (b == BACKSLASH && not protected) text)

-- the piece of characters that aren't empty
abbrev pub some_chars : List ℕ → List Piece
some_chars [] = []
some_chars (b ∷ text) = Chars (b ∷ text) ∷ []

abbrev pub chars_in : List ℕ → List Piece
chars_in text = some_chars (resolved Language false text)

-- characters up to the first value, that value, and the pieces after it
pub data ArePieces : List ℕ → List Piece → Type 0 where
  chars_only : {text : List ℕ} → first_value false text ≡ None → ArePieces text (chars_in text)
  value_then : {text : List ℕ} {k : ℕ} {pieces : List Piece} →
      first_value false text ≡ Some k →
      ArePieces (drop (value_len (drop (k + 1) text) + 1) (drop (k + 1) text)) pieces →
      ArePieces text (chars_in (take k text)
      ++ Value (take (value_len (drop (k + 1) text)) (drop (k + 1) text)) ∷ pieces)

-- the pieces of an output, of which `<E>` has none
pub data IsOutput : List ℕ → List Piece → Type 0 where
  nothing_put : {text : List ℕ} → bytes_eq text (codes "<E>") ≡ true → IsOutput text []
  pieces_put : {text : List ℕ} {pieces : List Piece} → bytes_eq text (codes "<E>") ≡ false →
      ArePieces text pieces → IsOutput text pieces
