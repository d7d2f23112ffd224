-- The hash of a state. Inner: the crate's own functions alone speak of it.
use Rattle.std.specs.Prelude.{ℕ, ◌+◌, ◌*◌, ◌/◌, ◌-◌, ◌^◌, Option, Some, None, bit_and, bit_xor, fold}
use Rattle.ux_dawg.specs.declared.state.State.{State}
use Rattle.ux_dawg.specs.declared.state.Edge.{Edge}

-- the two halves of a product, joined
unfoldable pub folded : (a b : ℕ) → ℕ
folded a b = bit_xor (bit_and (a * b) (2 ^ 64 - 1)) (a * b / 2 ^ 64)

-- a word mixed into a hash
abbrev pub mixed : (hash word : ℕ) → ℕ
mixed hash word = folded (bit_xor hash word) 0x9e37_79b9_7f4a_7c15

-- a state's number of a list, and none, as words that differ
abbrev pub code_word : Option ℕ → ℕ
code_word None = 0
code_word (Some c) = c + 1

-- a letter and a target, both of 32 bits at most
abbrev pub edge_word : (letter target : ℕ) → ℕ
edge_word letter target = letter * 2 ^ 32 + target

-- the words of the state, mixed one after another
unfoldable pub mixed_words : State → ℕ
mixed_words s =
    fold (λ hash (e : Edge). mixed hash (edge_word e.letter e.target))
    (mixed 0x243f_6a88_85a3_08d3 (code_word s.code)) s.edges

-- the low half of that
unfoldable pub hash_of : State → ℕ
hash_of s = bit_and (mixed_words s) (2 ^ 32 - 1)
