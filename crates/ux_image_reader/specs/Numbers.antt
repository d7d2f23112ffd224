-- The numbers of a file: 32 bits each, the least byte first. Public: the crate's public contracts
-- speak of it.
use Rattle.std.specs.Prelude.{ℕ, ◌+◌, ◌*◌, ◌^◌, List, [], ◌∷◌}

-- the number of four bytes
abbrev pub number_of : (a b c d : ℕ) → ℕ
number_of a b c d = a + b * 2 ^ 8 + c * 2 ^ 16 + d * 2 ^ 24

-- the whole numbers of which the bytes are made; up to three bytes may be left
abbrev pub numbers_of : List ℕ → List ℕ
numbers_of (a ∷ (b ∷ (c ∷ (d ∷ bytes)))) = number_of a b c d ∷ numbers_of bytes
numbers_of _ = []
