-- Lists in rows: one for each number.
use Rattle.std.specs.Prelude.{ℕ, List, [], map, get_or, Vec}

-- the items of the row with this number, none where there is no such row
abbrev pub row_at : {T Z : Type 0} → List (Vec T Z) → ℕ → List T
row_at rows place = get_or (map (λ row. row.items) rows) place []
