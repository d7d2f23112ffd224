-- Lists of codes that are lent. Inner: the crate's own functions alone speak of it.
use Rattle.std.specs.Borrow.{Bor}
use Rattle.std.specs.Prelude.{List, map}
use Rattle.ux_image.specs.declared.code.CodeList.{CodeList}

-- the lists themselves
abbrev pub lent : List (Bor CodeList) → List CodeList
lent lists = map (λ (list : Bor CodeList). list.now) lists
