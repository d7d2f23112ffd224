use Rattle.std.proofs.Common.{List, ℕ, sym, subst}
use Rattle.std.proofs.lemmas.Option.{MatchOption-at_none}
use Rattle.ux_dela.specs.Printed.{IsCodesText}
use Rattle.ux_dela.specs.declared.entry.Codes.{Codes}
use Rattle.ux_image.proofs.rebuilding.rebuild.Goals as goal

-- no codes are printed so, and so no entry has them
pub returns-in_default : goal.returns-in_default
returns-in_default c = λ entry made.
    let codes : Codes = record { gram = entry.gram; sem = entry.sem; infl = entry.infl } in
    let none = MatchOption-at_none ((codes : Codes) → IsCodesText c.as_str.result.now codes → ⊥)
    (IsCodesText c.as_str.result.now) c.in_default.is c.in_ok-codes.ensures in
    none codes (subst (λ (t : List ℕ). IsCodesText t codes) (sym c.as_str.ensures) made.are_codes)
