use Rattle.std.proofs.Common.{◌↔◌, subst, sym}
use Rattle.std.specs.Prelude.{IsTrue}
use Rattle.std.specs.Str.{chars}
use Rattle.ux_reading_match.specs.declared.spelling.Case.{Case}
use Rattle.ux_reading_match.specs.Cases.{IsOfCase}
use Rattle.ux_reading_match.proofs.spelling.is_of_case.Goals as goal

pub returns-in-Lower : goal.returns-in-Lower
returns-in-Lower c =
    subst
    (λ (case : Case). IsTrue c.is_lower.result
    ↔ IsOfCase c.args.alphabet.now case (chars c.args.text.now)) (sym c.in-Lower.is)
    c.is_lower.ensures

pub returns-in-Upper : goal.returns-in-Upper
returns-in-Upper c =
    subst
    (λ (case : Case). IsTrue c.is_upper.result
    ↔ IsOfCase c.args.alphabet.now case (chars c.args.text.now)) (sym c.in-Upper.is)
    c.is_upper.ensures
