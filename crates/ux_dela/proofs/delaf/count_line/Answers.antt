use Rattle.std.proofs.Common.{refl}
use Rattle.ux_dela.specs.Delaf.{IsSkipped}
use Rattle.ux_dela.proofs.LineLemmas.{says_many, says_none}
use Rattle.ux_dela.proofs.delaf.count_line.Goals as goal

pub returns-then-is_skipped-clause-ok : goal.returns-then-is_skipped-clause-ok
returns-then-is_skipped-clause-ok c = says_none c.args.line.now (c.if-is_skipped.ensures.0 refl)

pub returns-clause-ok : goal.returns-clause-ok
returns-clause-ok c =
    let counts : IsSkipped c.args.line.now → ⊥ = λ is. (let t = c.is_skipped.ensures.1 is in cc) in
    says_many c.args.line.now c.in_ok-cut.cut c.said_by.result c.in_ok-cut.ensures.ok
    c.in_ok-check_codes.ensures.ok counts c.said_by.ensures.many
