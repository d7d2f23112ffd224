use Rattle.std.proofs.Common.{refl}
use Rattle.ux_dela.specs.Delaf.{IsSkipped}
use Rattle.ux_dela.proofs.StemLemmas.{says_no_stem, says_one}
use Rattle.ux_dela.proofs.delas.count_line.Goals as goal

pub returns-then-is_skipped-clause-ok : goal.returns-then-is_skipped-clause-ok
returns-then-is_skipped-clause-ok c = says_no_stem c.args.line.now (c.if-is_skipped.ensures.0 refl)

pub returns-clause-ok : goal.returns-clause-ok
returns-clause-ok c =
    let counts : IsSkipped c.args.line.now → ⊥ = λ is. (let t = c.is_skipped.ensures.1 is in cc) in
    let stem = c.in_ok-check_stem.ensures.ok in
    says_one c.args.line.now stem.0 stem.1 counts
