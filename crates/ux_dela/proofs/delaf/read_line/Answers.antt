use Rattle.std.proofs.Common.{refl}
use Rattle.ux_dela.specs.Delaf.{IsSkipped}
use Rattle.ux_dela.proofs.LineLemmas.{adds_entries, adds_nothing}
use Rattle.ux_dela.proofs.delaf.read_line.Goals as goal

pub returns-then-is_skipped-clause-ok : goal.returns-then-is_skipped-clause-ok
returns-then-is_skipped-clause-ok c =
    adds_nothing c.args.line.now c.args.entries.now.items (c.if-is_skipped.ensures.0 refl)

pub returns-clause-ok : goal.returns-clause-ok
returns-clause-ok c =
    let counts : IsSkipped c.args.line.now → ⊥ = λ is. (let t = c.is_skipped.ensures.1 is in cc) in
    adds_entries c.args.line.now c.in_ok-cut.cut c.in_ok-codes.codes c.args.entries.now.items
    c.put_entries.new.entries.items c.in_ok-cut.ensures.ok c.in_ok-codes.ensures.ok counts
    c.in_ok-put_entries.ensures
