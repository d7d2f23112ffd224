use Rattle.std.proofs.Common.{rules, refl}
use Rattle.ux_dela.specs.Delaf.{IsSkipped}
use Rattle.ux_dela.proofs.StemLemmas.{adds_stem, adds_no_stem}
use Rattle.ux_dela.proofs.delas.read_line.Goals as goal

pub returns-then-is_skipped-clause-ok : goal.returns-then-is_skipped-clause-ok
returns-then-is_skipped-clause-ok c =
    adds_no_stem c.args.line.now c.args.stems.now.items (c.if-is_skipped.ensures.0 refl)

pub returns-clause-ok : goal.returns-clause-ok
returns-clause-ok c =
    let counts : IsSkipped c.args.line.now → ⊥ = λ is. (let t = c.is_skipped.ensures.1 is in cc) in
    adds_stem c.args.line.now _ c.args.stems.now.items c.push.new.self.items
    c.in_ok-read_stem.ensures.ok counts (search rules)
