use Rattle.std.proofs.Common.{arith, ◌≡◌, suc, ap, sym, ◌∙◌}
use Rattle.ux_dawg.specs.Flat.{start_at}
use Rattle.ux_dawg.proofs.FlatLemmas.{start_behind}
use Rattle.ux_dawg.proofs.states.start_of.Goals as goal

pub returns-in-Some : goal.returns-in-Some
returns-in-Some c =
    let next : c.args.number ≡ suc c.in-Some.before = omega (arith, c.in-Some.ensures) in
    sym (ap (start_at 0 c.args.rows.now) next
    ∙ start_behind 0 c.args.rows.now c.in-Some.before _ (omega (arith, next)))
