use Rattle.std.proofs.Common.{arith, subst, ◌<◌}
use Rattle.ux_compile.proofs.RanksLemmas.{one_less}
use Rattle.ux_compile.proofs.ranks.next_silent_len.Goals as goal

pub returns-then-front-gt0 : goal.returns-then-front-gt0
returns-then-front-gt0 c =
    let less = one_less c.args.labels.now c.args.from c.requires.from
    (subst (λ n. 0 < n) c.requires.front c.if-front-gt0.true) in
    let front = c.requires.front in
    omega arith
