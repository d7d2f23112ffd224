use Rattle.std.proofs.Common.{arith, inr}
use Rattle.ux_compile.proofs.AllFitLemmas.{ranks_small}
use Rattle.ux_compile.proofs.grammar.admitted_net.Goals as goal

pub build-requires-clause-small : goal.build-requires-clause-small
build-requires-clause-small c =
    let places = c.args.places.now in
    let admission = c.in_ok-admission.admission in
    let count = c.requires.count in
    let few = c.requires.few_graphs in
    ranks_small places admission.ranks.items admission.free.items c.requires.few
    (omega (arith, count, few)) c.in_ok-admission.ensures.ranks

pub returns-clause-built : goal.returns-clause-built
returns-clause-built c = record {
  named = c.in_ok-build.ensures.names;
  ranks = c.in_ok-admission.admission.ranks.items;
  free = c.in_ok-admission.admission.free.items;
  ranked = c.in_ok-admission.ensures.ranks;
  rows = c.args.closers.now;
  closing = c.requires.closing;
  levels = c.args.levels.now;
  leveled = c.requires.leveled;
  closed = c.requires.closed;
  built = c.in_ok-build.ensures.built;
}

pub admitted-requires-clause-opened : goal.admitted-requires-clause-opened
admitted-requires-clause-opened c = λ g c' b. c.requires.closed g c' (inr (inr b))
