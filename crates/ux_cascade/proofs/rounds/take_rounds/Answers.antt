use Rattle.std.proofs.Common.{arith, ◌∙◌, ◌≡◌, ◌+◌, List, subst, sym}
use Rattle.std.proofs.lemmas.Result.{err_from_is_err_and}
use Rattle.ux_cascade.specs.declared.outcome.Round.{Round}
use Rattle.ux_cascade.specs.Cascades.{TakesRounds}
use Rattle.ux_cascade.proofs.RefusingLemmas.{step_refused}
use Rattle.ux_cascade.proofs.RoundLemmas.{IsUnderWay, under_way_begun, under_way_more, under_way_over, under_way_settled}
use Rattle.ux_cascade.proofs.rounds.take_rounds.Goals as goal

-- no round is taken yet
pub loop-round-init : goal.loop-round-init
loop-round-init g c =
    under_way_begun c.args.alphabet.now (g.F.Finder.finds c.args.finder.now) c.args.step
    c.args.text c.args.rounds.now.items c.requires.cut

-- the text that a round left is refused
pub returns-in_err-next-clause-err : goal.returns-in_err-next-clause-err
returns-in_err-next-clause-err g c =
    let p = err_from_is_err_and c.from_residual.result c.from_residual.ensures.1 in
    let l = c.loop-round in
    rw (p.1, p.2) (step_refused c.args.alphabet.now (g.F.Finder.finds c.args.finder.now) c.args.step
    c.args.text l.round c.args.times c.args.rounds.now.items l.rounds.items l.text
    c.in_err-next.field-0.0 c.loop-round-test.true l.invariant c.in_err-next.ensures.err)

-- a round left the text as it was
pub returns-then-read_alike-clause-ok : goal.returns-then-read_alike-clause-ok
returns-then-read_alike-clause-ok g c =
    let l = c.loop-round in
    let finds = g.F.Finder.finds c.args.finder.now in
    let next = c.in_ok-next.next in
    let earlier = c.args.rounds.now.items in
    subst (λ (rounds : List Round). TakesRounds c.args.alphabet.now finds c.args.step c.args.times
    c.args.text earlier rounds next) (sym c.in_ok-push.ensures.items)
    (under_way_settled c.args.alphabet.now finds c.args.step c.args.text l.round c.in_ok-next.spans
    earlier l.rounds.items l.text next l.invariant c.args.times c.loop-round-test.true
    c.in_ok-next.ensures.ok (sym c.read_alike.ensures ∙ c.if-read_alike.true))

-- a round changed the text
pub loop-round-preserved : goal.loop-round-preserved
loop-round-preserved g c =
    let l = c.loop-round in
    let finds = g.F.Finder.finds c.args.finder.now in
    let next = c.in_ok-next.next in
    let earlier = c.args.rounds.now.items in
    subst (λ (rounds : List Round). IsUnderWay c.args.alphabet.now finds c.args.step c.args.text
    (l.round + 1) earlier rounds next) (sym c.in_ok-push.ensures.items)
    (under_way_more c.args.alphabet.now finds c.args.step c.args.text l.round c.in_ok-next.spans
    earlier l.rounds.items l.text next l.invariant c.in_ok-next.ensures.ok
    (sym c.read_alike.ensures ∙ c.if-read_alike.false))

-- each round changed the text
pub returns-clause-ok : goal.returns-clause-ok
returns-clause-ok g c =
    let l = c.loop-round in
    let all : l.round ≡ c.args.times = omega (arith, c.loop-round-test.false, l.auto.round-end) in
    under_way_over c.args.alphabet.now (g.F.Finder.finds c.args.finder.now) c.args.step c.args.text
    l.round c.args.times c.args.rounds.now.items l.rounds.items l.text all l.invariant
