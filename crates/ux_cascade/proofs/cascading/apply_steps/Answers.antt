use Rattle.std.proofs.Common.{arith, ◌≡◌, length, refl, subst}
use Rattle.std.specs.Prelude.{slice_index}
use Rattle.std.proofs.lemmas.Result.{err_from_is_err_and}
use Rattle.ux_tokens.specs.Tokens.{joined}
use Rattle.ux_cascade.specs.Cascades.{AreSteps}
use Rattle.ux_cascade.proofs.CascadeLaws.{few_left, made}
use Rattle.ux_cascade.proofs.RefusingLemmas.{steps_refused}
use Rattle.ux_cascade.proofs.RoundLemmas.{steps_more}
use Rattle.ux_cascade.proofs.cascading.apply_steps.Goals as goal

-- a round of this step leaves too many tokens
pub returns-in_err-text-clause-err : goal.returns-in_err-text-clause-err
returns-in_err-text-clause-err g c =
    let p = err_from_is_err_and c.from_residual.result c.from_residual.ensures.1 in
    let l = c.loop-step in
    rw (p.1, p.2) (steps_refused c.args.alphabet.now (g.F.Finder.finds c.args.finder.now)
    c.args.times.now c.args.text l.step l.rounds.items l.text c.in_err-text.field-0.0
    c.loop-step-test.true l.invariant.steps c.in_err-text.ensures.err)

-- this step is applied
pub loop-step-preserved : goal.loop-step-preserved
loop-step-preserved g c =
    let l = c.loop-step in
    record {
      steps = steps_more c.args.alphabet.now (g.F.Finder.finds c.args.finder.now) c.args.times.now
          c.args.text l.step (slice_index c.args.times.now l.step) l.rounds.items
          c.take_rounds.new.rounds.items l.text c.in_ok-text.text refl l.invariant.steps
          c.in_ok-text.ensures.ok;
      cut = c.in_ok-text.ensures.cut;
    }

-- all are applied, so no round left too many
pub returns-clause-exact : goal.returns-clause-exact
returns-clause-exact g c =
    let l = c.loop-step in
    let finds = g.F.Finder.finds c.args.finder.now in
    let times = c.args.times.now in
    let all : l.step ≡ length times = omega (arith, c.loop-step-test.false, l.auto.step-end) in
    few_left c.args.alphabet.now finds (g.met.F.Finder.one_list c.args.finder.now) times c.args.text
    (made (joined l.text) l.rounds.items) (record {
      after = l.text;
      steps = subst (λ n. AreSteps c.args.alphabet.now finds times c.args.text n l.rounds.items
          l.text) all l.invariant.steps;
      text_is = refl;
    })
