use Rattle.std.proofs.Common.{arith, ◌↔◌, drop, length, subst, sym}
use Rattle.std.specs.Str.{chars}
use Rattle.std.proofs.lemmas.Iterator.{YieldsList-from_chars}
use Rattle.std.proofs.lemmas.Iterator.Consumers.{YieldsList-end, YieldsList-turn}
use Rattle.std.proofs.lemmas.List.{length_push}
use Rattle.ux_dawg.specs.Paths.{Accepts, IsPath}
use Rattle.ux_dawg.proofs.NumberLemmas.{at_end, on, out}
use Rattle.ux_image_lexicon.proofs.finding.number_of.Goals as goal

pub loop-c-preserved : goal.loop-c-preserved
loop-c-preserved c =
    let states = c.args.states.now in
    let word = chars c.args.text.now in
    let k = length c.loop-c.yielded in
    let turn = YieldsList-turn (YieldsList-from_chars c.args.text.now c.utf8.text cc)
    c.loop-c.yielded _ c.loop-c.yielded_by c.next.result _ c.in-Some.c c.in-Some.is
    c.next.ensures.steps in
    let next = c.in_ok-number.field-0 in (
      c.in_ok-number.ensures.within,
      λ n. subst (λ m. IsPath states next (drop m word) n ↔ Accepts states word n)
          (sym (length_push c.loop-c.yielded c.in-Some.c))
          (on states word c.loop-c.number k c.loop-c.invariant.1 c.in-Some.c c.step.result turn.0
          turn.1 c.step.ensures.step next c.in_ok-number.was n),
    )

pub returns-in_err-number : goal.returns-in_err-number
returns-in_err-number c =
    let turn = YieldsList-turn (YieldsList-from_chars c.args.text.now c.utf8.text cc)
    c.loop-c.yielded _ c.loop-c.yielded_by c.next.result _ c.in-Some.c c.in-Some.is
    c.next.ensures.steps in
    out c.args.states.now (chars c.args.text.now) c.loop-c.number (length c.loop-c.yielded)
    c.loop-c.invariant.1 c.in-Some.c c.step.result turn.0 turn.1 c.step.ensures.step
    c.in_err-number.was c.from_residual.result c.from_residual.ensures

pub returns : goal.returns
returns c =
    let end = YieldsList-end (YieldsList-from_chars c.args.text.now c.utf8.text cc)
    c.loop-c.yielded _ c.loop-c.yielded_by _ _ c.in-None.is c.next.ensures.steps in
    at_end c.args.states.now (chars c.args.text.now) c.loop-c.number (length c.loop-c.yielded)
    c.loop-c.invariant.1 (omega (arith, end.1)) c.code_at.result c.code_at.ensures
