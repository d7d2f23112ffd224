use Rattle.std.proofs.Common.{arith, [], Bor, List, ℕ}
use Rattle.std.proofs.lemmas.Grind.{common_steps}
use Rattle.std.proofs.lemmas.Result.{err_from_is_err_and}
use Rattle.ux_reasons.proofs.TextLemmas.{written_front, written_more}
use Rattle.ux_reasons.proofs.telling.say.Goals as goal

abbrev NONE : Bor (List ℕ)
NONE = record { ref_ptr = (0, 0); now = [] }

pub returns-in_err-write_all-clause-front : goal.returns-in_err-write_all-clause-front
returns-in_err-write_all-clause-front g c =
    let r = c.from_residual in
    let p = err_from_is_err_and r.result r.ensures.1 in
    let written = g.E.Sink.written in
    rw p.1 (written_front c.args.texts.now c.loop-text.text-index NONE
    (omega (arith, c.loop-text-test.true)) (written c.args.err.now) (written c.loop-text.err)
    (written c.write_all.new.self) c.as_bytes.result.now c.as_bytes.ensures.value
    c.loop-text.invariant.written c.in_err-write_all.ensures.err)

pub loop-text-preserved : goal.loop-text-preserved
loop-text-preserved g c =
    let written = g.E.Sink.written in
    record {
      later = omega (arith, c.loop-text.invariant.later, c.in_ok-write_all.ensures.later);
      written = written_more c.args.texts.now c.loop-text.text-index NONE
          (omega (arith, c.loop-text-test.true)) (written c.args.err.now)
          (written c.loop-text.err) (written c.write_all.new.self) c.as_bytes.result.now
          c.as_bytes.ensures.value c.loop-text.invariant.written c.in_ok-write_all.ensures.ok;
    }

pub returns-clause-line : goal.returns-clause-line
returns-clause-line g c = grind (arith, common_steps)
