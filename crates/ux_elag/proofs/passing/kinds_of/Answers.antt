use Rattle.std.proofs.Common.{ℕ, ◌≡◌, ◌∙◌, [], arith, refl, sym, subst, length}
use Rattle.std.proofs.lemmas.List.{get_or_default}
use Rattle.ux_sentence.specs.declared.sentence.Reading.TheVariants.{Raw}
use Rattle.ux_elag.specs.Ready.{AreKinds}
use Rattle.ux_elag.proofs.KindsLemmas.{IsNumber, kinds-more, kinds-table}
use Rattle.ux_elag.proofs.passing.kinds_of.Goals as goal

pub loop-reading-preserved : goal.loop-reading-preserved
loop-reading-preserved c =
    let readings = c.args.readings.now in
    let i = c.loop-reading.reading-index in
    let reading = c.reading-item.result in
    let is = c.reading-item.is ∙ get_or_default readings i reading (Raw [])
    c.loop-reading-test.true in
    record {
      rule = c.in_ok-kind_of_reading.ensures.rule ∙ c.loop-reading.invariant.rule;
      kinds = kinds-more c.args.steps.now (IsNumber readings) i c.loop-reading.monitor.kinds
          c.kind_of_reading.new.monitor.kinds c.loop-reading.kinds.items c.push.new.self.items
          c.in_ok-kind_of_reading.field-0 reading c.loop-reading.invariant.kinds
          c.in_ok-kind_of_reading.ensures.more c.in_ok-push.ensures.items
          c.in_ok-kind_of_reading.ensures.kind (λ other said. said ∙ sym is);
    }

pub returns-clause-kinds : goal.returns-clause-kinds
returns-clause-kinds c =
    let readings = c.args.readings.now in
    let all : c.loop-reading.reading-index ≡ length readings = omega arith in
    kinds-table c.args.steps.now (IsNumber readings) readings c.loop-reading.monitor.kinds
    c.loop-reading.kinds.items
    (subst (λ (n : ℕ). AreKinds c.args.steps.now (IsNumber readings) n c.loop-reading.monitor.kinds
    c.loop-reading.kinds.items) all c.loop-reading.invariant.kinds) (λ place lt. refl)
