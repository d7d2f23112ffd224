use Rattle.std.proofs.Common.{◌∙◌, get_or, refl}
use Rattle.std.proofs.lemmas.Option.{slice_get-get_or}
use Rattle.ux_folds.specs.Known.{NOTHING_KNOWN}
use Rattle.ux_folds.proofs.PuttingLemmas.{collecting_all, collecting_first, collecting_more}
use Rattle.ux_folds.proofs.tables.Tables.collect.Goals as goal

pub loop-known-init : goal.loop-known-init
loop-known-init c = collecting_first c.args.self.now c.as_slice-known-items.result.now c.args.put.now

pub loop-known-preserved : goal.loop-known-preserved
loop-known-preserved c =
    let items = c.as_slice-known-items.result.now in
    let known = get_or items c.loop-known.known-index NOTHING_KNOWN in
    collecting_more c.args.self.now c.loop-known.self c.collected.new.self
    (record c.collected.new.self { variables = c.push.new.self }) items c.args.put.now known
    c.in_ok-collecting.collecting c.loop-known.number c.in_ok-number.number
    c.loop-known.known-index c.loop-known-test.true
    (slice_get-get_or items c.loop-known.known-index NOTHING_KNOWN c.loop-known-test.true)
    c.in_ok-collecting.ensures refl refl c.in_ok-number.ensures c.loop-known.invariant

pub returns : goal.returns
returns c = collecting_all c.args.self.now c.loop-known.self c.as_slice-known-items.result.now
    c.args.put.now c.args.variables c.loop-known.number c.loop-known.known-index
    (λ knowns sound listed. c.as_slice-known-items.ensures.value
    ∙ c.in_ok-knowns.ensures knowns sound listed) c.loop-known-test.false
    c.loop-known.invariant
