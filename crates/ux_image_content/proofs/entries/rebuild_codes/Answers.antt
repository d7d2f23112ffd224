use Rattle.std.proofs.Common.{sym, subst}
use Rattle.ux_image_content.specs.Walking.{IsGood}
use Rattle.ux_image_content.proofs.EntryLemmas.{adds_code, adds_none}
use Rattle.ux_image_content.proofs.entries.rebuild_codes.Goals as goal

pub loop-code-init : goal.loop-code-init
loop-code-init c = adds_none c.args.entries.now.items

pub rebuild_one-requires : goal.rebuild_one-requires
rebuild_one-requires c =
    subst IsGood (sym c.code-item.is)
    (c.requires c.loop-code.code-index c.code-item.result c.loop-code-test.true)

pub loop-code-preserved : goal.loop-code-preserved
loop-code-preserved c =
    adds_code c.args.form.now c.args.codes.now c.loop-code.code-index c.code-item.result
    c.args.entries.now.items c.loop-code.entries.items _ c.loop-code-test.true c.code-item.is
    c.loop-code.invariant c.in_ok-rebuild_one.ensures
