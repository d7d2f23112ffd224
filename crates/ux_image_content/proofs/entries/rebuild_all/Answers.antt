use Rattle.ux_image_content.proofs.EntryLemmas.{adds_form, adds_none}
use Rattle.ux_image_content.proofs.entries.rebuild_all.Goals as goal

pub loop-form-init : goal.loop-form-init
loop-form-init c = adds_none c.new-entries.result.items

pub loop-form-preserved : goal.loop-form-preserved
loop-form-preserved c =
    adds_form c.args.lists.now.keys c.args.forms.now c.loop-form.form-index c.form-item.result
    c.new-entries.result.items c.loop-form.entries.items _ c.loop-form-test.true c.form-item.is
    c.loop-form.invariant c.in_ok-rebuild_form.ensures
