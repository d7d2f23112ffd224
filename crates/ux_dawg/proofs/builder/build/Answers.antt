use Rattle.std.proofs.Common.{List, ℕ, length, take, refl, sym, subst}
use Rattle.std.proofs.lemmas.Option.{slice_get_read}
use Rattle.ux_dawg.specs.declared.state.Form.{Form}
use Rattle.ux_dawg.specs.Forms.{MayFollow}
use Rattle.ux_dawg.proofs.FormsLemmas.{may_follow}
use Rattle.ux_dawg.proofs.builder.build.Goals as goal

pub add-requires : goal.add-requires
add-requires c =
    let at = slice_get_read c.args.forms.now (length c.args.forms.now) c.loop-form.form-index
    c.form-item.result refl c.loop-form-test.true c.form-item.is in
    subst (λ (forms : List Form). MayFollow forms c.as_slice.result.now) (sym c.loop-form.invariant)
    (subst (λ (word : List ℕ). MayFollow (take c.loop-form.form-index c.args.forms.now) word)
    (sym c.as_slice.ensures)
    (may_follow c.args.forms.now c.loop-form.form-index c.form-item.result at c.requires.sorted
    c.requires.few))
