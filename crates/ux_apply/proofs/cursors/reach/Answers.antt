use Rattle.std.proofs.Common.{List, [], subst, sym}
use Rattle.std.proofs.lemmas.Result.{IfOk-weaker}
use Rattle.ux_apply.specs.declared.cursors.Cursor.{Cursor}
use Rattle.ux_apply.specs.Applying.{contents}
use Rattle.ux_apply.specs.Cursors.{AreReachedBy}
use Rattle.ux_apply.proofs.cursors.reach.Goals as goal

pub returns : goal.returns
returns g c =
    let dics = contents g.L.Lexicon.content c.args.dics.now in
    IfOk-weaker c.go_on.result _ _
    (λ next goes. goes dics [] (subst (λ (l : List Cursor). AreReachedBy c.args.alphabet.now dics [] l)
    (sym c.deref.ensures.value) (c.in_ok-cursors.ensures c.args.alphabet.now))) c.go_on.ensures
