use Rattle.std.proofs.Common.{List, [], ◌∷◌, ◌++◌, subst, sym}
use Rattle.ux_tokens.specs.Tokens.{SPACE}
use Rattle.ux_apply.specs.declared.cursors.Cursor.{Cursor}
use Rattle.ux_apply.specs.Cursors.{AreReachedBy}
use Rattle.ux_apply.proofs.starts.start_there.Goals as goal

pub returns-then-not-may_go_on : goal.returns-then-not-may_go_on
returns-then-not-may_go_on c = λ dics text led.
    let lines = c.args.alphabet.now in
    let spaced = text ++ SPACE ∷ [] in
    let on = c.in_ok-spaced.ensures dics text led in
    let there = subst (λ (l : List Cursor). AreReachedBy lines dics spaced l)
    (sym c.deref.ensures.value) on in
    (on.utf8, c.may_go_on.ensures c.if-not-may_go_on.true spaced lines dics there)
