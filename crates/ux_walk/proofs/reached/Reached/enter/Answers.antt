use Rattle.std.proofs.Common.{sym, ◌∙◌}
use Rattle.std.proofs.lemmas.Bool.{false≢true}
use Rattle.ux_walk.proofs.Adding.{adds_of, nothing_of}
use Rattle.ux_walk.proofs.Results.{on_ok}
use Rattle.ux_walk.proofs.reached.Reached.enter.Goals as goal

pub returns-then-not-enters : goal.returns-then-not-enters
returns-then-not-enters g c = λ v before sound spells.
    nothing_of v _ c.args.self.now sound
    (λ w t. false≢true (sym c.if-not-enters.true ∙ c.enters.ensures.1 t.0))

pub returns : goal.returns
returns g c = on_ok c.call.result _ _ (λ adds v before sound spells.
    adds_of v _ _ c.args.self.now c.call.new.self (adds v before sound spells)
    (λ w. (λ e. (c.enters.ensures.0 c.if-not-enters.false, e), λ t. t.1))) c.call.ensures
