use Rattle.std.proofs.Common.{◌≡◌, ◌↔◌, ℕ, List, [], subst}
use Rattle.std.specs.Prelude.{Some}
use Rattle.ux_dawg.specs.declared.state.State.{State}
use Rattle.ux_dawg.specs.Paths.{IsPath}
use Rattle.ux_dawg.proofs.FlatLemmas.{code_tells}
use Rattle.ux_dawg.proofs.dawg.Dawg.final_of.Goals as goal

pub returns : goal.returns
returns c =
    subst (λ (states : List State). (d : ℕ) → (c.code.result ≡ Some d)
    ↔ IsPath states c.args.number [] d) c.self.view_is
    (code_tells c.self.inside.states c.args.number c.code.result c.code.ensures)
