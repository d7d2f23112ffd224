use Rattle.std.proofs.Common.{◌≡◌, ◌↔◌, ℕ, List, subst}
use Rattle.std.specs.Prelude.{Some}
use Rattle.ux_dawg.specs.declared.state.State.{State}
use Rattle.ux_dawg.specs.Paths.{IsStep}
use Rattle.ux_dawg.proofs.dawg.Dawg.step.Goals as goal

pub returns : goal.returns
returns c =
    subst (λ (states : List State). (t : ℕ) → (c.step.result ≡ Some t)
    ↔ IsStep states c.args.number c.args.letter t) c.self.view_is c.step.ensures
