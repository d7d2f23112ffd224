use Rattle.std.proofs.Common.{arith, refl, sym}
use Rattle.ux_masks.proofs.named.is_refused.Goals as goal

pub returns-in-E-3 : goal.returns-in-E-3
returns-in-E-3 c = (λ _. (2, omega arith, sym c.in-E.is-text-2), λ _. refl)

pub returns-in-E-4 : goal.returns-in-E-4
returns-in-E-4 c = (λ _. (3, omega arith, sym c.in-E.is-text-3), λ _. refl)

pub returns-in-E-5 : goal.returns-in-E-5
returns-in-E-5 c = (λ _. (4, omega arith, sym c.in-E.is-text-4), λ _. refl)
