use Rattle.std.proofs.Common.{ℕ, List, subst}
use Rattle.ux_admission.specs.Gains.{Gains}
use Rattle.ux_admission.specs.Ways.{IsEndNumber}
use Rattle.ux_admission.proofs.GainsLemmas.{gains_all}
use Rattle.ux_admission.proofs.freeness.ends_of.Goals as goal

pub returns : goal.returns
returns c =
    gains_all c.push_ends.new.ends.items (IsEndNumber c.args.graphs.now)
    (subst (λ (ends : List ℕ). Gains ends c.push_ends.new.ends.items
    (IsEndNumber c.args.graphs.now)) c.new-ends.ensures.items c.in_ok-push_ends.ensures)
