use Rattle.std.proofs.Common.{List, ℕ, subst, sym}
use Rattle.std.specs.Prelude.{Contains}
use Rattle.ux_walk.proofs.Results.{on_ok}
use Rattle.ux_text_chart.proofs.part_index.add_edge.Goals as goal

pub returns-clause-listed : goal.returns-clause-listed
returns-clause-listed c = λ texts ready. on_ok c.add_tokens.result _ _
    (λ listed token fits. listed token (subst (λ (l : List ℕ). Contains l token)
    (sym c.as_slice.ensures.value) ((c.in_ok-tokens.ensures texts ready token).1 fits)))
    c.add_tokens.ensures.listed
