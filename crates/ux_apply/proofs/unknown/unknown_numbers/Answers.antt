use Rattle.std.proofs.Common.{List, ℕ, ◌↔◌, subst, sym}
use Rattle.std.specs.Prelude.{Contains}
use Rattle.ux_apply.specs.Unknown.{IsWithoutRow}
use Rattle.ux_apply.proofs.unknown.unknown_numbers.Goals as goal

pub returns-clause-exact : goal.returns-clause-exact
returns-clause-exact c number =
    subst
    (λ (l : List ℕ). Contains l number ↔ IsWithoutRow c.args.words.now c.args.rows.now number)
    (sym c.in_ok-numbers_in.ensures.items) (c.in_ok-set.ensures number)
