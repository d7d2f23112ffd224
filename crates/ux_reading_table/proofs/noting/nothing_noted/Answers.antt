use Rattle.std.proofs.Common.{arith, ◌<◌, ◌^◌, ℕ, List, length, sym, subst}
use Rattle.ux_reading_table.specs.Numbered.{AreDifferent}
use Rattle.ux_reading_table.proofs.noting.nothing_noted.Goals as goal

pub returns-clause-noted : goal.returns-clause-noted
returns-clause-noted c = record {
  numbered = rw (c.new.ensures.empty, c.new-2.ensures.items) tt;
  different = subst AreDifferent (sym c.new-3.ensures.empty) (λ place other lt. absurd (omega (arith, lt)));
  few = subst (λ (ts : List (List ℕ)). length ts < 2 ^ 32) (sym c.new-3.ensures.empty) (omega arith);
  known = c.no_codes.ensures;
  likes = c.no_likes.ensures c.new-3.result.keys c.no_codes.result.codes.items;
}
