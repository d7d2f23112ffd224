use Rattle.std.proofs.Common.{◌≡◌, length, reverse}
use Rattle.std.specs.Str.{chars}
use Rattle.std.specs.Ordering.{nat_cmp}
use Rattle.std.specs.Cmp.Lexicographic.{slice_cmp}
use denote.Text.{Utf8}
use denote.Shadow.{shadow}
use Rattle.ux_concordance.proofs.characters.compare_ends.Given as goal

-- the texts have the same end, and what is left is text and compares as the whole does
abbrev pub invariant-loop-before_a : goal.invariant-loop-before_a
invariant-loop-before_a l = record {
  first : shadow (Utf8 l.a);
  second : shadow (Utf8 l.b);
  same : slice_cmp nat_cmp (reverse (chars l.initial.a)) (reverse (chars l.initial.b))
      ≡ slice_cmp nat_cmp (reverse (chars l.a)) (reverse (chars l.b));
}

abbrev pub decreases-loop-before_a : goal.decreases-loop-before_a
decreases-loop-before_a l = length l.a
