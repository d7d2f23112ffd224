use Rattle.std.proofs.Common.{All}
use Rattle.std.specs.Str.{IsUtf8, chars}
use Rattle.std.specs.Str.Iter.{chars_rest}
use Rattle.ux_walk.specs.Literals.{IsPlainChar}
use Rattle.ux_walk.proofs.words.is_plain.Given as goal

-- all characters are plain where those that are left are
abbrev pub invariant-loop-c : goal.invariant-loop-c
invariant-loop-c l = record {
  whole : All (IsPlainChar l.alphabet) (chars (chars_rest l.c-iterator)) →
      All (IsPlainChar l.alphabet) (chars l.text);
  utf8 : IsUtf8 (chars_rest l.c-iterator);
}
