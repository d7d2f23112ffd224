-- What is known of a variable at first.
use Rattle.std.specs.Prelude.{None}
use Rattle.ux_folds.specs.declared.kept.Known.{Known}

-- nothing is known of a variable
abbrev pub NOTHING_KNOWN : Known
NOTHING_KNOWN = record { noted = None; collected = None; value = None }
