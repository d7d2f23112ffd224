-- Labels that take nothing. Public: contracts of compiling speak of it.
use Rattle.std.specs.Prelude.{List, Bool, true, false}
use Rattle.std.specs.List.{list_all}
use Rattle.ux_net.specs.declared.label.Label.{Label}
use Rattle.ux_net.specs.declared.label.Label.TheVariants.{Empty, NoSpace, Begin, End, Cut}

-- a label that takes no token, and calls nothing
abbrev pub is_silent : Label → Bool
is_silent Empty = true
is_silent NoSpace = true
is_silent (Begin name) = true
is_silent (End name) = true
is_silent Cut = true
is_silent other = false

-- labels that are all silent
abbrev pub are_silent : List Label → Bool
are_silent labels = list_all is_silent labels
