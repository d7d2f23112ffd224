-- The test of what each label of a net may be. Inner: the crate's own functions alone speak of it.
use Rattle.std.specs.Prelude.{Bool}
use Rattle.ux_net.specs.declared.label.Label.{Label}
use Rattle.ux_net.specs.declared.labels.Kept.{Kept}
use Rattle.ux_net.specs.declared.labels.Kept.TheVariants.{Plain, Uncut}
use Rattle.ux_net.specs.Nets.{is_plain, is_uncut}

abbrev pub test_of : Kept → Label → Bool
test_of Plain = is_plain
test_of Uncut = is_uncut
