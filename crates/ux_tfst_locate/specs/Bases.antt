-- Sentences side by side as the basis of a chart. Inner: the crate's own functions alone speak of it.
use Rattle.ux_meaning.specs.Inputs.{Input}
use Rattle.ux_net.specs.declared.label.Label.{Label}
use Rattle.ux_net.specs.declared.label.Label.TheVariants.{NoSpace, Begin, End, Cut}
use Rattle.ux_tfst_locate.specs.declared.basis.LatticeBasis.{LatticeBasis}
use Rattle.ux_tfst_locate.specs.Inputs.{lattice_input}
use Rattle.ux_tfst_locate.specs.Lattices.{rows_of}

-- the basis as an input
abbrev pub input_of : LatticeBasis → Input
input_of basis = lattice_input basis.alphabet.now basis.readings.now (rows_of basis.lattice.now)

-- a label that takes nothing and stays: where no space stands, `#` does too
abbrev pub StaysPut : Label → Type 0
StaysPut NoSpace = Unit {0}
StaysPut (Begin name) = Unit {0}
StaysPut (End name) = Unit {0}
StaysPut Cut = Unit {0}
StaysPut other = ⊥
