-- What a line of labels does to contexts, as the code tells it. Inner: the crate's own functions alone
-- speak of it.
use Rattle.ux_admission.specs.declared.line.ContextMark.{ContextMark}
use Rattle.ux_admission.specs.declared.line.ContextMark.TheVariants as line
use Rattle.ux_net.specs.Words.{positive, negative, Mark, ordinary, opens, closes}

-- the mark of a line that is told so
abbrev pub mark_told : ContextMark → Mark
mark_told line.Ordinary = ordinary
mark_told line.Positive = opens positive
mark_told line.Negative = opens negative
mark_told line.Closes = closes
