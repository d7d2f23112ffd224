-- What a place tells of a label: what it does to contexts, what it calls, and whether it takes a
-- token. Public, through `Standing`.
use Rattle.ux_net.specs.declared.label.Label.{Label}
use Rattle.ux_net.specs.declared.label.Label.TheVariants.{Empty, CaseFolded, CaseExact, Mask, Brace, Space, NoSpace, Begin, End, Positive, Negative, ContextEnd, Cut, Call}

-- one label for all that take a token, and one for all that take nothing
abbrev pub kind_of : Label → Label
kind_of Empty = Empty
kind_of (CaseFolded text) = Space
kind_of (CaseExact text) = Space
kind_of (Mask mask) = Space
kind_of (Brace text) = Space
kind_of Space = Space
kind_of NoSpace = Empty
kind_of (Begin name) = Empty
kind_of (End name) = Empty
kind_of Positive = Positive
kind_of Negative = Negative
kind_of ContextEnd = ContextEnd
kind_of Cut = Empty
kind_of (Call h) = Call h
