use Rattle.std.proofs.Common.{List, ℕ}
use Rattle.ux_tokens.specs.Numbers.{texts_in}
use Rattle.ux_walk.specs.Literals.{AreReady, IsFitted}
use Rattle.ux_walk.proofs.RaisedLemmas.{AreListed}
use Rattle.ux_walk.proofs.words.Words.numbers.Given as goal

-- listed are the number of the text itself, and the fitted ones among those that others may fit
abbrev pub invariant-loop-number : goal.invariant-loop-number
invariant-loop-number l = (texts : List (List ℕ)) → AreReady l.alphabet texts l.self →
    AreListed (IsFitted l.alphabet (texts_in l.self.texts) l.label) l.initial.numbers.items
    l.number-items l.number-index l.numbers.items
