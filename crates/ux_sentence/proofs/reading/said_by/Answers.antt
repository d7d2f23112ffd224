use Rattle.std.proofs.Common.{inl, inr}
use Rattle.ux_dela.proofs.ExclusionLemmas.{says_excluded}
use Rattle.ux_sentence.proofs.reading.said_by.Goals as goal

-- a line that is refused says nothing
pub returns-in_default : goal.returns-in_default
returns-in_default c = λ said says.
    elim c.in-Err.ensures.refused [
      | inl none ↦ absurd (c.in_default.not-NoMemory none)
      | inr refuses ↦ says_excluded c.args.line.now 1 said c.in-Err.error says refuses
    ]
