use Rattle.std.proofs.Common.{subst, ◌∙◌, sym}
use Rattle.std.specs.Prelude.{Contains}
use Rattle.std.proofs.lemmas.Option.{same_Some, none-some}
use Rattle.ux_listing.proofs.SetsLemmas.{still}
use Rattle.ux_listing.proofs.marking.mark_end.Goals as goal

pub returns-in_default-clause-kept : goal.returns-in_default-clause-kept
returns-in_default-clause-kept c = λ n h. h

pub returns-in_default-clause-has : goal.returns-in_default-clause-has
returns-in_default-clause-has c = λ n at.
    absurd (none-some n (sym c.in_default.is ∙ (c.place_of.ensures n).1 at))

pub returns-clause-kept : goal.returns-clause-kept
returns-clause-kept c = still _ _ c.in_ok-number.ensures.added.adds.kept

pub returns-clause-has : goal.returns-clause-has
returns-clause-has c = λ n at. subst (Contains c.number.new.set.keys)
    (same_Some c.in-Some.place n (sym c.in-Some.is ∙ (c.place_of.ensures n).1 at))
    c.in_ok-number.ensures.added.has
