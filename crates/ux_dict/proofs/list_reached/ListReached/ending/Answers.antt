use Rattle.std.proofs.Common.{List, subst, sym}
use Rattle.std.specs.List.{AllZip}
use Rattle.std.specs.Str.{chars}
use Rattle.ux_alphabet.specs.Letters.{Fits}
use Rattle.ux_dela.specs.declared.entry.Entry.{Entry}
use Rattle.ux_dela.specs.Sound.{IsSound}
use Rattle.ux_dict.specs.declared.parts.Part.{Part}
use Rattle.ux_dict.specs.Parts.{AreFittingParts}
use Rattle.ux_dict.proofs.ChosenLemmas.{chosen-within}
use Rattle.ux_dict.proofs.list_reached.ListReached.ending.Goals as goal

pub returns-clause-found : goal.returns-clause-found
returns-clause-found c = λ alphabet content text leads.
    c.in_ok-whole_forms.ensures alphabet (chars text) content
    (subst (λ (l : List Part). AreFittingParts alphabet (chars text) content l)
    (sym c.deref.ensures.value) leads.fit)

pub returns-clause-sound : goal.returns-clause-sound
returns-clause-sound c = λ alphabet content text leads.
    let W : Entry → Type 0 = λ entry. AllZip (Fits alphabet) (chars entry.form) (chars text) in
    let fit = subst (λ (l : List Part). AreFittingParts alphabet (chars text) content l)
    (sym c.deref.ensures.value) leads.fit in
    chosen-within W IsSound (c.in_ok-whole_forms.ensures alphabet (chars text) content fit)
    leads.sound
