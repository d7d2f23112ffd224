use Rattle.std.proofs.Common.{List, [], ◌++◌, take, subst, sym, arith}
use Rattle.std.specs.List.{AllZip}
use Rattle.std.specs.Str.{chars}
use Rattle.std.proofs.lemmas.List.{take_all}
use Rattle.ux_alphabet.specs.Letters.{Fits}
use Rattle.ux_dela.specs.declared.entry.Entry.{Entry}
use Rattle.ux_dict.specs.declared.parts.Part.{Part}
use Rattle.ux_dict.specs.Forms.{IsChosen, none}
use Rattle.ux_dict.specs.Parts.{IsFittingPart, BeginsFittingAll, entries_of}
use Rattle.ux_dict.proofs.ChosenLemmas.{chosen-append, chosen-again}
use Rattle.ux_dict.proofs.FittingLemmas.{whole_part, whole_begins, entries_of-more}
use Rattle.ux_dict.proofs.list_reached.whole_forms.Goals as goal

pub loop-part-init : goal.loop-part-init
loop-part-init c alphabet text each =
    subst (λ (l : List Entry). IsChosen (λ entry. AllZip (Fits alphabet) (chars entry.form) text) [] l)
    (sym c.new-found.ensures.items) none

pub loop-part-preserved : goal.loop-part-preserved
loop-part-preserved c alphabet text each =
    let W : Entry → Type 0 = λ entry. AllZip (Fits alphabet) (chars entry.form) text in
    let parts = c.args.parts.now in
    let part = c.part-item.result in
    let i = c.loop-part.part-index in
    let at = c.part-item.is in
    let fits = subst (IsFittingPart alphabet text) (sym at) (each i part (omega arith)) in
    let found = whole_part alphabet text part c.ending.result.now fits c.ending.ensures in
    let both = chosen-append W (c.loop-part.invariant alphabet text each) found in
    subst (λ (l : List Entry). IsChosen W l c.push_copies.new.found.items)
    (sym (entries_of-more parts i part (omega arith) at))
    (subst (IsChosen W (entries_of (take i parts) ++ part.entries.now))
    (sym c.in_ok-push_copies.ensures) both)

pub returns : goal.returns
returns c alphabet text all fit =
    let W : Entry → Type 0 = λ entry. AllZip (Fits alphabet) (chars entry.form) text in
    let found = subst (λ (l : List Part). IsChosen W (entries_of l) c.loop-part.found.items)
    (take_all c.loop-part.part-index c.args.parts.now (omega arith))
    (c.loop-part.invariant alphabet text fit.each) in
    chosen-again (BeginsFittingAll alphabet text) W (whole_begins alphabet text) fit.whole found
