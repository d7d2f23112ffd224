use Rattle.std.proofs.Common.{List, [], ◌∷◌, ◌++◌, arith, sym, subst}
use Rattle.std.proofs.lemmas.List.{take_all}
use Rattle.ux_dela.specs.declared.entry.Entry.{Entry}
use Rattle.ux_dict.specs.declared.parts.Part.{Part}
use Rattle.ux_dict.specs.Kept.{IsSpelled}
use Rattle.ux_dict.specs.Parts.{AreFittingParts, IsFittingPart, entries_of}
use Rattle.ux_dict.proofs.FittingLemmas.{fitting_part, fitting_start, entries_of-more, entries_of-at, GoOn-from}
use Rattle.ux_dict.proofs.continuing.continued.Goals as goal

pub loop-part-init : goal.loop-part-init
loop-part-init c lines all front d are each spelled =
    subst (λ (l : List Part). AreFittingParts lines (front ++ d ∷ []) [] l)
    (sym c.new-next.ensures.items) (fitting_start lines (front ++ d ∷ []))

pub loop-part-preserved : goal.loop-part-preserved
loop-part-preserved c lines all front d are each spelled =
    let parts = c.args.parts.now in
    let part = c.part-item.result in
    let i = c.loop-part.part-index in
    let at = c.part-item.is in
    let fits = subst (λ (p : Part). IsFittingPart lines front p) (sym at)
    (each i part (omega arith)) in
    subst (λ (l : List Entry). AreFittingParts lines (front ++ d ∷ []) l
    c.push_continued.new.parts.items) (sym (entries_of-more parts i part (omega arith) at))
    (fitting_part lines all c.args.letters.now front d are part c.loop-part.next.items
    c.push_continued.new.parts.items fits c.in_ok-push_continued.ensures
    (entries_of-at (IsSpelled all) parts i part (omega arith) at spelled) _
    (c.loop-part.invariant lines all front d are each spelled))

pub returns : goal.returns
returns c lines all d are =
    GoOn-from lines all (d ∷ []) c.args.parts.now c.loop-part.next.items (λ front each spelled.
    subst (λ (l : List Part). AreFittingParts lines (front ++ d ∷ []) (entries_of l)
    c.loop-part.next.items) (take_all c.loop-part.part-index c.args.parts.now (omega arith))
    (c.loop-part.invariant lines all front d are each spelled))
