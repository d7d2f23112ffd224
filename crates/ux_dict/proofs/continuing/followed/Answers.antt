use Rattle.std.proofs.Common.{List, [], ◌++◌, arith, sym, subst}
use Rattle.std.specs.Str.{chars}
use Rattle.std.proofs.lemmas.List.{take_all}
use Rattle.ux_dela.specs.declared.entry.Entry.{Entry}
use Rattle.ux_dict.specs.declared.parts.Part.{Part}
use Rattle.ux_dict.specs.Parts.{AreFittingParts, IsFittingPart, entries_of}
use Rattle.ux_dict.proofs.FittingLemmas.{fitting_start, entries_of-more}
use Rattle.ux_dict.proofs.RunLemmas.{fitting_run, GoOnAlone-from}
use Rattle.ux_dict.proofs.continuing.followed.Goals as goal

pub loop-part-init : goal.loop-part-init
loop-part-init c lines front alone each =
    let run = chars c.args.more.now in
    subst (λ (l : List Part). AreFittingParts lines (front ++ run) [] l)
    (sym c.new-next.ensures.items) (fitting_start lines (front ++ run))

pub loop-part-preserved : goal.loop-part-preserved
loop-part-preserved c lines front alone each =
    let run = chars c.args.more.now in
    let parts = c.args.parts.now in
    let part = c.part-item.result in
    let i = c.loop-part.part-index in
    let at = c.part-item.is in
    let new = c.push_going_on.new.parts.items in
    let fits = subst (λ (p : Part). IsFittingPart lines front p) (sym at)
    (each i part (omega arith)) in
    subst (λ (l : List Entry). AreFittingParts lines (front ++ run) l new)
    (sym (entries_of-more parts i part (omega arith) at))
    (fitting_run lines front run alone part c.loop-part.next.items new fits
    c.in_ok-push_going_on.ensures _ (c.loop-part.invariant lines front alone each))

pub returns : goal.returns
returns c =
    GoOnAlone-from (chars c.args.more.now) c.args.parts.now c.loop-part.next.items
    (λ lines front alone each.
    subst (λ (l : List Part). AreFittingParts lines (front ++ chars c.args.more.now) (entries_of l)
    c.loop-part.next.items) (take_all c.loop-part.part-index c.args.parts.now (omega arith))
    (c.loop-part.invariant lines front alone each))
