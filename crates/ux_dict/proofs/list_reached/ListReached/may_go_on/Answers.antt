use Rattle.std.proofs.Common.{List, subst, sym}
use Rattle.ux_dict.specs.declared.parts.Part.{Part}
use Rattle.ux_dict.specs.Parts.{AreFittingParts}
use Rattle.std.specs.Str.{chars}
use Rattle.ux_dict.proofs.FittingLemmas.{MayBegin-some}
use Rattle.ux_dict.proofs.list_reached.ListReached.may_go_on.Goals as goal

pub returns : goal.returns
returns c alphabet content text leads =
    let fit = subst (λ (l : List Part). AreFittingParts alphabet (chars text) content l)
    (sym c.deref.ensures.value) leads.fit in
    let some = MayBegin-some alphabet text content c.deref.result.now fit in
    (λ t. some.0 (c.has_entry.ensures.0 t), λ may. c.has_entry.ensures.1 (some.1 may))
