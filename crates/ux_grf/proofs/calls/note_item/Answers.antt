use Rattle.std.proofs.Common.{OnOk, ℕ, List, [], ◌∷◌, sym, subst}
use Rattle.ux_base.specs.Distinct.{GrowsBy}
use Rattle.ux_grf.specs.declared.item.Item.{Item}
use Rattle.ux_grf.specs.Needs.{calls_of_item, names_in}
use Rattle.ux_grf.proofs.calls.note_item.Goals as goal

pub returns-in-Call : goal.returns-in-Call
returns-in-Call c =
    let old = names_in c.args.names.now in
    let new = names_in c.note_name.new.names in
    subst (λ (item : Item). OnOk c.note_name.result (GrowsBy (calls_of_item item) old new))
    (sym c.in-Call.is)
    (subst (λ (name : List ℕ). OnOk c.note_name.result (GrowsBy (name ∷ []) old new))
    c.as_str.ensures c.note_name.ensures)
