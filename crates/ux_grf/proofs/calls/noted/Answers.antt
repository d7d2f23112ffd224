use Rattle.std.proofs.Common.{map, Bor, List, ℕ, ◌∙◌, ap, sym, subst}
use Rattle.std.proofs.lemmas.Result.{IfOk-weaker}
use Rattle.std.specs.List.{flat_map}
use Rattle.ux_base.specs.Distinct.{GrowsBy}
use Rattle.ux_grf.specs.Needs.{calls_of_box, names_in}
use Rattle.ux_grf.proofs.calls.noted.Goals as goal

pub returns : goal.returns
returns c =
    let more = flat_map calls_of_box c.args.boxes.now in
    let old = names_in c.args.names.now in
    IfOk-weaker c.copies.result _ _
    (λ copies same. subst (GrowsBy more old)
    (sym (same ∙ ap (λ (keys : List (Bor (List ℕ))). map (λ (n : Bor (List ℕ)). n.now) keys)
    c.as_slice.ensures.keys)) c.in_ok-note_boxes.ensures)
    c.copies.ensures
