use Rattle.std.proofs.Common.{map, string_bytes, Bor, List, ℕ, [], subst}
use Rattle.std.specs.List.{flat_map}
use Rattle.ux_base.specs.Distinct.{GrowsBy}
use Rattle.ux_base.proofs.FirstsLemmas.{GrowsBy-from_none}
use Rattle.ux_grf.specs.declared.graph.GrfBox.{GrfBox}
use Rattle.ux_grf.specs.Needs.{calls_of_box}
use Rattle.ux_grf.proofs.calls.needs.Goals as goal

pub returns : goal.returns
returns c =
    let names = map string_bytes c.in_ok-noted.field-0.items in
    GrowsBy-from_none (flat_map calls_of_box c.args.graph.now.boxes) names
    (subst (λ (boxes : List GrfBox). GrowsBy (flat_map calls_of_box boxes) [] names)
    c.as_slice.ensures
    (subst (λ (keys : List (Bor (List ℕ))). GrowsBy (flat_map calls_of_box c.as_slice.result.now)
    (map (λ (name : Bor (List ℕ)). name.now) keys) names) c.new-names.ensures.empty
    c.in_ok-noted.ensures))
