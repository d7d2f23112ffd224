-- What is printed for a state says that state.
use Rattle.std.proofs.Common.{arith, ◌≡◌, ℕ, suc, ◌<◌, ◌+◌, ◌^◌, List, [], ◌∷◌, ◌++◌, Bool, true, false, refl, sym, ◌∙◌, ap, subst, append_assoc, length, map, flat_map, decimal}
use Rattle.std.specs.Prelude.{All}
use Rattle.ux_fst2_file.specs.Fields.{SPACE, fields_of}
use Rattle.ux_fst2_file.specs.Lines.{END, sign_of, AreEdges, no_edge, edge_then, IsState}
use Rattle.ux_fst2_file.specs.Files.{BeginStates, end_line, state_line}
use Rattle.ux_fst2_file.specs.Printed.{label_text, edge_text, state_text, IsSmallEdge, IsSpellableState}
use Rattle.ux_fst2_file.specs.declared.file.Fst2Edge.{Fst2Edge}
use Rattle.ux_fst2_file.specs.declared.file.Fst2State.{Fst2State}
use Rattle.ux_fst2_file.proofs.PrintedFields.{AreSolid, ArePlain, plain_from_solid, plain-append, solid_decimal, some_decimal, number_decimal, front_solid, fields_solid, label_solid, label_says}

-- edges
edge_fields : (edge : Fst2Edge) (text : List ℕ) → IsSmallEdge edge →
    fields_of (edge_text edge ++ text)
    ≡ label_text edge.label ∷ (decimal edge.target ∷ fields_of text)
edge_fields edge text small =
    let label = label_solid edge.label small.0 in
    let rest = decimal edge.target ++ SPACE ∷ text in
    ap fields_of (append_assoc (label_text edge.label) (SPACE ∷ (decimal edge.target ++ SPACE ∷ []))
    text
    ∙ ap (λ (t : List ℕ). label_text edge.label ++ SPACE ∷ t)
    (append_assoc (decimal edge.target) (SPACE ∷ []) text))
    ∙ (fields_solid (label_text edge.label) rest label.0 label.1
    ∙ ap (λ (f : List (List ℕ)). label_text edge.label ∷ f)
    (fields_solid (decimal edge.target) text (solid_decimal edge.target small.1)
    (some_decimal edge.target small.1)))

edges_say : (edges : List Fst2Edge) → All IsSmallEdge edges →
    AreEdges (fields_of (flat_map edge_text edges)) edges
edges_say [] small = no_edge
edges_say (edge ∷ edges) small =
    let here = small 0 edge (omega arith) in
    subst (λ (f : List (List ℕ)). AreEdges f (edge ∷ edges))
    (sym (edge_fields edge (flat_map edge_text edges) here))
    (edge_then (label_text edge.label) (decimal edge.target) (fields_of (flat_map edge_text edges))
    edge edges (label_says edge.label here.0) (number_decimal edge.target here.1)
    (edges_say edges (λ k d lt. small (suc k) d (omega (arith, lt)))))

edge_plain : (edge : Fst2Edge) → IsSmallEdge edge → ArePlain (edge_text edge)
edge_plain edge small =
    plain-append (label_text edge.label) (SPACE ∷ (decimal edge.target ++ SPACE ∷ []))
    (plain_from_solid (label_text edge.label) (label_solid edge.label small.0).0) (
      (λ e. omega (arith, e), λ e. omega (arith, e)),
      plain-append (decimal edge.target) (SPACE ∷ [])
          (plain_from_solid (decimal edge.target) (solid_decimal edge.target small.1))
          ((λ e. omega (arith, e), λ e. omega (arith, e)), tt),
    )

edges_plain : (edges : List Fst2Edge) → All IsSmallEdge edges →
    ArePlain (flat_map edge_text edges)
edges_plain [] small = tt
edges_plain (edge ∷ edges) small =
    plain-append (edge_text edge) (flat_map edge_text edges)
    (edge_plain edge (small 0 edge (omega arith)))
    (edges_plain edges (λ k d lt. small (suc k) d (omega (arith, lt))))

-- states
sign_solid : (is_final : Bool) → AreSolid (sign_of is_final)
sign_solid true = ((λ e. omega (arith, e), λ e. omega (arith, e), λ e. omega (arith, e)), tt)
sign_solid false = ((λ e. omega (arith, e), λ e. omega (arith, e), λ e. omega (arith, e)), tt)

sign_some : (is_final : Bool) → 0 < length (sign_of is_final)
sign_some true = omega arith
sign_some false = omega arith

pub state_says : (state : Fst2State) → IsSpellableState state → IsState (state_text state) state
state_says state is = record {
  fields = fields_of (flat_map edge_text state.edges);
  has = record {
    front = front_solid (sign_of state.is_final) (SPACE ∷ flat_map edge_text state.edges)
        (sign_solid state.is_final) (sign_some state.is_final);
    are = fields_solid (sign_of state.is_final) (flat_map edge_text state.edges)
        (sign_solid state.is_final) (sign_some state.is_final);
  };
  edges = edges_say state.edges is.small;
  fits = is.few;
}

pub state_plain : (state : Fst2State) → IsSpellableState state → ArePlain (state_text state)
state_plain state is =
    plain-append (sign_of state.is_final) (SPACE ∷ flat_map edge_text state.edges)
    (plain_from_solid (sign_of state.is_final) (sign_solid state.is_final))
    ((λ e. omega (arith, e), λ e. omega (arith, e)), edges_plain state.edges is.small)

pub states_say : (before : ℕ) (left : List Fst2State) (rest : List (List ℕ)) →
    before + length left < 2 ^ 32 → 0 < before + length left → All IsSpellableState left →
    BeginStates before (map state_text left ++ ((END ++ SPACE ∷ []) ∷ rest)) left rest
states_say before [] rest fit some all =
    end_line before (END ++ SPACE ∷ []) rest
    (record { front = refl; are = refl }, omega (arith, some))
states_say before (state ∷ left) rest fit some all =
    state_line before (state_text state) (map state_text left ++ ((END ++ SPACE ∷ []) ∷ rest)) rest
    state left (state_says state (all 0 state (omega arith)), omega (arith, fit))
    (states_say (before + 1) left rest (omega (arith, fit)) (omega arith)
    (λ k d lt. all (suc k) d (omega (arith, lt))))
