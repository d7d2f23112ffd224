-- The edges of a line, one by one.
use Rattle.std.proofs.Common.{arith, ◌≡◌, ℕ, ◌≤◌, ◌+◌, ◌^◌, List, [], ◌∷◌, ◌++◌, refl, sym, ◌∙◌, ap, subst, append_assoc, append-nil, length, length-append}
use Rattle.ux_fst2_file.specs.Lines.{AreEdges, no_edge, edge_then}
use Rattle.ux_fst2_file.specs.Reading.{IsEdge, AreFewEdges}
use Rattle.ux_fst2_file.specs.declared.file.Fst2Label.{Fst2Label}
use Rattle.ux_fst2_file.specs.declared.file.Fst2Edge.{Fst2Edge}
use Rattle.ux_fst2_file.proofs.LineLaws.{number_once, label_once, edge_of}

-- what was read and what the fields say that are left is all that the fields say
pub record AreEdgesTo (all left : List (List ℕ)) (read : List Fst2Edge) : Type 0 where
  pub said : (later : List Fst2Edge) → AreEdges left later → AreEdges all (read ++ later)
  pub only : (edges : List Fst2Edge) → AreEdges all edges →
      (later : List Fst2Edge) × AreEdges left later × (edges ≡ read ++ later)

pub edges_start : (all : List (List ℕ)) → AreEdgesTo all all []
edges_start all = record { said = λ later h. h; only = λ edges h. (edges, h, refl) }

-- the parts of what fields say of which there are two
record IsFirstEdge (label target : List ℕ) (rest : List (List ℕ)) (edges : List Fst2Edge) :
    Type 0 where
  pub edge : Fst2Edge
  pub later : List Fst2Edge
  pub is : IsEdge label target edge
  pub are : AreEdges rest later
  pub whole : edges ≡ edge ∷ later

first_edge : (label target : List ℕ) (rest : List (List ℕ)) (edges : List Fst2Edge) →
    AreEdges (label ∷ (target ∷ rest)) edges → IsFirstEdge label target rest edges
first_edge label target rest edges (edge_then l t r edge later is_label is_target are) =
    record { edge = edge; later = later; is = (is_label, is_target); are = are; whole = refl }

no_half : (label : List ℕ) (edges : List Fst2Edge) → AreEdges (label ∷ []) edges → ⊥
no_half label edges h = elim h [ ]

same_edge : (label target : List ℕ) (one other : Fst2Edge) → IsEdge label target one →
    IsEdge label target other → one ≡ other
same_edge label target one other is also =
    ap (λ (l : Fst2Label). edge_of l one.target)
    (label_once label one.label other.label is.0 also.0)
    ∙ ap (λ (n : ℕ). edge_of other.label n) (number_once target one.target other.target is.1 also.1)

module _ (all left : List (List ℕ)) (read : List Fst2Edge) (so_far : AreEdgesTo all left read) where
  pub edges_whole : left ≡ [] → AreEdges all read
  edges_whole none =
      subst (λ (t : List Fst2Edge). AreEdges all t) (append-nil read)
      (so_far.said [] (subst (λ (t : List (List ℕ)). AreEdges t []) (sym none) no_edge))

  pub edges_half : (label : List ℕ) (rest : List (List ℕ)) → left ≡ label ∷ rest → rest ≡ [] →
      (edges : List Fst2Edge) → AreFewEdges all edges → ⊥
  edges_half label rest is none edges are =
      let more = so_far.only edges are.0 in
      no_half label more.0 (subst (λ (t : List (List ℕ)). AreEdges t more.0)
      (is ∙ ap (λ (t : List (List ℕ)). label ∷ t) none) more.1)

  module _ (label target : List ℕ) (behind rest : List (List ℕ)) (is : left ≡ label ∷ behind)
      (then : behind ≡ target ∷ rest) where
    whole : left ≡ label ∷ (target ∷ rest)
    whole = is ∙ ap (λ (t : List (List ℕ)). label ∷ t) then

    pub edges_bad : ((edge : Fst2Edge) → IsEdge label target edge → ⊥) →
        (edges : List Fst2Edge) → AreFewEdges all edges → ⊥
    edges_bad none edges are =
        let more = so_far.only edges are.0 in
        let first = first_edge label target rest more.0
        (subst (λ (t : List (List ℕ)). AreEdges t more.0) whole more.1) in
        none first.edge first.is

    pub edges_many : 2 ^ 32 ≤ length read + 1 →
        (edges : List Fst2Edge) → AreFewEdges all edges → ⊥
    edges_many many edges are =
        let more = so_far.only edges are.0 in
        let first = first_edge label target rest more.0
        (subst (λ (t : List (List ℕ)). AreEdges t more.0) whole more.1) in
        omega (
          arith,
          many,
          are.1,
          ap length more.2,
          length-append read more.0,
          ap length first.whole,
        )

    pub edges_more : (edge : Fst2Edge) (new : List Fst2Edge) → IsEdge label target edge →
        new ≡ read ++ edge ∷ [] → AreEdgesTo all rest new
    edges_more edge new is_edge added = record {
      said = λ later h.
          subst (λ (t : List Fst2Edge). AreEdges all t)
          (sym (append_assoc read (edge ∷ []) later) ∙ ap (λ (t : List Fst2Edge). t ++ later)
          (sym added))
          (so_far.said (edge ∷ later)
          (subst (λ (t : List (List ℕ)). AreEdges t (edge ∷ later)) (sym whole)
          (edge_then label target rest edge later is_edge.0 is_edge.1 h)));
      only = λ edges h.
          let more = so_far.only edges h in
          let first = first_edge label target rest more.0
          (subst (λ (t : List (List ℕ)). AreEdges t more.0) whole more.1) in
          let same = same_edge label target first.edge edge first.is is_edge in (
            first.later,
            first.are,
            more.2 ∙ (ap (λ (t : List Fst2Edge). read ++ t) (first.whole
                ∙ ap (λ (e : Fst2Edge). e ∷ first.later) same)
                ∙ (sym (append_assoc read (edge ∷ []) first.later)
                ∙ ap (λ (t : List Fst2Edge). t ++ first.later) (sym added))),
          );
    }
