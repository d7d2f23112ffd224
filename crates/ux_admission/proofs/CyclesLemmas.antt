-- Empty loops and left recursion are steps inside the components of the edges.
use Rattle.std.proofs.Common.{arith, ◌≡◌, ℕ, ◌<◌, List, [], length, refl, ap, subst, sym, ◌∙◌, ◌⊎◌, inl, inr, ◌↔◌, get_or}
use Rattle.std.specs.Prelude.{Contains, All}
use Rattle.ux_digraph.specs.Paths.{row_of, Path, Reaches, here, step, IsInside}
use Rattle.ux_digraph.specs.Components.{AreComponents}
use Rattle.ux_base.proofs.Lists.{same_or}
use Rattle.ux_digraph.proofs.PathsLemmas.{edge_from, reaches_joined, reaches_then, path_apart}
use Rattle.ux_boxes.specs.declared.place.Place.{Place}
use Rattle.ux_net.specs.Words.{stop}
use Rattle.ux_boxes.specs.Places.{places_of, place_grammar}
use Rattle.ux_boxes.specs.Fit.{IsFit}
use Rattle.ux_net.specs.Nullable.{none}
use Rattle.ux_admission.specs.Admissible.{LeadsFreely, MovesFreely, IsOnMove, in_front, IsUnit, Enters, EntersInTurns, once, IsOnEmptyLoop, IsLeftRecursive}
use Rattle.ux_boxes.specs.Numbers.{number_of}
use Rattle.ux_admission.specs.Ways.{IsFreeEdge, IsEntryEdge}
use Rattle.ux_admission.specs.Cycles.{AreFreeEdges, AreAllEdges, IsLoopStep, IsEntryStep, AreLoopsMet}
use Rattle.ux_boxes.proofs.NumbersLemmas.{same_place, place_so, number_below}
use Rattle.ux_admission.proofs.FreeLemmas.{leads_joined, move_of, move_leads, Moves, rest, move, leads_moves}
use Rattle.ux_boxes.proofs.StepsLemmas.{step_inside}
use Rattle.ux_admission.proofs.UnitsLemmas.{move_inside, entered_inside, entered_unit}

module _ (edges : List (List ℕ)) where
  pub path_reaches : {u v : ℕ} → Path edges u v → Reaches edges u v
  path_reaches (Path.one e) = step e here
  path_reaches (Path.more e p) = step e (path_reaches p)

  module _ (numbers : List ℕ) (components : AreComponents edges numbers) where
    -- the ends of an edge whose end leads back have one number
    pub circular : (u v : ℕ) → Contains (row_of edges u) v → Reaches edges v u →
        get_or numbers u 0 ≡ get_or numbers v 0
    circular u v e r = elim (same_or v u) [
      | inl s ↦ ap (λ n. get_or numbers n 0) (sym s)
      | inr n ↦ components.apart u v (Path.one e) (path_apart edges r n)
    ]

    -- a node leads to each of its number
    pub leads_back : (u v : ℕ) → u < length edges → v < length edges →
        get_or numbers u 0 ≡ get_or numbers v 0 → Reaches edges v u
    leads_back u v i j e = elim (same_or u v) [
      | inl s ↦ subst (λ n. Reaches edges v n) (sym s) here
      | inr n ↦ path_reaches (components.joined u v i j e n).1
    ]

-- a move is an edge
pub free_edge : (graphs : List (List Place)) (g : ℕ) {a b : ℕ} →
    MovesFreely (place_grammar graphs) g a b →
    IsFreeEdge graphs (number_of graphs g a) (number_of graphs g b)
free_edge graphs g {a = a} {b = b} m =
    record { graph = g; source = a; target = b; moves = m; from = refl; to = refl }

module _ (graphs : List (List Place)) (edges : List (List ℕ))
    (has : (u v : ℕ) → IsFreeEdge graphs u v → Contains (row_of edges u) v) where
  moves_reach : (g : ℕ) {a b : ℕ} → Moves (place_grammar graphs) g a b →
      Reaches edges (number_of graphs g a) (number_of graphs g b)
  moves_reach g rest = here
  moves_reach g (move {a = a} {b = b} m r) =
      step (has (number_of graphs g a) (number_of graphs g b) (free_edge graphs g m))
      (moves_reach g r)

  pub leads_reaches : (g a b : ℕ) → LeadsFreely (place_grammar graphs) g a b →
      Reaches edges (number_of graphs g a) (number_of graphs g b)
  leads_reaches g a b l = moves_reach g (leads_moves (place_grammar graphs) g l)

edge_leads : (graphs : List (List Place)) (u v : ℕ) (f : IsFreeEdge graphs u v) →
    LeadsFreely (place_grammar graphs) f.graph f.source f.target
edge_leads graphs u v f = move_leads (place_grammar graphs) f.graph f.moves

module _ (graphs : List (List Place)) (fit : All (IsFit (length graphs)) graphs) where
  -- a move with a run back that may take nothing is a loop
  pub loop_at : AreLoopsMet graphs → (g : ℕ) {node a b : ℕ} →
      IsOnMove (place_grammar graphs) g node a b → LeadsFreely (place_grammar graphs) g b a →
      IsOnEmptyLoop (place_grammar graphs) g node
  loop_at met g {a = a} {b = b} on back =
      let m = move_of (place_grammar graphs) g on in
      let unit = met g a b m back in
      record {
        from = a;
        next = b;
        moves = on;
        back = back;
        first = unit.first;
        unit = unit.unit;
        word = unit.word;
        reached = unit.run;
      }

  module _ (edges : List (List ℕ)) (free_edges : AreFreeEdges graphs edges) where
    -- a path along nullable edges is a run that may take nothing
    pub reaches_leads : {x y : ℕ} → Reaches edges x y → (g h a b : ℕ) →
        a < length (places_of graphs g) → b < length (places_of graphs h) →
        x ≡ number_of graphs g a → y ≡ number_of graphs h b →
        (g ≡ h) × LeadsFreely (place_grammar graphs) g a b
    reaches_leads here g h a b i j ex ey =
        let same = same_place graphs g h a b i j (sym ex ∙ ey) in
        (same.0, subst (λ n. LeadsFreely (place_grammar graphs) g a n) same.1 ([], stop, none))
    reaches_leads (step {u = u} {v = v} e p) g h a b i j ex ey =
        let f = (free_edges.edge u v).0 e in
        let inside = move_inside graphs f.graph f.moves in
        let later = reaches_leads p f.graph h f.target b inside.1 j f.to ey in
        place_so graphs (λ k n. (k ≡ h) × LeadsFreely (place_grammar graphs) k n b) g f.graph a
        f.source i inside.0 (sym ex ∙ f.from) (
          later.0,
          leads_joined (place_grammar graphs) f.graph (edge_leads graphs u v f) later.1,
        )

    pub free_inside : IsInside edges
    free_inside = record {
      inside = λ u v e.
          let f = (free_edges.edge u v).0 e in
          let below =
          number_below graphs f.graph f.target (move_inside graphs f.graph f.moves).1 in
          omega (arith, f.to, free_edges.len);
    }

    -- a node is on an empty loop exactly where it is on a move that stays in its component
    pub loop_exactly : AreLoopsMet graphs → (numbers : List ℕ) → AreComponents edges numbers →
        (g node : ℕ) →
        IsOnEmptyLoop (place_grammar graphs) g node ↔ IsLoopStep graphs numbers g node
    loop_exactly met numbers components g node = (forth, back)
      where
        forth : IsOnEmptyLoop (place_grammar graphs) g node → IsLoopStep graphs numbers g node
        forth o =
            let m = move_of (place_grammar graphs) g o.moves in
            let u = number_of graphs g o.from in
            let v = number_of graphs g o.next in
            record {
              source = o.from;
              target = o.next;
              moves = o.moves;
              same = circular edges numbers components u v
                  ((free_edges.edge u v).1 (free_edge graphs g m))
                  (leads_reaches graphs edges (λ u v f. (free_edges.edge u v).1 f) g o.next o.from
                  o.back);
            }

        back : IsLoopStep graphs numbers g node → IsOnEmptyLoop (place_grammar graphs) g node
        back l =
            let inside = move_inside graphs g (move_of (place_grammar graphs) g l.moves) in
            let from = number_below graphs g l.source inside.0 in
            let to = number_below graphs g l.target inside.1 in
            let len = free_edges.len in
            let u = number_of graphs g l.source in
            let v = number_of graphs g l.target in
            let there =
            leads_back edges numbers components u v (omega arith) (omega arith) l.same in
            loop_at met g l.moves
            (reaches_leads there g g l.target l.source inside.1 inside.0 refl refl).1

  module _ (edges : List (List ℕ)) (all_edges : AreAllEdges graphs edges) where
    pub all_inside : IsInside edges
    all_inside = record {
      inside = λ u v e. elim ((all_edges.edge u v).0 e) [
        | inl f ↦
            let below =
            number_below graphs f.graph f.target (move_inside graphs f.graph f.moves).1 in
            omega (arith, f.to, all_edges.len)
        | inr t ↦
            let below = number_below graphs t.entered t.first
            (entered_inside graphs fit t.graph t.step t.of_graph t.enters) in
            omega (arith, t.to, all_edges.len)
      ];
    }

    free_reaches : (g a b : ℕ) → LeadsFreely (place_grammar graphs) g a b →
        Reaches edges (number_of graphs g a) (number_of graphs g b)
    free_reaches g a b l =
        leads_reaches graphs edges (λ u v f. (all_edges.edge u v).1 (inl f)) g a b l

    -- a step that enters a unit is an entering edge
    enters_edge : (g u h v node : ℕ) (e : Enters (place_grammar graphs) g u h v node) →
        Contains (row_of edges (number_of graphs g e.step.from)) (number_of graphs h v)
    enters_edge g u h v node e =
        (all_edges.edge (number_of graphs g e.step.from) (number_of graphs h v)).1 (inr (record {
          graph = g;
          step = e.step;
          of_graph = e.of_graph;
          entered = h;
          first = v;
          enters = e.enters;
          from = refl;
          to = refl;
        }))

    enters_reaches : (g u h v node : ℕ) → Enters (place_grammar graphs) g u h v node →
        Reaches edges (number_of graphs g u) (number_of graphs h v)
    enters_reaches g u h v node e =
        reaches_then edges (free_reaches g u e.step.from e.leads) (enters_edge g u h v node e)

    turns_reach : {g u h v : ℕ} → EntersInTurns (place_grammar graphs) g u h v →
        Reaches edges (number_of graphs g u) (number_of graphs h v)
    turns_reach (once {g = g} {u = u} {h = h} {v = v} {node = node} e) =
        enters_reaches g u h v node e
    turns_reach (EntersInTurns.more {g = g} {u = u} {h = h} {v = v} {node = node} e t) =
        reaches_joined edges (enters_reaches g u h v node e) (turns_reach t)

    -- the unit of an entering edge is entered, where its beginning is reached freely
    edge_enters : (x y w : ℕ) (t : IsEntryEdge graphs x y) →
        LeadsFreely (place_grammar graphs) t.graph w t.step.from →
        Enters (place_grammar graphs) t.graph w t.entered t.first t.step.to
    edge_enters x y w t l = record {
      step = t.step;
      of_graph = t.of_graph;
      to_node = refl;
      leads = l;
      enters = t.enters;
    }

    -- The place is reached freely from the first place of a unit of its graph. That unit is (h, u), or
    -- is entered by it.
    record ComesInto (h u g a : ℕ) : Type 0 where
      first : ℕ
      unit : IsUnit (place_grammar graphs) g first
      turns : ((h ≡ g) × (u ≡ first)) ⊎ EntersInTurns (place_grammar graphs) h u g first
      leads : LeadsFreely (place_grammar graphs) g first a

    -- what a unit comes into that the unit enters
    comes_through : (h u k v node g a : ℕ) → Enters (place_grammar graphs) h u k v node →
        ComesInto k v g a → ComesInto h u g a
    comes_through h u k v node g a e c = record {
      first = c.first;
      unit = c.unit;
      turns = elim c.turns [
        | inl s ↦ inr (subst (λ n. EntersInTurns (place_grammar graphs) h u n c.first) s.0
            (subst (λ n. EntersInTurns (place_grammar graphs) h u k n) s.1 (once e)))
        | inr t ↦ inr (EntersInTurns.more e t)
      ];
      leads = c.leads;
    }

    -- a path from a place that is reached freely comes into the last unit through its first place
    split : {x y : ℕ} → Reaches edges x y → (h g b a u : ℕ) → b < length (places_of graphs h) →
        a < length (places_of graphs g) → x ≡ number_of graphs h b → y ≡ number_of graphs g a →
        IsUnit (place_grammar graphs) h u → LeadsFreely (place_grammar graphs) h u b →
        ComesInto h u g a
    split here h g b a u i j ex ey unit l =
        let same = same_place graphs h g b a i j (sym ex ∙ ey) in
        subst (λ n. ComesInto h u n a) same.0 (record {
          first = u;
          unit = unit;
          turns = inl (refl, refl);
          leads = subst (λ n. LeadsFreely (place_grammar graphs) h u n) same.1 l;
        })
    split (step {u = x} {v = z} e p) h g b a u i j ex ey unit l =
        elim ((all_edges.edge x z).0 e) [
          | inl f ↦
              let inside = move_inside graphs f.graph f.moves in
              let same =
              same_place graphs f.graph h f.source b inside.0 i (sym f.from ∙ ex) in
              let unit_here = subst (λ k. IsUnit (place_grammar graphs) k u) (sym same.0) unit in
              let leads = place_so graphs (λ k n. LeadsFreely (place_grammar graphs) k u n) f.graph
              h f.source b inside.0 i (sym f.from ∙ ex) l in
              subst (λ k. ComesInto k u g a) same.0
              (split p f.graph g f.target a u inside.1 j f.to ey unit_here
              (leads_joined (place_grammar graphs) f.graph leads (edge_leads graphs x z f)))
          | inr t ↦
              let inside = step_inside (places_of graphs t.graph) t.step t.of_graph in
              let same =
              same_place graphs t.graph h t.step.from b inside.0 i (sym t.from ∙ ex) in
              let leads = place_so graphs (λ k n. LeadsFreely (place_grammar graphs) k u n) t.graph
              h t.step.from b inside.0 i (sym t.from ∙ ex) l in
              let start = entered_inside graphs fit t.graph t.step t.of_graph t.enters in
              let later = split p t.entered g t.first a t.first start j t.to ey
              (entered_unit graphs t.graph t.step t.of_graph t.enters) ([], stop, none) in
              subst (λ k. ComesInto k u g a) same.0
              (comes_through t.graph u t.entered t.first t.step.to g a (edge_enters x z u t leads)
              later)
        ]

    module _ (numbers : List ℕ) (components : AreComponents edges numbers) where
      -- a unit enters itself at a node exactly where an entering step to it stays in a component
      pub recursion_exactly : (g node : ℕ) →
          IsLeftRecursive (place_grammar graphs) g node ↔ IsEntryStep graphs numbers g node
      recursion_exactly g node = (forth, back)
        where
          home : (h v u : ℕ) →
              ((h ≡ g) × (v ≡ u)) ⊎ EntersInTurns (place_grammar graphs) h v g u →
              Reaches edges (number_of graphs h v) (number_of graphs g u)
          home h v u (inl s) =
              subst (λ k. Reaches edges (number_of graphs h v) (number_of graphs k u)) s.0
              (subst (λ n. Reaches edges (number_of graphs h v) (number_of graphs h n)) s.1 here)
          home h v u (inr t) = turns_reach t

          forth : IsLeftRecursive (place_grammar graphs) g node →
              IsEntryStep graphs numbers g node
          forth l =
              let e = l.enters in
              let h = l.entered_graph in
              let v = l.entered_first in
              record {
                step = e.step;
                of_graph = e.of_graph;
                to_node = e.to_node;
                entered = h;
                first = v;
                enters = e.enters;
                same = circular edges numbers components (number_of graphs g e.step.from)
                    (number_of graphs h v) (enters_edge g l.first h v node e)
                    (reaches_joined edges (home h v l.first l.returns)
                    (free_reaches g l.first e.step.from e.leads));
              }

          back : IsEntryStep graphs numbers g node →
              IsLeftRecursive (place_grammar graphs) g node
          back s =
              let inside = step_inside (places_of graphs g) s.step s.of_graph in
              let start = entered_inside graphs fit g s.step s.of_graph s.enters in
              let from = number_below graphs g s.step.from inside.0 in
              let to = number_below graphs s.entered s.first start in
              let len = all_edges.len in
              let u = number_of graphs g s.step.from in
              let v = number_of graphs s.entered s.first in
              let there =
              leads_back edges numbers components u v (omega arith) (omega arith) s.same in
              let comes = split there s.entered g s.first s.step.from s.first start inside.0 refl
              refl (entered_unit graphs g s.step s.of_graph s.enters) ([], stop, none) in
              record {
                first = comes.first;
                unit = comes.unit;
                entered_graph = s.entered;
                entered_first = s.first;
                enters = record {
                  step = s.step;
                  of_graph = s.of_graph;
                  to_node = s.to_node;
                  leads = comes.leads;
                  enters = s.enters;
                };
                returns = comes.turns;
              }

      module _ (met : AreLoopsMet graphs)
          (no_loop : (g node : ℕ) → IsOnEmptyLoop (place_grammar graphs) g node → ⊥)
          (no_recursion : (g node : ℕ) →
          IsLeftRecursive (place_grammar graphs) g node → ⊥) where
        abbrev Cut : (x y g h a b : ℕ) → Type 0
        Cut x y g h a b = ((g ≡ h) × LeadsFreely (place_grammar graphs) g a b)
            ⊎ ((p : ℕ) × (q : ℕ) × IsEntryEdge graphs p q × Reaches edges x p × Reaches edges q y)

        -- a path is a run that may take nothing, or has an entering edge
        cut : {x y : ℕ} → Reaches edges x y → (g h a b : ℕ) → a < length (places_of graphs g) →
            b < length (places_of graphs h) → x ≡ number_of graphs g a →
            y ≡ number_of graphs h b → Cut x y g h a b
        cut here g h a b i j ex ey =
            let same = same_place graphs g h a b i j (sym ex ∙ ey) in
            inl (
              same.0,
              subst (λ n. LeadsFreely (place_grammar graphs) g a n) same.1 ([], stop, none),
            )
        cut {y = y} (step {u = u} {v = v} e r) g h a b i j ex ey =
            elim ((all_edges.edge u v).0 e) [
              | inl f ↦
                  let inside = move_inside graphs f.graph f.moves in
                  place_so graphs (λ k n. Cut u y k h n b) g f.graph a f.source i inside.0
                  (sym ex ∙ f.from)
                  (elim (cut r f.graph h f.target b inside.1 j f.to ey) [
                    | inl l ↦ inl (
                      l.0,
                      leads_joined (place_grammar graphs) f.graph (edge_leads graphs u v f) l.1,
                    )
                    | inr c ↦ inr (c.0, c.1, c.2, step e c.3, c.4)
                  ])
              | inr t ↦ inr (u, v, t, here, r)
            ]

        entry_apart : (u v : ℕ) → IsEntryEdge graphs u v → Reaches edges v u → ⊥
        entry_apart u v t r =
            no_recursion t.graph t.step.to ((recursion_exactly t.graph t.step.to).1 (record {
              step = t.step;
              of_graph = t.of_graph;
              to_node = refl;
              entered = t.entered;
              first = t.first;
              enters = t.enters;
              same = ap (λ n. get_or numbers n 0) (sym t.from)
                  ∙ (circular edges numbers components u v ((all_edges.edge u v).1 (inr t)) r
                  ∙ ap (λ n. get_or numbers n 0) t.to);
            }))

        free_apart : (u v : ℕ) → IsFreeEdge graphs u v → Reaches edges v u → ⊥
        free_apart u v f r =
            let inside = move_inside graphs f.graph f.moves in
            elim (cut r f.graph f.graph f.target f.source inside.1 inside.0 f.to f.from) [
              | inl back ↦
                  no_loop f.graph f.source (loop_at met f.graph (in_front f.moves) back.1)
              | inr c ↦ entry_apart c.0 c.1 c.2
                  (reaches_joined edges c.4 (step ((all_edges.edge u v).1 (inl f)) c.3))
            ]

        -- with no loop and no recursion the numbers fall along each edge
        pub numbers_fall : (u v : ℕ) → IsFreeEdge graphs u v ⊎ IsEntryEdge graphs u v →
            get_or numbers v 0 < get_or numbers u 0
        numbers_fall u v way =
            let e = (all_edges.edge u v).1 way in
            let i : u < length edges = edge_from edges u v e in
            let j : v < length edges = all_inside.inside u v e in
            let most = components.falls u v e in
            elim (same_or (get_or numbers u 0) (get_or numbers v 0)) [
              | inl s ↦
                  let r = leads_back edges numbers components u v i j s in
                  absurd (elim way [
                    | inl f ↦ free_apart u v f r
                    | inr t ↦ entry_apart u v t r
                  ])
              | inr n ↦ omega arith
            ]
