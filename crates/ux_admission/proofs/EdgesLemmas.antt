-- The edges and spots of the ways are those of the steps.
use Rattle.std.proofs.Common.{arith, ◌≡◌, ℕ, ◌<◌, List, [], length, refl, ap, subst, sym, ◌∙◌, ◌⊎◌, inl, inr, ◌↔◌, get_or, Bool}
use Rattle.std.specs.Prelude.{Contains, All, Some}
use Rattle.std.proofs.lemmas.List.Elements.{All-contains_itself, All-weaker}
use Rattle.ux_digraph.specs.Paths.{row_of}
use Rattle.ux_boxes.specs.declared.place.Place.{Place}
use Rattle.ux_admission.specs.declared.way.Way.{Way}
use Rattle.ux_admission.specs.declared.way.Passage.{Passage}
use Rattle.ux_admission.specs.declared.way.Passage.TheVariants.{Silent, Calls, Opens, Jumps}
use Rattle.ux_admission.specs.declared.spot.Spot.{Spot}
use Rattle.ux_net.specs.Words.{Step, letters}
use Rattle.ux_boxes.specs.Places.{places_of, place_grammar, IsPlaceStep}
use Rattle.ux_boxes.specs.Fit.{IsFit}
use Rattle.ux_net.specs.Nullable.{IsFree, none}
use Rattle.ux_admission.specs.Admissible.{MovesFreely, along_step, over_context, IsOnMove, in_front, at_opening, EntersAt, by_call, by_opening}
use Rattle.ux_boxes.specs.Numbers.{number_of, all_places}
use Rattle.ux_admission.specs.Ways.{Passes, IsWay, AreWays, AreFreeMarks, LeadsOn, IsOpen, entered_by, opened_by, IsFreeEdge, IsEntryEdge, way_at}
use Rattle.ux_admission.specs.Cycles.{IsLoopStep, IsEntryStep, AreFreeEdges, AreAllEdges}
use Rattle.ux_admission.specs.Gains.{Gains, SoOfOne}
use Rattle.ux_admission.specs.Spots.{IsFreePair, IsEntryPair, IsSpotOn, IsLoopSpot, IsEntrySpot}
use Rattle.ux_admission.proofs.FreeLemmas.{free_silent, call_nullable}
use Rattle.ux_boxes.proofs.StepsLemmas.{step_inside, step_line, step_cases, start_inside, call_alone}
use Rattle.ux_boxes.proofs.NumbersLemmas.{number_below}
use Rattle.ux_admission.proofs.GainsLemmas.{gains_all}
use Rattle.ux_admission.proofs.MarksLemmas.{is_way, passes_move, nullable_ends}
use Rattle.ux_admission.proofs.UnitsLemmas.{move_inside}

-- a way that may take nothing leads on
open_on : (marks : List Bool) (passage : Passage) → IsOpen marks passage → LeadsOn passage
open_on marks Silent o = tt
open_on marks (Calls start) o = tt
open_on marks Opens o = o
open_on marks (Jumps opening) o = tt

module _ (graphs : List (List Place)) (fit : All (IsFit (length graphs)) graphs)
    (ways : List Way) (are : AreWays graphs ways) where
  module _ (marks : List Bool) (marked : AreFreeMarks graphs marks) where
    -- an open way is a move
    open_moves : (way : Way) → IsWay graphs way → IsOpen marks way.passage →
        MovesFreely (place_grammar graphs) way.graph way.source way.target
    open_moves way w opened =
        subst (λ a. MovesFreely (place_grammar graphs) way.graph a way.target)
        (sym w.along.source)
        (passes_move graphs fit way.graph w.step w.of_graph way.target way.passage w.along.passes
        (open_on marks way.passage opened) (λ h l c.
        let start = start_inside graphs fit way.graph h w.step w.of_graph l in
        (marked.marked h 0 start).0 (subst (λ p. IsOpen marks p) c opened)))

    -- a move is an open way
    abbrev OpenWay : (g a c : ℕ) → Type 0
    OpenWay g a c =
        (passage : Passage) × IsWay graphs (way_at graphs g a c passage) × IsOpen marks passage

    moves_open : (g : ℕ) {a c : ℕ} → MovesFreely (place_grammar graphs) g a c → OpenWay g a c
    moves_open g (along_step s i f) = elim (step_cases graphs fit g s i) [
      | inl c ↦
          let start = start_inside graphs fit g c.0 s i c.1 in
          let free = subst (λ l. IsFree (place_grammar graphs) (letters l)) c.1 f in (
            Calls (number_of graphs c.0 0),
            is_way graphs fit g s i s.to (Calls (number_of graphs c.0 0)) (refl, (c.0, c.1, refl)),
            (marked.marked c.0 0 start).1
                (nullable_ends graphs fit c.0 (call_nullable (place_grammar graphs) free)),
          )
      | inr n ↦ (
        Silent,
        is_way graphs fit g s i s.to Silent
            (refl, free_silent (place_grammar graphs) s.labels n f),
        tt,
      )
    ]
    moves_open g (over_context {closing = c} sign s i m closes) =
        (Jumps s.to, is_way graphs fit g s i c (Jumps s.to) (refl, (sign, m), closes), tt)

    pub free_pairs : (u v : ℕ) → SoOfOne ways (IsFreePair marks) (u, v) ↔ IsFreeEdge graphs u v
    free_pairs u v = (
      λ s.
          let way = s.0 in
          let w = (are.exact way).0 s.1 in
          record {
            graph = way.graph;
            source = way.source;
            target = way.target;
            moves = open_moves way w s.2.0;
            from = sym (ap (λ (p : ℕ × ℕ). p.0) s.2.1)
                ∙ (w.along.from ∙ ap (λ n. number_of graphs way.graph n) (sym w.along.source));
            to = sym (ap (λ (p : ℕ × ℕ). p.1) s.2.1) ∙ w.along.to;
          },
      λ f.
          let o = moves_open f.graph f.moves in
          let way = way_at graphs f.graph f.source f.target o.0 in (
            way,
            (are.exact way).1 o.1,
            (
              o.2,
              ap (λ n. (n, number_of graphs f.graph f.target)) (sym f.from)
                  ∙ ap (λ n. (u, n)) (sym f.to),
            ),
          ),
    )

    -- what a way opens is the target of its step, which opens a context
    opens_at : (g : ℕ) (s : Step) → IsPlaceStep (places_of graphs g) s → (c node : ℕ)
        (passage : Passage) → Passes graphs g s.to s.labels c passage →
        opened_by passage ≡ Some node → IsOnMove (place_grammar graphs) g node s.from c
    opens_at g s i c node Silent p e = absurd (cc)
    opens_at g s i c node (Calls start) p e = absurd (cc)
    opens_at g s i c node Opens p e = absurd (cc)
    opens_at g s i c node (Jumps opening) p e =
        let same : opening ≡ node = cc in
        subst (λ n. IsOnMove (place_grammar graphs) g n s.from c) (sym p.0 ∙ same)
        (at_opening p.1.0 s i p.1.1 p.2)

    -- a spot on an open way is a node on its move
    spot_on : (way : Way) → IsWay graphs way → IsOpen marks way.passage → (spot : Spot) →
        IsSpotOn way spot →
        (spot.graph ≡ way.graph)
        × IsOnMove (place_grammar graphs) way.graph spot.node way.source way.target
    spot_on way w opened spot (inl e) = (
      ap (λ (z : Spot). z.graph) (sym e),
      subst (λ (z : Spot).
          IsOnMove (place_grammar graphs) way.graph z.node way.source way.target) e
          (in_front (open_moves way w opened)),
    )
    spot_on way w opened spot (inr o) = (
      ap (λ (z : Spot). z.graph) (sym o.2),
      subst (λ (z : Spot).
          IsOnMove (place_grammar graphs) way.graph z.node way.source way.target) o.2
          (subst (λ n. IsOnMove (place_grammar graphs) way.graph o.0 n way.target)
          (sym w.along.source)
          (opens_at way.graph w.step w.of_graph way.target o.0 way.passage w.along.passes o.1)),
    )

    -- a node on a move is a spot on an open way
    abbrev SpotWay : (spot : Spot) (a c : ℕ) → Type 0
    SpotWay spot a c = (passage : Passage)
        × IsWay graphs (way_at graphs spot.graph a c passage) × IsOpen marks passage
        × IsSpotOn (way_at graphs spot.graph a c passage) spot

    on_spot : (g : ℕ) {node a c : ℕ} → IsOnMove (place_grammar graphs) g node a c →
        SpotWay (record { graph = g; node = node }) a c
    on_spot g (in_front m) = let o = moves_open g m in (o.0, o.1, o.2, inl refl)
    on_spot g (at_opening {closing = c} sign s i m closes) = (
      Jumps s.to,
      is_way graphs fit g s i c (Jumps s.to) (refl, (sign, m), closes),
      tt,
      inr (s.to, refl, refl),
    )

    pub loop_spots : (numbers : List ℕ) (spot : Spot) →
        SoOfOne ways (IsLoopSpot marks numbers) spot ↔
        IsLoopStep graphs numbers spot.graph spot.node
    loop_spots numbers spot = (
      λ s.
          let way = s.0 in
          let w = (are.exact way).0 s.1 in
          let on = spot_on way w s.2.0 spot s.2.2 in
          subst (λ g. IsLoopStep graphs numbers g spot.node) (sym on.0) (record {
            source = way.source;
            target = way.target;
            moves = on.1;
            same = ap (λ n. get_or numbers n 0) (sym (w.along.from
                ∙ ap (λ n. number_of graphs way.graph n) (sym w.along.source)))
                ∙ (s.2.1 ∙ ap (λ n. get_or numbers n 0) w.along.to);
          }),
      λ l.
          let o = on_spot spot.graph l.moves in
          let way = way_at graphs spot.graph l.source l.target o.0 in
          (way, (are.exact way).1 o.1, (o.2, l.same, o.3)),
    )

  -- a way that enters a unit is a step that does
  abbrev EnteredBy : (g : ℕ) (s : Step) (c start : ℕ) → Type 0
  EnteredBy g s c start = (h : ℕ) × (v : ℕ) × EntersAt (place_grammar graphs) g s h v
      × (start ≡ number_of graphs h v) × (c ≡ s.to)

  passes_enter : (g : ℕ) (s : Step) (c to start : ℕ) (passage : Passage) →
      Passes graphs g s.to s.labels c passage → to ≡ number_of graphs g c →
      entered_by passage to ≡ Some start → EnteredBy g s c start
  passes_enter g s c to start Silent p at e = absurd (cc)
  passes_enter g s c to start (Calls other) p at e =
      let same : other ≡ start = cc in
      (p.1.0, 0, by_call [] [] p.1.1 none, sym same ∙ p.1.2, p.0)
  passes_enter g s c to start Opens p at e =
      let same : to ≡ start = cc in (
        g,
        s.to,
        by_opening p.1.0 p.1.1,
        sym same ∙ (at ∙ ap (λ n. number_of graphs g n) p.0),
        p.0,
      )
  passes_enter g s c to start (Jumps opening) p at e = absurd (cc)

  -- a step that enters a unit is a way that does
  abbrev EnteringWay : (g : ℕ) (s : Step) (h v : ℕ) → Type 0
  EnteringWay g s h v = (passage : Passage) × IsWay graphs (way_at graphs g s.from s.to passage)
      × (entered_by passage (number_of graphs g s.to) ≡ Some (number_of graphs h v))

  enters_way : (g : ℕ) (s : Step) → IsPlaceStep (places_of graphs g) s → {h v : ℕ} →
      EntersAt (place_grammar graphs) g s h v → EnteringWay g s h v
  enters_way g s i (by_call {h = h} front back e f) =
      let line = call_alone (length graphs) s.labels front back h (step_line graphs fit g s i) e in
      let passage : Passage = Calls (number_of graphs h 0) in
      (passage, is_way graphs fit g s i s.to passage (refl, (h, line, refl)), refl)
  enters_way g s i (by_opening sign m) =
      (Opens, is_way graphs fit g s i s.to Opens (refl, (sign, m)), refl)

  pub entry_pairs : (u v : ℕ) → SoOfOne ways IsEntryPair (u, v) ↔ IsEntryEdge graphs u v
  entry_pairs u v = (
    λ s.
        let way = s.0 in
        let w = (are.exact way).0 s.1 in
        let c = passes_enter way.graph w.step way.target way.to s.2.0 way.passage w.along.passes
        w.along.to s.2.1 in
        record {
          graph = way.graph;
          step = w.step;
          of_graph = w.of_graph;
          entered = c.0;
          first = c.1;
          enters = c.2;
          from = sym (ap (λ (p : ℕ × ℕ). p.0) s.2.2) ∙ w.along.from;
          to = sym (ap (λ (p : ℕ × ℕ). p.1) s.2.2) ∙ c.3;
        },
    λ t.
        let start = number_of graphs t.entered t.first in
        let e = enters_way t.graph t.step t.of_graph t.enters in
        let way = way_at graphs t.graph t.step.from t.step.to e.0 in (
          way,
          (are.exact way).1 e.1,
          (
            start,
            e.2,
            ap (λ n. (n, start)) (sym t.from) ∙ ap (λ n. (u, n)) (sym t.to),
          ),
        ),
  )

  pub entry_spots : (numbers : List ℕ) (spot : Spot) →
      SoOfOne ways (IsEntrySpot numbers) spot ↔
      IsEntryStep graphs numbers spot.graph spot.node
  entry_spots numbers spot = (
    λ s.
        let way = s.0 in
        let w = (are.exact way).0 s.1 in
        let c = passes_enter way.graph w.step way.target way.to s.2.0 way.passage w.along.passes
        w.along.to s.2.1 in
        subst (λ (z : Spot). IsEntryStep graphs numbers z.graph z.node) s.2.3 (record {
          step = w.step;
          of_graph = w.of_graph;
          to_node = sym c.4;
          entered = c.0;
          first = c.1;
          enters = c.2;
          same = ap (λ n. get_or numbers n 0) (sym w.along.from)
              ∙ (s.2.2 ∙ ap (λ n. get_or numbers n 0) c.3);
        }),
    λ t.
        let start = number_of graphs t.entered t.first in
        let e = enters_way spot.graph t.step t.of_graph t.enters in
        let way = way_at graphs spot.graph t.step.from t.step.to e.0 in (
          way,
          (are.exact way).1 e.1,
          (
            start,
            e.2,
            t.same,
            ap (λ n. record { graph = spot.graph; node = n }) t.to_node,
          ),
        ),
  )

module _ (graphs : List (List Place)) (fit : All (IsFit (length graphs)) graphs) where
  free_below : (u v : ℕ) → IsFreeEdge graphs u v → u < all_places graphs
  free_below u v f =
      let below =
      number_below graphs f.graph f.source (move_inside graphs f.graph f.moves).0 in
      omega (arith, f.from)

  entry_below : (u v : ℕ) → IsEntryEdge graphs u v → u < all_places graphs
  entry_below u v t =
      let below = number_below graphs t.graph t.step.from
      (step_inside (places_of graphs t.graph) t.step t.of_graph).0 in
      omega (arith, t.from)

  module _ (ways : List Way) (are : AreWays graphs ways) (marks : List Bool)
      (marked : AreFreeMarks graphs marks) (pairs : List (ℕ × ℕ))
      (made : Gains [] pairs (SoOfOne ways (IsFreePair marks))) where
    pub free_pair : (u v : ℕ) → Contains pairs (u, v) ↔ IsFreeEdge graphs u v
    free_pair u v =
        let same = free_pairs graphs fit ways are marks marked u v in
        let all = gains_all pairs (SoOfOne ways (IsFreePair marks)) made (u, v) in
        (λ h. same.0 (all.0 h), λ f. all.1 (same.1 f))

    -- each edge begins at a place
    pub free_pairs_inside : All (λ (p : ℕ × ℕ). p.0 < all_places graphs) pairs
    free_pairs_inside = All-weaker (Contains pairs) (λ (p : ℕ × ℕ). p.0 < all_places graphs)
        (λ p h. free_below p.0 p.1 ((free_pair p.0 p.1).0 h)) pairs (All-contains_itself pairs)

    -- the rows of these edges
    pub free_rows_are : (rows : List (List ℕ)) → length rows ≡ all_places graphs →
        ((u v : ℕ) → Contains (row_of rows u) v ↔ Contains pairs (u, v)) →
        AreFreeEdges graphs rows
    free_rows_are rows len exact = record {
      len = len;
      edge = λ u v. (
        λ h. (free_pair u v).0 ((exact u v).0 h),
        λ f. (exact u v).1 ((free_pair u v).1 f),
      );
    }

    module _ (all : List (ℕ × ℕ)) (more : Gains pairs all (SoOfOne ways IsEntryPair)) where
      all_pair : (u v : ℕ) → Contains all (u, v) ↔ (IsFreeEdge graphs u v ⊎ IsEntryEdge graphs u v)
      all_pair u v =
          let same = entry_pairs graphs fit ways are u v in (
            λ h. elim ((more (u, v)).0 h) [
              | inl a ↦ inl ((free_pair u v).0 a)
              | inr s ↦ inr (same.0 s)
            ],
            λ h. elim h [
              | inl f ↦ (more (u, v)).1 (inl ((free_pair u v).1 f))
              | inr t ↦ (more (u, v)).1 (inr (same.1 t))
            ],
          )

      pub all_pairs_inside : All (λ (p : ℕ × ℕ). p.0 < all_places graphs) all
      all_pairs_inside = All-weaker (Contains all) (λ (p : ℕ × ℕ). p.0 < all_places graphs)
          (λ p h. elim ((all_pair p.0 p.1).0 h) [
            | inl f ↦ free_below p.0 p.1 f
            | inr t ↦ entry_below p.0 p.1 t
          ]) all (All-contains_itself all)

      pub all_rows_are : (rows : List (List ℕ)) → length rows ≡ all_places graphs →
          ((u v : ℕ) → Contains (row_of rows u) v ↔ Contains all (u, v)) →
          AreAllEdges graphs rows
      all_rows_are rows len exact = record {
        len = len;
        edge = λ u v. (
          λ h. (all_pair u v).0 ((exact u v).0 h),
          λ f. (exact u v).1 ((all_pair u v).1 f),
        );
      }
