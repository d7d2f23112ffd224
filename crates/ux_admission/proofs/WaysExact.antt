-- The ways of all graphs are those of each, from each place, to each target; and the same for ends.
use Rattle.std.proofs.Common.{arith, ◌≡◌, ◌≢◌, ℕ, zero, suc, ◌+◌, ◌-◌, ◌<◌, ◌≤◌, List, [], length, refl, ap, subst, sym, ◌∙◌, ◌↔◌, get_or}
use Rattle.std.specs.Prelude.{Contains, All}
use Rattle.std.proofs.lemmas.List.{get_or_default}
use Rattle.std.proofs.lemmas.List.Elements.{All-contains_itself, All-weaker, Contains-get_or}
use Rattle.ux_net.specs.declared.label.Label.{Label}
use Rattle.ux_boxes.specs.declared.place.Place.{Place}
use Rattle.ux_admission.specs.declared.way.Way.{Way}
use Rattle.ux_boxes.specs.Places.{places_of, place_output, place_targets, place_grammar, label_lines, IsEndPlace}
use Rattle.ux_net.specs.Closers.{ClosesInto}
use Rattle.ux_admission.specs.Closers.{AreClosers}
use Rattle.ux_boxes.specs.Fit.{IsFit, IsFitLine}
use Rattle.ux_admission.specs.Gains.{Gains, SoBelow, SoOfOne}
use Rattle.ux_boxes.specs.Numbers.{number_of, AreOffsets}
use Rattle.ux_admission.specs.Ways.{IsWayAlong, IsWay, IsWayOf, IsWayFrom, IsEndNumber}
use Rattle.ux_admission.proofs.GainsLemmas.{gains_as}
use Rattle.ux_boxes.proofs.NumbersLemmas.{places_at, graph_inside, graph_so_at, number_below}
use Rattle.ux_boxes.proofs.StepsLemmas.{step_inside, target_from, targets_inside}

-- what is so of an element is so of one of some place
found : {A : Type 0} (xs : List A) (d y : A) → Contains xs y → (IsSo : A → Type 0) → IsSo y →
    (k : ℕ) × (k < length xs) × IsSo (get_or xs k d)
found xs d y h IsSo so =
    (h.0, h.1, subst IsSo (sym (get_or_default xs h.0 d y h.1 ∙ h.2)) so)

-- what is so of each place in a list is so of each element
pub gains_elements : {A B : Type 0} (before after : List A) (xs : List B) (d : B)
    (IsSo : B → A → Type 0) →
    Gains before after (SoBelow (length xs) (λ k. IsSo (get_or xs k d))) →
    Gains before after (SoOfOne xs IsSo)
gains_elements {A} before after xs d IsSo gains =
    gains_as before after (SoBelow (length xs) (λ k. IsSo (get_or xs k d))) (SoOfOne xs IsSo)
    (λ x. (
      λ s. (get_or xs s.0 d, Contains-get_or xs s.0 d s.1, s.2),
      λ s. found xs d s.0 s.1 (λ y. IsSo y x) s.2,
    )) gains

module _ (graphs : List (List Place)) where
  -- the ways from a place to one of its targets
  abbrev pub IsWayTo : (g a b : ℕ) → Way → Type 0
  IsWayTo g a b way =
      SoOfOne (label_lines (places_of graphs g) b) (IsWayAlong graphs g a b) way

  -- a way along a line of a target is one of its graph, from its place
  way_from : (g a : ℕ) → a ≢ 1 → (way : Way) →
      SoBelow (length (place_targets (places_of graphs g) a))
      (λ k. IsWayTo g a (get_or (place_targets (places_of graphs g) a) k 0)) way →
      IsWayFrom graphs g a way
  way_from g a apart way s =
      let targets = place_targets (places_of graphs g) a in
      let b = get_or targets s.0 0 in
      let line : List Label = s.2.0 in
      let along : IsWayAlong graphs g a b line way = s.2.2 in (
        record {
          step = record {
            from = a;
            to = b;
            output = place_output (places_of graphs g) b;
            labels = line;
          };
          of_graph = record {
            before_end = apart;
            leads = Contains-get_or targets s.0 0 s.1;
            line = s.2.1;
            puts = refl;
          };
          along = along;
        },
        along.source,
      )

  -- a way of its graph is along a line of a target of the place where its step begins
  way_to : (g : ℕ) (way : Way) (w : IsWayOf graphs g way) →
      SoBelow (length (place_targets (places_of graphs g) w.step.from))
      (λ k. IsWayTo g w.step.from (get_or (place_targets (places_of graphs g) w.step.from) k 0)) way
  way_to g way w =
      found (place_targets (places_of graphs g) w.step.from) 0 w.step.to w.of_graph.leads
      (λ b. IsWayTo g w.step.from b way) (w.step.labels, w.of_graph.line, w.along)

  -- the ways from a place are those to each target
  pub gains_from : (before after : List Way) (g a : ℕ) → a ≢ 1 →
      Gains before after (SoBelow (length (place_targets (places_of graphs g) a))
      (λ k. IsWayTo g a (get_or (place_targets (places_of graphs g) a) k 0))) →
      Gains before after (IsWayFrom graphs g a)
  gains_from before after g a apart gains =
      gains_as before after (SoBelow (length (place_targets (places_of graphs g) a))
      (λ k. IsWayTo g a (get_or (place_targets (places_of graphs g) a) k 0)))
      (IsWayFrom graphs g a) (λ way. (
        way_from g a apart way,
        λ w. subst (λ n. SoBelow (length (place_targets (places_of graphs g) n))
            (λ k. IsWayTo g n (get_or (place_targets (places_of graphs g) n) k 0)) way)
            (sym w.0.along.source ∙ w.1) (way_to g way w.0),
      )) gains

  -- the ways of a graph are those from each place
  pub gains_of : (before after : List Way) (g : ℕ) →
      Gains before after (SoBelow (length (places_of graphs g)) (IsWayFrom graphs g)) →
      Gains before after (IsWayOf graphs g)
  gains_of before after g gains =
      gains_as before after (SoBelow (length (places_of graphs g)) (IsWayFrom graphs g))
      (IsWayOf graphs g) (λ way. (
        λ s. s.2.0,
        λ w. (
          way.source,
          subst (λ n. n < length (places_of graphs g)) (sym w.along.source)
              (step_inside (places_of graphs g) w.step w.of_graph).0,
          (w, refl),
        ),
      )) gains

  -- the ways of all graphs are those of each
  pub gains_graphs : (before after : List Way) →
      Gains before after (SoBelow (length graphs) (λ k. IsWayOf graphs (k + 1))) →
      Gains before after (IsWay graphs)
  gains_graphs before after gains =
      gains_as before after (SoBelow (length graphs) (λ k. IsWayOf graphs (k + 1)))
      (IsWay graphs) (λ way. (
        λ s. subst (λ g. IsWayOf graphs g way) (sym s.2.along.graph) s.2,
        λ w.
            let start = (step_inside (places_of graphs way.graph) w.step w.of_graph).0 in
            let inside = graph_inside graphs way.graph w.step.from start in
            let low = inside.0 in
            let high = inside.1 in
            let same : way.graph ≡ way.graph - 1 + 1 = omega (arith, low) in (
              way.graph - 1,
              omega (arith, low, high),
              subst (λ g. IsWayOf graphs g way) same w,
            ),
      )) gains

  -- a place into which a body is closed is a place
  pub closer_inside : (g a c : ℕ) → ClosesInto (place_grammar graphs) g a c →
      c < length (places_of graphs g)
  closer_inside g a c body = subst (λ n. n < length (places_of graphs g)) body.1.after
      (step_inside (places_of graphs g) body.1.step body.1.inside).1

  number_is : (offsets : List ℕ) → AreOffsets graphs offsets → (k n : ℕ) → k < length graphs →
      get_or offsets k 0 + n ≡ number_of graphs (suc k) n
  number_is offsets are k n h = ap (λ b. b + n) (are.offset k (omega arith))

  -- the number of a place, by the table of what stands before its graph
  pub number_at : (offsets : List ℕ) → AreOffsets graphs offsets → (g n : ℕ) → 1 ≤ g →
      g ≤ length graphs → get_or offsets (g - 1) 0 + n ≡ number_of graphs g n
  number_at offsets are zero n from to = absurd (omega (arith, from))
  number_at offsets are (suc k) n from to =
      let e : suc k - 1 ≡ k = omega arith in rw e (number_is offsets are k n (omega (arith, to)))

  pub number_small : (offsets : List ℕ) → AreOffsets graphs offsets → (g n : ℕ) → 1 ≤ g →
      g ≤ length graphs → n < length (places_of graphs g) →
      get_or offsets (g - 1) 0 + n < 18446744073709551616
  number_small offsets are g n from to inside =
      let at = number_at offsets are g n from to in
      let below = number_below graphs g n inside in
      let few = are.few in
      omega (arith, at, below, few)

  -- the row of a place has the places into which contexts from there are closed
  pub row_at : (closers : List (List ℕ)) → AreClosers graphs closers → (g b k : ℕ)
      (row : List ℕ) → b < length (places_of graphs g) → k ≡ number_of graphs g b →
      row ≡ get_or closers k [] →
      (c : ℕ) → Contains row c ↔ ClosesInto (place_grammar graphs) g b c
  row_at closers are g b k row inside e is =
      subst (λ (cs : List ℕ). (c : ℕ) →
      Contains cs c ↔ ClosesInto (place_grammar graphs) g b c)
      (sym (is ∙ ap (λ n. get_or closers n []) e)) (λ c. are.row g b c inside)

  pub row_room : (offsets : List ℕ) → AreOffsets graphs offsets → (g b : ℕ) (row : List ℕ) →
      1 ≤ g → g ≤ length graphs → (base : ℕ) → base ≡ get_or offsets (g - 1) 0 →
      ((c : ℕ) → Contains row c ↔ ClosesInto (place_grammar graphs) g b c) →
      All (λ closer. base + closer < 18446744073709551616) row
  row_room offsets are g b row from to base is exact =
      All-weaker (Contains row) (λ closer. base + closer < 18446744073709551616)
      (λ c h.
      let inside = closer_inside g b c ((exact c).0 h) in
      let small = number_small offsets are g c from to inside in
      omega (arith, is, small)) row (All-contains_itself row)

  -- a line of a place is fit
  pub line_at : All (IsFit (length graphs)) graphs → (offsets : List ℕ) →
      AreOffsets graphs offsets → (g b k : ℕ) → 1 ≤ g → g ≤ length graphs →
      k < length (label_lines (places_of graphs g) b) →
      IsFitLine (length offsets - 1) (get_or (label_lines (places_of graphs g) b) k [])
  line_at fit offsets are g b k from to h =
      let len = are.len in
      let count : length graphs ≡ length offsets - 1 = omega (arith, len) in
      subst (λ n. IsFitLine n (get_or (label_lines (places_of graphs g) b) k [])) count
      ((graph_so_at (IsFit (length graphs)) graphs fit g from to).lines b k [] h)

  -- a target of a place is a place
  pub target_at : All (IsFit (length graphs)) graphs → (g a k : ℕ) → 1 ≤ g →
      g ≤ length graphs → k < length (place_targets (places_of graphs g) a) →
      get_or (place_targets (places_of graphs g) a) k 0 < length (places_of graphs g)
  target_at fit g a k from to h =
      targets_inside (length graphs) (places_of graphs g)
      (graph_so_at (IsFit (length graphs)) graphs fit g from to) a k 0 h

  -- the number of an end of the graph of this place in the list
  abbrev pub IsEndOf : List ℕ → ℕ → ℕ → Type 0
  IsEndOf offsets k x =
      (n : ℕ) × IsEndPlace (get_or graphs k []) n × (get_or offsets k 0 + n ≡ x)

  end_at : (offsets : List ℕ) → AreOffsets graphs offsets → (x g a : ℕ) →
      IsEndPlace (places_of graphs g) a → x ≡ number_of graphs g a →
      SoBelow (length graphs) (IsEndOf offsets) x
  end_at offsets are x zero a i e =
      let no_place = target_from [] a 1 i.1 in absurd (omega (arith, no_place))
  end_at offsets are x (suc k) a i e =
      let there = graph_inside graphs (suc k) a (target_from (places_of graphs (suc k)) a 1 i.1) in
      let high = there.1 in
      let h : k < length graphs = omega (arith, high) in (
        k,
        h,
        (
          a,
          subst (λ (places : List Place). IsEndPlace places a) (places_at graphs k [] h) i,
          number_is offsets are k a h ∙ sym e,
        ),
      )

  -- the ends of all graphs are those of each
  pub gains_ends : (offsets : List ℕ) → AreOffsets graphs offsets → (before after : List ℕ) →
      Gains before after (SoBelow (length graphs) (IsEndOf offsets)) →
      Gains before after (IsEndNumber graphs)
  gains_ends offsets are before after gains =
      gains_as before after (SoBelow (length graphs) (IsEndOf offsets)) (IsEndNumber graphs)
      (λ x. (
        λ s. (
          suc s.0,
          s.2.0,
          subst (λ (places : List Place). IsEndPlace places s.2.0)
              (sym (places_at graphs s.0 [] s.1)) s.2.1,
          sym s.2.2 ∙ number_is offsets are s.0 s.2.0 s.1,
        ),
        λ e. end_at offsets are x e.0 e.1 e.2 e.3,
      )) gains

-- the ends of a graph are those at each place
pub gains_places : (places : List Place) (base : ℕ) (before after : List ℕ) →
    Gains before after
    (SoBelow (length places) (λ n x. IsEndPlace places n × (base + n ≡ x))) →
    Gains before after (λ x. (n : ℕ) × IsEndPlace places n × (base + n ≡ x))
gains_places places base before after gains =
    gains_as before after
    (SoBelow (length places) (λ n x. IsEndPlace places n × (base + n ≡ x)))
    (λ x. (n : ℕ) × IsEndPlace places n × (base + n ≡ x)) (λ x. (
      λ s. (s.0, s.2.0, s.2.1),
      λ s. (s.0, target_from places s.0 1 s.1.1, (s.1, s.2)),
    )) gains
