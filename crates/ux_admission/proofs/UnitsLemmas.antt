-- A place that is reached has a run to it from the first place of some unit: along the way there the
-- contexts that are open form a stack, and where one is closed, the run goes on from its opening step.
use Rattle.std.proofs.Common.{arith, ◌≡◌, ◌≢◌, ℕ, zero, suc, ◌<◌, List, [], ◌∷◌, length, refl, subst, ◌∙◌, ◌⊎◌, inl, inr, Bool, true, false, get_or, map, set}
use Rattle.std.specs.Prelude.{All, Contains}
use Rattle.std.proofs.lemmas.List.{length-map, get_or-set_same, get_or-set_other}
use Rattle.std.proofs.lemmas.List.Elements.{Contains-get_or}
use Rattle.ux_base.proofs.Lists.{nothing_in, same_or}
use Rattle.ux_grf.specs.Reached.{row_of, Reached, start, step}
use Rattle.ux_net.specs.declared.label.Label.{Label}
use Rattle.ux_boxes.specs.declared.place.Place.{Place}
use Rattle.ux_net.specs.Words.{Sign, Step, Letter, Mark, ordinary, opens, closes, mark_of, Run, stop, along, across}
use Rattle.ux_boxes.specs.Places.{places_of, place_graph, place_grammar, place_output, place_targets, label_lines, is_reached, IsPlaceStep}
use Rattle.ux_admission.specs.Admissible.{IsUnit, MovesFreely, along_step, over_context, IsOnMove, in_front, at_opening, LeadsFreely, EntersAt, by_call, by_opening, IsMet}
use Rattle.ux_admission.specs.Cycles.{AreOpened, AreLoopsMet}
use Rattle.ux_boxes.specs.Fit.{IsFit, HasLinesWhereReached, place_ways}
use Rattle.ux_net.proofs.RunLemmas.{run_joined, one_step}
use Rattle.ux_boxes.proofs.NumbersLemmas.{graph_so}
use Rattle.ux_boxes.proofs.StepsLemmas.{step_inside, step_line, line_from, start_inside, call_alone}
use Rattle.ux_admission.proofs.WaysExact.{closer_inside}

targets_at : (places : List Place) (u : ℕ) →
    get_or (map (λ (place : Place). place.targets) places) u [] ≡ place_targets places u
targets_at [] u = refl
targets_at (place ∷ places) zero = refl
targets_at (place ∷ places) (suc u) = targets_at places u

-- a way leads from a place other than the end to a target
way_leads : (count : ℕ) (places : List Place) → IsFit count places → (u v : ℕ) →
    Contains (row_of (place_ways places) u) v → (u ≢ 1) × Contains (place_targets places u) v
way_leads count places fit u v h =
    let targets : List (List ℕ) = map (λ (place : Place). place.targets) places in
    let two = fit.two in
    let l = length-map places (λ (place : Place). place.targets) in
    elim (same_or u 1) [
      | inl e ↦ absurd (nothing_in {x = v}
          (subst (λ (row : List ℕ). Contains row v)
          (get_or-set_same targets 1 [] [] (omega arith))
          (subst (λ n. Contains (get_or (set targets 1 []) n []) v) e h)))
      | inr n ↦ (
        n,
        subst (λ (row : List ℕ). Contains row v)
            (get_or-set_other targets 1 u [] [] n ∙ targets_at places u) h,
      )
    ]

-- the two ends of a move are places
pub move_inside : (graphs : List (List Place)) (g : ℕ) {a b : ℕ} →
    MovesFreely (place_grammar graphs) g a b →
    (a < length (places_of graphs g)) × (b < length (places_of graphs g))
move_inside graphs g (along_step s i f) = step_inside (places_of graphs g) s i
move_inside graphs g (over_context {closing = c} sign s i m body) =
    ((step_inside (places_of graphs g) s i).0, closer_inside graphs g s.to c body)

-- a node on a move is a place
pub on_inside : (graphs : List (List Place)) (g : ℕ) {node a b : ℕ} →
    IsOnMove (place_grammar graphs) g node a b → node < length (places_of graphs g)
on_inside graphs g (in_front m) = (move_inside graphs g m).0
on_inside graphs g (at_opening sign s i m body) = (step_inside (places_of graphs g) s i).1

-- the first place of a unit that a step enters is a place
pub entered_inside : (graphs : List (List Place)) → All (IsFit (length graphs)) graphs → (g : ℕ)
    (s : Step) → IsPlaceStep (places_of graphs g) s → {h v : ℕ} →
    EntersAt (place_grammar graphs) g s h v → v < length (places_of graphs h)
entered_inside graphs fit g s i (by_call {h = h} front back e f) = start_inside graphs fit g h s i
    (call_alone (length graphs) s.labels front back h (step_line graphs fit g s i) e)
entered_inside graphs fit g s i (by_opening sign m) = (step_inside (places_of graphs g) s i).1

-- what a step enters is a unit
pub entered_unit : (graphs : List (List Place)) (g : ℕ) (s : Step) →
    IsPlaceStep (places_of graphs g) s → {h v : ℕ} → EntersAt (place_grammar graphs) g s h v →
    IsUnit (place_grammar graphs) h v
entered_unit graphs g s i (by_call front back e f) = inl refl
entered_unit graphs g s i (by_opening sign m) =
    inr (sign, record { step = s; of_graph = i; to = refl; opens = m })

-- a line is ordinary, opens a context or closes one
data MarkCase (line : List Label) : Type 0 where
  goes_on : mark_of line ≡ ordinary → MarkCase line
  goes_in : (sign : Sign) → mark_of line ≡ opens sign → MarkCase line
  goes_out : mark_of line ≡ closes → MarkCase line

mark_case : (line : List Label) → MarkCase line
mark_case line = by (mark_of line) refl
  where
    by : (mark : Mark) → mark_of line ≡ mark → MarkCase line
    by ordinary e = goes_on e
    by (opens sign) e = goes_in sign e
    by closes e = goes_out e

module _ (graphs : List (List Place)) (opened : AreOpened graphs) (g count : ℕ)
    (fit : IsFit count (places_of graphs g))
    (reached : HasLinesWhereReached (places_of graphs g)) where
  abbrev places : List Place
  places = places_of graphs g

  -- The contexts that are open at a place: a run leads to it from the start of the graph, where none
  -- is, or else from the innermost one's opening step, at which the others are.
  data Open : ℕ → Type 0 where
    outside : {n : ℕ} {word : List Letter} → Run g (place_graph places) 0 n word → Open n
    inside : {n : ℕ} {word : List Letter} (sign : Sign) (s : Step) → IsPlaceStep places s →
        mark_of s.labels ≡ opens sign → Open s.from → Run g (place_graph places) s.to n word →
        Open n

  open_on : {a b : ℕ} {word : List Letter} → Open a → Run g (place_graph places) a b word → Open b
  open_on (outside r) q = outside (run_joined g (place_graph places) r q)
  open_on (inside sign s i m o r) q =
      inside sign s i m o (run_joined g (place_graph places) r q)

  -- a closing step closes the innermost one
  open_out : (t : Step) → IsPlaceStep places t → mark_of t.labels ≡ closes → {a : ℕ} → Open a →
      a ≡ t.from → Open t.to
  open_out t j n (outside {word = word} r) e = absurd (opened g t.to (
    word,
    record {
      step = t;
      inside = j;
      closed = n;
      after = refl;
      run = subst (λ a. Run g (place_graph places) 0 a word) e r;
    },
  ))
  open_out t j n (inside {word = word} sign s i m o r) e =
      open_on o (across sign s t i m
      (subst (λ a. Run g (place_graph places) s.to a word) e r) j n stop)

  open_step : (s : Step) → IsPlaceStep places s → Open s.from → Open s.to
  open_step s i o = elim (mark_case s.labels) [
    | goes_on m ↦ open_on o (one_step g (place_graph places) s i m)
    | goes_in sign m ↦ inside sign s i m o stop
    | goes_out m ↦ open_out s i m o refl
  ]

  open_reached : {n : ℕ} → Reached (place_ways places) n → n ≢ 1 → Open n
  open_reached start apart = outside stop
  open_reached (step {u = u} {v = v} r e) apart =
      let way = way_leads count places fit u v e in
      let before = open_reached r way.0 in
      let inside_places = fit.inside u v way.1 in
      let lined = reached.lined v ((reached.reached v inside_places).1 (step r e)) apart in
      let line = get_or (label_lines places v) 0 [] in
      let s : Step =
      record { from = u; to = v; output = place_output places v; labels = line } in
      open_step s (record {
        before_end = way.0;
        leads = way.1;
        line = Contains-get_or (label_lines places v) 0 [] lined;
        puts = refl;
      }) before

  -- so a run from the first place of a unit leads to it
  open_unit : {n : ℕ} → Open n → IsMet (place_grammar graphs) g n
  open_unit (outside {word = word} r) =
      record { first = 0; unit = inl refl; word = word; run = r }
  open_unit (inside {word = word} sign s i m o r) = record {
    first = s.to;
    unit = inr (sign, record { step = s; of_graph = i; to = refl; opens = m });
    word = word;
    run = r;
  }

  -- where a line leads to the beginning of a run, one leads to its end
  run_lined : {a b : ℕ} {word : List Letter} {line : List Label} →
      Contains (label_lines places a) line → Run g (place_graph places) a b word →
      (last : List Label) × Contains (label_lines places b) last
  run_lined {line = line} h stop = (line, h)
  run_lined h (along s i m r) = run_lined i.line r
  run_lined h (across sign s t i m body j n r) = run_lined j.line r

  -- a place other than the end that has a line is in a unit
  lined_unit : (n : ℕ) (line : List Label) → Contains (label_lines places n) line → n ≢ 1 →
      IsMet (place_grammar graphs) g n
  lined_unit n line h apart = elim (either (is_reached places n)) [
    | inl e ↦ open_unit (open_reached ((reached.reached n (line_from places n line h)).0 e) apart)
    | inr e ↦ absurd (nothing_in {x = line}
        (subst (λ (lines : List (List Label)). Contains lines line) (reached.bare n (inr e)) h))
  ]
    where
      either : (b : Bool) → (b ≡ true) ⊎ (b ≡ false)
      either true = inl refl
      either false = inr refl

  -- a move begins at a place other than the end, and leads to one that has a line
  move_lined : {a b : ℕ} → MovesFreely (place_grammar graphs) g a b →
      (a ≢ 1) × (line : List Label) × Contains (label_lines places b) line
  move_lined (along_step s i f) = (i.before_end, s.labels, i.line)
  move_lined (over_context sign s i m body) = (
    i.before_end,
    body.1.step.labels,
    subst (λ n. Contains (label_lines places n) body.1.step.labels) body.1.after
        body.1.inside.line,
  )

  -- a place to which a run leads back from a move is in a unit
  pub loop_unit : {a b : ℕ} → MovesFreely (place_grammar graphs) g a b →
      LeadsFreely (place_grammar graphs) g b a → IsMet (place_grammar graphs) g a
  loop_unit {a = a} m back =
      let l = move_lined m in
      let last = run_lined l.2 back.1 in
      lined_unit a last.0 last.1 l.0

-- in graphs whose lines are reached a place from which something leads back is in a unit
pub loops_met : (graphs : List (List Place)) → AreOpened graphs →
    All (IsFit (length graphs)) graphs → All HasLinesWhereReached graphs → AreLoopsMet graphs
loops_met graphs opened fit reached g a b m back =
    let inside = (move_inside graphs g m).0 in
    loop_unit graphs opened g (length graphs)
    (graph_so (IsFit (length graphs)) graphs fit g a inside)
    (graph_so HasLinesWhereReached graphs reached g a inside) m back
