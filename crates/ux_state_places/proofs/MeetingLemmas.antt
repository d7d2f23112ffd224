-- What is noted of links and of the first places of units.
use Rattle.std.proofs.Common.{arith, ◌≡◌, ◌↔◌, inl, inr, ℕ, zero, suc, ◌+◌, ◌<◌, ◌≤◌, List, [], ◌∷◌, length, sym, ap, subst, ◌∙◌, get_or}
use Rattle.std.specs.Prelude.{All, Contains}
use Rattle.std.proofs.lemmas.List.{get_or_default}
use Rattle.ux_base.proofs.Lists.{less_or}
use Rattle.ux_digraph.specs.declared.closing.Rule.{Rule}
use Rattle.ux_digraph.specs.Rules.{AreRulesInside}
use Rattle.ux_net.specs.declared.label.Label.{Label}
use Rattle.ux_net.specs.Words.{Step}
use Rattle.ux_boxes.specs.declared.place.Place.{Place}
use Rattle.ux_boxes.specs.Fit.{IsFit}
use Rattle.ux_boxes.specs.Numbers.{number_of, places_before, all_places}
use Rattle.ux_boxes.specs.Places.{places_of, place_grammar, label_lines, IsPlaceStep}
use Rattle.ux_boxes.proofs.NumbersLemmas.{places_at, number_below, graph_inside}
use Rattle.ux_boxes.proofs.StepsLemmas.{step_inside, step_line, start_inside}
use Rattle.ux_admission.specs.declared.uses.Link.{Link}
use Rattle.ux_admission.specs.Admissible.{IsUnit}
use Rattle.ux_admission.specs.Gains.{Gains, SoBelow}
use Rattle.ux_admission.specs.Uses.{AreLinks, IsLink, IsLinkOf, onward, calling, opening, over}
use Rattle.ux_admission.specs.Ways.{IsOpening}
use Rattle.ux_admission.proofs.WaysExact.{closer_inside}
use Rattle.ux_admission.proofs.UsesLemmas.{lone_call}
use Rattle.ux_state_places.specs.Meeting.{AreLinkRules, AreOpenedInto, AreUnitNumbers, HasOpening, IsUnitIn, IsUnitNumber, IsUnitPlace}

-- no line so far opens a context, and the next one doesn't
pub none_next : (lines : List (List Label)) (i : ℕ) (line : List Label) → i < length lines →
    line ≡ get_or lines i line → (IsOpening line → ⊥) →
    ((k : ℕ) → k < i → IsOpening (get_or lines k []) → ⊥) →
    (k : ℕ) → k < i + 1 → IsOpening (get_or lines k []) → ⊥
none_next lines i line inside is never so k low opens = elim (less_or k i) [
  | inl l ↦ so k l opens
  | inr past ↦
      let e : k ≡ i = omega (arith, low, past) in
      never (subst IsOpening (sym (is ∙ get_or_default lines i line [] inside))
      (subst (λ n. IsOpening (get_or lines n [])) e opens))
]

-- where no line does, none is there that does
pub none_there : (lines : List (List Label)) (i : ℕ) → length lines ≤ i →
    ((k : ℕ) → k < i → IsOpening (get_or lines k []) → ⊥) → HasOpening lines → ⊥
none_there lines i most so (line, (k, inside, is), opens) =
    so k (omega (arith, inside, most))
    (subst IsOpening (sym (get_or_default lines k [] line inside ∙ is)) opens)

-- the places of a graph stand inside those of all
pub before_next : (graphs : List (List Place)) (k : ℕ) → k < length graphs →
    places_before graphs (suc k) + length (get_or graphs k []) ≤ all_places graphs
before_next [] k inside = absurd (omega (arith, inside))
before_next (places ∷ graphs) zero inside = omega arith
before_next (places ∷ graphs) (suc k) inside =
    let r = before_next graphs k (omega (arith, inside)) in omega (arith, r)

-- the same for what a slice has
pub room_next : (graphs : List (List Place)) (k before : ℕ) (places : List Place) →
    k < length graphs → before ≡ places_before graphs (suc k) → places ≡ get_or graphs k places →
    before + length places ≤ all_places graphs
room_next graphs k before places inside at is =
    let r = before_next graphs k inside in
    let same = ap (λ (ps : List Place). length ps) (is ∙ get_or_default graphs k places [] inside) in
    omega (arith, r, same, at)

-- units of the places of a graph, by its number
pub units_next : (graphs : List (List Place)) (k before : ℕ) (places : List Place)
    (old new : List ℕ) → k < length graphs → before ≡ places_before graphs (suc k) →
    places ≡ get_or graphs k places →
    Gains old new (SoBelow (length places) (IsUnitNumber places before)) →
    Gains old new (IsUnitIn graphs k)
units_next graphs k before places old new inside at is gains =
    let next : suc k ≡ k + 1 = omega arith in
    let here : places ≡ places_of graphs (k + 1) =
    is ∙ (sym (places_at graphs k places inside) ∙ ap (λ g. places_of graphs g) next) in
    subst (λ (b : ℕ). Gains old new (SoBelow (length (places_of graphs (k + 1)))
    (IsUnitNumber (places_of graphs (k + 1)) b))) (at ∙ ap (λ g. places_before graphs g) next)
    (subst (λ (ps : List Place). Gains old new (SoBelow (length ps) (IsUnitNumber ps before))) here
    gains)

module _ (graphs : List (List Place)) (fit : All (IsFit (length graphs)) graphs) where
  -- the noted numbers are those of the first places of units
  pub units_are : (units : List ℕ) → AreOpenedInto graphs →
      ((x : ℕ) → Contains units x ↔ SoBelow (length graphs) (IsUnitIn graphs) x) →
      AreUnitNumbers graphs units
  units_are units into exact x = (
    λ h.
        let (k, below, (n, inside, (why, is))) = (exact x).0 h in
        (k + 1, n, inside, sym is, unit_of (k + 1) n why),
    λ (g, p, inside, is, unit).
        let there = graph_inside graphs g p inside in
        (exact x).1 (numbered g p there.0 there.1 inside is unit),
  )
    where
      unit_of : (g n : ℕ) → IsUnitPlace (places_of graphs g) n → IsUnit (place_grammar graphs) g n
      unit_of g n (inl e) = inl e
      unit_of g n (inr (line, has, (sign, m))) = inr (into g n (line, sign, has, m))

      place_of : (g p : ℕ) → IsUnit (place_grammar graphs) g p → IsUnitPlace (places_of graphs g) p
      place_of g p (inl e) = inl e
      place_of g p (inr (sign, o)) = inr (
        o.step.labels,
        subst (λ n. Contains (label_lines (places_of graphs g) n) o.step.labels) o.to
            o.of_graph.line,
        (sign, o.opens),
      )

      numbered : (g p : ℕ) → 1 ≤ g → g ≤ length graphs → p < length (places_of graphs g) →
          {x : ℕ} → x ≡ number_of graphs g p → IsUnit (place_grammar graphs) g p →
          SoBelow (length graphs) (IsUnitIn graphs) x
      numbered zero p from to inside is unit = absurd (omega (arith, from))
      numbered (suc k) p from to inside {x = x} is unit =
          let next : suc k ≡ k + 1 = omega arith in (
            k,
            omega (arith, to),
            subst (λ g. SoBelow (length (places_of graphs g))
                (IsUnitNumber (places_of graphs g) (places_before graphs g)) x) next
                (p, inside, (place_of (suc k) p unit, sym is)),
          )

  -- rules and units speak of places
  pub rules_inside : (links : List Link) (rules : List Rule) (units : List ℕ) →
      AreLinks graphs links → AreLinkRules links rules → AreUnitNumbers graphs units →
      AreRulesInside (all_places graphs) rules units
  rules_inside links rules units are of_links of_units = record {
    rule = λ r h.
        let (link, has, is) = (of_links r).0 h in
        let x = (are.exact link).0 has in
        let from = from_below link x in
        let to = to_below link.graph x.step x.of_graph x.of_step in
        subst (λ (r : Rule). (r.place < all_places graphs) × (r.first < all_places graphs)
        × (r.second < all_places graphs)) is (to, from, from);
    start = λ x h.
        let (g, p, inside, is, unit) = (of_units x).0 h in
        subst (λ n. n < all_places graphs) (sym is) (number_below graphs g p inside);
  }
    where
      to_below : (g : ℕ) (s : Step) → IsPlaceStep (places_of graphs g) s → {link : Link} →
          IsLinkOf graphs g s link → link.to < all_places graphs
      to_below g s i (onward m) = number_below graphs g s.to (step_inside (places_of graphs g) s i).1
      to_below g s i (calling h has) = number_below graphs h 0 (start_inside graphs fit g h s i
          (lone_call (length graphs) s.labels h (step_line graphs fit g s i) has))
      to_below g s i (opening sign m) =
          number_below graphs g s.to (step_inside (places_of graphs g) s i).1
      to_below g s i (over sign c m ends) =
          number_below graphs g c (closer_inside graphs g s.to c ends)

      source_below : (g : ℕ) (s : Step) → IsPlaceStep (places_of graphs g) s → {link : Link} →
          IsLinkOf graphs g s link → link.from < all_places graphs
      source_below g s i (onward m) =
          number_below graphs g s.from (step_inside (places_of graphs g) s i).0
      source_below g s i (calling h has) =
          number_below graphs g s.from (step_inside (places_of graphs g) s i).0
      source_below g s i (opening sign m) =
          number_below graphs g s.from (step_inside (places_of graphs g) s i).0
      source_below g s i (over sign c m ends) =
          number_below graphs g s.from (step_inside (places_of graphs g) s i).0

      from_below : (link : Link) → IsLink graphs link → link.from < all_places graphs
      from_below link x = source_below link.graph x.step x.of_graph x.of_step
