-- The places that follow from units by links are those to which a run from a unit leads.
use Rattle.std.proofs.Common.{◌≡◌, ◌↔◌, inl, inr, ℕ, ◌<◌, List, [], ◌++◌, length, refl, sym, ap, subst, true, false, Bool}
use Rattle.std.specs.Prelude.{All}
use Rattle.ux_digraph.specs.declared.closing.Rule.{Rule}
use Rattle.ux_digraph.specs.Rules.{Derived, fact, by, is_marked_at}
use Rattle.ux_net.specs.Closers.{ClosesInto}
use Rattle.ux_net.specs.Words.{Step, Letter, Run, stop, along, across}
use Rattle.ux_boxes.specs.declared.place.Place.{Place}
use Rattle.ux_boxes.specs.Fit.{IsFit}
use Rattle.ux_boxes.specs.Numbers.{number_of}
use Rattle.ux_boxes.specs.Places.{places_of, place_graph, place_grammar, IsPlaceStep}
use Rattle.ux_net.proofs.RunLemmas.{run_joined, one_step, over_step}
use Rattle.ux_boxes.proofs.NumbersLemmas.{same_place}
use Rattle.ux_boxes.proofs.StepsLemmas.{step_inside, step_line, start_inside}
use Rattle.ux_admission.specs.declared.uses.Link.{Link}
use Rattle.ux_admission.specs.Admissible.{IsUnit, IsMet}
use Rattle.ux_admission.specs.Uses.{AreLinks, IsLink, IsLinkOf, onward, calling, opening, over, link_from}
use Rattle.ux_admission.proofs.WaysExact.{closer_inside}
use Rattle.ux_admission.proofs.UsesLemmas.{lone_call}
use Rattle.ux_state_places.specs.Meeting.{rule_of_link, AreLinkRules, AreUnitNumbers, AreMetMarks}

module _ (raws : List (List Place)) (fit : All (IsFit (length raws)) raws) (links : List Link)
    (are : AreLinks raws links) (rules : List Rule) (facts : List ℕ)
    (of_links : AreLinkRules links rules) (of_units : AreUnitNumbers raws facts) where
  -- a place of this number to which a run leads
  record IsMetNumber (x : ℕ) : Type 0 where
    g : ℕ
    p : ℕ
    inside : p < length (places_of raws g)
    is : x ≡ number_of raws g p
    met : IsMet (place_grammar raws) g p

  unit_met : (g p : ℕ) → IsUnit (place_grammar raws) g p → IsMet (place_grammar raws) g p
  unit_met g p u = record { first = p; unit = u; word = []; run = stop }

  met_on : (g p q : ℕ) {w : List Letter} → IsMet (place_grammar raws) g p →
      Run g (place_graph (places_of raws g)) p q w → IsMet (place_grammar raws) g q
  met_on g p q m r = record {
    first = m.first;
    unit = m.unit;
    word = m.word ++ _;
    run = run_joined g (place_graph (places_of raws g)) m.run r;
  }

  -- a link from such a place leads to one
  linked : (link : Link) → IsLink raws link → IsMetNumber link.from → IsMetNumber link.to
  linked link is m = from_step link.graph is.step is.of_graph is.of_step m
    where
      at_source : (g : ℕ) (s : Step) → IsPlaceStep (places_of raws g) s →
          IsMetNumber (number_of raws g s.from) → IsMet (place_grammar raws) g s.from
      at_source g s i m =
          let same = same_place raws m.g g m.p s.from m.inside
          (step_inside (places_of raws g) s i).0 (sym m.is) in
          subst (λ n. IsMet (place_grammar raws) g n) same.1
          (subst (λ k. IsMet (place_grammar raws) k m.p) same.0 m.met)

      from_step : (g : ℕ) (s : Step) → IsPlaceStep (places_of raws g) s → {link : Link} →
          IsLinkOf raws g s link → IsMetNumber link.from → IsMetNumber link.to
      from_step g s i (onward m) met =
          record {
            g = g;
            p = s.to;
            inside = (step_inside (places_of raws g) s i).1;
            is = refl;
            met = met_on g s.from s.to (at_source g s i met)
                (one_step g (place_graph (places_of raws g)) s i m);
          }
      from_step g s i (calling h has) met =
          record {
            g = h;
            p = 0;
            inside = start_inside raws fit g h s i
                (lone_call (length raws) s.labels h (step_line raws fit g s i) has);
            is = refl;
            met = unit_met h 0 (inl refl);
          }
      from_step g s i (opening sign m) met =
          record {
            g = g;
            p = s.to;
            inside = (step_inside (places_of raws g) s i).1;
            is = refl;
            met = unit_met g s.to
                (inr (sign, record { step = s; of_graph = i; to = refl; opens = m }));
          }
      from_step g s i (over sign c m ends) met =
          record {
            g = g;
            p = c;
            inside = closer_inside raws g s.to c ends;
            is = refl;
            met = met_on g s.from c (at_source g s i met)
                (over_step g (place_graph (places_of raws g)) sign s i m ends.1);
          }

  derived_met : {x : ℕ} → Derived rules facts x → IsMetNumber x
  derived_met (fact {x = x} h) =
      let u = (of_units x).0 h in
      record { g = u.0; p = u.1; inside = u.2; is = u.3; met = unit_met u.0 u.1 u.4 }
  derived_met (by r h first second) =
      let x = (of_links r).0 h in
      subst IsMetNumber (ap (λ (r : Rule). r.place) x.2)
      (linked x.0 ((are.exact x.0).0 x.1)
      (subst IsMetNumber (sym (ap (λ (r : Rule). r.first) x.2)) (derived_met first)))

  by_link : (link : Link) → IsLink raws link → Derived rules facts link.from →
      Derived rules facts link.to
  by_link link is d = by (rule_of_link link)
      ((of_links (rule_of_link link)).1 (link, (are.exact link).1 is, refl)) d d

  run_derived : (g : ℕ) {a b : ℕ} {w : List Letter} → Run g (place_graph (places_of raws g)) a b w →
      Derived rules facts (number_of raws g a) → Derived rules facts (number_of raws g b)
  run_derived g stop d = d
  run_derived g (along s i m r) d =
      run_derived g r (by_link (link_from raws g s.from (number_of raws g s.to) false)
      (record { step = s; of_graph = i; of_step = onward m }) d)
  run_derived g (across {body = body} sign s t i m inner j n r) d =
      let ends : ClosesInto (place_grammar raws) g s.to t.to =
      (body, record { step = t; inside = j; closed = n; after = refl; run = inner }) in
      run_derived g r (by_link (link_from raws g s.from (number_of raws g t.to) false)
      (record { step = s; of_graph = i; of_step = over sign t.to m ends }) d)

  unit_derived : (g p : ℕ) → p < length (places_of raws g) → IsUnit (place_grammar raws) g p →
      Derived rules facts (number_of raws g p)
  unit_derived g p inside u = fact ((of_units (number_of raws g p)).1 (g, p, inside, refl, u))

  pub marks_met : (marks : List Bool) →
      ((x : ℕ) → (is_marked_at marks x ≡ true) ↔ Derived rules facts x) → AreMetMarks raws marks
  marks_met marks marked g p inside = (
    λ e.
        let m = derived_met ((marked (number_of raws g p)).0 e) in
        let same = same_place raws m.g g m.p p m.inside inside (sym m.is) in
        subst (λ n. IsMet (place_grammar raws) g n) same.1
        (subst (λ k. IsMet (place_grammar raws) k m.p) same.0 m.met),
    λ m. (marked (number_of raws g p)).1 (run_derived g m.run
        (unit_derived g m.first (first_inside m.run inside) m.unit)),
  )
    where
      first_inside : {a b : ℕ} {w : List Letter} → Run g (place_graph (places_of raws g)) a b w →
          b < length (places_of raws g) → a < length (places_of raws g)
      first_inside stop h = h
      first_inside (along s i m r) h = (step_inside (places_of raws g) s i).0
      first_inside (across sign s t i m body j n r) h = (step_inside (places_of raws g) s i).0
