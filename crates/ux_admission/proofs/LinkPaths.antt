-- A negative context whose body uses the unit that has it is a link inside a component.
use Rattle.std.proofs.Common.{arith, ◌≡◌, ℕ, ◌<◌, ◌≤◌, List, [], ◌++◌, length, refl, ap, subst, sym, ◌∙◌, ◌⊎◌, inl, inr, get_or, Bool, true, false}
use Rattle.std.specs.Prelude.{Contains, All}
use Rattle.std.proofs.lemmas.List.{get_or_past}
use Rattle.ux_digraph.specs.Paths.{row_of, Reaches, here, step, IsInside}
use Rattle.ux_digraph.specs.Components.{AreComponents}
use Rattle.ux_base.proofs.Lists.{less_or, same_or}
use Rattle.ux_digraph.proofs.PathsLemmas.{reaches_joined, reaches_then}
use Rattle.ux_net.specs.declared.label.Label.TheVariants.{Call}
use Rattle.ux_boxes.specs.declared.place.Place.{Place}
use Rattle.ux_admission.specs.declared.uses.Link.{Link}
use Rattle.ux_net.specs.Words.{positive, negative, Step, Letter, Run, stop, along, across, opens, mark_of}
use Rattle.ux_boxes.specs.Places.{places_of, place_graph, place_grammar, IsPlaceStep}
use Rattle.ux_boxes.specs.Fit.{IsFit}
use Rattle.ux_admission.specs.NegativeRecursion.{LeadsTo, Uses, called, opened, UsesInTurns, once, more, IsNegativeRecursive}
use Rattle.ux_boxes.specs.Numbers.{number_of, all_places}
use Rattle.ux_admission.specs.Uses.{refuses, link_from, IsLinkOf, onward, calling, opening, over, IsLink, IsLinked, AreLinkEdges, IsCircular, AreLevels}
use Rattle.ux_admission.proofs.CyclesLemmas.{circular, leads_back}
use Rattle.ux_net.proofs.RunLemmas.{run_joined, one_step}
use Rattle.ux_boxes.proofs.NumbersLemmas.{same_place, place_so, number_below}
use Rattle.ux_boxes.proofs.StepsLemmas.{step_inside, step_line, start_inside}
use Rattle.ux_admission.proofs.UsesLemmas.{lone_call}
use Rattle.ux_admission.proofs.WaysExact.{closer_inside}

module _ (graphs : List (List Place)) where
  -- the link of a step is one of all
  linked : (g : ℕ) (s : Step) → IsPlaceStep (places_of graphs g) s → (to : ℕ) (into : Bool) →
      IsLinkOf graphs g s (link_from graphs g s.from to into) →
      IsLinked graphs (number_of graphs g s.from) to
  linked g s i to into l =
      let made = link_from graphs g s.from to into in
      (made, record { step = s; of_graph = i; of_step = l }, refl, refl)

  link_starts : (g : ℕ) (s : Step) {link : Link} → IsLinkOf graphs g s link →
      link.from ≡ number_of graphs g s.from
  link_starts g s (onward m) = refl
  link_starts g s (calling h stands) = refl
  link_starts g s (opening sign m) = refl
  link_starts g s (over sign c m closes) = refl

  -- a link into a negative context is that of an opening step
  negative_link : (g : ℕ) (s : Step) {link : Link} → IsLinkOf graphs g s link →
      link.is_negative ≡ true →
      (mark_of s.labels ≡ opens negative) × (link.to ≡ number_of graphs g s.to)
  negative_link g s (onward m) n = absurd (cc)
  negative_link g s (calling h stands) n = absurd (cc)
  negative_link g s (opening positive m) n = absurd (cc)
  negative_link g s (opening negative m) n = (m, refl)
  negative_link g s (over sign c m closes) n = absurd (cc)

  -- a run of the unit leads to the place
  abbrev Leads : (g first n : ℕ) → Type 0
  Leads g first n = (word : List Letter) × Run g (place_graph (places_of graphs g)) first n word

  leads_to : (g first : ℕ) (s : Step) → IsPlaceStep (places_of graphs g) s →
      Leads g first s.from → LeadsTo (place_grammar graphs) g first s
  leads_to g first s i l = record { of_graph = i; word = l.0; run = l.1 }

  leads_on : (g first a b : ℕ) → Leads g first a → Leads g a b → Leads g first b
  leads_on g first a b l m = (l.0 ++ m.0, run_joined g (place_graph (places_of graphs g)) l.1 m.1)

  -- The place is in the unit, or in one that it uses in turns: a run of it leads there.
  abbrev Split : (g first h b : ℕ) → Type 0
  Split g first h b =
      (last : ℕ)
      × (((g ≡ h) × (first ≡ last)) ⊎ UsesInTurns (place_grammar graphs) g first h last)
      × Leads h last b

  -- a unit that is used first
  turned : (g first k next h b : ℕ) → Uses (place_grammar graphs) g first k next →
      Split k next h b → Split g first h b
  turned g first k next h b u s = (
    s.0,
    inr (elim s.1 [
      | inl same ↦ once (subst (λ n. Uses (place_grammar graphs) g first n s.0) same.0
          (subst (λ n. Uses (place_grammar graphs) g first k n) same.1 u))
      | inr turns ↦ more u turns
    ]),
    s.2,
  )

  module _ (fit : All (IsFit (length graphs)) graphs) where
    -- a graph that a step calls has a start
    called_inside : (g h : ℕ) (s : Step) → IsPlaceStep (places_of graphs g) s →
        Contains s.labels (Call h) → 0 < length (places_of graphs h)
    called_inside g h s i stands =
        start_inside graphs fit g h s i
        (lone_call (length graphs) s.labels h (step_line graphs fit g s i) stands)

    link_ends : (g : ℕ) (s : Step) {link : Link} → IsPlaceStep (places_of graphs g) s →
        IsLinkOf graphs g s link → link.to < all_places graphs
    link_ends g s i (onward m) =
        number_below graphs g s.to (step_inside (places_of graphs g) s i).1
    link_ends g s i (calling h stands) =
        number_below graphs h 0 (called_inside g h s i stands)
    link_ends g s i (opening sign m) =
        number_below graphs g s.to (step_inside (places_of graphs g) s i).1
    link_ends g s i (over sign c m closes) =
        number_below graphs g c (closer_inside graphs g s.to c closes)

    link_begins : (g : ℕ) (s : Step) {link : Link} → IsPlaceStep (places_of graphs g) s →
        IsLinkOf graphs g s link → link.from < all_places graphs
    link_begins g s i l =
        let below =
        number_below graphs g s.from (step_inside (places_of graphs g) s i).0 in
        let at = link_starts g s l in
        omega (arith, below, at)

    pub linked_below : (u v : ℕ) → IsLinked graphs u v →
        (u < all_places graphs) × (v < all_places graphs)
    linked_below u v l =
        let link = l.0 in
        let begins = link_begins link.graph l.1.step l.1.of_graph l.1.of_step in
        let ends = link_ends link.graph l.1.step l.1.of_graph l.1.of_step in (
          subst (λ n. n < all_places graphs) l.2 begins,
          subst (λ n. n < all_places graphs) l.3 ends,
        )

    -- where a link leads the unit on, or into one that it uses
    led_on : (g first h b : ℕ) (s : Step) {link : Link} → IsPlaceStep (places_of graphs g) s →
        IsLinkOf graphs g s link → Leads g first s.from →
        ((k next n : ℕ) → n < length (places_of graphs k) → link.to ≡ number_of graphs k n →
        Leads k next n → Split k next h b) → Split g first h b
    led_on g first h b s i (onward m) l again =
        again g first s.to (step_inside (places_of graphs g) s i).1 refl
        (leads_on g first s.from s.to l
        (_, one_step g (place_graph (places_of graphs g)) s i m))
    led_on g first h b s i (calling k stands) l again =
        turned g first k 0 h b (called s (leads_to g first s i l) stands)
        (again k 0 0 (called_inside g k s i stands) refl ([], stop))
    led_on g first h b s i (opening sign m) l again =
        turned g first g s.to h b (opened s (leads_to g first s i l) m)
        (again g s.to s.to (step_inside (places_of graphs g) s i).1 refl ([], stop))
    led_on g first h b s i (over sign c m closes) l again =
        let body = closes.1 in
        let jump : Leads g s.from body.step.to =
        (_, across sign s body.step i m body.run body.inside body.closed stop) in
        again g first c (closer_inside graphs g s.to c closes) refl
        (leads_on g first s.from c l (subst (λ n. Leads g s.from n) body.after jump))

    module _ (edges : List (List ℕ)) (are : AreLinkEdges graphs edges) where
      pub links_inside : IsInside edges
      links_inside = record {
        inside = λ u v e.
            let below = (linked_below u v ((are.edge u v).0 e)).1 in
            let len = are.len in
            omega (arith, below, len);
      }

      edge : (g : ℕ) (s : Step) → IsPlaceStep (places_of graphs g) s → (to : ℕ) (into : Bool) →
          IsLinkOf graphs g s (link_from graphs g s.from to into) →
          Contains (row_of edges (number_of graphs g s.from)) to
      edge g s i to into l = (are.edge (number_of graphs g s.from) to).1 (linked g s i to into l)

      -- a run is a path
      run_reaches : (g : ℕ) {a b : ℕ} {word : List Letter} →
          Run g (place_graph (places_of graphs g)) a b word →
          Reaches edges (number_of graphs g a) (number_of graphs g b)
      run_reaches g stop = here
      run_reaches g (along s i m r) =
          step (edge g s i (number_of graphs g s.to) false (onward m)) (run_reaches g r)
      run_reaches g (across {body = body} sign s t i m run j n r) =
          step (edge g s i (number_of graphs g t.to) false (over sign t.to m (
            body,
            record {
              step = t;
              inside = j;
              closed = n;
              after = refl;
              run = run;
            },
          ))) (run_reaches g r)

      -- where a unit is used, a path leads to it
      use_reaches : {g first h next : ℕ} → Uses (place_grammar graphs) g first h next →
          Reaches edges (number_of graphs g first) (number_of graphs h next)
      use_reaches {g = g} (called {h = h} s l stands) =
          reaches_then edges (run_reaches g l.run)
          (edge g s l.of_graph (number_of graphs h 0) false (calling h stands))
      use_reaches {g = g} (opened {sign = sign} s l m) =
          reaches_then edges (run_reaches g l.run)
          (edge g s l.of_graph (number_of graphs g s.to) (refuses sign) (opening sign m))

      turns_reach : {g first h next : ℕ} → UsesInTurns (place_grammar graphs) g first h next →
          Reaches edges (number_of graphs g first) (number_of graphs h next)
      turns_reach (once u) = use_reaches u
      turns_reach (more u t) = reaches_joined edges (use_reaches u) (turns_reach t)

      -- a path from a place to which a unit leads is a turn of units
      split : {x y : ℕ} → Reaches edges x y → (g first a h b : ℕ) →
          a < length (places_of graphs g) → b < length (places_of graphs h) →
          x ≡ number_of graphs g a → y ≡ number_of graphs h b → Leads g first a →
          Split g first h b
      split here g first a h b i j ex ey l =
          let same = same_place graphs g h a b i j (sym ex ∙ ey) in (
            first,
            inl (same.0, refl),
            place_so graphs (λ k n. Leads k first n) h g b a j i (sym ey ∙ ex) l,
          )
      split (step {u = u} {v = v} e p) g first a h b i j ex ey l =
          let link = (are.edge u v).0 e in
          let k = link.0.graph in
          let s = link.1.step in
          let inside = step_inside (places_of graphs k) s link.1.of_graph in
          let at : number_of graphs g a ≡ number_of graphs k s.from =
          sym ex ∙ (sym link.2 ∙ link_starts k s link.1.of_step) in
          place_so graphs (λ n _. Split n first h b) g k a s.from i inside.0 at
          (led_on k first h b s link.1.of_graph link.1.of_step
          (place_so graphs (λ n m. Leads n first m) k g s.from a inside.0 i (sym at) l)
          (λ n next m below to leads. split p n next m h b below j (sym link.3 ∙ to) ey leads))

      module _ (numbers : List ℕ) (components : AreComponents edges numbers) where
        -- a link into a negative context, in a component, is a context that uses the unit with it
        pub circular_recursive : (link : Link) → IsLink graphs link → IsCircular numbers link →
            IsNegativeRecursive (place_grammar graphs) link.graph
        circular_recursive link l ring =
            let g = link.graph in
            let s = l.step in
            let inside = step_inside (places_of graphs g) s l.of_graph in
            let opens_at = negative_link g s l.of_step ring.0 in
            let from = link_starts g s l.of_step in
            let begins = number_below graphs g s.from inside.0 in
            let ends = number_below graphs g s.to inside.1 in
            let len = are.len in
            let u = number_of graphs g s.from in
            let v = number_of graphs g s.to in
            let same : get_or numbers u 0 ≡ get_or numbers v 0 =
            ap (λ n. get_or numbers n 0) (sym from)
            ∙ (ring.1 ∙ ap (λ n. get_or numbers n 0) opens_at.1) in
            let back = leads_back edges numbers components u v (omega arith) (omega arith) same in
            let parts = split back g s.to s.to g s.from inside.1 inside.0 refl refl ([], stop) in
            let again = leads_to g parts.0 s l.of_graph parts.2 in record {
              first = parts.0;
              opening = s.to;
              has = record { step = s; leads = again; to = refl; refuses = opens_at.0 };
              uses = elim parts.1 [
                | inl one ↦ subst (λ n. UsesInTurns (place_grammar graphs) g n g parts.0)
                    (sym one.1)
                    (subst (λ n. UsesInTurns (place_grammar graphs) g parts.0 g n) one.1
                    (once (opened s again opens_at.0)))
                | inr turns ↦ turns
              ];
            }

        -- and such a context is such a link
        pub recursive_circular : (g : ℕ) → IsNegativeRecursive (place_grammar graphs) g →
            (link : Link) × IsLink graphs link × IsCircular numbers link × (link.graph ≡ g)
        recursive_circular g r =
            let s = r.has.step in
            let leads = r.has.leads in
            let u = number_of graphs g s.from in
            let v = number_of graphs g s.to in
            let home : Reaches edges v (number_of graphs g r.first) =
            subst (λ n. Reaches edges (number_of graphs g n) (number_of graphs g r.first))
            (sym r.has.to) (turns_reach r.uses) in
            let back = reaches_joined edges home (run_reaches g leads.run) in
            let of_step = opening negative r.has.refuses in (
              link_from graphs g s.from v true,
              record { step = s; of_graph = leads.of_graph; of_step = of_step },
              (
                refl,
                circular edges numbers components u v
                    (edge g s leads.of_graph v true of_step) back,
              ),
              refl,
            )

        -- the numbers are levels, where no link is circular
        pub numbers_levels : ((link : Link) → IsLink graphs link → IsCircular numbers link → ⊥) →
            AreLevels graphs numbers
        numbers_levels none = record {
          len = components.len ∙ are.len;
          below = λ k. elim (less_or k (length edges)) [
            | inl l ↦
                let below = components.below k l in
                let len = are.len in
                omega (arith, below, len)
            | inr p ↦
                let len = components.len in
                let past = get_or_past numbers k 0 (omega (arith, p, len)) in
                omega (arith, past)
          ];
          ordinary = λ g s i m. falls g s i (number_of graphs g s.to) false (onward m);
          across = λ g s sign c i m closes.
              falls g s i (number_of graphs g c) false (over sign c m closes);
          calls = λ g h s i stands. falls g s i (number_of graphs h 0) false (calling h stands);
          holds = λ g s i m. falls g s i (number_of graphs g s.to) false (opening positive m);
          refused = λ g s i m.
              let u = number_of graphs g s.from in
              let v = number_of graphs g s.to in
              let most = falls g s i v true (opening negative m) in
              elim (same_or (get_or numbers u 0) (get_or numbers v 0)) [
                | inl e ↦ absurd (none (link_from graphs g s.from v true)
                    (record { step = s; of_graph = i; of_step = opening negative m }) (refl, e))
                | inr n ↦ omega arith
              ];
        }
          where
            falls : (g : ℕ) (s : Step) → IsPlaceStep (places_of graphs g) s → (to : ℕ)
                (into : Bool) → IsLinkOf graphs g s (link_from graphs g s.from to into) →
                get_or numbers to 0 ≤ get_or numbers (number_of graphs g s.from) 0
            falls g s i to into l =
                components.falls (number_of graphs g s.from) to (edge g s i to into l)
