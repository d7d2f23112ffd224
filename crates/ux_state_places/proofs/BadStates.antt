-- The contexts that are refused at places are those that are refused at their states, and so are
-- negative contexts that use what has them.
use Rattle.std.proofs.Common.{◌≡◌, inl, inr, ℕ, ◌<◌, List, [], ◌∷◌, length, refl, sym, ap, subst, ◌∙◌}
use Rattle.std.specs.Prelude.{Contains}
use Rattle.ux_base.proofs.Lists.{contains_first}
use Rattle.ux_net.specs.declared.label.Label.{Label}
use Rattle.ux_net.specs.declared.label.Label.TheVariants.{Call, ContextEnd}
use Rattle.ux_net.specs.declared.state_graph.StateGraph.{StateGraph}
use Rattle.ux_net.specs.Closers.{ClosesInto}
use Rattle.ux_net.specs.Nets.{net_graph}
use Rattle.ux_net.specs.StateGraphs.{told_states, state_grammar, AreInsideStates}
use Rattle.ux_net.specs.Words.{negative, Step, Run, IsBody}
use Rattle.ux_boxes.specs.declared.place.Place.{Place}
use Rattle.ux_boxes.specs.Places.{places_of, place_graph, place_grammar}
use Rattle.ux_admission.specs.ContextClose.{IsBadContext, AreClosed}
use Rattle.ux_admission.specs.NegativeRecursion.{LeadsTo, Uses, called, opened, UsesInTurns, once, more, IsNegativeRecursive, IsFirstNegative, HasNoNegativeRecursion}
use Rattle.ux_net.proofs.RunLemmas.{run_joined}
use Rattle.ux_admission.proofs.ContextLemmas.{bad_inside}
use Rattle.ux_state_places.specs.Standing.{Stand}
use Rattle.ux_state_places.proofs.EntryLemmas.{state_in, hub_in, IsEntry, start_entry, opened_entry, entry_opened, called_back, called_forth, called_start}
use Rattle.ux_state_places.proofs.RunLifts.{Same, IsMetState, same_mark, opened_place, lifted, run_lifts, from_inside}
use Rattle.ux_state_places.proofs.RunProjects.{run_projects, closes_back, closes_forth, closer_line, start_inside, same_from, opening_same}

module _ (graphs : List StateGraph) (places : List (List Place)) (stands hubs : List (List ℕ))
    (stand : Stand graphs places stands hubs) where
  abbrev P : (g p : ℕ) → ℕ
  P g p = state_in graphs places stands hubs stand g p

  abbrev Entry : (g p n : ℕ) → Type 0
  Entry g p n = IsEntry graphs places stands hubs stand g p n

  -- where contexts are closed from a place, they are so from its state
  closed_from : (g p n : ℕ) → Entry g p n → (c : ℕ) → ClosesInto (state_grammar graphs) g n c →
      (q : ℕ) × ClosesInto (place_grammar places) g p q × (P g q ≡ c)
  closed_from g p n e c h =
      closes_forth graphs places stands hubs stand g n c p h e.met e.enters

  -- what is refused at a place is refused at its state
  pub bad_back : (g p : ℕ) → IsBadContext (place_grammar places) g p →
      IsBadContext (state_grammar graphs) g (P g p)
  bad_back g p (inl (inl x)) =
      let o = opened_entry graphs places stands hubs stand g x.sign p x.opening in
      inl (inl (record {
        sign = x.sign;
        opening = o.0;
        never = λ c h. let q = closed_from g p (P g p) o.1 c h in x.never q.0 q.1;
      }))
  bad_back g p (inl (inr x)) =
      let o = opened_entry graphs places stands hubs stand g x.sign p x.opening in
      let r = run_projects graphs places stands hubs stand g x.run in
      inl (inr (record {
        sign = x.sign;
        opening = o.0;
        last = P g x.last;
        ends = (stand.ends g x.last x.ends).1;
        word = r.word;
        run = r.run;
      }))
  bad_back g p (inr (inl x)) =
      let o = opened_entry graphs places stands hubs stand g negative p x.opening in
      inr (inl (record {
        opening = o.0;
        first = P g x.first;
        second = P g x.second;
        apart = λ e. x.apart (stand.apart g x.first x.second (ContextEnd ∷ [])
            (closer_line graphs places stands hubs stand g p x.first x.into_first)
            (closer_line graphs places stands hubs stand g p x.second x.into_second) e);
        into_first = closes_back graphs places stands hubs stand g p x.first x.into_first;
        into_second = closes_back graphs places stands hubs stand g p x.second x.into_second;
      }))
  bad_back g p (inr (inr x)) =
      inr (inr (subst (λ n. ClosesInto (state_grammar graphs) g n (P g p)) (stand.first g)
      (closes_back graphs places stands hubs stand g 0 p x)))

  -- what is refused at a state is refused at a place of it
  pub bad_forth : (g n : ℕ) → IsBadContext (state_grammar graphs) g n →
      (p : ℕ) × IsBadContext (place_grammar places) g p × (P g p ≡ n)
  bad_forth g n (inl (inl x)) =
      let o = entry_opened graphs places stands hubs stand g x.sign n x.opening in (
        o.0,
        inl (inl (record {
          sign = x.sign;
          opening = o.1;
          never = λ c h. x.never (P g c)
              (subst (λ k. ClosesInto (state_grammar graphs) g k (P g c)) o.2.stands_for
              (closes_back graphs places stands hubs stand g o.0 c h));
        })),
        o.2.stands_for,
      )
  bad_forth g n (inl (inr x)) =
      let o = entry_opened graphs places stands hubs stand g x.sign n x.opening in
      let r = run_lifts graphs places stands hubs stand g x.run o.2.met in (
        o.0,
        inl (inr (record {
          sign = x.sign;
          opening = o.1;
          last = hub_in graphs places stands hubs stand g x.last;
          ends = stand.finals g x.last x.ends r.met.reached;
          word = r.word;
          run = run_joined g (place_graph (places_of places g)) o.2.enters r.run;
        })),
        o.2.stands_for,
      )
  bad_forth g n (inr (inl x)) =
      let o = entry_opened graphs places stands hubs stand g negative n x.opening in
      let first = closed_from g o.0 n o.2 x.first x.into_first in
      let second = closed_from g o.0 n o.2 x.second x.into_second in (
        o.0,
        inr (inl (record {
          opening = o.1;
          first = first.0;
          second = second.0;
          apart = λ e. x.apart (sym first.2 ∙ (ap (λ k. P g k) e ∙ second.2));
          into_first = first.1;
          into_second = second.1;
        })),
        o.2.stands_for,
      )
  bad_forth g n (inr (inr x)) =
      let body : IsBody g (net_graph (told_states graphs g)) 0 n x.0 = x.1 in
      let some = start_inside graphs places stands hubs stand g body.run
      (from_inside graphs places stands hubs stand g body.step body.inside) in
      let q = closed_from g 0 0 (start_entry graphs places stands hubs stand g some) n x in
      (q.0, inr (inr q.1), q.2)

  -- a place at which a context is refused is one, and so is its state
  pub bad_states : (g p : ℕ) → IsBadContext (place_grammar places) g p →
      (p < length (places_of places g)) × IsBadContext (state_grammar graphs) g (P g p)
  bad_states g p bad = (bad_inside places g p bad, bad_back g p bad)

  pub closed_states : AreClosed (place_grammar places) → AreClosed (state_grammar graphs)
  closed_states closed g n bad = let x = bad_forth g n bad in closed g x.0 x.1

  -- where a run leads from a unit to a step, one leads to the step of the states
  leads_back : (g first : ℕ) (s t : Step) → Same graphs places stands hubs stand g s t →
      LeadsTo (place_grammar places) g first s → LeadsTo (state_grammar graphs) g (P g first) t
  leads_back g first s t same l =
      let r = run_projects graphs places stands hubs stand g l.run in
      record {
        of_graph = same.of_states;
        word = r.word;
        run = subst (λ n. Run g (net_graph (told_states graphs g)) (P g first) n r.word)
            (same_from graphs places stands hubs stand g s t same) r.run;
      }

  leads_forth : (g first n : ℕ) (s t : Step) → Entry g first n →
      Same graphs places stands hubs stand g s t → LeadsTo (state_grammar graphs) g n t →
      LeadsTo (place_grammar places) g first s
  leads_forth g first n s t e same l =
      let r = run_lifts graphs places stands hubs stand g l.run e.met in
      record {
        of_graph = same.of_places;
        word = r.word;
        run = subst (λ k. Run g (place_graph (places_of places g)) first k r.word) (sym same.from)
            (run_joined g (place_graph (places_of places g)) e.enters r.run);
      }

  -- the state of a step to which a run leads from a unit
  led_met : (g first n : ℕ) (t : Step) → Entry g first n → LeadsTo (state_grammar graphs) g n t →
      IsMetState graphs places stands hubs stand g t.from
  led_met g first n t e l = (run_lifts graphs places stands hubs stand g l.run e.met).met

  uses_back : (g a h b : ℕ) → Uses (place_grammar places) g a h b →
      Uses (state_grammar graphs) g (P g a) h (P h b)
  uses_back g a h b (called s l has) =
      let x = called_back graphs places stands hubs stand g h s l.of_graph has in
      subst (λ n. Uses (state_grammar graphs) g (P g a) h n) (sym (stand.first h))
      (called x.0 (leads_back g a s x.0 x.1 l)
      (subst (λ (line : List Label). Contains line (Call h)) (sym x.2) (contains_first (Call h) [])))
  uses_back g a h b (opened {sign = sign} s l m) =
      let x = opening_same graphs places stands hubs stand g s sign l.of_graph m in
      subst (λ n. Uses (state_grammar graphs) g (P g a) g n) (sym x.1.to)
      (opened {sign = sign} x.0 (leads_back g a s x.0 x.1 l)
      (sym (same_mark graphs places stands hubs stand g s x.0 x.1) ∙ m))

  pub turns_back : {g a h b : ℕ} → UsesInTurns (place_grammar places) g a h b →
      UsesInTurns (state_grammar graphs) g (P g a) h (P h b)
  turns_back (once {g = g} {a = a} {h = h} {b = b} u) = once (uses_back g a h b u)
  turns_back (more {g = g} {a = a} {h = h} {b = b} u rest) =
      more (uses_back g a h b u) (turns_back rest)

  -- what is used has a place, and every place of the unit uses it
  pub record IsUsed (Relates : (p q : ℕ) → Type 0) (g n h m : ℕ) : Type 0 where
    pub place : ℕ
    pub entry : Entry h place m
    pub relates : (p : ℕ) → Entry g p n → Relates p place

  uses_forth : AreInsideStates graphs → (g a h b : ℕ) (p : ℕ) → Entry g p a →
      Uses (state_grammar graphs) g a h b →
      IsUsed (λ p q. Uses (place_grammar places) g p h q) g a h b
  uses_forth inside g a h b p e (called t l has) =
      let x = lifted graphs places stands hubs stand g t l.of_graph (led_met g p a t e l) in
      let line = called_forth graphs places stands hubs stand g h x.0 t x.1 has in
      record {
        place = 0;
        entry = start_entry graphs places stands hubs stand h
            (called_start graphs places stands hubs stand inside g h t l.of_graph has);
        relates = λ p e. called x.0 (leads_forth g p a x.0 t e x.1 l)
            (subst (λ (line : List Label). Contains line (Call h)) (sym line)
            (contains_first (Call h) []));
      }
  uses_forth inside g a h b p e (opened {sign = sign} t l m) =
      let o = opened_place graphs places stands hubs stand g t sign l.of_graph m in
      let mark = same_mark graphs places stands hubs stand g o.step t o.same ∙ m in
      record {
        place = o.step.to;
        entry = subst (Entry g o.step.to) o.same.to
            (opened_entry graphs places stands hubs stand g sign o.step.to (record {
              step = o.step;
              of_graph = o.same.of_places;
              to = refl;
              opens = mark;
            })).1;
        relates = λ p e. opened {sign = sign} o.step (leads_forth g p a o.step t e o.same l) mark;
      }

  turns_forth : AreInsideStates graphs → {g a h b : ℕ} → (p : ℕ) → Entry g p a →
      UsesInTurns (state_grammar graphs) g a h b →
      IsUsed (λ p q. UsesInTurns (place_grammar places) g p h q) g a h b
  turns_forth inside p e (once {g = g} {a = a} {h = h} {b = b} u) =
      let x = uses_forth inside g a h b p e u in
      record { place = x.place; entry = x.entry; relates = λ p e. once (x.relates p e) }
  turns_forth inside p e (more {g = g} {a = a} {h = h} {b = b} u rest) =
      let x = uses_forth inside g a h b p e u in
      let y = turns_forth inside x.place x.entry rest in
      record {
        place = y.place;
        entry = y.entry;
        relates = λ p e. more (x.relates p e) (y.relates x.place x.entry);
      }

  pub recursive_back : (g : ℕ) → IsNegativeRecursive (place_grammar places) g →
      IsNegativeRecursive (state_grammar graphs) g
  recursive_back g n =
      let has = n.has in
      let x = opening_same graphs places stands hubs stand g has.step negative has.leads.of_graph
      has.refuses in
      record {
        first = P g n.first;
        opening = P g n.opening;
        has = record {
          step = x.0;
          leads = leads_back g n.first has.step x.0 x.1 has.leads;
          to = sym x.1.to ∙ ap (λ k. P g k) has.to;
          refuses = sym (same_mark graphs places stands hubs stand g has.step x.0 x.1) ∙ has.refuses;
        };
        uses = turns_back n.uses;
      }

  pub recursive_forth : AreInsideStates graphs → (g : ℕ) →
      IsNegativeRecursive (state_grammar graphs) g → IsNegativeRecursive (place_grammar places) g
  recursive_forth inside g n =
      let has = n.has in
      let o = opened_place graphs places stands hubs stand g has.step negative has.leads.of_graph
      has.refuses in
      let mark = same_mark graphs places stands hubs stand g o.step has.step o.same ∙ has.refuses in
      let entry : Entry g o.step.to n.opening =
      subst (Entry g o.step.to) (o.same.to ∙ has.to)
      (opened_entry graphs places stands hubs stand g negative o.step.to (record {
        step = o.step;
        of_graph = o.same.of_places;
        to = refl;
        opens = mark;
      })).1 in
      let used = turns_forth inside o.step.to entry n.uses in
      record {
        first = used.place;
        opening = o.step.to;
        has = record {
          step = o.step;
          leads = leads_forth g used.place n.first o.step has.step used.entry o.same has.leads;
          to = refl;
          refuses = mark;
        };
        uses = used.relates o.step.to entry;
      }

  -- so the first graphs are the same
  pub first_negative : AreInsideStates graphs → (g : ℕ) →
      IsFirstNegative (place_grammar places) g → IsFirstNegative (state_grammar graphs) g
  first_negative inside g f = record {
    here = recursive_back g f.here;
    least = λ h low n. f.least h low (recursive_forth inside h n);
  }

  pub no_recursion_states : AreInsideStates graphs →
      HasNoNegativeRecursion (place_grammar places) → HasNoNegativeRecursion (state_grammar graphs)
  no_recursion_states inside none g n = none g (recursive_forth inside g n)
