-- What follows by the rules of the ways is which places lead freely to an end of their graph.
use Rattle.std.proofs.Common.{arith, ◌≡◌, ℕ, ◌<◌, List, [], ◌∷◌, ◌++◌, length, refl, ap, subst, sym, ◌∙◌, inl, inr, ◌↔◌, true, false}
use Rattle.std.specs.Prelude.{All}
use Rattle.std.proofs.lemmas.List.Elements.{All-head, All-tail}
use Rattle.ux_digraph.specs.declared.closing.Rule.{Rule}
use Rattle.ux_digraph.specs.Rules.{Derived, fact, by, AreRulesInside}
use Rattle.ux_net.specs.declared.label.Label.{Label}
use Rattle.ux_net.specs.declared.label.Label.TheVariants.{Empty, CaseFolded, CaseExact, Mask, Brace, Space, NoSpace, Begin, End, Positive, Negative, ContextEnd, Cut, Call}
use Rattle.ux_boxes.specs.declared.place.Place.{Place}
use Rattle.ux_admission.specs.declared.way.Way.{Way}
use Rattle.ux_admission.specs.declared.way.Passage.{Passage}
use Rattle.ux_admission.specs.declared.way.Passage.TheVariants.{Silent, Calls, Opens, Jumps}
use Rattle.ux_net.specs.Words.{Step, Letter, plain, piece, context, Run, stop, along, across, letters, put_by}
use Rattle.ux_boxes.specs.Places.{places_of, place_graph, place_grammar, IsPlaceStep, IsEndPlace}
use Rattle.ux_boxes.specs.Fit.{IsFit, is_call}
use Rattle.ux_net.specs.Nullable.{IsSilent, IsFree, none, silent, call, IsNullable}
use Rattle.ux_admission.specs.Admissible.{MovesFreely, along_step, over_context}
use Rattle.ux_admission.specs.Gains.{Gains, SoOfOne}
use Rattle.ux_boxes.specs.Numbers.{number_of, all_places}
use Rattle.ux_net.specs.Silent.{are_silent}
use Rattle.ux_admission.specs.Ways.{Passes, IsWay, EndsFreely, way_at, LeadsOn, second_of, rule_of, IsRuleOf, AreFreeRules, AreEnds, AreWays}
use Rattle.ux_admission.proofs.GainsLemmas.{gains_all}
use Rattle.ux_boxes.proofs.NumbersLemmas.{place_so, number_below}
use Rattle.ux_admission.proofs.FreeLemmas.{silent_free, nullable_call, leads_joined, move_leads}
use Rattle.ux_boxes.proofs.StepsLemmas.{step_inside, step_cases, start_inside, target_from}
use Rattle.ux_admission.proofs.WaysExact.{closer_inside}

module _ (graphs : List (List Place)) (fit : All (IsFit (length graphs)) graphs) where
  -- a step has its ways
  pub is_way : (g : ℕ) (s : Step) → IsPlaceStep (places_of graphs g) s → (c : ℕ)
      (passage : Passage) → Passes graphs g s.to s.labels c passage →
      IsWay graphs (way_at graphs g s.from c passage)
  is_way g s i c passage p = record {
    step = s;
    of_graph = i;
    along = record { graph = refl; source = refl; from = refl; to = refl; passes = p };
  }

  pub nullable_ends : (h : ℕ) → IsNullable (place_grammar graphs) h → EndsFreely graphs h 0
  nullable_ends h n = record {
    last = n.of_graph.last;
    word = n.word;
    ends = n.of_graph.ends;
    run = n.of_graph.run;
    free = n.free;
  }

  pub ends_nullable : (h : ℕ) → EndsFreely graphs h 0 → IsNullable (place_grammar graphs) h
  ends_nullable h e = record {
    word = e.word;
    of_graph = record { last = e.last; ends = e.ends; run = e.run };
    free = e.free;
  }

  -- a way that leads on is a move, where the start that it calls leads freely to an end
  pub passes_move : (g : ℕ) (s : Step) → IsPlaceStep (places_of graphs g) s → (c : ℕ)
      (passage : Passage) → Passes graphs g s.to s.labels c passage → LeadsOn passage →
      ((h : ℕ) → s.labels ≡ Call h ∷ [] → passage ≡ Calls (number_of graphs h 0) →
      EndsFreely graphs h 0) → MovesFreely (place_grammar graphs) g s.from c
  passes_move g s i c Silent p on ends =
      subst (λ n. MovesFreely (place_grammar graphs) g s.from n) (sym p.0)
      (along_step s i (silent_free (place_grammar graphs) s.labels p.1))
  passes_move g s i c (Calls start) p on ends =
      subst (λ n. MovesFreely (place_grammar graphs) g s.from n) (sym p.0)
      (along_step s i (subst (λ l. IsFree (place_grammar graphs) (letters l)) (sym p.1.1)
      (nullable_call (place_grammar graphs) p.1.0
      (ends_nullable p.1.0 (ends p.1.0 p.1.1 (ap (λ n. Calls n) p.1.2))))))
  passes_move g s i c Opens p on ends = absurd on
  passes_move g s i c (Jumps opening) p on ends = over_context p.1.0 s i p.1.1 p.2

  -- a way leads to a place
  pub way_inside : (g : ℕ) (s : Step) → IsPlaceStep (places_of graphs g) s → (c : ℕ)
      (passage : Passage) → Passes graphs g s.to s.labels c passage →
      c < length (places_of graphs g)
  way_inside g s i c Silent p = subst (λ n. n < length (places_of graphs g)) (sym p.0)
      (step_inside (places_of graphs g) s i).1
  way_inside g s i c (Calls start) p = subst (λ n. n < length (places_of graphs g)) (sym p.0)
      (step_inside (places_of graphs g) s i).1
  way_inside g s i c Opens p = subst (λ n. n < length (places_of graphs g)) (sym p.0)
      (step_inside (places_of graphs g) s i).1
  way_inside g s i c (Jumps opening) p = closer_inside graphs g s.to c p.2

  -- what leads freely to an end does so behind a move
  pub moved_ends : (g : ℕ) {a b : ℕ} → MovesFreely (place_grammar graphs) g a b →
      EndsFreely graphs g b → EndsFreely graphs g a
  moved_ends g m e =
      let l = leads_joined (place_grammar graphs) g (move_leads (place_grammar graphs) g m)
      (e.word, e.run, e.free) in
      record { last = e.last; word = l.0; ends = e.ends; run = l.1; free = l.2 }

  module _ (rules : List Rule) (facts : List ℕ) (by_ways : AreFreeRules graphs rules)
      (at_ends : AreEnds graphs facts) where
    sound : {x : ℕ} → Derived rules facts x → (g a : ℕ) → a < length (places_of graphs g) →
        x ≡ number_of graphs g a → EndsFreely graphs g a
    sound {x = x} (fact h) g a i e =
        let f = (at_ends x).0 h in
        place_so graphs (EndsFreely graphs) g f.0 a f.1 i
        (target_from (places_of graphs f.0) f.1 1 f.2.1) (sym e ∙ f.3) (record {
          last = f.1;
          word = [];
          ends = f.2;
          run = stop;
          free = none;
        })
    sound (by r h first second) g a i e =
        let f = (by_ways r).0 h in
        let way = f.0 in
        let w = f.1 in
        let rule = f.2.1 in
        let from = (step_inside (places_of graphs way.graph) w.step w.of_graph).0 in
        let to = way_inside way.graph w.step w.of_graph way.target way.passage w.along.passes in
        let there = sound first way.graph way.target to
        (sym (ap (λ (q : Rule). q.first) rule) ∙ w.along.to) in
        let moves = passes_move way.graph w.step w.of_graph way.target way.passage
        w.along.passes f.2.0 (λ h l c.
        sound second h 0 (start_inside graphs fit way.graph h w.step w.of_graph l)
        (sym (ap (λ (q : Rule). q.second) rule) ∙ ap (λ p. second_of p way.to) c)) in
        place_so graphs (EndsFreely graphs) g way.graph a w.step.from i from
        (sym e ∙ (sym (ap (λ (q : Rule). q.place) rule) ∙ w.along.from))
        (moved_ends way.graph moves there)

    -- a letter that takes nothing: what it calls has a marked start
    abbrev IsPassed : Letter → Type 0
    IsPassed (plain (Call h)) = Derived rules facts (number_of graphs h 0)
    IsPassed letter = IsSilent letter

    abbrev AllPass : List Letter → Type 0
    AllPass [] = Unit {0}
    AllPass (x ∷ word) = IsPassed x × AllPass word

    pass_parts : (u v : List Letter) → AllPass (u ++ v) → AllPass u × AllPass v
    pass_parts [] v p = (tt, p)
    pass_parts (x ∷ u) v p = let r = pass_parts u v p.1 in ((p.0, r.0), r.1)

    pass_silent : (line : List Label) → All (λ (x : Label). is_call x ≡ false) line →
        AllPass (letters line) → are_silent line ≡ true
    pass_silent [] calls p = refl
    pass_silent (Empty ∷ line) calls p =
        pass_silent line (All-tail (λ (x : Label). is_call x ≡ false) Empty line calls) p
    pass_silent (NoSpace ∷ line) calls p =
        pass_silent line (All-tail (λ (x : Label). is_call x ≡ false) NoSpace line calls) p.1
    pass_silent (Begin name ∷ line) calls p =
        pass_silent line (All-tail (λ (x : Label). is_call x ≡ false) (Begin name) line calls) p.1
    pass_silent (End name ∷ line) calls p =
        pass_silent line (All-tail (λ (x : Label). is_call x ≡ false) (End name) line calls) p.1
    pass_silent (Cut ∷ line) calls p =
        pass_silent line (All-tail (λ (x : Label). is_call x ≡ false) Cut line calls) p.1
    pass_silent (CaseFolded text ∷ line) calls p = p.0
    pass_silent (CaseExact text ∷ line) calls p = p.0
    pass_silent (Mask text ∷ line) calls p = p.0
    pass_silent (Brace text ∷ line) calls p = p.0
    pass_silent (Space ∷ line) calls p = p.0
    pass_silent (Positive ∷ line) calls p = p.0
    pass_silent (Negative ∷ line) calls p = p.0
    pass_silent (ContextEnd ∷ line) calls p = p.0
    pass_silent (Call h ∷ line) calls p =
        let no = All-head (λ (x : Label). is_call x ≡ false) (Call h) line calls in absurd (cc)

    -- a rule for a way whose target, and the start that it calls, follow
    by_way : (g : ℕ) (s : Step) → IsPlaceStep (places_of graphs g) s → (c : ℕ)
        (passage : Passage) → Passes graphs g s.to s.labels c passage → LeadsOn passage →
        Derived rules facts (number_of graphs g c) →
        Derived rules facts (second_of passage (number_of graphs g c)) →
        Derived rules facts (number_of graphs g s.from)
    by_way g s i c passage p on first second =
        let way = way_at graphs g s.from c passage in
        let d : Derived rules facts (rule_of way).place = by (rule_of way)
        ((by_ways (rule_of way)).1 (way, is_way g s i c passage p, (on, refl))) first second in
        d

    run_derived : (g : ℕ) {a b : ℕ} {word : List Letter} →
        Run g (place_graph (places_of graphs g)) a b word → AllPass word →
        IsEndPlace (places_of graphs g) b → Derived rules facts (number_of graphs g a)
    run_derived g (stop {a = a}) p ends =
        fact ((at_ends (number_of graphs g a)).1 (g, a, ends, refl))
    run_derived g (across {body = body} {word = word} sign s t i m r j n later) p ends =
        let rest = pass_parts (put_by s) (context sign g s.to t.to ∷ word) p in
        let derived = run_derived g later rest.1.1 ends in
        by_way g s i t.to (Jumps s.to) (
          refl,
          (sign, m),
          (body, record { step = t; inside = j; closed = n; after = refl; run = r }),
        ) tt derived derived
    run_derived g (along {word = word} s i m r) p ends =
        let parts = pass_parts (put_by s ++ letters s.labels) word p in
        let line = (pass_parts (put_by s) (letters s.labels) parts.0).1 in
        let later = run_derived g r parts.1 ends in
        elim (step_cases graphs fit g s i) [
          | inl c ↦
              let called = subst (λ l. AllPass (letters l)) c.1 line in
              by_way g s i s.to (Calls (number_of graphs c.0 0)) (refl, (c.0, c.1, refl)) tt
              later called.0
          | inr n ↦ by_way g s i s.to Silent (refl, pass_silent s.labels n line) tt later later
        ]

    silent_passes : (x : Letter) → IsSilent x → IsPassed x
    silent_passes (plain Empty) s = s
    silent_passes (plain (CaseFolded text)) s = s
    silent_passes (plain (CaseExact text)) s = s
    silent_passes (plain (Mask text)) s = s
    silent_passes (plain (Brace text)) s = s
    silent_passes (plain Space) s = s
    silent_passes (plain NoSpace) s = s
    silent_passes (plain (Begin name)) s = s
    silent_passes (plain (End name)) s = s
    silent_passes (plain Positive) s = s
    silent_passes (plain Negative) s = s
    silent_passes (plain ContextEnd) s = s
    silent_passes (plain Cut) s = s
    silent_passes (plain (Call h)) s = absurd (cc)
    silent_passes (piece part) s = s
    silent_passes (context sign g opening closing) s = s

    free_pass : {word : List Letter} → IsFree (place_grammar graphs) word → AllPass word
    free_pass none = tt
    free_pass (silent {letter = x} s f) = (silent_passes x s, free_pass f)
    free_pass (call {h = h} w c f) = (run_derived h w.run (free_pass c) w.ends, free_pass f)

    -- a place follows exactly where it leads freely to an end
    pub derived_exactly : (g a : ℕ) → a < length (places_of graphs g) →
        Derived rules facts (number_of graphs g a) ↔ EndsFreely graphs g a
    derived_exactly g a i =
        (λ d. sound d g a i refl, λ e. run_derived g e.run (free_pass e.free) e.ends)

    pub rules_inside : AreRulesInside (all_places graphs) rules facts
    rules_inside = record {
      rule = λ r h.
          let f = (by_ways r).0 h in
          let way = f.0 in
          let w = f.1 in
          let rule = f.2.1 in
          let inside = step_inside (places_of graphs way.graph) w.step w.of_graph in
          let from = number_below graphs way.graph w.step.from inside.0 in
          let to = number_below graphs way.graph way.target
          (way_inside way.graph w.step w.of_graph way.target way.passage w.along.passes) in
          let rest = second_below way.graph w.step w.of_graph way.target way.to way.passage
          w.along.passes (omega (arith, w.along.to, to)) in (
            subst (λ (q : Rule). q.place < all_places graphs) rule
                (omega (arith, w.along.from, from)),
            subst (λ (q : Rule). q.first < all_places graphs) rule (omega (arith, w.along.to, to)),
            subst (λ (q : Rule). q.second < all_places graphs) rule rest,
          );
      start = λ x h.
          let f = (at_ends x).0 h in
          let below =
          number_below graphs f.0 f.1 (target_from (places_of graphs f.0) f.1 1 f.2.1) in
          omega (arith, f.3);
    }
      where
        second_below : (g : ℕ) (s : Step) → IsPlaceStep (places_of graphs g) s → (c to : ℕ)
            (passage : Passage) → Passes graphs g s.to s.labels c passage →
            to < all_places graphs → second_of passage to < all_places graphs
        second_below g s i c to Silent p l = l
        second_below g s i c to (Calls start) p l =
            let b = number_below graphs p.1.0 0 (start_inside graphs fit g p.1.0 s i p.1.1) in
            omega (arith, p.1.2)
        second_below g s i c to Opens p l = l
        second_below g s i c to (Jumps opening) p l = l

-- the rules that are made of the ways are those of the ways
pub rules_by_ways : (graphs : List (List Place)) (ways : List Way) → AreWays graphs ways →
    (rules : List Rule) → Gains [] rules (SoOfOne ways IsRuleOf) → AreFreeRules graphs rules
rules_by_ways graphs ways are rules made = λ r.
    let all = gains_all rules (SoOfOne ways IsRuleOf) made r in (
      λ h. let w = all.0 h in (w.0, (are.exact w.0).0 w.1, w.2),
      λ w. all.1 (w.0, (are.exact w.0).1 w.1, w.2),
    )
