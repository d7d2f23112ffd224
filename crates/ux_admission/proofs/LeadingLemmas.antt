-- The steps of a graph, noted by where they lead, are its steps; and the closers that follow from
-- them are those of its bodies.
use Rattle.std.proofs.Common.{arith, ◌≡◌, ◌≢◌, ℕ, ◌+◌, ◌<◌, ◌≤◌, List, [], ◌∷◌, ◌++◌, length, refl, ap, subst, sym, ◌∙◌, inl, inr, ◌↔◌, get_or, true}
use Rattle.std.specs.Prelude.{Contains, All}
use Rattle.std.proofs.lemmas.List.{get_or_default, get_or_append_left, get_or_past, get_or_push}
use Rattle.std.proofs.lemmas.List.Elements.{Contains-get_or, All-contains_itself, All-weaker}
use Rattle.std.proofs.lemmas.Option.{slice_get_read}
use Rattle.ux_digraph.specs.Paths.{row_of}
use Rattle.ux_base.proofs.Lists.{same_or, less_or}
use Rattle.ux_net.specs.declared.label.Label.{Label}
use Rattle.ux_admission.specs.declared.leading.Leading.{Leading}
use Rattle.ux_admission.specs.declared.leading.Marks.{Marks}
use Rattle.ux_boxes.specs.declared.place.Place.{Place}
use Rattle.ux_net.specs.Closers.{ClosesInto}
use Rattle.ux_admission.specs.Gains.{Gains, SoBelow}
use Rattle.ux_admission.specs.Leading.{is_noted, no_marks, AreMarks, IsSource, IsLeading, IsLeadingInside, Leads, Closes, closed, goes_on, jumps}
use Rattle.ux_boxes.specs.Places.{label_lines, lines_in, places_of, place_graph, place_grammar, place_output, place_targets, IsPlaceStep}
use Rattle.ux_net.specs.Words.{positive, negative, Mark, ordinary, opens, closes, mark_of, Letter, context, letters, put_by, Step, Run, stop, along, across, IsBody}
use Rattle.ux_admission.proofs.GainsLemmas.{gains_as}
use Rattle.ux_boxes.proofs.StepsLemmas.{target_from, line_from}

module _ (places : List Place) where
  -- the targets of a place that isn't the end
  pub gains_targets : (before after : List (ℕ × ℕ)) (n : ℕ) → n ≢ 1 →
      Gains before after (SoBelow (length (place_targets places n))
      (λ k p. ◌≡◌ {A = ℕ × ℕ} (get_or (place_targets places n) k 0, n) p)) →
      Gains before after (λ p. IsSource places n p.0 × (n ≡ p.1))
  gains_targets before after n apart gains =
      let targets = place_targets places n in
      gains_as before after
      (SoBelow (length targets) (λ k p. ◌≡◌ {A = ℕ × ℕ} (get_or targets k 0, n) p))
      (λ p. IsSource places n p.0 × (n ≡ p.1)) (λ p. (
        λ s. (
          (
            apart,
            subst (λ t. Contains targets t) (ap (λ (q : ℕ × ℕ). q.0) s.2)
                (Contains-get_or targets s.0 0 s.1),
          ),
          ap (λ (q : ℕ × ℕ). q.1) s.2,
        ),
        λ s.
            let h = s.0.1 in (
              h.0,
              h.1,
              ap (λ t. (t, n)) (get_or_default targets h.0 0 p.0 h.1 ∙ h.2)
                  ∙ ap (λ m. (p.0, m)) s.1,
            ),
      )) gains

  -- the targets of all places
  pub gains_pairs : (before after : List (ℕ × ℕ)) →
      Gains before after (SoBelow (length places) (λ n p. IsSource places n p.0 × (n ≡ p.1))) →
      Gains before after (λ p. IsSource places p.1 p.0)
  gains_pairs before after gains =
      gains_as before after
      (SoBelow (length places) (λ n p. IsSource places n p.0 × (n ≡ p.1)))
      (λ p. IsSource places p.1 p.0) (λ p. (
        λ s. subst (λ n. IsSource places n p.0) s.2.1 s.2.0,
        λ s. (p.1, target_from places p.1 p.0 s.1, (s, refl)),
      )) gains

  -- each pair begins with a place
  pub pairs_inside : ((a b : ℕ) → Contains (place_targets places a) b → b < length places) →
      (pairs : List (ℕ × ℕ)) → ((a b : ℕ) → Contains pairs (b, a) ↔ IsSource places a b) →
      All (λ (p : ℕ × ℕ). p.0 < length places) pairs
  pairs_inside inside pairs exact =
      All-weaker (Contains pairs) (λ (p : ℕ × ℕ). p.0 < length places)
      (λ p h. inside p.1 p.0 ((exact p.1 p.0).0 h).1) pairs (All-contains_itself pairs)

  -- the rows of the pairs are the sources
  pub rows_source : (pairs seen : List (ℕ × ℕ)) (rows : List (List ℕ)) →
      ((a b : ℕ) → Contains pairs (b, a) ↔ IsSource places a b) → seen ≡ pairs →
      ((u v : ℕ) → Contains (row_of rows u) v ↔ Contains seen (u, v)) → (a b : ℕ) →
      Contains (row_of rows b) a ↔ IsSource places a b
  rows_source pairs seen rows exact same are a b = (
    λ h. (exact a b).0 (subst (λ (ps : List (ℕ × ℕ)). Contains ps (b, a)) same ((are b a).0 h)),
    λ s. (are b a).1
        (subst (λ (ps : List (ℕ × ℕ)). Contains ps (b, a)) (sym same) ((exact a b).1 s)),
  )

  -- the marks of one more place
  pub marks_more : (marks after : List Marks) (here : Marks) (k : ℕ) (place : Place) →
      k < length places → place ≡ get_or places k place → length marks ≡ k →
      after ≡ marks ++ here ∷ [] → AreMarks place.lines here →
      ((b : ℕ) → b < k → AreMarks (label_lines places b) (get_or marks b no_marks)) → (b : ℕ) →
      b < k + 1 → AreMarks (label_lines places b) (get_or after b no_marks)
  marks_more marks after here k place below at len grown are before b l =
      subst (λ (ms : List Marks). AreMarks (label_lines places b) (get_or ms b no_marks))
      (sym grown) (elim (same_or b k) [
        | inl e ↦
            let lines : label_lines places k ≡ place.lines =
            ap lines_in (slice_get_read places (length places) k place refl below at) in
            let last : get_or (marks ++ here ∷ []) k no_marks ≡ here =
            get_or_push marks here no_marks k len in
            subst (λ n. AreMarks (label_lines places n) (get_or (marks ++ here ∷ []) n no_marks))
            (sym e) (subst (λ (ls : List (List Label)). AreMarks ls
            (get_or (marks ++ here ∷ []) k no_marks)) (sym lines)
            (subst (λ (m : Marks). AreMarks place.lines m) (sym last) are))
        | inr n ↦ subst (λ (m : Marks). AreMarks (label_lines places b) m)
            (sym (get_or_append_left marks (here ∷ []) no_marks b (omega arith)))
            (before b (omega arith))
      ])

  -- a place that isn't there has no lines
  no_lines : (mark : Mark) → is_noted mark no_marks ≡ true → ⊥
  no_lines ordinary h = absurd (cc)
  no_lines (opens positive) h = absurd (cc)
  no_lines (opens negative) h = absurd (cc)
  no_lines closes h = absurd (cc)

  -- at the end those of all places
  pub marks_all : (marks : List Marks) (k : ℕ) → length places ≤ k → length marks ≡ k →
      ((b : ℕ) → b < k → AreMarks (label_lines places b) (get_or marks b no_marks)) → (b : ℕ) →
      AreMarks (label_lines places b) (get_or marks b no_marks)
  marks_all marks k past len before b mark = elim (less_or b k) [
    | inl l ↦ before b l mark
    | inr p ↦
        let none : get_or marks b no_marks ≡ no_marks =
        get_or_past marks b no_marks (omega arith) in (
          λ h. absurd (no_lines mark
              (subst (λ (m : Marks). is_noted mark m ≡ true) none h)),
          λ line.
              let there = line_from places b line.0 line.1 in absurd (omega arith),
        )
  ]

  -- the steps of places lead from places
  pub leading_inside : (leading : Leading) → IsLeading places leading → IsLeadingInside leading
  leading_inside leading is = record {
    marks_len = is.marks_len ∙ sym is.sources_len;
    source = λ a b h.
        let inside = target_from places a b ((is.source a b).0 h).1 in
        let len = is.sources_len in
        omega arith;
  }

module _ (graphs : List (List Place)) (g : ℕ) (leading : Leading)
    (is : IsLeading (places_of graphs g) leading) where
  -- the step that leads from a place into another
  pub step_of : (mark : Mark) (a b : ℕ) → Leads leading mark a b →
      (s : Step) × IsPlaceStep (places_of graphs g) s × (s.from ≡ a) × (s.to ≡ b)
      × (mark_of s.labels ≡ mark)
  step_of mark a b l =
      let source = (is.source a b).0 l.0 in
      let line = (is.marked b mark).0 l.1 in (
        record {
          from = a;
          to = b;
          output = place_output (places_of graphs g) b;
          labels = line.0;
        },
        record { before_end = source.0; leads = source.1; line = line.1; puts = refl },
        refl,
        refl,
        line.2,
      )

  -- a step leads
  pub leads_of : (mark : Mark) (s : Step) → IsPlaceStep (places_of graphs g) s →
      mark_of s.labels ≡ mark → Leads leading mark s.from s.to
  leads_of mark s i m = (
    (is.source s.from s.to).1 (i.before_end, i.leads),
    (is.marked s.to mark).1 (s.labels, i.line, m),
  )

  -- what is closed is closed by a body
  pub closes_into : {a c : ℕ} → Closes leading a c → ClosesInto (place_grammar graphs) g a c
  closes_into (closed {a = a} {c = c} l) =
      let s = step_of closes a c l in (
        [],
        record {
          step = s.0;
          inside = s.1;
          closed = s.4;
          after = s.3;
          run = subst (λ n. Run g (place_graph (places_of graphs g)) a n []) (sym s.2) stop;
        },
      )
  closes_into (goes_on {a = a} {b = b} {c = c} l r) =
      let graph = place_graph (places_of graphs g) in
      let s = step_of ordinary a b l in
      let rest = closes_into r in
      let body : IsBody g graph b c rest.0 = rest.1 in (
        (put_by s.0 ++ letters s.0.labels) ++ rest.0,
        record {
          step = body.step;
          inside = body.inside;
          closed = body.closed;
          after = body.after;
          run = subst (λ n. Run g graph n body.step.from
              ((put_by s.0 ++ letters s.0.labels) ++ rest.0)) s.2
              (along s.0 s.1 s.4
              (subst (λ n. Run g graph n body.step.from rest.0) (sym s.3) body.run));
        },
      )
  closes_into (jumps {a = a} {o = o} {d = d} {c = c} q p r) =
      let graph = place_graph (places_of graphs g) in
      let s = step_of (opens q.0) a o q.1 in
      let first = closes_into p in
      let inner : IsBody g graph o d first.0 = first.1 in
      let rest = closes_into r in
      let body : IsBody g graph d c rest.0 = rest.1 in (
        put_by s.0 ++ context q.0 g s.0.to inner.step.to ∷ rest.0,
        record {
          step = body.step;
          inside = body.inside;
          closed = body.closed;
          after = body.after;
          run = subst (λ n. Run g graph n body.step.from
              (put_by s.0 ++ context q.0 g s.0.to inner.step.to ∷ rest.0)) s.2
              (across q.0 s.0 inner.step s.1 s.4
              (subst (λ n. Run g graph n inner.step.from first.0) (sym s.3) inner.run)
              inner.inside inner.closed
              (subst (λ n. Run g graph n body.step.from rest.0) (sym inner.after) body.run));
        },
      )

  -- a run up to a step that closes is closed
  pub run_closes : {a b : ℕ} {word : List Letter} →
      Run g (place_graph (places_of graphs g)) a b word → (t : Step) →
      IsPlaceStep (places_of graphs g) t → mark_of t.labels ≡ closes → t.from ≡ b →
      Closes leading a t.to
  run_closes {a = a} stop t i m e =
      closed (subst (λ n. Leads leading closes n t.to) e (leads_of closes t i m))
  run_closes (along s j n r) t i m e =
      goes_on (leads_of ordinary s j n) (run_closes r t i m e)
  run_closes (across sign s u j n inner k o r) t i m e =
      jumps (sign, leads_of (opens sign) s j n) (run_closes inner u k o refl)
      (run_closes r t i m e)

  -- what a body closes is closed
  pub into_closes : (a c : ℕ) → ClosesInto (place_grammar graphs) g a c → Closes leading a c
  into_closes a c h =
      let body : IsBody g (place_graph (places_of graphs g)) a c h.0 = h.1 in
      subst (λ n. Closes leading a n) body.after
      (run_closes body.run body.step body.inside body.closed refl)

  pub closes_exactly : (a c : ℕ) → Closes leading a c ↔ ClosesInto (place_grammar graphs) g a c
  closes_exactly a c = (closes_into, into_closes a c)
