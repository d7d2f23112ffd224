-- Runs, step by step: a run goes on by a step, and what is closed under steps has all that runs reach.
use Rattle.std.proofs.Common.{◌≡◌, ℕ, List, [], ◌∷◌, ◌++◌, refl, sym, ap, subst, ◌∙◌, ◌⊎◌, inl, inr, append_assoc, append-nil}
use Rattle.std.specs.Prelude.{map}
use Rattle.ux_grf.specs.declared.item.Piece.{Piece}
use Rattle.ux_grf.specs.declared.item.Piece.TheVariants.{Chars, Value}
use Rattle.ux_net.specs.declared.label.Label.{Label}
use Rattle.ux_net.specs.declared.label.Label.TheVariants as label
use Rattle.ux_net.specs.Words.{Sign, positive, negative, Letter, plain, piece, context, ordinary, opens, closes, mark_of, letters, Step, put_by, Grammar, Run, stop, along, across, IsBody}
use Rattle.ux_net.proofs.RunLemmas.{run_joined}
use Rattle.ux_outputs.specs.declared.event.Event.{Event}
use Rattle.ux_meaning.specs.Inputs.{Input}
use Rattle.ux_meaning.specs.Meaning.{Seq, done, takes, stays, calls, holds, refused, RefusesBy}
use Rattle.ux_parts.specs.Runs.{From, Ends, Closes, Plain, NextBy}
use Rattle.ux_parts.specs.Ordered.{GoesAhead, AreSingle}

-- an output in front, and derivations one after another
module _ (input : Input) (grammar : Grammar) (R : ℕ → ℕ → ℕ → ℕ → Type 0) where
  -- with an output in front a word applies as before
  pub put_front : (ps : List Piece) (w : List Letter) (i j : ℕ) (events : List Event) →
      Seq input grammar R w i j events →
      (all : List Event) × Seq input grammar R (map piece ps ++ w) i j all
  put_front [] w i j events s = (events, s)
  put_front (Chars t ∷ ps) w i j events s =
      let r = put_front ps w i j events s in (_, stays _ refl r.1)
  put_front (Value t ∷ ps) w i j events s =
      let r = put_front ps w i j events s in (_, stays _ refl r.1)

  -- and without it
  pub put_off : (ps : List Piece) (w : List Letter) (i j : ℕ) (events : List Event) →
      Seq input grammar R (map piece ps ++ w) i j events →
      (later : List Event) × Seq input grammar R w i j later
  put_off [] w i j events s = (events, s)
  put_off (p ∷ ps) w i j events (stays {later = later} here t s) = put_off ps w i j later s

  -- words that apply one after the other apply joined
  pub seq_append : {v w : List Letter} {i k j : ℕ} {here later : List Event} →
      Seq input grammar R v i k here → Seq input grammar R w k j later →
      (all : List Event) × Seq input grammar R (v ++ w) i j all
  seq_append done t = (_, t)
  seq_append (takes x s) t = let r = seq_append s t in (_, takes x r.1)
  seq_append (stays here x s) t = let r = seq_append s t in (_, stays here x r.1)
  seq_append (calls is inside s) t = let r = seq_append s t in (_, calls is inside r.1)
  seq_append (holds is inside s) t = let r = seq_append s t in (_, holds is inside r.1)
  seq_append (refused x s) t = let r = seq_append s t in (_, refused x r.1)

  -- the empty word takes nothing
  empty_taken : {p j : ℕ} {events : List Event} → Seq input grammar R [] p j events → p ≡ j
  empty_taken done = refl

-- a label that opens a context, by its sign
pub is_opener : (x : Label) (sign : Sign) → mark_of (x ∷ []) ≡ opens sign →
    ((x ≡ label.Positive) × (sign ≡ positive)) ⊎ ((x ≡ label.Negative) × (sign ≡ negative))
is_opener label.Positive positive e = inl (refl, refl)
is_opener label.Negative negative e = inr (refl, refl)
is_opener x sign e = cc

module _ (input : Input) (last : ℕ) (ahead : GoesAhead input last) (grammar : Grammar)
    (single : AreSingle grammar) (levels : ℕ) where
  abbrev Told : ℕ → ℕ → ℕ → ℕ → Type 0
  Told = RefusesBy input grammar levels

  -- bodies that apply are closing steps that are reached
  pub closes_of_body : (g o c i k : ℕ) (w : List Letter) (events : List Event) →
      IsBody g (grammar.graph g) o c w → Seq input grammar Told w i k events →
      Closes input grammar levels g o i c
  closes_of_body g o c i k w events body s = record {
    step = body.step;
    inside = body.inside;
    closed = body.closed;
    after = body.after;
    at = k;
    from = record { word = w; run = body.run; events = events; seq = s };
  }

  pub body_of_closes : (g o c i : ℕ) (h : Closes input grammar levels g o i c) →
      IsBody g (grammar.graph g) o c h.from.word
  body_of_closes g o c i h = record {
    step = h.step;
    inside = h.inside;
    closed = h.closed;
    after = h.after;
    run = h.from.run;
  }

  -- what is called, where the label is a call
  abbrev Called : Label → ℕ → ℕ → Type 0
  Called (label.Call h) i k = Ends input grammar levels h (grammar.graph h).start i k
  Called x i k = ⊥

  -- the first letter of a word that applies, where it is a label
  first_letter : {x : Label} {w : List Letter} {i j : ℕ} {events : List Event} →
      Seq input grammar Told (plain x ∷ w) i j events →
      (k : ℕ) × (Plain input x i k ⊎ Called x i k)
      × (later : List Event) × Seq input grammar Told w k j later
  first_letter (takes {k = k} {later = later} t s) = (k, inl (inl t), later, s)
  first_letter (stays {p = p} {later = later} here t s) = (p, inl (inr (refl, here, t)), later, s)
  first_letter (calls {called = v} {k = k} {inside = inside} {later = later} w i s) = (
    k,
    inr (record {
      last = w.last;
      ends = w.ends;
      from = record { word = v; run = w.run; events = inside; seq = i };
    }),
    later,
    s,
  )

  module _ (g : ℕ) where
    abbrev Next : Label → (to i b k : ℕ) → Type 0
    Next = NextBy input grammar levels g

    first_step : (x : Label) (to : ℕ) → mark_of (x ∷ []) ≡ ordinary → (w : List Letter)
        (i j : ℕ) (events : List Event) → Seq input grammar Told (letters (x ∷ []) ++ w) i j events →
        (k : ℕ) × Next x to i to k × (later : List Event) × Seq input grammar Told w k j later
    first_step label.Empty to mark w i j events s = (i, (refl, refl), events, s)
    first_step label.Positive to mark w i j events s = cc
    first_step label.Negative to mark w i j events s = cc
    first_step label.ContextEnd to mark w i j events s = cc
    first_step (label.Call h) to mark w i j events s =
        let f = first_letter s in (
          f.0,
          elim f.1 as (λ z. (to ≡ to) × Ends input grammar levels h (grammar.graph h).start i f.0) [
            | inl p ↦ elim p as
                (λ z. (to ≡ to) × Ends input grammar levels h (grammar.graph h).start i f.0) [
                  | inl t ↦ absurd (ahead.taking t)
                  | inr t ↦ absurd t.2
                ]
            | inr e ↦ (refl, e)
          ],
          f.2,
          f.3,
        )
    first_step x to mark w i j events s =
        let f = first_letter s in
        (f.0, (refl, elim f.1 [ inl p ↦ p | inr e ↦ absurd e ]), f.2, f.3)

    module _ (Has : ℕ → ℕ → Type 0)
        (closed : (s : Step) (x : Label) → (grammar.graph g).IsStep s → s.labels ≡ x ∷ [] →
        (i b k : ℕ) → Has s.from i → Next x s.to i b k → Has b k) where
      go_across : (s t : Step) (sign : Sign) → (grammar.graph g).IsStep s →
          mark_of s.labels ≡ opens sign → {body : List Letter} →
          Run g (grammar.graph g) s.to t.from body → (grammar.graph g).IsStep t →
          mark_of t.labels ≡ closes → (w : List Letter) (i j : ℕ) (events : List Event) →
          Seq input grammar Told (context sign g s.to t.to ∷ w) i j events → Has s.from i →
          Has t.to i × (later : List Event) × Seq input grammar Told w i j later
      go_across s t positive inside mark run tin tmark w i j events
          (holds {body = v} {k = k} {inside = es} {later = later} body seq rest) has =
          let one = single.single g s inside in
          elim (is_opener one.0 positive (ap mark_of (sym one.1) ∙ mark)) [
            | inl e ↦ (
              closed s label.Positive inside (one.1 ∙ ap (λ (y : Label). y ∷ []) e.0) i t.to i has
                  (refl, closes_of_body g s.to t.to i k v es body seq),
              later,
              rest,
            )
            | inr e ↦ absurd (let f = e.1 in let no : ⊥ = cc in no)
          ]
      go_across s t positive inside mark run tin tmark w i j events (stays here x rest) has =
          absurd x
      go_across s t negative inside mark run tin tmark w i j events (stays here x rest) has =
          absurd x
      go_across s t negative inside mark {body} run tin tmark w i j events
          (refused {later = later} r rest) has =
          let one = single.single g s inside in
          elim (is_opener one.0 negative (ap mark_of (sym one.1) ∙ mark)) [
            | inl e ↦ absurd (let f = e.1 in let no : ⊥ = cc in no)
            | inr e ↦ (
              closed s label.Negative inside (one.1 ∙ ap (λ (y : Label). y ∷ []) e.0) i t.to i has (
                refl,
                record {
                  word = body;
                  body = record {
                    step = t;
                    inside = tin;
                    closed = tmark;
                    after = refl;
                    run = run;
                  };
                  refused = r;
                },
              ),
              later,
              rest,
            )
          ]

      -- what is closed under steps has all that runs reach
      pub whole : {a b : ℕ} {w : List Letter} → Run g (grammar.graph g) a b w → (i j : ℕ)
          (events : List Event) → Seq input grammar Told w i j events → Has a i → Has b j
      whole {b = b} stop i j events s has =
          subst (λ p. Has b p) (empty_taken input grammar Told s) has
      whole (along {word = v} s inside mark run) i j events seq has =
          let one = single.single g s inside in
          let seq1 = subst (λ (z : List Letter). Seq input grammar Told z i j events)
          (append_assoc (put_by s) (letters s.labels) v) seq in
          let seq2 = put_off input grammar Told s.output (letters s.labels ++ v) i j events seq1 in
          let seq3 = subst
          (λ (z : List Label). Seq input grammar Told (letters z ++ v) i j seq2.0) one.1
          seq2.1 in
          let f = first_step one.0 s.to (ap mark_of (sym one.1) ∙ mark) v i j seq2.0 seq3 in
          whole run f.0 j f.2 f.3 (closed s one.0 inside one.1 i s.to f.0 has f.1)
      whole (across {word = v} sign s t inside mark run tin tmark rest) i j events seq has =
          let seq1 = put_off input grammar Told s.output (context sign g s.to t.to ∷ v) i j events
          seq in
          let f = go_across s t sign inside mark run tin tmark v i j seq1.0 seq1.1 has in
          whole rest i j f.1 f.2 f.0

    along_step : (s : Step) (x : Label) → (grammar.graph g).IsStep s → s.labels ≡ x ∷ [] →
        mark_of (x ∷ []) ≡ ordinary → (i b k : ℕ) (events : List Event) → b ≡ s.to →
        Seq input grammar Told (letters (x ∷ [])) i k events →
        From input grammar levels g s.from i b k
    along_step s x inside named mark i b k events to seq =
        let all = put_front input grammar Told s.output (letters (x ∷ [])) i k events seq in
        let same : put_by s ++ letters (x ∷ []) ≡ (put_by s ++ letters s.labels) ++ [] =
        ap (λ (z : List Label). put_by s ++ letters z) (sym named)
        ∙ sym (append-nil (put_by s ++ letters s.labels)) in
        record {
          word = (put_by s ++ letters s.labels) ++ [];
          run = subst
              (λ p. Run g (grammar.graph g) s.from p ((put_by s ++ letters s.labels) ++ []))
              (sym to) (along s inside (ap mark_of named ∙ mark) stop);
          events = all.0;
          seq = subst (λ (z : List Letter). Seq input grammar Told z i k all.0) same all.1;
        }

    across_step : (s : Step) (sign : Sign) → (grammar.graph g).IsStep s →
        mark_of s.labels ≡ opens sign → (i b k c : ℕ) (w : List Letter) → k ≡ i → c ≡ b →
        IsBody g (grammar.graph g) s.to c w →
        Seq input grammar Told (context sign g s.to b ∷ []) i i [] →
        From input grammar levels g s.from i b k
    across_step s sign inside mark i b k c w at to body seq =
        let t = body.step in
        let after : t.to ≡ b = body.after ∙ to in
        let all = put_front input grammar Told s.output (context sign g s.to b ∷ []) i i [] seq in
        record {
          word = put_by s ++ context sign g s.to b ∷ [];
          run = subst
              (λ p. Run g (grammar.graph g) s.from p (put_by s ++ context sign g s.to p ∷ []))
              after (across sign s t inside mark body.run body.inside body.closed stop);
          events = all.0;
          seq = subst
              (λ p. Seq input grammar Told (put_by s ++ context sign g s.to b ∷ []) i p all.0)
              (sym at) all.1;
        }

    -- a step is a run
    one_step : (s : Step) (x : Label) → (grammar.graph g).IsStep s → s.labels ≡ x ∷ [] →
        (i b k : ℕ) → Next x s.to i b k → From input grammar levels g s.from i b k
    one_step s label.Empty inside named i b k next =
        along_step s label.Empty inside named refl i b k [] next.0
        (subst (λ p. Seq input grammar Told [] i p []) (sym next.1) done)
    one_step s (label.Call h) inside named i b k next =
        let e = next.1 in
        along_step s (label.Call h) inside named refl i b k (e.from.events ++ []) next.0
        (calls (record { last = e.last; ends = e.ends; run = e.from.run }) e.from.seq done)
    one_step s label.Positive inside named i b k next =
        let h = next.1 in
        let body = body_of_closes g s.to b i h in
        across_step s positive inside (ap mark_of named) i b k b h.from.word next.0 refl body
        (holds body h.from.seq done)
    one_step s label.Negative inside named i b k next =
        let h = next.1 in
        across_step s negative inside (ap mark_of named) i b k b h.word next.0 refl h.body
        (refused h.refused done)
    one_step s label.ContextEnd inside named i b k next = absurd next
    one_step s x inside named i b k next =
        let seq : (events : List Event) × Seq input grammar Told (plain x ∷ []) i k events =
        elim next.1 [
          | inl t ↦ (_, takes t done)
          | inr t ↦ (
            _,
            subst (λ p. Seq input grammar Told (plain x ∷ []) i p (t.1 ++ [])) (sym t.0)
                (stays t.1 t.2 done),
          )
        ] in
        along_step s x inside named refl i b k seq.0 next.0 seq.1

    pub from_here : (a i : ℕ) → From input grammar levels g a i a i
    from_here a i = record { word = []; run = stop; events = []; seq = done }

    -- a run goes on by a step
    pub from_step : (a i p : ℕ) (s : Step) (x : Label) (b k : ℕ) →
        From input grammar levels g a i s.from p → (grammar.graph g).IsStep s →
        s.labels ≡ x ∷ [] → Next x s.to p b k → From input grammar levels g a i b k
    from_step a i p s x b k f inside named next =
        let one = one_step s x inside named p b k next in
        let all = seq_append input grammar Told f.seq one.seq in
        record {
          word = f.word ++ one.word;
          run = run_joined g (grammar.graph g) f.run one.run;
          events = all.0;
          seq = all.1;
        }
