-- What the grammar derives to the depth, the flat graph derives.
use Rattle.std.proofs.Common.{arith, ◌≡◌, ℕ, suc, List, [], ◌∷◌, ◌++◌, sym, subst, subst₂, ap, refl, ◌∙◌, append_assoc, map}
use Rattle.std.proofs.lemmas.List.{append-nil}
use Rattle.ux_net.specs.declared.label.Label.{Label}
use Rattle.ux_net.specs.declared.label.Label.TheVariants as label
use Rattle.ux_outputs.specs.declared.event.Event.{Event}
use Rattle.ux_outputs.specs.declared.event.Event.TheVariants.{Take}
use Rattle.ux_grf.specs.declared.item.Piece.{Piece}
use Rattle.ux_net.specs.Words.{Sign, positive, negative, Letter, plain, piece, context, Step, StepGraph, Grammar, ordinary, opens, closes, mark_of, letters, put_by, Run, stop, along, across, IsWord, IsBody}
use Rattle.ux_meaning.specs.Inputs.{Input}
use Rattle.ux_meaning.specs.Meaning.{Stays, Seq}
use Rattle.ux_meaning.specs.Meaning as flatly
use Rattle.ux_flatten.specs.Depths.{SeqTo}
use Rattle.ux_flatten.specs.Depths as to
use Rattle.ux_flatten.proofs.FlatGraphs.{IsUncalled, HasLabels, Layout, Stands, Replaces, expanded, cut, IsFlat}
use Rattle.ux_flatten.proofs.Lines.{Line, none, one, split, append, IsSimple, AreSimple, simple_append, simple_pieces, simple_label}
use Rattle.ux_flatten.proofs.TellsBack.{Opened}
use Rattle.ux_flatten.proofs.BareRuns.{call_or_not, call, OwnEdge, own_edge, marked_edge, open_marked, close_marked, through, Bare, bare}
use Rattle.ux_flatten.proofs.BareRuns as runs

module _ (input : Input) (grammar : Grammar) (layout : Layout) (stop_text : List ℕ)
    (whole : Grammar) where
  abbrev flat : StepGraph
  flat = whole.graph 1

  abbrev At : ℕ → ℕ → ℕ → Type 0
  At = Stands grammar layout stop_text flat

  abbrev graph_in : ℕ → StepGraph
  graph_in c = grammar.graph (layout.graph c)

  abbrev RunIn : ℕ → ℕ → ℕ → List Letter → Type 0
  RunIn c = Run (layout.graph c) (graph_in c)

  abbrev BodyIn : ℕ → ℕ → ℕ → List Letter → Type 0
  BodyIn c = IsBody (layout.graph c) (graph_in c)

  abbrev FlatRun : ℕ → ℕ → List Letter → Type 0
  FlatRun = Run 1 flat

  module _ (Old : ℕ → ℕ → ℕ → ℕ → ℕ → Type 0) (New : ℕ → ℕ → ℕ → ℕ → Type 0) where
    abbrev Flatly : List Letter → ℕ → ℕ → List Event → Type 0
    Flatly = Seq input whole New

    -- a flat run from x to a copy's place, whose word applies
    pub record Out (x c b i j : ℕ) (events : List Event) : Type 0 where
      pub y : ℕ
      pub at : At y c b
      pub word : List Letter
      pub run : FlatRun x y word
      pub seq : Flatly word i j events

    -- some word of the flat body applies
    pub record Met (x y p : ℕ) : Type 0 where
      pub body : List Letter
      pub end : ℕ
      pub events : List Event
      pub of_body : IsBody 1 flat x y body
      pub seq : Flatly body p end events

    -- a copy's final state is reached so
    pub record Ended (x c p k : ℕ) (events : List Event) : Type 0 where
      pub last : ℕ
      pub ends : (graph_in c).IsEnd last
      pub out : Out x c last p k events

    -- what a letter means, to the depth, in whatever copy it stands
    pub data Means : ℕ → Letter → ℕ → ℕ → List Event → Type 0 where
      takes : {d : ℕ} {x : Label} {p k : ℕ} → input.Takes x p k →
          Means d (plain x) p k (Take p k ∷ [])
      stays : {d : ℕ} {x : Letter} {p : ℕ} {here : List Event} → Stays input x p here →
          Means d x p p here
      calls : {d h p k : ℕ} {here : List Event} (word : List Letter) →
          IsWord h (grammar.graph h) word →
          ((x c : ℕ) → At x c (graph_in c).start → layout.graph c ≡ h → layout.depth c ≡ d →
          Ended x c p k here) → Means (suc d) (plain (label.Call h)) p k here
      holds : {d g a b p : ℕ} → ((x y c : ℕ) → At x c a → At y c b → layout.graph c ≡ g →
          layout.depth c ≡ d → Met x y p) → Means d (context positive g a b) p p []
      refused : {d g a b p : ℕ} → Old d g a b p → Means d (context negative g a b) p p []

    simple_letter : {d : ℕ} {x : Letter} {word : List Letter} {p k j : ℕ} {here later : List Event}
        →
        IsSimple x → Means d x p k here → Flatly word k j later →
        Flatly (x ∷ word) p j (here ++ later)
    simple_letter u (takes t) s = flatly.takes t s
    simple_letter u (stays {here = here} t) s = flatly.stays here t s
    simple_letter u (calls word is f) s = absurd u
    simple_letter u (holds t) s = absurd u
    simple_letter u (refused t) s = absurd u

    simple_line : {d : ℕ} (v : List Letter) {i j : ℕ} {events : List Event} → AreSimple v →
        Line (Means d) v i j events → Flatly v i j events
    simple_line [] u none = flatly.done
    simple_line (x ∷ v) u (one m l) = simple_letter u.0 m (simple_line v u.1 l)

    module _ (main depth : ℕ) (flat_is : IsFlat grammar layout stop_text flat main depth)
        (labels : HasLabels grammar)
        (no_call : (h p k : ℕ) → input.Takes (label.Call h) p k → ⊥)
        (told : (x y c a b p : ℕ) → At x c a → At y c b → Opened (graph_in c) a →
        Old (layout.depth c) (layout.graph c) a b p → New 1 x y p) where
      pub record CallMeans (e h p k : ℕ) (events : List Event) : Type 0 where
        pub d : ℕ
        pub deeper : e ≡ suc d
        pub word : List Letter
        pub is : IsWord h (grammar.graph h) word
        pub inside : (x c : ℕ) → At x c (graph_in c).start → layout.graph c ≡ h →
            layout.depth c ≡ d →
            Ended x c p k events

      call_means : {e h p k : ℕ} {events : List Event} → Means e (plain (label.Call h)) p k events →
          CallMeans e h p k events
      call_means {h = h} {p = p} {k = k} (takes t) = absurd (no_call h p k t)
      call_means (stays t) = absurd t
      call_means (calls {d = d} word is f) =
          record { d = d; deeper = refl; word = word; is = is; inside = f }

      -- the letter of a call alone
      call_alone : {e h p k : ℕ} {events : List Event} →
          Line (Means e) (plain (label.Call h) ∷ []) p k events → CallMeans e h p k events
      call_alone {e = e} {h = h} {p = p} (one {k = k} {here = now} m none) =
          subst (λ ev. CallMeans e h p k ev) (sym (append-nil now)) (call_means m)

      context_forth : {d g p k j : ℕ} {sign : Sign} {a b : ℕ} {events later : List Event}
          {word : List Letter} → Means d (context sign g a b) p k events → (c x y : ℕ) →
          layout.depth c ≡ d → layout.graph c ≡ g → At x c a → At y c b → Opened (graph_in c) a →
          Flatly word k j later → Flatly (context sign 1 x y ∷ word) p j (events ++ later)
      context_forth (stays t) c x y e f sx sy op s = absurd t
      context_forth (holds t) c x y e f sx sy op s =
          let m = t x y c sx sy f e in
          flatly.holds m.of_body m.seq s
      context_forth {p = p} {a = a} {b = b} (refused r) c x y e f sx sy op s =
          flatly.refused (told x y c a b p sx sy op
          (subst₂ (λ d g. Old d g a b p) (sym e) (sym f) r)) s

      seq_put : (v v' : List Piece) (l : List Label) {d i j : ℕ} {events : List Event} → v' ≡ v →
          l ≡ label.Empty ∷ [] → Line (Means d) (map piece v) i j events →
          Flatly (map piece v' ++ letters l) i j events
      seq_put v v' l {i = i} {j = j} {events = events} e f line =
          subst₂ (λ v l. Flatly (map piece v ++ letters l) i j events) (sym e) (sym f)
          (rw (append-nil (map piece v)) (simple_line (map piece v) (simple_pieces v) line))

      seq_nothing : (v : List Piece) (l : List Label) (i : ℕ) → v ≡ [] → l ≡ label.Empty ∷ [] →
          Flatly (map piece v ++ letters l) i i []
      seq_nothing v l i e f =
          subst₂ (λ v l. Flatly (map piece v ++ letters l) i i []) (sym e) (sym f)
          flatly.done

      seq_own : (v v' : List Piece) (l l' : List Label) (x : Label) {d i j : ℕ}
          {events : List Event} →
          v' ≡ v → l' ≡ l → l ≡ x ∷ [] → IsUncalled x →
          Line (Means d) (map piece v ++ letters l) i j events →
          Flatly (map piece v' ++ letters l') i j events
      seq_own v v' l l' x {i = i} {j = j} {events = events} e f one_label u line =
          subst₂ (λ v l. Flatly (map piece v ++ letters l) i j events) (sym e) (sym f)
          (simple_line (map piece v ++ letters l)
          (simple_append (map piece v) (letters l) (simple_pieces v)
          (subst (λ l. AreSimple (letters l)) (sym one_label) (simple_label x u))) line)

      -- into a copy, along it, and back
      seq_through : (v called back w : List Letter) {i k m j : ℕ} {first second third : List Event}
          →
          Flatly v i k first → Flatly called k m second → Flatly back m m [] → Flatly w m j third →
          Flatly (v ++ (called ++ (back ++ w))) i j (first ++ (second ++ third))
      seq_through v called back w a b c d = append input whole {w = called ++ (back ++ w)} a
          (append input whole {w = back ++ w} b
          (append input whole {w = w} c d))

      replaced : (c x b : ℕ) (t s : Step) (h : ℕ) → flat.IsStep s → s.from ≡ x →
          Replaces grammar layout stop_text flat c t h s →
          (i k m j : ℕ) (first second third : List Event) →
          Line (Means (layout.depth c)) (put_by t) i k first →
          CallMeans (layout.depth c) h k m second →
          ((x : ℕ) → At x c t.to → Out x c b m j third) → Out x c b i j (first ++ (second ++ third))
      replaced c x b t s h inside from (expanded e) i k m j first second third line means ih =
          let q = means.inside s.to e.new e.to e.graph (omega (arith, means.deeper, e.depth)) in
          let r = q.out in
          let z = flat_is.end_edge r.y e.new q.last r.at q.ends e.inner in
          let l = z.3 in
          let at : At z.0.to c t.to = subst₂ (λ c a. At z.0.to c a) e.caller e.target l.to in
          let rest = ih z.0.to at in
          record {
            y = rest.y;
            at = rest.at;
            word = (put_by s ++ letters s.labels) ++
                (r.word ++ ((put_by z.0 ++ letters z.0.labels) ++ rest.word));
            run = through grammar layout stop_text flat s z.0 x r.y rest.y r.word rest.word inside
                from e.empty r.run z.1 z.2 l.empty rest.run;
            seq = seq_through (put_by s ++ letters s.labels) r.word
                (put_by z.0 ++ letters z.0.labels) rest.word
                (seq_put t.output s.output s.labels e.same_output e.empty line) r.seq
                (seq_nothing z.0.output z.0.labels m l.no_output l.empty) rest.seq;
          }
      replaced c x b t s h inside from (cut z) i k m j first second third line means ih =
          absurd (z.cut means.d means.deeper means.word means.is)

      pub record Parted (c : ℕ) (v : List Letter) (h i j : ℕ) (events : List Event) : Type 0 where
        pub k : ℕ
        pub first : List Event
        pub second : List Event
        pub line : Line (Means (layout.depth c)) v i k first
        pub means : CallMeans (layout.depth c) h k j second
        pub all : first ++ second ≡ events

      parted : (c : ℕ) (v : List Letter) (l : List Label) (h i j : ℕ) (events : List Event) →
          l ≡ label.Call h ∷ [] → Line (Means (layout.depth c)) (v ++ letters l) i j events →
          Parted c v h i j events
      parted c v l h i j events e line =
          let line' : Line (Means (layout.depth c)) (v ++ plain (label.Call h) ∷ []) i j events =
          subst (λ l. Line (Means (layout.depth c)) (v ++ letters l) i j events) e line in
          let s = split (Means (layout.depth c)) v (plain (label.Call h) ∷ []) line' in
          record {
            k = s.middle;
            first = s.first;
            second = s.second;
            line = s.line;
            means = call_alone s.rest;
            all = s.all;
          }

      along_forth : (c x b : ℕ) (t : Step) → (graph_in c).IsStep t → mark_of t.labels ≡ ordinary →
          At x c t.from → (i k j : ℕ) (first second : List Event) →
          Line (Means (layout.depth c)) (put_by t ++ letters t.labels) i k first →
          ((x : ℕ) → At x c t.to → Out x c b k j second) → Out x c b i j (first ++ second)
      along_forth c x b t inside ord st i k j first second line ih =
          let l = labels (layout.graph c) t inside in
          elim (call_or_not l.0) as (λ z. Out x c b i j (first ++ second)) [
            | call h f ↦
                let e : t.labels ≡ label.Call h ∷ [] = l.1 ∙ ap (λ x. x ∷ []) f in
                let r = flat_is.call_edge x c t h st inside e in
                let q = parted c (put_by t) t.labels h i k first e line in
                subst (λ ev. Out x c b i j ev)
                (sym (append_assoc q.first q.second second) ∙ ap (λ ev. ev ++ second) q.all)
                (replaced c x b t r.0 h r.1 r.2 r.3 i q.k k j q.first q.second second q.line
                q.means ih)
            | runs.none u ↦
                let e = own_edge grammar layout stop_text flat main depth flat_is labels x c t l.0
                st inside l.1 u in
                let s = e.s in
                let r = ih s.to e.own.to in
                record {
                  y = r.y;
                  at = r.at;
                  word = (put_by s ++ letters s.labels) ++ r.word;
                  run = subst (λ x. FlatRun x r.y ((put_by s ++ letters s.labels) ++ r.word)) e.from
                      (along s e.inside
                      (subst (λ l. mark_of l ≡ ordinary) (sym e.own.same_labels) ord) r.run);
                  seq = append input whole
                      (seq_own t.output s.output t.labels s.labels l.0 e.own.same_output
                      e.own.same_labels l.1 u line) r.seq;
                }
          ]

      across_forth : (c x b : ℕ) (sign : Sign) (t u : Step) (body : List Letter) →
          (graph_in c).IsStep t →
          mark_of t.labels ≡ opens sign → RunIn c t.to u.from body → (graph_in c).IsStep u →
          mark_of u.labels ≡ closes → At x c t.from →
          (i k l j : ℕ) (first second third : List Event) →
          Line (Means (layout.depth c)) (put_by t) i k first →
          Means (layout.depth c) (context sign (layout.graph c) t.to u.to) k l second →
          ((x : ℕ) → At x c u.to → Out x c b l j third) → Out x c b i j (first ++ (second ++ third))
      across_forth c x b sign t u body it ope inner iu clo st i k l j first second third line means
          ih =
          let e = marked_edge grammar layout stop_text flat main depth flat_is labels x c t
          (opens sign) ope
          (open_marked grammar layout stop_text flat main depth flat_is labels sign) st it in
          let z = bare grammar layout stop_text flat main depth flat_is labels c t.to u.from body
          inner e.s.to e.own.to in
          let f = marked_edge grammar layout stop_text flat main depth flat_is labels z.y c u
          closes clo
          (close_marked grammar layout stop_text flat main depth flat_is labels) z.at iu in
          let r = ih f.s.to f.own.to in
          record {
            y = r.y;
            at = r.at;
            word = put_by e.s ++ context sign 1 e.s.to f.s.to ∷ r.word;
            run = subst (λ x. FlatRun x r.y (put_by e.s ++ context sign 1 e.s.to f.s.to ∷ r.word))
                e.from
                (across sign e.s f.s e.inside
                (subst (λ l. mark_of l ≡ opens sign) (sym e.own.same_labels) ope)
                (subst (λ y. FlatRun e.s.to y z.word) (sym f.from) z.run) f.inside
                (subst (λ l. mark_of l ≡ closes) (sym f.own.same_labels) clo) r.run);
            seq = append input whole
                (subst (λ v. Flatly (map piece v) i k first) (sym e.own.same_output)
                (simple_line (put_by t) (simple_pieces t.output) line))
                (context_forth means c e.s.to f.s.to refl refl e.own.to f.own.to
                (record { sign = sign; step = t; inside = it; opens = ope; to = refl }) r.seq);
          }

      pub record Headed (c : ℕ) (v : List Letter) (x : Letter) (w : List Letter) (i j : ℕ)
          (events : List Event) : Type 0 where
        pub k : ℕ
        pub l : ℕ
        pub first : List Event
        pub second : List Event
        pub third : List Event
        pub line : Line (Means (layout.depth c)) v i k first
        pub means : Means (layout.depth c) x k l second
        pub rest : Line (Means (layout.depth c)) w l j third
        pub all : first ++ (second ++ third) ≡ events

      pub record Head (c : ℕ) (x : Letter) (w : List Letter) (i j : ℕ) (events : List Event) : Type
          0 where
        pub l : ℕ
        pub second : List Event
        pub third : List Event
        pub means : Means (layout.depth c) x i l second
        pub rest : Line (Means (layout.depth c)) w l j third
        pub all : second ++ third ≡ events

      head : (c : ℕ) (x : Letter) (w : List Letter) {i j : ℕ} {events : List Event} →
          Line (Means (layout.depth c)) (x ∷ w) i j events → Head c x w i j events
      head c x w (one {k = k} {here = now} {later = later} m l) = record {
        l = k;
        second = now;
        third = later;
        means = m;
        rest = l;
        all = refl;
      }

      headed : (c : ℕ) (v : List Letter) (x : Letter) (w : List Letter) (i j : ℕ)
          (events : List Event) →
          Line (Means (layout.depth c)) (v ++ x ∷ w) i j events → Headed c v x w i j events
      headed c v x w i j events line =
          let s = split (Means (layout.depth c)) v (x ∷ w) line in
          let h = head c x w s.rest in
          record {
            k = s.middle;
            l = h.l;
            first = s.first;
            second = h.second;
            third = h.third;
            line = s.line;
            means = h.means;
            rest = h.rest;
            all = ap (λ e. s.first ++ e) h.all ∙ s.all;
          }

      stop_line : {c x a i j : ℕ} {events : List Event} →
          Line (Means (layout.depth c)) [] i j events →
          At x c a → Out x c a i j events
      stop_line {x = x} none st =
          record { y = x; at = st; word = []; run = stop; seq = flatly.done }

      pub run_forth : (c : ℕ) {a b : ℕ} {word : List Letter} → RunIn c a b word → (x : ℕ) →
          At x c a →
          (i j : ℕ) (events : List Event) → Line (Means (layout.depth c)) word i j events →
          Out x c b i j events
      run_forth c stop x st i j events line = stop_line line st
      run_forth c (along {b = b} {word = word} t inside ord run) x st i j events line =
          let s = split (Means (layout.depth c)) (put_by t ++ letters t.labels) word line in
          subst (λ e. Out x c b i j e) s.all
          (along_forth c x b t inside ord st i s.middle j s.first s.second s.line
          (λ x st. run_forth c run x st s.middle j s.second s.rest))
      run_forth c (across {b = b} {body = body} {word = word} sign t u it ope inner iu clo run) x
          st i j events line =
          let h = headed c (put_by t) (context sign (layout.graph c) t.to u.to) word i j events
          line in
          subst (λ e. Out x c b i j e) h.all
          (across_forth c x b sign t u body it ope inner iu clo st i h.k h.l j h.first h.second
          h.third h.line h.means
          (λ x st. run_forth c run x st h.l j h.third h.rest))

      pub record BodyOut (x y i j : ℕ) (events : List Event) : Type 0 where
        pub body : List Letter
        pub of_body : IsBody 1 flat x y body
        pub seq : Flatly body i j events

      pub body_forth : (x y c a b : ℕ) (word : List Letter) → At x c a → At y c b →
          BodyIn c a b word →
          (i j : ℕ) (events : List Event) → Line (Means (layout.depth c)) word i j events →
          BodyOut x y i j events
      body_forth x y c a b word sx sy body i j events line =
          let r = run_forth c body.run x sx i j events line in
          let u = body.step in
          let f = marked_edge grammar layout stop_text flat main depth flat_is labels r.y c u
          closes body.closed
          (close_marked grammar layout stop_text flat main depth flat_is labels) r.at body.inside in
          let z_at : At f.s.to c b = subst (λ b. At f.s.to c b) body.after f.own.to in
          record {
            body = r.word;
            of_body = record {
              step = f.s;
              inside = f.inside;
              closed = subst (λ l. mark_of l ≡ closes) (sym f.own.same_labels) body.closed;
              after = flat_is.apart f.s.to y c b z_at sy;
              run = subst (λ z. FlatRun x z r.word) (sym f.from) r.run;
            };
            seq = r.seq;
          }

      pub to_line : {d : ℕ} {word : List Letter} {i j : ℕ} {events : List Event} →
          SeqTo input grammar Old d word i j events → Line (Means d) word i j events
      to_line to.done = none
      to_line (to.takes t s) = one (takes t) (to_line s)
      to_line (to.stays now t s) = one (stays t) (to_line s)
      to_line (to.calls {d = d} {h = h} {called = called} {p = p} {k = k} {inside = inside} is i
          s) =
          one (calls called is (λ x c st of_graph at_depth.
          let w : IsWord (layout.graph c) (graph_in c) called =
          subst (λ h. IsWord h (grammar.graph h) called) (sym of_graph) is in
          record {
            last = w.last;
            ends = w.ends;
            out = run_forth c w.run x st p k inside
                (subst (λ d. Line (Means d) called p k inside) (sym at_depth) (to_line i));
          })) (to_line s)
      to_line (to.holds {d = d} {g = g} {opening = a} {closing = b} {body = body} {p = p} {k = k}
          {inside = inside} is i s) =
          one (holds (λ x y c sx sy of_graph at_depth.
          let w : BodyIn c a b body =
          subst (λ g. IsBody g (grammar.graph g) a b body) (sym of_graph) is in
          let r = body_forth x y c a b body sx sy w p k inside
          (subst (λ d. Line (Means d) body p k inside) (sym at_depth) (to_line i)) in
          record { body = r.body; end = k; events = inside; of_body = r.of_body; seq = r.seq }))
          (to_line s)
      to_line (to.refused r s) = one (refused r) (to_line s)

      pub record WordOut (i j : ℕ) (events : List Event) : Type 0 where
        pub word : List Letter
        pub of_graph : IsWord 1 flat word
        pub seq : Flatly word i j events

      pub word_forth : (word : List Letter) → IsWord main (grammar.graph main) word → (i j : ℕ)
          (events : List Event) → Line (Means depth) word i j events → WordOut i j events
      word_forth word is i j events line =
          let root = layout.root in
          let w : IsWord (layout.graph root) (graph_in root) word =
          subst (λ g. IsWord g (grammar.graph g) word) (sym flat_is.of_main) is in
          let st : At flat.start root (graph_in root).start =
          subst (λ g. At flat.start root (grammar.graph g).start) (sym flat_is.of_main)
          flat_is.start in
          let r = run_forth root w.run flat.start st i j events
          (subst (λ d. Line (Means d) word i j events) (sym flat_is.at_depth) line) in
          record {
            word = r.word;
            of_graph = record {
              last = r.y;
              ends = flat_is.final r.y w.last r.at
                  (subst (λ g. (grammar.graph g).IsEnd w.last) flat_is.of_main w.ends);
              run = r.run;
            };
            seq = r.seq;
          }
