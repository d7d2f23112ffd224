-- What the flat graph derives, the grammar derives to the depth.
use Rattle.std.proofs.Common.{◌≡◌, ℕ, suc, List, [], ◌∷◌, ◌++◌, sym, subst, subst₂, ap, refl, ◌∙◌, append_assoc, map}
use Rattle.std.proofs.lemmas.List.{append-nil}
use Rattle.ux_net.specs.declared.label.Label.{Label}
use Rattle.ux_net.specs.declared.label.Label.TheVariants as label
use Rattle.ux_outputs.specs.declared.event.Event.{Event}
use Rattle.ux_outputs.specs.declared.event.Event.TheVariants.{Take}
use Rattle.ux_grf.specs.declared.item.Piece.{Piece}
use Rattle.ux_net.specs.Words.{Sign, positive, negative, Letter, plain, piece, context, Step, StepGraph, Grammar, Mark, ordinary, opens, closes, mark_of, letters, put_by, Run, stop, along, across, IsWord, IsBody}
use Rattle.ux_meaning.specs.Inputs.{Input}
use Rattle.ux_meaning.specs.Meaning.{Stays, Seq}
use Rattle.ux_meaning.specs.Meaning as flatly
use Rattle.ux_flatten.specs.Depths.{SeqTo}
use Rattle.ux_flatten.specs.Depths as to
use Rattle.ux_flatten.proofs.FlatGraphs.{IsUncalled, Layout, ClosesContexts, Stands, IsOwn, IsCopied, own, enters, leaves, stops, IsFlat}
use Rattle.ux_flatten.proofs.Lines.{Line, none, one, split, append_to, IsSimple, AreSimple, simple_append, simple_pieces, simple_label}

-- an opening step of the graph leads there
pub record Opened (graph : StepGraph) (a : ℕ) : Type 0 where
  pub sign : Sign
  pub step : Step
  pub inside : graph.IsStep step
  pub opens : mark_of step.labels ≡ opens sign
  pub to : step.to ≡ a

module _ (input : Input) (grammar : Grammar) (layout : Layout) (stop_text : List ℕ)
    (whole : Grammar) where
  abbrev flat : StepGraph
  flat = whole.graph 1

  abbrev At : ℕ → ℕ → ℕ → Type 0
  At = Stands grammar layout stop_text flat

  abbrev graph_in : ℕ → StepGraph
  graph_in c = grammar.graph (layout.graph c)

  abbrev RunIn : ℕ → ℕ → ℕ → List Letter → Type 0
  RunIn c = Run (layout.graph c) (graph_in c)

  abbrev BodyIn : ℕ → ℕ → ℕ → List Letter → Type 0
  BodyIn c = IsBody (layout.graph c) (graph_in c)

  module _ (Old : ℕ → ℕ → ℕ → ℕ → ℕ → Type 0) (New : ℕ → ℕ → ℕ → ℕ → Type 0) where
    abbrev To : ℕ → List Letter → ℕ → ℕ → List Event → Type 0
    To = SeqTo input grammar Old

    -- some word of the body applies, to the copy's depth
    pub record Met (c a b p : ℕ) : Type 0 where
      pub body : List Letter
      pub end : ℕ
      pub events : List Event
      pub of_body : BodyIn c a b body
      pub seq : To (layout.depth c) body p end events

    -- what a letter of the flat graph means; a context where it is known of which copy it is
    pub data Means : Letter → ℕ → ℕ → List Event → Type 0 where
      takes : {x : Label} {p k : ℕ} → input.Takes x p k → Means (plain x) p k (Take p k ∷ [])
      stays : {x : Letter} {p : ℕ} {here : List Event} → Stays input x p here → Means x p p here
      calls : {h p k : ℕ} {here : List Event} → Means (plain (label.Call h)) p k here
      holds : {g x y p : ℕ} → (g ≡ 1 → (c a b : ℕ) → At x c a → At y c b → Opened (graph_in c) a →
          Met c a b p) → Means (context positive g x y) p p []
      refused : {g x y p : ℕ} → New g x y p → Means (context negative g x y) p p []

    -- the flat word tells the word, to the depth
    abbrev Tells : ℕ → List Letter → List Letter → Type 0
    Tells d new old = (i j : ℕ) (events : List Event) → Line Means new i j events →
        To d old i j events

    tells_none : (d : ℕ) → Tells d [] []
    tells_none d i j events none = to.done

    tells_append : (d : ℕ) (v v' w w' : List Letter) → Tells d v v' → Tells d w w' →
        Tells d (v ++ w) (v' ++ w')
    tells_append d v v' w w' first second i j events l =
        let s = split Means v w l in
        subst (λ e. To d (v' ++ w') i j e) s.all
        (append_to input grammar (first i s.middle s.first s.line)
        (second s.middle j s.second s.rest))

    simple_letter : {d : ℕ} {x : Letter} {word : List Letter} {p k j : ℕ} {here later : List Event}
        →
        IsSimple x → Means x p k here → To d word k j later → To d (x ∷ word) p j (here ++ later)
    simple_letter u (takes t) s = to.takes t s
    simple_letter u (stays {here = here} t) s = to.stays here t s
    simple_letter u calls s = absurd u
    simple_letter u (holds t) s = absurd u
    simple_letter u (refused t) s = absurd u

    tells_simple : (d : ℕ) (v : List Letter) → AreSimple v → Tells d v v
    tells_simple d [] u i j events none = to.done
    tells_simple d (x ∷ v) u i j events (one m l) =
        simple_letter u.0 m (tells_simple d v u.1 _ _ _ l)

    -- a run inside a copy, and the flat word that tells its word
    pub record Leg (c a b : ℕ) (new : List Letter) : Type 0 where
      pub word : List Letter
      pub run : RunIn c a b word
      pub tells : Tells (layout.depth c) new word

    -- the place is of a called copy, and a run from the start of its graph comes there
    pub record Below (t b : ℕ) : Type 0 where
      pub inner : t ≡ layout.root → ⊥
      pub word : List Letter
      pub run : RunIn t (graph_in t).start b word

    -- A run of the flat graph from place a of copy c to place b of copy t: it stays in the copy, but
    -- for whole called words; or it ends in a called copy; or it leaves by an end to the caller.
    pub data Tour : (c a t b : ℕ) → List Letter → Type 0 where
      here : {c a b : ℕ} {new : List Letter} → Leg c a b new → Tour c a c b new
      below : {c a t b : ℕ} {new : List Letter} → Below t b → Tour c a t b new
      up : {c a t b : ℕ} {new : List Letter} (last : ℕ) (first second : List Letter) →
          Leg c a last first → (graph_in c).IsEnd last → (c ≡ layout.root → ⊥) →
          Tour (layout.caller c) (layout.target c) t b second → new ≡ first ++ second →
          Tour c a t b new

    longer : {c a a' b : ℕ} {new : List Letter} (pre before : List Letter) →
        ((b : ℕ) (word : List Letter) → RunIn c a' b word → RunIn c a b (before ++ word)) →
        Tells (layout.depth c) pre before → Leg c a' b new → Leg c a b (pre ++ new)
    longer {c = c} {b = b} {new = new} pre before extend tells leg = record {
      word = before ++ leg.word;
      run = extend b leg.word leg.run;
      tells = tells_append (layout.depth c) pre before new leg.word tells leg.tells;
    }

    prepend : {c a a' t b : ℕ} {new : List Letter} (pre before : List Letter) →
        ((b : ℕ) (word : List Letter) → RunIn c a' b word → RunIn c a b (before ++ word)) →
        Tells (layout.depth c) pre before → Tour c a' t b new → Tour c a t b (pre ++ new)
    prepend pre before extend tells (here leg) = here (longer pre before extend tells leg)
    prepend pre before extend tells (below z) = below z
    prepend pre before extend tells (up last first second leg ends inner rest e) =
        up last (pre ++ first) second (longer pre before extend tells leg) ends inner rest
        (ap (λ w. pre ++ w) e ∙ sym (append_assoc pre first second))

    -- the same in one call
    tells_call : (c n h last : ℕ) (new : List Letter) → layout.graph n ≡ h →
        layout.depth c ≡ suc (layout.depth n) → (graph_in n).IsEnd last →
        Leg n (graph_in n).start last new → Tells (layout.depth c) new (plain (label.Call h) ∷ [])
    tells_call c n h last new of_graph deeper ends leg i j events l =
        let is : IsWord h (grammar.graph h) leg.word =
        subst (λ h. IsWord h (grammar.graph h) leg.word) of_graph
        (record { last = last; ends = ends; run = leg.run }) in
        let s : To (suc (layout.depth n)) (plain (label.Call h) ∷ []) i j (events ++ []) =
        to.calls is (leg.tells i j events l) to.done in
        subst₂ (λ d e. To d (plain (label.Call h) ∷ []) i j e) (sym deeper) (append-nil events) s

    entered : {n a0 t b : ℕ} {new : List Letter} → Tour n a0 t b new → a0 ≡ (graph_in n).start →
        (n ≡ layout.root → ⊥) → (c h a a' : ℕ) → layout.graph n ≡ h →
        layout.depth c ≡ suc (layout.depth n) → layout.caller n ≡ c → layout.target n ≡ a' →
        (pre before : List Letter) →
        ((b : ℕ) (word : List Letter) → RunIn c a' b word →
        RunIn c a b ((before ++ plain (label.Call h) ∷ []) ++ word)) →
        Tells (layout.depth c) pre before → Tour c a t b (pre ++ new)
    entered {n = n} {t = t} {b = b} (here leg) e inner c h a a' of_graph deeper caller target pre
        before extend tells =
        below (record
        { inner = inner; word = leg.word; run = subst (λ s. RunIn n s b leg.word) e leg.run })
    entered (below z) e inner c h a a' of_graph deeper caller target pre before extend tells =
        below z
    entered {n = n} {t = t} {b = b} (up last first second leg ends _ rest w) e inner c h a a'
        of_graph deeper caller target pre before extend tells =
        let leg' : Leg n (graph_in n).start last first = subst (λ s. Leg n s last first) e leg in
        let rest' : Tour c a' t b second = subst₂ (λ c a. Tour c a t b second) caller target rest in
        subst (λ w. Tour c a t b w) (append_assoc pre first second ∙ ap (λ w. pre ++ w) (sym w))
        (prepend (pre ++ first) (before ++ plain (label.Call h) ∷ []) extend
        (tells_append (layout.depth c) pre before first (plain (label.Call h) ∷ []) tells
        (tells_call c n h last first of_graph deeper ends leg')) rest')

    module _ (main depth : ℕ) (is : IsFlat grammar layout stop_text flat main depth)
        (closed : ClosesContexts grammar)
        (no_stop : (p k : ℕ) → input.Takes (label.CaseExact stop_text) p k → ⊥) where
      -- a run of the flat graph from a place of the copy to y
      pub record Reached (y c a : ℕ) (new : List Letter) : Type 0 where
        pub t : ℕ
        pub b : ℕ
        pub at : At y t b
        pub tour : Tour c a t b new

      same_place : (x y c a c0 a0 : ℕ) (new : List Letter) → At x c0 a0 → At x c a →
          Reached y c0 a0 new → Reached y c a new
      same_place x y c a c0 a0 new s0 s r = record {
        t = r.t;
        b = r.b;
        at = r.at;
        tour = subst₂ (λ c a. Tour c a r.t r.b new) (sym s0.copy ∙ s.copy) (sym s0.state ∙ s.state)
            r.tour;
      }

      tells_own : (d : ℕ) (v v' : List Piece) (l l' : List Label) (x : Label) → v ≡ v' → l ≡ l' →
          l' ≡ x ∷ [] → IsUncalled x →
          Tells d (map piece v ++ letters l) (map piece v' ++ letters l')
      tells_own d v v' l l' x e e' one_label u =
          subst₂ (λ v l. Tells d (map piece v ++ letters l) (map piece v' ++ letters l')) (sym e)
          (sym e')
          (tells_simple d (map piece v' ++ letters l') (simple_append (map piece v') (letters l')
          (simple_pieces v')
          (subst (λ l. AreSimple (letters l)) (sym one_label) (simple_label x u))))

      tells_pieces : (d : ℕ) (v v' : List Piece) → v ≡ v' → Tells d (map piece v) (map piece v')
      tells_pieces d v v' e = subst (λ v. Tells d (map piece v) (map piece v')) (sym e)
          (tells_simple d (map piece v') (simple_pieces v'))

      tells_empty : (d : ℕ) (v v' : List Piece) (l : List Label) → v ≡ v' → l ≡ label.Empty ∷ [] →
          Tells d (map piece v ++ letters l) (map piece v')
      tells_empty d v v' l e e' =
          subst (λ l. Tells d (map piece v ++ letters l) (map piece v')) (sym e')
          (subst (λ w. Tells d w (map piece v')) (sym (append-nil (map piece v)))
          (tells_pieces d v v' e))

      never_stops : (p k : ℕ) (events : List Event) →
          Means (plain (label.CaseExact stop_text)) p k events → ⊥
      never_stops p k events (takes t) = no_stop _ _ t
      never_stops p k events (stays t) = t

      tells_stop : (d : ℕ) (v : List Piece) (l : List Label) (w : List Letter) →
          l ≡ label.CaseExact stop_text ∷ [] → Tells d (map piece v ++ letters l) w
      tells_stop d v l w e i j events line =
          let line' = subst (λ l. Line Means (map piece v ++ letters l) i j events) e line in
          let s = split Means (map piece v) (plain (label.CaseExact stop_text) ∷ []) line' in
          absurd (stop_line s.middle j s.second s.rest)
        where
          stop_line : (i j : ℕ) (events : List Event) →
              Line Means (plain (label.CaseExact stop_text) ∷ []) i j events → ⊥
          stop_line i j events (one m l) = never_stops _ _ _ m

      along_back : (s : Step) → IsCopied grammar layout stop_text flat s →
          mark_of s.labels ≡ ordinary →
          (y : ℕ) (word : List Letter) → ((c a : ℕ) → At s.to c a → Reached y c a word) →
          (c a : ℕ) → At s.from c a → Reached y c a ((put_by s ++ letters s.labels) ++ word)
      along_back s (own c0 t o) ord y word ih c a st =
          let r = ih c0 t.to o.to in
          same_place s.from y c a c0 t.from ((put_by s ++ letters s.labels) ++ word) o.from st
          (record {
            t = r.t;
            b = r.b;
            at = r.at;
            tour = prepend (put_by s ++ letters s.labels) (put_by t ++ letters t.labels)
                (λ b w run. along t o.inside (subst (λ l. mark_of l ≡ ordinary) o.same_labels ord)
                run)
                (tells_own (layout.depth c0) s.output t.output s.labels t.labels o.label
                o.same_output
                o.same_labels o.labels o.uncalled) r.tour;
          })
      along_back s (enters c0 t h e) ord y word ih c a st =
          let r = ih e.new (graph_in e.new).start e.to in
          same_place s.from y c a c0 t.from ((put_by s ++ letters s.labels) ++ word) e.from st
          (record {
            t = r.t;
            b = r.b;
            at = r.at;
            tour = entered r.tour refl e.inner c0 h t.from t.to e.graph e.depth e.caller e.target
                (put_by s ++ letters s.labels) (put_by t)
                (λ b w run. subst (λ l. RunIn c0 t.from b ((put_by t ++ letters l) ++ w)) e.labels
                (along t e.inside (subst (λ l. mark_of l ≡ ordinary) (sym e.labels) refl) run))
                (tells_empty (layout.depth c0) s.output t.output s.labels e.same_output e.empty);
          })
      along_back s (leaves c0 a0 l) ord y word ih c a st =
          let r = ih (layout.caller c0) (layout.target c0) l.to in
          same_place s.from y c a c0 a0 ((put_by s ++ letters s.labels) ++ word) l.from st (record {
            t = r.t;
            b = r.b;
            at = r.at;
            tour = up a0 (put_by s ++ letters s.labels) word (record {
              word = [];
              run = stop;
              tells = tells_empty (layout.depth c0) s.output [] s.labels l.no_output l.empty;
            }) l.ends l.inner r.tour refl;
          })
      along_back s (stops c0 t h z) ord y word ih c a st =
          let r = ih c0 t.to z.to in
          same_place s.from y c a c0 t.from ((put_by s ++ letters s.labels) ++ word) z.from st
          (record {
            t = r.t;
            b = r.b;
            at = r.at;
            tour = prepend (put_by s ++ letters s.labels) (put_by t ++ letters t.labels)
                (λ b w run. along t z.inside
                (subst (λ l. mark_of l ≡ ordinary) (sym z.labels) refl) run)
                (tells_stop (layout.depth c0) s.output s.labels (put_by t ++ letters t.labels)
                z.stopped)
                r.tour;
          })

      -- what opens or closes a context is no edge of a call
      pub record OwnStep (s : Step) : Type 0 where
        pub c : ℕ
        pub t : Step
        pub own : IsOwn grammar layout stop_text flat c t s

      pub own_step : (s : Step) → IsCopied grammar layout stop_text flat s →
          (mark_of s.labels ≡ ordinary → ⊥) → OwnStep s
      own_step s (own c t o) marked = record { c = c; t = t; own = o }
      own_step s (enters c t h e) marked =
          absurd (marked (subst (λ l. mark_of l ≡ ordinary) (sym e.empty) refl))
      own_step s (leaves c a l) marked =
          absurd (marked (subst (λ l. mark_of l ≡ ordinary) (sym l.empty) refl))
      own_step s (stops c t h z) marked =
          absurd (marked (subst (λ l. mark_of l ≡ ordinary) (sym z.stopped) refl))

      marked : (l : List Label) (m : Mark) → mark_of l ≡ m → (m ≡ ordinary → ⊥) →
          mark_of l ≡ ordinary → ⊥
      marked l m e other e' = other (sym e ∙ e')

      open_marked : (sign : Sign) → opens sign ≡ ordinary → ⊥
      open_marked sign e = cc

      close_marked : closes ≡ ordinary → ⊥
      close_marked e = cc

      -- a tour from the place after an opening step to a closing step stays in its copy
      pub record Stayed (c o t m : ℕ) (new : List Letter) : Type 0 where
        pub same : t ≡ c
        pub leg : Leg c o m new

      pub stayed : {c o t m : ℕ} {new : List Letter} → Tour c o t m new → Opened (graph_in c) o →
          (z : Step) → (graph_in t).IsStep z → mark_of z.labels ≡ closes → z.from ≡ m →
          Stayed c o t m new
      stayed (here leg) op z inside clo from = record { same = refl; leg = leg }
      stayed {t = t} (below b) op z inside clo from =
          absurd (closed.no_closing (layout.graph t) z b.word inside clo
          (subst (λ m. RunIn t (graph_in t).start m b.word) (sym from) b.run))
      stayed {c = c} (up last first second leg ends inner rest e) op z inside clo from =
          absurd (closed.no_end (layout.graph c) op.sign op.step last leg.word op.inside op.opens
          (subst (λ o. RunIn c o last leg.word) (sym op.to) leg.run) ends)

      -- what is known of the copy of a place serves for each of its descriptions
      met_again : (c a b c' a' b' p : ℕ) → c ≡ c' → a ≡ a' → b ≡ b' → Met c a b p → Met c' a' b' p
      met_again c a b c' a' b' p e f g m =
          subst (λ c. Met c a' b' p) e (subst₂ (λ a b. Met c a b p) f g m)

      module _ (told : (x y c a b p : ℕ) → At x c a → At y c b → Opened (graph_in c) a →
          New 1 x y p →
          Old (layout.depth c) (layout.graph c) a b p) where
        context_letter : {sign : Sign} {x y p k j : ℕ} {events later : List Event}
            {word : List Letter} → Means (context sign 1 x y) p k events → (c a b : ℕ) → At x c a →
            At y c b → Opened (graph_in c) a → To (layout.depth c) word k j later →
            To (layout.depth c) (context sign (layout.graph c) a b ∷ word) p j (events ++ later)
        context_letter (stays t) c a b sx sy op s = absurd t
        context_letter (holds f) c a b sx sy op s =
            let m = f refl c a b sx sy op in
            to.holds m.of_body m.seq s
        context_letter (refused {x = x} {y = y} {p = p} r) c a b sx sy op s =
            to.refused (told x y c a b p sx sy op r) s

        tells_context : (c a b x y : ℕ) (sign : Sign) → At x c a → At y c b →
            Opened (graph_in c) a →
            Tells (layout.depth c) (context sign 1 x y ∷ [])
            (context sign (layout.graph c) a b ∷ [])
        tells_context c a b x y sign sx sy op i j events (one m none) =
            context_letter m c a b sx sy op to.done

        across_back : (sign : Sign) (s z : Step) → OwnStep s → mark_of s.labels ≡ opens sign →
            ((c a : ℕ) → At s.to c a → (body : List Letter) × Reached z.from c a body) →
            OwnStep z → mark_of z.labels ≡ closes →
            (y : ℕ) (word : List Letter) → ((c a : ℕ) → At z.to c a → Reached y c a word) →
            (c a : ℕ) → At s.from c a → Reached y c a (put_by s ++ context sign 1 s.to z.to ∷ word)
        across_back sign s z so ope inner zo clo y word ih c a st =
            let o = so.own in
            let q = zo.own in
            let t = so.t in
            let u = zo.t in
            let c0 = so.c in
            let b = inner c0 t.to o.to in
            let t_opens : mark_of t.labels ≡ opens sign =
            subst (λ l. mark_of l ≡ opens sign) o.same_labels ope in
            let u_closes : mark_of u.labels ≡ closes =
            subst (λ l. mark_of l ≡ closes) q.same_labels clo in
            let op : Opened (graph_in c0) t.to =
            record { sign = sign; step = t; inside = o.inside; opens = t_opens; to = refl } in
            let in_t = b.1.at in
            let e : b.1.t ≡ zo.c = sym in_t.copy ∙ q.from.copy in
            let f : u.from ≡ b.1.b = sym q.from.state ∙ in_t.state in
            let tour : Tour c0 t.to zo.c b.1.b b.0 =
            subst (λ t'. Tour c0 t.to t' b.1.b b.0) e b.1.tour in
            let staying = stayed tour op u q.inside u_closes f in
            let same : zo.c ≡ c0 = staying.same in
            let leg = staying.leg in
            let run : RunIn c0 t.to u.from leg.word =
            subst (λ m. RunIn c0 t.to m leg.word) (sym f) leg.run in
            let u_inside : (graph_in c0).IsStep u =
            subst (λ c. (graph_in c).IsStep u) same q.inside in
            let z_at : At z.to c0 u.to = subst (λ c. At z.to c u.to) same q.to in
            let r = ih c0 u.to z_at in
            let pre : List Letter = put_by s ++ context sign 1 s.to z.to ∷ [] in
            let before : List Letter = put_by t ++ context sign (layout.graph c0) t.to u.to ∷ [] in
            let new : List Letter = put_by s ++ context sign 1 s.to z.to ∷ word in
            same_place s.from y c a c0 t.from new o.from st (record {
              t = r.t;
              b = r.b;
              at = r.at;
              tour = subst (λ w. Tour c0 t.from r.t r.b w)
                  (append_assoc (put_by s) (context sign 1 s.to z.to ∷ []) word)
                  (prepend pre before
                  (λ b w run'. subst (λ w. RunIn c0 t.from b w)
                  (sym (append_assoc (put_by t) (context sign (layout.graph c0) t.to u.to ∷ []) w))
                  (across sign t u o.inside t_opens run u_inside u_closes run'))
                  (tells_append (layout.depth c0) (put_by s) (put_by t)
                  (context sign 1 s.to z.to ∷ [])
                  (context sign (layout.graph c0) t.to u.to ∷ [])
                  (tells_pieces (layout.depth c0) s.output t.output o.same_output)
                  (tells_context c0 t.to u.to s.to z.to sign o.to z_at op)) r.tour);
            })

        pub run_back : {x y : ℕ} {word : List Letter} → Run 1 flat x y word → (c a : ℕ) → At x c a →
            Reached y c a word
        run_back stop c a st = record {
          t = c;
          b = a;
          at = st;
          tour = here (record { word = []; run = stop; tells = tells_none (layout.depth c) });
        }
        run_back (along {b = y} {word = word} s inside ord run) c a st =
            along_back s (is.steps s inside) ord y word (λ c a st. run_back run c a st) c a st
        run_back (across {b = y} {body = body} {word = word} sign s z s_in ope inner z_in clo run)
            c a st =
            across_back sign s z
            (own_step s (is.steps s s_in) (marked s.labels (opens sign) ope (open_marked sign))) ope
            (λ c a st. (body, run_back inner c a st))
            (own_step z (is.steps z z_in) (marked z.labels closes clo close_marked)) clo y word
            (λ c a st. run_back run c a st) c a st

        -- the word of the grammar that a flat word tells
        pub record WordTold (g d : ℕ) (new : List Letter) : Type 0 where
          pub word : List Letter
          pub of_graph : IsWord g (grammar.graph g) word
          pub tells : Tells d new word

        root_tour : {c a t b : ℕ} {new : List Letter} → Tour c a t b new → c ≡ layout.root →
            t ≡ layout.root → Leg c a b new
        root_tour (here leg) e f = leg
        root_tour (below z) e f = absurd (z.inner f)
        root_tour (up last first second leg ends inner rest w) e f = absurd (inner e)

        pub word_back : (new : List Letter) → IsWord 1 flat new → WordTold main depth new
        word_back new w =
            let end = is.ends w.last w.ends in
            let r = run_back w.run layout.root (grammar.graph main).start is.start in
            let leg = root_tour r.tour refl (sym r.at.copy ∙ end.1.copy) in
            let same_end : r.b ≡ end.0 = sym r.at.state ∙ end.1.state in
            let of_root : IsWord (layout.graph layout.root) (graph_in layout.root) leg.word =
            record {
              last = end.0;
              ends = subst (λ g. (grammar.graph g).IsEnd end.0) (sym is.of_main) end.2;
              run = subst₂ (λ a b. RunIn layout.root a b leg.word)
                  (ap (λ g. (grammar.graph g).start) (sym is.of_main)) same_end leg.run;
            } in
            record {
              word = leg.word;
              of_graph = subst (λ g. IsWord g (grammar.graph g) leg.word) is.of_main of_root;
              tells = subst (λ d. Tells d new leg.word) is.at_depth leg.tells;
            }

        pub record BodyTold (c a b : ℕ) (new : List Letter) : Type 0 where
          pub body : List Letter
          pub of_graph : BodyIn c a b body
          pub tells : Tells (layout.depth c) new body

        pub body_back : (x y : ℕ) (new : List Letter) → IsBody 1 flat x y new → (c a b : ℕ) →
            At x c a → At y c b → Opened (graph_in c) a → BodyTold c a b new
        body_back x y new body c a b sx sy op =
            let z = body.step in
            let zo = own_step z (is.steps z body.inside)
            (marked z.labels closes body.closed close_marked) in
            let q = zo.own in
            let u = zo.t in
            let u_closes : mark_of u.labels ≡ closes =
            subst (λ l. mark_of l ≡ closes) q.same_labels body.closed in
            let r = run_back body.run c a sx in
            let e : r.t ≡ zo.c = sym r.at.copy ∙ q.from.copy in
            let f : u.from ≡ r.b = sym q.from.state ∙ r.at.state in
            let tour : Tour c a zo.c r.b new = subst (λ t. Tour c a t r.b new) e r.tour in
            let staying = stayed tour op u q.inside u_closes f in
            let leg = staying.leg in
            record {
              body = leg.word;
              of_graph = record {
                step = u;
                inside = subst (λ c. (graph_in c).IsStep u) staying.same q.inside;
                closed = u_closes;
                after = sym q.to.state ∙ ap layout.state body.after ∙ sy.state;
                run = subst (λ m. RunIn c a m leg.word) (sym f) leg.run;
              };
              tells = leg.tells;
            }

        pub to_line : {new : List Letter} {i j : ℕ} {events : List Event} →
            Seq input whole New new i j events → Line Means new i j events
        to_line flatly.done = none
        to_line (flatly.takes t s) = one (takes t) (to_line s)
        to_line (flatly.stays now t s) = one (stays t) (to_line s)
        to_line (flatly.calls of i s) = one calls (to_line s)
        to_line (flatly.holds {g = g} {opening = x} {closing = y} {body = body} of i s) =
            one (holds (λ main_graph c a b sx sy op.
            let r = body_back x y body
            (subst (λ g. IsBody g (whole.graph g) x y body) main_graph of) c a b sx sy op in
            record {
              body = r.body;
              end = _;
              events = _;
              of_body = r.of_graph;
              seq = r.tells _ _ _ (to_line i);
            })) (to_line s)
        to_line (flatly.refused r s) = one (refused r) (to_line s)
