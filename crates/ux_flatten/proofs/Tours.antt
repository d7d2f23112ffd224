-- A run of the flat graph, seen in the layout: it stays in its copy but for whole words of called graphs,
-- or it ends inside a called copy, or it leaves by an end to the caller.
use Rattle.std.proofs.Common.{◌≡◌, ℕ, suc, List, [], ◌∷◌, ◌++◌, sym, subst, subst₂, ap, refl, ◌∙◌, append_assoc, map, true}
use Rattle.ux_grf.specs.declared.item.Piece.{Piece}
use Rattle.ux_net.specs.declared.label.Label.{Label}
use Rattle.ux_net.specs.declared.label.Label.TheVariants as label
use Rattle.ux_net.specs.Words.{Sign, Letter, plain, piece, context, Step, StepGraph, Grammar, ordinary, opens, closes, mark_of, letters, put_by, Run, stop, along, across, IsWord}
use Rattle.ux_net.specs.Silent.{is_silent}
use Rattle.ux_net.specs.Nullable.{IsSilent, IsFree}
use Rattle.ux_net.specs.Nullable as free
use Rattle.ux_flatten.proofs.FlatGraphs.{IsUncalled, Layout, ClosesContexts, Stands, IsOwn, IsCopied, own, enters, leaves, stops, IsFlat}
use Rattle.ux_net.proofs.RunLemmas.{run_joined, one_step}
use Rattle.ux_admission.proofs.FreeLemmas.{free_append, free_parts}

-- an opening step of the graph leads there
pub record OpenedTo (graph : StepGraph) (a : ℕ) : Type 0 where
  pub sign : Sign
  pub step : Step
  pub inside : graph.IsStep step
  pub opens : mark_of step.labels ≡ opens sign
  pub to : step.to ≡ a

module _ (grammar : Grammar) (layout : Layout) (stop_text : List ℕ) (whole : Grammar) where
  abbrev flat : StepGraph
  flat = whole.graph 1

  abbrev At : ℕ → ℕ → ℕ → Type 0
  At = Stands grammar layout stop_text flat

  abbrev graph_in : ℕ → StepGraph
  graph_in c = grammar.graph (layout.graph c)

  abbrev RunIn : ℕ → ℕ → ℕ → List Letter → Type 0
  RunIn c = Run (layout.graph c) (graph_in c)

  abbrev FlatRun : ℕ → ℕ → List Letter → Type 0
  FlatRun = Run 1 flat

  -- the word is free where the flat one is
  abbrev TellsFree : List Letter → List Letter → Type 0
  TellsFree new old = IsFree whole new → IsFree grammar old

  free_joined : (v v' w w' : List Letter) → TellsFree v v' → TellsFree w w' →
      TellsFree (v ++ w) (v' ++ w')
  free_joined v v' w w' first second f = free_append grammar (first ((free_parts whole v w f).0))
      (second ((free_parts whole v w f).1))

  -- a run inside a copy, and the flat word along it
  pub record Leg (c a b : ℕ) (new : List Letter) : Type 0 where
    pub word : List Letter
    pub run : RunIn c a b word
    pub free : TellsFree new word

  -- a step of copy c calls the graph that copy n layout, one depth below
  pub record Called (c n : ℕ) (step : Step) : Type 0 where
    pub h : ℕ
    pub inside : (graph_in c).IsStep step
    pub labels : step.labels ≡ label.Call h ∷ []
    pub graph : layout.graph n ≡ h
    pub depth : layout.depth c ≡ suc (layout.depth n)

  -- from place a of copy c to place b of copy t, which is c or stands below it
  pub data Dive : (c a t b : ℕ) → List Letter → Type 0 where
    here : {c a b : ℕ} {new : List Letter} → Leg c a b new → Dive c a c b new
    below : {c a t b n : ℕ} {new : List Letter} (step : Step) (first second : List Letter) →
        Leg c a step.from first → Called c n step → Dive n (graph_in n).start t b second →
        new ≡ first ++ second → Dive c a t b new

  -- the same along a run from x to y, which may also leave to the caller, at place z
  pub data Tour : (x y c a t b : ℕ) → List Letter → Type 0 where
    down : {x y c a t b : ℕ} {new : List Letter} → Dive c a t b new → Tour x y c a t b new
    up : {x y c a t b : ℕ} {new : List Letter} (z last : ℕ) (first second : List Letter) →
        Leg c a last first → (graph_in c).IsEnd last → (c ≡ layout.root → ⊥) →
        At z (layout.caller c) (layout.target c) → FlatRun x z first → FlatRun z y second →
        Tour z y (layout.caller c) (layout.target c) t b second → new ≡ first ++ second →
        Tour x y c a t b new

  longer : {c a a' b : ℕ} {new : List Letter} (pre before : List Letter) →
      ((b : ℕ) (word : List Letter) → RunIn c a' b word → RunIn c a b (before ++ word)) →
      TellsFree pre before → Leg c a' b new → Leg c a b (pre ++ new)
  longer {b = b} {new = new} pre before extend tells leg = record {
    word = before ++ leg.word;
    run = extend b leg.word leg.run;
    free = free_joined pre before new leg.word tells leg.free;
  }

  dive_longer : {c a a' t b : ℕ} {new : List Letter} (pre before : List Letter) →
      ((b : ℕ) (word : List Letter) → RunIn c a' b word → RunIn c a b (before ++ word)) →
      TellsFree pre before → Dive c a' t b new → Dive c a t b (pre ++ new)
  dive_longer pre before extend tells (here leg) = here (longer pre before extend tells leg)
  dive_longer pre before extend tells (below step first second leg call rest e) =
      below step (pre ++ first) second (longer pre before extend tells leg) call rest
      (ap (λ w. pre ++ w) e ∙ sym (append_assoc pre first second))

  prepend : {x x' y c a a' t b : ℕ} {new : List Letter} (pre before : List Letter) →
      FlatRun x x' pre →
      ((b : ℕ) (word : List Letter) → RunIn c a' b word → RunIn c a b (before ++ word)) →
      TellsFree pre before → Tour x' y c a' t b new → Tour x y c a t b (pre ++ new)
  prepend pre before run extend tells (down d) = down (dive_longer pre before extend tells d)
  prepend pre before run extend tells (up z last first second leg ends inner at front back rest e) =
      up z last (pre ++ first) second (longer pre before extend tells leg) ends inner at
      (run_joined 1 flat run front) back rest (ap (λ w. pre ++ w) e ∙ sym (append_assoc pre first second))

  -- a free word of a called graph makes the call free
  free_call : (n h : ℕ) (new : List Letter) → layout.graph n ≡ h → (last : ℕ) →
      (graph_in n).IsEnd last → Leg n (graph_in n).start last new →
      TellsFree new (plain (label.Call h) ∷ [])
  free_call n h new of_graph last ends leg f =
      let is : IsWord h (grammar.graph h) leg.word =
      subst (λ h. IsWord h (grammar.graph h) leg.word) of_graph
      (record { last = last; ends = ends; run = leg.run }) in
      free.call is (leg.free f) free.none

  -- by an edge into copy n, from a place of copy c, with the output before
  entered : {x x' y n a0 t b : ℕ} {new : List Letter} → Tour x' y n a0 t b new →
      a0 ≡ (graph_in n).start → (c : ℕ) (s : Step) (call : Called c n s) →
      layout.caller n ≡ c → layout.target n ≡ s.to → (pre : List Letter) → FlatRun x x' pre →
      TellsFree pre (put_by s) → Tour x y c s.from t b (pre ++ new)
  entered {x = x} {y = y} {n = n} {t = t} {b = b} {new = new} (down d) e c s call caller target pre run tells =
      down (below s pre new (record { word = []; run = stop; free = λ f. free.none }) call
      (subst (λ a. Dive n a t b new) e d) refl)
  entered {x = x} {y = y} {n = n} {a0 = a0} {t = t} {b = b} {new = new}
      (up z last first second leg ends inner at front back rest w) e c s call caller target pre run tells =
      let leg' : Leg n (graph_in n).start last first = subst (λ a. Leg n a last first) e leg in
      let rest' : Tour z y c s.to t b second =
      subst₂ (λ c a. Tour z y c a t b second) caller target rest in
      subst (λ w. Tour x y c s.from t b w) (append_assoc pre first second ∙ ap (λ w. pre ++ w) (sym w))
      (prepend (pre ++ first) (put_by s ++ plain (label.Call call.h) ∷ []) (run_joined 1 flat run front)
      (λ b word r. subst (λ l. RunIn c s.from b ((put_by s ++ letters l) ++ word)) call.labels
      (along s call.inside (subst (λ l. mark_of l ≡ ordinary) (sym call.labels) refl) r))
      (free_joined pre (put_by s) first (plain (label.Call call.h) ∷ []) tells
      (free_call n call.h first call.graph last ends leg')) rest')

  module _ (main depth : ℕ) (is : IsFlat grammar layout stop_text flat main depth)
      (closed : ClosesContexts grammar) where
    -- a run of the flat graph from x, place a of copy c, to y
    pub record Arrives (x y c a : ℕ) (new : List Letter) : Type 0 where
      pub t : ℕ
      pub b : ℕ
      pub at : At y t b
      pub tour : Tour x y c a t b new

    free_pieces : (pieces : List Piece) → IsFree grammar (map piece pieces)
    free_pieces [] = free.none
    free_pieces (p ∷ pieces) = free.silent {letter = piece p} tt (free_pieces pieces)

    -- the copy and the state of a place are one
    same_place : {x y c a c0 a0 : ℕ} {new : List Letter} → At x c0 a0 → At x c a →
        Arrives x y c0 a0 new → Arrives x y c a new
    same_place {x = x} {y = y} {new = new} s0 s r = record {
      t = r.t;
      b = r.b;
      at = r.at;
      tour = subst₂ (λ c a. Tour x y c a r.t r.b new) (sym s0.copy ∙ s.copy) (sym s0.state ∙ s.state) r.tour;
    }

    pub free_labels : (x : Label) → IsUncalled x → IsFree whole (letters (x ∷ [])) →
        IsFree grammar (letters (x ∷ []))
    free_labels label.Empty u f = free.none
    free_labels (label.Call h) u f = absurd u
    free_labels x u f = free_plain x u f
      where
        free_letter : (x : Label) → IsUncalled x → IsFree whole (plain x ∷ []) → is_silent x ≡ true
        free_letter x u (free.silent s f) = s
        free_letter (label.Call h) u (free.call w c f) = absurd u

        free_plain : (x : Label) → IsUncalled x → IsFree whole (plain x ∷ []) →
            IsFree grammar (plain x ∷ [])
        free_plain x u f = free.silent (free_letter x u f) free.none

    -- the same edge in a copy
    free_own : (c : ℕ) (t s : Step) → IsOwn grammar layout stop_text flat c t s →
        TellsFree (put_by s ++ letters s.labels) (put_by t ++ letters t.labels)
    free_own c t s o =
        subst₂ (λ v l. TellsFree (map piece v ++ letters l) (put_by t ++ letters t.labels))
        (sym o.same_output) (sym o.same_labels)
        (subst (λ l. TellsFree (put_by t ++ letters l) (put_by t ++ letters l)) (sym o.labels)
        (free_joined (put_by t) (put_by t) (letters (o.label ∷ [])) (letters (o.label ∷ []))
        (λ f. free_pieces t.output) (free_labels o.label o.uncalled)))

    -- a text isn't free
    loud : (text : List ℕ) (w : List Letter) → IsFree whole (plain (label.CaseExact text) ∷ []) → IsFree grammar w
    loud text w (free.silent s f) = cc

    pub free_stop : (t s : Step) (w : List Letter) → s.labels ≡ label.CaseExact stop_text ∷ [] →
        TellsFree (put_by s ++ letters s.labels) w
    free_stop t s w e f = loud stop_text w ((free_parts whole (put_by s) (plain (label.CaseExact stop_text) ∷ [])
        (subst (λ l. IsFree whole (put_by s ++ letters l)) e f)).1)

    along_back : (s : Step) → flat.IsStep s → IsCopied grammar layout stop_text flat s →
        mark_of s.labels ≡ ordinary → (y : ℕ) (word : List Letter) → FlatRun s.to y word →
        ((c a : ℕ) → At s.to c a → Arrives s.to y c a word) →
        (c a : ℕ) → At s.from c a → Arrives s.from y c a ((put_by s ++ letters s.labels) ++ word)
    along_back s inside (own c0 t o) ord y word run ih c a st =
        let r = ih c0 t.to o.to in
        same_place o.from st (record {
          t = r.t;
          b = r.b;
          at = r.at;
          tour = prepend (put_by s ++ letters s.labels) (put_by t ++ letters t.labels) (one_step 1 flat s inside ord)
              (λ b w run. along t o.inside (subst (λ l. mark_of l ≡ ordinary) o.same_labels ord) run)
              (free_own c0 t s o) r.tour;
        })
    along_back s inside (enters c0 t h e) ord y word run ih c a st =
        let r = ih e.new (graph_in e.new).start e.to in
        same_place e.from st (record {
          t = r.t;
          b = r.b;
          at = r.at;
          tour = entered r.tour refl c0 t
              (record { h = h; inside = e.inside; labels = e.labels; graph = e.graph; depth = e.depth })
              e.caller e.target (put_by s ++ letters s.labels) (one_step 1 flat s inside ord) (λ f.
              free_pieces t.output);
        })
    along_back s inside (leaves c0 a0 l) ord y word run ih c a st =
        let r = ih (layout.caller c0) (layout.target c0) l.to in
        same_place l.from st (record {
          t = r.t;
          b = r.b;
          at = r.at;
          tour = up s.to a0 (put_by s ++ letters s.labels) word
              (record { word = []; run = stop; free = λ f. free.none }) l.ends l.inner l.to
              (one_step 1 flat s inside ord) run r.tour refl;
        })
    along_back s inside (stops c0 t h z) ord y word run ih c a st =
        let r = ih c0 t.to z.to in
        same_place z.from st (record {
          t = r.t;
          b = r.b;
          at = r.at;
          tour = prepend (put_by s ++ letters s.labels) (put_by t ++ letters t.labels) (one_step 1 flat s inside ord)
              (λ b w run. along t z.inside (subst (λ l. mark_of l ≡ ordinary) (sym z.labels) refl) run)
              (free_stop t s (put_by t ++ letters t.labels) z.stopped) r.tour;
        })

    -- what opens or closes a context is no edge of a call
    pub record OwnStep (s : Step) : Type 0 where
      pub c : ℕ
      pub t : Step
      pub own : IsOwn grammar layout stop_text flat c t s

    pub own_step : (s : Step) → IsCopied grammar layout stop_text flat s →
        (mark_of s.labels ≡ ordinary → ⊥) → OwnStep s
    own_step s (own c t o) marked = record { c = c; t = t; own = o }
    own_step s (enters c t h e) marked = absurd (marked (subst (λ l. mark_of l ≡ ordinary) (sym e.empty) refl))
    own_step s (leaves c a l) marked = absurd (marked (subst (λ l. mark_of l ≡ ordinary) (sym l.empty) refl))
    own_step s (stops c t h z) marked = absurd (marked (subst (λ l. mark_of l ≡ ordinary) (sym z.stopped) refl))

    pub opening_marked : (s : Step) (sign : Sign) → mark_of s.labels ≡ opens sign →
        mark_of s.labels ≡ ordinary → ⊥
    opening_marked s sign e f =
        let g : opens sign ≡ ordinary = sym e ∙ f in
        cc

    pub closing_marked : (s : Step) → mark_of s.labels ≡ closes → mark_of s.labels ≡ ordinary → ⊥
    closing_marked s e f =
        let g : closes ≡ ordinary = sym e ∙ f in
        cc

    -- the last copy of a dive into it, by a run from its start
    pub dive_end : {c a t b : ℕ} {new : List Letter} → Dive c a t b new → a ≡ (graph_in c).start →
        (word : List Letter) × RunIn t (graph_in t).start b word
    dive_end {c = c} {b = b} (here leg) e = (leg.word, subst (λ a. RunIn c a b leg.word) e leg.run)
    dive_end (below step first second leg call rest w) e = dive_end rest refl

    -- a tour from the place after an opening step to a closing step stays in its copy
    pub record Stayed (c o t m : ℕ) (new : List Letter) : Type 0 where
      pub same : t ≡ c
      pub leg : Leg c o m new

    pub stayed : {x y c o t m : ℕ} {new : List Letter} → Tour x y c o t m new →
        OpenedTo (graph_in c) o → (z : Step) → (graph_in t).IsStep z → mark_of z.labels ≡ closes →
        z.from ≡ m → Stayed c o t m new
    stayed (down (here leg)) op z inside clo from = record { same = refl; leg = leg }
    stayed {t = t} (down (below step first second leg call rest e)) op z inside clo from =
        let last = dive_end rest refl in
        absurd (closed.no_closing (layout.graph t) z last.0 inside clo
        (subst (λ m. RunIn t (graph_in t).start m last.0) (sym from) last.1))
    stayed {c = c} (up w last first second leg ends inner at front back rest e) op z inside clo from =
        absurd (closed.no_end (layout.graph c) op.sign op.step last leg.word op.inside op.opens
        (subst (λ o. RunIn c o last leg.word) (sym op.to) leg.run) ends)

    free_context : (c a b x y : ℕ) (sign : Sign) → TellsFree (context sign 1 x y ∷ [])
        (context sign (layout.graph c) a b ∷ [])
    free_context c a b x y sign f =
        free.silent {letter = context sign (layout.graph c) a b} tt free.none

    across_back : (sign : Sign) (s z : Step) → flat.IsStep s → OwnStep s →
        mark_of s.labels ≡ opens sign → {inner_word : List Letter} → FlatRun s.to z.from inner_word →
        ((c a : ℕ) → At s.to c a → Arrives s.to z.from c a inner_word) → flat.IsStep z → OwnStep z →
        mark_of z.labels ≡ closes → (y : ℕ) (word : List Letter) → FlatRun z.to y word →
        ((c a : ℕ) → At z.to c a → Arrives z.to y c a word) →
        (c a : ℕ) → At s.from c a → Arrives s.from y c a (put_by s ++ context sign 1 s.to z.to ∷ word)
    across_back sign s z s_in so ope {inner_word = inner_word} body inner z_in zo clo y word run ih c a st =
        let o = so.own in
        let q = zo.own in
        let t = so.t in
        let u = zo.t in
        let c0 = so.c in
        let b = inner c0 t.to o.to in
        let t_opens : mark_of t.labels ≡ opens sign = subst (λ l. mark_of l ≡ opens sign) o.same_labels ope in
        let u_closes : mark_of u.labels ≡ closes = subst (λ l. mark_of l ≡ closes) q.same_labels clo in
        let op : OpenedTo (graph_in c0) t.to =
        record { sign = sign; step = t; inside = o.inside; opens = t_opens; to = refl } in
        let e : b.t ≡ zo.c = sym b.at.copy ∙ q.from.copy in
        let f : u.from ≡ b.b = sym q.from.state ∙ b.at.state in
        let tour : Tour s.to z.from c0 t.to zo.c b.b inner_word =
        subst (λ t'. Tour s.to z.from c0 t.to t' b.b inner_word) e b.tour in
        let staying = stayed tour op u q.inside u_closes f in
        let same : zo.c ≡ c0 = staying.same in
        let leg = staying.leg in
        let run_in : RunIn c0 t.to u.from leg.word = subst (λ m. RunIn c0 t.to m leg.word) (sym f) leg.run in
        let u_inside : (graph_in c0).IsStep u = subst (λ c. (graph_in c).IsStep u) same q.inside in
        let z_at : At z.to c0 u.to = subst (λ c. At z.to c u.to) same q.to in
        let r = ih c0 u.to z_at in
        let pre : List Letter = put_by s ++ context sign 1 s.to z.to ∷ [] in
        let before : List Letter = put_by t ++ context sign (layout.graph c0) t.to u.to ∷ [] in
        same_place o.from st (record {
          t = r.t;
          b = r.b;
          at = r.at;
          tour = subst (λ w. Tour s.from y c0 t.from r.t r.b w)
              (append_assoc (put_by s) (context sign 1 s.to z.to ∷ []) word)
              (prepend pre before (across sign s z s_in ope body z_in clo stop)
              (λ b w run'. subst (λ w. RunIn c0 t.from b w)
              (sym (append_assoc (put_by t) (context sign (layout.graph c0) t.to u.to ∷ []) w))
              (across sign t u o.inside t_opens run_in u_inside u_closes run'))
              (free_joined (put_by s) (put_by t) (context sign 1 s.to z.to ∷ [])
              (context sign (layout.graph c0) t.to u.to ∷ []) (λ f. free_pieces t.output)
              (free_context c0 t.to u.to s.to z.to sign)) r.tour);
        })

    pub run_back : {x y : ℕ} {word : List Letter} → FlatRun x y word → (c a : ℕ) → At x c a →
        Arrives x y c a word
    run_back stop c a st = record {
      t = c;
      b = a;
      at = st;
      tour = down (here (record { word = []; run = stop; free = λ f. free.none }));
    }
    run_back (along {b = y} {word = word} s inside ord run) c a st =
        along_back s inside (is.steps s inside) ord y word run (λ c a st. run_back run c a st) c a st
    run_back (across {b = y} {word = word} sign s z s_in ope inner z_in clo run) c a st =
        across_back sign s z s_in (own_step s (is.steps s s_in) (opening_marked s sign ope)) ope inner
        (λ c a st. run_back inner c a st) z_in
        (own_step z (is.steps z z_in) (closing_marked z clo)) clo y word run
        (λ c a st. run_back run c a st) c a st
