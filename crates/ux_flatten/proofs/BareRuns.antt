-- Runs of a graph are runs of its layout in the flat graph.
use Rattle.std.proofs.Common.{arith, ◌≡◌, ℕ, zero, suc, List, [], ◌∷◌, ◌++◌, sym, subst, subst₂, ap, refl, ◌∙◌, append_assoc}
use Rattle.ux_net.specs.declared.label.Label.{Label}
use Rattle.ux_net.specs.declared.label.Label.TheVariants as label
use Rattle.ux_net.specs.Words.{Sign, Letter, context, Step, StepGraph, Grammar, Mark, ordinary, opens, closes, mark_of, letters, put_by, Run, stop, along, across, IsWord}
use Rattle.ux_net.proofs.RunLemmas.{run_joined}
use Rattle.ux_flatten.proofs.FlatGraphs.{IsUncalled, HasLabels, Layout, Stands, IsOwn, Replaces, expanded, cut, IsFlat}

-- a call, or not
pub data CallOrNot (x : Label) : Type 0 where
  call : (h : ℕ) → x ≡ label.Call h → CallOrNot x
  none : IsUncalled x → CallOrNot x

pub call_or_not : (x : Label) → CallOrNot x
call_or_not label.Empty = none tt
call_or_not (label.Call h) = call h refl
call_or_not (label.CaseFolded a) = none tt
call_or_not (label.CaseExact a) = none tt
call_or_not label.Space = none tt
call_or_not label.NoSpace = none tt
call_or_not (label.Mask a) = none tt
call_or_not (label.Brace a) = none tt
call_or_not (label.Begin a) = none tt
call_or_not (label.End a) = none tt
call_or_not label.Positive = none tt
call_or_not label.Negative = none tt
call_or_not label.ContextEnd = none tt
call_or_not label.Cut = none tt

module _ (grammar : Grammar) (layout : Layout) (stop_text : List ℕ) (flat : StepGraph) where
  abbrev At : ℕ → ℕ → ℕ → Type 0
  At = Stands grammar layout stop_text flat

  abbrev graph_in : ℕ → StepGraph
  graph_in c = grammar.graph (layout.graph c)

  abbrev RunIn : ℕ → ℕ → ℕ → List Letter → Type 0
  RunIn c = Run (layout.graph c) (graph_in c)

  abbrev FlatRun : ℕ → ℕ → List Letter → Type 0
  FlatRun = Run 1 flat

  -- by an edge into a copy, along it, and back
  pub through : (s z : Step) (x y w' : ℕ) (v w : List Letter) → flat.IsStep s → s.from ≡ x →
      s.labels ≡ label.Empty ∷ [] → FlatRun s.to y v → flat.IsStep z → z.from ≡ y →
      z.labels ≡ label.Empty ∷ [] → FlatRun z.to w' w →
      FlatRun x w' ((put_by s ++ letters s.labels) ++ (v ++ ((put_by z ++ letters z.labels) ++ w)))
  through s z x y w' v w is from empty run iz from' empty' rest =
      let after : FlatRun y w' ((put_by z ++ letters z.labels) ++ w) =
      subst (λ y. FlatRun y w' ((put_by z ++ letters z.labels) ++ w)) from'
      (along z iz (subst (λ l. mark_of l ≡ ordinary) (sym empty') refl) rest) in
      subst (λ x. FlatRun x w'
      ((put_by s ++ letters s.labels) ++ (v ++ ((put_by z ++ letters z.labels) ++ w)))) from
      (along s is (subst (λ l. mark_of l ≡ ordinary) (sym empty) refl)
      (run_joined 1 flat run after))

  module _ (main depth : ℕ) (flat_is : IsFlat grammar layout stop_text flat main depth)
      (labels : HasLabels grammar) where
    -- an edge in the copy for an edge that is no call
    pub record OwnEdge (x c : ℕ) (t : Step) : Type 0 where
      pub s : Step
      pub inside : flat.IsStep s
      pub from : s.from ≡ x
      pub own : IsOwn grammar layout stop_text flat c t s

    pub own_edge : (x c : ℕ) (t : Step) (label : Label) → At x c t.from → (graph_in c).IsStep t →
        t.labels ≡ label ∷ [] → IsUncalled label → OwnEdge x c t
    own_edge x c t label st inside e u =
        let r = flat_is.own_edge x c t label st inside e u in
        record { s = r.0; inside = r.1; from = r.2; own = r.3 }

    call_unmarked : (h : ℕ) (l : List Label) (m : Mark) → l ≡ label.Call h ∷ [] → mark_of l ≡ m →
        (m ≡ ordinary → ⊥) → ⊥
    call_unmarked h l m e f other = other (sym f ∙ ap mark_of e)

    -- what opens or closes isn't a call
    pub marked_edge : (x c : ℕ) (t : Step) (m : Mark) → mark_of t.labels ≡ m → (m ≡ ordinary → ⊥) →
        At x c t.from → (graph_in c).IsStep t → OwnEdge x c t
    marked_edge x c t m e other st inside =
        let l = labels (layout.graph c) t inside in
        elim (call_or_not l.0) as (λ z. OwnEdge x c t) [
          | call h f ↦ absurd (call_unmarked h t.labels m (l.1 ∙ ap (λ x. x ∷ []) f) e other)
          | none u ↦ own_edge x c t l.0 st inside l.1 u
        ]

    pub open_marked : (sign : Sign) → opens sign ≡ ordinary → ⊥
    open_marked sign e = cc

    pub close_marked : closes ≡ ordinary → ⊥
    close_marked e = cc

    -- the place of the copy, and a flat run that comes there
    pub record Bare (x c b : ℕ) : Type 0 where
      pub y : ℕ
      pub at : At y c b
      pub word : List Letter
      pub run : FlatRun x y word

    -- the same for each called copy
    abbrev Called : ℕ → Type 0
    Called c = (n a b : ℕ) (word : List Letter) → layout.depth c ≡ suc (layout.depth n) →
        RunIn n a b word → (x : ℕ) → At x n a → Bare x n b

    bare_replaced : (c : ℕ) → Called c → (x b : ℕ) (t s : Step) (h : ℕ) → flat.IsStep s →
        s.from ≡ x →
        Replaces grammar layout stop_text flat c t h s → ((x : ℕ) → At x c t.to → Bare x c b) →
        Bare x c b
    bare_replaced c called x b t s h inside from (expanded e) ih =
        let w : IsWord (layout.graph e.new) (graph_in e.new) e.word =
        subst (λ h. IsWord h (grammar.graph h) e.word) (sym e.graph) e.has in
        let r = called e.new (graph_in e.new).start w.last e.word e.depth w.run s.to e.to in
        let z = flat_is.end_edge r.y e.new w.last r.at w.ends e.inner in
        let l = z.3 in
        let at : At z.0.to c t.to = subst₂ (λ c a. At z.0.to c a) e.caller e.target l.to in
        let rest = ih z.0.to at in
        record {
          y = rest.y;
          at = rest.at;
          word = (put_by s ++ letters s.labels)
              ++ (r.word ++ ((put_by z.0 ++ letters z.0.labels) ++ rest.word));
          run = through s z.0 x r.y rest.y r.word rest.word inside from e.empty r.run z.1 z.2
              l.empty rest.run;
        }
    bare_replaced c called x b t s h inside from (cut z) ih =
        let r = ih s.to z.to in
        record {
          y = r.y;
          at = r.at;
          word = (put_by s ++ letters s.labels) ++ r.word;
          run = subst (λ x. FlatRun x r.y ((put_by s ++ letters s.labels) ++ r.word)) from
              (along s inside (subst (λ l. mark_of l ≡ ordinary) (sym z.stopped) refl) r.run);
        }

    bare_along : (c : ℕ) → Called c → (x b : ℕ) (t : Step) → (graph_in c).IsStep t →
        mark_of t.labels ≡ ordinary → At x c t.from → ((x : ℕ) → At x c t.to → Bare x c b) →
        Bare x c b
    bare_along c called x b t inside ord st ih =
        let l = labels (layout.graph c) t inside in
        elim (call_or_not l.0) as (λ z. Bare x c b) [
          | call h f ↦
              let r = flat_is.call_edge x c t h st inside (l.1 ∙ ap (λ x. x ∷ []) f) in
              bare_replaced c called x b t r.0 h r.1 r.2 r.3 ih
          | none u ↦
              let e = own_edge x c t l.0 st inside l.1 u in
              let s = e.s in
              let r = ih s.to e.own.to in
              record {
                y = r.y;
                at = r.at;
                word = (put_by s ++ letters s.labels) ++ r.word;
                run = subst (λ x. FlatRun x r.y ((put_by s ++ letters s.labels) ++ r.word)) e.from
                    (along s e.inside
                    (subst (λ l. mark_of l ≡ ordinary) (sym e.own.same_labels) ord) r.run);
              }
        ]

    bare_run : (c : ℕ) → Called c → {a b : ℕ} {word : List Letter} → RunIn c a b word →
        (x : ℕ) → At x c a → Bare x c b
    bare_run c called stop x st = record { y = x; at = st; word = []; run = stop }
    bare_run c called (along {b = b} t inside ord run) x st =
        bare_along c called x b t inside ord st (λ x st. bare_run c called run x st)
    bare_run c called (across {b = b} sign t u it ope inner iu clo run) x st =
        let e = marked_edge x c t (opens sign) ope (open_marked sign) st it in
        let body = bare_run c called inner e.s.to e.own.to in
        let f = marked_edge body.y c u closes clo close_marked body.at iu in
        let r = bare_run c called run f.s.to f.own.to in
        record {
          y = r.y;
          at = r.at;
          word = put_by e.s ++ context sign 1 e.s.to f.s.to ∷ r.word;
          run = subst (λ x. FlatRun x r.y (put_by e.s ++ context sign 1 e.s.to f.s.to ∷ r.word))
              e.from
              (across sign e.s f.s e.inside
              (subst (λ l. mark_of l ≡ opens sign) (sym e.own.same_labels) ope)
              (subst (λ y. FlatRun e.s.to y body.word) (sym f.from) body.run) f.inside
              (subst (λ l. mark_of l ≡ closes) (sym f.own.same_labels) clo) r.run);
        }

    -- by recursion on the depth
    bare_to : (d c : ℕ) → layout.depth c ≡ d → {a b : ℕ} {word : List Letter} → RunIn c a b word →
        (x : ℕ) → At x c a → Bare x c b
    bare_to zero c e run x st =
        bare_run c (λ n a b word deeper run. absurd (omega (arith, e, deeper))) run x st
    bare_to (suc d) c e run x st =
        bare_run c (λ n a b word deeper run. bare_to d n (omega (arith, e, deeper)) run) run x st

    pub bare : (c a b : ℕ) (word : List Letter) → RunIn c a b word → (x : ℕ) → At x c a → Bare x c b
    bare c a b word run x st = bare_to (layout.depth c) c refl run x st
