-- A loop of the flat graph that takes nothing is one of the grammar: in the copy that it reaches which
-- stands before all others on it.
use Rattle.std.proofs.Common.{arith, ◌≡◌, ◌<◌, ◌≤◌, inl, ℕ, zero, suc, List, [], ◌∷◌, ◌++◌, sym, subst, subst₂, ap, refl, ◌∙◌}
use Rattle.ux_net.specs.declared.label.Label.TheVariants as label
use Rattle.ux_net.specs.Words.{Sign, Letter, plain, Step, StepGraph, Grammar, opens, closes, mark_of, letters, Run, stop, IsWord}
use Rattle.ux_net.specs.Closers.{ClosesInto}
use Rattle.ux_net.specs.Nullable.{IsFree, IsNullable}
use Rattle.ux_admission.specs.Admissible.{LeadsFreely, MovesFreely, along_step, over_context, IsOnMove, in_front, at_opening, IsUnit, IsOnEmptyLoop}
use Rattle.ux_net.specs.Nullable as free
use Rattle.ux_flatten.proofs.FlatGraphs.{Layout, ClosesContexts, Stands, Enters, IsCopied, own, enters, leaves, stops, IsFlat}
use Rattle.ux_net.proofs.RunLemmas.{run_joined}
use Rattle.ux_admission.proofs.FreeLemmas.{free_parts, leads_joined, move_of, move_leads, Moves, leads_moves}
use Rattle.ux_admission.proofs.FreeLemmas as moves
use Rattle.ux_flatten.proofs.Tours as tours
use Rattle.ux_flatten.proofs.Tours.{OpenedTo, Leg, Called, Dive, here, below, Tour, down, up}
use Rattle.ux_flatten.proofs.SoundUnits as units

-- Moves of a graph that take nothing, one after another.
module _ (grammar : Grammar) (g : ℕ) where
  nowhere : (a : ℕ) → LeadsFreely grammar g a a
  nowhere a = ([], stop, free.none)

  moves_lead : {a b : ℕ} → Moves grammar g a b → LeadsFreely grammar g a b
  moves_lead (moves.rest {a = a}) = nowhere a
  moves_lead (moves.move m later) = leads_joined grammar g (move_leads grammar g m) (moves_lead later)

  -- what goes on with a move begins with one
  first_move : {a b c : ℕ} → Moves grammar g a b → MovesFreely grammar g b c →
      (next : ℕ) × MovesFreely grammar g a next × LeadsFreely grammar g next c
  first_move {c = c} moves.rest m = (c, m, nowhere c)
  first_move (moves.move {b = b} first later) m =
      (b, first, leads_joined grammar g (moves_lead later) (move_leads grammar g m))

module _ (grammar : Grammar) (layout : Layout) (stop_text : List ℕ) (whole : Grammar) (main depth : ℕ)
    (is : IsFlat grammar layout stop_text (whole.graph 1) main depth) (closed : ClosesContexts grammar)
    (only : (g : ℕ) (s : Step) → (whole.graph g).IsStep s → g ≡ 1)
    (before : (x c a : ℕ) → Stands grammar layout stop_text (whole.graph 1) x c a →
    (c ≡ layout.root → ⊥) → layout.caller c < c)
    (none_old : (g node : ℕ) → IsOnEmptyLoop grammar g node → ⊥) where
  abbrev flat : StepGraph
  flat = whole.graph 1

  abbrev At : ℕ → ℕ → ℕ → Type 0
  At = Stands grammar layout stop_text flat

  abbrev graph_in : ℕ → StepGraph
  graph_in c = grammar.graph (layout.graph c)

  abbrev ADive : (c a t b : ℕ) → List Letter → Type 0
  ADive = Dive grammar layout stop_text whole

  abbrev ATour : (x y c a t b : ℕ) → List Letter → Type 0
  ATour = Tour grammar layout stop_text whole

  abbrev Arrives : (x y c a : ℕ) → List Letter → Type 0
  Arrives = units.Arrives grammar layout stop_text whole main depth is closed only

  toured : {x y : ℕ} {word : List Letter} → Run 1 flat x y word → (c a : ℕ) → At x c a →
      Arrives x y c a word
  toured run c a st = units.toured grammar layout stop_text whole main depth is closed only run c a st

  abbrev FlatLeads : (x y : ℕ) → Type 0
  FlatLeads = LeadsFreely whole 1

  abbrev FlatMoves : (x y : ℕ) → Type 0
  FlatMoves = MovesFreely whole 1

  -- some run from the first place of a unit comes there
  pub record Met (x : ℕ) : Type 0 where
    pub first : ℕ
    pub unit : IsUnit whole 1 first
    pub word : List Letter
    pub run : Run 1 flat first x word

  met_later : {x y : ℕ} → Met x → FlatLeads x y → Met y
  met_later m leads = record {
    first = m.first;
    unit = m.unit;
    word = m.word ++ leads.0;
    run = run_joined 1 flat m.run leads.1;
  }

  -- the same in the graph of a copy
  pub record MetIn (c a : ℕ) : Type 0 where
    pub first : ℕ
    pub unit : IsUnit grammar (layout.graph c) first
    pub word : List Letter
    pub run : Run (layout.graph c) (graph_in c) first a word

  met_by : {c a t b : ℕ} {new : List Letter} → ADive c a t b new →
      units.BeginsAt grammar layout stop_text whole main depth is closed only c a → MetIn t b
  met_by {c = c} {a = a} (here leg) begins = record {
    first = a;
    unit = units.old_unit grammar layout stop_text whole main depth is closed only c a begins;
    word = leg.word;
    run = leg.run;
  }
  met_by {t = t} (below step first second leg call rest e) begins =
      let last = tours.dive_end grammar layout stop_text whole main depth is closed rest refl in
      record { first = (graph_in t).start; unit = inl refl; word = last.0; run = last.1 }

  met_in : (x c a : ℕ) → Met x → At x c a → MetIn c a
  met_in x c a m at =
      let u = units.unit_at grammar layout stop_text whole main depth is closed only m.first m.unit in
      let r = toured m.run u.c u.a u.at in
      let d = units.dive grammar layout stop_text whole main depth is closed only u.begins r.tour in
      subst₂ MetIn (sym r.at.copy ∙ at.copy) (sym r.at.state ∙ at.state) (met_by d u.begins)

  -- a loop: a move, and a run back
  abbrev Loops : ℕ → Type 0
  Loops x = (next : ℕ) × FlatMoves x next × FlatLeads next x

  -- a loop goes on from each of its places
  loop_from : {z x y : ℕ} → FlatLeads z x → FlatMoves x y → FlatLeads y z → Loops z
  loop_from leads move back =
      let m = first_move whole 1 (leads_moves whole 1 leads) move in
      (m.0, m.1, leads_joined whole 1 m.2 back)

  dive_lower : {c a t b : ℕ} {new : List Letter} → ADive c a t b new → layout.depth t ≤ layout.depth c
  dive_lower (here leg) = omega arith
  dive_lower (below step first second leg call rest e) = omega (arith, call.depth, dive_lower rest)

  -- no place of a copy before this one is on a loop
  abbrev NoneBefore : ℕ → Type 0
  NoneBefore c = (z d a : ℕ) → d < c → At z d a → Met z → Loops z → ⊥

  old_loop : (x c a b : ℕ) → At x c a → Met x → MovesFreely grammar (layout.graph c) a b →
      LeadsFreely grammar (layout.graph c) b a → ⊥
  old_loop x c a b at met move back =
      let m = met_in x c a met at in
      none_old (layout.graph c) a (record {
        from = a;
        next = b;
        moves = in_front move;
        back = back;
        first = m.first;
        unit = m.unit;
        word = m.word;
        reached = m.run;
      })

  -- From x, place a of copy c, a loop moves to y and comes back. What moves to the place b, from which
  -- this tour comes back, is a move of the copy.
  comes_back : {v y x c b t a : ℕ} {new : List Letter} → ATour v x c b t a new → IsFree whole new →
      t ≡ c → At x c a → Met x → NoneBefore c → MovesFreely grammar (layout.graph c) a b →
      FlatMoves x y → FlatLeads y v → ⊥
  comes_back {x = x} {c = c} {b = b} {a = a} (down (here leg)) f same at met none_before move first there =
      old_loop x c a b at met move (leg.word, leg.run, leg.free f)
  comes_back {c = c} (down (below step before after leg call rest e)) f same at met none_before move first there =
      let low = dive_lower rest in
      let equal = ap layout.depth same in
      absurd (omega (arith, low, call.depth, equal))
  comes_back {c = c} (up z last front after leg ends inner at_z run back rest e) f same at met none_before move first there =
      let both : IsFree whole (front ++ after) = subst (λ w. IsFree whole w) e f in
      let to_z : FlatLeads _ z = (front, run, (free_parts whole front after both).0) in
      let from_z : FlatLeads z _ = (after, back, (free_parts whole front after both).1) in
      let out = leads_joined whole 1 there to_z in
      let met_z = met_later met (leads_joined whole 1 (move_leads whole 1 first) out) in
      none_before z (layout.caller c) (layout.target c) (before _ c _ at inner) at_z met_z
      (loop_from from_z first out)

  -- the body of a context of the flat graph is one of the copy
  closes_in : (x y c a : ℕ) → At x c a → OpenedTo (graph_in c) a → ClosesInto whole 1 x y →
      (b : ℕ) × At y c b × ClosesInto grammar (layout.graph c) a b
  closes_in x y c a st op closing =
      let z = closing.1.step in
      let zo = units.own_closing grammar layout stop_text whole main depth is closed only z
      closing.1.inside closing.1.closed in
      let q = zo.own in
      let u_closes : mark_of zo.t.labels ≡ closes = subst (λ l. mark_of l ≡ closes) q.same_labels closing.1.closed in
      let r = toured closing.1.run c a st in
      let e : r.t ≡ zo.c = sym r.at.copy ∙ q.from.copy in
      let f : zo.t.from ≡ r.b = sym q.from.state ∙ r.at.state in
      let tour : ATour x z.from c a zo.c r.b closing.0 = subst (λ t. ATour x z.from c a t r.b closing.0) e r.tour in
      let s = tours.stayed grammar layout stop_text whole main depth is closed tour op zo.t q.inside u_closes f in (
        zo.t.to,
        subst₂ (λ y c. At y c zo.t.to) closing.1.after s.same q.to,
        (
          s.leg.word,
          record {
            step = zo.t;
            inside = subst (λ c. (graph_in c).IsStep zo.t) s.same q.inside;
            closed = u_closes;
            after = refl;
            run = subst (λ m. Run (layout.graph c) (graph_in c) a m s.leg.word) (sym f) s.leg.run;
          },
        ),
      )

  -- a loop into a called copy comes back through its end
  comes_through : {v x n start t0 b : ℕ} {new : List Letter} → ATour v x n start t0 b new →
      IsFree whole new → (s : Step) → flat.IsStep s → IsFree whole (letters s.labels) →
      (c0 : ℕ) (t : Step) (h : ℕ) (e : Enters grammar layout stop_text flat c0 t h s) → n ≡ e.new →
      start ≡ (graph_in n).start → t0 ≡ c0 → s.to ≡ v → s.from ≡ x → t.from ≡ b → Met s.from →
      NoneBefore c0 → ⊥
  comes_through (down d) free_new s inside f c0 t h e same begin last to from at met none_before =
      let low = dive_lower d in
      let equal = ap layout.depth same in
      let equal_last = ap layout.depth last in
      absurd (omega (arith, low, e.depth, equal, equal_last))
  comes_through {v = v} {x = x} {n = n} {t0 = t0} {b = b} (up z last front after leg ends inner at_z run back rest w)
      free_new s inside f c0 t h e same begin back_in to from at met none_before =
      let both : IsFree whole (front ++ after) = subst (λ w. IsFree whole w) w free_new in
      let before_z : IsFree whole front = (free_parts whole front after both).0 in
      let word : IsWord (layout.graph n) (graph_in n) leg.word = record {
        last = last;
        ends = ends;
        run = subst (λ a. Run (layout.graph n) (graph_in n) a last leg.word) begin leg.run;
      } in
      let of_h : IsWord h (grammar.graph h) leg.word =
      subst (λ h. IsWord h (grammar.graph h) leg.word) (ap layout.graph same ∙ e.graph) word in
      let old : IsFree grammar (letters t.labels) = subst (λ l. IsFree grammar (letters l)) (sym e.labels)
      (free.call of_h (leg.free before_z) free.none) in
      let tour : ATour z x c0 t.to t0 b after =
      subst₂ (λ c a. ATour z x c a t0 b after) (ap layout.caller same ∙ e.caller)
      (ap layout.target same ∙ e.target) rest in
      let ahead : ATour z s.from c0 t.to t0 t.from after =
      subst₂ (λ x b. ATour z x c0 t.to t0 b after) (sym from) (sym at) tour in
      let to_z : FlatLeads s.to z = (front, subst (λ v. Run 1 flat v z front) (sym to) run, before_z) in
      comes_back ahead (free_parts whole front after both).1 back_in e.from met none_before
      (along_step t e.inside old) (along_step s inside f) to_z

  -- a loop that begins with a step
  by_step : (s : Step) → flat.IsStep s → IsCopied grammar layout stop_text flat s →
      IsFree whole (letters s.labels) → FlatLeads s.to s.from → Met s.from → (c a : ℕ) →
      At s.from c a → NoneBefore c → ⊥
  by_step s inside (own c0 t o) f back met c a at none_before =
      let r = toured back.1 c0 t.to o.to in
      let old : IsFree grammar (letters t.labels) = subst (λ l. IsFree grammar (letters l)) (sym o.labels)
      (tours.free_labels grammar layout stop_text whole main depth is closed o.label o.uncalled
      (subst (λ l. IsFree whole (letters l)) (o.same_labels ∙ o.labels) f)) in
      let tour : ATour s.to s.from c0 t.to r.t t.from back.0 =
      subst (λ b. ATour s.to s.from c0 t.to r.t b back.0) (sym r.at.state ∙ o.from.state) r.tour in
      comes_back tour back.2 (sym r.at.copy ∙ o.from.copy) o.from met
      (subst NoneBefore (sym at.copy ∙ o.from.copy) none_before) (along_step t o.inside old)
      (along_step s inside f) (nowhere whole 1 s.to)
  by_step s inside (enters c0 t h e) f back met c a at none_before =
      let r = toured back.1 e.new (graph_in e.new).start e.to in
      let tour : ATour s.to s.from e.new (graph_in e.new).start r.t t.from back.0 =
      subst (λ b. ATour s.to s.from e.new (graph_in e.new).start r.t b back.0) (sym r.at.state ∙ e.from.state)
      r.tour in
      comes_through tour back.2 s inside f c0 t h e refl refl (sym r.at.copy ∙ e.from.copy) refl refl refl met
      (subst NoneBefore (sym at.copy ∙ e.from.copy) none_before)
  by_step s inside (leaves c0 a0 l) f back met c a at none_before =
      let first : FlatMoves s.from s.to = along_step s inside f in
      none_before s.to (layout.caller c0) (layout.target c0)
      (subst (λ d. layout.caller c0 < d) (sym l.from.copy ∙ at.copy) (before s.from c0 a0 l.from l.inner)) l.to
      (met_later met (move_leads whole 1 first)) (loop_from back first (nowhere whole 1 s.to))
  by_step s inside (stops c0 t h z) f back met c a at none_before =
      loud (subst (λ l. IsFree whole (letters l)) z.stopped f)
    where
      loud : IsFree whole (plain (label.CaseExact stop_text) ∷ []) → ⊥
      loud (free.silent s f) = cc

  by_context : (s : Step) (sign : Sign) → flat.IsStep s → mark_of s.labels ≡ opens sign →
      {y : ℕ} → ClosesInto whole 1 s.to y → FlatLeads y s.from → Met s.from → (c a : ℕ) →
      At s.from c a → NoneBefore c → ⊥
  by_context s sign inside ope {y} into back met c a at none_before =
      let so = units.own_opening grammar layout stop_text whole main depth is closed only s sign inside ope in
      let o = so.own in
      let t_opens = subst (λ l. mark_of l ≡ opens sign) o.same_labels ope in
      let b = closes_in s.to y so.c so.t.to o.to
      (record { sign = sign; step = so.t; inside = o.inside; opens = t_opens; to = refl }) into in
      let r = toured back.1 so.c b.0 b.1 in
      let tour : ATour y s.from so.c b.0 r.t so.t.from back.0 =
      subst (λ a. ATour y s.from so.c b.0 r.t a back.0) (sym r.at.state ∙ o.from.state) r.tour in
      comes_back tour back.2 (sym r.at.copy ∙ o.from.copy) o.from met
      (subst NoneBefore (sym at.copy ∙ o.from.copy) none_before)
      (over_context sign so.t o.inside t_opens b.2)
      (over_context sign s inside ope into) (nowhere whole 1 y)

  by_move : {x next : ℕ} → FlatMoves x next → FlatLeads next x → Met x → (c a : ℕ) → At x c a →
      NoneBefore c → ⊥
  by_move (along_step s inside f) back met c a at none_before =
      by_step s inside (is.steps s inside) f back met c a at none_before
  by_move (over_context sign s inside ope into) back met c a at none_before =
      by_context s sign inside ope into back met c a at none_before

  none_to : (n z d a : ℕ) → d < n → At z d a → Met z → Loops z → ⊥
  none_to zero z d a lt at met loop = absurd (omega (arith, lt))
  none_to (suc n) z d a lt at met loop =
      by_move loop.1 loop.2 met d a at
      (λ z' d' a' lt' at' met' loop'. none_to n z' d' a' (omega (arith, lt, lt')) at' met' loop')

  of_one : (g : ℕ) {from next : ℕ} → MovesFreely whole g from next → g ≡ 1
  of_one g (along_step s inside f) = only g s inside
  of_one g (over_context sign s inside ope into) = only g s inside

  pub no_loop : (g node : ℕ) → IsOnEmptyLoop whole g node → ⊥
  no_loop g node loop =
      let move = move_of whole g loop.moves in
      let one = of_one g move in
      let met : Met loop.from = record {
        first = loop.first;
        unit = subst (λ g. IsUnit whole g loop.first) one loop.unit;
        word = loop.word;
        run = subst (λ g. Run g (whole.graph g) loop.first loop.from loop.word) one loop.reached;
      } in
      let u = units.unit_at grammar layout stop_text whole main depth is closed only met.first met.unit in
      let r = toured met.run u.c u.a u.at in
      none_to (suc r.t) loop.from r.t r.b (omega arith) r.at met (
        loop.next,
        subst (λ g. MovesFreely whole g loop.from loop.next) one move,
        subst (λ g. LeadsFreely whole g loop.next loop.from) one loop.back,
      )
