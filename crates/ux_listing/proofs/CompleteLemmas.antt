-- A walk from which nothing is left to go on has found each derivation with a wanted end.
use Rattle.std.proofs.Common.{◌≡◌, ℕ, List, [], ◌++◌, ◌↔◌, inl, inr, refl, subst}
use Rattle.std.specs.Prelude.{Option, Some, None, Contains}
use Rattle.std.proofs.lemmas.Option.{same_Some}
use Rattle.ux_outputs.specs.declared.event.Event.{Event}
use Rattle.ux_folds.specs.Folding.{Next, Folds}
use Rattle.ux_folds.proofs.FoldLemmas.{folds_none, folds_append, folds_one}
use Rattle.ux_walk.specs.Contexts.{Applying}
use Rattle.ux_walk.specs.Settings.{Setting}
use Rattle.ux_listing.specs.declared.config.Mark.{Mark}
use Rattle.ux_listing.specs.declared.config.Visit.{Visit}
use Rattle.ux_listing.specs.declared.config.Config.{Config}
use Rattle.ux_listing.specs.declared.config.Item.{Item}
use Rattle.ux_listing.specs.declared.config.Item.TheVariants.{At, Waits, Ends}
use Rattle.ux_listing.specs.Moves.{goes, calls, Moves, IsFinal}
use Rattle.ux_listing.specs.Runs.{Goes, Way, Entered, Reached, Exits, Leads, IsComplete}
use Rattle.ux_listing.specs.Runs as run
use Rattle.ux_listing.specs.Walking.{mark_of, beginning, entering, going, main_visit, waiting, IsWalked}
use Rattle.ux_listing.proofs.SetsLemmas.{in_place}

module _ (setting : Setting) (applies : Applying) (next : Next) (IsState : ℕ → Type 0)
    (start first : ℕ) (Marked : Mark → Type 0) (seen : List Item)
    (told : (item origin : ℕ) → Type 0)
    (is : IsWalked next setting applies IsState start first Marked seen told) where
  abbrev pub Has : Config → Type 0
  Has c = Contains seen (At c)

  abbrev pub HasEnd : Visit → (e u : ℕ) → Type 0
  HasEnd v e u = Contains seen (Ends (record { visit = v; end = e; fold = u }))

  -- the events are folded, and what they lead to is found
  abbrev pub Outcome : Visit → (e t : ℕ) → List Event → Type 0
  Outcome v e t events = (r : Option ℕ) × Folds next events (Some t) r
      × ((u : ℕ) → r ≡ Some u → HasEnd v e u)

  -- some events, and then others
  chain : (here later : List Event) (v : Visit) (e t : ℕ) (r : Option ℕ) →
      Folds next here (Some t) r → ((u : ℕ) → r ≡ Some u → Outcome v e u later) →
      Outcome v e t (here ++ later)
  chain here later v e t None f on = (
    None,
    folds_append next here later (Some t) None None f (folds_none next later),
    λ u same. absurd (let no : None ≡ Some u = same in cc),
  )
  chain here later v e t (Some u) f on =
      let rest = on u refl in
      (rest.0, folds_append next here later (Some t) (Some u) rest.0 f rest.1, rest.2)

  -- the same, where what is found in between is another visit's
  chain_over : (here later : List Event) (v w : Visit) (e k t : ℕ) → Outcome w k t here →
      ((u : ℕ) → HasEnd w k u → Outcome v e u later) → Outcome v e t (here ++ later)
  chain_over here later v w e k t o on =
      chain here later v e t o.0 o.1 (λ u same. on u (o.2 u same))

  -- visits that may be left at some ends, and what is marked on ways to these
  module _ (Exit : (g i e : ℕ) → Type 0)
      (back : (g i a p h b q e : ℕ) (here later : List Event) →
      Reached setting applies start g i a p → Moves setting applies g a p (calls h b) here →
      Goes setting applies g b q e later → Exit g i e → Exit h p q)
      (marks : (m : Mark) → Leads setting applies start Exit m → Marked m) where
    -- what is reached and leads on is marked
    is_marked : (v : Visit) (b k e : ℕ) (before later : List Event) →
        Entered setting applies start v.graph v.at → Way setting applies v.graph v.at b k before →
        Goes setting applies v.graph b k e later → Exit v.graph v.at e →
        Marked (record { graph = v.graph; from = v.at; state = b; at = k })
    is_marked v b k e before later entered way on exits =
        marks (record { graph = v.graph; from = v.at; state = b; at = k }) (record {
          reached = record { entered = entered; before = before; way = way };
          last = e;
          later = later;
          run = on;
          exits = exits;
        })

    -- by induction on the run
    pub goes_found : {g a p e : ℕ} {later : List Event} → Goes setting applies g a p e later →
        (v : Visit) (t : ℕ) → g ≡ v.graph → Has (record { visit = v; state = a; at = p; fold = t }) →
        Exit v.graph v.at e → Outcome v e t later
    goes_found (run.ends {g = g} {a = a} {p = p} final) v t same has exits = (
      Some t,
      refl,
      λ u is_u. subst (λ (k : ℕ). HasEnd v p k) (same_Some t u is_u)
          ((is.done (At (record { visit = v; state = a; at = p; fold = t })) has).1
          (subst (λ (n : ℕ). IsFinal setting applies n a) same final)).0,
    )
    goes_found (run.along {g = g} {a = a} {p = p} {b = b} {k = k} {j = e} {later = later} here move on)
        v t same has exits =
        let c : Config = record { visit = v; state = a; at = p; fold = t } in
        let moves : Moves setting applies v.graph a p (goes b k) here =
        subst (λ (n : ℕ). Moves setting applies n a p (goes b k) here) same move in
        let rest : Goes setting applies v.graph b k e later =
        subst (λ (n : ℕ). Goes setting applies n b k e later) same on in
        let w = is.sound (At c) has in
        let made = (is.done (At c) has).0 (goes b k) here moves in
        chain here later v e t made.result made.folds (λ u is_u. goes_found on v u same
        (made.so u is_u (At (going c b k u)) refl
        (is_marked v b k e (w.before ++ here) later w.entered (run.along here w.way moves) rest exits)).0
        exits)
    goes_found (run.across {g = g} {a = a} {p = p} {h = h} {b = b} {k = k} {j = e} {inside = inside}
        {later = later} here move inner on) v t same has exits =
        let c : Config = record { visit = v; state = a; at = p; fold = t } in
        let moves : Moves setting applies v.graph a p (calls h b) here =
        subst (λ (n : ℕ). Moves setting applies n a p (calls h b) here) same move in
        let rest : Goes setting applies v.graph b k e later =
        subst (λ (n : ℕ). Goes setting applies n b k e later) same on in
        let w = is.sound (At c) has in
        let reached : Reached setting applies start v.graph v.at a p =
        record { entered = w.entered; before = w.before; way = w.way } in
        let leaves : Exit h p k = back v.graph v.at a p h b k e here later reached moves rest exits in
        let made = (is.done (At c) has).0 (calls h b) here moves in
        chain here (inside ++ later) v e t made.result made.folds (λ u is_u.
        let callee : Visit = entering h c u in
        chain_over inside later v callee e k u
        (goes_found inner callee u refl
        (made.so u is_u (At (beginning callee)) (inr refl)
        (is_marked callee 0 p k [] inside (run.called here w.entered w.way moves) run.begins inner
        leaves)).0 leaves)
        (λ q ends. goes_found on v q same
        (in_place seen _ (At (record { visit = v; state = b; at = k; fold = q }))
        (is.joins (waiting h c u b) (record { visit = callee; end = k; fold = q })
        (made.so u is_u (Waits (waiting h c u b)) (inl refl)).0 ends refl
        (is_marked v b k e (w.before ++ (here ++ inside)) later w.entered
        (run.across here w.way moves inner) rest exits)).0.here)
        exits))

  module _ (Wanted : ℕ → Type 0) (complete : IsComplete setting applies start Wanted Marked) where
    -- each derivation to a wanted end is folded, and found unless it is dropped
    pub all_found : (e : ℕ) (events : List Event) → Wanted e →
        Goes setting applies 1 0 start e events → Outcome (main_visit start first) e first events
    all_found e events wanted on = goes_found (Exits setting applies start Wanted)
        (λ g i a p h b q e here later r move rest x. run.back here r move rest x) complete on
        (main_visit start first) first refl
        (is.main (complete (mark_of (beginning (main_visit start first))) (record {
          reached = record { entered = run.main; before = []; way = run.begins };
          last = e;
          later = events;
          run = on;
          exits = run.main wanted;
        }))) (run.main wanted)

    -- what is found is what derivations fold to
    pub exact : ((s : ℕ) (e : Event) (r t : Option ℕ) → next s e r → next s e t → r ≡ t) →
        (e u : ℕ) → Wanted e → HasEnd (main_visit start first) e u
        ↔ ((events : List Event) × Goes setting applies 1 0 start e events
        × Folds next events (Some first) (Some u))
    exact one e u wanted = (
      λ h. let m = is.sound (Ends (record { visit = main_visit start first; end = e; fold = u })) h in
          (m.inside, m.run, m.folds),
      λ h. let o = all_found e h.0 wanted h.1 in
          o.2 u (folds_one next one h.0 (Some first) o.0 (Some u) o.1 h.2),
    )
