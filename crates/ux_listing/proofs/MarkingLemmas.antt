-- Marks that are closed backwards, over what a walk without a fold has seen, are complete.
use Rattle.std.proofs.Common.{◌≡◌, ℕ, List, [], ◌∷◌, ◌++◌, inl, inr, refl, subst}
use Rattle.std.specs.Prelude.{Option, Some, slice_get, Contains}
use Rattle.ux_outputs.specs.declared.event.Event.{Event}
use Rattle.ux_folds.specs.Folding.{Next, Folds}
use Rattle.ux_walk.specs.Contexts.{Applying}
use Rattle.ux_walk.specs.Links.{AreOnce}
use Rattle.ux_walk.specs.Settings.{Setting}
use Rattle.ux_listing.specs.declared.config.Config.{Config}
use Rattle.ux_listing.specs.declared.config.Return.{Return}
use Rattle.ux_listing.specs.declared.config.Item.{Item}
use Rattle.ux_listing.specs.declared.config.Item.TheVariants.{At, Waits, Ends}
use Rattle.ux_listing.specs.Marking.{AreClosed, AreEndsMarked, IsAny, IsMarked, at_mark, bare, end_of}
use Rattle.ux_listing.specs.Moves.{goes, calls, Moves, IsFinal}
use Rattle.ux_listing.specs.Runs.{Goes, Way, Entered, Reached, Exits, Leads, IsComplete}
use Rattle.ux_listing.specs.Runs as run
use Rattle.ux_listing.specs.Walking.{Comes, IsWalked}
use Rattle.ux_listing.proofs.CompleteLemmas.{goes_found}
use Rattle.ux_listing.proofs.RunsLemmas.{way_derives}
use Rattle.ux_listing.proofs.SetsLemmas.{in_place, place_of}

module _ (next : Next) (unit : (s : ℕ) (e : Event) (r : Option ℕ) → next s e r → r ≡ Some 0) where
  -- nothing is made of events
  unit_folds : (es : List Event) (r : Option ℕ) → Folds next es (Some 0) r → r ≡ Some 0
  unit_folds [] r h = h
  unit_folds (e ∷ es) r h = unit_folds es r
      (subst (λ (o : Option ℕ). Folds next es o r) (unit 0 e h.0 h.1) h.2)

  module _ (setting : Setting) (applies : Applying) (IsState : ℕ → Type 0) (start : ℕ)
      (seen : List Item) (told : (item origin : ℕ) → Type 0)
      (is : IsWalked next setting applies IsState start 0 IsAny seen told) where
    abbrev config : (g i a p : ℕ) → Config
    config g i a p = at_mark (record { graph = g; from = i; state = a; at = p })

    abbrev Has : (g i a p : ℕ) → Type 0
    Has g i a p = Contains seen (At (config g i a p))

    abbrev caller : (g i h p b : ℕ) → Return
    caller g i h p b = record { callee = bare h p; caller = bare g i; to = b }

    abbrev IsFrom : Item → Item → Type 0
    IsFrom = Comes seen told

    -- one step on
    move_seen : (g i a p b k : ℕ) (here : List Event) → Has g i a p →
        Moves setting applies g a p (goes b k) here →
        IsFrom (At (config g i a p)) (At (config g i b k))
    move_seen g i a p b k here has move =
        let made = (is.done (At (config g i a p)) has).0 (goes b k) here move in
        (made.so 0 (unit_folds here made.result made.folds) (At (config g i b k)) refl tt).1 refl

    call_seen : (g i a p h b : ℕ) (here : List Event) → Has g i a p →
        Moves setting applies g a p (calls h b) here →
        Has h p 0 p × IsFrom (At (config g i a p)) (Waits (caller g i h p b))
    call_seen g i a p h b here has move =
        let made = (is.done (At (config g i a p)) has).0 (calls h b) here move in
        let same = unit_folds here made.result made.folds in (
          (made.so 0 same (At (config h p 0 p)) (inr refl) tt).0,
          (made.so 0 same (Waits (caller g i h p b)) (inl refl)).1 tt,
        )

    final_seen : (g i a p : ℕ) → Has g i a p → IsFinal setting applies g a →
        IsFrom (At (config g i a p)) (Ends (end_of g i p))
    final_seen g i a p has final = ((is.done (At (config g i a p)) has).1 final).1 tt

    -- what a graph derives is found
    end_seen : (h p k : ℕ) (inside : List Event) → Has h p 0 p →
        Goes setting applies h 0 p k inside → Contains seen (Ends (end_of h p k))
    end_seen h p k inside has on =
        let o = goes_found setting applies next IsState start 0 IsAny seen told is
        (λ g i e. Unit {0}) (λ g i a p h b q e here later r move rest x. tt) (λ m l. tt) on
        (bare h p) 0 refl has tt in
        o.2 0 (unit_folds inside o.0 o.1)

    -- and the caller goes on behind it
    behind_seen : (g i a p h b k : ℕ) (here inside : List Event) → Has g i a p →
        Moves setting applies g a p (calls h b) here → Goes setting applies h 0 p k inside →
        IsFrom (Waits (caller g i h p b)) (At (config g i b k))
        × IsFrom (Ends (end_of h p k)) (At (config g i b k))
    behind_seen g i a p h b k here inside has move on =
        let call = call_seen g i a p h b here has move in
        is.joins (caller g i h p b) (end_of h p k)
        (in_place seen call.1.j (Waits (caller g i h p b)) call.1.here)
        (end_seen h p k inside call.0 on) refl tt

    way_seen : {g i a p : ℕ} {before : List Event} → Has g i 0 i →
        Way setting applies g i a p before → Has g i a p
    way_seen first run.begins = first
    way_seen {g = g} {i = i} first (run.along {a = a} {p = p} {b = b} {k = k} here w move) =
        let c = move_seen g i a p b k here (way_seen first w) move in
        in_place seen c.j (At (config g i b k)) c.here
    way_seen {g = g} {i = i} first
        (run.across {a = a} {p = p} {h = h} {b = b} {k = k} {inside = inside} here w move on) =
        let c = (behind_seen g i a p h b k here inside (way_seen first w) move on).0 in
        in_place seen c.j (At (config g i b k)) c.here

    entered_seen : {g i : ℕ} → Entered setting applies start g i → Has g i 0 i
    entered_seen run.main = is.main tt
    entered_seen (run.called {g = g} {i = i} {a = a} {p = p} {h = h} {b = b} here e w move) =
        (call_seen g i a p h b here (way_seen (entered_seen e) w) move).0

    -- what is reached is seen
    reached_seen : (g i a p : ℕ) → Reached setting applies start g i a p → Has g i a p
    reached_seen g i a p r = way_seen (entered_seen r.entered) r.way

    module _ (once : AreOnce seen) (Wanted : ℕ → Type 0) (numbers : List ℕ)
        (wanted : AreEndsMarked seen Wanted start numbers) (closed : AreClosed told numbers) where
      abbrev Marked : Item → Type 0
      Marked = IsMarked seen numbers

      -- back from a marked item
      back : (v w : Item) → IsFrom v w → Marked w → Marked v
      back v w c m =
          let same : m.0 ≡ c.j = once m.0 c.j w m.1 c.here in
          (c.i, c.origin, closed c.j c.i c.is_told (subst (Contains numbers) same m.2))

      -- by induction on the rest of a run
      rest_marked : {g a p e : ℕ} {later : List Event} → Goes setting applies g a p e later →
          (i : ℕ) → Has g i a p → Marked (Ends (end_of g i e)) → Marked (At (config g i a p))
      rest_marked (run.ends {g = g} {a = a} {p = p} final) i has leaves =
          back (At (config g i a p)) (Ends (end_of g i p)) (final_seen g i a p has final) leaves
      rest_marked (run.along {g = g} {a = a} {p = p} {b = b} {k = k} here move on) i has leaves =
          let c = move_seen g i a p b k here has move in
          back (At (config g i a p)) (At (config g i b k)) c
          (rest_marked on i (in_place seen c.j (At (config g i b k)) c.here) leaves)
      rest_marked (run.across {g = g} {a = a} {p = p} {h = h} {b = b} {k = k} {inside = inside} here
          move inner on) i has leaves =
          let call = call_seen g i a p h b here has move in
          let c = (behind_seen g i a p h b k here inside has move inner).0 in
          back (At (config g i a p)) (Waits (caller g i h p b)) call.1
          (back (Waits (caller g i h p b)) (At (config g i b k)) c
          (rest_marked on i (in_place seen c.j (At (config g i b k)) c.here) leaves))

      -- by induction on the callers
      exits_marked : {g i e : ℕ} → Exits setting applies start Wanted g i e → (events : List Event) →
          Goes setting applies g 0 i e events → Marked (Ends (end_of g i e))
      exits_marked (run.main {e = e} want) events on =
          let h = end_seen 1 start e events (is.main tt) on in
          let at = placed (Ends (end_of 1 start e)) h in
          (at.0, at.1, wanted e at.0 want at.1)
        where
          placed : (w : Item) → Contains seen w → (n : ℕ) × (slice_get seen n ≡ Some w)
          placed w h = let p = place_of seen w h in (p.0, p.2)
      exits_marked (run.back {g = g} {i = i} {a = a} {p = p} {h = h} {b = b} {q = q} {e = e}
          {later = later} here r move rest x) events on =
          let has = reached_seen g i a p r in
          let c = (behind_seen g i a p h b q here events has move on).1 in
          let way : Way setting applies g i b q (r.before ++ (here ++ events)) =
          run.across here r.way move on in
          back (Ends (end_of h p q)) (At (config g i b q)) c
          (rest_marked rest i (in_place seen c.j (At (config g i b q)) c.here)
          (exits_marked x ((r.before ++ (here ++ events)) ++ later)
          (way_derives setting applies way rest)))

      -- each configuration from which a wanted end is reached is marked
      pub closed_complete : IsComplete setting applies start Wanted
          (λ m. Marked (At (at_mark m)))
      closed_complete m l =
          rest_marked l.run m.from (reached_seen m.graph m.from m.state m.at l.reached)
          (exits_marked l.exits (l.reached.before ++ l.later)
          (way_derives setting applies l.reached.way l.run))
