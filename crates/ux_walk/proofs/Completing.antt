-- What was reached is right at each step, and whole where nothing is left to go on from.
use Rattle.std.proofs.Common.{arith, ◌≡◌, ℕ, zero, suc, ◌+◌, ◌-◌, ◌*◌, ◌<◌, ◌≤◌, List, [], ◌∷◌, ◌++◌, refl, sym, ◌∙◌, ap, subst, inl, inr, length, reverse, append-nil}
use Rattle.std.specs.Prelude.{Contains}
use Rattle.std.proofs.lemmas.List.{reverse-reverse}
use Rattle.ux_alphabet.specs.Letters.{Letters}
use Rattle.ux_tokens.specs.Tokens.{Token}
use Rattle.ux_lexical_tables.specs.Tables.{Tables}
use Rattle.ux_net.specs.declared.net_graph.NetGraph.{NetGraph}
use Rattle.ux_net.specs.Measured.{IsMeasured, must, bound_of, rank_of}
use Rattle.ux_outputs.specs.declared.event.Event.{Event}
use Rattle.ux_walk.specs.Contexts.{Applying, ApplyAsMeant}
use Rattle.ux_walk.specs.Settings.{applied_text}
use Rattle.ux_walk.specs.declared.config.Frame.{Frame}
use Rattle.ux_walk.specs.declared.config.Visit.{Visit}
use Rattle.ux_walk.specs.declared.config.Config.{Config}
use Rattle.ux_walk.specs.declared.config.Return.{Return}
use Rattle.ux_walk.specs.declared.reached.Reached.{Reached}
use Rattle.ux_walk.specs.Courses.{Course, GoesOn}
use Rattle.ux_walk.specs.Groups.{IsIn}
use Rattle.ux_walk.specs.Links.{AreOnce}
use Rattle.ux_walk.specs.Configurations.{Has, HasConfig, HasFound, IsClosed, IsFoundAs, IsVisit, IsWaiting, Spells, Spreads, begins, beginning, calling, ended, given, going, joins}
use Rattle.ux_walk.proofs.Keeping.{one_before, one_visit}
use Rattle.ux_walk.proofs.Behind.{behind_lighter, weight}
use Rattle.ux_walk.proofs.Lighter.{one_power}
use Rattle.ux_walk.proofs.OneStep.{Completes, Ends, Goes, step_forth, step_back, onto, onto-none, onto-put}
use Rattle.ux_walk.proofs.Onward.{AreForward, next_lighter}

-- what is listed latest first inside comes after what was before
onto_joined : (inside before later : List Event) →
    onto (inside ++ before) later ≡ onto before (reverse inside ++ later)
onto_joined inside before later =
    ap (λ (l : List Event). onto (l ++ before) later) (sym (reverse-reverse inside))
    ∙ onto-put (reverse inside) before later

module _ (alphabet : Letters) (tokens : List Token) (tables : Tables) (applies : Applying)
    (graphs : List NetGraph) (meant : ApplyAsMeant (applied_text alphabet tokens tables) graphs
    applies) where
  abbrev EndsIn : Course → ℕ → List Event → Type 0
  EndsIn = Ends alphabet tokens tables applies graphs meant

  -- the graph of the visit derives the events from its position on
  abbrev pub IsWhole : Visit → ℕ → List Event → Type 0
  IsWhole v j es = Goes alphabet tokens tables applies graphs meant v.graph 0 v.at j es

  -- the course stands in the text, and what completes it is what its visit derives
  pub record IsRight (v : Visit) (w : Course) : Type 0 where
    pub inside : w.at ≤ length tokens
    pub whole : (j : ℕ) (es : List Event) → EndsIn w j es → IsWhole v j es

  begin_whole : (v : Visit) (j : ℕ) (es : List Event) → EndsIn (beginning v) j es → IsWhole v j es
  begin_whole v j es (all, (k, here, rest, goes, through, split), is) =
      let same : here ≡ es = sym (is ∙ (split
      ∙ (ap (λ (l : List Event). here ++ l) through.1 ∙ append-nil here))) in
      subst (λ (l : List Event). IsWhole v j l) same
      (subst (λ m. IsWhole v m here) through.0 goes)

  pub whole_begin : (v : Visit) (j : ℕ) (es : List Event) → IsWhole v j es →
      EndsIn (beginning v) j es
  whole_begin v j es goes = (es, (j, es, [], goes, (refl, refl), sym (append-nil es)), refl)

  pub beginning_right : (v : Visit) → v.at ≤ length tokens → IsRight v (beginning v)
  beginning_right v inside = record { inside = inside; whole = begin_whole v }

  ended_right : (v : Visit) (end : ℕ) (inside : List Event) → IsRight v (ended end inside) →
      IsWhole v end (reverse inside)
  ended_right v end inside right =
      right.whole end (reverse inside) ([], (refl, refl), sym (onto-none inside))

  joined_right : (v called : Visit) (here : Frame) (before inside : List Event) (end : ℕ) →
      IsRight v (calling called here before) → IsRight called (ended end inside) →
      IsRight v (going here end (inside ++ before))
  joined_right v called here before inside end caller callee = record {
    inside = callee.inside;
    whole = λ j es (later, through, is). caller.whole j es (
      reverse inside ++ later,
      (end, reverse inside, later, ended_right called end inside callee, through, refl),
      is ∙ onto_joined inside before later,
    );
  }

  -- what follows from right courses is right
  pub spread_right : {Given : Visit → Course → Type 0} →
      ((v : Visit) (w : Course) → Given v w → IsRight v w) → {v : Visit} {w : Course} →
      Spreads Given v w → IsRight v w
  spread_right each {v = v} {w = w} (given g) = each v w g
  spread_right each (begins {called = called} s) =
      beginning_right called (spread_right each s).inside
  spread_right each (joins {v = v} {called = called} {here = here} {before = before}
      {inside = inside} {end = end} s t) =
      joined_right v called here before inside end (spread_right each s) (spread_right each t)

  module _ (forward : AreForward alphabet tokens tables) (measured : IsMeasured graphs) where
    -- and so is a course one step on
    pub step_right : (v : Visit) (f : Frame) (at : ℕ) (before : List Event) (w : Course) →
        IsRight v (going f at before) →
        GoesOn alphabet tokens tables applies graphs f [] at before w → IsRight v w
    step_right v f at before w right step = record {
      inside = (next_lighter graphs alphabet tokens tables applies meant forward measured f [] at
          before right.inside w step).0;
      whole = λ j es ends. right.whole j es (step_back alphabet tokens tables applies graphs meant f
          [] at before j es w step ends);
    }

    abbrev pub weighs : Course → ℕ
    weighs w = weight alphabet tokens tables applies graphs meant forward measured w.at w.frames

    module _ (r : Reached) (closed : IsClosed r) (once : AreOnce r.visits.keys)
        (right : (v : Visit) (w : Course) → Has r v w → IsRight v w)
        (went : (c : Config) → Contains r.configs.keys c → (v : Visit) (before : List Event) →
        Spells r c v before → (w : Course) →
        GoesOn alphabet tokens tables applies graphs c.here [] c.at before w → Has r v w) where
      found_ended : (v : Visit) (w : Course) (j : ℕ) (es : List Event) → HasFound r v w →
          EndsIn w j es → IsFoundAs r v j es
      found_ended v w j es (n, f, inside, is) ends =
          let c : Completes alphabet tokens tables applies graphs meant [] f.end is.before j es =
          subst (λ (x : Course). EndsIn x j es) is.is ends in
          record {
            before = is.before;
            has = (
              n,
              f,
              inside,
              record {
                before = is.before;
                visit = is.visit;
                events = is.events;
                is = ap (λ k. ended k is.before) (sym c.1.0);
              },
            );
            is = c.2 ∙ (ap (λ (l : List Event). onto is.before l) c.1.1 ∙ onto-none is.before);
          }

      -- a caller goes on behind what was found of the called visit
      behind_found : (number : ℕ) (waiting : Return) (v called : Visit) (before : List Event)
          (k : ℕ) (here : List Event) → IsIn r.returns number waiting →
          IsVisit r number called → IsVisit r waiting.visit v →
          (tells : IsWaiting r number waiting v (calling called waiting.here before)) →
          IsFoundAs r called k here →
          (inside : List Event) × (here ≡ reverse inside)
          × HasConfig r v (going waiting.here k (inside ++ before))
      behind_found number waiting v called before k here there callee visit tells
          found = by found.before found.is found.has
        where
          by : (inside : List Event) → here ≡ reverse inside →
              HasFound r called (ended k inside) →
              (l : List Event) × (here ≡ reverse l)
              × HasConfig r v (going waiting.here k (l ++ before))
          by inside is (n, f, in_group, f_is) =
              let same : n ≡ number = once n number called f_is.visit callee in
              let j = closed.joins number waiting f there
              (subst (λ m. IsIn r.found m f) same in_group) in
              let visits : j.v ≡ v = one_visit r waiting.visit j.v v j.visit visit in
              let befores : j.before ≡ before = one_before r waiting.events j.before tells.before
              j.earlier tells.events ∙ ap (λ (x : Course). x.before) (sym tells.is) in
              let insides : j.inside ≡ inside = one_before r f.events j.inside f_is.before j.later
              f_is.events ∙ ap (λ (x : Course). x.before) (sym f_is.is) in
              let ends : f.end ≡ k = ap (λ (x : Course). x.at) (sym f_is.is) in (
                inside,
                is,
                subst (λ m. HasConfig r v (going waiting.here m (inside ++ before))) ends
                    (subst (λ (l : List Event). HasConfig r v
                    (going waiting.here f.end (l ++ before))) insides
                    (subst (λ (l : List Event). HasConfig r v
                    (going waiting.here f.end (j.inside ++ l))) befores
                    (subst (λ (u : Visit). HasConfig r u
                    (going waiting.here f.end (j.inside ++ j.before))) visits j.has))),
              )

      abbrev IsComplete : ℕ → Type 0
      IsComplete bound = (v : Visit) (w : Course) (j : ℕ) (es : List Event) →
          weighs w < bound → Has r v w → EndsIn w j es → IsFoundAs r v j es

      -- over a call: what the called visit derives is found, and so is what is derived behind it
      over_call : (bound : ℕ) → IsComplete bound → (number : ℕ) (waiting : Return)
          (v called : Visit) (before : List Event) → IsIn r.returns number waiting →
          IsVisit r number called →
          IsWaiting r number waiting v (calling called waiting.here before) →
          called.at ≤ length tokens → weighs (calling called waiting.here before) < suc bound →
          (j : ℕ) (es : List Event) → EndsIn (calling called waiting.here before) j es →
          IsFoundAs r v j es
      over_call bound rest number waiting v called before there callee tells at less j es
          (all, (k, here, later, goes, through, split), is) =
          let start : Frame = record { graph = called.graph; state = 0 } in
          let begun = closed.begins number waiting there in
          let same : begun.0 ≡ called = one_visit r number begun.0 called begun.1 callee in
          let has : Has r called (beginning called) =
          inl (subst (λ (u : Visit). HasConfig r u (beginning u)) same begun.2) in
          let some = one_power ((((length tokens - called.at) + 1) - must graphs called.graph 0)
          * (bound_of graphs + 1) + rank_of graphs waiting.here.graph waiting.here.state) in
          let found = rest called (beginning called) k here (omega (arith, less, some)) has
          (whole_begin called k here goes) in
          let b = behind_found number waiting v called before k here there callee tells.visit tells
          found in
          let after = behind_lighter alphabet tokens tables applies graphs meant forward measured
          (weighs (calling called waiting.here before) + 1) called.graph 0 called.at k here
          (waiting.here ∷ []) (omega arith) at goes in
          rest v (going waiting.here k (b.0 ++ before)) j es (omega (arith, less, after.1))
          (inl b.2) (
            later,
            through,
            is ∙ (ap (λ (l : List Event). onto before l) split
                ∙ (ap (λ (l : List Event). onto before (l ++ later)) b.1
                ∙ sym (onto_joined b.0 before later))),
          )

      pub complete : (bound : ℕ) (v : Visit) (w : Course) (j : ℕ) (es : List Event) →
          weighs w < bound → Has r v w → EndsIn w j es → IsFoundAs r v j es
      complete zero v w j es less has ends = absurd (omega (arith, less))
      complete (suc bound) v w j es less (inl (c, inside, named)) ends =
          let f = c.here in
          let whole : Completes alphabet tokens tables applies graphs meant (f ∷ []) c.at
          named.before j es = subst (λ (x : Course). EndsIn x j es) named.is ends in
          let light : weighs (going f c.at named.before) < suc bound =
          subst (λ (x : Course). weighs x < suc bound) named.is less in
          let at : c.at ≤ length tokens = subst (λ (x : Course). x.at ≤ length tokens) named.is
          (right v w (inl (c, inside, named))).inside in
          let n = step_forth alphabet tokens tables applies graphs meant f [] c.at named.before j es
          whole in
          let next = next_lighter graphs alphabet tokens tables applies meant forward measured f []
          c.at named.before at n.0 n.1 in
          complete bound v n.0 j es (omega (arith, light, next.1))
          (went c inside v named.before named.spells n.0 n.1) n.2
      complete (suc bound) v w j es less (inr (inr found)) ends =
          found_ended v w j es found ends
      complete (suc bound) v w j es less (inr (inl (number, waiting, there, tells))) ends =
          over_call bound (complete bound) number waiting v tells.called tells.before there
          tells.callee (record {
            called = tells.called;
            before = tells.before;
            callee = tells.callee;
            visit = tells.visit;
            events = tells.events;
            is = refl;
          })
          (subst (λ (x : Course). x.at ≤ length tokens) tells.is
          (right v w (inr (inl (number, waiting, there, tells)))).inside)
          (subst (λ (x : Course). weighs x < suc bound) tells.is less) j es
          (subst (λ (x : Course). EndsIn x j es) tells.is ends)
