-- A walk from some stacks ends at once, or goes on by taking a token from a stack that they reach.
-- Public: the proofs of the automaton cite it.
use Rattle.std.proofs.Common.{◌≡◌, ℕ, List, [], ◌∷◌, ◌++◌, ◌⊎◌, inl, inr, refl, sym, ◌∙◌, ap, subst, Bool, true, false, reverse}
use Rattle.std.specs.Prelude.{IsTrue}
use Rattle.ux_net.specs.declared.label.Label.{Label}
use Rattle.ux_net.specs.declared.label.Label.TheVariants as label
use Rattle.ux_net.specs.declared.state.Edge.{Edge}
use Rattle.ux_outputs.specs.declared.event.Event.{Event}
use Rattle.ux_outputs.specs.declared.event.Event.TheVariants as event
use Rattle.ux_meaning.specs.Texts.{IsSpaceAt}
use Rattle.ux_walk.specs.declared.lists.Link.{Link}
use Rattle.ux_walk.specs.declared.config.Frame.{Frame}
use Rattle.ux_walk.specs.Courses.{Course, Passes, TakesPlainly, passing, put_events}
use Rattle.ux_walk.specs.Leads.{Stack, LeadsTo, ended, goes}
use Rattle.ux_walk.specs.Settings.{Setting}
use Rattle.ux_closure.specs.declared.closing.Closure.{Closure}
use Rattle.ux_closure.specs.Passing.{LetsPass, PassesOn, Reaches, stays, passes, ReachedFrom}
use Rattle.ux_closure.specs.Holding.{Holds, IsClosure}
use Rattle.ux_closure.specs.Taking.{TakesOn, TellsSpace, Parts}

-- the events of an edge's output, latest first
abbrev put_before : Edge → List Event
put_before edge = reverse (put_events edge.output) ++ []

module _ (setting : Setting) (at : ℕ) (is_spaced : Bool) (tells : TellsSpace setting at is_spaced)
  where
    passes_lets : (x : Label) → Passes setting.tokens x at → LetsPass is_spaced x
    passes_lets label.Empty p = tt
    passes_lets (label.Begin name) p = tt
    passes_lets (label.End name) p = tt
    passes_lets label.Cut p = tt
    passes_lets label.NoSpace p = go is_spaced tells.0
      where
        go : (b : Bool) → (IsTrue b → IsSpaceAt setting.tokens at) → b ≡ false
        go true is = absurd (p (is refl))
        go false is = refl
    passes_lets _ p = absurd p

    lets_passes : (x : Label) → LetsPass is_spaced x → Passes setting.tokens x at
    lets_passes label.Empty l = tt
    lets_passes (label.Begin name) l = tt
    lets_passes (label.End name) l = tt
    lets_passes label.Cut l = tt
    lets_passes label.NoSpace l = λ space. let yes = tells.1 space in cc
    lets_passes _ l = absurd l

    -- what a walk from the stack does
    abbrev Split : Stack → (end : ℕ) → Type 0
    Split stack end =
        (Reaches setting.net is_spaced stack [] × (end ≡ at))
        ⊎ ((last : Stack) × Reaches setting.net is_spaced stack last × TakesOn setting last at end)

    -- one step more
    further : (stack next : Stack) (end : ℕ) → PassesOn setting.net is_spaced stack next →
        Split next end → Split stack end
    further stack next end step split = elim split [
      | inl e ↦ inl (passes next step e.0, e.1)
      | inr t ↦ inr (t.0, passes next step t.1, t.2)
    ]

    split_forth : {stack : Stack} {p end : ℕ} → LeadsTo setting stack p end → p ≡ at →
        Split stack end
    split_forth ended here = inl (stays, here)
    split_forth {stack = f ∷ fs} {end = end} (goes w (state, found, inr (final, is)) rest) here =
        further (f ∷ fs) fs end (state, found, inr (final, refl))
        (subst (λ (x : Course). Split x.frames end) is
        (split_forth rest (ap (λ (x : Course). x.at) is ∙ here)))
    split_forth {stack = f ∷ fs} {end = end}
        (goes w (state, found, inl (edge, inside, inl (k, takes, is))) rest) here = inr (
          f ∷ fs,
          stays,
          (
            state,
            found,
            edge,
            inside,
            k,
            subst (λ p. TakesPlainly setting.alphabet setting.tokens setting.tables edge.label p
                k) here takes,
            subst (λ (x : Course). LeadsTo setting x.frames x.at end) is rest,
          ),
        )
    split_forth {stack = f ∷ fs} {end = end}
        (goes w (state, found, inl (edge, inside, inr (inl (lets, is)))) rest) here =
        let next : Frame = record { graph = f.graph; state = edge.target } in
        further (f ∷ fs) (next ∷ fs) end (
          state,
          found,
          inl (
            edge,
            inside,
            inl (
              passes_lets edge.label
                  (subst (λ p. Passes setting.tokens edge.label p) here lets),
              refl,
            ),
          ),
        )
        (subst (λ (x : Course). Split x.frames end) is
        (split_forth rest (ap (λ (x : Course). x.at) is ∙ here)))
    split_forth {stack = f ∷ fs} {end = end}
        (goes w (state, found, inl (edge, inside, inr (inr (inr (c, opens, applied, is))))) rest)
        here = absurd applied
    split_forth {stack = f ∷ fs} {end = end}
        (goes w (state, found, inl (edge, inside, inr (inr (inl (h, calls, enters, is))))) rest) here =
        let next : Frame = record { graph = f.graph; state = edge.target } in
        let start : Frame = record { graph = h; state = 0 } in
        further (f ∷ fs) (start ∷ next ∷ fs) end
        (state, found, inl (edge, inside, inr (h, calls, refl)))
        (subst (λ (x : Course). Split x.frames end) is
        (split_forth rest (ap (λ (x : Course). x.at) is ∙ here)))

    -- where a stack passes on to one that leads to the end, so does it
    step_back : (stack next : Stack) (end : ℕ) → PassesOn setting.net is_spaced stack next →
        LeadsTo setting next at end → LeadsTo setting stack at end
    step_back [] next end step leads = absurd step
    step_back (f ∷ fs) next end (state, found, inr (final, is)) leads =
        goes (record { frames = fs; at = at; before = [] }) (state, found, inr (final, refl))
        (subst (λ (s : Stack). LeadsTo setting s at end) is leads)
    step_back (f ∷ fs) next end (state, found, inl (edge, inside, inl (lets, is))) leads =
        let behind : Frame = record { graph = f.graph; state = edge.target } in
        goes (record {
          frames = behind ∷ fs;
          at = at;
          before = passing edge.label ++ put_before edge;
        })
        (state, found, inl (edge, inside, inr (inl (lets_passes edge.label lets, refl))))
        (subst (λ (s : Stack). LeadsTo setting s at end) is leads)
    step_back (f ∷ fs) next end (state, found, inl (edge, inside, inr (h, calls, is))) leads =
        let behind : Frame = record { graph = f.graph; state = edge.target } in
        let start : Frame = record { graph = h; state = 0 } in
        goes (record { frames = start ∷ behind ∷ fs; at = at; before = put_before edge })
        (state, found, inl (edge, inside, inr (inr (inl (h, calls, tt, refl)))))
        (subst (λ (s : Stack). LeadsTo setting s at end) is leads)

    reach_back : {stack last : Stack} {end : ℕ} → Reaches setting.net is_spaced stack last →
        LeadsTo setting last at end → LeadsTo setting stack at end
    reach_back stays leads = leads
    reach_back {stack = stack} {end = end} (passes next step more) leads =
        step_back stack next end step (reach_back more leads)

    take_back : (stack : Stack) (end : ℕ) → TakesOn setting stack at end →
        LeadsTo setting stack at end
    take_back [] end takes = absurd takes
    take_back (f ∷ fs) end (state, found, edge, inside, k, takes, leads) =
        goes (record {
          frames = record { graph = f.graph; state = edge.target } ∷ fs;
          at = k;
          before = event.Take at k ∷ put_before edge;
        }) (state, found, inl (edge, inside, inl (k, takes, refl))) leads

    module _ (given : Stack → Type 0) where
      -- walks from the given stacks, by those that they reach
      pub leads_parted : Parts setting given (ReachedFrom setting.net is_spaced given)
          (ReachedFrom setting.net is_spaced given []) at
      leads_parted end = (
        λ from. elim (split_forth from.2 refl) [
          | inl e ↦ inl ((from.0, from.1, e.0), e.1)
          | inr t ↦ inr (t.0, (from.0, from.1, t.1), t.2)
        ],
        λ parts. elim parts [
          | inl e ↦ (
            e.0.0,
            e.0.1,
            reach_back e.0.2 (subst (λ p. LeadsTo setting [] at p) (sym e.1) ended),
          )
          | inr t ↦ (t.1.0, t.1.1, reach_back t.1.2 (take_back t.0 end t.2))
        ],
      )

      -- and by their closure
      pub closure_parts : (links : List (Link Frame)) (closure : Closure) →
          IsClosure setting.net is_spaced given links closure →
          Parts setting given (Holds links closure.stands.items) (IsTrue closure.ends) at
      closure_parts links closure is end = (
        λ from. elim ((leads_parted end).0 from) [
          | inl e ↦ inl ((is.exactly []).1 e.0, e.1)
          | inr t ↦ inr (t.0, holds t.0 t.1 t.2, t.2)
        ],
        λ parts. (leads_parted end).1 (elim parts [
          | inl e ↦ inl ((is.exactly []).0 e.0, e.1)
          | inr t ↦ inr (t.0, reached t.0 t.1 t.2, t.2)
        ]),
      )
        where
          holds : (stack : Stack) → ReachedFrom setting.net is_spaced given stack →
              TakesOn setting stack at end → Holds links closure.stands.items stack
          holds [] from takes = absurd takes
          holds (f ∷ fs) from takes = (is.exactly (f ∷ fs)).1 from

          reached : (stack : Stack) → Holds links closure.stands.items stack →
              TakesOn setting stack at end → ReachedFrom setting.net is_spaced given stack
          reached [] held takes = absurd takes
          reached (f ∷ fs) held takes = (is.exactly (f ∷ fs)).0 held
