-- A configuration leads over the edges of its state, and to an end where that is final.
use Rattle.std.proofs.Common.{◌≡◌, List, inl, inr, refl, sym, subst, ◌∙◌}
use Rattle.std.specs.Prelude.{Some, None, slice_get, Contains, IsTrue}
use Rattle.std.proofs.lemmas.Option.{same_Some, none-some}
use Rattle.ux_net.specs.declared.state.State.{State}
use Rattle.ux_net.specs.Nets.{states_of}
use Rattle.ux_folds.specs.Folding.{Next}
use Rattle.ux_walk.specs.Contexts.{Applying}
use Rattle.ux_walk.specs.Settings.{Setting}
use Rattle.ux_listing.specs.declared.config.Config.{Config}
use Rattle.ux_listing.specs.declared.config.Mark.{Mark}
use Rattle.ux_listing.specs.declared.config.Item.{Item}
use Rattle.ux_listing.specs.declared.config.Item.TheVariants.{At, Ends}
use Rattle.ux_listing.specs.Moves.{Moves, CrossesSome}
use Rattle.ux_listing.specs.Sets.{Adds, IsAdded}
use Rattle.ux_listing.specs.Walking.{Follows, IsDone, IsNext, ending}
use Rattle.ux_listing.proofs.FollowsLemmas.{given_as, made_as}
use Rattle.ux_listing.proofs.SetsLemmas.{adds_as, adds_both, adds_item, still}

module _ (next : Next) (setting : Setting) (applies : Applying) (Marked : Mark → Type 0) (c : Config)
  where
    abbrev Leads : Item → Type 0
    Leads = IsNext next setting applies c

    abbrev Done : List Item → Type 0
    Done items = IsDone next setting applies Marked (Contains items) (At c)

    -- there is no such state
    pub nowhere : None ≡ slice_get (states_of setting.net c.visit.graph) c.state → (items : List Item) →
        Done items
    nowhere none items = (
      λ move events m. absurd (none-some m.0 (none ∙ m.1)),
      λ final. absurd (none-some final.state (none ∙ final.found)),
    )

    module _ (state : State)
        (found : slice_get (states_of setting.net c.visit.graph) c.state ≡ Some state)
        (old items : List Item)
        (follows : Follows next Marked c
        (CrossesSome setting applies c.visit.graph state.edges c.at) old items) where
      -- what lies behind an edge of the state follows the configuration
      pub edges_lead : Adds Leads old items
      edges_lead = adds_as (λ w g. inl (given_as next next (λ s e r h. h) c
          (CrossesSome setting applies c.visit.graph state.edges c.at)
          (Moves setting applies c.visit.graph c.state c.at)
          (λ move events t. (state, found, t)) w g)) follows.adds

      edges_done : (new : List Item) → ((w : Item) → Contains items w → Contains new w) →
          (IsTrue state.is_final → Contains new (Ends (ending c))) → Done new
      edges_done new more ends = (
        λ move events m. made_as next next (λ s e r h. h) Marked (Contains items) (Contains new) more
            c move events (follows.made move events
            (subst (λ (s : State). CrossesSome setting applies c.visit.graph s.edges c.at move events)
            (same_Some m.0 state (sym m.1 ∙ found)) m.2)),
        λ final. ends (subst (λ (s : State). IsTrue s.is_final)
            (same_Some final.state state (sym final.found ∙ found)) final.final),
      )

      -- where the state isn't final, that is all
      pub inner_done : (IsTrue state.is_final → ⊥) → Done items
      inner_done never = edges_done items (λ w h. h) (λ final. absurd (never final))

      -- where it is, an end follows too
      pub ends_lead : IsTrue state.is_final → (new : List Item) →
          IsAdded items new (Ends (ending c)) → Adds Leads old new
      ends_lead final new added = adds_both edges_lead (adds_item added (inr (
        record {
          state = state;
          found = found;
          final = final;
        },
        refl,
      )))

      pub ends_done : (new : List Item) → IsAdded items new (Ends (ending c)) → Done new
      ends_done new added = edges_done new (still _ _ added.adds.kept) (λ final. added.has)
