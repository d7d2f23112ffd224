-- What comes from a start, by the ends of the derivations from it.
use Rattle.std.proofs.Common.{arith, ◌≡◌, ℕ, ◌<◌, ◌≤◌, List, [], inl, inr}
use Rattle.std.specs.Prelude.{Contains, Some, length}
use Rattle.std.proofs.lemmas.Bool.Decides.{leb_tells}
use Rattle.ux_base.specs.declared.settings.Mode.{Mode}
use Rattle.ux_base.specs.declared.settings.NoVar.{NoVar}
use Rattle.ux_lexical_tables.specs.Belonging.{Belongs}
use Rattle.ux_lexical_tables.proofs.OneTokenLaws.{accepts_forward}
use Rattle.ux_net.specs.Nets.{net_grammar}
use Rattle.ux_outputs.specs.declared.event.Event.{Event}
use Rattle.ux_outputs.specs.declared.hit.Hit.{Hit}
use Rattle.ux_outputs.specs.Following.{Follows}
use Rattle.ux_outputs.specs.Rendering.{render}
use Rattle.ux_walk.proofs.FollowingLemmas.{derivation_follows}
use Rattle.ux_walk.specs.Ends.{AreEnds}
use Rattle.ux_walk.specs.Settings.{Derives, Setting}
use Rattle.ux_locate.specs.Hits.{IsStart}
use Rattle.ux_locate.proofs.FreshLemmas.{renders_nothing}
use Rattle.ux_locate.proofs.StartLemmas.{start_within}

pub nothing_in : (n : ℕ) → let none : List ℕ = [] in Contains none n → ⊥
nothing_in n c = absurd (omega (arith, c.1))

module _ (setting : Setting) (belongs : Belongs setting.alphabet setting.tokens setting.tables)
    (start end : ℕ) (events : List Event) (starts : IsStart setting.tokens start)
    (derives : Derives setting start end events) where
  -- the events of a derivation from a start follow each other in the text
  pub followed : Follows start end events × (end ≤ length setting.tokens)
  followed =
      let low = start_within setting.tokens start starts in
      derivation_follows setting.alphabet setting.tokens setting.tables
      (accepts_forward setting.alphabet setting.tokens setting.tables belongs)
      (net_grammar setting.net) 1 start end events derives (omega (arith, low))

  module _ (mode : Mode) (novar : NoVar) (hit : Hit)
      (rendered : render setting.tokens mode novar start events ≡ Some hit) where
    -- one that renders a hit ends after its start
    pub ends_after : start < end
    ends_after = elim (leb_tells end start) [
      | inl low ↦ absurd (renders_nothing setting.tokens novar mode start end events hit followed.0
          low.1 rendered)
      | inr later ↦ later.1
    ]

    -- so there is none where no derivation does
    pub no_ends_no_hit : AreEnds setting start [] → ⊥
    no_ends_no_hit are = nothing_in end ((are.exactly end).1 (ends_after, events, derives))
