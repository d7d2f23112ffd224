-- Events that follow each other, one by one.
use Rattle.std.specs.Prelude.{◌≡◌, ℕ, ◌≤◌, Bool, true, false, List, [], ◌∷◌, Option, Some, None, refl, length}
use Rattle.std.proofs.Common.{◌∙◌, ap, sym, arith}
use Rattle.std.proofs.lemmas.Option.{none-some, same_Some}
use Rattle.ux_base.specs.declared.settings.Mode.{Mode}
use Rattle.ux_base.specs.declared.settings.Mode.TheVariants.{Ignore, Merge, Replace}
use Rattle.ux_base.specs.declared.settings.NoVar.{NoVar}
use Rattle.ux_base.specs.declared.settings.NoVar.TheVariants.{Nothing, Drop}
use Rattle.ux_tokens.specs.Tokens.{Token}
use Rattle.ux_outputs.specs.declared.event.Event.{Event}
use Rattle.ux_outputs.specs.declared.event.Event.TheVariants.{Take, Put, Value, Begin, End, Cut}
use Rattle.ux_outputs.specs.Following.{Follows, FollowWithin}
use Rattle.ux_outputs.specs.Variables.{Asked, Named, asked_by, input, is_set, is_unset, named_by, output, value_of}
use Rattle.ux_outputs.specs.Rendering.{State, after_asked, after_begin, after_end, after_event, after_test, after_value}

-- events never go back
pub Follows-forward : (start end : ℕ) (events : List Event) → Follows start end events → start ≤ end
Follows-forward start end [] follows = omega (arith, follows)
Follows-forward start end (Take from to ∷ later) follows =
    omega (arith, follows.1, Follows-forward to end later follows.2)
Follows-forward start end (Put text ∷ later) follows = Follows-forward start end later follows
Follows-forward start end (Value text ∷ later) follows = Follows-forward start end later follows
Follows-forward start end (Begin text ∷ later) follows = Follows-forward start end later follows
Follows-forward start end (End text ∷ later) follows = Follows-forward start end later follows
Follows-forward start end (Cut ∷ later) follows = Follows-forward start end later follows

-- the start of events that follow lies in the text
pub FollowWithin-start : (tokens : List Token) (start : ℕ) (events : List Event) →
    FollowWithin tokens start events → start ≤ length tokens
FollowWithin-start tokens start events follow =
    let forward = Follows-forward start follow.end events follow.follows in
    omega (arith, follow.within)

-- the position after an event
abbrev pub position_after : ℕ → Event → ℕ
position_after p (Take from to) = to
position_after p _ = p

module _ (tokens : List Token) where
  -- the first event alone follows
  pub FollowWithin-first : (p : ℕ) (event : Event) (later : List Event) →
      FollowWithin tokens p (event ∷ later) → FollowWithin tokens p (event ∷ [])
  FollowWithin-first p (Take from to) later follow = record {
    end = to;
    follows = (follow.follows.0, follow.follows.1, refl);
    within =
        let forward = Follows-forward to follow.end later follow.follows.2 in
        omega (arith, follow.within);
  }
  FollowWithin-first p (Put text) later follow = still p later follow.end follow.follows follow.within
    where
      still : (p : ℕ) (later : List Event) (end : ℕ) → Follows p end later → end ≤ length tokens →
          FollowWithin tokens p (Put text ∷ [])
      still p later end follows within = record {
        end = p;
        follows = refl;
        within = let forward = Follows-forward p end later follows in omega (arith, within);
      }
  FollowWithin-first p (Value text) later follow = record {
    end = p;
    follows = refl;
    within = FollowWithin-start tokens p (Value text ∷ later) follow;
  }
  FollowWithin-first p (Begin text) later follow = record {
    end = p;
    follows = refl;
    within = FollowWithin-start tokens p (Begin text ∷ later) follow;
  }
  FollowWithin-first p (End text) later follow = record {
    end = p;
    follows = refl;
    within = FollowWithin-start tokens p (End text ∷ later) follow;
  }
  FollowWithin-first p Cut later follow = record {
    end = p;
    follows = refl;
    within = FollowWithin-start tokens p (Cut ∷ later) follow;
  }

  -- and so do the later ones
  pub FollowWithin-later : (p : ℕ) (event : Event) (later : List Event) →
      FollowWithin tokens p (event ∷ later) → FollowWithin tokens (position_after p event) later
  FollowWithin-later p (Take from to) later follow =
      record { end = follow.end; follows = follow.follows.2; within = follow.within }
  FollowWithin-later p (Put text) later follow =
      record { end = follow.end; follows = follow.follows; within = follow.within }
  FollowWithin-later p (Value text) later follow =
      record { end = follow.end; follows = follow.follows; within = follow.within }
  FollowWithin-later p (Begin text) later follow =
      record { end = follow.end; follows = follow.follows; within = follow.within }
  FollowWithin-later p (End text) later follow =
      record { end = follow.end; follows = follow.follows; within = follow.within }
  FollowWithin-later p Cut later follow =
      record { end = follow.end; follows = follow.follows; within = follow.within }

-- an output stays at the position
stays-value : (novar : NoVar) (state next : State) (value : Option (List ℕ)) →
    after_value novar state value ≡ Some next → next.position ≡ state.position
stays-value novar state next (Some value) e =
    ap (λ (o : Option State). position_or o) (sym e)
  where
    position_or : Option State → ℕ
    position_or None = 0
    position_or (Some s) = s.position
stays-value Nothing state next None e = ap (λ (s : State). s.position) (same_Some next state (sym e))
stays-value Drop state next None e = absurd (none-some next e)

stays-test : (state next : State) (holds : Bool) → after_test state holds ≡ Some next →
    next.position ≡ state.position
stays-test state next true e = ap (λ (s : State). s.position) (same_Some next state (sym e))
stays-test state next false e = absurd (none-some next e)

stays-asked : (novar : NoVar) (state next : State) (asked : Asked) →
    after_asked novar state asked ≡ Some next → next.position ≡ state.position
stays-asked novar state next (value_of name) e =
    stays-value novar state next (state.variables name).value e
stays-asked novar state next (is_set name) e = stays-test state next _ e
stays-asked novar state next (is_unset name) e = stays-test state next _ e

pub stays-begin : (state : State) (named : Named) → (after_begin state named).position ≡ state.position
stays-begin state (input name) = refl
stays-begin state (output name) = refl

pub stays-end : (tokens : List Token) (state : State) (named : Named) →
    (after_end tokens state named).position ≡ state.position
stays-end tokens state (input name) = refl
stays-end tokens state (output name) = refl

module _ (novar : NoVar) (tokens : List Token) (state next : State) where
  moved : (after : State) → Some after ≡ Some next → next.position ≡ after.position
  moved after e = ap (λ (s : State). s.position) (same_Some next after (sym e))

  -- only tokens taken move the position
  pub after_event-position : (mode : Mode) (event : Event) →
      after_event mode novar tokens state event ≡ Some next →
      next.position ≡ position_after state.position event
  after_event-position mode (Take from to) e = moved _ e
  after_event-position Ignore (Put text) e = moved _ e
  after_event-position Merge (Put text) e = moved _ e
  after_event-position Replace (Put text) e = moved _ e
  after_event-position Ignore (Value text) e = moved _ e
  after_event-position Merge (Value text) e = stays-asked novar state next (asked_by text) e
  after_event-position Replace (Value text) e = stays-asked novar state next (asked_by text) e
  after_event-position mode (Begin text) e = moved _ e ∙ stays-begin state (named_by text)
  after_event-position mode (End text) e = moved _ e ∙ stays-end tokens state (named_by text)
  after_event-position mode Cut e = moved _ e
