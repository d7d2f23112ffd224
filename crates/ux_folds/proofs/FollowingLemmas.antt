-- What is kept after an event, by what is kept after its step.
use Rattle.std.proofs.Common.{◌≡◌, ℕ, ◌<◌, ◌≤◌, List, ◌⊎◌, inl, inr, refl, sym, subst, ◌∙◌, length}
use Rattle.std.specs.Prelude.{Option, Some, None, slice_get}
use Rattle.std.proofs.lemmas.Option.{none-some, same_Some}
use Rattle.ux_base.specs.declared.settings.Mode.{Mode}
use Rattle.ux_base.specs.declared.settings.Mode.TheVariants.{Merge, Replace}
use Rattle.ux_base.specs.declared.settings.NoVar.{NoVar}
use Rattle.ux_tokens.specs.Tokens.{Token}
use Rattle.ux_outputs.specs.declared.event.Event.{Event}
use Rattle.ux_outputs.specs.declared.event.Event.TheVariants.{Take, Put, Value}
use Rattle.ux_outputs.specs.Rendering.{State, after_event, after_put, after_take}
use Rattle.ux_folds.specs.declared.kept.Kept.{Kept}
use Rattle.ux_folds.specs.declared.tables.Tables.{Tables}
use Rattle.ux_folds.specs.Following.{AreBoth, AreNumbered, Fits, IsAnswered, IsFollowed, IsNext}
use Rattle.ux_folds.specs.Tables.{AreTables, IsGrown, IsState, Stands, Turns, states_of}
use Rattle.ux_folds.proofs.TablesLemmas.{grown_same, grown_then, stands_kept}

module _ (tokens : List Token) (mode : Mode) (novar : NoVar) (names : List (List ℕ)) where
  -- the event's step was made
  pub followed : (old new : Tables) (kept next : Kept) (event : Event) (after : State → State) →
      ((state : State) → after_event mode novar tokens state event ≡ Some (after state)) →
      ((state : State) → state.position ≡ kept.position →
      Fits tokens mode names state.position event) →
      Turns tokens names old new kept after next →
      IsFollowed tokens mode novar names old new kept event (Some next)
  followed old new kept next event after is fits turns state sound h =
      let t = turns state sound h in (
        t.0,
        inl (
          fits state h.position,
          subst (λ (o : Option State). AreBoth tokens names new o (Some next)) (sym (is state))
              (next, refl, t.1),
        ),
      )

  -- what is kept stays
  pub stays : (tables : Tables) (kept : Kept) →
      Turns tokens names tables tables kept (λ state. state) kept
  stays tables kept state sound h = (grown_same names tables sound, h)

  -- tokens that don't go on from the position, or aren't of the text
  pub unfit : (tables : Tables) (kept : Kept) (from to : ℕ) →
      ((from ≡ kept.position) × (from < to) × (to ≤ length tokens) → ⊥) →
      IsFollowed tokens mode novar names tables tables kept (Take from to) None
  unfit tables kept from to never state sound h = (
    grown_same names tables sound,
    inr (λ fits. never (fits.0 ∙ h.position, fits.1, fits.2), refl),
  )

  -- tokens that do
  pub takes : (old new : Tables) (kept next : Kept) (from to : ℕ) → from ≡ kept.position →
      from < to → to ≤ length tokens →
      Turns tokens names old new kept (λ state. after_take mode tokens state from to) next →
      IsFollowed tokens mode novar names old new kept (Take from to) (Some next)
  takes old new kept next from to here some within turns =
      followed old new kept next (Take from to) (λ state. after_take mode tokens state from to)
      (λ state. refl) (λ state same. (here ∙ sym same, some, within)) turns

module _ (tokens : List Token) (novar : NoVar) (names : List (List ℕ)) (old new : Tables)
    (kept : Kept) where
  -- a text is put out, where outputs aren't ignored
  pub puts_out : (mode : Mode) (next : Kept) (put : List ℕ) → (mode ≡ Merge) ⊎ (mode ≡ Replace) →
      Turns tokens names old new kept (λ state. after_put state put) next →
      IsFollowed tokens mode novar names old new kept (Put put) (Some next)
  puts_out mode next put (inl is) turns = subst
      (λ (m : Mode). IsFollowed tokens m novar names old new kept (Put put) (Some next)) (sym is)
      (followed tokens Merge novar names old new kept next (Put put)
      (λ state. after_put state put) (λ state. refl) (λ state same. tt) turns)
  puts_out mode next put (inr is) turns = subst
      (λ (m : Mode). IsFollowed tokens m novar names old new kept (Put put) (Some next)) (sym is)
      (followed tokens Replace novar names old new kept next (Put put)
      (λ state. after_put state put) (λ state. refl) (λ state same. tt) turns)

  -- an output is answered, where outputs aren't ignored
  pub answers : (mode : Mode) (next : Option Kept) (asked : List ℕ) →
      (mode ≡ Merge) ⊎ (mode ≡ Replace) → IsAnswered tokens novar names old new kept asked next →
      IsFollowed tokens mode novar names old new kept (Value asked) next
  answers mode next asked (inl is) answered = subst
      (λ (m : Mode). IsFollowed tokens m novar names old new kept (Value asked) next) (sym is)
      answered
  answers mode next asked (inr is) answered = subst
      (λ (m : Mode). IsFollowed tokens m novar names old new kept (Value asked) next) (sym is)
      answered

-- tables that grow keep states
pub state_kept : (tokens : List Token) (names : List (List ℕ)) (old new : Tables) →
    IsGrown names old new → (number : ℕ) (state : State) →
    IsState tokens names old number state → IsState tokens names new number state
state_kept tokens names old new grown number state h = record {
  sound = grown.tables;
  kept = h.kept;
  at = grown.states number h.kept h.at;
  stands = stands_kept names tokens old new grown.texts grown.variables h.kept state h.stands;
}

module _ (tokens : List Token) (mode : Mode) (novar : NoVar) (names : List (List ℕ))
    (old new : Tables) (grown : IsGrown names old new) where
  numbered_kept : (o : Option State) (r : Option ℕ) → AreNumbered tokens names old o r →
      AreNumbered tokens names new o r
  numbered_kept None r h = h
  numbered_kept (Some state) r h =
      (h.0, h.1, state_kept tokens names old new grown h.0 state h.2)

  -- and what becomes of them
  pub next_kept : (number : ℕ) (event : Event) (after : Option ℕ) →
      IsNext tokens mode novar names old number event after →
      IsNext tokens mode novar names new number event after
  next_kept number event after h = record {
    state = h.state;
    is_state = state_kept tokens names old new grown number h.state h.is_state;
    follows = elim h.follows [
      | inl goes ↦ inl (
        goes.0,
        numbered_kept (after_event mode novar tokens h.state event) after
            goes.1,
      )
      | inr not ↦ inr not
    ];
  }

-- what is kept next gets a number
pub numbered : (tokens : List Token) (mode : Mode) (novar : NoVar) (names : List (List ℕ))
    (old mid new : Tables) (number after : ℕ) (kept next : Kept) (event : Event) →
    slice_get (states_of old) number ≡ Some kept →
    IsFollowed tokens mode novar names old mid kept event (Some next) →
    ((names : List (List ℕ)) → AreTables names mid → IsGrown names mid new
    × (slice_get (states_of new) after ≡ Some next)) →
    (state : State) → IsState tokens names old number state →
    IsGrown names old new × IsNext tokens mode novar names new number event (Some after)
numbered tokens mode novar names old mid new number after kept next event at by placed state is =
    let same : is.kept ≡ kept = same_Some is.kept kept (sym is.at ∙ at) in
    let h = subst (λ (k : Kept). Stands tokens names old k state) same is.stands in
    let done = by state is.sound h in
    let p = placed names done.0.tables in
    let grown = grown_then names old mid new done.0 p.0 in (
      grown,
      record {
        state = state;
        is_state = state_kept tokens names old new grown number state is;
        follows = elim done.1 [
          | inl goes ↦ inl (goes.0, both p.0 p.1 (after_event mode novar tokens state event) goes.1)
          | inr not ↦ absurd (none-some next (sym not.1))
        ];
      },
    )
  where
    both : IsGrown names mid new → slice_get (states_of new) after ≡ Some next →
        (o : Option State) → AreBoth tokens names mid o (Some next) →
        AreNumbered tokens names new o (Some after)
    both grown there None h = absurd (none-some next (sym h))
    both grown there (Some s) h = (
      after,
      refl,
      record {
        sound = grown.tables;
        kept = next;
        at = there;
        stands = stands_kept names tokens mid new grown.texts grown.variables next s
            (subst (λ (k : Kept). Stands tokens names mid k s) (sym (same_Some next h.0 h.1)) h.2);
      },
    )

-- a derivation that is dropped
pub dropped : (tokens : List Token) (mode : Mode) (novar : NoVar) (names : List (List ℕ))
    (old new : Tables) (number : ℕ) (kept : Kept) (event : Event) →
    slice_get (states_of old) number ≡ Some kept →
    IsFollowed tokens mode novar names old new kept event None →
    (state : State) → IsState tokens names old number state →
    IsGrown names old new × IsNext tokens mode novar names new number event None
dropped tokens mode novar names old new number kept event at by state is =
    let same : is.kept ≡ kept = same_Some is.kept kept (sym is.at ∙ at) in
    let h = subst (λ (k : Kept). Stands tokens names old k state) same is.stands in
    let done = by state is.sound h in (
      done.0,
      record {
        state = state;
        is_state = state_kept tokens names old new done.0 number state is;
        follows = elim done.1 [
          | inl goes ↦ inl (goes.0, none (after_event mode novar tokens state event) goes.1)
          | inr not ↦ inr (not.0, refl)
        ];
      },
    )
  where
    none : (o : Option State) → AreBoth tokens names new o None →
        AreNumbered tokens names new o None
    none None h = refl
    none (Some s) h = absurd (none-some h.0 h.1)
