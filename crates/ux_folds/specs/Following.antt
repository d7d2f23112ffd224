-- What becomes of a rendering's states by events. Public: its law speaks of it.
use Rattle.std.specs.Prelude.{◌≡◌, ℕ, ◌<◌, ◌≤◌, ◌⊎◌, List, [], ◌∷◌, Option, Some, None, length}
use Rattle.ux_base.specs.declared.settings.Mode.{Mode}
use Rattle.ux_base.specs.declared.settings.Mode.TheVariants.{Ignore}
use Rattle.ux_base.specs.declared.settings.NoVar.{NoVar}
use Rattle.ux_tokens.specs.Tokens.{Token}
use Rattle.ux_outputs.specs.declared.event.Event.{Event}
use Rattle.ux_outputs.specs.declared.event.Event.TheVariants.{Take, Value}
use Rattle.ux_outputs.specs.declared.hit.Hit.{Hit}
use Rattle.ux_outputs.specs.Variables.{Asked, asked_by}
use Rattle.ux_outputs.specs.Rendering.{State, after_asked, after_event, hit_of}
use Rattle.ux_folds.specs.declared.kept.Kept.{Kept}
use Rattle.ux_folds.specs.declared.tables.Tables.{Tables}
use Rattle.ux_folds.specs.declared.rendering.RenderingFold.{RenderingFold}
use Rattle.ux_folds.specs.Names.{asked_name}
use Rattle.ux_folds.specs.Tables.{AreTables, Counts, IsGrown, IsState, IsText, Stands, texts_of}

-- what an output asks counts, unless outputs are ignored
abbrev pub MayAsk : Mode → List (List ℕ) → List ℕ → Type 0
MayAsk Ignore names text = Unit {0}
MayAsk mode names text = Counts names (asked_name (asked_by text))

-- the event fits: it takes tokens of the text from the position on, or asks what counts
abbrev pub Fits : List Token → Mode → List (List ℕ) → ℕ → Event → Type 0
Fits tokens mode names position (Take from to) =
    (from ≡ position) × (from < to) × (to ≤ length tokens)
Fits tokens mode names position (Value text) = MayAsk mode names text
Fits tokens mode names position other = Unit {0}

-- the events ask only what counts
abbrev pub AreAsked : Mode → List (List ℕ) → List Event → Type 0
AreAsked mode names [] = Unit {0}
AreAsked mode names (Value text ∷ later) = MayAsk mode names text × AreAsked mode names later
AreAsked mode names (other ∷ later) = AreAsked mode names later

-- what is kept stands for the state, where there is one
abbrev pub AreBoth : List Token → List (List ℕ) → Tables → Option State → Option Kept → Type 0
AreBoth tokens names tables None kept = kept ≡ None
AreBoth tokens names tables (Some state) kept =
    (k : Kept) × (kept ≡ Some k) × Stands tokens names tables k state

-- the number stands for the state, where there is one
abbrev pub AreNumbered : List Token → List (List ℕ) → Tables → Option State → Option ℕ → Type 0
AreNumbered tokens names tables None number = number ≡ None
AreNumbered tokens names tables (Some state) number =
    (u : ℕ) × (number ≡ Some u) × IsState tokens names tables u state

-- where what is kept stands for a state, the question is answered by this value of its variable
abbrev pub IsAnsweredBy : NoVar → (old new : Tables) → Kept → Asked → Option ℕ → Option Kept → Type 0
IsAnsweredBy novar old new kept asked value next =
    (tokens : List Token) (names : List (List ℕ)) (state : State) → AreTables names old →
    Stands tokens names old kept state →
    IsText (texts_of old) value (state.variables (asked_name asked)).value →
    IsGrown names old new × AreBoth tokens names new (after_asked novar state asked) next

-- where what is kept stands for a state, the output is answered, if its name counts
abbrev pub IsAnswered : List Token → NoVar → List (List ℕ) → (old new : Tables) → Kept → List ℕ →
    Option Kept → Type 0
IsAnswered tokens novar names old new kept asked next = (state : State) → AreTables names old →
    Stands tokens names old kept state → IsGrown names old new
    × ((Counts names (asked_name (asked_by asked))
    × AreBoth tokens names new (after_asked novar state (asked_by asked)) next)
    ⊎ ((Counts names (asked_name (asked_by asked)) → ⊥) × (next ≡ None)))

module _ (tokens : List Token) (mode : Mode) (novar : NoVar) (names : List (List ℕ)) where
  -- an event that fits is followed, and any other drops the derivation
  abbrev pub Follows : {A : Type 0} → (Option State → Option A → Type 0) → State → Event → Option A → Type 0
  Follows {A} Are state event after =
      (Fits tokens mode names state.position event
      × Are (after_event mode novar tokens state event) after)
      ⊎ ((Fits tokens mode names state.position event → ⊥) × (after ≡ None))

  -- the number's state becomes that of the other number, or is dropped, by the event
  pub record IsNext (tables : Tables) (number : ℕ) (event : Event) (after : Option ℕ) : Type 0 where
    pub state : State
    pub is_state : IsState tokens names tables number state
    pub follows : Follows (AreNumbered tokens names tables) state event after

  -- the number stands for what renders the hit, where there is one
  abbrev pub Renders : Tables → Option ℕ → Option Hit → Type 0
  Renders tables None hit = hit ≡ None
  Renders tables (Some number) hit =
      (state : State) × IsState tokens names tables number state × (hit ≡ hit_of state)

  -- where what is kept stands for a state, the event is followed
  abbrev pub IsFollowed : (old new : Tables) → Kept → Event → Option Kept → Type 0
  IsFollowed old new kept event next = (state : State) → AreTables names old →
      Stands tokens names old kept state →
      IsGrown names old new × Follows (AreBoth tokens names new) state event next

-- what is rendered, of which tokens, and how
pub record Rendered : Type 0 where
  pub tokens : List Token
  pub mode : Mode
  pub novar : NoVar
  pub names : List (List ℕ)
  pub state : State

-- what a fold renders so far
abbrev pub rendered_by : RenderingFold → State → Rendered
rendered_by fold state = record {
  tokens = fold.text.now;
  mode = fold.mode;
  novar = fold.novar;
  names = fold.names.now;
  state = state;
}

-- a state of the fold stands for what is rendered
pub record Means (fold : RenderingFold) (number : ℕ) (rendered : Rendered) : Type 0 where
  pub is : rendered ≡ rendered_by fold rendered.state
  pub is_state : IsState fold.text.now fold.names.now fold.tables number rendered.state

-- what becomes of a state of the fold
abbrev pub NextBy : RenderingFold → ℕ → Event → Option ℕ → Type 0
NextBy fold = IsNext fold.text.now fold.mode fold.novar fold.names.now fold.tables

-- no list, no state and no name of the fold has two numbers
abbrev pub IsReady : RenderingFold → Type 0
IsReady fold = AreTables fold.names.now fold.tables
