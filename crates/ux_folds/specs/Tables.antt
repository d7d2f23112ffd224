-- What the numbers of a rendering stand for. Inner, but for `IsState`, of which public contracts speak.
use Rattle.std.specs.Prelude.{◌≡◌, ℕ, ◌-◌, ◌++◌, ◌<◌, ◌≤◌, List, Option, Some, None, IfSome, option_map, length, slice_get}
use Rattle.std.specs.Str.{IsUtf8}
use Rattle.ux_base.specs.Distinct.{StandOnce}
use Rattle.ux_tokens.specs.Tokens.{Token}
use Rattle.ux_outputs.specs.declared.span.Span.{Span}
use Rattle.ux_outputs.specs.Variables.{NO_VARIABLES, Variable, Variables, collecting}
use Rattle.ux_outputs.specs.Rendering.{State}
use Rattle.ux_folds.specs.declared.kept.Kept.{Kept}
use Rattle.ux_folds.specs.declared.kept.Known.{Known}
use Rattle.ux_folds.specs.declared.lists.Link.{Link}
use Rattle.ux_folds.specs.declared.tables.Tables.{Tables}
use Rattle.ux_folds.specs.Lists.{AreOnce, AreSound, Keeps, Spells}

-- the name is one of those that count
abbrev pub Counts : List (List ℕ) → List ℕ → Type 0
Counts names name = (i : ℕ) × (slice_get names i ≡ Some name)

-- the number is that of the text, and there is none where there is no text
abbrev pub IsText : List (Link ℕ) → Option ℕ → Option (List ℕ) → Type 0
IsText texts None text = text ≡ None
IsText texts (Some number) text =
    (bytes : List ℕ) × (text ≡ Some bytes) × Spells texts number bytes × IsUtf8 bytes

-- this is known of the variable
pub record IsVariable (texts : List (Link ℕ)) (known : Known) (variable : Variable) : Type 0 where
  pub noted : variable.noted ≡ known.noted
  pub collected : IsText texts known.collected variable.collected
  pub value : IsText texts known.value variable.value

-- of each name that counts it is known at the name's place
pub record AreVariables (texts : List (Link ℕ)) (names : List (List ℕ)) (knowns : List Known)
    (variables : Variables) : Type 0 where
  pub count : length knowns ≡ length names
  pub each : (i : ℕ) (name : List ℕ) (known : Known) → slice_get names i ≡ Some name →
      slice_get knowns i ≡ Some known → IsVariable texts known (variables name)

abbrev pub texts_of : Tables → List (Link ℕ)
texts_of tables = tables.texts.links.keys

abbrev pub variables_of : Tables → List (Link Known)
variables_of tables = tables.variables.links.keys

abbrev pub states_of : Tables → List Kept
states_of tables = tables.states.keys

-- the first token and the last one, which stands before the position
abbrev pub span_to : ℕ → Option ℕ → Option Span
span_to position first = option_map (λ f. record { first = f; last = position - 1 }) first

-- what is kept stands for what is rendered so far, as far as names count
pub record Stands (tokens : List Token) (names : List (List ℕ)) (tables : Tables) (kept : Kept)
    (state : State) : Type 0 where
  pub position : state.position ≡ kept.position
  pub within : kept.position ≤ length tokens
  pub text : Spells (texts_of tables) kept.text state.text
  pub utf8 : IsUtf8 state.text
  pub span : state.span ≡ span_to kept.position kept.first
  pub first : IfSome kept.first (λ first. first < kept.position)
  pub knowns : List Known
  pub listed : Spells (variables_of tables) kept.variables knowns
  pub variables : AreVariables (texts_of tables) names knowns state.variables

-- no list, no state and no name has two numbers
pub record AreTables (names : List (List ℕ)) (tables : Tables) : Type 0 where
  pub names_once : StandOnce names
  pub texts : AreSound (texts_of tables)
  pub variables : AreSound (variables_of tables)
  pub states : AreOnce (states_of tables)

-- each number keeps what it stands for
pub record IsGrown (names : List (List ℕ)) (old new : Tables) : Type 0 where
  pub tables : AreTables names new
  pub texts : Keeps (texts_of old) (texts_of new)
  pub variables : Keeps (variables_of old) (variables_of new)
  pub states : Keeps (states_of old) (states_of new)

-- the number stands for what is rendered so far
pub record IsState (tokens : List Token) (names : List (List ℕ)) (tables : Tables) (number : ℕ)
    (state : State) : Type 0 where
  pub sound : AreTables names tables
  pub kept : Kept
  pub at : slice_get (states_of tables) number ≡ Some kept
  pub stands : Stands tokens names tables kept state

-- where the old number is that of a text, the new one is that of the text with this behind it
abbrev pub IsPushed : (old new : Tables) → (front : ℕ) → List ℕ → (number : ℕ) → Type 0
IsPushed old new front more number = (names : List (List ℕ)) (text : List ℕ) →
    AreTables names old → Spells (texts_of old) front text →
    IsGrown names old new × Spells (texts_of new) number (text ++ more)

-- where what is kept stands for a state, what is kept next stands for the state after a step
abbrev pub Turns : List Token → List (List ℕ) → (old new : Tables) → Kept → (State → State) →
    Kept → Type 0
Turns tokens names old new kept after next = (state : State) → AreTables names old →
    Stands tokens names old kept state →
    IsGrown names old new × Stands tokens names new next (after state)

-- this is known of the variable of a name
abbrev pub IsKnown : List Token → List (List ℕ) → Tables → Kept → (place : ℕ) → Known → Type 0
IsKnown tokens names tables kept place known = (name : List ℕ) (state : State) →
    AreTables names tables → Stands tokens names tables kept state →
    slice_get names place ≡ Some name → IsVariable (texts_of tables) known (state.variables name)

-- where this is known of a variable, the other is known of it once a text is put out
abbrev pub IsCollected : (old new : Tables) → Known → List ℕ → Known → Type 0
IsCollected old new known put after = (names : List (List ℕ)) (variable : Variable) →
    AreTables names old → IsUtf8 put → IsVariable (texts_of old) known variable →
    IsGrown names old new × IsVariable (texts_of new) after (collecting put variable)

-- where the number is that of what is known of variables, the other is so once a text is put out
abbrev pub IsCollecting : (old new : Tables) → ℕ → List ℕ → ℕ → Type 0
IsCollecting old new number put after = (names : List (List ℕ)) (knowns : List Known)
    (variables : Variables) → AreTables names old → IsUtf8 put →
    Spells (variables_of old) number knowns → AreVariables (texts_of old) names knowns variables →
    IsGrown names old new × (later : List Known) × Spells (variables_of new) after later
    × AreVariables (texts_of new) names later (λ name. collecting put (variables name))

-- the number is that of the list in which nothing is known of any variable
pub record IsNothing (names : List (List ℕ)) (tables : Tables) (number : ℕ) : Type 0 where
  pub knowns : List Known
  pub listed : Spells (variables_of tables) number knowns
  pub variables : AreVariables (texts_of tables) names knowns NO_VARIABLES
