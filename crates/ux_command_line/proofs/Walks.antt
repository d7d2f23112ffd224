-- Where clap's walk over the words of a command stands, and the rows at its end.
use Rattle.std.proofs.Common.{◌≡◌, refl, Bool, true, false, List, [], ◌∷◌, Option, Some, None, option_and_then, if◌then◌else◌, codes}
use Rattle.clap.specs.Faults.{settle_fault, turn_fault}
use Rattle.clap.specs.Walk.{Row, Rule, Text, Held, Walk, Waiting, idle, positional, value, settled, settled_rows, walked_from, subcommand_met, plain_word, arg_by_id}
use Rattle.clap.specs.Simple.{Shape, new_shape}
use Rattle.ux_command_line.specs.declared.command.OptionName.{OptionName}
use Rattle.ux_command_line.proofs.Uses.{rules_with, Use, rule_used, values_used, is_none, is_taken, rows_with, rows_past}
use Rattle.ux_command_line.specs.Tables.{name_of}

-- the command as it is built
abbrev pub shape_with : List OptionName → Shape
shape_with options = record (new_shape (codes "unitex")) {
  rules = rules_with options;
  no_binary_name = true;
  disable_help_flag = true;
  disable_help_subcommand = true;
  is_built = true;
}

-- what clap holds between two words, and where it stands
abbrev pub held_at : List Row → Option (Text × List Text) → Held
held_at rows pending = record { rows = rows; pending = pending; skip = 0 }

abbrev pub walk_at : List Row → Option (Text × List Text) → Waiting → Bool → Walk
walk_at rows pending waiting is_trailing = record {
  held = held_at rows pending;
  waiting = waiting;
  position = 1;
  is_trailing = is_trailing;
  stopped = None;
}

-- an option waits for its value
abbrev pub awaiting_at : List Row → OptionName → Walk
awaiting_at rows option =
    walk_at rows (Some (name_of option, [])) (Waiting.option (name_of option)) false

-- a use that the walk has met, and keeps till the next word
abbrev pub pending_of : Option Use → Option (Text × List Text)
pending_of None = None
pending_of (Some last) = Some ((rule_used last).id, values_used last)

abbrev pub from_pending : Option Use → List Use → List Use
from_pending None uses = uses
from_pending (Some last) uses = last ∷ uses

abbrev pub fits : List Row → Option Use → Bool
fits rows None = true
fits rows (Some last) = is_taken rows last

abbrev pub rows_then : List Row → Option Use → List Row
rows_then rows None = rows
rows_then rows (Some last) = rows_with rows last

pub past_pending : (rows : List Row) (last : Option Use) (uses : List Use) →
    rows_past rows (from_pending last uses)
    ≡ (if fits rows last then rows_past (rows_then rows last) uses else None)
past_pending rows None uses = refl
past_pending rows (Some last) uses = refl

-- the rows after what is kept and these uses, if clap takes each of them
abbrev pub rows_by : List Row → Option Use → Option (List Use) → Option (List Row)
rows_by rows last = option_and_then (λ uses. rows_past rows (from_pending last uses))

-- there are no subcommands
pub no_subcommand : (waiting : Waiting) (text : Text) → subcommand_met [] waiting text ≡ None
no_subcommand idle text = refl
no_subcommand (Waiting.option id) text = refl
no_subcommand positional text = refl

-- no option waits for the next word
pub record IsFree (waiting : Waiting) : Type 0 where
  pub plain : (rules : List Rule) (text : Text) (held : Held) →
      plain_word rules waiting text held ≡ (held, value)

pub free_idle : IsFree idle
free_idle = record { plain = λ rules text held. refl }

pub free_positional : IsFree positional
free_positional = record { plain = λ rules text held. refl }

module _ (options : List OptionName) where
  -- the command knows the rule of the use
  abbrev pub Knows : Option Use → Type 0
  Knows None = Unit
  Knows (Some last) =
      arg_by_id (rules_with options) (rule_used last).id ≡ Some (rule_used last)

  -- clap takes the word, where the walk stands
  abbrev pub passes : Walk → Text → Bool
  passes walk text = is_none (turn_fault (shape_with options) [] walk text)

  -- the walk after it
  abbrev pub walk_past : Walk → Text → Walk
  walk_past walk text = walked_from (rules_with options) [] walk.stopped walk text

  -- the rows at the end of the walk, if clap takes the words
  abbrev pub rows_at_end : Walk → List Text → Option (List Row)
  rows_at_end walk [] = if is_none (settle_fault (rules_with options) false walk.held)
      then Some (settled (rules_with options) walk.held).rows else None
  rows_at_end walk (text ∷ words) =
      if passes walk text then rows_at_end (walk_past walk text) words else None

  pub settles : (rows : List Row) (last : Option Use) → Knows last →
      is_none (settle_fault (rules_with options) false (held_at rows (pending_of last)))
      ≡ fits rows last
  settles rows None knows = refl
  settles rows (Some last) knows = rw knows refl

  pub settled_is : (rows : List Row) (last : Option Use) → Knows last →
      settled_rows (rules_with options) (pending_of last) rows ≡ rows_then rows last
  settled_is rows None knows = refl
  settled_is rows (Some last) knows = rw knows refl
