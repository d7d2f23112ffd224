-- What an option is set to. Public, through `Requests` and `Writing`.
use Rattle.std.specs.Prelude.{ℕ, List, [], Option, Some, None, if◌then◌else◌}
use Rattle.ux_command_line.specs.declared.command.OptionName.{OptionName}
use Rattle.ux_command_line.specs.Tables.{has_value, is_flag}

-- an option and its value, which is empty for a flag
pub record Setting : Type 0 where
  pub option : OptionName
  pub value : List ℕ

abbrev pub set : OptionName → List ℕ → Setting
set option value = record { option = option; value = value }

-- the option with this value, if it is one of its own
abbrev pub setting_of : OptionName → List ℕ → Option Setting
setting_of option value = if has_value option value then Some (set option value) else None

-- a flag, which takes no value
abbrev pub flag_of : OptionName → Option Setting
flag_of option = if is_flag option then Some (set option []) else None
