-- A flag takes no value, and what is no flag takes one.
use Rattle.std.proofs.Common.{◌≡◌, refl, ℕ, Bool, true, false, List, [], Some, None}
use Rattle.ux_command_line.specs.declared.command.OptionName.{OptionName}
use Rattle.ux_command_line.specs.declared.command.Takes.{Takes}
use Rattle.ux_command_line.specs.declared.command.Takes.TheVariants as takes
use Rattle.ux_command_line.specs.Settings.{set, setting_of, flag_of}
use Rattle.ux_command_line.specs.Tables.{accepts, is_nothing, is_flag, has_value, takes_of}
use Rattle.ux_command_line.proofs.BoolLemmas.{differ}

none_accepted : (kind : Takes) (value : List ℕ) → is_nothing kind ≡ true →
    accepts kind value ≡ false
none_accepted takes.Nothing value e = refl
none_accepted takes.Mode value e = let wrong : false ≡ true = e in cc
none_accepted takes.Policy value e = let wrong : false ≡ true = e in cc
none_accepted takes.Width value e = let wrong : false ≡ true = e in cc
none_accepted takes.Sort value e = let wrong : false ≡ true = e in cc
none_accepted takes.Depth value e = let wrong : false ≡ true = e in cc

pub flag_made : (option : OptionName) → is_flag option ≡ true →
    flag_of option ≡ Some (set option [])
flag_made option e = rw e refl

pub no_flag : (option : OptionName) → is_flag option ≡ false → flag_of option ≡ None
no_flag option e = rw e refl

pub value_made : (option : OptionName) (value : List ℕ) → has_value option value ≡ true →
    setting_of option value ≡ Some (set option value)
value_made option value e = rw e refl

pub no_value_made : (option : OptionName) (value : List ℕ) → has_value option value ≡ false →
    setting_of option value ≡ None
no_value_made option value e = rw e refl

pub flag_value : (option : OptionName) → is_flag option ≡ true → (value : List ℕ) →
    setting_of option value ≡ None
flag_value option e value = no_value_made option value (none_accepted (takes_of option) value e)

-- an option with a value of its own is no flag
pub value_no_flag : (option : OptionName) (value : List ℕ) → has_value option value ≡ true →
    is_flag option ≡ false
value_no_flag option value has = by_case (is_flag option) refl
  where
    by_case : (b : Bool) → is_flag option ≡ b → is_flag option ≡ false
    by_case false e = e
    by_case true e = absurd (differ _ has (none_accepted (takes_of option) value e))
