-- What a word is that stands before `--`. Inner: the crate's own functions alone speak of it.
use Rattle.ux_command_line.specs.declared.command.OptionName.{OptionName}
use Rattle.ux_command_line.specs.Settings.{Setting as OptionSetting}

-- `--`, after which all words are names of files; such a name; a flag, or an option with its
-- value; an option whose value is the next word; or none of these
pub data Word : Type 0 where
  OptionsEnd : Word
  FileName : Word
  Setting : OptionSetting → Word
  AwaitsValue : OptionName → Word
  Unknown : Word
