-- What the two kinds of `check` read, and what answers them. This file carries the commands' meaning.
use Rattle.std.specs.Prelude.{◌≡◌, ℕ, List}
use Rattle.ux_plan.specs.Commands.{Command}
use Rattle.ux_plan.specs.Laws.{IsSound}
use Rattle.ux_plan.specs.Plans.{Format, gives, reads}
use Rattle.ux_reasons.specs.declared.reason.Reason.{Reason}
use Rattle.ux_cmd_check.specs.Counting.{entries_format, stems_format}
use Rattle.ux_cmd_check.specs.Entries.{entries_line}
use Rattle.ux_cmd_check.specs.Laws.{entries_sound, stems_sound}

-- the line that tells how many there are in a file
abbrev pub check : (format : Format Reason ℕ) → IsSound format → (file : List ℕ) → Command Reason
check format sound file = record {
  Read = ℕ;
  plan = reads file format (λ count. gives count);
  laws = (sound, λ count. tt);
  Answers = λ count answer. answer ≡ entries_line count;
}

-- how many entries a dictionary of forms has
abbrev pub check_entries : (file : List ℕ) → Command Reason
check_entries file = check (entries_format file) (entries_sound file) file

-- how many stems a file of lemmas has
abbrev pub check_stems : (file : List ℕ) → Command Reason
check_stems file = check stems_format stems_sound file
