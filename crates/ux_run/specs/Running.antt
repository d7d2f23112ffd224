-- What a run has to answer, and how it ends. This file carries the crate's public meaning: `asked_of`
-- is the table of requests.
use Rattle.std.specs.Prelude.{◌≡◌, ◌⊎◌, ⊤, ℕ, true, false, List, Option, Some, None, Result, Ok, Err, Vec}
use Rattle.std.specs.declared.alloc.Global.{Global}
use Rattle.ux_base.specs.Outside.{Files, Seen}
use Rattle.ux_base.specs.declared.settings.Sort.{Sort}
use Rattle.ux_plan.specs.declared.stop.Stop.{Stop}
use Rattle.ux_plan.specs.declared.stop.Stop.TheVariants as stop
use Rattle.ux_plan.specs.Commands as plan
use Rattle.ux_plan.specs.Commands.{Command}
use Rattle.ux_plan.specs.Plans.{Comes, Halts, gives}
use Rattle.ux_plan.specs.Stopping.{Stopped}
use Rattle.ux_reasons.specs.declared.reason.Reason.{Reason}
use Rattle.ux_command_line.specs.Requests.{request_of}
use Rattle.ux_command_line.specs.declared.help.TheConstants.{HELP, VERSION}
use Rattle.ux_command_line.specs.declared.request.Request.{Request}
use Rattle.ux_command_line.specs.declared.request.Request.TheVariants.{Locate, Concord, Tokenize, Check, Compress, Dico, Fst2, Inflect, Tfst, Elag, Bench, Cascade, Flatten, Tfind, Morpho, Help, Version}
use Rattle.ux_command_line.specs.declared.request.Search.{Search}
use Rattle.ux_cmd_locate.specs.Locate.{locate}
use Rattle.ux_cmd_concord.specs.Concord.{concord}
use Rattle.ux_cmd_cascade.specs.Cascade.{cascade}
use Rattle.ux_cmd_tokenize.specs.Tokenize.{tokenize}
use Rattle.ux_cmd_check.specs.Check.{check_entries, check_stems}
use Rattle.ux_cmd_compress.specs.Compress.{compress}
use Rattle.ux_cmd_dico.specs.Dico.{dico}
use Rattle.ux_cmd_fst2.specs.Fst2.{fst2}
use Rattle.ux_cmd_flatten.specs.Flatten.{flatten}
use Rattle.ux_cmd_tfind.specs.Tfind.{tfind}
use Rattle.ux_cmd_inflect.specs.Inflect.{inflect}
use Rattle.ux_cmd_morpho.specs.Morpho.{morpho}
use Rattle.ux_cmd_txt2tfst.specs.Tfst.{txt2tfst}
use Rattle.ux_cmd_elag.specs.Elag.{elag}
use Rattle.ux_cmd_bench.specs.Bench.{IsSummaryOf}
use Rattle.ux_status.specs.declared.status.Status.{Status}
use Rattle.ux_status.specs.declared.status.Status.TheVariants.{Done, Usage, Absent, Refused, ReadFault, WriteFault, TooLarge, NoMemory}

-- what is asked for: nothing that there is, or a command
pub data Asked : Type 1 where
  nothing : Asked
  asks : Command Reason → Asked

-- the command that reads nothing, and whose answer is so
abbrev pub unread_command : (List ℕ → Type 0) → Command Reason
unread_command IsSo = record {
  Read = ⊤;
  plan = gives tt;
  laws = tt;
  Answers = λ read answer. IsSo answer;
}

-- the command whose answer is this text
abbrev pub text_command : List ℕ → Command Reason
text_command text = unread_command (λ answer. answer ≡ text)

-- the index of a search
abbrev pub index_command : Search → Command Reason
index_command search =
    locate search.graph search.text search.alphabet search.dics search.mode search.policy
    search.novar search.chars

-- its concordance
abbrev pub concordance_command : Search → (left right : ℕ) → Sort → Command Reason
concordance_command search left right sort =
    concord search.graph search.text search.alphabet search.dics search.mode search.policy
    search.novar search.chars (record { left = left; right = right; sort = sort })

-- the command for which a request asks
abbrev pub asked_of : Request → Asked
asked_of (Locate search) = asks (index_command search)
asked_of (Concord search left right sort) = asks (concordance_command search left right sort)
asked_of (Cascade text alphabet steps dics trace) = asks (cascade text alphabet steps dics trace)
asked_of (Tokenize text alphabet chars) = asks (tokenize text alphabet chars)
asked_of (Check false file) = asks (check_entries file)
asked_of (Check true file) = asks (check_stems file)
asked_of (Compress dic) = asks (compress dic)
asked_of (Dico text alphabet dics chars) = asks (dico text alphabet dics chars)
asked_of (Fst2 graph alphabet chars) = asks (fst2 graph alphabet chars)
asked_of (Flatten graph alphabet depth) = asks (flatten graph alphabet depth)
asked_of (Inflect stems) = asks (inflect stems)
asked_of (Morpho graph text alphabet dics) = asks (morpho graph text alphabet dics)
asked_of (Tfst text alphabet dics chars) = asks (txt2tfst text alphabet dics chars)
asked_of (Elag tfst rules) = asks (elag tfst rules)
asked_of (Bench n) = asks (unread_command (IsSummaryOf n))
asked_of Help = asks (text_command HELP.now)
asked_of Version = asks (text_command VERSION.now)
asked_of (Tfind graph tfst alphabet) = asks (tfind graph tfst alphabet)

-- what a request asks for, if the words are one
abbrev pub asked_if : Option Request → Asked
asked_if None = nothing
asked_if (Some request) = asked_of request

-- what the words of the command line ask for
abbrev pub asked_by : List (List ℕ) → Asked
asked_by words = asked_if (request_of words)

-- something is asked for
abbrev pub IsAsked : Asked → Type 0
IsAsked nothing = ⊥
IsAsked (asks command) = ⊤

-- what answers it
abbrev pub IsAnswer : Asked → Option Files → List ℕ → Type 0
IsAnswer nothing told answer = ⊥
IsAnswer (asks command) told answer = plan.Answers command told answer

-- the folder tells its files, and those of the command are accepted
pub record IsReady (command : Command Reason) (seen : Seen) : Type 0 where
  pub files : Files
  pub tells : seen.files ≡ Some files
  pub read : command.Read
  pub comes : Comes command.plan seen.files read

abbrev pub IsAnswerable : Asked → Seen → Type 0
IsAnswerable nothing seen = ⊥
IsAnswerable (asks command) seen = IsReady command seen

-- the folder tells its files, and these stop the command so
pub record IsHalted (command : Command Reason) (seen : Seen) (by : Stop Reason) : Type 0 where
  pub files : Files
  pub tells : seen.files ≡ Some files
  pub stopped : Stopped command.plan files by

abbrev pub IsStopped : Asked → Seen → Stop Reason → Type 0
IsStopped nothing seen by = ⊥
IsStopped (asks command) seen by = IsHalted command seen by

-- the status of a run that is stopped so
abbrev pub status_of : Stop Reason → Status
status_of (stop.Absent name) = Absent name
status_of (stop.ReadFault name) = ReadFault name
status_of (stop.TooLarge name) = TooLarge name
status_of (stop.Refused name why) = Refused name why
status_of stop.NoMemory = NoMemory

-- the same of what a command answers
abbrev pub told_of : Result (Vec ℕ Global) (Stop Reason) → Result (Vec ℕ Global) Status
told_of (Ok answer) = Ok answer
told_of (Err by) = Err (status_of by)

-- the plan of the command is stopped by what the status tells
pub record Explains (command : Command Reason) (old new : Seen) (status : Status) : Type 0 where
  pub by : Stop Reason
  pub halts : Halts command.plan old new by
  pub is : status ≡ status_of by

-- why nothing is answered: nothing is asked for, or the plan of the command is stopped
abbrev pub Denies : Asked → Seen → Seen → Status → Type 0
Denies nothing old new status = (status ≡ Usage) ⊎ (status ≡ NoMemory)
Denies (asks command) old new status = Explains command old new status

-- How a run ends. The faults are those of the sinks.
abbrev pub EndsBy : Asked → Seen → Seen → (faults : Type 0) → Status → Type 0
EndsBy asked old new faults Done = IsAsked asked
EndsBy asked old new faults Usage = IsAsked asked → ⊥
EndsBy asked old new faults WriteFault = faults
EndsBy asked old new faults status = Denies asked old new status

-- the endings before which nothing was written to the output
abbrev pub WritesNothing : Status → Type 0
WritesNothing Done = ⊥
WritesNothing WriteFault = ⊥
WritesNothing status = ⊤
