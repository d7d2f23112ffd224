-- What the command `dico` reads, and what answers it. This file carries the command's meaning.
use Rattle.std.specs.Prelude.{ℕ, Bool, List}
use Rattle.ux_alphabet.specs.Letters.{Letters}
use Rattle.ux_apply.specs.Applied.{AreApplied}
use Rattle.ux_lexical_tables.specs.Tables.{Tables}
use Rattle.ux_apply.specs.declared.priority.Priority.{Priority}
use Rattle.ux_dela.specs.declared.entry.Entry.{Entry}
use Rattle.ux_plan.specs.Commands.{Command}
use Rattle.ux_report.specs.Report.{IsReport}
use Rattle.ux_tokens.specs.Tokens.{Token}
use Rattle.ux_reasons.specs.declared.reason.Reason.{Reason}
use Rattle.ux_dictionaries.specs.Texts.{LookedUp, text_with_dictionaries}
use Rattle.ux_dictionaries.proofs.TextLaws.{text_with_dictionaries_laws}

-- the report tells of the dictionaries' entries that apply to the tokens
pub record IsReportOf (letters : Letters) (tokens : List Token) (dics : List (Priority × List Entry))
    (report : List ℕ) : Type 0 where
  pub tables : Tables
  pub applied : AreApplied letters dics tokens tables
  pub is : IsReport tokens tables report

-- the report of the entries that apply to a text
abbrev pub dico : (text alphabet : List ℕ) → (names : List (List ℕ)) → (chars : Bool) →
    Command Reason
dico text alphabet names chars = record {
  Read = LookedUp;
  plan = text_with_dictionaries text alphabet names chars;
  laws = text_with_dictionaries_laws text alphabet names chars;
  Answers = λ read answer. IsReportOf read.letters read.tokens read.dics answer;
}
