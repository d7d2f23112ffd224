-- What the words give, by what clap answers.
use Rattle.std.proofs.Common.{◌≡◌, ◌≢◌, ◌∙◌, refl, ap, subst, true, false, List, [], ◌∷◌, None, Result, IsErrOf, IsErrAnd, ⊎_elim}
use Rattle.clap.specs.Words.{App, HasKind, HasMatchesOf, IsAmong, Kinds, Text, fault_of, found_of, is_simple_and_free, kind_of, matches_of, rows_of}
use Rattle.clap.specs.declared.error.Error.{Error}
use Rattle.clap.specs.declared.error.kind.ErrorKind.{ErrorKind}
use Rattle.clap.specs.declared.error.kind.ErrorKind.TheVariants.{OutOfMemory}
use Rattle.clap.specs.declared.parser.matches.ArgMatches.{ArgMatches}
use Rattle.ux_command_line.specs.declared.command.Command.{Command}
use Rattle.ux_command_line.specs.declared.command.OptionName.{OptionName}
use Rattle.ux_command_line.specs.Matching.{app_with, found_in, read_by, read_in}
use Rattle.ux_command_line.specs.Tables.{options_of}
use Rattle.ux_command_line.proofs.Uses.{is_none}
use Rattle.ux_command_line.proofs.WalkUses.{AreUtf8}
use Rattle.ux_command_line.proofs.CommandLemmas.{app_simple, app_simple_and_free}
use Rattle.ux_command_line.proofs.CommandReading.{read_by-matches}

-- what holds of an error
pub err_of : {T E : Type 0} (result : Result T E) (error : E) (P : E → Type 0) →
    IsErrOf result error → IsErrAnd result P → P error
err_of result error P is holds = subst (λ r. IsErrAnd r P) is holds

some_kind : (kind : ErrorKind) (kinds : Kinds) → IsAmong kind kinds → is_none kinds ≡ false
some_kind kind [] among = absurd among
some_kind kind (first ∷ kinds) among = refl

pub simple_and_free : (options : List OptionName) (app : App) → app ≡ app_with options →
    is_simple_and_free app ≡ true
simple_and_free options app is = rw is (app_simple_and_free options)

module _ (command : Command) (words : List Text) (utf8 : AreUtf8 words) (app : App)
    (is : app ≡ app_with (options_of command)) where
  -- clap takes the words
  pub taken_read : (matches : ArgMatches) → fault_of app words ≡ [] →
      HasMatchesOf app words matches →
      read_by command words ≡ read_in (found_in (rows_of (found_of matches)))
  taken_read matches fine has =
      let none : is_none (fault_of (app_with (options_of command)) words) ≡ true =
      subst (λ (a : App). is_none (fault_of a words) ≡ true) is (rw fine refl) in
      let rows : rows_of (found_of matches) ≡ matches_of (app_with (options_of command)) words =
      (has (rw is (app_simple (options_of command)))).0 ∙ ap (λ a. matches_of a words) is in
      read_by-matches command words utf8 ∙ rw (none, rows) refl

  -- clap refuses the words, and not for lack of memory
  pub refused_read : (error : Error) → HasKind (fault_of app words) error →
      kind_of error ≢ OutOfMemory → read_by command words ≡ None
  refused_read error has other = ⊎_elim (λ memory. absurd (other memory))
      (λ among. read_by-matches command words utf8
      ∙ rw (subst (λ (a : App). is_none (fault_of a words) ≡ false) is
      (some_kind (kind_of error) (fault_of app words) among)) refl) has
