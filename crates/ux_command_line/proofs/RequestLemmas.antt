-- The request of a command, by what the words after it give.
use Rattle.std.proofs.Common.{arith, ◌≡◌, ◌∙◌, ◌≤◌, refl, sym, ap, ap₂, ◌-◌, take, List, [], ◌∷◌, ℕ, length, map, drop, get_or, String, string_bytes, Option, Some, None, option_map, option_and_then}
use Rattle.std.proofs.lemmas.List.{take_all}
use Rattle.ux_command_line.specs.declared.command.Command.{Command}
use Rattle.ux_command_line.specs.declared.request.Request.{Request}
use Rattle.ux_command_line.specs.Tables.{command_named}
use Rattle.ux_command_line.specs.Arguments.{Given, given_of}
use Rattle.ux_command_line.specs.Requests.{Values, command_request, values_of, request_by, request_of, request_with}
use Rattle.ux_command_line.specs.Matching.{read_by}

abbrev request_of_read : Command → Values × List (List ℕ) → Option Request
request_of_read command read = request_by command read.0 read.1

by_read : (command : Command) (given : Option Given) → option_and_then (request_with command) given
    ≡ option_and_then (request_of_read command) (option_and_then
    (λ g. option_map (λ values. (values, g.files)) (values_of g.settings)) given)
by_read command None = refl
by_read command (Some given) = by_case (values_of given.settings)
  where
    by_case : (values : Option Values) →
        option_and_then (λ v. request_by command v given.files) values
        ≡ option_and_then (request_of_read command)
        (option_map (λ v. (v, given.files)) values)
    by_case None = refl
    by_case (Some values) = refl

module _ (name : List ℕ) (words : List (List ℕ)) (command : Command)
    (is : command_named name ≡ Some command) where
  request-read_by : command_request name words
      ≡ option_and_then (request_of_read command) (read_by command words)
  request-read_by = rw is (by_read command (given_of command words))

  pub request-unread : read_by command words ≡ None → command_request name words ≡ None
  request-unread none = request-read_by
      ∙ ap (option_and_then (request_of_read command)) none

  pub request-read : (values : Values) (files : List (List ℕ)) →
      read_by command words ≡ Some (values, files) →
      command_request name words ≡ request_by command values files
  request-read values files some = request-read_by
      ∙ ap (option_and_then (request_of_read command)) some

-- two words and more are a command's
pub request_of-more : {Z : Type 0} (first : String Z) (words : List (String Z)) (text : List ℕ) →
    2 ≤ length words → first ≡ get_or words 0 first → text ≡ string_bytes first →
    request_of (map string_bytes words)
    ≡ command_request text (map string_bytes (take (length words - 1) (drop 1 words)))
request_of-more first [] text two is bytes = absurd (omega (arith, two))
request_of-more first (word ∷ []) text two is bytes = absurd (omega (arith, two))
request_of-more first (word ∷ next ∷ words) text two is bytes =
    ap₂ (λ w rest. command_request w (map string_bytes rest))
    (ap string_bytes (sym is) ∙ sym bytes)
    (sym (take_all (length (word ∷ next ∷ words) - 1) (next ∷ words) (omega arith)))
