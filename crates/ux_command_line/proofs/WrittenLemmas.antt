-- Words are a request exactly where they are written for it.
use Rattle.std.proofs.Common.{◌≡◌, ◌∙◌, ℕ, Bool, true, false, List, [], ◌∷◌, codes, Option, Some, None, is_some, option_and_then, Result, Ok, Err, IfOk, refl, sym, subst}
use Rattle.std.specs.Str.{bytes_eq}
use Rattle.std.proofs.lemmas.Slice.Eq.{bytes_eq-Decides}
use Rattle.ux_command_line.specs.declared.command.Command.{Command}
use Rattle.ux_command_line.specs.declared.request.Request.{Request}
use Rattle.ux_command_line.specs.Arguments.{Given, given_of}
use Rattle.ux_command_line.specs.Requests.{command_request, question_of, request_of, request_with}
use Rattle.ux_command_line.specs.Tables.{command_named}
use Rattle.ux_command_line.specs.Writing.{IsWritten, question, asked}
use Rattle.ux_command_line.proofs.Writing.{given_of-Writes, Writes-given_of}

-- a command is no question
no_question : (name : List ℕ) (command : Command) → command_named name ≡ Some command →
    question_of name ≡ None
no_question name command is = by_help (bytes_eq name (codes "--help")) refl
  where
    by_version : (b : Bool) → bytes_eq name (codes "--version") ≡ b →
        bytes_eq name (codes "--help") ≡ false → question_of name ≡ None
    by_version false version help = rw (help, version) refl
    by_version true version help =
        let same = (bytes_eq-Decides name (codes "--version")).0 version in
        let wrong : None ≡ Some command =
        subst (λ n. command_named n ≡ Some command) same is in cc

    by_help : (b : Bool) → bytes_eq name (codes "--help") ≡ b → question_of name ≡ None
    by_help false help = by_version (bytes_eq name (codes "--version")) refl help
    by_help true help =
        let same = (bytes_eq-Decides name (codes "--help")).0 help in
        let wrong : None ≡ Some command =
        subst (λ n. command_named n ≡ Some command) same is in cc

asked_request : (name : List ℕ) (words : List (List ℕ)) (request : Request) →
    question_of name ≡ None → command_request name words ≡ Some request →
    request_of (name ∷ words) ≡ Some request
asked_request name [] request none is = rw none is
asked_request name (next ∷ words) request none is = is

-- what is written for a request is that request
pub request_of-IsWritten : {words : List (List ℕ)} {request : Request} → IsWritten words request →
    request_of words ≡ Some request
request_of-IsWritten (question is) = rw is refl
request_of-IsWritten (asked {name = name} {words = words} {request = request} command given named
    writes made) = asked_request name words request (no_question name command named)
    (rw (named, given_of-Writes command writes) made)

-- the command and what is given to it
asked_by : (name : List ℕ) (words : List (List ℕ)) (request : Request) →
    command_request name words ≡ Some request → IsWritten (name ∷ words) request
asked_by name words request is = by_command (command_named name) refl
  where
    by_given : (command : Command) → command_named name ≡ Some command →
        (given : Option Given) → given_of command words ≡ given →
        option_and_then (request_with command) given ≡ Some request →
        IsWritten (name ∷ words) request
    by_given command named None read made = let wrong : None ≡ Some request = made in cc
    by_given command named (Some given) read made =
        asked command given named (Writes-given_of command words given read) made

    by_command : (command : Option Command) → command_named name ≡ command →
        IsWritten (name ∷ words) request
    by_command None named = let wrong : None ≡ Some request = rw named at is in cc
    by_command (Some command) named =
        by_given command named (given_of command words) refl (rw named at is)

-- a request is written so
pub IsWritten-request_of : (words : List (List ℕ)) (request : Request) →
    request_of words ≡ Some request → IsWritten words request
IsWritten-request_of [] request is = let wrong : None ≡ Some request = is in cc
IsWritten-request_of (word ∷ []) request is = by_case (is_some (question_of word)) refl
  where
    by_case : (b : Bool) → is_some (question_of word) ≡ b → IsWritten (word ∷ []) request
    by_case true e = question (rw e at is)
    by_case false e = asked_by word [] request (rw e at is)
IsWritten-request_of (word ∷ next ∷ words) request is = asked_by word (next ∷ words) request is

-- what is no request is written for none
pub unwritten : (words : List (List ℕ)) → request_of words ≡ None → (request : Request) →
    IsWritten words request → ⊥
unwritten words none request written =
    let wrong : None ≡ Some request = sym none ∙ request_of-IsWritten written in cc

pub written_if_ok : {E : Type 0} (words : List (List ℕ)) (result : Result Request E) →
    IfOk result (λ request. request_of words ≡ Some request) → IfOk result (IsWritten words)
written_if_ok words (Ok request) is = IsWritten-request_of words request is
written_if_ok words (Err e) is = is
