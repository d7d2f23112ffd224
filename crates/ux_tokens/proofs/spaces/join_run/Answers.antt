use Rattle.std.proofs.Common.{ℕ, ◌+◌, set, drop, sym, ◌∙◌, ap, subst, arith}
use Rattle.std.proofs.lemmas.List.{length-drop, length-set, take_rest}
use Rattle.std.proofs.lemmas.List.Sums.{prefix_len-le-length}
use Rattle.ux_alphabet.specs.Letters.{is_separator}
use Rattle.ux_tokens.specs.Spaces.{IsJoined}
use Rattle.ux_tokens.specs.Tokens.{SPACE}
use Rattle.ux_tokens.proofs.SpacesLemmas.{run_len, joined_run}
use Rattle.ux_tokens.proofs.spaces.join_run.Goals as goal

pub returns-clause-within : goal.returns-clause-within
returns-clause-within c =
    let bytes = c.args.bytes.now in
    let rest = drop c.args.place bytes in
    let run = c.run_len-run.ensures ∙ ap run_len (take_rest bytes c.args.place) in
    omega (
      arith,
      run,
      prefix_len-le-length is_separator rest,
      c.requires.within,
      length-drop c.args.place bytes,
      length-set bytes c.args.joined SPACE,
    )

pub returns-clause-joined : goal.returns-clause-joined
returns-clause-joined c = λ text before.
    let bytes = c.args.bytes.now in
    let run = c.run_len-run.ensures ∙ ap run_len (take_rest bytes c.args.place) in
    subst (λ (n : ℕ). IsJoined text (set bytes c.args.joined SPACE) (c.args.joined + 1)
    (c.args.place + n)) (sym run)
    (joined_run text bytes c.args.joined c.args.place before c.requires.white)
