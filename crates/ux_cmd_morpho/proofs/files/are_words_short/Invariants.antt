use Rattle.std.proofs.Common.{ℕ, ◌<◌, List}
use Rattle.ux_tokens.specs.Reading.{HasTooManyTokens}
use Rattle.ux_cmd_morpho.specs.Answering.{IsWordAt}
use Rattle.ux_cmd_morpho.proofs.files.are_words_short.Given as goal

-- no word so far has too many letters
abbrev pub invariant-loop-place : goal.invariant-loop-place
invariant-loop-place l = (k : ℕ) (word : List ℕ) → k < l.place → IsWordAt l.text k word →
    HasTooManyTokens l.letters word → ⊥
