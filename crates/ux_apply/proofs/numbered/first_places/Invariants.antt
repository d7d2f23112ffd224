use Rattle.std.proofs.Common.{take}
use Rattle.std.specs.List.{AllZip}
use Rattle.ux_tokens.specs.Numbers.{different_texts}
use Rattle.ux_apply.specs.Kept.{HasText}
use Rattle.ux_apply.proofs.numbered.first_places.Given as goal

-- the places are those of the different tokens so far
abbrev pub invariant-loop-place : goal.invariant-loop-place
invariant-loop-place l =
    AllZip (HasText l.text) (different_texts (take l.place l.text)) l.places.items
