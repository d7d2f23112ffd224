use Rattle.std.proofs.Common.{◌≡◌, ◌++◌, length, map}
use denote.Text.{Utf8}
use denote.Shadow.{shadow}
use Rattle.ux_grf.specs.Words.{words_of}
use Rattle.ux_grf.proofs.words.words.Given as goal

-- the words so far, and those of the rest
abbrev pub invariant-loop-rest : goal.invariant-loop-rest
invariant-loop-rest l =
    shadow (Utf8 l.rest) × (map
    (λ w. w.now) l.words.items ++ words_of l.gap l.rest ≡ words_of l.gap l.text)

abbrev pub decreases-loop-rest : goal.decreases-loop-rest
decreases-loop-rest l = length l.rest
