use Rattle.std.proofs.Common.{◌≡◌, map, take}
use Rattle.ux_image_lexicon.specs.Counting.{bare_of}
use Rattle.ux_image_lexicon.proofs.apart.is_apart.Given as goal

-- the codes so far made an entry each
abbrev pub invariant-loop-code : goal.invariant-loop-code
invariant-loop-code l = l.bare.items ≡ map bare_of (take l.code-index l.codes)
