use Rattle.std.proofs.Common.{◌≡◌, ◌++◌, map, take}
use Rattle.ux_image_lexicon.specs.Told.{entry_by}
use Rattle.ux_image_lexicon.proofs.entries.push_codes.Given as goal

-- what the codes so far make was put
abbrev pub invariant-loop-code : goal.invariant-loop-code
invariant-loop-code l =
    l.entries.items ≡ l.initial.entries.items ++ map (entry_by l.form) (take l.code-index l.codes)
