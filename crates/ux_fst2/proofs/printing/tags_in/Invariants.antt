use Rattle.std.proofs.Common.{◌≡◌, take}
use Rattle.ux_fst2.proofs.printing.tags_in.Given as goal

-- the tags so far
abbrev pub invariant-loop-tag : goal.invariant-loop-tag
invariant-loop-tag l = l.list.items ≡ take l.tag-index l.tags.keys
