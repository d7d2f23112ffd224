use Rattle.std.proofs.Common.{◌≡◌, take, string_bytes}
use Rattle.ux_locate.specs.Index.{index_of}
use Rattle.ux_locate.proofs.index.index_text.Given as goal

-- the index of the hits so far
abbrev pub invariant-loop-hit : goal.invariant-loop-hit
invariant-loop-hit l = string_bytes l.index ≡ index_of l.fn.mode (take l.hit-index l.hits)
