use Rattle.std.proofs.Common.{◌≡◌, take, string_bytes}
use Rattle.ux_locate.proofs.IndexLemmas.{index_at}
use Rattle.ux_locate.proofs.index.span_index.Given as goal

-- the index of the spans so far
abbrev pub invariant-loop-span : goal.invariant-loop-span
invariant-loop-span l = string_bytes l.index ≡ index_at l.text (take l.span-index l.spans)
