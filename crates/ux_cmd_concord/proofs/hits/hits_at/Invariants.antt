use Rattle.std.proofs.Common.{◌≡◌, map, take}
use Rattle.ux_locate.specs.Spans.{hit_at}
use Rattle.ux_cmd_concord.proofs.hits.hits_at.Given as goal

-- the hits of the spans so far
abbrev pub invariant-loop-span : goal.invariant-loop-span
invariant-loop-span l = l.hits.items ≡ map (hit_at l.text) (take l.span-index l.spans)
