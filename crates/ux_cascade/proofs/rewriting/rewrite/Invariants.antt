use Rattle.std.proofs.Common.{drop, string_bytes}
use Rattle.ux_cascade.proofs.RewritingLemmas.{IsSoFar}
use Rattle.ux_cascade.proofs.rewriting.rewrite.Given as goal

-- the hits before this one are rewritten
abbrev pub invariant-loop-hit : goal.invariant-loop-hit
invariant-loop-hit l =
    IsSoFar l.text l.hits (drop l.hit-index l.hits) (string_bytes l.written) l.place l.spans
