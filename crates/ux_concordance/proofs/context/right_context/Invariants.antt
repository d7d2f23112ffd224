use Rattle.std.proofs.Common.{length}
use denote.Text.{Utf8}
use denote.Shadow.{shadow}
use Rattle.ux_concordance.proofs.ContextLemmas.{IsWalked}
use Rattle.ux_concordance.proofs.context.right_context.Given as goal

-- what isn't walked yet is text
abbrev pub invariant-loop-first : goal.invariant-loop-first
invariant-loop-first l = record {
  text : shadow (Utf8 l.rest);
  walked : IsWalked l.columns l.room l.behind l.rest;
}

abbrev pub decreases-loop-first : goal.decreases-loop-first
decreases-loop-first l = length l.rest
