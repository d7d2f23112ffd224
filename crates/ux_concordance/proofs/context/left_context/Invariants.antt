use Rattle.std.proofs.Common.{length}
use denote.Text.{Utf8}
use denote.Shadow.{shadow}
use Rattle.ux_concordance.proofs.ContextLemmas.{IsWalkedBack}
use Rattle.ux_concordance.proofs.context.left_context.Given as goal

-- what isn't walked yet is text
abbrev pub invariant-loop-earlier : goal.invariant-loop-earlier
invariant-loop-earlier l = record {
  text : shadow (Utf8 l.rest);
  walked : IsWalkedBack l.columns l.room l.before l.rest;
}

abbrev pub decreases-loop-earlier : goal.decreases-loop-earlier
decreases-loop-earlier l = length l.rest
