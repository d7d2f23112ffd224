use Rattle.std.proofs.Common.{◌∙◌, List, subst}
use Rattle.std.proofs.lemmas.List.{map-id}
use Rattle.std.proofs.lemmas.Result.{IfOk-weaker}
use Rattle.ux_dela.specs.declared.entry.Entry.{Entry}
use Rattle.ux_apply.specs.Applied.{AreApplied}
use Rattle.ux_apply.specs.declared.priority.Priority.{Priority}
use Rattle.ux_cmd_bench.proofs.LongestLemmas.{same_summary}
use Rattle.ux_cmd_bench.proofs.summary.summary.Goals as goal

pub returns : goal.returns
returns c =
    let tokens = c.in_ok-text.text in
    let dics : List (Priority × List Entry) = c.args.dics.now in
    let counts = c.in_ok-hits.ensures in
    IfOk-weaker c.lines.result _ _ (λ lines written. record {
      tokens = tokens;
      of_text = c.in_ok-text.ensures;
      tables = c.in_ok-applied.applied;
      applied = subst (λ (l : List (Priority × List Entry)). AreApplied c.args.alphabet.now l tokens
          c.in_ok-applied.applied) (map-id dics) c.in_ok-applied.ensures.applied;
      hits = counts.hits;
      listing = counts.listing;
      written = written ∙ same_summary c.args.n c.len.result _ _ _ _ _
          c.len.ensures.len counts.counted counts.measured;
    }) c.lines.ensures
