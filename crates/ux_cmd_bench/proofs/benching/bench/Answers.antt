use Rattle.std.proofs.Common.{◌∙◌, List, Vec, subst}
use Rattle.std.proofs.lemmas.Result.{IfOk-weaker}
use Rattle.ux_apply.specs.declared.priority.Priority.{Priority}
use Rattle.ux_dela.specs.declared.entry.Entry.{Entry}
use Rattle.ux_net.specs.Nets.{net_grammar}
use Rattle.ux_cmd_bench.specs.Summaries.{IsSummary}
use Rattle.ux_cmd_bench.proofs.GrammarLemmas.{told_of_net}
use Rattle.ux_cmd_bench.proofs.benching.bench.Goals as goal

pub returns : goal.returns
returns c =
    let dics = c.in_ok-dics.ensures in
    let letters = c.in_ok-alphabet.alphabet in
    let net = c.in_ok-net.net in
    IfOk-weaker c.summary.result _ _ (λ answer told.
    told_of_net c.args.n letters dics.0 net answer.items c.in_ok-alphabet.ensures dics.1
    c.in_ok-net.ensures
    (subst (λ (l : List (Priority × List Entry)).
    IsSummary c.args.n letters l (net_grammar net) answer.items)
    (c.deref.ensures.value ∙ dics.2) told)) c.summary.ensures
