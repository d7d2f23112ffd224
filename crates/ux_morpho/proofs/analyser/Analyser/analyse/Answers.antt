use Rattle.std.proofs.Common.{List, subst, sym}
use Rattle.std.specs.Prelude.{◌↔◌, Contains}
use Rattle.ux_apply.specs.Applying.{contents}
use Rattle.ux_net.specs.Nets.{net_grammar}
use Rattle.ux_morpho.proofs.AnalysesLemmas.{answers_bad, answers_good, answers_ok}
use Rattle.ux_morpho.proofs.analyser.Analyser.analyse.Goals as goal

pub returns-clause-ok : goal.returns-clause-ok
returns-clause-ok g c =
    answers_ok c.args.self.now.alphabet.now (contents g.L.Lexicon.content c.args.dics.now)
    (net_grammar c.args.self.now.net.now) c.args.token.now c.in_ok-letters.letters c.in_ok-letters.ensures
    c.in_ok-applied.applied c.in_ok-applied.ensures.applied c.in_ok-outputs.outputs.items
    c.in_ok-outputs.ensures c.deref.result.now c.deref.ensures.value c.entry_lines.result
    c.entry_lines.ensures.lines c.entry_lines.ensures.ordered

pub returns-clause-accepted : goal.returns-clause-accepted
returns-clause-accepted g c =
    answers_good c.args.self.now.alphabet.now (contents g.L.Lexicon.content c.args.dics.now)
    (net_grammar c.args.self.now.net.now) c.args.token.now c.in_ok-letters.letters c.in_ok-letters.ensures
    c.in_ok-applied.applied c.in_ok-applied.ensures.applied c.in_ok-outputs.outputs.items
    c.in_ok-outputs.ensures c.deref.result.now c.deref.ensures.value c.entry_lines.result
    c.entry_lines.ensures.lines

pub returns-clause-err : goal.returns-clause-err
returns-clause-err g c =
    answers_bad c.args.self.now.alphabet.now (contents g.L.Lexicon.content c.args.dics.now)
    (net_grammar c.args.self.now.net.now) c.args.token.now c.in_ok-letters.letters c.in_ok-letters.ensures
    c.in_ok-applied.applied c.in_ok-applied.ensures.applied c.in_ok-outputs.outputs.items
    c.in_ok-outputs.ensures c.deref.result.now c.deref.ensures.value c.entry_lines.result
    c.entry_lines.ensures.err
