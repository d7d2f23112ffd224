use Rattle.std.proofs.Common.{List, ℕ, subst, sym, string_bytes}
use Rattle.std.specs.List.{AllZip}
use Rattle.std.proofs.lemmas.Result.{IfOk-weaker}
use Rattle.ux_alphabet.specs.Letters.{Letters}
use Rattle.ux_net.specs.Nets.{net_grammar}
use Rattle.ux_net.specs.declared.net_graph.NetGraph.{NetGraph}
use Rattle.ux_reading_table.specs.Numbered.{IsNumberedBy}
use Rattle.ux_reading_table.specs.declared.numbered.NumberedSentence.{NumberedSentence}
use Rattle.ux_sentence.proofs.ValidLemmas.{read_is_valid}
use Rattle.ux_cmd_tfind.specs.Lines.{HasSpans}
use Rattle.ux_cmd_tfind.proofs.finding.found.Goals as goal

pub print_all-requires : goal.print_all-requires
print_all-requires c =
    let (text, read) = c.requires in
    let sentences = read.table.sentences in (
      sentences,
      read_is_valid text sentences read.table.said,
      subst (λ (l : List NumberedSentence). AllZip (IsNumberedBy c.in_ok-finder.finder.texts) sentences l)
          (sym c.as_slice.ensures.value)
          (subst (λ (ts : List (List ℕ)). AllZip (IsNumberedBy ts) sentences
          c.args.read.now.sentences.items) (sym c.in_ok-finder.ensures.texts) read.told),
    )

pub returns : goal.returns
returns c = IfOk-weaker c.print_all.result _ _ (λ answer told text read.
    let sentences = read.table.sentences in
    let finder = c.in_ok-finder.ensures in
    let found = told sentences (read_is_valid text sentences read.table.said)
    (subst (λ (l : List NumberedSentence). AllZip (IsNumberedBy c.in_ok-finder.finder.texts) sentences l)
    (sym c.as_slice.ensures.value)
    (subst (λ (ts : List (List ℕ)). AllZip (IsNumberedBy ts) sentences
    c.args.read.now.sentences.items) (sym finder.texts) read.told)) in
    record {
      sentences = sentences;
      said = read.table.said;
      found = subst (λ (ls : Letters). HasSpans ls (net_grammar c.args.net.now) sentences
          (string_bytes answer)) finder.letters
          (subst (λ (n : List NetGraph). HasSpans c.in_ok-finder.finder.letters (net_grammar n)
          sentences (string_bytes answer)) finder.net found);
    }) c.print_all.ensures
