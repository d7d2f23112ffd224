use Rattle.std.proofs.Common.{arith, ◌≡◌, ◌≤◌, List, length, subst, sym, string_bytes}
use Rattle.std.proofs.lemmas.Slice.Zip.{AllZip-long}
use Rattle.std.specs.List.{slice_range}
use Rattle.ux_net.specs.Nets.{net_grammar}
use Rattle.ux_reading_table.specs.Numbered.{IsNumberedBy}
use Rattle.ux_reading_table.specs.declared.numbered.NumberedSentence.{NumberedSentence}
use Rattle.ux_tfst_locate.specs.Sought.{AreTold}
use Rattle.ux_cmd_tfind.proofs.FindingLemmas.{found_all, found_more, found_none, told_between}
use Rattle.ux_cmd_tfind.proofs.finding.print_all.Goals as goal

pub together-init : goal.together-init
together-init c = record {
  low = omega arith;
  found = λ old valid told. found_none c.args.finder.now.letters (net_grammar c.args.finder.now.net)
      old (string_bytes c.in_ok-answer.answer) c.in_ok-answer.ensures.ok;
}

pub print_found-requires : goal.print_found-requires
print_found-requires c =
    let (old, valid, told) = c.requires in
    let finder = c.args.finder.now in
    let first = c.together.first in
    let next = c.after_many-next.result in
    let after = c.after_many-next.ensures.after in
    let up : first ≤ next = omega (arith, after) in (
      slice_range old first next,
      subst (λ (l : List NumberedSentence). AreTold finder.texts (slice_range old first next) l)
          (sym c.between.ensures)
          (told_between finder.letters (net_grammar finder.net) old valid finder.texts
          c.args.sentences.now told first next up),
    )

pub together-preserved : goal.together-preserved
together-preserved c =
    let finder = c.args.finder.now in
    let first = c.together.first in
    let next = c.after_many-next.result in
    let after = c.after_many-next.ensures.after in
    let up : first ≤ next = omega (arith, after) in
    record {
      low = c.after_many-next.ensures.inside;
      found = λ old valid told.
          let here = subst (λ (l : List NumberedSentence). AreTold finder.texts
          (slice_range old first next) l) (sym c.between.ensures)
          (told_between finder.letters (net_grammar finder.net) old valid finder.texts
          c.args.sentences.now told first next up) in
          let printed = c.in_ok-print_found.ensures (slice_range old first next) here in
          found_more finder.letters (net_grammar finder.net) old valid first next up
          (string_bytes c.together.answer) (string_bytes c.print_found.new.answer)
          (c.together.invariant.found old valid told) printed.spans printed.are printed.is;
    }

pub returns : goal.returns
returns c = λ old valid told.
    let finder = c.args.finder.now in
    let long : length old ≡ length c.args.sentences.now =
    sym (AllZip-long (IsNumberedBy finder.texts) old c.args.sentences.now told) in
    let test = c.together-test.false in
    found_all finder.letters (net_grammar finder.net) old c.together.first
    (string_bytes c.together.answer) (omega (arith, long, test))
    (c.together.invariant.found old valid told)
