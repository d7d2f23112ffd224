use Rattle.std.proofs.Common.{length, rules}
use Rattle.ux_tokens.specs.Numbers.{different_texts}
use Rattle.ux_text_chart.proofs.PartIndexLemmas.{indexed_all}
use Rattle.ux_text_chart.proofs.part_index.PartIndex.of.Goals as goal

pub returns : goal.returns
returns c = indexed_all c.args.alphabet.now (different_texts c.args.text.now) c.args.net.now
    c.args.parts.now
    (record {
      beginnings = c.sort.new.beginnings;
      everywhere = c.add_parts.new.everywhere;
      tested = c.in_ok-tested.tested;
      count = length c.as_slice-count.result.now;
    })
    c.add_parts.new.beginnings.items (search rules) c.sort.ensures.same c.sort.ensures.ordered
    (c.in_ok-add_parts.ensures (different_texts c.args.text.now) c.in_ok-words.ensures)
