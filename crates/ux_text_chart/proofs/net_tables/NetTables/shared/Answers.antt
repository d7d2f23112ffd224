use Rattle.ux_tokens.specs.Numbers.{different_texts}
use Rattle.ux_text_chart.proofs.net_tables.NetTables.shared.Goals as goal

pub returns : goal.returns
returns c = λ tokens. record {
  texts = different_texts c.args.text.now;
  by = record {
    prepared = c.in_ok-tables.ensures.tables.prepared;
    index = c.in_ok-tables.ensures.tables.index;
    look_ups = c.in_ok-tables.ensures.tables.look_ups;
  };
  numbering = c.in_ok-words.ensures;
}
