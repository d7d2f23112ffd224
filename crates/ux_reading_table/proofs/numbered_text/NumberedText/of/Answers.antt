use Rattle.ux_reading_table.proofs.TableLemmas.{noted_readings, table_of_noted}
use Rattle.ux_reading_table.proofs.numbered_text.NumberedText.of.Goals as goal

pub of_noted-requires-clause-texts : goal.of_noted-requires-clause-texts
of_noted-requires-clause-texts c =
    let read = c.in_ok-noted.noted in
    noted_readings c.args.text.now read.noted.printed.keys read.sentences.items
    c.in_ok-noted.ensures.ok

pub returns-clause-ok : goal.returns-clause-ok
returns-clause-ok c =
    let read = c.in_ok-noted.noted in
    table_of_noted c.args.text.now read.noted.printed.keys c.of_noted.result read.sentences.items
    c.of_noted.ensures c.in_ok-noted.ensures.noted.different c.in_ok-noted.ensures.ok
