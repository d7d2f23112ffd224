use Rattle.ux_sentence.proofs.ReadingLemmas.{braced_none}
use Rattle.ux_sentence.proofs.reading.read_reading.Goals as goal

pub returns-in-None : goal.returns-in-None
returns-in-None c =
    let none = rw c.in-None.is at c.in_ok-entry.ensures in
    braced_none c.args.text.now c.in-Some.body.now c.in-Some.ensures none
