use Rattle.std.proofs.Common.{string_bytes}
use Rattle.ux_image_content.proofs.EntryLemmas.{text_more}
use Rattle.ux_image_content.proofs.entries.text_of.Goals as goal

pub loop-letter-preserved : goal.loop-letter-preserved
loop-letter-preserved c =
    text_more c.args.letters.now c.loop-letter.letter-index c.letter-item.result
    (string_bytes c.loop-letter.text) (string_bytes c.push.new.self) c.loop-letter-test.true
    c.letter-item.is c.loop-letter.invariant c.in_ok-push.ensures.bytes
