use Rattle.ux_tokens.specs.Numbers.{different_texts}
use Rattle.ux_text_chart.proofs.state_indexes.indexes_of.Goals as goal

pub loop-before-init : goal.loop-before-init
loop-before-init c = c.new-look_ups.ensures c.args.alphabet.now c.args.net.now
    (different_texts c.args.text.now)
