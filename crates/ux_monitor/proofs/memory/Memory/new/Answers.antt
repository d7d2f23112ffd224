use Rattle.ux_monitor.proofs.MemoryLemmas.{right_none}
use Rattle.ux_monitor.proofs.memory.Memory.new.Goals as goal

pub returns : goal.returns
returns c = λ steps ends kinds.
    right_none steps ends kinds c.new.result.keys c.new-2.result.entries
    c.new.ensures.empty c.new-2.ensures.empty
