use Rattle.ux_tokens.specs.Numbers.{different_texts}
use Rattle.ux_automaton.proofs.automaton.Automaton.of.Goals as goal

pub invariant_of-result : goal.invariant_of-result
invariant_of-result c = record {
  table = c.requires;
  marked = c.in_ok-marks.ensures;
  right = λ yes. c.in_ok-kept.ensures _;
  indexed = λ yes. c.new-2.ensures c.args.masked.now.alphabet.now c.args.masked.now.net.now
      (different_texts c.args.masked.now.text.now);
  fronts_indexed = λ yes. c.new-3.ensures _ _;
}
