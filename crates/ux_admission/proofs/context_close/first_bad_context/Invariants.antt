use Rattle.std.proofs.Common.{◌≡◌, suc, drop}
use Rattle.ux_boxes.specs.Numbers.{places_before}
use Rattle.ux_admission.proofs.ContextLemmas.{AreGood}
use Rattle.ux_admission.proofs.context_close.first_bad_context.Given as goal

abbrev pub invariant-loop-number : goal.invariant-loop-number
invariant-loop-number l = record {
  rest : l.rest ≡ drop (places_before l.graphs (suc l.number)) l.closers;
  good : AreGood l.graphs l.number;
}
