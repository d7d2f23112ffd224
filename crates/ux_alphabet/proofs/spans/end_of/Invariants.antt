use Rattle.std.specs.List.{AllWithin}
use Rattle.ux_alphabet.proofs.SpanLemmas.{IsBelow}
use Rattle.ux_alphabet.proofs.spans.end_of.Given as goal

abbrev pub invariant-loop-span : goal.invariant-loop-span
invariant-loop-span l = AllWithin (IsBelow l.end) l.spans 0 l.span-index
