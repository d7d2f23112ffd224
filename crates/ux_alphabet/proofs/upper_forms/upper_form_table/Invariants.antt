use Rattle.ux_alphabet.proofs.UpperFormLemmas.{IsMarkedUpTo}
use Rattle.ux_alphabet.proofs.upper_forms.upper_form_table.Given as goal

abbrev pub invariant-loop-line : goal.invariant-loop-line
invariant-loop-line l = IsMarkedUpTo l.lines l.line-index l.table.items
