use Rattle.std.proofs.Common.{◌≡◌, max, drop}
use Rattle.ux_dict.specs.Forms.{longest_of}
use Rattle.ux_dict.proofs.measures.longest_form.Given as goal

-- what was met and what is left are the whole
abbrev pub invariant-loop-entry : goal.invariant-loop-entry
invariant-loop-entry l =
    max l.longest (longest_of (drop l.entry-index l.entries)) ≡ longest_of l.entries
