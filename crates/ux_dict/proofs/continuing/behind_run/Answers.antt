use Rattle.std.proofs.Common.{length, sym, ap, ◌∙◌}
use Rattle.std.specs.Str.{chars}
use Rattle.std.proofs.lemmas.Bool.{eqb-true}
use Rattle.std.proofs.lemmas.List.{nil_from_length}
use Rattle.std.proofs.lemmas.Str.{chars-nil}
use Rattle.ux_dict.proofs.RunLemmas.{GoOnAlone-none}
use Rattle.ux_dict.proofs.continuing.behind_run.Goals as goal

pub returns-then-is_empty : goal.returns-then-is_empty
returns-then-is_empty c =
    let run = c.args.run.now in
    let empty = nil_from_length run (eqb-true (length run) 0 (sym c.if-is_empty.ensures)) in
    GoOnAlone-none (chars run) c.args.parts.items (ap chars empty ∙ chars-nil)
