use Rattle.std.proofs.Common.{List, ◌∷◌, ◌∙◌, [], inl, inr, subst, sym}
use Rattle.std.proofs.lemmas.Bool.{false≢true}
use Rattle.std.proofs.lemmas.Result.{IfOk-weaker}
use Rattle.ux_dela.specs.Delaf.{DelafSays}
use Rattle.ux_dela.specs.declared.entry.Entry.{Entry}
use Rattle.ux_dela.proofs.ExclusionLemmas.{says_excluded}
use Rattle.ux_morpho.proofs.LineLemmas.{only_said}
use Rattle.ux_morpho.proofs.lines.said_line.Goals as goal

pub returns-in-Ok : goal.returns-in-Ok
returns-in-Ok c =
    IfOk-weaker c.only_line.result _ _
    (λ found is. only_said c.args.line.now c.deref.result.now found
    (subst (DelafSays c.args.line.now) (sym c.deref.ensures.value) c.in-Ok.ensures.ok) is)
    c.only_line.ensures

pub returns-else-is_memory : goal.returns-else-is_memory
returns-else-is_memory c = λ entry says. elim c.in-Err.ensures.refused [
  | inl memory ↦ false≢true (sym c.if-is_memory.false ∙ c.is_memory.ensures.1 memory)
  | inr refused ↦ says_excluded c.args.line.now 1 (entry ∷ []) c.in-Err.error says refused
]
