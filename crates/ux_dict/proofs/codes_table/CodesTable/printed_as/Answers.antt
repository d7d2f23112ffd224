-- what is found at the text are its codes
use Rattle.std.proofs.Common.{sym, subst}
use Rattle.ux_dela.specs.Printed.{IsCodesText}
use Rattle.ux_dela.specs.declared.entry.Codes.{Codes}
use Rattle.ux_dict.proofs.CodesLemmas.{text_found}
use Rattle.ux_dict.proofs.codes_table.CodesTable.printed_as.Goals as goal

pub returns-in-Some : goal.returns-in-Some
returns-in-Some c =
    subst (λ (codes : Codes). IsCodesText c.args.text.now codes) (sym c.in_ok-clone.ensures.cases)
    (text_found c.args.text.now c.in-Some.old.now c.self.inside.by_text.entries c.self.invariant.1
    (sym c.in-Some.ensures.value))
