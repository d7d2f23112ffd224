use Rattle.std.proofs.Common.{◌∙◌, List, false, get_or, ap, subst}
use Rattle.ux_alphabet.specs.Tables.{AreUpperForms}
use Rattle.ux_alphabet.specs.declared.line.Line.{Line}
use Rattle.ux_alphabet.proofs.UpperFormLemmas.{FitsAlone-unmarked}
use Rattle.ux_alphabet.proofs.tables.Tables.fits_alone.Goals as goal

pub returns : goal.returns
returns c =
    let forms = c.self.inside.upper_forms.items in
    let read = c.is_marked.ensures
    ∙ ap (λ table. get_or table c.args.c false) c.deref.ensures.value in
    let are = subst (λ (lines : List Line). AreUpperForms lines forms) c.self.view_is
    c.self.invariant.forms_are in
    FitsAlone-unmarked c.args.self.now forms c.args.c c.is_marked.result read are
