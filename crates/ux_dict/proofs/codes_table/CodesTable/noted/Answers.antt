-- the codes stand at their text
use Rattle.std.proofs.Common.{ℕ, List, sym, ◌∙◌, subst}
use Rattle.std.specs.Prelude.{All}
use Rattle.ux_dela.specs.Printed.{IsCodesText}
use Rattle.ux_dela.specs.declared.entry.Codes.{Codes}
use Rattle.ux_dict.proofs.CodesLemmas.{IsOfText, text_more}
use Rattle.ux_dict.proofs.codes_table.CodesTable.noted.Goals as goal

pub invariant_of-self-2 : goal.invariant_of-self-2
invariant_of-self-2 c =
    let given = subst (λ (codes : Codes). IsCodesText c.args.text.now codes)
    (sym (c.in_ok-clone.ensures.cases ∙ c.in_ok-shared.ensures)) c.requires in
    let is = subst (λ (text : List ℕ). IsCodesText text c.in_ok-clone.field-0.value)
    (sym c.in_ok-key.ensures.ok) given in
    let by_text = subst (All IsOfText) (sym c.in_ok-insert.ensures.entries)
    (text_more c.in_ok-key.key c.in_ok-clone.field-0 is c.self.inside.by_text.entries
    c.self.invariant.1) in
    (c.self.invariant.0, by_text)
