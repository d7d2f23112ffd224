-- what is found is equal, and what is put stands with its codes
use Rattle.std.proofs.Common.{arith, sym, ◌∙◌, ◌≡◌, subst, Global}
use Rattle.std.specs.Prelude.{All}
use Rattle.std.specs.declared.rc.Rc.{Rc}
use Rattle.std.proofs.lemmas.Grind.{common_steps}
use Rattle.ux_dela.specs.declared.entry.Codes.{Codes}
use Rattle.ux_dict.specs.Equal.{codes_eq, codes_eq-Decides}
use Rattle.ux_dict.specs.declared.codes_table.SharedCodes.{SharedCodes}
use Rattle.ux_dict.proofs.CodesLemmas.{own_found, own_more}
use Rattle.ux_dict.proofs.codes_table.CodesTable.shared.Goals as goal

pub returns-in-Some : goal.returns-in-Some
returns-in-Some c =
    let found : c.in-Some.old.now.value ≡ c.args.codes =
    own_found codes_eq codes_eq-Decides (λ (rc : Rc SharedCodes Global). rc.value)
    c.new-codes.result c.in-Some.old.now c.self.inside.known.entries c.self.invariant.0
    (sym c.in-Some.ensures.value) ∙ c.new-codes.ensures in
    grind (arith, common_steps)

pub invariant_of-self-2 : goal.invariant_of-self-2
invariant_of-self-2 c =
    let is = c.in_ok-clone.ensures.cases ∙ c.in_ok-new.ensures.ok ∙ c.in_ok-of.ensures
    ∙ c.in_ok-copy.ensures ∙ sym c.codes.view_is in
    let known = subst (All (λ (entry : Codes × Rc SharedCodes Global). entry.1.value ≡ entry.0))
    (sym c.in_ok-insert.ensures.entries)
    (own_more codes_eq codes_eq-Decides (λ (rc : Rc SharedCodes Global). rc.value)
    c.codes.inside.codes c.in_ok-clone.field-0 is c.self.inside.known.entries c.self.invariant.0) in
    (known, c.self.invariant.1)
