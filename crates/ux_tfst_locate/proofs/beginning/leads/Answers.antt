use Rattle.std.proofs.Common.{◌≡◌, ◌↔◌, Bool, List, ℕ, inl, inr, sym, subst}
use Rattle.std.specs.Prelude.{IsTrue}
use Rattle.ux_meaning.specs.Inputs.{Input}
use Rattle.ux_net.specs.declared.label.Label.{Label}
use Rattle.ux_net.specs.declared.label.Label.TheVariants as label
use Rattle.ux_parts.specs.declared.parts.Parts.{Parts}
use Rattle.ux_tfst_locate.specs.Bases.{input_of}
use Rattle.ux_text_chart.specs.Likely.{MayLeadTo}
use Rattle.ux_tfst_locate.proofs.beginning.leads.Goals as goal

-- a label that is another one leads where that one does, if that takes what it leads by
same_label : (input : Input) (parts : Parts) (row : List ℕ) (at : ℕ) (b : Bool) (x y : Label) →
    x ≡ y →
    (((k : ℕ) × input.Takes y at k) ↔ MayLeadTo input parts row y at) →
    (IsTrue b ↔ ((k : ℕ) × input.Takes x at k)) → IsTrue b ↔ MayLeadTo input parts row x at
same_label input parts row at b x y is same takes =
    subst (λ (l : Label). IsTrue b ↔ MayLeadTo input parts row l at) (sym is)
    (let told = subst (λ (l : Label). IsTrue b ↔ ((k : ℕ) × input.Takes l at k)) is takes in (
      λ t. same.0 (told.0 t),
      λ m. told.1 (same.1 m),
    ))

pub returns-in-Call : goal.returns-in-Call
returns-in-Call c =
    subst (λ (x : Label). IsTrue c.is_listed.result
    ↔ MayLeadTo (input_of c.args.basis.now) c.args.parts.now c.args.row.now x
    c.args.at) (sym c.in-Call.is) c.is_listed.ensures

pub returns-in-CaseFolded : goal.returns-in-CaseFolded
returns-in-CaseFolded c =
    let input = input_of c.args.basis.now in
    let parts = c.args.parts.now in
    let row = c.args.row.now in
    let at = c.args.at in
    let x = c.args.label.now in
    elim c.in-CaseFolded.is [
      | inl (text, is) ↦ same_label input parts row at c.some_match.result x
          (label.CaseFolded text) is (λ t. t, λ m. m) c.some_match.ensures
      | inr later ↦ elim later [
        | inl (text, is) ↦ same_label input parts row at c.some_match.result x
            (label.CaseExact text) is (λ t. t, λ m. m) c.some_match.ensures
        | inr more ↦ elim more [
          | inl (mask, is) ↦ same_label input parts row at c.some_match.result x
              (label.Mask mask) is (λ t. t, λ m. m) c.some_match.ensures
          | inr (text, is) ↦ same_label input parts row at c.some_match.result x
              (label.Brace text) is (λ t. t, λ m. m) c.some_match.ensures
        ]
      ]
    ]
