use Rattle.std.proofs.Common.{◌≡◌, ◌∙◌, ◌+◌, List, Vec, Global, Bool, length, take, ap, subst, sym, refl, arith}
use Rattle.std.proofs.lemmas.Grind.{common_steps}
use Rattle.std.proofs.Math.Seq.{take-length}
use Rattle.ux_alphabet.specs.Tables.{AreUpperForms}
use Rattle.ux_alphabet.specs.declared.line.Line.{Line}
use Rattle.ux_alphabet.specs.declared.line.Line.TheVariants.{Single}
use Rattle.ux_alphabet.proofs.UpperFormLemmas.{IsMarkedUpTo, IsMarkedUpTo-more, IsMarkedUpTo-same}
use Rattle.ux_alphabet.proofs.upper_forms.upper_form_table.Goals.{in-Some, in_default}
use Rattle.ux_alphabet.proofs.upper_forms.upper_form_table.Goals as goal

pub index_mut-requires : goal.index_mut-requires
index_mut-requires c =
    let i = c.loop-line.line-index in
    let names = (c.in-Some.ensures c.in-Some.upper).1 refl in
    let inside = c.loop-line.invariant.room i (Single 0) c.loop-line-test.true c.in-Some.upper names in
    omega (arith, inside)

pub loop-line-preserved : goal.loop-line-preserved
loop-line-preserved c =
    let lines = c.args.lines.now in
    let i = c.loop-line.line-index in
    let lt = c.loop-line-test.true in
    let P = λ (table : Vec Bool Global). IsMarkedUpTo lines (i + 1) table.items in
    elim c.match-upper_form_of.branch [
      | in-Some w ↦ subst P (sym w.table-is)
          (IsMarkedUpTo-more lines i _ w.in-Some.upper lt w.in-Some.ensures c.loop-line.invariant)
      | in_default w ↦ subst P (sym w.table-is)
          (IsMarkedUpTo-same lines i _ lt w.in_default.ensures c.loop-line.invariant)
    ]

pub returns : goal.returns
returns c =
    let lines = c.args.lines.now in
    let all : c.loop-line.line-index ≡ length lines = omega arith in
    let whole : take c.loop-line.line-index lines ≡ lines =
    ap (λ n. take n lines) all ∙ take-length lines in
    subst (λ (ls : List Line). AreUpperForms ls c.loop-line.table.items) whole
    c.loop-line.invariant.marked

pub loop-line-init : goal.loop-line-init
loop-line-init c = grind (arith, common_steps)
