use Rattle.std.proofs.Common.{◌≡◌, ℕ, ◌∙◌, List, ap, sym, subst, length}
use Rattle.std.specs.Prelude.{Contains}
use Rattle.ux_chart.specs.declared.table.Answer.{Answer}
use Rattle.ux_chart.specs.Tables.{cut, IsStretchOf}
use Rattle.ux_chart.proofs.Cuts.{cut_contains}
use Rattle.ux_chart.proofs.Rising.{tells_one, tells_none}
use Rattle.ux_chart.proofs.table.Table.told.Goals as goal

pub positions_in-requires : goal.positions_in-requires
positions_in-requires c =
    subst (λ (l : List ℕ). IsStretchOf (length l) c.in-Some.answer.ends)
    (sym c.deref-in-Some.ensures.value)
    (c.requires.table.ends c.in-Some.answer
    (cut_contains c.args.self.now.answers.items c.args.row c.in-Some.answer
    (subst (λ (l : List Answer). Contains (cut l c.args.row) c.in-Some.answer)
    c.deref.ensures.value c.in-Some.ensures.some.0)))

pub states_in-requires : goal.states_in-requires
states_in-requires c =
    subst (λ (l : List ℕ). IsStretchOf (length l) c.in-Some.answer.closers)
    (sym c.deref-in-Some-2.ensures.value)
    (c.requires.table.closers c.in-Some.answer
    (cut_contains c.args.self.now.answers.items c.args.row c.in-Some.answer
    (subst (λ (l : List Answer). Contains (cut l c.args.row) c.in-Some.answer)
    c.deref.ensures.value c.in-Some.ensures.some.0)))

pub returns-in-Some : goal.returns-in-Some
returns-in-Some c =
    tells_one c.args.self.now c.args.row c.args.part c.in-Some.answer
    c.positions_in.result.now c.states_in.result.now c.requires.row
    (record {
      inside = subst (λ (l : List Answer). Contains (cut l c.args.row) c.in-Some.answer)
          c.deref.ensures.value c.in-Some.ensures.some.0;
      part_is = c.in-Some.ensures.some.1;
    })
    (c.positions_in.ensures ∙ ap (λ (l : List ℕ). cut l c.in-Some.answer.ends)
    c.deref-in-Some.ensures.value)
    (c.states_in.ensures ∙ ap (λ (l : List ℕ). cut l c.in-Some.answer.closers)
    c.deref-in-Some-2.ensures.value)

pub returns-in-None : goal.returns-in-None
returns-in-None c =
    tells_none c.args.self.now c.args.row c.args.part
    (subst (λ (l : List Answer). (answer : Answer) → Contains (cut l c.args.row) answer →
    answer.part ≡ c.args.part → ⊥) c.deref.ensures.value c.in-None.ensures.none)
