use Rattle.std.proofs.Common.{◌+◌, ◌∙◌, ℕ, sym, subst, refl}
use Rattle.ux_subsets.specs.Agenda.{IsTaken, row_from}
use Rattle.ux_subsets.proofs.AgendaLemmas.{taken, none_taken, nothing_in}
use Rattle.ux_subsets.proofs.agenda.Agenda.take.Goals as goal

pub returns-in-Some-clause-taken : goal.returns-in-Some-clause-taken
returns-in-Some-clause-taken c =
    let old = c.args.self.now.rows.items in
    let rows = c.pop_front.new.self.items in
    let row = c.in-Some.row in
    subst (λ (n : ℕ). IsTaken (row_from n old) (row_from (c.args.state + 1) rows) c.args.state row.items) (sym c.requires)
    (taken c.args.state (c.args.state + 1) old row rows c.in-Some.ensures.items refl)

pub returns-in-None-clause-taken : goal.returns-in-None-clause-taken
returns-in-None-clause-taken c =
    let old = c.args.self.now.rows in
    let rows = c.pop_front.new.self in
    let none = c.in-None.ensures.cases in
    let gone = nothing_in old.items (sym old.ok.0 ∙ none.0) in
    let left = nothing_in rows.items (sym rows.ok.0 ∙ none.1) in
    subst (λ (n : ℕ). IsTaken (row_from n old.items) (row_from (c.args.state + 1) rows.items) c.args.state c.new.result.items) (sym c.requires)
    (none_taken c.args.state (c.args.state + 1) old.items rows.items c.new.result.items gone left c.new.ensures.items)
