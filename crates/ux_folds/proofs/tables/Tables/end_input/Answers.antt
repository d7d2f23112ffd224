use Rattle.std.proofs.lemmas.Result.{IfOk-weaker}
use Rattle.ux_outputs.specs.Variables.{ended_input}
use Rattle.ux_outputs.specs.Rendering.{skip, text_between}
use Rattle.ux_folds.proofs.VariablesLemmas.{ends_input, ends_nothing, told_text, told_utf8, uncounted}
use Rattle.ux_folds.proofs.tables.Tables.end_input.Goals as goal

pub returns-in_default : goal.returns-in_default
returns-in_default c = uncounted c.args.text.now c.args.names.now c.args.self.now c.args.kept
    c.args.name.now (λ state. ended_input (λ begin.
    text_between c.args.text.now (skip c.args.text.now begin) state.position))
    c.in_default.ensures

pub returns-in_default-noted : goal.returns-in_default-noted
returns-in_default-noted c = ends_nothing c.args.text.now c.args.names.now c.args.self.now c.args.kept
    c.args.name.now c.in-Some.place c.in-Some.ensures c.in_ok-known.known
    (c.in_ok-known.ensures c.args.text.now c.args.names.now) c.in_default-noted.is

pub returns : goal.returns
returns c = IfOk-weaker c.know.result _ _ (λ next knows.
    ends_input c.args.text.now c.args.names.now c.args.self.now c.know.new.self c.args.kept next
    c.args.name.now c.in-Some.place c.in-Some.ensures c.in_ok-known.known
    (c.in_ok-known.ensures c.args.text.now c.args.names.now) c.push_text.new.self c.in-Some-noted.begin
    c.in_ok-value.value c.in-Some-noted.is
    (told_text c.args.text.now c.args.self.now c.push_text.new.self c.between.result.now
    c.after_space.result c.in-Some-noted.begin c.args.kept.position c.in_ok-value.value
    c.between.ensures c.after_space.ensures c.in_ok-value.ensures)
    (told_utf8 c.args.text.now c.between.result.now c.after_space.result c.in-Some-noted.begin
    c.args.kept.position c.between.ensures c.after_space.ensures c.between.utf8)
    knows) c.know.ensures
