use Rattle.std.proofs.Common.{◌≡◌, ℕ, List, Vec, Global, ap, subst, sym, ◌∙◌, string_bytes}
use Rattle.std.proofs.lemmas.Result.{err_from_is_err_and}
use Rattle.ux_plan.specs.Plans.{Halts, all}
use Rattle.ux_plan.proofs.PlanSteps.{comes_gives, comes_read, comes_test, comes_then, halts_first, halts_later, halts_second, halts_test}
use Rattle.ux_tokens.specs.Numbers.{texts_in}
use Rattle.ux_cmd_inflect.specs.Files.{IsNetAt}
use Rattle.ux_cmd_inflect.specs.Inflecting.{AreForms}
use Rattle.ux_cmd_inflect.specs.Reading.{IsNetOf, class_plan, classes_of}
use Rattle.ux_cmd_inflect.proofs.AnswerLemmas.{classed, classes_come, is_net_of}
use Rattle.ux_cmd_inflect.proofs.FormLemmas.{forms_by, inflectable_by, stops_by}
use Rattle.ux_cmd_inflect.proofs.inflecting.inflect.Goals as goal

-- the lemmas were read, and the graphs of a class stop the reading
pub returns-in_err-paradigms-clause-err : goal.returns-in_err-paradigms-clause-err
returns-in_err-paradigms-clause-err g c =
    let r = c.from_residual-in_err-paradigms in
    let p = err_from_is_err_and r.result r.ensures.1 in
    let seen = g.F.Folder.seen in
    let read = c.in_ok-lemmas.ensures in
    let are : texts_in c.in_ok-classes.classes.names ≡ classes_of c.in_ok-lemmas.lemmas.items =
    c.in_ok-classes.ensures.are ∙ ap classes_of c.deref.ensures.value in
    let stops = subst (λ (l : List (List ℕ)). Halts (all (class_plan c.args.stems.now) l)
    (seen c.read_stems.new.folder) (seen c.read_paradigms.new.folder) c.in_err-paradigms.field-0.0) are
    c.in_err-paradigms.ensures.err in
    rw (p.1, p.2) (halts_later _ _ _ _ _ _ _ _ read.ok read.later (halts_first _ _ _ _ _ stops))

-- all was read, and a lemma is refused
pub returns-in_err-lines-clause-err : goal.returns-in_err-lines-clause-err
returns-in_err-lines-clause-err g c =
    let r = c.from_residual-in_err-lines in
    let p = err_from_is_err_and r.result r.ensures.1 in
    let read = c.in_ok-lemmas.ensures in
    let nets = c.in_ok-paradigms.ensures in
    let word = c.args.stems.now in
    let stems = c.in_ok-lemmas.lemmas.items in
    let names = texts_in c.in_ok-classes.classes.names in
    let told = (g.F.Folder.seen c.read_stems.new.folder).files in
    let are : names ≡ classes_of stems =
    c.in_ok-classes.ensures.are ∙ ap classes_of c.deref.ensures.value in
    let given = classed stems nets.ok.grammars in
    let refused = rw c.deref-2.ensures.value at
    c.in_err-lines.ensures.err in
    let stops = stops_by (IsNetAt names c.in_ok-paradigms.paradigms.items) (IsNetOf given)
    (is_net_of word stems names told c.in_ok-paradigms.paradigms.items are nets.ok) word stems
    c.in_err-lines.field-0.0 refused in
    rw (p.1, p.2) (halts_later _ _ _ _ _ _ _ _ read.ok read.later
    (halts_second _ _ _ _ _ _ _ (classes_come word stems names told c.in_ok-paradigms.paradigms.items are
    nets.ok) nets.later (halts_test _ _ _ _ _ _ stops)))

-- the lines are those of the forms of all lemmas
pub returns-clause-ok : goal.returns-clause-ok
returns-clause-ok g c =
    let read = c.in_ok-lemmas.ensures in
    let word = c.args.stems.now in
    let stems = c.in_ok-lemmas.lemmas.items in
    let nets = c.in_ok-paradigms.paradigms.items in
    let names = texts_in c.in_ok-classes.classes.names in
    let told = (g.F.Folder.seen c.args.folder.now).files in
    let are : names ≡ classes_of stems =
    c.in_ok-classes.ensures.are ∙ ap classes_of c.deref.ensures.value in
    let made = rw read.later.kept at c.in_ok-paradigms.ensures.ok in
    let given = classed stems made.grammars in
    let so = is_net_of word stems names told nets are made in
    let accepted = rw c.deref-2.ensures.value at
    c.in_ok-lines.ensures.accepted in
    let forms = rw c.deref-2.ensures.value at
    c.in_ok-lines.ensures.ok in
    let can = inflectable_by (IsNetAt names nets) (IsNetOf given) so stems accepted in
    record {
      read = given;
      comes = comes_read _ _ _ _ _ _ read.ok
          (comes_then _ _ _ _ _ (classes_come word stems names told nets are made)
          (comes_test _ _ _ _ _ can (comes_gives _ _ _)));
      answers = subst (AreForms (IsNetOf given) stems)
          (sym (ap (λ (v : Vec ℕ Global). v.items) c.into_bytes.ensures.value))
          (forms_by (IsNetAt names nets) (IsNetOf given) so stems
          (string_bytes c.in_ok-lines.lines) forms);
    }
