use Rattle.std.proofs.Common.{arith, ◌<◌, ap}
use Rattle.std.proofs.lemmas.Result.{err_from_is_err_and}
use Rattle.ux_sentence.specs.Files.{Place}
use Rattle.ux_sentence.proofs.DueLemmas.{due_refused, told_is_well_formed}
use Rattle.ux_sentence.proofs.reader.Sentences.next.Goals as goal

pub returns-in_err-due-clause-err : goal.returns-in_err-due-clause-err
returns-in_err-due-clause-err c =
    let p = err_from_is_err_and c.from_residual.result c.from_residual.ensures.1 in
    let told = ap (λ (p : Place). p.told) c.self.view_is in
    let count = ap (λ (p : Place). p.count) c.self.view_is in
    let due : c.args.self.now.told < c.args.self.now.count =
    omega (arith, c.if-self.false, c.self.invariant, told, count) in
    rw (p.1, p.2) (due_refused c.args.self.now _ due c.in_err-due.ensures.err)

pub returns-clause-well_formed : goal.returns-clause-well_formed
returns-clause-well_formed c =
    told_is_well_formed c.args.self.now c.due.new.self c.in_ok-due.field-0
    c.in_ok-due.ensures.ok
