use Rattle.std.proofs.Common.{◌≡◌, [], List, ◌++◌, ap, subst, sym, ◌∙◌, rules}
use Rattle.std.proofs.lemmas.Result.{err_from_is_err_and}
use Rattle.ux_dela.specs.Delaf.{DelafSays}
use Rattle.ux_dela.specs.declared.entry.Entry.{Entry}
use Rattle.ux_dela.proofs.delaf.read_delaf_line.Goals as goal

pub returns-clause-ok : goal.returns-clause-ok
returns-clause-ok c =
    let adds = c.in_ok-read_line.ensures.ok in
    let none : c.new-entries.result.items ≡ [] = search rules in
    let alone = adds.added ∙ ap (λ (t : List Entry). t ++ adds.said) none in
    subst (λ (t : List Entry). DelafSays c.args.line.now t) (sym alone) adds.says

pub returns-in_err-read_line-clause-refused : goal.returns-in_err-read_line-clause-refused
returns-in_err-read_line-clause-refused c =
    let p = err_from_is_err_and c.from_residual.result c.from_residual.ensures.1 in
    rw (p.1, p.2) c.in_err-read_line.ensures.err
