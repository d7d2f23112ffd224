use lib.Pointwise.{bytes_decides}
use Rattle.ux_inflect.specs.contracts.outcomes.LinePartialEq.TheImpl.{ghosts}
use Rattle.ux_inflect.proofs.NumberLemmas.{both}
use Rattle.ux_inflect.proofs.OutcomeLemmas.{more_insert, same_line}
use Rattle.ux_inflect.proofs.outcomes.insert_line.Goals as goal

pub returns : goal.returns
returns c =
    more_insert ghosts.eq (λ x y t.
    let e = both _ _ t in
    let f = both _ _ e.1 in
    same_line x y ((bytes_decides x.text y.text).0 e.0) ((bytes_decides x.form y.form).0 f.0)
    ((bytes_decides x.output y.output).0 f.1)) c.args.lines.now.keys c.insert.new.self.keys c.args.line
    c.in_ok-insert.ensures.keys
