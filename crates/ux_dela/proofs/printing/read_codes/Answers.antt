use Rattle.std.proofs.lemmas.Result.{IfOk-weaker}
use Rattle.ux_dela.proofs.CodesTextLemmas.{codes_may_be, codes_not_empty, codes_found}
use Rattle.ux_dela.proofs.printing.read_codes.Goals as goal

pub returns-then-not-may_be_codes : goal.returns-then-not-may_be_codes
returns-then-not-may_be_codes c =
    λ codes is. (let t = c.may_be_codes.ensures.1 (codes_may_be c.args.text.now codes is) in
    let f = c.if-not-may_be_codes in cc)

pub returns-in-Ok : goal.returns-in-Ok
returns-in-Ok c =
    IfOk-weaker c.if_printed.result _ _
    (codes_found c.args.text.now c.in-Ok.codes
    (c.may_be_codes.ensures.0 c.if-not-may_be_codes.false) c.in-Ok.ensures.ok) c.if_printed.ensures

pub returns-in-Err-Empty : goal.returns-in-Err-Empty
returns-in-Err-Empty c =
    let stops = rw c.in-Err-Empty.field-0-is at c.in-Err-Empty.ensures.err in
    λ codes is. codes_not_empty c.args.text.now _ codes stops.2 is
