use Rattle.ux_tokens.proofs.RegionLemmas.{tell_open, tell_none, tell_some}
use Rattle.ux_tokens.proofs.tags.find_tag.Goals as goal

pub returns-then-not-closes : goal.returns-then-not-closes
returns-then-not-closes c =
    let region = c.region_len-len.ensures in
    tell_open c.args.text.now c.region_len-len.result c.requires region.region region.within
    (λ closes. let t = c.closes.ensures.1 closes in let f = c.if-not-closes.true in cc)

pub returns-in-None : goal.returns-in-None
returns-in-None c =
    let region = c.region_len-len.ensures in
    tell_none c.args.text.now c.region_len-len.result c.requires region.region region.within
    c.in-None.ensures

pub returns-in-Some : goal.returns-in-Some
returns-in-Some c =
    let region = c.region_len-len.ensures in
    tell_some c.args.text.now c.region_len-len.result c.requires region.region region.within
    (c.closes.ensures.0 c.if-not-closes.false) c.in-Some.place
    c.in-Some.ensures
