use Rattle.std.proofs.lemmas.Result.{IfOk-weaker}
use Rattle.ux_dela.specs.Reading.{MayBeTag}
use Rattle.ux_dela.proofs.TagLemmas.{tag_may_be, tag_no_fault, tag_found, tag_found_sound}
use Rattle.ux_dela.proofs.tag.read_tag.Goals as goal

pub returns-then-not-may_be_tag-clause-exact : goal.returns-then-not-may_be_tag-clause-exact
returns-then-not-may_be_tag-clause-exact c =
    λ entry is. (let t = c.may_be_tag.ensures.1 (tag_may_be c.args.body.now entry is) in
    let f = c.if-not-may_be_tag in cc)

pub returns-in-Ok-clause-exact : goal.returns-in-Ok-clause-exact
returns-in-Ok-clause-exact c =
    let may : MayBeTag c.args.body.now = c.may_be_tag.ensures.0 c.if-not-may_be_tag.false in
    IfOk-weaker c.read_cut.result _ _
    (tag_found c.args.body.now c.in-Ok.cut may c.in-Ok.ensures.ok) c.read_cut.ensures

pub returns-in-Ok-clause-sound : goal.returns-in-Ok-clause-sound
returns-in-Ok-clause-sound c =
    let may : MayBeTag c.args.body.now = c.may_be_tag.ensures.0 c.if-not-may_be_tag.false in
    IfOk-weaker c.read_cut.result _ _
    (tag_found_sound c.args.body.now c.in-Ok.cut may c.in-Ok.ensures.ok) c.read_cut.ensures

pub returns-in-Err-clause-exact : goal.returns-in-Err-clause-exact
returns-in-Err-clause-exact c =
    λ entry is. tag_no_fault c.args.body.now 1 c.in-Err.field-0 entry c.in-Err.ensures.err is
