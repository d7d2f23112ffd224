use Rattle.std.proofs.lemmas.Result.{IfErr-weaker, IfOk-weaker}
use Rattle.ux_image_lists.proofs.FieldLemmas.{still}
use Rattle.ux_image_lists.proofs.ImageLaws.{front_within, has_lists, refuses_lists}
use Rattle.ux_image_lists.proofs.image.read_behind.Goals as goal

pub split_at-requires : goal.split_at-requires
split_at-requires c = front_within c.args.bytes.now c.args.front.now c.requires.front

pub returns-clause-ok : goal.returns-clause-ok
returns-clause-ok c =
    IfOk-weaker c.read_lists.result _ _
    (λ all begins. has_lists c.args.bytes.now c.args.front.now c.in_ok-shortest.shortest.items
    c.as_slice.result.now c.split_at.result.1.now c.in_ok-shortest.ensures c.as_slice.ensures.value
    c.split_at.ensures.back all.keys begins) c.read_lists.ensures.ok

pub returns-clause-err : goal.returns-clause-err
returns-clause-err c =
    IfErr-weaker c.read_lists.result _ _
    (λ error stops. still stops (λ refused.
    refuses_lists c.args.bytes.now c.args.front.now c.in_ok-shortest.shortest.items
    c.as_slice.result.now c.split_at.result.1.now c.in_ok-shortest.ensures c.as_slice.ensures.value
    c.split_at.ensures.back error refused)) c.read_lists.ensures.err
