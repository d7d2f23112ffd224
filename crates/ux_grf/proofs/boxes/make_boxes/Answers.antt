use Rattle.std.proofs.Common.{arith, ◌<◌, ◌∙◌, ap, subst, sym, length, length-append, map, List}
use Rattle.std.proofs.lemmas.Grind.{common_steps}
use Rattle.std.proofs.lemmas.Result.{err_from_is_err_and}
use Rattle.std.proofs.lemmas.List.{length-map}
use Rattle.ux_grf.specs.declared.graph.GrfBox.{GrfBox}
use Rattle.ux_grf.specs.BoxLine.{said_by}
use Rattle.ux_grf.specs.Content.{IsMade}
use Rattle.ux_digraph.specs.Rules.{is_marked_at}
use Rattle.ux_grf.proofs.ReadLemmas.{text_is}
use Rattle.ux_grf.proofs.MadeLemmas.{made_more, bad_marked}
use Rattle.ux_grf.proofs.boxes.make_boxes.Goals as goal

pub returns-in_err-make_box-clause-err : goal.returns-in_err-make_box-clause-err
returns-in_err-make_box-clause-err c =
    let p = err_from_is_err_and c.from_residual.result c.from_residual.ensures.1 in
    let lt = c.loop-node-test.true in
    rw (p.1, p.2)
    (bad_marked (map said_by c.args.boxes.now) c.args.reached.now c.loop-node.made.items
    c.loop-node.node (said_by c.index-boxes-node.result) _
    (subst (λ n. c.loop-node.node < n) (sym (length-map c.args.boxes.now said_by)) lt)
    (text_is c.args.boxes.now c.loop-node.node c.index-boxes-node.result lt c.index-boxes-node.is)
    c.loop-node.invariant.made c.in_err-make_box.ensures.err)

pub loop-node-preserved : goal.loop-node-preserved
loop-node-preserved c =
    let lt = c.loop-node-test.true in
    record {
      len = ap (λ (bs : List GrfBox). length bs) c.in_ok-push.ensures.items
          ∙ (length-append c.loop-node.made.items _ ∙ omega (arith, c.loop-node.invariant.len));
      made = made_more (map said_by c.args.boxes.now) c.args.reached.now c.loop-node.made.items
          c.push.new.self.items c.loop-node.node c.in_ok-make_box.field-0
          c.loop-node.invariant.len c.loop-node.invariant.made
          (subst (λ t. IsMade c.args.kind t c.loop-node.node (is_marked_at c.args.reached.now c.loop-node.node)
          c.in_ok-make_box.field-0)
          (text_is c.args.boxes.now c.loop-node.node c.index-boxes-node.result lt
          c.index-boxes-node.is) c.in_ok-make_box.ensures.made)
          c.in_ok-push.ensures.items;
    }

pub loop-node-init : goal.loop-node-init
loop-node-init c = grind (arith, common_steps)

pub offset_bounds-boxes-node : goal.offset_bounds-boxes-node
offset_bounds-boxes-node c = grind (arith, common_steps)

pub bounds-boxes-node : goal.bounds-boxes-node
bounds-boxes-node c = grind (arith, common_steps)

pub overflow_cast-node : goal.overflow_cast-node
overflow_cast-node c = grind (arith, common_steps)

pub bounds-reached-node : goal.bounds-reached-node
bounds-reached-node c = grind (arith, common_steps)

pub returns-in_err-make_box-clause-len : goal.returns-in_err-make_box-clause-len
returns-in_err-make_box-clause-len c = grind (arith, common_steps)

pub returns-in_err-make_box-clause-made : goal.returns-in_err-make_box-clause-made
returns-in_err-make_box-clause-made c = grind (arith, common_steps)

pub returns-in_err-push-clause-len : goal.returns-in_err-push-clause-len
returns-in_err-push-clause-len c = grind (arith, common_steps)

pub returns-in_err-push-clause-made : goal.returns-in_err-push-clause-made
returns-in_err-push-clause-made c = grind (arith, common_steps)

pub returns-in_err-push-clause-err : goal.returns-in_err-push-clause-err
returns-in_err-push-clause-err c = grind (arith, common_steps)

pub returns-clause-len : goal.returns-clause-len
returns-clause-len c = grind (arith, common_steps)

pub returns-clause-made : goal.returns-clause-made
returns-clause-made c = grind (arith, common_steps)
