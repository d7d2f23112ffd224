use Rattle.std.proofs.Common.{arith, sym, ◌∙◌, ap, ◌<◌, ◌≤◌, subst, length, List, map, refl}
use Rattle.std.proofs.lemmas.Result.{IfOk-weaker, MatchResult-weaker}
use Rattle.ux_grf.specs.declared.box_line.BoxLine.{BoxLine}
use Rattle.ux_grf.specs.BoxLine.{said_by}
use Rattle.ux_digraph.specs.Paths.{IsInside}
use Rattle.ux_grf.specs.Header.{after_header}
use Rattle.ux_grf.specs.File.{Draws, IsGraphOf}
use Rattle.ux_grf.proofs.ReadLemmas.{boxes_len, boxes_inside, has_texts, texts_refuse}
use Rattle.ux_grf.proofs.read.read_graph.Goals as goal

pub make_graph-requires-clause-two : goal.make_graph-requires-clause-two
make_graph-requires-clause-two c =
    let len = boxes_len c.in_ok-count.count _ c.in_ok-boxes.boxes.items c.in_ok-boxes.ensures.texts
    in
    let two = c.in_ok-count.ensures.range.0 in
    subst (λ (bs : List BoxLine). 1 < length bs) (sym c.deref.ensures.value) (omega arith)

pub make_graph-requires-clause-most : goal.make_graph-requires-clause-most
make_graph-requires-clause-most c =
    let len = boxes_len c.in_ok-count.count _ c.in_ok-boxes.boxes.items c.in_ok-boxes.ensures.texts
    in
    let most = c.in_ok-count.ensures.range.1 in
    subst (λ (bs : List BoxLine). length bs ≤ 65535) (sym c.deref.ensures.value) (omega arith)

pub make_graph-requires-clause-inside : goal.make_graph-requires-clause-inside
make_graph-requires-clause-inside c =
    subst (λ (bs : List BoxLine). IsInside (map (λ (b : BoxLine). b.targets.items) bs))
    (sym c.deref.ensures.value)
    (boxes_inside c.in_ok-count.count _ c.in_ok-boxes.boxes.items c.in_ok-boxes.ensures.texts
    c.in_ok-boxes.ensures.good)

-- what the file tells of its boxes
pub returns-clause-ok : goal.returns-clause-ok
returns-clause-ok c =
    let texts = map said_by c.deref.result.now in
    IfOk-weaker c.make_graph.result (Draws c.args.kind texts)
    (IsGraphOf c.args.kind c.args.text.now)
    (λ graph drawn. (
      texts,
      has_texts c.args.text.now c.in_ok-count.count _ c.next_count.new.lines c.deref.result.now
          c.in_ok-boxes.boxes.items
          (ap after_header (sym c.lines-lines.ensures) ∙ c.if-not-skip_header.ensures.yes refl)
          c.in_ok-count.ensures.count c.in_ok-boxes.ensures.good c.in_ok-boxes.ensures.texts
          c.deref.ensures.value,
      drawn,
    ))
    c.make_graph.ensures.draws

pub returns-clause-err : goal.returns-clause-err
returns-clause-err c =
    MatchResult-weaker c.make_graph.result c.make_graph.ensures.refused (λ g h. h)
    (λ e h. texts_refuse c.args.kind c.args.text.now (map said_by c.deref.result.now) e
    (has_texts c.args.text.now c.in_ok-count.count _ c.next_count.new.lines c.deref.result.now
    c.in_ok-boxes.boxes.items
    (ap after_header (sym c.lines-lines.ensures) ∙ c.if-not-skip_header.ensures.yes refl)
    c.in_ok-count.ensures.count c.in_ok-boxes.ensures.good c.in_ok-boxes.ensures.texts
    c.deref.ensures.value) h)
