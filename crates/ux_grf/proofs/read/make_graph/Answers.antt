use Rattle.std.proofs.Common.{sym, ◌∙◌, ap, ◌≡◌, ◌<◌, subst, map, List, ℕ, length, arith}
use Rattle.std.proofs.lemmas.Grind.{common_steps}
use Rattle.std.proofs.lemmas.Result.{err_from_is_err_and}
use Rattle.std.proofs.lemmas.List.{length-map}
use Rattle.ux_digraph.specs.Paths.{IsInside}
use Rattle.ux_grf.specs.declared.box_line.BoxLine.{BoxLine}
use Rattle.ux_grf.specs.BoxLine.{said_by}
use Rattle.ux_grf.specs.Reached.{ways_of}
use Rattle.ux_grf.specs.File.{ways_in}
use Rattle.ux_grf.proofs.ReadLemmas.{ways_inside, targets_said}
use Rattle.ux_grf.proofs.MadeLemmas.{marks_reached, marked_refuses, draws}
use Rattle.ux_grf.proofs.read.make_graph.Goals as goal

pub reached-requires-clause-inside : goal.reached-requires-clause-inside
reached-requires-clause-inside c =
    let rows = map (λ (b : BoxLine). b.targets.items) c.args.boxes.now in
    subst (λ ws. IsInside ws) (sym (c.deref.ensures.value ∙ c.in_ok-ways.ensures))
    (ways_inside rows (subst (λ n. 1 < n) (sym (length-map c.args.boxes.now (λ
    (b : BoxLine). b.targets.items))) c.requires.two)
    c.requires.inside)

-- the ways that the search goes
ways_are : (boxes : List BoxLine) (ways : List (List ℕ)) →
    ways ≡ ways_of (map (λ (b : BoxLine). b.targets.items) boxes) →
    ways ≡ ways_in (map said_by boxes)
ways_are boxes ways is = is ∙ ap ways_of (sym (targets_said boxes))

pub returns-in_err-make_boxes-clause-refused : goal.returns-in_err-make_boxes-clause-refused
returns-in_err-make_boxes-clause-refused c =
    let p = err_from_is_err_and c.from_residual-in_err-make_boxes.result
    c.from_residual-in_err-make_boxes.ensures.1 in
    let is = ways_are c.args.boxes.now _ (c.deref.ensures.value ∙ c.in_ok-ways.ensures) in
    rw (p.1, p.2)
    (marked_refuses (map said_by c.args.boxes.now) c.deref-2.result.now
    (marks_reached c.deref.result.now (ways_in (map said_by c.args.boxes.now))
    c.in_ok-reached.reached.items is c.in_ok-reached.ensures.marks c.deref-2.result.now
    c.deref-2.ensures.value) c.args.kind _ c.in_err-make_boxes.ensures.err)

pub returns-clause-draws : goal.returns-clause-draws
returns-clause-draws c =
    let is = ways_are c.args.boxes.now _ (c.deref.ensures.value ∙ c.in_ok-ways.ensures) in
    let texts = map said_by c.args.boxes.now in
    draws texts c.deref-2.result.now
    (marks_reached c.deref.result.now (ways_in texts) c.in_ok-reached.reached.items is
    c.in_ok-reached.ensures.marks c.deref-2.result.now c.deref-2.ensures.value)
    (record { boxes = c.new.result }) c.in_ok-make_boxes.field-0.items
    (length c.args.boxes.now) c.new.ensures
    (sym (length-map c.args.boxes.now said_by)) c.in_ok-make_boxes.ensures.len
    c.in_ok-make_boxes.ensures.made

pub reached-requires-clause-start : goal.reached-requires-clause-start
reached-requires-clause-start c = grind (arith, common_steps)

pub make_boxes-requires-clause-len : goal.make_boxes-requires-clause-len
make_boxes-requires-clause-len c = grind (arith, common_steps)
