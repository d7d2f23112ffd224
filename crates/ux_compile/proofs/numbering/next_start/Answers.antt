use Rattle.std.proofs.Common.{arith, ◌≡◌, length, ap, ◌∙◌}
use Rattle.ux_boxes.specs.Places.{label_lines}
use Rattle.ux_compile.specs.Construct.{first_chain}
use Rattle.ux_compile.proofs.StatesLemmas.{chain_fits, chain_next, chain_last}
use Rattle.ux_compile.proofs.numbering.next_start.Goals as goal

pub overflow_cast-first : goal.overflow_cast-first
overflow_cast-first c =
    let fits = chain_fits c.args.places.now c.requires.fit c.args.place c.loop-line.line
    c.requires.place (omega arith) in
    omega arith

pub overflow_add-first : goal.overflow_add-first
overflow_add-first c =
    let fits = chain_fits c.args.places.now c.requires.fit c.args.place c.loop-line.line
    c.requires.place (omega arith) in
    omega arith

pub loop-line-preserved : goal.loop-line-preserved
loop-line-preserved c =
    let next = chain_next c.args.places.now c.args.place c.loop-line.line in omega arith

pub returns : goal.returns
returns c =
    let end : c.loop-line.line ≡ length (label_lines c.args.places.now c.args.place) =
    omega arith in
    c.loop-line.invariant
    ∙ (ap (first_chain c.args.places.now c.args.place) end
    ∙ chain_last c.args.places.now c.args.place)
