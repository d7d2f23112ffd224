use Rattle.std.proofs.Common.{arith, ◌≡◌, ◌-◌, length, take, ap, ◌∙◌}
use Rattle.std.proofs.Common.{length-append, ℕ}
use Rattle.ux_image.proofs.SharedLemmas.{whole, front_is, front_boundary}
use Rattle.ux_image.specs.Codes.{front_chars}
use Rattle.ux_image.proofs.characters.front_chars.Goals as goal

pub overflow_sub-text : goal.overflow_sub-text
overflow_sub-text c =
    let cut = whole c.args.count c.args.text.now c.behind_chars-rest.result.now c.utf8.text
    c.behind_chars-rest.utf8 c.behind_chars-rest.ensures in
    omega (
      arith,
      ap (length {A = ℕ}) cut,
      length-append (front_chars c.args.count c.args.text.now) c.behind_chars-rest.result.now,
    )

pub range-requires-clause-end_boundary : goal.range-requires-clause-end_boundary
range-requires-clause-end_boundary c =
    front_boundary c.args.count c.args.text.now c.behind_chars-rest.result.now c.utf8.text
    c.behind_chars-rest.utf8 c.behind_chars-rest.ensures

pub returns : goal.returns
returns c =
    let text = c.args.text.now in
    let rest = c.behind_chars-rest.result.now in
    let all : length text - length rest - 0 ≡ length text - length rest = omega arith in
    c.range.ensures.value
    ∙ ap (λ n. take n text) all
    ∙ front_is c.args.count text rest c.utf8.text c.behind_chars-rest.utf8
    c.behind_chars-rest.ensures
