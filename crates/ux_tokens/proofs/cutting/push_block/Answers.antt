use Rattle.std.proofs.Common.{◌≡◌, ◌≤◌, length, take, arith}
use Rattle.std.proofs.lemmas.List.{length-take-le}
use Rattle.ux_tokens.specs.Columns.{pieces_of}
use Rattle.ux_tokens.specs.Numbers.{texts_in}
use Rattle.ux_tokens.proofs.CuttingLemmas.{few_different}
use Rattle.ux_tokens.proofs.NumbersLemmas.{length-texts_in}
use Rattle.ux_tokens.proofs.cutting.push_block.Goals as goal

pub number_all-requires-clause-fronts : goal.number_all-requires-clause-fronts
number_all-requires-clause-fronts c =
    let some = c.if-len-eq0.false in
    let alphabet = c.args.alphabet.now in (
      alphabet,
      c.cut_plain-count.ensures.fronts alphabet
          (c.block_len-len.ensures.runs (omega (arith, some))) c.requires.classes,
    )

pub number_all-requires-clause-room : goal.number_all-requires-clause-room
number_all-requires-clause-room c =
    let texts = texts_in c.args.numbers.now in
    let pieces = pieces_of c.args.pieces.now in
    let keys = length-texts_in c.args.numbers.now in
    let fewer : length texts ≤ length pieces =
    few_different c.args.alphabet.now c.args.text.now c.args.start pieces texts c.requires.so_far in
    let some = c.if-len-eq0.false in
    let len = c.block_len-len.ensures in
    let room = len.room (omega (arith, some)) in
    let block = len.block in
    let within = c.cut_plain-count.ensures.within in
    let all = c.cut_plain-count.ensures.len in
    let count = c.cut_plain-count.result in
    let taken : length (take count c.cut_plain-count.new.ends) ≡ count =
    length-take-le count c.cut_plain-count.new.ends (omega (arith, all, within, block)) in
    omega (arith, keys, fewer, room, block, within, taken)

pub returns-clause-so_far : goal.returns-clause-so_far
returns-clause-so_far c =
    let alphabet = c.args.alphabet.now in
    let pieces = pieces_of c.args.pieces.now in
    let some = c.if-len-eq0.false in
    let len = c.block_len-len.ensures in
    let room = len.room (omega (arith, some)) in
    let block = len.block in
    let within = c.cut_plain-count.ensures.within in
    let all = c.cut_plain-count.ensures.len in
    let count = c.cut_plain-count.result in
    let taken : length (take count c.cut_plain-count.new.ends) ≡ count =
    length-take-le count c.cut_plain-count.new.ends (omega (arith, all, within, block)) in
    rw c.in_ok-extend.ensures.pieces
    (c.in_ok-end.ensures.so_far alphabet pieces
    (c.cut_plain-count.ensures.fronts alphabet (len.runs (omega (arith, some))) c.requires.classes)
    (omega (arith, room, block, within, taken)) c.requires.so_far)
