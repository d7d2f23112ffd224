use Rattle.std.proofs.Common.{◌≡◌, ◌-◌, ◌≤◌, length, drop, refl, arith}
use Rattle.std.proofs.lemmas.Grind.{common_steps}
use Rattle.std.proofs.lemmas.List.{length-drop}
use Rattle.std.proofs.lemmas.Str.{IsUtf8-drop}
use Rattle.ux_tokens.specs.declared.cutting.TheConstants.{MAX_TOKENS}
use Rattle.ux_tokens.specs.Numbers.{texts_in}
use Rattle.ux_tokens.specs.Columns.{pieces_of}
use Rattle.ux_tokens.specs.Pieces.{tokens_from}
use Rattle.ux_tokens.proofs.PiecesLemmas.{length-tokens_from}
use Rattle.ux_tokens.proofs.WholeLemmas.{has_more}
use Rattle.ux_tokens.proofs.CuttingLemmas.{so_far_next, few_different}
use Rattle.ux_tokens.proofs.MarksLemmas.{free_later}
use Rattle.ux_tokens.proofs.NumbersLemmas.{length-texts_in}
use Rattle.ux_tokens.proofs.cutting.push_front.Goals as goal

pub returns-then-len-eq-MAX_TOKENS-clause-err : goal.returns-then-len-eq-MAX_TOKENS-clause-err
returns-then-len-eq-MAX_TOKENS-clause-err c =
    let alphabet = c.args.alphabet.now in
    let text = c.args.text.now in
    let pieces = pieces_of c.args.pieces.now in
    let so_far = c.requires.so_far in
    let same : length (tokens_from text 0 pieces) ≡ length pieces = length-tokens_from text 0 pieces
    in
    let left : length (drop c.args.start text) ≡ length text - c.args.start =
    length-drop c.args.start text in
    let more = has_more alphabet text (drop c.args.start text)
    (tokens_from text 0 pieces) (IsUtf8-drop text c.args.start c.utf8.text so_far.between)
    (omega arith) so_far.tokens in
    (more.0, more.1, omega (arith, more.2))

pub number_front-requires-clause-room : goal.number_front-requires-clause-room
number_front-requires-clause-room c =
    let pieces = pieces_of c.args.pieces.now in
    let texts = texts_in c.args.numbers.now in
    let keys = length-texts_in c.args.numbers.now in
    let fewer : length texts ≤ length pieces =
    few_different c.args.alphabet.now c.args.text.now c.args.start pieces texts c.requires.so_far in
    let few : length pieces ≤ MAX_TOKENS = c.requires.so_far.few in
    omega (arith, keys, fewer, few)

pub returns-clause-so_far : goal.returns-clause-so_far
returns-clause-so_far c =
    let so_far = c.requires.so_far in
    let few = so_far.few in
    let front = c.in_ok-front.ensures in
    rw c.in_ok-push.ensures.pieces
    (so_far_next c.args.alphabet.now c.args.text.now c.utf8.text c.args.start
    (pieces_of c.args.pieces.now) (texts_in c.args.numbers.now) (texts_in c.number_front.new.numbers)
    (drop c.args.start c.args.text.now) c.in_ok-front.front so_far (omega (arith, few))
    refl front.front front.texts front.place)

pub returns-clause-free : goal.returns-clause-free
returns-clause-free c =
    free_later c.args.text.now c.args.start _ c.number_front.new.free (omega arith)
    c.in_ok-front.ensures.free

pub overflow_add-end : goal.overflow_add-end
overflow_add-end c = grind (arith, common_steps)
