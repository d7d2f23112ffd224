use Rattle.std.proofs.Common.{◌≡◌, ℕ, List, length, sym, subst, arith}
use Rattle.ux_tokens.specs.Columns.{pieces_of}
use Rattle.ux_tokens.specs.Cutting.{IsSoFar}
use Rattle.ux_tokens.specs.Known.{AreKnown}
use Rattle.ux_tokens.specs.Numbers.{texts_in}
use Rattle.ux_tokens.proofs.CuttingLemmas.{so_far_start}
use Rattle.ux_tokens.proofs.MarksLemmas.{free_later}
use Rattle.ux_tokens.proofs.cutting.push_tokens.Goals as goal

pub loop-end-init : goal.loop-end-init
loop-end-init c =
    let so_far = so_far_start c.args.alphabet.now c.args.text.now c.utf8.text in
    record {
      classes = c.requires.classes;
      so_far = rw c.requires.no_pieces (rw c.requires.none so_far);
      even = c.requires.even;
      known =
          subst (λ (l : List (List ℕ)). AreKnown l c.args.known.now) (sym c.requires.none)
          c.requires.known;
      free = λ k low high tag. omega (arith, high);
    }

pub push_front-requires-clause-so_far : goal.push_front-requires-clause-so_far
push_front-requires-clause-so_far c =
    let block = c.in_ok-after.ensures in
    let not_later = c.if-after-end.false in
    let in_order = block.in_order in
    let same : c.in_ok-after.after ≡ c.loop-end.end = omega (arith, not_later, in_order) in
    subst (λ (n : ℕ). IsSoFar c.args.alphabet.now c.args.text.now n
    (pieces_of c.push_block.new.pieces) (texts_in c.push_block.new.numbers)) same block.so_far

pub loop-end-preserved-then-after-end : goal.loop-end-preserved-then-after-end
loop-end-preserved-then-after-end c =
    let before = c.loop-end.invariant in
    let block = c.in_ok-after.ensures in
    record {
      classes = before.classes;
      so_far = block.so_far;
      even = block.even;
      known = block.known;
      free = free_later c.args.text.now c.loop-end.end c.in_ok-after.after c.loop-end.free
          block.in_order before.free;
    }

pub returns-clause-so_far : goal.returns-clause-so_far
returns-clause-so_far c =
    let within = c.loop-end.invariant.so_far.between.0 in
    let all : c.loop-end.end ≡ length c.args.text.now = omega (arith, within) in
    subst (λ (n : ℕ). IsSoFar c.args.alphabet.now c.args.text.now n (pieces_of c.loop-end.pieces)
    (texts_in c.loop-end.numbers)) all c.loop-end.invariant.so_far
