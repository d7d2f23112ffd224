use Rattle.std.proofs.Common.{ℕ, length, sym, ap, subst, arith}
use Rattle.std.proofs.lemmas.List.{length_push}
use Rattle.ux_tokens.specs.Blocks.{IsClass}
use Rattle.ux_tokens.proofs.BlocksLemmas.{class_more}
use Rattle.ux_tokens.proofs.classes.classes.Goals as goal

pub loop-byte-preserved : goal.loop-byte-preserved
loop-byte-preserved c =
    let items = c.in_ok-push.ensures.items in
    let so_far = c.loop-byte.invariant in
    record {
      len =
          let longer = length_push c.loop-byte.kinds.items c.class_of.result in
          let same = ap length items in
          omega (arith, same, longer, so_far.len);
      each = λ byte kind at.
          class_more c.args.alphabet.now c.loop-byte.kinds.items c.class_of.result so_far.each
          (subst (λ (n : ℕ). IsClass c.args.alphabet.now n c.class_of.result)
          (sym so_far.len) c.class_of.ensures) byte kind (rw items at at);
    }
