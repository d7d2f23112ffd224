use Rattle.std.proofs.Common.{arith, ◌≡◌, ◌+◌, string_bytes, ℕ, suc, length, List, [], ◌∷◌, ◌++◌, Option, Some, ap, subst, sym, ◌∙◌, length-append}
use Rattle.std.proofs.lemmas.Grind.{common_steps}
use Rattle.std.specs.Prelude.{IsSomeAnd}
use Rattle.std.specs.Fmt.{decimal}
use Rattle.std.specs.List.{flat_map, slice_get}
use Rattle.ux_tokens.specs.Tokens.{Token}
use Rattle.ux_tokens.specs.Numbers.{different_texts}
use Rattle.ux_tokens.specs.TokenFile.{line_of}
use Rattle.ux_tokens.proofs.PrintingLemmas.{there, so_far, so_far-new, so_far-known, lines-more}
use Rattle.ux_tokens.proofs.printing.print_tokens.Goals as goal
use Rattle.ux_tokens.proofs.printing.print_tokens.Goals.{then-number-printed+in_ok-push_line, else-number-printed}

pub loop-i-preserved : goal.loop-i-preserved
loop-i-preserved c =
    let tokens = c.args.text.now in
    let i = c.loop-i.i in
    let head = line_of (decimal (length (different_texts tokens))) in
    let known = c.loop-i.invariant in
    let next : i + 1 ≡ suc i = omega arith in
    let t = there (slice_get tokens i)
    (λ (token : Token). slice_get (different_texts tokens) c.number.result ≡ Some token.text)
    c.number.ensures.place in
    elim c.if-number-printed.branch [
      | then-number-printed+in_ok-push_line w ↦
          let is : c.number.result ≡ length (so_far tokens i) =
          w.if-number-printed.true ∙ known.printed in
          let more : so_far tokens (i + 1) ≡ so_far tokens i ++ t.0.text ∷ [] =
          ap (so_far tokens) next ∙ so_far-new tokens i t.0 t.1 c.number.result t.2 is in
          let text : w.token.result.now ≡ t.0.text =
          subst (λ (o : Option Token). IsSomeAnd o (λ x. w.token.result.now ≡ x.text)) t.1
          w.token.ensures in
          let line : string_bytes w.push_line.new.file ≡ string_bytes c.loop-i.file ++ line_of t.0.text =
          w.in_ok-push_line.ensures
          ∙ ap (λ (l : List ℕ). string_bytes c.loop-i.file ++ line_of l) text in
          let one : length (so_far tokens (i + 1)) ≡ length (so_far tokens i) + 1 =
          ap length more ∙ length-append (so_far tokens i) (t.0.text ∷ []) in
          rw (w.file-is, w.printed-is) (record {
            written = line ∙ ap (λ (l : List ℕ). l ++ line_of t.0.text) known.written
                ∙ sym (lines-more head (so_far tokens i) t.0.text)
                ∙ ap (λ (l : List (List ℕ)). head ++ flat_map line_of l) (sym more);
            printed = ap (λ (n : ℕ). n + 1) known.printed ∙ sym one;
          })
      | else-number-printed w ↦
          let same : so_far tokens (i + 1) ≡ so_far tokens i =
          ap (so_far tokens) next ∙ so_far-known tokens i t.0 t.1 c.number.result t.2
          (λ is. w.if-number-printed.false (is ∙ sym known.printed)) in
          rw (w.file-is, w.printed-is) (record {
            written = known.written
                ∙ ap (λ (l : List (List ℕ)). head ++ flat_map line_of l) (sym same);
            printed = known.printed ∙ ap length (sym same);
          })
    ]

pub returns : goal.returns
returns c = grind (arith, common_steps)
