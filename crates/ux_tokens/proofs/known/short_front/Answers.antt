use Rattle.std.proofs.Common.{◌≡◌, ℕ, ◌-◌, ◌*◌, ◌/◌, ◌^◌, ◌<◌, List, get_or, take, sym, ◌∙◌, ap, subst, arith, rules}
use Rattle.std.specs.Int.{bytes_high_first, to_be_bytes, w128}
use Rattle.std.proofs.lemmas.List.{take-take}
use Rattle.ux_tokens.proofs.BytesLemmas.{be_bytes_16}
use Rattle.ux_tokens.proofs.KnownLemmas.{bytes_shifted, take_fits}
use Rattle.ux_tokens.proofs.known.short_front.Goals as goal

-- the number of sixteen bytes, without those after the text
pub returns-clause-bytes : goal.returns-clause-bytes
returns-clause-bytes c =
    let len = c.args.len in
    let word = c.from_be_bytes.result in
    let front = c.in_ok-front.front.now in
    let bytes : to_be_bytes w128 word ≡ front =
    be_bytes_16 front word (search rules)
    (subst (λ (l : List ℕ). (i : ℕ) → get_or l i 0 < 256) (sym c.in_ok-front.ensures.cases.same)
    (take_fits 16 c.args.text.now (λ i. omega (arith, c.type_inv.text i))))
    c.from_be_bytes.ensures in
    let bits : 8 * (16 - len) ≡ 128 - 8 * len = omega arith in
    ap (λ (e : ℕ). bytes_high_first len (word / 2 ^ e)) (sym bits)
    ∙ sym (bytes_shifted len (16 - len) 16 word (omega arith))
    ∙ ap (take len) (bytes ∙ c.in_ok-front.ensures.cases.same)
    ∙ take-take len 16 c.args.text.now (omega arith)
