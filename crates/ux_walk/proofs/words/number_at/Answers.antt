use Rattle.std.proofs.Common.{◌≡◌, ◌∙◌, ◌<◌, ℕ, Bor, List, ap, arith, sym}
use Rattle.std.specs.Prelude.{Some, Result, Ok, Err}
use Rattle.std.specs.Result.{OkIff, result_ok}
use Rattle.std.proofs.lemmas.List.{length-map}
use Rattle.ux_walk.proofs.WordsLemmas.{found_by_text}
use Rattle.ux_walk.proofs.words.number_at.Goals as goal

-- a number that fits is kept
kept : {E : Type 0} (r : Result ℕ E) (n : ℕ) → OkIff r (n < 4294967296) n → n < 4294967296 →
    Some n ≡ result_ok r
kept (Ok x) n is fits = ap (λ (k : ℕ). Some k) (sym is.1)
kept (Err e) n is fits = absurd (is fits)

pub returns-in_err-number : goal.returns-in_err-number
returns-in_err-number c once few n =
    let found = found_by_text c.args.texts.now.keys c.args.text c.get_index_of.result
    c.get_index_of.ensures.index c.get_index_of.ensures.found once n in
    let same : c.get_index_of.result ≡ c.from_residual.result =
    c.in_err-number.was ∙ sym c.from_residual.ensures in
    (λ is. found.0 (same ∙ is), λ at. sym same ∙ found.1 at)

pub returns : goal.returns
returns c once few n =
    let found = found_by_text c.args.texts.now.keys c.args.text c.get_index_of.result
    c.get_index_of.ensures.index c.get_index_of.ensures.found once n in
    let long = length-map c.args.texts.now.keys (λ (s : Bor (List ℕ)). s.now) in
    let fits : c.in_ok-number.number < 4294967296 =
    omega (arith, long, few, c.in_ok-number.ensures.within) in
    let same : c.get_index_of.result ≡ c.ok.result = c.in_ok-number.was
    ∙ (kept c.try_from.result c.in_ok-number.number c.try_from.ensures fits
    ∙ sym c.ok.ensures.value) in
    (λ is. found.0 (same ∙ is), λ at. sym same ∙ found.1 at)
