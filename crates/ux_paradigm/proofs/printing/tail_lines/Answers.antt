use Rattle.std.proofs.Common.{◌≡◌, ◌++◌, ℕ, List, [], ap, cond, ◌∙◌}
use Rattle.std.specs.List.{flat_map}
use Rattle.ux_paradigm.specs.Kept.{form_text, middle}
use Rattle.ux_paradigm.specs.declared.tail.Tail.{Tail}
use Rattle.ux_paradigm.proofs.printing.tail_lines.Goals as goal

-- the parts are those of the stem's lines
pub returns : goal.returns
returns c =
    let stem = c.args.stem.now in
    let front : c.as_str-2.result.now ≡ form_text c.args.front.now =
    c.as_str-2.ensures.value ∙ c.in_ok-front.ensures in
    let apart : c.as_str-3.result.now ≡ middle stem stem.lemma =
    c.as_str-3.ensures.value ∙ (c.in_ok-apart.ensures ∙ ap (middle stem) c.as_str.ensures) in
    let same : c.as_str-4.result.now ≡ middle stem [] =
    c.as_str-4.ensures.value ∙ c.in_ok-same.ensures in
    let by : List ℕ → List ℕ → List ℕ → List ℕ =
    λ f a s. flat_map (λ (tail : Tail). f ++ (tail.form
    ++ (cond tail.is_lemma s a ++ tail.codes))) c.args.tails.now in
    c.in_ok-put_tails.ensures
    ∙ (ap (λ (l : List ℕ). l
    ++ by c.as_str-2.result.now c.as_str-3.result.now c.as_str-4.result.now) c.new-lines.ensures.bytes
    ∙ λ i. by (front i) (apart i) (same i))
