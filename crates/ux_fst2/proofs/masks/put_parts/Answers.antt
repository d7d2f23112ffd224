use Rattle.std.proofs.Common.{◌++◌, ℕ, List, ◌∙◌, ap, refl, string_bytes}
use Rattle.std.specs.List.{flat_map}
use Rattle.ux_masks.specs.Signs.{COLON, TILDE}
use Rattle.ux_fst2.specs.Masks.{behind_sign, codes_text, is_code_alone}
use Rattle.ux_fst2.proofs.PrintingLemmas.{four_put}
use Rattle.ux_fst2.proofs.masks.put_parts.Goals as goal

pub returns : goal.returns
returns c =
    let parts = c.args.parts.now in
    let first = string_bytes c.put_target.new.out in
    let second = string_bytes c.put_codes.new.out in
    let third = string_bytes c.put_behind.new.out in
    let alone = is_code_alone parts.form parts.lemma in
    let need = ap (λ (t : List (List ℕ)). codes_text c.stands_alone.result t) c.as_slice.ensures
    ∙ ap (λ b. codes_text b parts.need) c.stands_alone.ensures in
    four_put (string_bytes c.args.out.now) first second third
    (string_bytes c.put_behind-2.new.out) _ (codes_text alone parts.need)
    (flat_map (behind_sign TILDE) parts.forbid) (flat_map (behind_sign COLON) parts.infl)
    c.in_ok-put_target.ensures
    (c.in_ok-put_codes.ensures ∙ ap (λ (t : List ℕ). first ++ t) need)
    (c.in_ok-put_behind.ensures TILDE refl
    ∙ ap (λ (t : List (List ℕ)). second ++ flat_map (behind_sign TILDE) t) c.as_slice-2.ensures)
    (c.in_ok-put_behind-2.ensures COLON refl
    ∙ ap (λ (t : List (List ℕ)). third ++ flat_map (behind_sign COLON) t) c.as_slice-3.ensures)
