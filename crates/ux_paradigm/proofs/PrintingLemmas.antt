-- A form as it is printed, cut from a line.
use Rattle.std.proofs.Common.{arith, ◌≡◌, ℕ, ◌+◌, ◌-◌, ◌≤◌, List, [], ◌∷◌, ◌++◌, Bool, true, ap, refl, ◌∙◌, bytes_eq, codes, get_or, length, length-append, take, if◌then◌else◌}
use Rattle.std.specs.String.Boundary.{IsSplitPoint}
use Rattle.std.proofs.lemmas.List.{get_or-append-add, take-append-le}
use Rattle.std.proofs.lemmas.Slice.Eq.{bytes_eq-Decides}
use Rattle.ux_base.proofs.Lists.{take_whole}
use Rattle.ux_dela.specs.Printed.{printed, shielded}
use Rattle.ux_dela.specs.Signs.{COMMA, DOT, is_form_sign}
use Rattle.ux_dela.specs.Written.{written}
use Rattle.ux_paradigm.specs.Behind.{of_stem}
use Rattle.ux_paradigm.specs.Kept.{alone, form_text}

-- the line of a form that is its own lemma, without codes
pub bare_line : (form : List ℕ) →
    printed (of_stem (alone form) form []) ≡ form_text form ++ codes ",."
bare_line form =
    let same : bytes_eq form form ≡ true = (bytes_eq-Decides form form).1 refl in
    ap (λ (t : Bool). form_text form ++ (COMMA ∷ (written (if t then [] else shielded is_form_sign form)
    ++ (DOT ∷ [])))) same

module _ (text line : List ℕ) (is : line ≡ text ++ codes ",.") where
  long : length line ≡ length text + 2
  long = ap length is ∙ length-append text (codes ",.")

  pub has_end : 2 ≤ length line
  has_end = let l = long in omega (arith, l)

  pub cut_line : take (length line - 2) line ≡ text
  cut_line =
      let l = long in
      let at : length line - 2 ≡ length text = omega (arith, l) in
      let low : length text ≤ length text = omega arith in
      ap (λ n. take n line) at
      ∙ (ap (take (length text)) is
      ∙ (take-append-le (length text) text (codes ",.") low ∙ take_whole text (length text) low))

  -- a text may be cut before a comma
  pub may_be_cut : IsSplitPoint line (length line - 2)
  may_be_cut =
      let l = long in
      let at : length line - 2 ≡ length text + 0 = omega (arith, l) in
      let comma : get_or line (length line - 2) 0 ≡ 44 =
      ap (λ b. get_or b (length line - 2) 0) is
      ∙ (ap (λ n. get_or (text ++ codes ",.") n 0) at ∙ get_or-append-add text (codes ",.") 0 0) in
      (omega arith, λ some below high. absurd (omega (arith, comma, high)))
