-- Lines without the blanks at their end.
use Rattle.std.proofs.Common.{arith, length-append, ◌≡◌, ℕ, ◌<◌, ◌-◌, List, [], ◌∷◌, ◌++◌, refl, sym, ◌∙◌, ap, cond, Bool, true, false, length, take, get_or}
use Rattle.std.specs.List.{slice_range}
use Rattle.std.proofs.lemmas.List.{take_more}
use Rattle.std.proofs.lemmas.Grind.{common_steps}
use Rattle.std.proofs.lemmas.Bool.Decides.{nat_tests}
use Rattle.ux_alphabet.specs.File.{is_blank, EndsInBlank, IsLessOneBlank, put_first, without_blanks}

-- a blank is ASCII
is_blank-ascii : (b : ℕ) → is_blank b ≡ true → b < 128
is_blank-ascii b h = grind (arith, nat_tests)

pub end-ascii : (line : List ℕ) → EndsInBlank line → get_or line (length line - 1) 0 < 128
end-ascii line h = is_blank-ascii (get_or line (length line - 1) 0) h.1

is_false : (b : Bool) → (b ≡ true → ⊥) → b ≡ false
is_false true h = absurd (h refl)
is_false false h = refl

push_blank : (line : List ℕ) (b : ℕ) → is_blank b ≡ true →
    without_blanks (line ++ b ∷ []) ≡ without_blanks line
push_blank [] b h = ap (λ t. cond t [] (b ∷ [])) h
push_blank (c ∷ line) b h = ap (put_first c) (push_blank line b h)

put_first-longer : (c b : ℕ) (line : List ℕ) → put_first c (line ++ b ∷ []) ≡ c ∷ (line ++ b ∷ [])
put_first-longer c b [] = refl
put_first-longer c b (d ∷ line) = refl

push_other : (line : List ℕ) (b : ℕ) → is_blank b ≡ false →
    without_blanks (line ++ b ∷ []) ≡ line ++ b ∷ []
push_other [] b h = ap (λ t. cond t [] (b ∷ [])) h
push_other (c ∷ line) b h = ap (put_first c) (push_other line b h) ∙ put_first-longer c b line

front_and_last : (line : List ℕ) → 0 < length line →
    line ≡ take (length line - 1) line ++ get_or line (length line - 1) 0 ∷ []
front_and_last line h = grind (arith, common_steps, take_more line (length line - 1) 0)

-- the line without its last character, a blank
pub strip_blank-blank : (line front : List ℕ) → EndsInBlank line →
    front ≡ slice_range line 0 (length line - 1) →
    IsLessOneBlank line front
strip_blank-blank line front h is =
    let end = length line - 1 in
    let last = get_or line end 0 in
    let whole = front_and_last line h.0 in
    let from_start : end - 0 ≡ end = omega arith in
    let cut : front ≡ take end line = is ∙ ap (λ n. take n line) from_start in
    let taken = push_blank (take end line) last h.1 in
    let longer = length-append (take end line) (last ∷ []) in (
      ap without_blanks cut ∙ sym taken ∙ sym (ap without_blanks whole),
      omega (arith, ap length cut, ap length whole, longer),
    )

-- nothing is taken off where no blank ends the line
pub strip_blank-other : (line : List ℕ) → (EndsInBlank line → ⊥) → without_blanks line ≡ line
strip_blank-other [] h = refl
strip_blank-other (c ∷ line) h =
    let some : 0 < length (c ∷ line) = omega arith in
    let whole = front_and_last (c ∷ line) some in
    let last = get_or (c ∷ line) (length (c ∷ line) - 1) 0 in
    let other = is_false (is_blank last) (λ blank. h (some, blank)) in
    let kept = push_other (take (length (c ∷ line) - 1) (c ∷ line)) last other in
    ap without_blanks whole ∙ kept ∙ sym whole
