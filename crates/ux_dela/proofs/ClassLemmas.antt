-- A class is its longest front of letters, and digits behind it.
use Rattle.std.proofs.Common.{arith, ◌≡◌, ◌≢◌, ℕ, suc, ◌<◌, ◌≤◌, ◌+◌, ◌-◌, List, [], ◌∷◌, ◌++◌, true, false, inl, inr, refl, sym, ◌∙◌, ap, subst, length, take, drop, get_or}
use Rattle.std.specs.Prelude.{nat_le}
use Rattle.std.specs.List.{list_all, prefix_len, slice_range}
use Rattle.std.specs.Str.{IsCharBoundary}
use Rattle.std.proofs.lemmas.Bool.{and_parts, and_from, cond-true, cond-false, cases_Bool, leb-true, false_from_ne_true}
use Rattle.std.proofs.lemmas.List.{take-append-drop, drop_at, length-drop, length-take-le, get_or-drop}
use Rattle.ux_dela.specs.Signs.{is_upper, is_digit}
use Rattle.ux_dela.specs.Delas.{IsClass}

-- a digit is no letter
digit_other : (b : ℕ) → is_digit b ≡ true → is_upper b ≡ false
digit_other b d =
    false_from_ne_true (is_upper b)
    (λ u.
    (let small = leb-true b 57 (and_parts (nat_le 48 b) (nat_le b 57) d).1 in
    let large = leb-true 65 b (and_parts (nat_le 65 b) (nat_le b 90) u).0 in
    omega (arith, small, large)))

-- the longest front of letters has letters alone
pub front_letters : (text : List ℕ) →
    list_all is_upper (take (prefix_len is_upper text) text) ≡ true
front_letters [] = refl
front_letters (b ∷ text) =
    elim (cases_Bool (is_upper b)) [
      | inl is ↦ (
          let len : prefix_len is_upper (b ∷ text) ≡ 1 + prefix_len is_upper text =
          cond-true (is_upper b) (1 + prefix_len is_upper text) 0 is in
          let next : 1 + prefix_len is_upper text ≡ suc (prefix_len is_upper text) =
          omega arith in
          ap (λ n. list_all is_upper (take n (b ∷ text))) (len ∙ next)
          ∙ and_from (is_upper b) (list_all is_upper (take (prefix_len is_upper text) text)) is
          (front_letters text))
      | inr other ↦
          ap (λ n. list_all is_upper (take n (b ∷ text)))
          (cond-false (is_upper b) (1 + prefix_len is_upper text) 0 other)
    ]

-- digits begin with no letter
no_letter : (digits : List ℕ) → list_all is_digit digits ≡ true → prefix_len is_upper digits ≡ 0
no_letter [] are = refl
no_letter (d ∷ digits) are =
    cond-false (is_upper d) (1 + prefix_len is_upper digits) 0
    (digit_other d (and_parts (is_digit d) (list_all is_digit digits) are).0)

-- letters before digits are the longest front
letters_front : (letters digits : List ℕ) → list_all is_upper letters ≡ true →
    list_all is_digit digits ≡ true → prefix_len is_upper (letters ++ digits) ≡ length letters
letters_front [] digits are ds = no_letter digits ds
letters_front (b ∷ letters) digits are ds =
    let parts = and_parts (is_upper b) (list_all is_upper letters) are in
    let later = letters_front letters digits parts.1 ds in
    let rest = letters ++ digits in
    let one : prefix_len is_upper (b ∷ rest) ≡ 1 + prefix_len is_upper rest =
    cond-true (is_upper b) (1 + prefix_len is_upper rest) 0 parts.0 in
    omega (arith, one, later)

-- the class that a text is
pub is_class : (text : List ℕ) (end : ℕ) → end ≡ prefix_len is_upper text →
    0 < length (take end text) →
    list_all is_digit (drop end text) ≡ true → IsClass text (take end text)
is_class text end e some digits = record {
  digits = drop end text;
  whole = sym (take-append-drop end text);
  some = λ none. omega (arith, some, ap length none);
  are_letters = ap (λ n. list_all is_upper (take n text)) e ∙ front_letters text;
  are_digits = digits;
}

some_length : (letters : List ℕ) (n : ℕ) → letters ≢ [] → n ≡ length letters → 0 < n
some_length [] n some e = absurd (some refl)
some_length (b ∷ letters) n some e = omega (arith, e)

-- a class has a letter, and digits behind its longest front of letters
pub class_front : (text letters : List ℕ) → IsClass text letters →
    (0 < prefix_len is_upper text)
    × (list_all is_digit (drop (prefix_len is_upper text) text) ≡ true)
class_front text letters is =
    let len : prefix_len is_upper text ≡ length letters =
    ap (prefix_len is_upper) is.whole
    ∙ letters_front letters is.digits is.are_letters is.are_digits in (
      some_length letters (prefix_len is_upper text) is.some len,
      ap (λ n. list_all is_digit (drop n text)) len
          ∙ ap (λ t. list_all is_digit (drop (length letters) t)) is.whole
          ∙ ap (list_all is_digit) (drop_at letters is.digits (length letters) refl)
          ∙ is.are_digits,
    )

add_zero : (n : ℕ) → n + 0 ≡ n
add_zero n = omega arith

first_digit : (text : List ℕ) → list_all is_digit text ≡ true → 0 < length text →
    get_or text 0 0 < 128
first_digit [] digits some = absurd (omega (arith, some))
first_digit (d ∷ text) digits some =
    let is = (and_parts (is_digit d) (list_all is_digit text) digits).0 in
    let small = leb-true d 57 (and_parts (nat_le 48 d) (nat_le d 57) is).1 in
    omega (arith, small)

-- a class is ASCII up to the end of its letters, and the text may be cut there
pub letters_end : (text : List ℕ) (end : ℕ) →
    list_all is_digit (drop end text) ≡ true → end ≤ length text → IsCharBoundary text end
letters_end text end digits inside = (
  inside,
  λ lt high.
      (let small = first_digit (drop end text) digits (omega (arith, lt, length-drop end text)) in
      let same : get_or (drop end text) 0 0 ≡ get_or text end 0 =
      get_or-drop end text 0 0 ∙ ap (λ k. get_or text k 0) (add_zero end) in
      absurd (omega (arith, small, same, high))),
)

-- the letters as they are cut from the text
pub class_cut : (text bytes letters : List ℕ) (end : ℕ) → bytes ≡ text →
    end ≡ prefix_len is_upper bytes → end ≤ length bytes → 0 < end →
    list_all is_digit (drop end bytes) ≡ true → letters ≡ slice_range text 0 end →
    IsClass text letters
class_cut text bytes letters end same e inside some digits cut =
    let from_start : end - 0 ≡ end = omega arith in
    let is : letters ≡ take end text = cut ∙ ap (λ n. take n text) from_start in
    let within : end ≤ length text = subst (λ (t : List ℕ). end ≤ length t) same inside in
    subst (λ (l : List ℕ). IsClass text l) (sym is)
    (is_class text end (e ∙ ap (prefix_len is_upper) same)
    (omega (arith, some, length-take-le end text within))
    (sym (ap (λ t. list_all is_digit (drop end t)) same) ∙ digits))

pub letters_cut : (text bytes : List ℕ) (end : ℕ) → bytes ≡ text → end ≤ length bytes →
    list_all is_digit (drop end bytes) ≡ true → IsCharBoundary text end
letters_cut text bytes end same inside digits =
    subst (λ (t : List ℕ). IsCharBoundary t end) same (letters_end bytes end digits inside)

-- no class, where no digits alone stand behind the letters
pub no_class_behind : (text bytes letters : List ℕ) (end : ℕ) → bytes ≡ text →
    end ≡ prefix_len is_upper bytes → IsClass text letters →
    (0 < end) × (list_all is_digit (drop end bytes) ≡ true)
no_class_behind text bytes letters end same e is =
    let here = class_front bytes letters
    (subst (λ (t : List ℕ). IsClass t letters) (sym same) is) in
    (omega (arith, e, here.0), ap (λ n. list_all is_digit (drop n bytes)) e ∙ here.1)
