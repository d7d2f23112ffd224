-- UTF-8 keeps the order of characters: a text that begins with a lower one is below.
use Rattle.std.proofs.Common.{◌≡◌, ℕ, ◌+◌, ◌/◌, ◌%◌, ◌<◌, ◌≤◌, List, [], ◌∷◌, ◌++◌, cond, length, take, refl, ◌∙◌, ap, arith, inl, inr}
use Rattle.std.specs.Prelude.{◌==◌}
use Rattle.std.specs.Cmp.Lexicographic.{slice_cmp}
use Rattle.std.specs.Ordering.{nat_cmp, ordering_then}
use Rattle.std.specs.declared.cmp.Ordering.{Ordering}
use Rattle.std.specs.declared.cmp.Ordering.TheVariants.{Less, Equal, Greater}
use Rattle.std.proofs.lemmas.Bool.{cases_lt, lt-ltb, le-ltb}
use Rattle.std.proofs.lemmas.Cmp.{tied_itself, nat_cmp_total}
use lib.Utf8.{encode, next}

-- a text, as far as other bytes go, beside them
abbrev pub cut_cmp : (bytes text : List ℕ) → Ordering
cut_cmp bytes text = slice_cmp nat_cmp (take (length bytes) text) bytes

nat_cmp-less : (x y : ℕ) → x < y → nat_cmp x y ≡ Less
nat_cmp-less x y lt = ap (λ b. cond b Less (cond (x == y) Equal Greater)) (lt-ltb x y lt)

less_head : (x y : ℕ) (text bytes : List ℕ) → x < y → cut_cmp (y ∷ bytes) (x ∷ text) ≡ Less
less_head x y text bytes lt =
    ap (λ o. ordering_then o (cut_cmp bytes text)) (nat_cmp-less x y lt)

same_head : (x y : ℕ) (text bytes : List ℕ) → x ≡ y → cut_cmp bytes text ≡ Less →
    cut_cmp (y ∷ bytes) (x ∷ text) ≡ Less
same_head x y text bytes same less =
    ap (λ z. ordering_then (nat_cmp z y) (cut_cmp bytes text)) same
    ∙ ap (λ o. ordering_then o (cut_cmp bytes text)) (tied_itself nat_cmp_total y) ∙ less

-- the bytes of a character, by its class
pub one : (c : ℕ) → c < 128 → encode c ≡ c ∷ []
unfolding encode
one c lt = rw (lt-ltb c 128 lt) refl

pub two : (c : ℕ) → 128 ≤ c → c < 2048 → encode c ≡ (192 + c / 64) ∷ next c ∷ []
unfolding encode
two c le lt = rw (le-ltb c 128 le, lt-ltb c 2048 lt) refl

pub three : (c : ℕ) → 2048 ≤ c → c < 65536 →
    encode c ≡ (224 + c / 4096) ∷ next (c / 64) ∷ next c ∷ []
unfolding encode
three c le lt =
    let first : 128 ≤ c = omega (arith, le) in
    rw (le-ltb c 128 first, le-ltb c 2048 le, lt-ltb c 65536 lt) refl

pub four : (c : ℕ) → 65536 ≤ c →
    encode c ≡ (240 + c / 262144) ∷ next (c / 4096) ∷ next (c / 64) ∷ next c ∷ []
unfolding encode
four c le =
    let first : 128 ≤ c = omega (arith, le) in
    let second : 2048 ≤ c = omega (arith, le) in
    rw (le-ltb c 128 first, le-ltb c 2048 second, le-ltb c 65536 le) refl

-- the first byte decides
first_decides : (f c : ℕ) (rest : List ℕ) (x y : ℕ) (text bytes : List ℕ) →
    encode f ≡ x ∷ text → encode c ≡ y ∷ bytes → x < y →
    cut_cmp (encode c) (encode f ++ rest) ≡ Less
first_decides f c rest x y text bytes low high lt =
    ap (λ (l : List ℕ). cut_cmp (encode c) (l ++ rest)) low
    ∙ ap (λ (l : List ℕ). cut_cmp l (x ∷ (text ++ rest))) high
    ∙ less_head x y (text ++ rest) bytes lt

-- two characters of the same class
both_two : (f c : ℕ) (rest : List ℕ) → f < c →
    cut_cmp ((192 + c / 64) ∷ next c ∷ []) ((192 + f / 64) ∷ next f ∷ rest) ≡ Less
both_two f c rest lt = elim (cases_lt (f / 64) (c / 64)) [
  | inl high ↦ (
      let first : 192 + f / 64 < 192 + c / 64 = omega (arith, high) in
      less_head _ _ (next f ∷ rest) (next c ∷ []) first)
  | inr low ↦ (
      let same : f / 64 ≡ c / 64 = omega (arith, low, lt) in
      let last : next f < next c = omega (arith, same, lt) in
      same_head _ _ (next f ∷ rest) (next c ∷ []) (ap (λ q. 192 + q) same)
      (less_head _ _ rest [] last))
]

both_three : (f c : ℕ) (rest : List ℕ) → f < c →
    cut_cmp ((224 + c / 4096) ∷ next (c / 64) ∷ next c ∷ [])
    ((224 + f / 4096) ∷ next (f / 64) ∷ next f ∷ rest) ≡ Less
both_three f c rest lt = elim (cases_lt (f / 4096) (c / 4096)) [
  | inl high ↦ (
      let first : 224 + f / 4096 < 224 + c / 4096 = omega (arith, high) in
      less_head _ _ (next (f / 64) ∷ next f ∷ rest) (next (c / 64) ∷ next c ∷ []) first)
  | inr low ↦ (
      let same : f / 4096 ≡ c / 4096 = omega (arith, low, lt) in
      same_head _ _ (next (f / 64) ∷ next f ∷ rest) (next (c / 64) ∷ next c ∷ [])
      (ap (λ q. 224 + q) same) (behind_first same))
]
  where
    behind_first : f / 4096 ≡ c / 4096 →
        cut_cmp (next (c / 64) ∷ next c ∷ []) (next (f / 64) ∷ next f ∷ rest) ≡ Less
    behind_first same = elim (cases_lt (f / 64 % 64) (c / 64 % 64)) [
      | inl middle ↦ (
          let second : next (f / 64) < next (c / 64) = omega (arith, middle) in
          less_head _ _ (next f ∷ rest) (next c ∷ []) second)
      | inr under ↦ (
          let also : f / 64 % 64 ≡ c / 64 % 64 = omega (arith, same, under, lt) in
          let last : next f < next c = omega (arith, same, also, lt) in
          same_head _ _ (next f ∷ rest) (next c ∷ []) (ap (λ q. 128 + q) also)
          (less_head _ _ rest [] last))
    ]

-- the bytes of four behind the first two
last_two : (f c : ℕ) (rest : List ℕ) → f < c → f / 262144 ≡ c / 262144 →
    f / 4096 % 64 ≡ c / 4096 % 64 →
    cut_cmp (next (c / 64) ∷ next c ∷ []) (next (f / 64) ∷ next f ∷ rest) ≡ Less
last_two f c rest lt same also = elim (cases_lt (f / 64 % 64) (c / 64 % 64)) [
  | inl third ↦ (
      let lower : next (f / 64) < next (c / 64) = omega (arith, third) in
      less_head _ _ (next f ∷ rest) (next c ∷ []) lower)
  | inr below ↦ (
      let equal : f / 64 % 64 ≡ c / 64 % 64 = omega (arith, same, also, below, lt) in
      let last : next f < next c = omega (arith, same, also, equal, lt) in
      same_head _ _ (next f ∷ rest) (next c ∷ []) (ap (λ q. 128 + q) equal)
      (less_head _ _ rest [] last))
]

both_four : (f c : ℕ) (rest : List ℕ) → f < c →
    cut_cmp ((240 + c / 262144) ∷ next (c / 4096) ∷ next (c / 64) ∷ next c ∷ [])
    ((240 + f / 262144) ∷ next (f / 4096) ∷ next (f / 64) ∷ next f ∷ rest) ≡ Less
both_four f c rest lt = elim (cases_lt (f / 262144) (c / 262144)) [
  | inl high ↦ (
      let first : 240 + f / 262144 < 240 + c / 262144 = omega (arith, high) in
      less_head _ _ (next (f / 4096) ∷ next (f / 64) ∷ next f ∷ rest)
      (next (c / 4096) ∷ next (c / 64) ∷ next c ∷ []) first)
  | inr low ↦ (
      let same : f / 262144 ≡ c / 262144 = omega (arith, low, lt) in
      same_head _ _ (next (f / 4096) ∷ next (f / 64) ∷ next f ∷ rest)
      (next (c / 4096) ∷ next (c / 64) ∷ next c ∷ []) (ap (λ q. 240 + q) same)
      (behind_first same))
]
  where
    behind_first : f / 262144 ≡ c / 262144 →
        cut_cmp (next (c / 4096) ∷ next (c / 64) ∷ next c ∷ [])
        (next (f / 4096) ∷ next (f / 64) ∷ next f ∷ rest) ≡ Less
    behind_first same = elim (cases_lt (f / 4096 % 64) (c / 4096 % 64)) [
      | inl middle ↦ (
          let second : next (f / 4096) < next (c / 4096) = omega (arith, middle) in
          less_head _ _ (next (f / 64) ∷ next f ∷ rest) (next (c / 64) ∷ next c ∷ []) second)
      | inr under ↦ (
          let also : f / 4096 % 64 ≡ c / 4096 % 64 = omega (arith, same, under, lt) in
          same_head _ _ (next (f / 64) ∷ next f ∷ rest) (next (c / 64) ∷ next c ∷ [])
          (ap (λ q. 128 + q) also) (last_two f c rest lt same also))
    ]

-- of the bytes of the two characters
by_bytes : (f c : ℕ) (rest text bytes : List ℕ) → encode f ≡ text → encode c ≡ bytes →
    cut_cmp bytes (text ++ rest) ≡ Less → cut_cmp (encode c) (encode f ++ rest) ≡ Less
by_bytes f c rest text bytes low high less =
    ap (λ (l : List ℕ). cut_cmp (encode c) (l ++ rest)) low
    ∙ ap (λ (l : List ℕ). cut_cmp l (text ++ rest)) high ∙ less

-- behind a lower character of one byte
above_one : (f c : ℕ) (rest : List ℕ) (y : ℕ) (bytes : List ℕ) → f < 128 → encode c ≡ y ∷ bytes →
    128 ≤ y → cut_cmp (encode c) (encode f ++ rest) ≡ Less
above_one f c rest y bytes f1 high up =
    first_decides f c rest _ _ _ _ (one f f1) high (omega (arith, f1, up))

-- of two, of three and of four
below_two : (f c : ℕ) (rest : List ℕ) → f < c → 128 ≤ c → c < 2048 →
    cut_cmp (encode c) (encode f ++ rest) ≡ Less
below_two f c rest lt c2 high = elim (cases_lt f 128) [
  | inl f1 ↦ above_one f c rest _ _ f1 (two c c2 high) (omega arith)
  | inr f2 ↦ by_bytes f c rest _ _ (two f f2 (omega (arith, lt, high))) (two c c2 high)
      (both_two f c rest lt)
]

below_three : (f c : ℕ) (rest : List ℕ) → f < c → 2048 ≤ c → c < 65536 →
    cut_cmp (encode c) (encode f ++ rest) ≡ Less
below_three f c rest lt c3 high = elim (cases_lt f 128) [
  | inl f1 ↦ above_one f c rest _ _ f1 (three c c3 high) (omega arith)
  | inr f2 ↦ elim (cases_lt f 2048) [
    | inl few ↦ first_decides f c rest _ _ _ _ (two f f2 few) (three c c3 high)
        (omega (arith, few))
    | inr f3 ↦ by_bytes f c rest _ _ (three f f3 (omega (arith, lt, high))) (three c c3 high)
        (both_three f c rest lt)
  ]
]

below_four : (f c : ℕ) (rest : List ℕ) → f < c → 65536 ≤ c →
    cut_cmp (encode c) (encode f ++ rest) ≡ Less
below_four f c rest lt c4 = elim (cases_lt f 128) [
  | inl f1 ↦ above_one f c rest _ _ f1 (four c c4) (omega arith)
  | inr f2 ↦ elim (cases_lt f 2048) [
    | inl few ↦ first_decides f c rest _ _ _ _ (two f f2 few) (four c c4) (omega (arith, few))
    | inr f3 ↦ elim (cases_lt f 65536) [
      | inl more ↦ first_decides f c rest _ _ _ _ (three f f3 more) (four c c4)
          (omega (arith, more))
      | inr f4 ↦ by_bytes f c rest _ _ (four f f4) (four c c4) (both_four f c rest lt)
    ]
  ]
]

-- a text that begins with a lower character is below
pub below_encode : (f c : ℕ) (rest : List ℕ) → f < c →
    cut_cmp (encode c) (encode f ++ rest) ≡ Less
below_encode f c rest lt = elim (cases_lt c 128) [
  | inl c1 ↦ first_decides f c rest _ _ _ _ (one f (omega (arith, c1, lt))) (one c c1) lt
  | inr c2 ↦ elim (cases_lt c 2048) [
    | inl high ↦ below_two f c rest lt c2 high
    | inr c3 ↦ elim (cases_lt c 65536) [
      | inl high ↦ below_three f c rest lt c3 high
      | inr c4 ↦ below_four f c rest lt c4
    ]
  ]
]
