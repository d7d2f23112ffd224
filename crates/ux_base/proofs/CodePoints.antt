-- The order of texts in UTF-8 by bytes is that of their characters by code points.
use Rattle.std.proofs.Common.{arith, ◌≡◌, ℕ, ◌+◌, ◌/◌, ◌%◌, ◌<◌, ◌≤◌, ◌⊎◌, inl, inr, Bool, cond, List, [], ◌∷◌, ◌++◌, refl, sym, ap, ◌∙◌}
use Rattle.std.specs.Prelude.{IsUtf8}
use Rattle.std.specs.Str.{chars}
use Rattle.std.specs.Ordering.{nat_cmp, ordering_then}
use Rattle.std.specs.Cmp.Lexicographic.{slice_cmp}
use Rattle.std.specs.declared.cmp.Ordering.{Ordering}
use Rattle.std.specs.declared.cmp.Ordering.TheVariants.{Less, Equal, Greater}
use Rattle.std.proofs.lemmas.Bool.{cases_lt}
use Rattle.std.proofs.lemmas.Str.{encodes-chars}
use Rattle.std.proofs.lemmas.Bool.{lt-ltb, le-ltb}
use lib.Dec.{ltb}
use lib.Utf8.{encode, encodes, next}

abbrev order : List ℕ → List ℕ → Ordering
order = slice_cmp nat_cmp

below : {X : Type 0} (c size : ℕ) (x y : X) → c < size → cond (ltb c size) x y ≡ x
below c size x y to = ap (λ (s : Bool). cond s x y) (lt-ltb c size to)

above : {X : Type 0} (c size : ℕ) (x y : X) → size ≤ c → cond (ltb c size) x y ≡ y
above c size x y from = ap (λ (s : Bool). cond s x y) (le-ltb c size from)

-- the bytes of a character, by how many there are
one : (c : ℕ) → c < 128 → encode c ≡ c ∷ []
unfolding encode
one c to = below c 128 _ _ to

two : (c : ℕ) → 128 ≤ c → c < 2048 → encode c ≡ (192 + c / 64) ∷ next c ∷ []
unfolding encode
two c from to = above c 128 _ _ from ∙ below c 2048 _ _ to

three : (c : ℕ) → 2048 ≤ c → c < 65536 →
    encode c ≡ (224 + c / 4096) ∷ next (c / 64) ∷ next c ∷ []
unfolding encode
three c from to =
    above c 128 _ _ (omega (arith, from)) ∙ above c 2048 _ _ from ∙ below c 65536 _ _ to

four : (c : ℕ) → 65536 ≤ c →
    encode c ≡ (240 + c / 262144) ∷ next (c / 4096) ∷ next (c / 64) ∷ next c ∷ []
unfolding encode
four c from =
    above c 128 _ _ (omega (arith, from)) ∙ above c 2048 _ _ (omega (arith, from)) ∙ above c 65536 _ _ from

-- of two numbers that are different, what stands before the last base-64 digit is, or else that digit
digits : (c d : ℕ) → c < d → (c / 64 < d / 64) ⊎ ((c / 64 ≡ d / 64) × (c % 64 < d % 64))
digits c d lt = elim (cases_lt (c / 64) (d / 64)) [
  | inl front ↦ inl front
  | inr other ↦ inr (omega (arith, lt, other), omega (arith, lt, other))
]

is_less : (x y : ℕ) → x < y → nat_cmp x y ≡ Less
is_less x y lt = grind (arith, lt)

is_same : (x y : ℕ) → x ≡ y → nat_cmp x y ≡ Equal
is_same x y is = grind (arith, is)

first_less : (x y : ℕ) (xs ys : List ℕ) → x < y → order (x ∷ xs) (y ∷ ys) ≡ Less
first_less x y xs ys lt = ap (λ o. ordering_then o (order xs ys)) (is_less x y lt)

first_same : (x y : ℕ) (xs ys : List ℕ) → x ≡ y → order (x ∷ xs) (y ∷ ys) ≡ order xs ys
first_same x y xs ys is = ap (λ o. ordering_then o (order xs ys)) (is_same x y is)

-- a lead, and the last digit behind it
two_less : (x c d : ℕ) (xs ys : List ℕ) → c < d →
    order ((x + c / 64) ∷ next c ∷ xs) ((x + d / 64) ∷ next d ∷ ys) ≡ Less
two_less x c d xs ys lt = elim (digits c d lt) [
  | inl front ↦
      first_less (x + c / 64) (x + d / 64) (next c ∷ xs) (next d ∷ ys) (omega (arith, front))
  | inr back ↦
      first_same (x + c / 64) (x + d / 64) (next c ∷ xs) (next d ∷ ys) (omega (arith, back.0))
      ∙ first_less (next c) (next d) xs ys (omega (arith, back.1))
]

-- two digits behind a lead
three_less : (x c d : ℕ) (xs ys : List ℕ) → c < d →
    order ((x + c / 64 / 64) ∷ next (c / 64) ∷ next c ∷ xs)
    ((x + d / 64 / 64) ∷ next (d / 64) ∷ next d ∷ ys) ≡ Less
three_less x c d xs ys lt = elim (digits c d lt) [
  | inl front ↦ two_less x (c / 64) (d / 64) (next c ∷ xs) (next d ∷ ys) front
  | inr back ↦
      first_same (x + c / 64 / 64) (x + d / 64 / 64) (next (c / 64) ∷ next c ∷ xs)
      (next (d / 64) ∷ next d ∷ ys) (ap (λ (q : ℕ). x + q / 64) back.0)
      ∙ first_same (next (c / 64)) (next (d / 64)) (next c ∷ xs) (next d ∷ ys) (ap next back.0)
      ∙ first_less (next c) (next d) xs ys (omega (arith, back.1))
]

-- three digits behind a lead
four_less : (x c d : ℕ) (xs ys : List ℕ) → c < d →
    order ((x + c / 64 / 64 / 64) ∷ next (c / 64 / 64) ∷ next (c / 64) ∷ next c ∷ xs)
    ((x + d / 64 / 64 / 64) ∷ next (d / 64 / 64) ∷ next (d / 64) ∷ next d ∷ ys) ≡ Less
four_less x c d xs ys lt = elim (digits c d lt) [
  | inl front ↦ three_less x (c / 64) (d / 64) (next c ∷ xs) (next d ∷ ys) front
  | inr back ↦
      first_same (x + c / 64 / 64 / 64) (x + d / 64 / 64 / 64)
      (next (c / 64 / 64) ∷ next (c / 64) ∷ next c ∷ xs)
      (next (d / 64 / 64) ∷ next (d / 64) ∷ next d ∷ ys)
      (ap (λ (q : ℕ). x + q / 64 / 64) back.0)
      ∙ first_same (next (c / 64 / 64)) (next (d / 64 / 64)) (next (c / 64) ∷ next c ∷ xs)
      (next (d / 64) ∷ next d ∷ ys) (ap (λ (q : ℕ). next (q / 64)) back.0)
      ∙ first_same (next (c / 64)) (next (d / 64)) (next c ∷ xs) (next d ∷ ys) (ap next back.0)
      ∙ first_less (next c) (next d) xs ys (omega (arith, back.1))
]

quarter : (c : ℕ) → c / 4096 ≡ c / 64 / 64
quarter c = omega arith

eighth : (c : ℕ) → c / 262144 ≡ c / 64 / 64 / 64
eighth c = omega arith

-- the bytes of a character, by how many there are
three_is : (c : ℕ) → 2048 ≤ c → c < 65536 →
    encode c ≡ (224 + c / 64 / 64) ∷ next (c / 64) ∷ next c ∷ []
three_is c from to =
    three c from to ∙ ap (λ (q : ℕ). (224 + q) ∷ next (c / 64) ∷ next c ∷ []) (quarter c)

four_is : (c : ℕ) → 65536 ≤ c →
    encode c ≡ (240 + c / 64 / 64 / 64) ∷ next (c / 64 / 64) ∷ next (c / 64) ∷ next c ∷ []
four_is c from =
    four c from
    ∙ ap (λ (q : ℕ). (240 + q) ∷ next (c / 4096) ∷ next (c / 64) ∷ next c ∷ []) (eighth c)
    ∙ ap (λ (q : ℕ). (240 + c / 64 / 64 / 64) ∷ next q ∷ next (c / 64) ∷ next c ∷ []) (quarter c)

module _ (c d : ℕ) (xs ys : List ℕ) (lt : c < d) where
  -- characters of these bytes
  spelt : (p q : List ℕ) → encode c ≡ p → encode d ≡ q → order (p ++ xs) (q ++ ys) ≡ Less →
      order (encode c ++ xs) (encode d ++ ys) ≡ Less
  spelt p q c_is d_is is =
      ap (λ (l : List ℕ). order (l ++ xs) (encode d ++ ys)) c_is
      ∙ ap (λ (l : List ℕ). order (p ++ xs) (l ++ ys)) d_is ∙ is

  -- the character of the lower code point comes first
  by_size : (c < 128) ⊎ (128 ≤ c) → (c < 2048) ⊎ (2048 ≤ c) → (c < 65536) ⊎ (65536 ≤ c) →
      (d < 128) ⊎ (128 ≤ d) → (d < 2048) ⊎ (2048 ≤ d) → (d < 65536) ⊎ (65536 ≤ d) →
      order (encode c ++ xs) (encode d ++ ys) ≡ Less
  by_size (inl a) _ _ (inl b) _ _ =
      spelt (c ∷ []) (d ∷ []) (one c a) (one d b) (first_less c d xs ys lt)
  by_size (inl a) _ _ (inr b) (inl h) _ =
      spelt (c ∷ []) _ (one c a) (two d b h) (first_less c (192 + d / 64) xs _ (omega arith))
  by_size (inl a) _ _ (inr b) (inr h) (inl g) =
      spelt (c ∷ []) _ (one c a) (three_is d h g)
      (first_less c (224 + d / 64 / 64) xs _ (omega arith))
  by_size (inl a) _ _ (inr b) (inr h) (inr g) =
      spelt (c ∷ []) _ (one c a) (four_is d g)
      (first_less c (240 + d / 64 / 64 / 64) xs _ (omega arith))
  by_size (inr a) f _ (inl b) _ _ = absurd (omega (arith, lt, a, b))
  by_size (inr a) (inl f) _ (inr b) (inl h) _ =
      spelt _ _ (two c a f) (two d b h) (two_less 192 c d xs ys lt)
  by_size (inr a) (inl f) _ (inr b) (inr h) (inl g) =
      spelt _ _ (two c a f) (three_is d h g)
      (first_less (192 + c / 64) (224 + d / 64 / 64) (next c ∷ xs) (next (d / 64) ∷ next d ∷ ys)
      (omega arith))
  by_size (inr a) (inl f) _ (inr b) (inr h) (inr g) =
      spelt _ _ (two c a f) (four_is d g)
      (first_less (192 + c / 64) (240 + d / 64 / 64 / 64) (next c ∷ xs)
      (next (d / 64 / 64) ∷ next (d / 64) ∷ next d ∷ ys) (omega arith))
  by_size (inr a) (inr f) e (inr b) (inl h) _ = absurd (omega (arith, lt, f, h))
  by_size (inr a) (inr f) (inl e) (inr b) (inr h) (inl g) =
      spelt _ _ (three_is c f e) (three_is d h g) (three_less 224 c d xs ys lt)
  by_size (inr a) (inr f) (inl e) (inr b) (inr h) (inr g) =
      spelt _ _ (three_is c f e) (four_is d g)
      (first_less (224 + c / 64 / 64) (240 + d / 64 / 64 / 64) (next (c / 64) ∷ next c ∷ xs)
      (next (d / 64 / 64) ∷ next (d / 64) ∷ next d ∷ ys) (omega arith))
  by_size (inr a) (inr f) (inr e) (inr b) (inr h) (inl g) = absurd (omega (arith, lt, e, g))
  by_size (inr a) (inr f) (inr e) (inr b) (inr h) (inr g) =
      spelt _ _ (four_is c e) (four_is d g) (four_less 240 c d xs ys lt)

  lower : order (encode c ++ xs) (encode d ++ ys) ≡ Less
  lower = by_size (cases_lt c 128) (cases_lt c 2048) (cases_lt c 65536) (cases_lt d 128)
      (cases_lt d 2048) (cases_lt d 65536)

-- what comes first the other way round
abbrev swapped : Ordering → Ordering
swapped Less = Greater
swapped Equal = Equal
swapped Greater = Less

number_swapped : (x y : ℕ) → nat_cmp y x ≡ swapped (nat_cmp x y)
number_swapped x y = elim (cases_lt x y) [
  | inl less ↦ grind (arith, less)
  | inr other ↦ elim (cases_lt y x) [
    | inl more ↦ grind (arith, more)
    | inr level ↦ grind (arith, other, level)
  ]
]

then_swapped : (o p q r : Ordering) → p ≡ swapped o → r ≡ swapped q →
    ordering_then p r ≡ swapped (ordering_then o q)
then_swapped Less p q r first later = ap (λ o. ordering_then o r) first
then_swapped Equal p q r first later = ap (λ o. ordering_then o r) first ∙ later
then_swapped Greater p q r first later = ap (λ o. ordering_then o r) first

order_swapped : (xs ys : List ℕ) → order ys xs ≡ swapped (order xs ys)
order_swapped [] [] = refl
order_swapped [] (y ∷ ys) = refl
order_swapped (x ∷ xs) [] = refl
order_swapped (x ∷ xs) (y ∷ ys) =
    then_swapped (nat_cmp x y) (nat_cmp y x) (order xs ys) (order ys xs) (number_swapped x y)
    (order_swapped xs ys)

-- a front that both have
fronted : (front xs ys : List ℕ) → order (front ++ xs) (front ++ ys) ≡ order xs ys
fronted [] xs ys = refl
fronted (x ∷ front) xs ys =
    first_same x x (front ++ xs) (front ++ ys) refl ∙ fronted front xs ys

not_empty : (c : ℕ) (xs : List ℕ) → (b : ℕ) × (rest : List ℕ) × (encode c ++ xs ≡ b ∷ rest)
not_empty c xs = elim (cases_lt c 128) [
  | inl a ↦ (c, xs, ap (λ (l : List ℕ). l ++ xs) (one c a))
  | inr a ↦ elim (cases_lt c 2048) [
    | inl f ↦ (_, _, ap (λ (l : List ℕ). l ++ xs) (two c a f))
    | inr f ↦ elim (cases_lt c 65536) [
      | inl e ↦ (_, _, ap (λ (l : List ℕ). l ++ xs) (three c f e))
      | inr e ↦ (_, _, ap (λ (l : List ℕ). l ++ xs) (four c e))
    ]
  ]
]

-- the order of the bytes of characters is theirs
by_bytes : (cs ds : List ℕ) → order (encodes cs) (encodes ds) ≡ order cs ds
by_bytes [] [] = refl
by_bytes [] (d ∷ ds) =
    let some = not_empty d (encodes ds) in ap (λ (l : List ℕ). order [] l) some.2
by_bytes (c ∷ cs) [] =
    let some = not_empty c (encodes cs) in ap (λ (l : List ℕ). order l []) some.2
by_bytes (c ∷ cs) (d ∷ ds) = elim (cases_lt c d) [
  | inl less ↦
      lower c d (encodes cs) (encodes ds) less ∙ sym (first_less c d cs ds less)
  | inr other ↦ elim (cases_lt d c) [
    | inl more ↦
        order_swapped (encode d ++ encodes ds) (encode c ++ encodes cs)
        ∙ ap swapped (lower d c (encodes ds) (encodes cs) more ∙ sym (first_less d c ds cs more))
        ∙ sym (order_swapped (d ∷ ds) (c ∷ cs))
    | inr level ↦
        let is : c ≡ d = omega (arith, other, level) in
        ap (λ (x : ℕ). order (encode x ++ encodes cs) (encode d ++ encodes ds)) is
        ∙ fronted (encode d) (encodes cs) (encodes ds) ∙ by_bytes cs ds
        ∙ sym (first_same c d cs ds is)
  ]
]

-- texts compare by bytes as their characters do by code points
pub code_points : (a b : List ℕ) → IsUtf8 a → IsUtf8 b →
    slice_cmp nat_cmp a b ≡ slice_cmp nat_cmp (chars a) (chars b)
code_points a b whole other =
    ap (λ (l : List ℕ). order l b) (sym (encodes-chars a whole))
    ∙ ap (λ (l : List ℕ). order (encodes (chars a)) l) (sym (encodes-chars b other))
    ∙ by_bytes (chars a) (chars b)
