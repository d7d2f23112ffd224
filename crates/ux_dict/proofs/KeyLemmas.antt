-- Keys have the order of forms, and that of a form which begins with some bytes lies between the
-- lowest and the highest one of these.
use Rattle.std.proofs.Common.{◌≡◌, ◌⊎◌, ℕ, zero, suc, ◌+◌, ◌*◌, ◌/◌, ◌^◌, ◌<◌, ◌≤◌, leb, eqb, List, [], ◌∷◌, ◌++◌, true, false, cond, length, drop, get_or, refl, sym, ◌∙◌, ap, subst, add-one, arith, inl, inr}
use Rattle.std.specs.Prelude.{All, AllPairs, IsUtf8}
use Rattle.std.specs.Cmp.Lexicographic.{slice_cmp}
use Rattle.std.specs.Ordering.{nat_cmp, is_lt, ordering_then}
use Rattle.std.proofs.lemmas.Bool.{cases_eq, cases_lt, cases_order, lt-ltb, le-ltb, le-leb, lt-leb, and_parts}
use Rattle.std.proofs.lemmas.Cmp.{tied_itself, nat_cmp_total}
use Rattle.std.proofs.lemmas.List.Elements.{All-nil, All-cons, All-append, All-head, All-tail}
use Rattle.std.specs.declared.cmp.Ordering.TheVariants.{Less, Equal, Greater}
use native.Mathlib.Nat.{pow-le-pow_right, pow-suc}
use lib.Utf8.{encode, encodes, next, scalar, scalars, scalar_cases}
use Rattle.std.specs.List.Sorted.{IsNonDecreasingBy}
use Rattle.ux_dela.specs.declared.entry.Entry.{Entry}
use Rattle.ux_dict.specs.Content.{IsUpTo}
use Rattle.ux_dict.specs.Keys.{AreBytes, number_of, low_key, high_key, key_of, key_rank}
use Rattle.ux_dict.proofs.EncodeOrder.{one, two, three, four}
use Rattle.ux_dict.proofs.TextOrder.{not_below}

number_of-step : (missing n read : ℕ) (text : List ℕ) (place : ℕ) →
    number_of missing (suc n) read (drop place text)
    ≡ number_of missing n (read * 256 + get_or text place missing) (drop (suc place) text)
unfolding number_of
number_of-step missing n read [] zero = refl
number_of-step missing n read [] (suc place) = refl
number_of-step missing n read (byte ∷ text) zero = refl
number_of-step missing n read (byte ∷ text) (suc place) =
    number_of-step missing n read text place

-- one more byte is read
pub number_of-next : (missing n more read byte : ℕ) (text : List ℕ) (place : ℕ) → more ≡ suc n →
    byte ≡ get_or text place missing →
    number_of missing n (read * 256 + byte) (drop (place + 1) text)
    ≡ number_of missing more read (drop place text)
number_of-next missing n more read byte text place left is =
    rw (add-one, left, is) (sym (number_of-step missing n read text place))

-- what fewer than eight bytes give fits with one byte more
pub number_small : (place number : ℕ) → place < 8 → number < 256 ^ place → number < 2 ^ 56
number_small place number lt small =
    let most : 256 ^ place ≤ 256 ^ 7 = pow-le-pow_right {n = 256} (omega arith) {i = place} {j = 7} (omega arith) in
    omega (arith, small, most)

-- bytes that are missing are the lowest, where they count as 0
empty_low : (n read other : ℕ) (text : List ℕ) → read ≤ other →
    number_of 0 n read [] ≤ number_of 0 n other text
unfolding number_of
empty_low zero read other text le = le
empty_low (suc n) read other [] le =
    empty_low n (read * 256 + 0) (other * 256 + 0) [] (omega (arith, le))
empty_low (suc n) read other (byte ∷ text) le =
    empty_low n (read * 256 + 0) (other * 256 + byte) text (omega (arith, le))

-- and the highest, where they count as 255
empty_high : (n read other : ℕ) (text : List ℕ) → AreBytes text → read ≤ other →
    number_of 0 n read text ≤ number_of 255 n other []
unfolding number_of
empty_high zero read other text bytes le = le
empty_high (suc n) read other [] bytes le =
    empty_high n (read * 256 + 0) (other * 256 + 255) [] bytes (omega (arith, le))
empty_high (suc n) read other (byte ∷ text) bytes le =
    let small = All-head (λ b. b < 256) byte text bytes in
    empty_high n (read * 256 + byte) (other * 256 + 255) text
    (All-tail (λ b. b < 256) byte text bytes) (omega (arith, le, small))

-- what was read decides, where it differs
read_decides : (n read other : ℕ) (text more : List ℕ) → AreBytes text → read < other →
    number_of 0 n read text ≤ number_of 0 n other more
unfolding number_of
read_decides zero read other text more bytes lt = omega (arith, lt)
read_decides (suc n) read other [] more bytes lt =
    empty_low (suc n) read other more (omega (arith, lt))
read_decides (suc n) read other (b ∷ text) [] bytes lt =
    let small = All-head (λ b. b < 256) b text bytes in
    read_decides n (read * 256 + b) (other * 256 + 0) text []
    (All-tail (λ b. b < 256) b text bytes) (omega (arith, lt, small))
read_decides (suc n) read other (b ∷ text) (c ∷ more) bytes lt =
    let small = All-head (λ b. b < 256) b text bytes in
    read_decides n (read * 256 + b) (other * 256 + c) text more
    (All-tail (λ b. b < 256) b text bytes) (omega (arith, lt, small))

same_head : (b c : ℕ) (text other : List ℕ) → b ≡ c →
    slice_cmp nat_cmp (c ∷ other) (b ∷ text) ≡ slice_cmp nat_cmp other text
same_head b c text other same =
    ap (λ z. ordering_then (nat_cmp c z) (slice_cmp nat_cmp other text)) same
    ∙ ap (λ o. ordering_then o (slice_cmp nat_cmp other text)) (tied_itself nat_cmp_total c)

lower_head : (b c : ℕ) (text other : List ℕ) → c < b →
    slice_cmp nat_cmp (c ∷ other) (b ∷ text) ≡ Less
lower_head b c text other lt =
    ap (λ o. ordering_then o (slice_cmp nat_cmp other text))
    (ap (λ t. cond t Less (cond (eqb c b) Equal Greater)) (lt-ltb c b lt))

-- numbers rise with texts
pub number_rises : (n read : ℕ) (text other : List ℕ) → AreBytes text →
    is_lt (slice_cmp nat_cmp other text) ≡ false →
    number_of 0 n read text ≤ number_of 0 n read other
unfolding number_of
number_rises zero read text other bytes up = omega arith
number_rises (suc n) read [] other bytes up = empty_low (suc n) read read other (omega arith)
number_rises (suc n) read (b ∷ text) [] bytes up = cc
number_rises (suc n) read (b ∷ text) (c ∷ other) bytes up = elim (cases_order b c) [
  | inl same ↦ (
      let next = number_rises n (read * 256 + b) text other
      (All-tail (λ b. b < 256) b text bytes) (ap is_lt (sym (same_head b c text other same)) ∙ up)
      in
      subst (λ d. number_of 0 n (read * 256 + b) text ≤ number_of 0 n (read * 256 + d) other) same
      next)
  | inr (inl lower) ↦ read_decides n (read * 256 + b) (read * 256 + c) text other
      (All-tail (λ b. b < 256) b text bytes) (omega (arith, lower))
  | inr (inr higher) ↦ absurd (cc (sym (ap is_lt (lower_head b c text other higher)) ∙ up))
]

-- the number of a text lies between the lowest and the highest one of a front of it
number-low : (n read : ℕ) (front rest : List ℕ) →
    number_of 0 n read front ≤ number_of 0 n read (front ++ rest)
unfolding number_of
number-low zero read front rest = omega arith
number-low (suc n) read [] rest = empty_low (suc n) read read rest (omega arith)
number-low (suc n) read (b ∷ front) rest = number-low n (read * 256 + b) front rest

number-high : (n read : ℕ) (front rest : List ℕ) → AreBytes rest →
    number_of 0 n read (front ++ rest) ≤ number_of 255 n read front
unfolding number_of
number-high zero read front rest bytes = omega arith
number-high (suc n) read [] rest bytes = empty_high (suc n) read read rest bytes (omega arith)
number-high (suc n) read (b ∷ front) rest bytes = number-high n (read * 256 + b) front rest bytes

below : (low high key : ℕ) → key < low → key_rank low high key ≡ 0
below low high key lt =
    ap (λ b. cond b 0 (cond (leb key high) 1 2)) (lt-ltb key low lt)

within : (low high key : ℕ) → low ≤ key → key ≤ high → key_rank low high key ≡ 1
within low high key up down =
    ap (λ b. cond b 0 (cond (leb key high) 1 2)) (le-ltb key low up)
    ∙ ap (λ b. cond b 1 2) (le-leb key high down)

above : (low high key : ℕ) → low ≤ key → high < key → key_rank low high key ≡ 2
above low high key up over =
    ap (λ b. cond b 0 (cond (leb key high) 1 2)) (le-ltb key low up)
    ∙ ap (λ b. cond b 1 2) (lt-leb key high over)

-- a form's key lies between those of the bytes with which it begins
pub key_between : (form front rest : List ℕ) → AreBytes rest → form ≡ front ++ rest →
    key_rank (low_key front) (high_key front) (low_key form) ≡ 1
key_between form front rest bytes is =
    let low : low_key front ≤ low_key form =
    subst (λ (l : List ℕ). low_key front ≤ low_key l) (sym is) (number-low 8 0 front rest) in
    let high : low_key form ≤ high_key front =
    subst (λ (l : List ℕ). low_key l ≤ high_key front) (sym is)
    (number-high 8 0 front rest bytes) in
    within (low_key front) (high_key front) (low_key form) low high

-- and its own key is the one key between itself and itself
pub key_itself : (key : ℕ) → key_rank key key key ≡ 1
key_itself key = within key key key (omega arith) (omega arith)

-- ranks rise with keys
pub key_rank-rises : (low high key other : ℕ) → key ≤ other →
    key_rank low high key ≤ key_rank low high other
key_rank-rises low high key other le = elim (cases_lt key low) [
  | inl lt ↦ (
      let least = below low high key lt in
      omega (arith, least))
  | inr up ↦ elim (cases_lt high key) [
    | inl over ↦ (
        let last = above low high other (omega (arith, up, le)) (omega (arith, over, le)) in
        let also = above low high key up over in
        omega (arith, last, also))
    | inr inside ↦ elim (cases_lt high other) [
      | inl over ↦ (
          let last = above low high other (omega (arith, up, le)) over in
          let here = within low high key up inside in
          omega (arith, last, here))
      | inr also ↦ (
          let last = within low high other (omega (arith, up, le)) also in
          let here = within low high key up inside in
          omega (arith, last, here))
    ]
  ]
]

-- a text is bytes
bytes-encode : (c : ℕ) → scalar c ≡ true → AreBytes (encode c)
bytes-encode c is = elim (cases_lt c 128) [
  | inl small ↦ subst AreBytes (sym (one c small)) (put c [] (omega (arith, small)) none)
  | inr past ↦ elim (cases_lt c 2048) [
    | inl small ↦ subst AreBytes (sym (two c past small))
        (put (192 + c / 64) (next c ∷ []) (omega (arith, small)) (last c))
    | inr past ↦ elim (cases_lt c 65536) [
      | inl small ↦ subst AreBytes (sym (three c past small))
          (put (224 + c / 4096) (next (c / 64) ∷ next c ∷ []) (omega (arith, small))
          (put (next (c / 64)) (next c ∷ []) (omega arith) (last c)))
      | inr past ↦ (
          let most : c < 1114112 = largest c (scalar_cases c is) in
          subst AreBytes (sym (four c past))
          (put (240 + c / 262144) (next (c / 4096) ∷ next (c / 64) ∷ next c ∷ [])
          (omega (arith, most)) (put (next (c / 4096)) (next (c / 64) ∷ next c ∷ []) (omega arith)
          (put (next (c / 64)) (next c ∷ []) (omega arith) (last c)))))
    ]
  ]
]
  where
    largest : (c : ℕ) → (c < 55296) ⊎ ((57344 ≤ c) × (c < 1114112)) → c < 1114112
    largest c (inl lt) = omega (arith, lt)
    largest c (inr (le, lt)) = lt

    none : AreBytes []
    none = All-nil (λ b. b < 256)

    put : (b : ℕ) (text : List ℕ) → b < 256 → AreBytes text → AreBytes (b ∷ text)
    put b text lt bytes = All-cons (λ b. b < 256) b text lt bytes

    last : (c : ℕ) → AreBytes (next c ∷ [])
    last c = put (next c) [] (omega arith) none

bytes-encodes : (cs : List ℕ) → scalars cs ≡ true → AreBytes (encodes cs)
bytes-encodes [] are = All-nil (λ b. b < 256)
bytes-encodes (c ∷ cs) are =
    let both = and_parts (scalar c) (scalars cs) are in
    All-append (λ b. b < 256) (encode c) (encodes cs) (bytes-encode c both.0)
    (bytes-encodes cs both.1)

pub AreBytes-utf8 : (text : List ℕ) → IsUtf8 text → AreBytes text
AreBytes-utf8 text (cs, (are, is)) = subst AreBytes is (bytes-encodes cs are)

-- one byte more
pub power_more : (place number byte : ℕ) → number < 256 ^ place → byte < 256 →
    number * 256 + byte < 256 ^ (place + 1)
power_more place number byte small lt =
    let more : 256 ^ (place + 1) ≡ 256 ^ place * 256 = rw add-one (pow-suc 256 place) in
    omega (arith, small, lt, more)

-- no byte is left to read
pub number_of-end : (missing n read : ℕ) (text : List ℕ) → n ≡ 0 →
    number_of missing n read text ≡ read
unfolding number_of
number_of-end missing zero read text is = refl
number_of-end missing (suc n) read text is = cc

-- in a list of entries in order, whose forms are texts, keys rise
pub keys_rise : (entries : List Entry) → All (λ e. IsUtf8 e.form) entries →
    AllPairs IsUpTo entries → IsNonDecreasingBy key_of entries
keys_rise entries utf8 ordered i j d le lt =
    elim (cases_eq i j) [
      | inl same ↦ subst (λ k. key_of (get_or entries i d) ≤ key_of (get_or entries k d)) same
          (omega arith)
      | inr other ↦ (
          let before : i < j = omega (arith, le, other) in
          let inside : i < length entries = omega (arith, before, lt) in
          let x = get_or entries i d in
          let y = get_or entries j d in
          number_rises 8 0 x.form y.form (AreBytes-utf8 x.form (utf8 i d inside))
          (not_below x y (ordered i j d before lt)))
    ]
