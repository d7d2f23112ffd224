-- Bytes that make a number are the bytes of that number. The library says so up to eight of them.
use Rattle.std.proofs.Common.{◌≡◌, ℕ, zero, suc, ◌+◌, ◌-◌, ◌*◌, ◌%◌, ◌^◌, ◌<◌, ◌≤◌, List, [], ◌∷◌, length, get_or, drop, refl, sym, ◌∙◌, ap, arith}
use Rattle.std.specs.Int.{byte_at, byte_worth, bytes_high_first, from_be_bytes, sum_through, to_be_bytes, w128}
use Rattle.std.proofs.lemmas.List.{drop_more, drop_all, length-drop}
use Rattle.std.proofs.lemmas.Nat.{mul-le, pow-add, shr_high}
use Rattle.std.proofs.Math.Nat.{mul_assoc, mul_comm, mul-add-div_right}
use Rattle.std.proofs.Math.Pow.{pow_pos}
use Rattle.ux_tokens.proofs.KnownLemmas.{byte_at_is, pow_bytes}

-- what bytes are worth, the first of them most
abbrev value_of : List ℕ → ℕ
value_of [] = 0
value_of (b ∷ bytes) = b * 2 ^ (8 * length bytes) + value_of bytes

abbrev pub AreBytes : List ℕ → Type 0
AreBytes bytes = (i : ℕ) → get_or bytes i 0 < 256

next_power : (k : ℕ) → 2 ^ (8 * suc k) ≡ 2 ^ (8 * k) * 256
next_power k =
    let bits : 8 * suc k ≡ 8 * k + 8 = omega arith in
    ap (λ (n : ℕ). 2 ^ n) bits ∙ pow-add 2 (8 * k) 8

value_below : (bytes : List ℕ) → AreBytes bytes → value_of bytes < 2 ^ (8 * length bytes)
value_below [] fits = omega arith
value_below (b ∷ bytes) fits =
    let power = 2 ^ (8 * length bytes) in
    omega (
      arith,
      value_below bytes (λ i. fits (suc i)),
      next_power (length bytes),
      mul-le b power 255 power (omega (arith, fits 0)) (omega arith),
    )

-- what stands above a number's last bytes doesn't change them
last_bytes : (k above n : ℕ) →
    bytes_high_first k (above * 2 ^ (8 * k) + n) ≡ bytes_high_first k n
last_bytes zero above n = refl
last_bytes (suc k) above n =
    let power = 2 ^ (8 * k) in
    let whole : above * 2 ^ (8 * suc k) + n ≡ above * 256 * power + n =
    ap (λ (p : ℕ). above * p + n) (next_power k ∙ mul_comm power 256)
    ∙ ap (λ (m : ℕ). m + n) (sym (mul_assoc above 256 power)) in
    let byte : byte_at k (above * 256 * power + n) ≡ byte_at k n =
    byte_at_is k (above * 256 * power + n)
    ∙ ap (λ (q : ℕ). q % 256) (mul-add-div_right (pow_pos (8 * k)) (above * 256) n)
    ∙ omega arith
    ∙ sym (byte_at_is k n) in
    ap (bytes_high_first (suc k)) whole
    ∙ ap (λ (b : ℕ). b ∷ bytes_high_first k (above * 256 * power + n)) byte
    ∙ ap (λ (l : List ℕ). byte_at k n ∷ l) (last_bytes k (above * 256) n)

bytes_of_value : (bytes : List ℕ) → AreBytes bytes →
    bytes_high_first (length bytes) (value_of bytes) ≡ bytes
bytes_of_value [] fits = refl
bytes_of_value (b ∷ bytes) fits =
    let k = length bytes in
    let rest = λ (i : ℕ). fits (suc i) in
    let byte : byte_at k (value_of (b ∷ bytes)) ≡ b =
    byte_at_is k (value_of (b ∷ bytes))
    ∙ ap (λ (q : ℕ). q % 256) (shr_high b (8 * k) (value_of bytes) (value_below bytes rest))
    ∙ omega (arith, fits 0) in
    ap (λ (c : ℕ). c ∷ bytes_high_first k (value_of (b ∷ bytes))) byte
    ∙ ap (λ (l : List ℕ). b ∷ l)
    (last_bytes k b (value_of bytes) ∙ bytes_of_value bytes rest)

worth_is : (k b : ℕ) → byte_worth k b ≡ b * 2 ^ (8 * k)
worth_is zero b = omega arith
worth_is (suc k) b = ap (λ (n : ℕ). b * n) (pow_bytes (suc k))

module _ (bytes : List ℕ) (last : ℕ) (len : length bytes ≡ last + 1) where
  value_step : (i : ℕ) → i ≤ last →
      value_of (drop i bytes)
      ≡ byte_worth (last - i) (get_or bytes i 0) + value_of (drop (i + 1) bytes)
  value_step i within =
      let left : length (drop (i + 1) bytes) ≡ last - i =
      omega (arith, length-drop (i + 1) bytes, len) in
      ap value_of (drop_more bytes i 0 (omega (arith, len, within)))
      ∙ ap (λ (n : ℕ). get_or bytes i 0 * 2 ^ (8 * n) + value_of (drop (i + 1) bytes)) left
      ∙ ap (λ (n : ℕ). n + value_of (drop (i + 1) bytes))
      (sym (worth_is (last - i) (get_or bytes i 0)))

  value_summed : (k : ℕ) → k ≤ last →
      value_of bytes
      ≡ sum_through (λ i. byte_worth (last - i) (get_or bytes i 0)) k
      + value_of (drop (k + 1) bytes)
  value_summed zero within = value_step 0 within
  value_summed (suc k) within =
      let next : k + 1 ≡ suc k = omega arith in
      omega (
        arith,
        value_summed k (omega (arith, within)),
        value_step (suc k) within,
        ap (λ (n : ℕ). value_of (drop n bytes)) next,
      )

-- sixteen bytes
pub be_bytes_16 : (bytes : List ℕ) (n : ℕ) → length bytes ≡ 16 → AreBytes bytes →
    n ≡ from_be_bytes w128 bytes → to_be_bytes w128 n ≡ bytes
be_bytes_16 bytes n len fits is =
    let none = ap value_of (drop_all 16 bytes (omega (arith, len))) in
    let value : n ≡ value_of bytes =
    omega (arith, is, value_summed bytes 15 len 15 (omega arith), none) in
    ap (bytes_high_first 16) value
    ∙ ap (λ (k : ℕ). bytes_high_first k (value_of bytes)) (sym len)
    ∙ bytes_of_value bytes fits
