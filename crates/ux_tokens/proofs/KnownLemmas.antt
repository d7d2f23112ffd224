-- What is known of numbers stays right as the table grows, and a short text is told by its bytes.
use Rattle.std.proofs.Common.{◌≡◌, ℕ, zero, suc, ◌+◌, ◌*◌, ◌/◌, ◌%◌, ◌^◌, ◌<◌, List, ◌∷◌, Option, None, Some, [], get_or, take, refl, sym, ◌∙◌, ap, subst, arith}
use Rattle.std.specs.Int.{byte_at, bytes_high_first}
use Rattle.std.proofs.lemmas.Nat.{pow-add, shr-shr}
use Rattle.std.proofs.Math.Nat.{pow-suc}
use Rattle.std.proofs.lemmas.List.Elements.{All-weaker}
use Rattle.ux_tokens.specs.declared.known.Known.{Known}
use Rattle.ux_tokens.specs.declared.known.Slot.{Slot}
use Rattle.ux_tokens.specs.Known.{AreKnown, HasNumber}
use Rattle.ux_base.specs.Distinct.{with_text}
use Rattle.ux_tokens.specs.Numbers.{IsSpaceNumber}
use Rattle.ux_base.proofs.DistinctLemmas.{with_text-keeps}

pub pow_bytes : (k : ℕ) → 256 ^ k ≡ 2 ^ (8 * k)
pow_bytes zero = refl
pow_bytes (suc k) =
    let next : 8 * k + 8 ≡ 8 * suc k = omega arith in
    pow-suc 256 k ∙ ap (λ (n : ℕ). n * 256) (pow_bytes k) ∙ sym (pow-add 2 (8 * k) 8)
    ∙ ap (λ (n : ℕ). 2 ^ n) next

pub byte_at_is : (k n : ℕ) → byte_at k n ≡ n / 2 ^ (8 * k) % 256
byte_at_is zero n =
    let whole : n / 1 ≡ n = omega arith in
    ap (λ (q : ℕ). q % 256) (sym whole)
byte_at_is (suc k) n = ap (λ (w : ℕ). n / w % 256) (pow_bytes (suc k))

-- a byte of a number without its lowest bytes
byte_at-shifted : (k m s n : ℕ) → k + m ≡ s → byte_at s n ≡ byte_at k (n / 2 ^ (8 * m))
byte_at-shifted k m s n sum =
    let bits : 8 * m + 8 * k ≡ 8 * s = omega (arith, sum) in
    byte_at_is s n
    ∙ ap (λ (q : ℕ). q % 256)
    (ap (λ (e : ℕ). n / 2 ^ e) (sym bits) ∙ sym (shr-shr n (8 * m) (8 * k)))
    ∙ sym (byte_at_is k (n / 2 ^ (8 * m)))

-- the first bytes of a number are those of the number without its lowest bytes
pub bytes_shifted : (k m s n : ℕ) → k + m ≡ s →
    take k (bytes_high_first s n) ≡ bytes_high_first k (n / 2 ^ (8 * m))
bytes_shifted zero m s n sum = refl
bytes_shifted (suc k) m zero n sum = absurd (omega (arith, sum))
bytes_shifted (suc k) m (suc s) n sum =
    let before : k + m ≡ s = omega (arith, sum) in
    ap (λ (b : ℕ). b ∷ take k (bytes_high_first s n)) (byte_at-shifted k m s n before)
    ∙ ap (λ (l : List ℕ). byte_at k (n / 2 ^ (8 * m)) ∷ l) (bytes_shifted k m s n before)

-- each byte of a front is a byte
pub take_fits : (n : ℕ) (l : List ℕ) → ((i : ℕ) → get_or l i 0 < 256) →
    (i : ℕ) → get_or (take n l) i 0 < 256
take_fits zero l fits i = omega arith
take_fits (suc n) [] fits i = omega arith
take_fits (suc n) (b ∷ l) fits zero = fits 0
take_fits (suc n) (b ∷ l) fits (suc i) = take_fits n l (λ k. fits (suc k)) i

space_kept : (texts : List (List ℕ)) (new : List ℕ) (number : Option ℕ) →
    IsSpaceNumber texts number → IsSpaceNumber (with_text texts new) number
space_kept texts new None known = known
space_kept texts new (Some number) known = with_text-keeps texts new number _ known

slot_kept : (texts : List (List ℕ)) (new : List ℕ) (slot : Slot) →
    HasNumber texts slot → HasNumber (with_text texts new) slot
slot_kept texts new slot has = λ some. with_text-keeps texts new slot.number _ (has some)

-- what is known stays right with one more text
pub known_kept : (texts more : List (List ℕ)) (new : List ℕ) (known : Known) →
    more ≡ with_text texts new → AreKnown texts known → AreKnown more known
known_kept texts more new known is are =
    subst (λ (l : List (List ℕ)). AreKnown l known) (sym is)
    (record {
      space = space_kept texts new known.space are.space;
      short =
          All-weaker (HasNumber texts) (HasNumber (with_text texts new)) (slot_kept texts new)
          known.slots.items are.short;
    })
