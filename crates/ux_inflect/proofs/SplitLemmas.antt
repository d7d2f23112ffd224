-- Codes, parted at colons.
use Rattle.std.proofs.Common.{arith, ◌≡◌, ℕ, zero, suc, ◌+◌, ◌<◌, List, [], ◌∷◌, ◌++◌, refl, sym, ◌∙◌, ap, length, take, drop, append-nil, length-append, Bool, cond}
use Rattle.std.specs.Prelude.{Contains, nat_eq, not}
use Rattle.std.specs.List.{before_first, after_first, position_or_len}
use Rattle.ux_dela.specs.Signs.{COLON}
use Rattle.ux_inflect.specs.Inflected.{behind_colons, HasCodes}
use Rattle.ux_inflect.proofs.CodesLemmas.{EachCode, all_each, each_all, no_colon_first, no_colon_rest}

abbrev is_colon : ℕ → Bool
is_colon b = nat_eq b COLON

-- the first colon behind a code without one
position_behind : (code rest : List ℕ) → (Contains code COLON → ⊥) →
    position_or_len is_colon (code ++ rest) ≡ length code + position_or_len is_colon rest
position_behind [] rest lacks = omega arith
position_behind (b ∷ code) rest lacks =
    let first : position_or_len is_colon (b ∷ (code ++ rest))
    ≡ 1 + position_or_len is_colon (code ++ rest) =
    ap (λ (t : Bool). cond (not t) (1 + position_or_len is_colon (code ++ rest)) 0)
    (no_colon_first b code lacks) in
    let later = position_behind code rest (no_colon_rest b code lacks) in
    omega (arith, first, later)

take_front : (front rest : List ℕ) (n : ℕ) → n ≡ length front → take n (front ++ rest) ≡ front
take_front [] rest zero e = refl
take_front [] rest (suc n) e = absurd (omega (arith, e))
take_front (x ∷ front) rest zero e = absurd (omega (arith, e))
take_front (x ∷ front) rest (suc n) e = ap (λ (l : List ℕ). x ∷ l) (take_front front rest n (omega (arith, e)))

drop_front : (front : List ℕ) (x : ℕ) (rest : List ℕ) (n : ℕ) → n ≡ length front + 1 →
    drop n (front ++ x ∷ rest) ≡ rest
drop_front [] x rest zero e = absurd (omega (arith, e))
drop_front [] x rest (suc zero) e = refl
drop_front [] x rest (suc (suc n)) e = absurd (omega (arith, e))
drop_front (y ∷ front) x rest zero e = absurd (omega (arith, e))
drop_front (y ∷ front) x rest (suc n) e = drop_front front x rest n (omega (arith, e))

-- a text of one code
pub split_last : (rest next : List ℕ) (later : List (List ℕ)) → HasCodes (COLON ∷ rest) (next ∷ later) →
    position_or_len is_colon rest ≡ length rest → (later ≡ []) × (rest ≡ next)
split_last rest next later has end = by later (all_each (next ∷ later) has.each) joined
  where
    joined : rest ≡ next ++ behind_colons later
    joined = cc (has.joined)

    by : (later : List (List ℕ)) → EachCode (next ∷ later) → rest ≡ next ++ behind_colons later →
        (later ≡ []) × (rest ≡ next)
    by [] each e = (refl, e ∙ append-nil next)
    by (code ∷ codes) each e =
        let p = position_behind next (behind_colons (code ∷ codes)) each.0.no_colon in
        let q = ap (position_or_len is_colon) e in
        let l = ap length e in
        let m = length-append next (COLON ∷ (code ++ behind_colons codes)) in
        absurd (omega (arith, p, q, l, m, end))

-- a text of several
pub split_first : (rest next : List ℕ) (later : List (List ℕ)) → HasCodes (COLON ∷ rest) (next ∷ later) →
    position_or_len is_colon rest < length rest →
    (code : List ℕ) × (codes : List (List ℕ)) × (later ≡ code ∷ codes)
    × (next ≡ before_first is_colon rest) × HasCodes (COLON ∷ after_first is_colon rest) (code ∷ codes)
split_first rest next later has inside = by later (all_each (next ∷ later) has.each) joined
  where
    joined : rest ≡ next ++ behind_colons later
    joined = cc (has.joined)

    by : (later : List (List ℕ)) → EachCode (next ∷ later) → rest ≡ next ++ behind_colons later →
        (code : List ℕ) × (codes : List (List ℕ)) × (later ≡ code ∷ codes)
        × (next ≡ before_first is_colon rest) × HasCodes (COLON ∷ after_first is_colon rest) (code ∷ codes)
    by [] each e =
        let f : rest ≡ next = e ∙ append-nil next in
        let p = position_behind next [] each.0.no_colon in
        let q = ap (position_or_len is_colon) e in
        let l = ap length f in
        absurd (omega (arith, p, q, l, inside))
    by (code ∷ codes) each e =
        let tail = code ++ behind_colons codes in
        let p = position_behind next (COLON ∷ tail) each.0.no_colon in
        let q = ap (position_or_len is_colon) e in
        let at : position_or_len is_colon rest ≡ length next = omega (arith, p, q) in
        let behind : after_first is_colon rest ≡ tail =
        ap (λ (l : List ℕ). drop (position_or_len is_colon rest + 1) l) e
        ∙ drop_front next COLON tail (position_or_len is_colon rest + 1) (omega (arith, at)) in (
          code,
          codes,
          refl,
          sym (ap (λ (l : List ℕ). take (position_or_len is_colon rest) l) e
              ∙ take_front next (COLON ∷ tail) (position_or_len is_colon rest) at),
          record {
            joined = ap (λ (l : List ℕ). COLON ∷ l) behind;
            each = each_all (code ∷ codes) each.1;
          },
        )

-- an output without a colon has no codes; with one it has some
pub none_codes : (output : List ℕ) (codes : List (List ℕ)) → HasCodes output codes →
    position_or_len is_colon output ≡ length output → codes ≡ []
none_codes output [] has end = refl
none_codes output (code ∷ codes) has end =
    let q = ap (position_or_len is_colon) has.joined in
    let l = ap length has.joined in
    absurd (omega (arith, q, l, end))

pub some_codes : (output : List ℕ) (codes : List (List ℕ)) → HasCodes output codes →
    position_or_len is_colon output < length output →
    (code : List ℕ) × (more : List (List ℕ)) × (codes ≡ code ∷ more)
    × HasCodes (COLON ∷ after_first is_colon output) (code ∷ more)
some_codes output [] has inside =
    let q = ap (position_or_len is_colon) has.joined in
    let l = ap length has.joined in
    absurd (omega (arith, q, l, inside))
some_codes output (code ∷ more) has inside = (
  code,
  more,
  refl,
  record {
    joined = ap (λ (l : List ℕ). COLON ∷ l)
        (ap (λ (l : List ℕ). after_first is_colon l) has.joined);
    each = has.each;
  },
)
