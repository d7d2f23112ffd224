-- What stands where a name ends: a sign, which is ASCII, or a backslash at the text's end.
use Rattle.std.proofs.Common.{arith, ◌≡◌, ℕ, ◌<◌, ◌≤◌, ◌+◌, List, [], ◌∷◌, true, false, inl, inr, refl, sym, subst, length, drop, get_or}
use Rattle.std.specs.Prelude.{◌==◌, ◌||◌}
use Rattle.std.proofs.lemmas.Bool.{or_cases, or_right, eqb-true}
use Rattle.std.proofs.lemmas.List.{drop_more}
use Rattle.std.specs.Str.{IsCharBoundary}
use Rattle.ux_dela.specs.Signs.{BACKSLASH, is_comma, is_dot, is_code_sign, is_plus, is_colon}
use Rattle.ux_dela.specs.Written.{Written, is_end}
use Rattle.ux_dela.specs.Reading.{characters, IsPartEnd}
use Rattle.ux_dela.proofs.CharactersLemmas.{characters_bare}
use Rattle.ux_dela.proofs.UniqueLemmas.{Stopped}
use Rattle.ux_masks.specs.Signs.{TILDE, EXCLAMATION, is_sign}

-- a sign is one of eight
is_one : (P : ℕ → Type 0) (b n : ℕ) → P n → (b == n) ≡ true → P b
is_one P b n p e = subst P (sym (eqb-true b n e)) p

pub sign_has : (P : ℕ → Type 0) → P 44 → P 46 → P 43 → P 58 → P 126 → P 33 → P 60 → P 62 →
    (b : ℕ) → is_sign b ≡ true → P b
sign_has P comma dot plus colon tilde mark less more b is =
    let t2 = is_comma b || is_dot b in
    let t3 = t2 || is_code_sign b in
    let t4 = t3 || b == TILDE in
    let t5 = t4 || b == EXCLAMATION in
    let t6 = t5 || b == 60 in
    elim (or_cases t6 (b == 62) is) [
      | inr e ↦ is_one P b 62 more e
      | inl s6 ↦ elim (or_cases t5 (b == 60) s6) [
        | inr e ↦ is_one P b 60 less e
        | inl s5 ↦ elim (or_cases t4 (b == EXCLAMATION) s5) [
          | inr e ↦ is_one P b 33 mark e
          | inl s4 ↦ elim (or_cases t3 (b == TILDE) s4) [
            | inr e ↦ is_one P b 126 tilde e
            | inl s3 ↦ elim (or_cases t2 (is_code_sign b) s3) [
              | inr e ↦ elim (or_cases (is_plus b) (is_colon b) e) [
                | inl f ↦ is_one P b 43 plus f
                | inr f ↦ is_one P b 58 colon f
              ]
              | inl s2 ↦ elim (or_cases (is_comma b) (is_dot b) s2) [
                | inl f ↦ is_one P b 44 comma f
                | inr f ↦ is_one P b 46 dot f
              ]
            ]
          ]
        ]
      ]
    ]

pub sign_ascii : (b : ℕ) → is_sign b ≡ true → b < 128
sign_ascii b is =
    sign_has (λ x. x < 128) (omega arith) (omega arith) (omega arith) (omega arith) (omega arith)
    (omega arith) (omega arith) (omega arith) b is

pub sign_other : (b : ℕ) → is_sign b ≡ true → (b == BACKSLASH) ≡ false
sign_other b is = sign_has (λ x. (x == BACKSLASH) ≡ false) refl refl refl refl refl refl refl refl b is

end_ascii : (b : ℕ) → is_end is_sign b ≡ true → b < 128
end_ascii b h =
    elim (or_cases (b == BACKSLASH) (is_sign b) h) [
      | inl l ↦ (let e = eqb-true b BACKSLASH l in omega (arith, e))
      | inr r ↦ sign_ascii b r
    ]

-- what stands at the end of a name is ASCII
pub name_end_ascii : (b : ℕ) (rest : List ℕ) → IsPartEnd is_sign (b ∷ rest) → b < 128
name_end_ascii b [] h = end_ascii b h
name_end_ascii b (c ∷ rest) h = sign_ascii b h

name_end_at : (text : List ℕ) (end : ℕ) → IsPartEnd is_sign (drop end text) → end < length text →
    get_or text end 0 < 128
name_end_at text end h lt =
    name_end_ascii (get_or text end 0) (drop (end + 1) text)
    (subst (λ (t : List ℕ). IsPartEnd is_sign t) (drop_more text end 0 lt) h)

-- a text may be cut where a name ends
pub name_end_cut : (bytes text : List ℕ) (end : ℕ) → bytes ≡ text → end ≤ length bytes →
    IsPartEnd is_sign (drop end bytes) → IsCharBoundary text end
name_end_cut bytes text end is inside ends =
    subst (λ (t : List ℕ). IsCharBoundary t end) is (
      inside,
      λ lt high. (let small = name_end_at bytes end ends lt in absurd (omega (arith, small, high))),
    )

-- no name goes on there
pub end_stopped : (rest : List ℕ) → IsPartEnd is_sign rest → Stopped is_sign (characters rest)
end_stopped [] h = tt
end_stopped (b ∷ []) h =
    elim (or_cases (b == BACKSLASH) (is_sign b) h) [
      | inl l ↦ (
          subst (λ (x : ℕ). Stopped is_sign (characters (x ∷ []))) (sym (eqb-true b BACKSLASH l))
          refl)
      | inr r ↦ (
          subst (λ (w : List Written). Stopped is_sign w)
          (sym (characters_bare b [] (sign_other b r))) h)
    ]
end_stopped (b ∷ (c ∷ rest)) h =
    subst (λ (w : List Written). Stopped is_sign w)
    (sym (characters_bare b (c ∷ rest) (sign_other b h)))
    (or_right (b == BACKSLASH) (is_sign b) h)
