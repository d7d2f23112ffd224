-- A list of codes is read in one way, and none of its codes is empty.
use Rattle.std.proofs.Common.{arith, ◌≡◌, ℕ, List, [], ◌∷◌, ◌++◌, Bool, refl, sym, ◌∙◌, ap, append_assoc, length}
use Rattle.std.proofs.lemmas.List.{append-nil}
use Rattle.ux_dela.specs.Signs.{PLUS, COLON, is_colon, is_code_sign}
use Rattle.ux_dela.specs.Written.{Written, bare, protected, all_behind}
use Rattle.ux_dela.specs.Codes.{EndsCode, IsCodeList, IsEmptyAt, no_gram, no_sem, no_infl}
use Rattle.ux_dela.proofs.UniqueLemmas.{Stopped, IsOver, one_front, one_run, no_code, none_empty}

abbrev pub value : Written → ℕ
value (bare b) = b
value (protected b) = 0

abbrev pub first_value : List Written → ℕ
first_value [] = 0
first_value (x ∷ w) = value x

not_plus : (w behind : List Written) → bare COLON ∷ w ≡ bare PLUS ∷ behind → ⊥
not_plus w behind e = let n : COLON ≡ PLUS = ap first_value e in absurd (omega (arith, n))

none_plus : (behind : List Written) → [] ≡ bare PLUS ∷ behind → ⊥
none_plus behind e = omega (arith, ap length e)

-- inflection codes, or nothing, are no semantic codes
over_infl : (infl : List (List Written)) (w : List Written) →
    IsOver PLUS is_code_sign (all_behind COLON infl ++ bare COLON ∷ w)
over_infl [] w = record { stopped = refl; other = λ behind e. absurd (not_plus w behind e) }
over_infl (code ∷ infl) w = record {
  stopped = refl;
  other = λ behind e.
      absurd (not_plus ((code ++ all_behind COLON infl) ++ bare COLON ∷ w) behind e);
}

pub over_list : (infl : List (List Written)) → IsOver PLUS is_code_sign (all_behind COLON infl)
over_list [] = record { stopped = tt; other = λ behind e. absurd (none_plus behind e) }
over_list (code ∷ infl) = record {
  stopped = refl;
  other = λ behind e. absurd (not_plus (code ++ all_behind COLON infl) behind e);
}

pub over_none : (sign : ℕ) (stops : ℕ → Bool) → IsOver sign stops []
over_none sign stops =
    record { stopped = tt; other = λ behind e. absurd (omega (arith, ap length e)) }

-- what stands behind the grammatical code
stopped_sem : (sem : List (List Written)) (w : List Written) → Stopped is_code_sign w →
    Stopped is_code_sign (all_behind PLUS sem ++ w)
stopped_sem [] w s = s
stopped_sem (code ∷ sem) w s = refl

-- a list of codes is read in one way
pub one_list : (codes gram other : List Written) (sem infl sem' infl' : List (List Written)) →
    IsCodeList codes gram sem infl → IsCodeList codes other sem' infl' →
    (gram ≡ other) × (sem ≡ sem') × (infl ≡ infl')
one_list codes gram other sem infl sem' infl' a b =
    let first = one_front is_code_sign gram other
    (all_behind PLUS sem ++ all_behind COLON infl) (all_behind PLUS sem' ++ all_behind COLON infl')
    a.is_gram.part b.is_gram.part
    (stopped_sem sem (all_behind COLON infl) (over_list infl).stopped)
    (stopped_sem sem' (all_behind COLON infl') (over_list infl').stopped)
    (sym a.whole ∙ b.whole) in
    let second = one_run PLUS is_code_sign sem sem' (all_behind COLON infl) (all_behind COLON infl')
    refl a.are_sem b.are_sem (over_list infl) (over_list infl') first.1 in
    let third = one_run COLON is_colon infl infl' [] [] refl a.are_infl b.are_infl
    (over_none COLON is_colon) (over_none COLON is_colon)
    (append-nil (all_behind COLON infl) ∙ second.1 ∙ sym (append-nil (all_behind COLON infl'))) in
    (first.0, second.0, third.0)

-- a list behind whose front no semantic code stands is none
sem_empty : (front gram behind other : List Written) (sem sem' infl' : List (List Written)) →
    IsCodeList front gram sem [] → EndsCode is_code_sign behind →
    IsCodeList (front ++ bare PLUS ∷ behind) other sem' infl' → ⊥
sem_empty front gram behind other sem sem' infl' f ends a =
    let whole : gram ++ (all_behind PLUS sem ++ bare PLUS ∷ behind)
    ≡ other ++ (all_behind PLUS sem' ++ all_behind COLON infl') =
    ap (λ t. gram ++ t) (sym (ap (λ t. t ++ bare PLUS ∷ behind) (append-nil (all_behind PLUS sem))))
    ∙ sym (append_assoc gram (all_behind PLUS sem ++ []) (bare PLUS ∷ behind))
    ∙ ap (λ t. t ++ bare PLUS ∷ behind) (sym f.whole) ∙ a.whole in
    let first = one_front is_code_sign gram other (all_behind PLUS sem ++ bare PLUS ∷ behind)
    (all_behind PLUS sem' ++ all_behind COLON infl') f.is_gram.part a.is_gram.part
    (stopped_sem sem (bare PLUS ∷ behind) refl)
    (stopped_sem sem' (all_behind COLON infl') (over_list infl').stopped) whole in
    none_empty PLUS is_code_sign sem' sem (all_behind COLON infl') behind refl a.are_sem f.are_sem
    (over_list infl') ends (sym first.1)

-- a list behind whose front no inflection code stands is none
infl_empty : (front gram behind other : List Written) (sem infl sem' infl' : List (List Written)) →
    IsCodeList front gram sem infl → EndsCode is_colon behind →
    IsCodeList (front ++ bare COLON ∷ behind) other sem' infl' → ⊥
infl_empty front gram behind other sem infl sem' infl' f ends a =
    let later = all_behind COLON infl ++ bare COLON ∷ behind in
    let whole : gram ++ (all_behind PLUS sem ++ later)
    ≡ other ++ (all_behind PLUS sem' ++ all_behind COLON infl') =
    ap (λ t. gram ++ t)
    (sym (append_assoc (all_behind PLUS sem) (all_behind COLON infl) (bare COLON ∷ behind)))
    ∙ sym (append_assoc gram (all_behind PLUS sem ++ all_behind COLON infl) (bare COLON ∷ behind))
    ∙ ap (λ t. t ++ bare COLON ∷ behind) (sym f.whole) ∙ a.whole in
    let over = over_infl infl behind in
    let first = one_front is_code_sign gram other (all_behind PLUS sem ++ later)
    (all_behind PLUS sem' ++ all_behind COLON infl') f.is_gram.part a.is_gram.part
    (stopped_sem sem later over.stopped)
    (stopped_sem sem' (all_behind COLON infl') (over_list infl').stopped) whole in
    let second = one_run PLUS is_code_sign sem sem' later (all_behind COLON infl') refl f.are_sem
    a.are_sem over (over_list infl') first.1 in
    none_empty COLON is_colon infl' infl [] behind refl a.are_infl f.are_infl
    (over_none COLON is_colon) ends (append-nil (all_behind COLON infl') ∙ sym second.1)

-- no list has an empty code
pub none_is_empty : (codes gram : List Written) (sem infl : List (List Written)) (place : ℕ) →
    IsEmptyAt codes place → IsCodeList codes gram sem infl → ⊥
none_is_empty codes gram sem infl place (no_gram behind ends) a =
    no_code is_code_sign gram (all_behind PLUS sem ++ all_behind COLON infl) behind a.is_gram ends
    (sym a.whole)
none_is_empty codes gram sem infl place (no_sem front other behind sem' f ends) a =
    sem_empty front other behind gram sem' sem infl f ends a
none_is_empty codes gram sem infl place (no_infl front other behind sem' infl' f ends) a =
    infl_empty front other behind gram sem' infl' sem infl f ends a
