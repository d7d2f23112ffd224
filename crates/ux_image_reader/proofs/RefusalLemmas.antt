-- What refuses a file, by its first bytes, its two counts and the place where its states end: one
-- error, and none where it has a front.
use Rattle.std.proofs.Common.{arith, ◌≡◌, ℕ, zero, suc, ◌<◌, ◌≤◌, List, [], ◌∷◌, ◌++◌, ◌⊎◌, inl, inr, refl, sym, ◌∙◌, ap, subst, length, take}
use Rattle.std.specs.Prelude.{Some}
use Rattle.std.proofs.lemmas.Bool.{cases_lt}
use Rattle.std.proofs.lemmas.List.{length-take, take_all}
use Rattle.ux_dawg.specs.declared.state.State.{State}
use Rattle.ux_image_reader.specs.declared.error.ImageError.{ImageError}
use Rattle.ux_image_reader.specs.declared.error.ImageError.TheVariants.{BadMagic, Short, BadState, BadCode, Trailing, TooMany, NoMemory}
use Rattle.ux_image_reader.specs.declared.front.Front.{Front}
use Rattle.ux_image_reader.specs.declared.front.Version.{Version}
use Rattle.ux_image_reader.specs.declared.front.Version.TheVariants.{One, Two}
use Rattle.ux_image_reader.specs.Layout.{magic_of, numbers_behind, place_behind, written_all, BeginsMagic, HasMagic}
use Rattle.ux_image_reader.specs.Tests.{limits_behind, AllPass, IsWhole, Pass}
use Rattle.ux_image_reader.specs.Fronts.{before_count, before_lists, by_itself, in_magic, in_state, misplaced, no_state, unused_list, Begins, IsFrontOf, IsMisplaced, RefusesFront}
use Rattle.ux_image_reader.specs.Reading.{FirstBegins, IsFirst, IsUnused, RefusesTogether, Stops}
use Rattle.ux_image_reader.proofs.StopLemmas.{ends_failing, ends_short, ends_whole, one_stop, Ends}

-- the error at the place where the states end
abbrev pub IsError : (count lists : ℕ) → List State → List ℕ → ImageError → Type 0
IsError count lists states rest error =
    ((length states < count) × Stops (Pass (limits_behind count lists states) rest) (IsWhole rest)
    (place_behind states) error)
    ⊎ ((length states ≡ count) × RefusesTogether lists states error)

-- the states end there with this error, which isn't want of memory
pub record Verdict (count lists : ℕ) (numbers : List ℕ) (error : ImageError) : Type 0 where
  pub states : List State
  pub rest : List ℕ
  pub numbers_are : numbers ≡ written_all states ++ rest
  pub passed : AllPass count lists states
  pub ends : Ends count lists states rest
  pub is_error : IsError count lists states rest error
  pub told : error ≡ NoMemory → ⊥

-- the error by the numbers behind the magic
abbrev pub ByNumbers : List ℕ → ImageError → Type 0
ByNumbers [] error = error ≡ Short
ByNumbers (zero ∷ numbers) error = error ≡ BadState 8
ByNumbers (suc n ∷ []) error = error ≡ Short
ByNumbers (suc n ∷ (lists ∷ numbers)) error = Verdict (suc n) lists numbers error

-- the error by the bytes
abbrev pub ByBytes : List ℕ → ImageError → Type 0
ByBytes bytes error =
    ((BeginsMagic bytes → ⊥) × (error ≡ BadMagic))
    ⊎ (BeginsMagic bytes × (length bytes < 8) × (error ≡ Short))
    ⊎ ((version : Version) × HasMagic version bytes × ByNumbers (numbers_behind bytes) error)

magic_length : (version : Version) → length (magic_of version) ≡ 8
magic_length One = refl
magic_length Two = refl

-- a magic is long enough, and begins one
has_eight : (version : Version) (bytes : List ℕ) → HasMagic version bytes → 8 ≤ length bytes
has_eight version bytes has =
    let l = length-take 8 bytes in
    let m = ap (length {A = ℕ}) has in
    let e = magic_length version in
    omega (arith, l, m, e)

begins_magic : (version : Version) (bytes : List ℕ) → HasMagic version bytes → BeginsMagic bytes
begins_magic version bytes has =
    let long = has_eight version bytes has in
    let e = magic_length version in
    (version, has ∙ sym (take_all (length bytes) (magic_of version) (omega (arith, long, e))))

module _ (bytes : List ℕ) (error : ImageError) where
  with_numbers : (version : Version) (numbers : List ℕ) → HasMagic version bytes →
      numbers_behind bytes ≡ numbers → ByNumbers numbers error → ByBytes bytes error
  with_numbers version numbers has are by =
      inr (inr (version, has, subst (λ (l : List ℕ). ByNumbers l error) (sym are) by))

  with_counts : (version : Version) (count lists : ℕ) (states : List State) (rest : List ℕ) →
      Begins bytes version count lists states rest → 0 < count → Ends count lists states rest →
      (error ≡ NoMemory → ⊥) → IsError count lists states rest error → ByBytes bytes error
  with_counts version zero lists states rest begins some ends told is =
      absurd (omega (arith, some))
  with_counts version (suc n) lists states rest begins some ends told is =
      with_numbers version (suc n ∷ (lists ∷ (written_all states ++ rest))) begins.magic
      begins.numbers (record {
        states = states;
        rest = rest;
        numbers_are = refl;
        passed = begins.passed;
        ends = ends;
        is_error = is;
        told = told;
      })

-- each refusal is one by the bytes
pub by_bytes : (bytes : List ℕ) (error : ImageError) → RefusesFront bytes error → ByBytes bytes error
by_bytes bytes BadMagic not = inl (not, refl)
by_bytes bytes Short (in_magic begins few) = inr (inl (begins, few, refl))
by_bytes bytes Short (before_count version has none) =
    with_numbers bytes Short version [] has none refl
by_bytes bytes Short (before_lists version zero has is some) = absurd (omega (arith, some))
by_bytes bytes Short (before_lists version (suc n) has is some) =
    with_numbers bytes Short version (suc n ∷ []) has is refl
by_bytes bytes Short (in_state version count lists before rest begins fewer pass part) =
    with_counts bytes Short version count lists before rest begins (omega (arith, fewer))
    (ends_short count lists before rest (omega (arith, fewer)) part) (λ e. cc) (inl (fewer, (pass, part)))
by_bytes bytes (BadState offset) (no_state version numbers has is at) =
    with_numbers bytes (BadState offset) version (0 ∷ numbers) has is (ap BadState at)
by_bytes bytes (BadState offset) (by_itself version count lists before rest begins fewer fails at) =
    with_counts bytes (BadState offset) version count lists before rest begins (omega (arith, fewer))
    (ends_failing count lists before rest (omega (arith, fewer)) fails) (λ e. cc) (inl (fewer, (fails, at)))
by_bytes bytes (BadState offset)
    (misplaced version lists states rest number begins some is first at) =
    with_counts bytes (BadState offset) version (length states) lists states rest begins some
    (ends_whole (length states) lists states rest refl) (λ e. cc)
    (inr (refl, inl (record { number = number; first = (is, first); is = at })))
by_bytes bytes (BadState offset) (unused_list version lists states rest begins some none fewer at) =
    with_counts bytes (BadState offset) version (length states) lists states rest begins some
    (ends_whole (length states) lists states rest refl) (λ e. cc)
    (inr (refl, inr (record { none = none; fewer = fewer; is = at })))
by_bytes bytes (BadCode number) none = absurd none
by_bytes bytes Trailing none = absurd none
by_bytes bytes TooMany none = absurd none
by_bytes bytes NoMemory none = absurd none

-- a number is the first in one way
first_once : (P : ℕ → Type 0) (m n : ℕ) → IsFirst P (Some m) → IsFirst P (Some n) → m ≡ n
first_once P m n first other = elim (cases_lt m n) [
  | inl less ↦ absurd (other.1 m less first.0)
  | inr more ↦ elim (cases_lt n m) [
    | inl less ↦ absurd (first.1 n less other.0)
    | inr same ↦ omega (arith, more, same)
  ]
]

module _ (pass whole : Type 0) (place : ℕ) where
  stops_once : (one other : ImageError) → (one ≡ NoMemory → ⊥) → (other ≡ NoMemory → ⊥) →
      Stops pass whole place one → Stops pass whole place other → one ≡ other
  stops_once BadMagic other t u h k = absurd h
  stops_once (BadCode n) other t u h k = absurd h
  stops_once Trailing other t u h k = absurd h
  stops_once TooMany other t u h k = absurd h
  stops_once NoMemory other t u h k = absurd (t refl)
  stops_once Short BadMagic t u h k = absurd k
  stops_once Short (BadCode n) t u h k = absurd k
  stops_once Short Trailing t u h k = absurd k
  stops_once Short TooMany t u h k = absurd k
  stops_once Short NoMemory t u h k = absurd (u refl)
  stops_once Short Short t u h k = refl
  stops_once Short (BadState p) t u h k = absurd (k.0 h.0)
  stops_once (BadState p) BadMagic t u h k = absurd k
  stops_once (BadState p) (BadCode n) t u h k = absurd k
  stops_once (BadState p) Trailing t u h k = absurd k
  stops_once (BadState p) TooMany t u h k = absurd k
  stops_once (BadState p) NoMemory t u h k = absurd (u refl)
  stops_once (BadState p) Short t u h k = absurd (h.0 k.0)
  stops_once (BadState p) (BadState q) t u h k = ap BadState (h.1 ∙ sym k.1)

module _ (lists : ℕ) (states : List State) where
  places_once : (p q : ℕ) → FirstBegins states p ⊎ IsUnused lists states p →
      FirstBegins states q ⊎ IsUnused lists states q → p ≡ q
  places_once p q (inl h) (inl k) =
      h.is ∙ ap (λ n. place_behind (take n states))
      (first_once (IsMisplaced states) h.number k.number h.first k.first) ∙ sym k.is
  places_once p q (inl h) (inr k) = absurd (k.none h.number h.first.0)
  places_once p q (inr h) (inl k) = absurd (h.none k.number k.first.0)
  places_once p q (inr h) (inr k) = h.is ∙ sym k.is

  together_once : (one other : ImageError) → (one ≡ NoMemory → ⊥) → (other ≡ NoMemory → ⊥) →
      RefusesTogether lists states one → RefusesTogether lists states other → one ≡ other
  together_once BadMagic other t u h k = absurd h
  together_once Short other t u h k = absurd h
  together_once (BadCode n) other t u h k = absurd h
  together_once Trailing other t u h k = absurd h
  together_once TooMany other t u h k = absurd h
  together_once NoMemory other t u h k = absurd (t refl)
  together_once (BadState p) BadMagic t u h k = absurd k
  together_once (BadState p) Short t u h k = absurd k
  together_once (BadState p) (BadCode n) t u h k = absurd k
  together_once (BadState p) Trailing t u h k = absurd k
  together_once (BadState p) TooMany t u h k = absurd k
  together_once (BadState p) NoMemory t u h k = absurd (u refl)
  together_once (BadState p) (BadState q) t u h k = ap BadState (places_once p q h k)

module _ (count lists : ℕ) (states : List State) (rest : List ℕ) where
  errors_once : (one other : ImageError) → (one ≡ NoMemory → ⊥) → (other ≡ NoMemory → ⊥) →
      IsError count lists states rest one → IsError count lists states rest other → one ≡ other
  errors_once one other t u (inl h) (inl k) =
      stops_once (Pass (limits_behind count lists states) rest) (IsWhole rest)
      (place_behind states) one other t u h.1 k.1
  errors_once one other t u (inl h) (inr k) =
      absurd (let less = h.0 in let all = k.0 in omega (arith, less, all))
  errors_once one other t u (inr h) (inl k) =
      absurd (let all = h.0 in let less = k.0 in omega (arith, less, all))
  errors_once one other t u (inr h) (inr k) = together_once lists states one other t u h.1 k.1

verdicts_once : (count lists : ℕ) (numbers : List ℕ) (one other : ImageError) →
    Verdict count lists numbers one → Verdict count lists numbers other → one ≡ other
verdicts_once count lists numbers one other v w =
    let same = one_stop count lists w.states v.states w.rest v.rest
    (sym w.numbers_are ∙ v.numbers_are) w.passed v.passed w.ends v.ends in
    errors_once count lists v.states v.rest one other v.told w.told v.is_error
    (subst (λ (l : List ℕ). IsError count lists v.states l other) same.1
    (subst (λ (l : List State). IsError count lists l w.rest other) same.0 w.is_error))

numbers_once : (numbers : List ℕ) (one other : ImageError) →
    ByNumbers numbers one → ByNumbers numbers other → one ≡ other
numbers_once [] one other h k = h ∙ sym k
numbers_once (zero ∷ numbers) one other h k = h ∙ sym k
numbers_once (suc n ∷ []) one other h k = h ∙ sym k
numbers_once (suc n ∷ (lists ∷ numbers)) one other h k =
    verdicts_once (suc n) lists numbers one other h k

-- so the bytes have one error
pub one_error : (bytes : List ℕ) (one other : ImageError) → ByBytes bytes one →
    ByBytes bytes other → one ≡ other
one_error bytes one other (inl h) (inl k) = h.1 ∙ sym k.1
one_error bytes one other (inl h) (inr (inl k)) = absurd (h.0 k.0)
one_error bytes one other (inl h) (inr (inr k)) = absurd (h.0 (begins_magic k.0 bytes k.1))
one_error bytes one other (inr (inl h)) (inl k) = absurd (k.0 h.0)
one_error bytes one other (inr (inl h)) (inr (inl k)) = h.2 ∙ sym k.2
one_error bytes one other (inr (inl h)) (inr (inr k)) =
    absurd (let few = h.1 in let many = has_eight k.0 bytes k.1 in omega (arith, few, many))
one_error bytes one other (inr (inr h)) (inl k) = absurd (k.0 (begins_magic h.0 bytes h.1))
one_error bytes one other (inr (inr h)) (inr (inl k)) =
    absurd (let few = k.1 in let many = has_eight h.0 bytes h.1 in omega (arith, few, many))
one_error bytes one other (inr (inr h)) (inr (inr k)) =
    numbers_once (numbers_behind bytes) one other h.2 k.2

verdict_of : (numbers : List ℕ) (count lists : ℕ) (more : List ℕ) (error : ImageError) →
    numbers ≡ count ∷ (lists ∷ more) → 0 < count → ByNumbers numbers error →
    Verdict count lists more error
verdict_of numbers count lists more error is some by =
    at count some (subst (λ (l : List ℕ). ByNumbers l error) is by)
  where
    at : (n : ℕ) → 0 < n → ByNumbers (n ∷ (lists ∷ more)) error → Verdict n lists more error
    at zero some by = absurd (omega (arith, some))
    at (suc n) some by = by

-- and none where there is a front
pub no_error : (bytes : List ℕ) (front : Front) (error : ImageError) → IsFrontOf bytes front →
    ByBytes bytes error → ⊥
no_error bytes front error is (inl h) =
    h.0 (begins_magic front.version bytes is.begins.magic)
no_error bytes front error is (inr (inl h)) =
    let few = h.1 in let many = has_eight front.version bytes is.begins.magic in
    omega (arith, few, many)
no_error bytes front error is (inr (inr h)) =
    let v = verdict_of (numbers_behind bytes) (length front.states) front.lists
    (written_all front.states ++ is.rest) error is.begins.numbers is.accepted.some h.2 in
    let same = one_stop (length front.states) front.lists v.states front.states v.rest is.rest
    (sym v.numbers_are) v.passed is.begins.passed v.ends
    (ends_whole (length front.states) front.lists front.states is.rest refl) in
    no_more v.states v.rest same.0 v.is_error v.told
  where
    none : (number : ℕ) → IsMisplaced front.states number → ⊥
    none number (inl h) = is.accepted.root number h
    none number (inr (inl h)) = is.accepted.once number h
    none number (inr (inr h)) = is.accepted.numbered number h

    together : (error : ImageError) → (error ≡ NoMemory → ⊥) →
        RefusesTogether front.lists front.states error → ⊥
    together BadMagic t h = h
    together Short t h = h
    together (BadCode n) t h = h
    together Trailing t h = h
    together TooMany t h = h
    together NoMemory t h = t refl
    together (BadState p) t (inl h) = none h.number h.first.0
    together (BadState p) t (inr h) =
        let fewer = h.fewer in let all = is.accepted.used in omega (arith, fewer, all)

    no_more : (states : List State) (rest : List ℕ) → states ≡ front.states →
        IsError (length front.states) front.lists states rest error → (error ≡ NoMemory → ⊥) → ⊥
    no_more states rest same (inl h) t =
        let less = h.0 in let all = ap (length {A = State}) same in omega (arith, less, all)
    no_more states rest same (inr h) t =
        together error t
        (subst (λ (l : List State). RefusesTogether front.lists l error) same h.1)
