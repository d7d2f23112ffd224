-- Fields that follow one another.
use Rattle.std.proofs.Common.{arith, ◌≡◌, ℕ, ◌+◌, ◌^◌, ◌<◌, List, [], ◌∷◌, ◌++◌, ◌⊎◌, inl, inr, refl, sym, ◌∙◌, ap, subst, length, take, drop}
use Rattle.std.proofs.lemmas.List.{append-nil, append_assoc, length_push, take-append-drop}
use Rattle.ux_image.specs.Layout.{number_bytes}
use Rattle.ux_image_reader.specs.declared.error.ImageError.{ImageError}
use Rattle.ux_image_lists.specs.Fields.{Field, BeginAll, each, number}

-- the first parts of two lists that are one, where they are as long
pub parts_same : {A : Type 0} (xs ys r s : List A) → length xs ≡ length ys → xs ++ r ≡ ys ++ s →
    (xs ≡ ys) × (r ≡ s)
parts_same [] [] r s long same = (refl, same)
parts_same [] (y ∷ ys) r s long same = absurd (omega (arith, long))
parts_same (x ∷ xs) [] r s long same = absurd (omega (arith, long))
parts_same {A} (x ∷ xs) (y ∷ ys) r s long same =
    let first : x ≡ y = cc in
    let later : xs ++ r ≡ ys ++ s = cc in
    let rest = parts_same xs ys r s (omega (arith, long)) later in
    (ap (λ (a : A). a ∷ xs) first ∙ ap (λ (l : List A). y ∷ l) rest.0, rest.1)

-- what is refused is refused for more
pub still : {A P Q : Type 0} → A ⊎ P → (P → Q) → A ⊎ Q
still (inl a) more = inl a
still (inr p) more = inr (more p)

-- a number of four bytes
pub number_read : (bytes four rest : List ℕ) (n : ℕ) → n < 2 ^ 32 → number_bytes n ≡ four →
    four ≡ take 4 bytes → rest ≡ drop 4 bytes → number.Begins bytes n rest
number_read bytes four rest n fits written four_is rest_is = (
  fits,
  sym (take-append-drop 4 bytes) ∙ ap (λ (l : List ℕ). take 4 bytes ++ l) (sym rest_is)
      ∙ ap (λ (l : List ℕ). l ++ rest) (sym four_is ∙ sym written),
)

module _ {V : Type 0} (field : List V → Field V) where
  -- one more stands behind them
  pub begin_push : (before : List V) (bytes : List ℕ) (xs : List V) (mid : List ℕ) (x : V)
      (rest : List ℕ) → BeginAll field before bytes xs mid →
      (field (before ++ xs)).Begins mid x rest → BeginAll field before bytes (xs ++ x ∷ []) rest
  begin_push before bytes [] mid x rest all next = (
    rest,
    subst (λ (b : List ℕ). (field before).Begins b x rest) all
        (subst (λ (l : List V). (field l).Begins mid x rest) (append-nil before) next),
    refl,
  )
  begin_push before bytes (y ∷ xs) mid x rest all next = (
    all.0,
    all.1,
    begin_push (before ++ y ∷ []) all.0 xs mid x rest all.2
        (subst (λ (l : List V). (field l).Begins mid x rest)
        (sym (append_assoc before (y ∷ []) xs)) next),
  )

  -- one more of so many
  pub each_more : (i : ℕ) (bytes mid rest : List ℕ) (xs more : List V) (x : V) →
      (each i field).Begins bytes xs mid → (field xs).Begins mid x rest → more ≡ xs ++ x ∷ [] →
      (each (i + 1) field).Begins bytes more rest
  each_more i bytes mid rest xs more x all next is =
      subst (λ (l : List V). (each (i + 1) field).Begins bytes l rest) (sym is) (
        (let long = length_push xs x in let many = all.0 in omega (arith, long, many)),
        begin_push [] bytes xs mid x rest all.1 next,
      )

  -- the next one is refused, and so they are
  pub each_refused : (i many : ℕ) (bytes mid : List ℕ) (xs : List V) (error : ImageError) →
      (each i field).Begins bytes xs mid → i < many → (field xs).Refuses mid error →
      (each many field).Refuses bytes error
  each_refused i many bytes mid xs error all less refused =
      (xs, mid, (let are = all.0 in omega (arith, are, less)), all.1, refused)
