-- Bytes begin with a field in one way, aren't refused besides, and are refused by one error.
use Rattle.std.proofs.Common.{arith, ◌≡◌, ℕ, ◌<◌, List, [], ◌∷◌, ◌++◌, inl, inr, refl, sym, ◌∙◌, ap, subst, length, length-append}
use Rattle.std.specs.Int.{w32, from_le_bytes}
use Rattle.std.proofs.lemmas.Bool.{cases_lt}
use Rattle.std.proofs.lemmas.List.{append-nil, append_assoc}
use Rattle.std.proofs.lemmas.Nat.{from_le_bytes-to_le_bytes_4}
use Rattle.ux_image.specs.Layout.{number_bytes}
use Rattle.ux_image_reader.specs.declared.error.ImageError.{ImageError}
use Rattle.ux_image_lists.specs.Fields.{Field, number, bytes_of, gives, tested, reads, BeginAll, each, closed}
use Rattle.ux_image_lists.proofs.FieldLemmas.{parts_same}

-- the three laws of a field
pub record IsSound {V : Type 0} (field : Field V) : Type 0 where
  pub one : (bytes : List ℕ) (v w : V) (r s : List ℕ) → field.Begins bytes v r →
      field.Begins bytes w s → (v ≡ w) × (r ≡ s)
  pub excluded : (bytes : List ℕ) (v : V) (r : List ℕ) (error : ImageError) →
      field.Begins bytes v r → field.Refuses bytes error → ⊥
  pub once : (bytes : List ℕ) (error other : ImageError) → field.Refuses bytes error →
      field.Refuses bytes other → error ≡ other

length-number_bytes : (n : ℕ) → length (number_bytes n) ≡ 4
length-number_bytes n = refl

pub sound_number : IsSound number
sound_number = record {
  one = λ bytes n m r s h k.
      let same = parts_same (number_bytes n) (number_bytes m) r s
      (length-number_bytes n ∙ sym (length-number_bytes m)) (sym h.1 ∙ k.1) in (
        sym (from_le_bytes-to_le_bytes_4 n h.0) ∙ ap (from_le_bytes w32) same.0
            ∙ from_le_bytes-to_le_bytes_4 m k.0,
        same.1,
      );
  excluded = λ bytes n r error h k.
      let long = ap (length {A = ℕ}) h.1 in
      let parts = length-append (number_bytes n) r in
      let four = length-number_bytes n in
      let few = k.1 in
      omega (arith, long, parts, four, few);
  once = λ bytes error other h k. h.0 ∙ sym k.0;
}

pub sound_bytes : (many : ℕ) → IsSound (bytes_of many)
sound_bytes many = record {
  one = λ bytes x y r s h k. parts_same x y r s (h.0 ∙ sym k.0) (sym h.1 ∙ k.1);
  excluded = λ bytes x r error h k.
      let long = ap (length {A = ℕ}) h.1 in
      let parts = length-append x r in
      let many_are = h.0 in
      let few = k.1 in
      omega (arith, long, parts, many_are, few);
  once = λ bytes error other h k. h.0 ∙ sym k.0;
}

pub sound_gives : {V : Type 0} (value : V) → IsSound (gives value)
sound_gives value = record {
  one = λ bytes v w r s h k. (h.0 ∙ sym k.0, h.1 ∙ sym k.1);
  excluded = λ bytes v r error h k. k;
  once = λ bytes error other h k. absurd h;
}

module _ {V : Type 0} (field : Field V) (sound : IsSound field) where
  pub sound_tested : (Passes : V → Type 0) (fault : ImageError) →
      IsSound (tested field Passes fault)
  sound_tested Passes fault = record {
    one = λ bytes v w r s h k. sound.one bytes v w r s h.0 k.0;
    excluded = λ bytes v r error h k. excluded bytes v r error h.0 h.1 k;
    once = once;
  }
    where
      excluded : (bytes : List ℕ) (v : V) (r : List ℕ) (error : ImageError) →
          field.Begins bytes v r → Passes v → (tested field Passes fault).Refuses bytes error → ⊥
      excluded bytes v r error h p (inl k) = sound.excluded bytes v r error h k
      excluded bytes v r error h p (inr k) =
          k.3 (subst Passes (sound.one bytes v k.0 r k.1 h k.2).0 p)

      once : (bytes : List ℕ) (error other : ImageError) →
          (tested field Passes fault).Refuses bytes error →
          (tested field Passes fault).Refuses bytes other → error ≡ other
      once bytes error other (inl h) (inl k) = sound.once bytes error other h k
      once bytes error other (inl h) (inr k) = absurd (sound.excluded bytes k.0 k.1 error k.2 h)
      once bytes error other (inr h) (inl k) = absurd (sound.excluded bytes h.0 h.1 other h.2 k)
      once bytes error other (inr h) (inr k) = h.4 ∙ sym k.4

  pub sound_closed : IsSound (closed field)
  sound_closed = record {
    one = λ bytes v w r s h k. sound.one bytes v w r s h.0 k.0;
    excluded = λ bytes v r error h k. excluded bytes v r error h.0 h.1 k;
    once = once;
  }
    where
      excluded : (bytes : List ℕ) (v : V) (r : List ℕ) (error : ImageError) →
          field.Begins bytes v r → r ≡ [] → (closed field).Refuses bytes error → ⊥
      excluded bytes v r error h p (inl k) = sound.excluded bytes v r error h k
      excluded bytes v r error h p (inr k) =
          k.3 (sym (sound.one bytes v k.0 r k.1 h k.2).1 ∙ p)

      once : (bytes : List ℕ) (error other : ImageError) → (closed field).Refuses bytes error →
          (closed field).Refuses bytes other → error ≡ other
      once bytes error other (inl h) (inl k) = sound.once bytes error other h k
      once bytes error other (inl h) (inr k) = absurd (sound.excluded bytes k.0 k.1 error k.2 h)
      once bytes error other (inr h) (inl k) = absurd (sound.excluded bytes h.0 h.1 other h.2 k)
      once bytes error other (inr h) (inr k) = h.4 ∙ sym k.4

  module _ {W : Type 0} (then : V → Field W) (sounds : (v : V) → IsSound (then v)) where
    -- what stands behind the first field
    behind_same : (bytes : List ℕ) (v u : V) (r s : List ℕ) (w : W) (rest : List ℕ) →
        field.Begins bytes v r → field.Begins bytes u s → (then u).Begins s w rest →
        (then v).Begins r w rest
    behind_same bytes v u r s w rest h k b =
        let same = sound.one bytes u v s r k h in
        subst (λ (l : List ℕ). (then v).Begins l w rest) same.1
        (subst (λ (x : V). (then x).Begins s w rest) same.0 b)

    refused_same : (bytes : List ℕ) (v u : V) (r s : List ℕ) (error : ImageError) →
        field.Begins bytes v r → field.Begins bytes u s → (then u).Refuses s error →
        (then v).Refuses r error
    refused_same bytes v u r s error h k b =
        let same = sound.one bytes u v s r k h in
        subst (λ (l : List ℕ). (then v).Refuses l error) same.1
        (subst (λ (x : V). (then x).Refuses s error) same.0 b)

    pub sound_reads : IsSound (reads field then)
    sound_reads = record {
      one = λ bytes v w r s h k. (sounds h.0).one h.1 v w r s h.3
          (behind_same bytes h.0 k.0 h.1 k.1 w s h.2 k.2 k.3);
      excluded = λ bytes w r error h k. excluded bytes w r error h.0 h.1 h.2 h.3 k;
      once = once;
    }
      where
        excluded : (bytes : List ℕ) (w : W) (r : List ℕ) (error : ImageError) (v : V)
            (mid : List ℕ) → field.Begins bytes v mid → (then v).Begins mid w r →
            (reads field then).Refuses bytes error → ⊥
        excluded bytes w r error v mid h b (inl k) = sound.excluded bytes v mid error h k
        excluded bytes w r error v mid h b (inr k) =
            (sounds v).excluded mid w r error b
            (refused_same bytes v k.0 mid k.1 error h k.2 k.3)

        once : (bytes : List ℕ) (error other : ImageError) →
            (reads field then).Refuses bytes error → (reads field then).Refuses bytes other →
            error ≡ other
        once bytes error other (inl h) (inl k) = sound.once bytes error other h k
        once bytes error other (inl h) (inr k) =
            absurd (sound.excluded bytes k.0 k.1 error k.2 h)
        once bytes error other (inr h) (inl k) =
            absurd (sound.excluded bytes h.0 h.1 other h.2 k)
        once bytes error other (inr h) (inr k) =
            (sounds h.0).once h.1 error other h.3
            (refused_same bytes h.0 k.0 h.1 k.1 other h.2 k.2 k.3)

module _ {V : Type 0} (field : List V → Field V)
    (sounds : (before : List V) → IsSound (field before)) where
  -- as many of them are the same
  all_one : (before : List V) (bytes : List ℕ) (xs ys : List V) (r s : List ℕ) →
      length xs ≡ length ys → BeginAll field before bytes xs r →
      BeginAll field before bytes ys s → (xs ≡ ys) × (r ≡ s)
  all_one before bytes [] [] r s long h k = (refl, h ∙ sym k)
  all_one before bytes [] (y ∷ ys) r s long h k = absurd (omega (arith, long))
  all_one before bytes (x ∷ xs) [] r s long h k = absurd (omega (arith, long))
  all_one before bytes (x ∷ xs) (y ∷ ys) r s long h k =
      let same = (sounds before).one bytes y x k.0 h.0 k.1 h.1 in
      let later = all_one (before ++ x ∷ []) h.0 xs ys r s (omega (arith, long)) h.2
      (subst (λ (l : List ℕ). BeginAll field (before ++ x ∷ []) l ys s) same.1
      (subst (λ (v : V). BeginAll field (before ++ v ∷ []) k.0 ys s) same.0 k.2)) in
      (ap (λ (v : V). v ∷ xs) (sym same.0) ∙ ap (λ (l : List V). y ∷ l) later.0, later.1)

  -- behind the first of them none is refused
  none_refused : (before : List V) (bytes : List ℕ) (xs ys : List V) (mid r : List ℕ)
      (error : ImageError) → length xs < length ys → BeginAll field before bytes xs mid →
      BeginAll field before bytes ys r → (field (before ++ xs)).Refuses mid error → ⊥
  none_refused before bytes xs [] mid r error less h k refused = omega (arith, less)
  none_refused before bytes [] (y ∷ ys) mid r error less h k refused =
      (sounds before).excluded bytes y k.0 error k.1
      (subst (λ (l : List ℕ). (field before).Refuses l error) h
      (subst (λ (l : List V). (field l).Refuses mid error) (append-nil before) refused))
  none_refused before bytes (x ∷ xs) (y ∷ ys) mid r error less h k refused =
      let same = (sounds before).one bytes y x k.0 h.0 k.1 h.1 in
      none_refused (before ++ x ∷ []) h.0 xs ys mid r error (omega (arith, less)) h.2
      (subst (λ (l : List ℕ). BeginAll field (before ++ x ∷ []) l ys r) same.1
      (subst (λ (v : V). BeginAll field (before ++ v ∷ []) k.0 ys r) same.0 k.2))
      (subst (λ (l : List V). (field l).Refuses mid error)
      (sym (append_assoc before (x ∷ []) xs)) refused)

  pub sound_each : (many : ℕ) → IsSound (each many field)
  sound_each many = record {
    one = λ bytes xs ys r s h k. all_one [] bytes xs ys r s (h.0 ∙ sym k.0) h.1 k.1;
    excluded = λ bytes xs r error h k.
        none_refused [] bytes k.0 xs k.1 r error
        (let less = k.2 in let many_are = h.0 in omega (arith, less, many_are)) k.3 h.1 k.4;
    once = λ bytes error other h k. elim (cases_lt (length h.0) (length k.0)) [
      | inl less ↦ absurd (none_refused [] bytes h.0 k.0 h.1 k.1 error less h.3 k.3 h.4)
      | inr more ↦ elim (cases_lt (length k.0) (length h.0)) [
        | inl less ↦ absurd (none_refused [] bytes k.0 h.0 k.1 h.1 other less k.3 h.3 k.4)
        | inr fewer ↦
            let same = all_one [] bytes k.0 h.0 k.1 h.1 (omega (arith, more, fewer)) k.3 h.3 in
            (sounds h.0).once h.1 error other h.4
            (subst (λ (l : List ℕ). (field h.0).Refuses l other) same.1
            (subst (λ (l : List V). (field l).Refuses k.1 other) same.0 k.4))
      ]
    ];
  }
