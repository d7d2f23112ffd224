-- A number names one list, and where no link stands twice a list has one number. Here, since the laws
-- of folds stand on it.
use Rattle.std.proofs.Common.{◌≡◌, ℕ, zero, suc, List, [], ◌∷◌, sym, ◌∙◌, ap, subst, refl, reverse}
use Rattle.std.specs.Prelude.{Some}
use Rattle.std.proofs.lemmas.List.{reverse-reverse}
use Rattle.std.proofs.lemmas.Option.{same_Some, none-some}
use Rattle.ux_folds.specs.declared.lists.Link.{Link}
use Rattle.ux_folds.specs.Lists.{link_at, Names, Spells, AreOnce, AreSound}

-- the number isn't 0
abbrev IsSuccessor : ℕ → Type 0
IsSuccessor zero = ⊥
IsSuccessor (suc n) = Unit {0}

module _ {A : Type 0} where
  pub no_link : (links : List (Link A)) (n : ℕ) (link : Link A) → n ≡ 0 → link_at links n ≡ Some link →
      ⊥
  no_link links zero link zero_is at = none-some link at
  no_link links (suc n) link zero_is at = absurd (subst IsSuccessor zero_is tt)

  one_list : (links : List (Link A)) (n : ℕ) (xs ys : List A) → Names links n xs →
      Names links n ys → xs ≡ ys
  one_list links n [] [] h k = refl
  one_list links n [] (y ∷ ys) h k = absurd (no_link links n _ h k.1)
  one_list links n (x ∷ xs) [] h k = absurd (no_link links n _ k h.1)
  one_list links n (x ∷ xs) (y ∷ ys) h k =
      let same : record { last = x; front = h.0 } ≡ record { last = y; front = k.0 } =
      same_Some _ _ (sym h.1 ∙ k.1) in
      let tails = one_list links k.0 xs ys
      (subst (λ t. Names links t xs) (ap (λ (l : Link A). l.front) same) h.2) k.2 in
      ap (λ (z : A). z ∷ xs) (ap (λ (l : Link A). l.last) same)
      ∙ ap (λ (zs : List A). y ∷ zs) tails

  -- a number names one list
  pub spells_one : (links : List (Link A)) (n : ℕ) (xs ys : List A) → Spells links n xs →
      Spells links n ys → xs ≡ ys
  spells_one links n xs ys h k =
      sym (reverse-reverse xs)
      ∙ (ap (λ (l : List A). reverse l) (one_list links n (reverse xs) (reverse ys) h k)
      ∙ reverse-reverse ys)

  one_link : (links : List (Link A)) → AreOnce links → (n m : ℕ) (link : Link A) →
      link_at links n ≡ Some link → link_at links m ≡ Some link → n ≡ m
  one_link links once zero m link at there = absurd (none-some link at)
  one_link links once (suc n) zero link at there = absurd (none-some link there)
  one_link links once (suc n) (suc m) link at there = ap suc (once n m link at there)

  one_number : (links : List (Link A)) → AreOnce links → (xs : List A) (n m : ℕ) →
      Names links n xs → Names links m xs → n ≡ m
  one_number links once [] n m h k = h ∙ sym k
  one_number links once (x ∷ xs) n m h k =
      let tails : h.0 ≡ k.0 = one_number links once xs h.0 k.0 h.2 k.2 in
      one_link links once n m (record { last = x; front = k.0 })
      (h.1 ∙ ap (λ t. Some (record { last = x; front = t })) tails) k.1

  -- where no link stands twice a list has one number
  pub number_one : (links : List (Link A)) → AreSound links → (xs : List A) (n m : ℕ) →
      Spells links n xs → Spells links m xs → n ≡ m
  number_one links sound xs n m h k = one_number links sound.once (reverse xs) n m h k
