-- A number names one list, where no link stands twice a list has one number, and links that are
-- added keep what is named.
use Rattle.std.proofs.Common.{arith, ◌≡◌, ℕ, zero, suc, ◌<◌, ◌≤◌, List, [], ◌∷◌, ◌++◌, ◌⊎◌, inl, inr, refl, sym, ◌∙◌, ap, subst, length, append-nil, append_assoc}
use Rattle.std.specs.Prelude.{Some, None, slice_get}
use Rattle.std.proofs.lemmas.Option.{same_Some, none-some, slice_get_within}
use Rattle.ux_walk.specs.declared.lists.Link.{Link}
use Rattle.ux_walk.specs.Links.{link_at, Names, AreBelow, Extends, IsConsed, AreOnce}

module _ {A : Type 0} where
  pub get_extended : (xs ys : List A) (i : ℕ) (x : A) → slice_get xs i ≡ Some x →
      slice_get (xs ++ ys) i ≡ Some x
  get_extended [] ys i x at = absurd (let w = slice_get_within [] i x at in omega (arith, w))
  get_extended (y ∷ xs) ys zero x at = at
  get_extended (y ∷ xs) ys (suc i) x at = get_extended xs ys i x at

  -- an element of a list with one more stands in the list, or is the one more
  pub get_pushed : (xs : List A) (y : A) (i : ℕ) (x : A) → slice_get (xs ++ y ∷ []) i ≡ Some x →
      (slice_get xs i ≡ Some x) ⊎ ((i ≡ length xs) × (x ≡ y))
  get_pushed [] y zero x at = inr (refl, sym (same_Some y x at))
  get_pushed [] y (suc i) x at =
      absurd (let w = slice_get_within (y ∷ []) (suc i) x at in omega (arith, w))
  get_pushed (z ∷ xs) y zero x at = inl at
  get_pushed (z ∷ xs) y (suc i) x at = elim (get_pushed xs y i x at) [
    | inl old ↦ inl old
    | inr new ↦ inr (ap suc new.0, new.1)
  ]

module _ {A : Type 0} where
  link_kept : (old new : List (Link A)) (n : ℕ) (link : Link A) → Extends old new →
      link_at old n ≡ Some link → link_at new n ≡ Some link
  link_kept old new zero link extends at = at
  link_kept old new (suc i) link extends at =
      subst (λ (ls : List (Link A)). slice_get ls i ≡ Some link) (sym extends.1)
      (get_extended old extends.0 i link at)

  -- more links keep what a number names
  pub names_kept : (old new : List (Link A)) → Extends old new → (n : ℕ) (xs : List A) →
      Names old n xs → Names new n xs
  names_kept old new extends n [] named = named
  names_kept old new extends n (x ∷ xs) named = (
    named.0,
    link_kept old new n (record { head = x; tail = named.0 }) extends named.1,
    names_kept old new extends named.0 xs named.2,
  )

  no_link : (links : List (Link A)) (n : ℕ) (link : Link A) → n ≡ 0 → link_at links n ≡ Some link →
      ⊥
  no_link links zero link zero_is at = none-some link at
  no_link links (suc n) link zero_is at = absurd (omega (arith, zero_is))

  -- a number names one list
  pub one_list : (links : List (Link A)) (n : ℕ) (xs ys : List A) → Names links n xs →
      Names links n ys → xs ≡ ys
  one_list links n [] [] h k = refl
  one_list links n [] (y ∷ ys) h k = absurd (no_link links n _ h k.1)
  one_list links n (x ∷ xs) [] h k = absurd (no_link links n _ k h.1)
  one_list links n (x ∷ xs) (y ∷ ys) h k =
      let same : record { head = x; tail = h.0 } ≡ record { head = y; tail = k.0 } =
      same_Some _ _ (sym h.1 ∙ k.1) in
      let tails = one_list links k.0 xs ys
      (subst (λ t. Names links t xs) (ap (λ (l : Link A). l.tail) same) h.2) k.2 in
      ap (λ (z : A). z ∷ xs) (ap (λ (l : Link A). l.head) same)
      ∙ ap (λ (zs : List A). y ∷ zs) tails

  one_link : (links : List (Link A)) → AreOnce links → (n m : ℕ) (link : Link A) →
      link_at links n ≡ Some link → link_at links m ≡ Some link → n ≡ m
  one_link links once zero m link at there = absurd (none-some link at)
  one_link links once (suc n) zero link at there = absurd (none-some link there)
  one_link links once (suc n) (suc m) link at there = ap suc (once n m link at there)

  -- where no link stands twice a list has one number
  pub one_number : (links : List (Link A)) → AreOnce links → (xs : List A) (n m : ℕ) →
      Names links n xs → Names links m xs → n ≡ m
  one_number links once [] n m h k = h ∙ sym k
  one_number links once (x ∷ xs) n m h k =
      let tails : h.0 ≡ k.0 = one_number links once xs h.0 k.0 h.2 k.2 in
      one_link links once n m (record { head = x; tail = k.0 })
      (h.1 ∙ ap (λ t. Some (record { head = x; tail = t })) tails) k.1

  -- a number is no greater than the links are many
  pub number_within : (links : List (Link A)) (n : ℕ) (xs : List A) → Names links n xs →
      n ≤ length links
  number_within links n [] named = omega (arith, named)
  number_within links zero (x ∷ xs) named = omega arith
  number_within links (suc n) (x ∷ xs) named =
      let within = slice_get_within links n (record { head = x; tail = named.0 }) named.1 in
      omega (arith, within)

  -- and no less than the list is long
  pub length_within : (links : List (Link A)) → AreBelow links → (n : ℕ) (xs : List A) →
      Names links n xs → length xs ≤ n
  length_within links below n [] named = omega arith
  length_within links below zero (x ∷ xs) named = absurd (none-some _ named.1)
  length_within links below (suc n) (x ∷ xs) named =
      let first = below n (record { head = x; tail = named.0 }) named.1 in
      let rest = length_within links below named.0 xs named.2 in
      omega (arith, first, rest)

  module _ (old new : List (Link A)) (head : A) (tail number : ℕ)
      (consed : IsConsed old new head tail number) where
    -- a link that was there, or was added, extends the links
    pub consed_extends : Extends old new
    consed_extends = elim consed.added [
      | inl same ↦ ([], same ∙ sym (append-nil old))
      | inr more ↦ (record { head = head; tail = tail } ∷ [], more)
    ]

    -- its number names the longer list
    pub consed_names : (xs : List A) → Names old tail xs → Names new number (head ∷ xs)
    consed_names xs named = (tail, consed.at, names_kept old new consed_extends tail xs named)

    -- its tail was there before
    pub consed_below : AreBelow old → (xs : List A) → Names old tail xs → AreBelow new
    consed_below below xs named = elim consed.added [
      | inl same ↦ subst (λ (ls : List (Link A)). AreBelow ls) (sym same) below
      | inr more ↦ subst (λ (ls : List (Link A)). AreBelow ls) (sym more) (λ i link at.
          elim (get_pushed old (record { head = head; tail = tail }) i link at) [
            | inl there ↦ below i link there
            | inr last ↦
                let within = number_within old tail xs named in
                let is = ap (λ (l : Link A). l.tail) last.1 in
                omega (arith, within, is, last.0)
          ])
    ]

  -- a list, of which some elements were read, goes on by its next link
  pub reads_on : (links : List (Link A)) (whole read : List A) (n : ℕ) (link : Link A) →
      link_at links n ≡ Some link →
      ((ys : List A) × Names links n ys × (whole ≡ read ++ ys)) →
      (ys : List A) × Names links link.tail ys × (whole ≡ (read ++ link.head ∷ []) ++ ys)
  reads_on links whole read n link at ([], named, is) = absurd (no_link links n link named at)
  reads_on links whole read n link at (y ∷ ys, named, is) =
      let same : link ≡ record { head = y; tail = named.0 } = same_Some _ _ (sym at ∙ named.1) in (
        ys,
        subst (λ t. Names links t ys) (sym (ap (λ (l : Link A). l.tail) same)) named.2,
        is ∙ (ap (λ (z : A). read ++ z ∷ ys) (sym (ap (λ (l : Link A). l.head) same))
            ∙ sym (append_assoc read (link.head ∷ []) ys)),
      )

  -- where there is no next link it is read
  pub reads_all : (links : List (Link A)) (whole read : List A) (n : ℕ) → link_at links n ≡ None →
      ((ys : List A) × Names links n ys × (whole ≡ read ++ ys)) → whole ≡ read
  reads_all links whole read n none ([], named, is) = is ∙ append-nil read
  reads_all links whole read n none (y ∷ ys, named, is) =
      absurd (none-some _ (sym none ∙ named.1))

  -- the tail of a link is before it
  pub tail_before : (links : List (Link A)) → AreBelow links → (n : ℕ) (link : Link A) →
      link_at links n ≡ Some link → link.tail < n
  tail_before links below zero link at = absurd (none-some _ at)
  tail_before links below (suc n) link at =
      let tail = below n link at in omega (arith, tail)
