-- Links that are added keep what is named.
use Rattle.std.proofs.Common.{arith, ◌≡◌, ℕ, zero, suc, ◌+◌, ◌<◌, ◌≤◌, List, [], ◌∷◌, ◌++◌, ◌⊎◌, inl, inr, refl, sym, ◌∙◌, ap, subst, length, get_or, take, reverse, append-nil, append_assoc}
use Rattle.std.specs.Prelude.{Some, None, slice_get}
use Rattle.std.proofs.lemmas.List.{take_more, reverse-append}
use Rattle.std.proofs.lemmas.Option.{same_Some, none-some, slice_get_within}
use Rattle.ux_folds.specs.declared.lists.Link.{Link}
use Rattle.ux_folds.specs.ListNumbers.{no_link}
use Rattle.ux_folds.specs.Lists.{link_at, Names, Spells, AreBelow, AreOnce, Keeps, IsConsed, IsMore}

module _ {A : Type 0} where
  pub get_extended : (xs ys : List A) → Keeps xs (xs ++ ys)
  get_extended [] ys i x at = absurd (let w = slice_get_within [] i x at in omega (arith, w))
  get_extended (y ∷ xs) ys zero x at = at
  get_extended (y ∷ xs) ys (suc i) x at = get_extended xs ys i x at

  -- an element of a list with one more stands in the list, or is the one more
  pub get_pushed : (xs : List A) (y : A) (i : ℕ) (x : A) → slice_get (xs ++ y ∷ []) i ≡ Some x →
      (slice_get xs i ≡ Some x) ⊎ ((i ≡ length xs) × (x ≡ y))
  get_pushed [] y zero x at = inr (refl, sym (same_Some y x at))
  get_pushed [] y (suc i) x at =
      absurd (let w = slice_get_within (y ∷ []) (suc i) x at in omega (arith, w))
  get_pushed (z ∷ xs) y zero x at = inl at
  get_pushed (z ∷ xs) y (suc i) x at = elim (get_pushed xs y i x at) [
    | inl old ↦ inl old
    | inr new ↦ inr (ap suc new.0, new.1)
  ]

  -- more values keep the places
  pub keeps_same : (xs : List A) → Keeps xs xs
  keeps_same xs i x at = at

  pub keeps_more : (xs ys zs : List A) → Keeps xs ys → Keeps ys zs → Keeps xs zs
  keeps_more xs ys zs first second i x at = second i x (first i x at)

module _ {A : Type 0} where
  link_kept : (old new : List (Link A)) (n : ℕ) (link : Link A) → Keeps old new →
      link_at old n ≡ Some link → link_at new n ≡ Some link
  link_kept old new zero link keeps at = at
  link_kept old new (suc i) link keeps at = keeps i link at

  -- more links keep what a number names
  pub names_kept : (old new : List (Link A)) → Keeps old new → (n : ℕ) (xs : List A) →
      Names old n xs → Names new n xs
  names_kept old new keeps n [] named = named
  names_kept old new keeps n (x ∷ xs) named = (
    named.0,
    link_kept old new n (record { last = x; front = named.0 }) keeps named.1,
    names_kept old new keeps named.0 xs named.2,
  )

  pub spells_kept : (old new : List (Link A)) → Keeps old new → (n : ℕ) (xs : List A) →
      Spells old n xs → Spells new n xs
  spells_kept old new keeps n xs named = names_kept old new keeps n (reverse xs) named

  number_within : (links : List (Link A)) (n : ℕ) (xs : List A) → Names links n xs →
      n ≤ length links
  number_within links n [] named = omega (arith, named)
  number_within links zero (x ∷ xs) named = omega arith
  number_within links (suc n) (x ∷ xs) named =
      let within = slice_get_within links n (record { last = x; front = named.0 }) named.1 in
      omega (arith, within)

  -- one element more
  pub pushed : (old new : List (Link A)) (last : A) (front number : ℕ) →
      IsConsed old new last front number → AreOnce new → IsMore old new front (last ∷ []) number
  pushed old new last front number consed once xs sound named = (
    record { once = once; below = below },
    keeps,
    subst (λ (l : List A). Names new number l) (sym (reverse-append xs (last ∷ [])))
        (front, consed.at, names_kept old new keeps front (reverse xs) named),
  )
    where
      keeps : Keeps old new
      keeps = elim consed.added [
        | inl same ↦ subst (λ (ls : List (Link A)). Keeps old ls) (sym same) (keeps_same old)
        | inr more ↦ subst (λ (ls : List (Link A)). Keeps old ls) (sym more)
            (get_extended old (record { last = last; front = front } ∷ []))
      ]

      below : AreBelow new
      below = elim consed.added [
        | inl same ↦ subst (λ (ls : List (Link A)). AreBelow ls) (sym same) sound.below
        | inr more ↦ subst (λ (ls : List (Link A)). AreBelow ls) (sym more) (λ i link at.
            elim (get_pushed old (record { last = last; front = front }) i link at) [
              | inl there ↦ sound.below i link there
              | inr last ↦
                  let within = number_within old front (reverse xs) named in
                  let is = ap (λ (l : Link A). l.front) last.1 in
                  omega (arith, within, is, last.0)
            ])
      ]

  -- nothing more
  pub more_none : (links : List (Link A)) (number : ℕ) → IsMore links links number [] number
  more_none links number xs sound named = (
    sound,
    keeps_same links,
    subst (λ (l : List A). Spells links number l) (sym (append-nil xs)) named,
  )

  -- some elements more, and then some
  pub more_then : (old mid new : List (Link A)) (first second : List A) (a b c : ℕ) →
      IsMore old mid a first b → IsMore mid new b second c → IsMore old new a (first ++ second) c
  more_then old mid new first second a b c h k xs sound named =
      let one = h xs sound named in
      let two = k (xs ++ first) one.0 one.2 in (
        two.0,
        keeps_more old mid new one.1 two.1,
        subst (λ (l : List A). Spells new c l) (append_assoc xs first second) two.2,
      )

  -- one of the elements more
  pub more_taken : (old mid new : List (Link A)) (items : List A) (i : ℕ) (item : A) (a b c : ℕ) →
      i < length items → item ≡ get_or items i item → IsMore old mid a (take i items) b →
      IsMore mid new b (item ∷ []) c → IsMore old new a (take (i + 1) items) c
  more_taken old mid new items i item a b c lt is h k =
      let more : take (i + 1) items ≡ take i items ++ item ∷ [] =
      take_more items i item lt ∙ ap (λ (x : A). take i items ++ x ∷ []) (sym is) in
      subst (λ (l : List A). IsMore old new a l c) (sym more)
      (more_then old mid new (take i items) (item ∷ []) a b c h k)

  -- a list, of which some elements were read from the end, goes on by its next link
  pub reads_on : (links : List (Link A)) (whole read : List A) (n : ℕ) (link : Link A) →
      link_at links n ≡ Some link →
      ((ys : List A) × Names links n ys × (whole ≡ read ++ ys)) →
      (ys : List A) × Names links link.front ys × (whole ≡ (read ++ link.last ∷ []) ++ ys)
  reads_on links whole read n link at ([], named, is) = absurd (no_link links n link named at)
  reads_on links whole read n link at (y ∷ ys, named, is) =
      let same : link ≡ record { last = y; front = named.0 } = same_Some _ _ (sym at ∙ named.1) in (
        ys,
        subst (λ t. Names links t ys) (sym (ap (λ (l : Link A). l.front) same)) named.2,
        is ∙ (ap (λ (z : A). read ++ z ∷ ys) (sym (ap (λ (l : Link A). l.last) same))
            ∙ sym (append_assoc read (link.last ∷ []) ys)),
      )

  -- where there is no next link it is read
  pub reads_all : (links : List (Link A)) (whole read : List A) (n : ℕ) → link_at links n ≡ None →
      ((ys : List A) × Names links n ys × (whole ≡ read ++ ys)) → whole ≡ read
  reads_all links whole read n none ([], named, is) = is ∙ append-nil read
  reads_all links whole read n none (y ∷ ys, named, is) =
      absurd (none-some _ (sym none ∙ named.1))

  -- the front of a link is before it
  pub front_before : (links : List (Link A)) → AreBelow links → (n : ℕ) (link : Link A) →
      link_at links n ≡ Some link → link.front < n
  front_before links below zero link at = absurd (none-some _ at)
  front_before links below (suc n) link at =
      let front = below n link at in omega (arith, front)
