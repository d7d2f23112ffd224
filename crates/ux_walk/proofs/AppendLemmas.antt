-- A list in front of another: one element after another is put there.
use Rattle.std.proofs.Common.{◌≡◌, ℕ, ◌+◌, ◌<◌, ◌≤◌, List, [], ◌∷◌, ◌++◌, sym, ◌∙◌, ap, subst, length, append-nil, append_assoc, take, reverse, get_or}
use Rattle.std.proofs.lemmas.List.{take_more, take_all, reverse-append, reverse-reverse}
use Rattle.ux_walk.specs.declared.lists.Link.{Link}
use Rattle.ux_walk.specs.Links.{Names, AreBelow, Extends, IsConsed}
use Rattle.ux_walk.proofs.LinksLemmas.{consed_extends, consed_names, consed_below}

module _ {A : Type 0} where
  -- the same links
  pub extends_same : (links : List (Link A)) → Extends links links
  extends_same links = ([], sym (append-nil links))

  pub extends_more : (old mid new : List (Link A)) → Extends old mid → Extends mid new →
      Extends old new
  extends_more old mid new first second = (
    first.0 ++ second.0,
    second.1 ∙ (ap (λ (l : List (Link A)). l ++ second.0) first.1
        ∙ append_assoc old first.0 second.0),
  )

  -- the number names these elements in front of those
  abbrev pub IsPut : (old new : List (Link A)) → (number : ℕ) → (front xs : List A) → Type 0
  IsPut old new number front xs = Extends old new × AreBelow new × Names new number (front ++ xs)

  reversed_more : (items : List A) (i : ℕ) (item : A) → i < length items →
      item ≡ get_or items i item → reverse (take (i + 1) items) ≡ item ∷ reverse (take i items)
  reversed_more items i item lt is =
      ap (λ (l : List A). reverse l)
      (take_more items i item lt ∙ ap (λ (x : A). take i items ++ x ∷ []) (sym is))
      ∙ reverse-append (take i items) (item ∷ [])

  -- one element more
  pub more_put : (old now new : List (Link A)) (items xs : List A) (i : ℕ) (item : A)
      (number next : ℕ) → i < length items → item ≡ get_or items i item →
      IsPut old now number (reverse (take i items)) xs → IsConsed now new item number next →
      IsPut old new next (reverse (take (i + 1) items)) xs
  more_put old now new items xs i item number next lt is put consed =
      let front : List A = reverse (take i items) ++ xs in (
        extends_more old now new put.0 (consed_extends now new item number next consed),
        consed_below now new item number next consed put.1 front put.2,
        subst (λ (l : List A). Names new next (l ++ xs)) (sym (reversed_more items i item lt is))
            (consed_names now new item number next consed front put.2),
      )

  -- all elements, in order
  pub all_put : (old now : List (Link A)) (items xs ys : List A) (i : ℕ) (number : ℕ) →
      length items ≤ i → items ≡ reverse ys → IsPut old now number (reverse (take i items)) xs →
      IsPut old now number ys xs
  all_put old now items xs ys i number past is put =
      let all : reverse (take i items) ≡ ys =
      ap (λ (l : List A). reverse l) (take_all i items past ∙ is) ∙ reverse-reverse ys in
      (put.0, put.1, subst (λ (l : List A). Names now number (l ++ xs)) all put.2)
