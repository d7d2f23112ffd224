-- Lists of the members of a list that have a property, in order.
use Rattle.std.proofs.Common.{◌≡◌, ◌↔◌, ◌⊎◌, ℕ, ◌+◌, ◌<◌, ◌≤◌, List, [], ◌∷◌, ◌++◌, take, Bool, true, length, get_or, refl, sym, ◌∙◌, ap, subst, inl, inr, arith}
use Rattle.std.specs.Prelude.{All, AllPairs, Contains, filter}
use Rattle.std.proofs.lemmas.Bool.{cases_Bool}
use Rattle.std.proofs.lemmas.List.Elements.{All-nil, All-cons, All-head, All-tail, Contains-get_or}
use Rattle.std.proofs.lemmas.List.{take_more, take_all, append-nil}
use Rattle.std.proofs.lemmas.List.Kept.{AllPairs-cons}
use Rattle.ux_dict.specs.Forms.{IsChosen, none, kept, left}
use Rattle.ux_base.proofs.OrderedLists.{AllPairs-tail, AllPairs-head, Contains-nil, Contains-cons_cases, Contains-tail, filter-true, filter-false}

module _ {X : Type 0} where
  -- each chosen one has the property
  pub chosen-all : (P : X → Type 0) {xs ys : List X} → IsChosen P xs ys → All P ys
  chosen-all P none = All-nil P
  chosen-all P (kept p rest) = All-cons P _ _ p (chosen-all P rest)
  chosen-all P (left fails rest) = chosen-all P rest

  -- and what all have
  pub chosen-within : (P M : X → Type 0) {xs ys : List X} → IsChosen P xs ys →
      All M xs → All M ys
  chosen-within P M none all = all
  chosen-within P M (kept p rest) all =
      All-cons M _ _ (All-head M _ _ all) (chosen-within P M rest (All-tail M _ _ all))
  chosen-within P M (left fails rest) all = chosen-within P M rest (All-tail M _ _ all)

  -- a list has one such list
  pub chosen-only : (P : X → Type 0) {xs ys zs : List X} → IsChosen P xs ys →
      IsChosen P xs zs → ys ≡ zs
  chosen-only P none none = refl
  chosen-only P (kept {x = x} p rest) (kept q more) = ap (λ l. x ∷ l) (chosen-only P rest more)
  chosen-only P (kept p rest) (left fails more) = absurd (fails p)
  chosen-only P (left fails rest) (kept q more) = absurd (fails q)
  chosen-only P (left fails rest) (left other more) = chosen-only P rest more

  -- a member with the property is chosen
  pub chosen-member : (P : X → Type 0) {xs ys : List X} (x : X) → IsChosen P xs ys →
      Contains xs x → P x → Contains ys x
  chosen-member P x none member p = absurd (Contains-nil x member)
  chosen-member P x (kept {x = y} {chosen = ys} q rest) member p =
      elim (Contains-cons_cases y x _ member) [
        | inl here ↦ (0, omega arith, here)
        | inr later ↦ Contains-tail y x ys (chosen-member P x rest later p)
      ]
  chosen-member P x (left {x = y} fails rest) member p =
      elim (Contains-cons_cases y x _ member) [
        | inl here ↦ absurd (fails (subst P (sym here) p))
        | inr later ↦ chosen-member P x rest later p
      ]

  -- and what is chosen was a member
  pub chosen-from : (P : X → Type 0) {xs ys : List X} (x : X) → IsChosen P xs ys →
      Contains ys x → Contains xs x
  chosen-from P x none member = member
  chosen-from P x (kept {x = y} q rest) member = elim (Contains-cons_cases y x _ member) [
    | inl here ↦ (0, omega arith, here)
    | inr later ↦ Contains-tail y x _ (chosen-from P x rest later)
  ]
  chosen-from P x (left {x = y} fails rest) member =
      Contains-tail y x _ (chosen-from P x rest member)

  -- a filter by a test that says as much
  pub chosen-filter : (P : X → Type 0) (p : X → Bool) (xs : List X) →
      All (λ x. (p x ≡ true) ↔ P x) xs → IsChosen P xs (filter p xs)
  chosen-filter P p [] says = none
  chosen-filter P p (x ∷ xs) says =
      let Says : X → Type 0 = λ y. (p y ≡ true) ↔ P y in
      let here = All-head Says x xs says in
      let rest = chosen-filter P p xs (All-tail Says x xs says) in
      elim (cases_Bool (p x)) [
        | inl is ↦ subst (IsChosen P (x ∷ xs)) (sym (filter-true p x xs is))
            (kept (here.0 is) rest)
        | inr is ↦ subst (IsChosen P (x ∷ xs)) (sym (filter-false p x xs is))
            (left (λ q. let also = here.1 q in cc) rest)
      ]

  pub chosen-append : (P : X → Type 0) {xs ys us vs : List X} → IsChosen P xs ys →
      IsChosen P us vs → IsChosen P (xs ++ us) (ys ++ vs)
  chosen-append P none more = more
  chosen-append P (kept p rest) more = kept p (chosen-append P rest more)
  chosen-append P (left fails rest) more = left fails (chosen-append P rest more)

  -- of what is chosen, chosen again by a stronger property
  pub chosen-again : (P Q : X → Type 0) {xs ys zs : List X} → ((x : X) → Q x → P x) →
      IsChosen P xs ys → IsChosen Q ys zs → IsChosen Q xs zs
  chosen-again P Q stronger none none = none
  chosen-again P Q stronger (kept p rest) (kept q more) =
      kept q (chosen-again P Q stronger rest more)
  chosen-again P Q stronger (kept p rest) (left fails more) =
      left fails (chosen-again P Q stronger rest more)
  chosen-again P Q stronger (left fails rest) more =
      left (λ q. fails (stronger _ q)) (chosen-again P Q stronger rest more)

  -- by a property that says the same of each member
  pub chosen-same : (P Q : X → Type 0) {xs ys : List X} → All (λ x. P x ↔ Q x) xs →
      IsChosen P xs ys → IsChosen Q xs ys
  chosen-same P Q same none = none
  chosen-same P Q same (kept p rest) =
      let Same : X → Type 0 = λ x. P x ↔ Q x in
      kept ((All-head Same _ _ same).0 p) (chosen-same P Q (All-tail Same _ _ same) rest)
  chosen-same P Q same (left fails rest) =
      let Same : X → Type 0 = λ x. P x ↔ Q x in
      left (λ q. fails ((All-head Same _ _ same).1 q))
      (chosen-same P Q (All-tail Same _ _ same) rest)

  -- where no member has the property, none is chosen
  pub chosen-none : (P : X → Type 0) (xs : List X) → All (λ x. P x → ⊥) xs → IsChosen P xs []
  chosen-none P [] fails = none
  chosen-none P (x ∷ xs) fails =
      let No : X → Type 0 = λ y. P y → ⊥ in
      left (All-head No x xs fails) (chosen-none P xs (All-tail No x xs fails))

  -- of two properties, where no member with the second one comes before one with the first
  pub chosen-either : (P Q : X → Type 0) {xs ys zs : List X} →
      AllPairs (λ x y. Q x → P y → ⊥) xs → All (λ x. P x → Q x → ⊥) xs →
      IsChosen P xs ys → IsChosen Q xs zs → IsChosen (λ x. P x ⊎ Q x) xs (ys ++ zs)
  chosen-either P Q pairs apart none none = none
  chosen-either P Q pairs apart (kept p rest) (kept q more) =
      absurd (All-head (λ x. P x → Q x → ⊥) _ _ apart p q)
  chosen-either P Q pairs apart (kept p rest) (left fails more) =
      kept (inl p) (chosen-either P Q (AllPairs-tail (λ x y. Q x → P y → ⊥) _ _ pairs)
      (All-tail (λ x. P x → Q x → ⊥) _ _ apart) rest more)
  chosen-either P Q pairs apart (left {x = x} {all = xs} {chosen = ys} fails rest)
      (kept {chosen = zs} q more) =
      let later : All (λ y. P y → ⊥) xs =
      λ k d lt. AllPairs-head (λ x y. Q x → P y → ⊥) x (get_or xs k d) xs pairs
      (Contains-get_or xs k d lt) q in
      let empty = chosen-only P rest (chosen-none P xs later) in
      let both = chosen-either P Q (AllPairs-tail (λ x y. Q x → P y → ⊥) x xs pairs)
      (All-tail (λ x. P x → Q x → ⊥) x xs apart) rest more in
      subst (λ (l : List X). IsChosen (λ y. P y ⊎ Q y) (x ∷ xs) (l ++ x ∷ zs)) (sym empty)
      (kept (inr q) (subst (λ (l : List X). IsChosen (λ y. P y ⊎ Q y) xs (l ++ zs)) empty both))
  chosen-either P Q pairs apart (left fails rest) (left other more) =
      left (λ h. elim h [ inl p ↦ fails p | inr q ↦ other q ])
      (chosen-either P Q (AllPairs-tail (λ x y. Q x → P y → ⊥) _ _ pairs)
      (All-tail (λ x. P x → Q x → ⊥) _ _ apart) rest more)

  -- relations of all pairs hold of what is chosen
  pub chosen-pairs : (P : X → Type 0) (R : X → X → Type 0) {xs ys : List X} → IsChosen P xs ys →
      AllPairs R xs → AllPairs R ys
  chosen-pairs P R none pairs = pairs
  chosen-pairs P R (kept {x = x} {all = xs} p rest) pairs =
      let later : All (R x) xs = λ k d lt.
      AllPairs-head R x (get_or xs k d) xs pairs (Contains-get_or xs k d lt) in
      AllPairs-cons R x _ (chosen-within P (R x) rest later)
      (chosen-pairs P R rest (AllPairs-tail R x xs pairs))
  chosen-pairs P R (left {x = x} {all = xs} fails rest) pairs =
      chosen-pairs P R rest (AllPairs-tail R x xs pairs)

  -- one more member, with the property and without it
  pub chosen-more : (P : X → Type 0) (xs ys zs : List X) (i : ℕ) (x : X) → i < length xs →
      x ≡ get_or xs i x → P x → zs ≡ ys ++ x ∷ [] → IsChosen P (take i xs) ys →
      IsChosen P (take (i + 1) xs) zs
  chosen-more P xs ys zs i x lt at p is so_far =
      let front = take_more xs i x lt ∙ ap (λ y. take i xs ++ y ∷ []) (sym at) in
      subst (λ (l : List X). IsChosen P l zs) (sym front)
      (subst (λ (l : List X). IsChosen P (take i xs ++ x ∷ []) l) (sym is)
      (chosen-append P so_far (kept p none)))

  pub chosen-skip : (P : X → Type 0) (xs ys zs : List X) (i : ℕ) (x : X) → i < length xs →
      x ≡ get_or xs i x → (P x → ⊥) → zs ≡ ys → IsChosen P (take i xs) ys →
      IsChosen P (take (i + 1) xs) zs
  chosen-skip P xs ys zs i x lt at fails is so_far =
      let front = take_more xs i x lt ∙ ap (λ y. take i xs ++ y ∷ []) (sym at) in
      subst (λ (l : List X). IsChosen P l zs) (sym front)
      (subst (λ (l : List X). IsChosen P (take i xs ++ x ∷ []) l) (append-nil ys ∙ sym is)
      (chosen-append P so_far (left fails none)))

  -- at the end
  pub chosen-end : (P : X → Type 0) (xs ys : List X) (i : ℕ) → length xs ≤ i →
      IsChosen P (take i xs) ys → IsChosen P xs ys
  chosen-end P xs ys i past so_far =
      subst (λ (l : List X). IsChosen P l ys) (take_all i xs past) so_far
