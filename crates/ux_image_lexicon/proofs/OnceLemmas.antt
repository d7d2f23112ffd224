-- What is chosen of entries, and of lists of them, is chosen of the different ones as well.
use Rattle.std.proofs.Common.{arith, ◌≡◌, ◌<◌, ◌↔◌, List, [], ◌∷◌, ◌++◌, Bool, true, false, cond, get_or, length, refl, sym, ◌∙◌, subst}
use Rattle.std.specs.Prelude.{All, Contains, flat_map}
use Rattle.std.specs.List.{list_any}
use Rattle.std.proofs.lemmas.List.{append-nil, get_or_default}
use Rattle.std.proofs.lemmas.List.Elements.{All-head, All-tail}
use Rattle.std.proofs.lemmas.List.Folds.{Any-from_list_any, list_any_at}
use Rattle.indexmap.specs.IndexSet.{insert_key, insert_all}
use Rattle.ux_dela.specs.declared.entry.Entry.{Entry}
use Rattle.ux_dict.specs.Content.{AreDifferent}
use Rattle.ux_dict.specs.Equal.{entry_eq, entry_eq-Decides}
use Rattle.ux_dict.specs.Forms.{IsChosen, none, kept, left}
use Rattle.ux_dict.proofs.ChosenLemmas.{chosen-append, chosen-from, chosen-member, chosen-none}
use Rattle.ux_dict.proofs.ContentLemmas.{AreDifferent-insert}
use Rattle.ux_image_content.proofs.ContentLaws.{one_different}
use Rattle.ux_image_look_ups.proofs.WayLemmas.{chosen-full}

-- fewer than two entries differ
pub once-short : (xs : List Entry) → length xs < 2 → AreDifferent xs xs
once-short xs short = record {
  members = λ entry. (λ has. has, λ has. has);
  once = λ i j d before within. absurd (omega (arith, short, before, within));
  ordered = λ i j d before within. absurd (omega (arith, short, before, within));
}

-- of lists that are chosen whole or not at all
pub chosen-flat : {X : Type 0} (Q : X → Type 0) (P : Entry → Type 0) (f : X → List Entry)
    {xs ys : List X} → All (λ x. All (λ entry. P entry ↔ Q x) (f x)) xs → IsChosen Q xs ys →
    IsChosen P (flat_map f xs) (flat_map f ys)
chosen-flat Q P f same none = none
chosen-flat {X} Q P f same (kept {x = x} {all = xs} q rest) =
    let Same : X → Type 0 = λ x. All (λ entry. P entry ↔ Q x) (f x) in
    let here = All-head Same x xs same in
    chosen-append P (chosen-full P (f x) (λ k d less. (here k d less).1 q))
    (chosen-flat Q P f (All-tail Same x xs same) rest)
chosen-flat {X} Q P f same (left {x = x} {all = xs} fails rest) =
    let Same : X → Type 0 = λ x. All (λ entry. P entry ↔ Q x) (f x) in
    let here = All-head Same x xs same in
    chosen-append P (chosen-none P (f x) (λ k d less p. fails ((here k d less).0 p)))
    (chosen-flat Q P f (All-tail Same x xs same) rest)

-- a test for a member
pub found_key : (keys : List Entry) (x : Entry) → list_any (entry_eq x) keys ≡ true → Contains keys x
found_key keys x is =
    let some = Any-from_list_any (entry_eq x) keys is in
    let same = (entry_eq-Decides x some.1).0 some.4 in
    (some.0, some.2, get_or_default keys some.0 x some.1 some.2 ∙ some.3 ∙ sym same)

pub key_found : (keys : List Entry) (x : Entry) → Contains keys x → list_any (entry_eq x) keys ≡ true
key_found keys x (k, less, at) =
    list_any_at (entry_eq x) keys k x less ((entry_eq-Decides x (get_or keys k x)).1 (sym at))

module _ (P : Entry → Type 0) where
  -- one more entry of all, which is chosen
  insert_both : (keys chosen : List Entry) (x : Entry) → P x → IsChosen P keys chosen →
      IsChosen P (insert_key entry_eq keys x) (insert_key entry_eq chosen x)
  insert_both keys chosen x p are =
      by (list_any (entry_eq x) keys) (list_any (entry_eq x) chosen) refl refl
    where
      put : Bool → List Entry → List Entry
      put b l = cond b l (l ++ x ∷ [])

      by : (s t : Bool) → list_any (entry_eq x) keys ≡ s → list_any (entry_eq x) chosen ≡ t →
          IsChosen P (insert_key entry_eq keys x) (insert_key entry_eq chosen x)
      by true true is also =
          subst (λ b. IsChosen P (cond b keys (keys ++ x ∷ [])) (insert_key entry_eq chosen x))
          (sym is)
          (subst (λ b. IsChosen P keys (cond b chosen (chosen ++ x ∷ []))) (sym also) are)
      by true false is also =
          let there = key_found chosen x (chosen-member P x are (found_key keys x is) p) in
          absurd (cc)
      by false true is also =
          let there = key_found keys x (chosen-from P x are (found_key chosen x also)) in
          absurd (cc)
      by false false is also =
          subst (λ b. IsChosen P (cond b keys (keys ++ x ∷ [])) (insert_key entry_eq chosen x))
          (sym is)
          (subst (λ b. IsChosen P (keys ++ x ∷ []) (cond b chosen (chosen ++ x ∷ []))) (sym also)
          (chosen-append P are (kept p none)))

  -- and one that isn't
  insert_one : (keys chosen : List Entry) (x : Entry) → (P x → ⊥) → IsChosen P keys chosen →
      IsChosen P (insert_key entry_eq keys x) chosen
  insert_one keys chosen x fails are = by (list_any (entry_eq x) keys) refl
    where
      by : (s : Bool) → list_any (entry_eq x) keys ≡ s →
          IsChosen P (insert_key entry_eq keys x) chosen
      by true is =
          subst (λ b. IsChosen P (cond b keys (keys ++ x ∷ [])) chosen) (sym is) are
      by false is =
          subst (λ b. IsChosen P (cond b keys (keys ++ x ∷ [])) chosen) (sym is)
          (subst (IsChosen P (keys ++ x ∷ [])) (append-nil chosen)
          (chosen-append P are (left fails none)))

  -- the different ones of all, and of the chosen ones
  chosen-insert : (keys before : List Entry) {xs ys : List Entry} → IsChosen P xs ys →
      IsChosen P keys before →
      IsChosen P (insert_all entry_eq keys xs) (insert_all entry_eq before ys)
  chosen-insert keys before none are = are
  chosen-insert keys before (kept {x = x} p rest) are =
      chosen-insert (insert_key entry_eq keys x) (insert_key entry_eq before x) rest
      (insert_both keys before x p are)
  chosen-insert keys before (left {x = x} fails rest) are =
      chosen-insert (insert_key entry_eq keys x) before rest (insert_one keys before x fails are)

  pub chosen-once : {xs ys : List Entry} → IsChosen P xs ys →
      IsChosen P (insert_all entry_eq [] xs) (insert_all entry_eq [] ys)
  chosen-once chosen = chosen-insert [] [] chosen none

-- the different entries of a list are one list
pub different_is : (made found : List Entry) → AreDifferent made found →
    found ≡ insert_all entry_eq [] made
different_is made found different =
    one_different made found (insert_all entry_eq [] made) different (AreDifferent-insert made)
