-- Codes that differ in more than the lemma make as many entries of any form.
use Rattle.std.proofs.Common.{◌≡◌, ℕ, zero, suc, ◌≤◌, List, [], ◌∷◌, ◌++◌, Bool, true, false, cond, length, map, refl, sym, ◌∙◌, ap, subst, inl, inr, arith}
use Rattle.std.specs.Prelude.{Contains, IsTrue, nat_eq, slice_get}
use Rattle.std.specs.List.{list_any}
use Rattle.std.specs.Option.{unwrap_or}
use Rattle.std.proofs.lemmas.Bool.{cases_Bool, false≢true}
use Rattle.std.proofs.lemmas.Bool.Decides.{Decides-eqb}
use Rattle.std.proofs.lemmas.List.{length-map, length_push}
use Rattle.std.proofs.lemmas.List.Elements.{Contains-append_cases, Contains-append_left, Contains-append_right, Contains-push}
use Rattle.indexmap.specs.IndexSet.{insert_all, insert_key}
use Rattle.ux_dela.specs.declared.entry.Entry.{Entry}
use Rattle.ux_dict.specs.Equal.{entry_eq}
use Rattle.ux_base.proofs.OrderedLists.{Contains-cons_cases, Contains-nil}
use Rattle.ux_image_lexicon.specs.Counting.{bare_of, AreApart, IsApart}
use Rattle.ux_image_lexicon.specs.Told.{entry_by, read_in}
use Rattle.ux_image_lexicon.specs.declared.codes.ReadCode.{ReadCode}
use Rattle.ux_image_lexicon.specs.declared.codes.ReadList.{ReadList}
use Rattle.ux_image_lexicon.proofs.CountLemmas.{once_few}
use Rattle.ux_image_lexicon.proofs.OnceLemmas.{found_key, key_found}

-- a key that is there stays, and one that isn't goes last
put_old : (keys : List Entry) (x : Entry) → list_any (entry_eq x) keys ≡ true →
    insert_key entry_eq keys x ≡ keys
put_old keys x is = ap (λ b. cond b keys (keys ++ x ∷ [])) is

put_new : (keys : List Entry) (x : Entry) → list_any (entry_eq x) keys ≡ false →
    insert_key entry_eq keys x ≡ keys ++ x ∷ []
put_new keys x is = ap (λ b. cond b keys (keys ++ x ∷ [])) is

module _ (f g : ReadCode → Entry) (same : (x y : ReadCode) → f x ≡ f y → g x ≡ g y) where
  -- the one keys are some of the codes so far, the other ones all of them, and fewer
  record AreBeside (done : List ReadCode) (keys few : List Entry) : Type 0 where
    some : (e : Entry) → Contains keys e → (x : ReadCode) × Contains done x × (f x ≡ e)
    all : (x : ReadCode) → Contains done x → Contains few (g x)
    less : length few ≤ length keys

  some_more : (done : List ReadCode) (keys : List Entry) (x : ReadCode) →
      ((e : Entry) → Contains keys e → (y : ReadCode) × Contains done y × (f y ≡ e)) →
      (e : Entry) → Contains (insert_key entry_eq keys (f x)) e →
      (y : ReadCode) × Contains (x ∷ done) y × (f y ≡ e)
  some_more done keys x some e has = elim (cases_Bool (list_any (entry_eq (f x)) keys)) [
    | inl old ↦ later e (subst (λ (l : List Entry). Contains l e) (put_old keys (f x) old) has)
    | inr new ↦
        elim (Contains-append_cases keys (f x ∷ []) e
        (subst (λ (l : List Entry). Contains l e) (put_new keys (f x) new) has)) [
          | inl there ↦ later e there
          | inr last ↦ elim (Contains-cons_cases (f x) e [] last) [
            | inl is ↦ (x, (0, omega arith, refl), is)
            | inr none ↦ absurd (Contains-nil e none)
          ]
        ]
  ]
    where
      later : (e : Entry) → Contains keys e → (y : ReadCode) × Contains (x ∷ done) y × (f y ≡ e)
      later e there =
          let of = some e there in (of.0, Contains-append_right (x ∷ []) done of.0 of.1, of.2)

  all_more : (done : List ReadCode) (few : List Entry) (x : ReadCode) →
      ((y : ReadCode) → Contains done y → Contains few (g y)) → (y : ReadCode) →
      Contains (x ∷ done) y → Contains (insert_key entry_eq few (g x)) (g y)
  all_more done few x all y has = elim (cases_Bool (list_any (entry_eq (g x)) few)) [
    | inl old ↦
        subst (λ (l : List Entry). Contains l (g y)) (sym (put_old few (g x) old))
        (elim (Contains-cons_cases x y done has) [
          | inl is ↦ subst (λ (z : ReadCode). Contains few (g z)) is (found_key few (g x) old)
          | inr there ↦ all y there
        ])
    | inr new ↦
        subst (λ (l : List Entry). Contains l (g y)) (sym (put_new few (g x) new))
        (elim (Contains-cons_cases x y done has) [
          | inl is ↦ subst (λ (z : ReadCode). Contains (few ++ g x ∷ []) (g z)) is
              (Contains-push few (g x))
          | inr there ↦ Contains-append_left few (g x ∷ []) (g y) (all y there)
        ])
  ]

  less_more : (done : List ReadCode) (keys few : List Entry) (x : ReadCode) →
      AreBeside done keys few →
      length (insert_key entry_eq few (g x)) ≤ length (insert_key entry_eq keys (f x))
  less_more done keys few x are =
      by (list_any (entry_eq (f x)) keys) (list_any (entry_eq (g x)) few) refl refl
    where
      by : (s t : Bool) → list_any (entry_eq (f x)) keys ≡ s → list_any (entry_eq (g x)) few ≡ t →
          length (insert_key entry_eq few (g x)) ≤ length (insert_key entry_eq keys (f x))
      by true true is also =
          let one = ap (length {A = Entry}) (put_old keys (f x) is) in
          let other = ap (length {A = Entry}) (put_old few (g x) also) in
          let less = are.less in
          omega (arith, one, other, less)
      by false true is also =
          let one = ap (length {A = Entry}) (put_new keys (f x) is) in
          let other = ap (length {A = Entry}) (put_old few (g x) also) in
          let push = length_push keys (f x) in
          let less = are.less in
          omega (arith, one, other, less, push)
      by false false is also =
          let one = ap (length {A = Entry}) (put_new keys (f x) is) in
          let other = ap (length {A = Entry}) (put_new few (g x) also) in
          let push = length_push keys (f x) in
          let put = length_push few (g x) in
          let less = are.less in
          omega (arith, one, other, less, push, put)
      by true false is also =
          let of = are.some (f x) (found_key keys (f x) is) in
          let there = subst (Contains few) (same of.0 x of.2) (are.all of.0 of.1) in
          absurd (false≢true (sym also ∙ key_found few (g x) there))

  beside_all : (codes done : List ReadCode) (keys few : List Entry) → AreBeside done keys few →
      length (insert_all entry_eq few (map g codes)) ≤ length (insert_all entry_eq keys (map f codes))
  beside_all [] done keys few are = are.less
  beside_all (x ∷ codes) done keys few are =
      beside_all codes (x ∷ done) (insert_key entry_eq keys (f x)) (insert_key entry_eq few (g x))
      (record {
        some = some_more done keys x are.some;
        all = all_more done few x are.all;
        less = less_more done keys few x are;
      })

  -- of what tells less no more differ
  once_less : (codes : List ReadCode) →
      length (insert_all entry_eq [] (map g codes)) ≤ length (insert_all entry_eq [] (map f codes))
  once_less codes = beside_all codes [] [] [] (record {
    some = λ e has. absurd (Contains-nil e has);
    all = λ x has. absurd (Contains-nil x has);
    less = omega arith;
  })

-- an entry without form and lemma tells less
pub apart_is : (codes : List ReadCode) (n : ℕ) → IsTrue (nat_eq n (length codes)) →
    n ≡ length (insert_all entry_eq [] (map bare_of codes)) → IsApart codes
apart_is codes n same all form =
    let is = (Decides-eqb n (length codes)).0 same in
    let bare : Entry → Entry = λ e.
    record { form = []; lemma = []; gram = e.gram; sem = e.sem; infl = e.infl } in
    let less = once_less (entry_by form) bare_of (λ x y is. ap bare is) codes in
    let few = once_few (map (entry_by form) codes) in
    let long = length-map codes (entry_by form) in
    omega (arith, is, all, less, few, long)

-- a flag that is found true is that of a list
pub apart_at : (lists : List ReadList) (flags : List Bool) → AreApart lists flags → (n : ℕ) →
    IsTrue (unwrap_or (slice_get flags n) false) → IsApart (read_in (slice_get lists n))
apart_at [] [] are n is = absurd (false≢true is)
apart_at [] (flag ∷ flags) are n is = absurd are
apart_at (list ∷ lists) [] are n is = absurd are
apart_at (list ∷ lists) (flag ∷ flags) are zero is = are.0 is
apart_at (list ∷ lists) (flag ∷ flags) are (suc n) is = apart_at lists flags are.1 n is
