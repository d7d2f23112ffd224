-- Entries whose forms ascend, each once, are their own content; and entries of which no two are equal
-- are those that differ.
use Rattle.std.proofs.Common.{◌≡◌, ◌≢◌, ℕ, zero, suc, ◌+◌, ◌<◌, List, [], ◌∷◌, ◌++◌, Bool, true, false, cond, length, get_or, take, refl, sym, ◌∙◌, ap, subst, inl, inr, arith, length-append}
use Rattle.std.specs.Prelude.{IsTrue}
use Rattle.std.specs.List.{list_any, IsAllAdjacentAnswer}
use Rattle.std.specs.Cmp.Lexicographic.{slice_cmp, nat_list_cmp_total}
use Rattle.std.specs.Ordering.{nat_cmp, is_lt}
use Rattle.std.specs.declared.cmp.Ordering.{Ordering}
use Rattle.std.specs.declared.cmp.Ordering.TheVariants.{Less, Equal, Greater}
use Rattle.std.proofs.lemmas.Bool.{cases_Bool, cases_lt}
use Rattle.std.proofs.lemmas.Cmp.{tied_itself}
use Rattle.std.proofs.Math.Seq.{get_or-append_seam}
use Rattle.std.proofs.lemmas.List.{append_assoc, append-nil, get_or_append_left, get_or_default, get_or-take, length-take-le}
use Rattle.std.proofs.lemmas.List.Folds.{Any-from_list_any, list_any_at}
use Rattle.indexmap.specs.IndexSet.{insert_all}
use Rattle.ux_dela.specs.declared.entry.Entry.{Entry}
use Rattle.ux_dict.specs.Content.{IsBelow, IsContent}
use Rattle.ux_dict.specs.Equal.{entry_eq, entry_eq-Decides}
use Rattle.ux_dict.specs.Runs.{AreRising, AllDiffer}

-- the test of forms tells whether one is below the other
below_from_test : (o : Ordering) → is_lt o ≡ true → o ≡ Less
below_from_test Less h = refl
below_from_test Equal h = cc
below_from_test Greater h = cc

-- where each form is below the next one, it is below all later ones
rising_from_each : (entries : List Entry) →
    ((k : ℕ) (d : Entry) → k + 1 < length entries →
    IsBelow (get_or entries k d).form (get_or entries (k + 1) d).form) → AreRising entries
rising_from_each entries each i zero d lt within = absurd (omega (arith, lt))
rising_from_each entries each i (suc j) d lt within =
    let next : j + 1 ≡ suc j = omega arith in
    let last : IsBelow (get_or entries j d).form (get_or entries (suc j) d).form =
    subst (λ n. IsBelow (get_or entries j d).form (get_or entries n d).form) next
    (each j d (omega (arith, within))) in
    elim (cases_lt i j) [
      | inl less ↦ nat_list_cmp_total.trans (get_or entries i d).form (get_or entries j d).form
          (get_or entries (suc j) d).form
          (rising_from_each entries each i j d less (omega (arith, within))) last
      | inr le ↦ (
          let same : j ≡ i = omega (arith, lt, le) in
          subst (λ n. IsBelow (get_or entries n d).form (get_or entries (suc j) d).form) same last)
    ]

-- so the answer of a test of neighbours tells it
pub rising_tells : (entries : List Entry) (r : Bool) →
    IsAllAdjacentAnswer (λ (x : Entry) (y : Entry) b. b ≡ is_lt (slice_cmp nat_cmp x.form y.form))
    entries r → IsTrue r → AreRising entries
rising_tells entries true all told =
    rising_from_each entries (λ k d less. below_from_test _ (sym (all k d less)))
rising_tells entries false some told = (let e : false ≡ true = told in cc)

-- entries whose forms ascend are their own content
pub IsContent-rising : (entries : List Entry) → AreRising entries → IsContent entries entries
IsContent-rising entries rising = record {
  members = λ entry. (λ member. member, λ member. member);
  once = λ i j d lt within same.
      let x = get_or entries i d in
      let tied = tied_itself nat_list_cmp_total x.form in
      let here = subst (λ (e : Entry). IsBelow x.form e.form) (sym same) (rising i j d lt within) in
      cc;
  ordered = λ i j d lt within. inl (rising i j d lt within);
}

-- no two of the first few entries are equal
abbrev pub DifferBelow : (entries : List Entry) (place : ℕ) → Type 0
DifferBelow entries place = (i j : ℕ) (d : Entry) → i < j → j < place →
    get_or entries i d ≢ get_or entries j d

-- one more entry, which isn't among those before it
pub differ_more : (entries : List Entry) (place : ℕ) (x : Entry) → place < length entries →
    ((d : Entry) → get_or entries place d ≡ x) → DifferBelow entries place →
    list_any (λ y. entry_eq y x) (take place entries) ≡ false → DifferBelow entries (place + 1)
differ_more entries place x within at so_far none i j d lt below = elim (cases_lt j place) [
  | inl earlier ↦ so_far i j d lt earlier
  | inr le ↦ λ same.
      let last : j ≡ place = omega (arith, below, le) in
      let few = length-take-le place entries (omega (arith, within)) in
      let front : get_or (take place entries) i d ≡ get_or entries i d =
      get_or-take place entries i d (omega (arith, lt, last)) in
      let is : get_or (take place entries) i d ≡ x =
      front ∙ same ∙ ap (λ n. get_or entries n d) last ∙ at d in
      let test = (entry_eq-Decides (get_or (take place entries) i d) x).1 is in
      let any = list_any_at (λ y. entry_eq y x) (take place entries) i d
      (omega (arith, few, lt, last)) test in
      cc
]

-- an entry that differs from all before it isn't among them
none_before : (keys run : List Entry) (x : Entry) → AllDiffer (keys ++ x ∷ run) →
    list_any (entry_eq x) keys ≡ false
none_before keys run x differ = elim (cases_Bool (list_any (entry_eq x) keys)) [
  | inl is ↦ (
      let some = Any-from_list_any (entry_eq x) keys is in
      let same : x ≡ some.1 = (entry_eq-Decides x some.1).0 some.4 in
      let here : get_or (keys ++ x ∷ run) some.0 x ≡ some.1 =
      get_or_append_left keys (x ∷ run) x some.0 some.2
      ∙ get_or_default keys some.0 x some.1 some.2 ∙ some.3 in
      let last = get_or-append_seam keys x run x in
      let many = length-append keys (x ∷ run) in
      absurd (differ some.0 (length keys) x some.2 (omega (arith, many))
      (here ∙ sym same ∙ sym last)))
  | inr is ↦ is
]

insert_differing : (keys run : List Entry) → AllDiffer (keys ++ run) →
    insert_all entry_eq keys run ≡ keys ++ run
insert_differing keys [] differ = sym (append-nil keys)
insert_differing keys (x ∷ run) differ =
    ap (λ (k : List Entry). insert_all entry_eq k run)
    (ap (λ (b : Bool). cond b keys (keys ++ x ∷ [])) (none_before keys run x differ))
    ∙ insert_differing (keys ++ x ∷ []) run
    (subst AllDiffer (sym (append_assoc keys (x ∷ []) run)) differ)
    ∙ append_assoc keys (x ∷ []) run

-- entries that all differ are those that differ
pub once_differing : (run : List Entry) → AllDiffer run → run ≡ insert_all entry_eq [] run
once_differing run differ = sym (insert_differing [] run differ)
