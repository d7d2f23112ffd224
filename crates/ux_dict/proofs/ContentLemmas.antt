-- The different entries, sorted by form with ties in their order, are the content of a list; and a
-- list has one content.
use Rattle.std.proofs.Common.{◌≡◌, ◌↔◌, ℕ, zero, suc, ◌<◌, ◌≤◌, List, [], ◌∷◌, ◌++◌, Bool, true, false, cond, not, ◌&&◌, ◌||◌, length, get_or, refl, sym, ◌∙◌, ap, subst, inl, inr, arith}
use Rattle.std.specs.Prelude.{All, AllPairs, Contains, Some, slice_get, IsPermutation, IsSortedByKey}
use Rattle.std.specs.List.{list_any, filter}
use Rattle.std.specs.List.Sorted.{IsStableByKey, ties}
use Rattle.std.specs.Cmp.Lexicographic.{slice_cmp, nat_list_cmp_total}
use Rattle.std.specs.Ordering.{nat_cmp, is_lt, ordering_reverse}
use Rattle.std.specs.declared.cmp.Ordering.{Ordering}
use Rattle.std.specs.declared.cmp.Ordering.TheVariants.{Less, Equal, Greater}
use Rattle.std.proofs.lemmas.Bool.{cases_Bool, cases_lt}
use Rattle.std.proofs.lemmas.Cmp.{tied_itself}
use Rattle.std.proofs.lemmas.List.{append_assoc, append-nil, get_or_default}
use Rattle.std.proofs.lemmas.List.Elements.{filter-append, All-contains, Contains-get_or, Contains-append_left, Contains-push, Contains-push_cases}
use Rattle.std.proofs.lemmas.List.Folds.{Any-from_list_any, list_any_at}
use Rattle.std.proofs.lemmas.List.Kept.{AllPairs-filter}
use Rattle.std.proofs.lemmas.List.Quantifiers.{all_pairs_push}
use Rattle.std.proofs.lemmas.List.Sorted.{IsPermutation-sym, Contains-permutation, sorted_far, ranks_by}
use Rattle.std.proofs.lemmas.Map.Lookups.{exact_bytes}
use Rattle.std.proofs.lemmas.Option.{none-some, same_Some, slice_get_within, get_or_from_slice_get}
use Rattle.indexmap.specs.IndexSet.{insert_key, insert_all}
use Rattle.ux_dela.specs.declared.entry.Entry.{Entry}
use Rattle.ux_dela.specs.Sound.{IsSound}
use Rattle.ux_dict.specs.Content.{AreDifferent, IsBelow, IsFirstPlace, IsEarlier, ComesBefore, IsContent, IsUpTo, IsDictionary}
use Rattle.ux_dict.specs.Equal.{entry_eq, entry_eq-Decides}
use Rattle.ux_base.proofs.OrderedLists.{place_of, Contains-at, slice_get-append_left, pair_kept, same_members, filter-true, filter-false}

-- a member of the list has a first place
pub first_place : (listed : List Entry) (entry : Entry) (k : ℕ) → slice_get listed k ≡ Some entry →
    (i : ℕ) × IsFirstPlace listed entry i
first_place [] entry k at = absurd (none-some entry at)
first_place (x ∷ listed) entry zero at =
    (0, record { here = at; first = λ j lt. absurd (omega (arith, lt)) })
first_place (x ∷ listed) entry (suc k) at = elim (cases_Bool (entry_eq x entry)) [
  | inl same ↦ (
    0,
    record {
      here = ap Some ((entry_eq-Decides x entry).0 same);
      first = λ j lt. absurd (omega (arith, lt));
    },
  )
  | inr other ↦ (
      let later = first_place listed entry k at in (
        suc later.0,
        record { here = later.1.here; first = first_behind x listed entry later.0 other later.1 },
      ))
]
  where
    first_behind : (x : Entry) (listed : List Entry) (entry : Entry) (i : ℕ) →
        entry_eq x entry ≡ false → IsFirstPlace listed entry i → (j : ℕ) → j < suc i →
        slice_get (x ∷ listed) j ≡ Some entry → ⊥
    first_behind x listed entry i other later zero lt at =
        let same = (entry_eq-Decides x entry).1 (same_Some x entry at) in cc
    first_behind x listed entry i other later (suc j) lt at =
        later.first j (omega (arith, lt)) at

-- the keys are the members of the front, and stand in the order of their first places
record AreFirsts (listed front keys : List Entry) : Type 0 where
  members : (entry : Entry) → Contains keys entry ↔ Contains front entry
  pairs : AllPairs (IsEarlier listed) keys

-- a member of the front has its first place there, and a new entry behind
earlier_than_new : (listed front rest : List Entry) (old entry : Entry) →
    listed ≡ front ++ entry ∷ rest → Contains front old → (Contains front entry → ⊥) →
    IsEarlier listed old entry
earlier_than_new listed front rest old entry is member new i j first_old first_new =
    let m = place_of front old member in
    let inside = slice_get_within front m.0 old m.1 in
    let read : (k : ℕ) → k < length front → slice_get listed k ≡ slice_get front k =
    λ k lt. ap (λ (l : List Entry). slice_get l k) is
    ∙ slice_get-append_left front (entry ∷ rest) k lt in
    let up_to : i ≤ m.0 = elim (cases_lt m.0 i) [
      | inl lt ↦ absurd (first_old.first m.0 lt (read m.0 inside ∙ m.1))
      | inr le ↦ le
    ] in
    let behind : length front ≤ j = elim (cases_lt j (length front)) [
      | inl lt ↦ absurd (new (Contains-at front entry j (sym (read j lt) ∙ first_new.here)))
      | inr le ↦ le
    ] in
    omega arith

AreFirsts-more : (listed front rest keys : List Entry) (entry : Entry) →
    listed ≡ front ++ entry ∷ rest → AreFirsts listed front keys →
    AreFirsts listed (front ++ entry ∷ []) (insert_key entry_eq keys entry)
AreFirsts-more listed front rest keys entry is firsts =
    by (list_any (entry_eq entry) keys) refl
  where
    in_more : (e : Entry) → Contains front e → Contains (front ++ entry ∷ []) e
    in_more e member = Contains-append_left front (entry ∷ []) e member

    known : list_any (entry_eq entry) keys ≡ true → Contains keys entry
    known is =
        let some = Any-from_list_any (entry_eq entry) keys is in
        let same = (entry_eq-Decides entry some.1).0 some.4 in
        (some.0, some.2, get_or_default keys some.0 entry some.1 some.2 ∙ some.3 ∙ sym same)

    unknown : list_any (entry_eq entry) keys ≡ false → Contains keys entry → ⊥
    unknown is (k, lt, at) =
        let test = (entry_eq-Decides entry (get_or keys k entry)).1 (sym at) in
        let any = list_any_at (entry_eq entry) keys k entry lt test in cc

    by : (b : Bool) → list_any (entry_eq entry) keys ≡ b →
        AreFirsts listed (front ++ entry ∷ []) (insert_key entry_eq keys entry)
    by true there =
        let kept : AreFirsts listed (front ++ entry ∷ []) keys = record {
          members = λ e. (
            λ member. in_more e ((firsts.members e).0 member),
            λ member. elim (Contains-push_cases front entry e member) [
              | inl old ↦ (firsts.members e).1 old
              | inr same ↦ subst (λ (x : Entry). Contains keys x) same (known there)
            ],
          );
          pairs = firsts.pairs;
        } in
        subst (λ (b : Bool).
        AreFirsts listed (front ++ entry ∷ []) (cond b keys (keys ++ entry ∷ [])))
        (sym there) kept
    by false there =
        let new : Contains front entry → ⊥ =
        λ member. unknown there ((firsts.members entry).1 member) in
        let put : AreFirsts listed (front ++ entry ∷ []) (keys ++ entry ∷ []) = record {
          members = λ e. (
            λ member. elim (Contains-push_cases keys entry e member) [
              | inl old ↦ in_more e ((firsts.members e).0 old)
              | inr same ↦ subst (λ (x : Entry). Contains (front ++ entry ∷ []) x) same
                  (Contains-push front entry)
            ],
            λ member. elim (Contains-push_cases front entry e member) [
              | inl old ↦ Contains-append_left keys (entry ∷ []) e ((firsts.members e).1 old)
              | inr same ↦ subst (λ (x : Entry). Contains (keys ++ entry ∷ []) x) same
                  (Contains-push keys entry)
            ],
          );
          pairs = all_pairs_push (IsEarlier listed) keys entry firsts.pairs
              (λ k d lt. earlier_than_new listed front rest (get_or keys k d) entry is
              ((firsts.members (get_or keys k d)).0 (Contains-get_or keys k d lt)) new);
        } in
        subst (λ (b : Bool).
        AreFirsts listed (front ++ entry ∷ []) (cond b keys (keys ++ entry ∷ [])))
        (sym there) put

AreFirsts-all : (listed front rest keys : List Entry) → listed ≡ front ++ rest →
    AreFirsts listed front keys → AreFirsts listed listed (insert_all entry_eq keys rest)
AreFirsts-all listed front [] keys is firsts =
    subst (λ (l : List Entry). AreFirsts listed l keys) (sym (is ∙ append-nil front)) firsts
AreFirsts-all listed front (entry ∷ rest) keys is firsts =
    AreFirsts-all listed (front ++ entry ∷ []) rest (insert_key entry_eq keys entry)
    (is ∙ sym (append_assoc front (entry ∷ []) rest))
    (AreFirsts-more listed front rest keys entry is firsts)

AreFirsts-insert : (listed : List Entry) → AreFirsts listed listed (insert_all entry_eq [] listed)
AreFirsts-insert listed =
    AreFirsts-all listed [] listed [] refl (record {
      members = λ e. (λ h. h, λ h. h);
      pairs = λ i j d lt within. absurd (omega (arith, within));
    })

-- no entry is earlier than itself
earlier_than_itself : (listed : List Entry) (entry : Entry) → Contains listed entry →
    IsEarlier listed entry entry → ⊥
earlier_than_itself listed entry member earlier =
    let place = place_of listed entry member in
    let first = first_place listed entry place.0 place.1 in
    absurd (omega (arith, earlier first.0 first.0 first.1 first.1))

-- so the keys are the entries, each at its first place
pub AreDifferent-insert : (listed : List Entry) →
    AreDifferent listed (insert_all entry_eq [] listed)
AreDifferent-insert listed =
    let keys = insert_all entry_eq [] listed in
    let firsts = AreFirsts-insert listed in
    record {
      members = firsts.members;
      once = λ i j d lt within same.
          let x = get_or keys i d in
          let member = (firsts.members x).0 (Contains-get_or keys i d (omega (arith, lt, within))) in
          earlier_than_itself listed x member
          (subst (IsEarlier listed x) (sym same) (firsts.pairs i j d lt within));
      ordered = firsts.pairs;
    }

-- no entry comes before itself
ComesBefore-irreflexive : (listed : List Entry) (entry : Entry) → Contains listed entry →
    ComesBefore listed entry entry → ⊥
ComesBefore-irreflexive listed entry member (inl below) =
    let tied = tied_itself nat_list_cmp_total entry.form in cc
ComesBefore-irreflexive listed entry member (inr same) =
    earlier_than_itself listed entry member same.1

-- nor do two come before each other
ComesBefore-strict : (listed : List Entry) (x y : Entry) → Contains listed x → Contains listed y →
    ComesBefore listed x y → ComesBefore listed y x → ⊥
ComesBefore-strict listed x y mx my (inl below) (inl above) =
    let round = nat_list_cmp_total.trans x.form y.form x.form below above in
    let tied = tied_itself nat_list_cmp_total x.form in cc
ComesBefore-strict listed x y mx my (inl below) (inr same) =
    let tied = tied_itself nat_list_cmp_total x.form in
    let moved = subst (IsBelow x.form) same.0 below in cc
ComesBefore-strict listed x y mx my (inr same) (inl above) =
    let tied = tied_itself nat_list_cmp_total y.form in
    let moved = subst (IsBelow y.form) same.0 above in cc
ComesBefore-strict listed x y mx my (inr same) (inr back) =
    let px = place_of listed x mx in
    let py = place_of listed y my in
    let fx = first_place listed x px.0 px.1 in
    let fy = first_place listed y py.0 py.1 in
    let up = same.1 fx.0 fy.0 fx.1 fy.1 in
    let down = back.1 fy.0 fx.0 fy.1 fx.1 in
    absurd (omega (arith, up, down))

-- whether two entries tie in a sort by form
abbrev tie : Entry → Entry → Bool
tie = ties (λ (a b : Entry). is_lt (slice_cmp nat_cmp a.form b.form))

tie-same : (x y : Entry) → x.form ≡ y.form → tie x y ≡ true
tie-same x y same =
    let tied = tied_itself nat_list_cmp_total x.form in
    subst (λ (f : List ℕ). (not (is_lt (slice_cmp nat_cmp x.form f))
    && not (is_lt (slice_cmp nat_cmp f x.form))) ≡ true) same
    (ap (λ o. not (is_lt o) && not (is_lt o)) tied)

-- an entry that isn't above another comes before it, where it does if their forms are equal
by_form : (listed : List Entry) (x y : Entry) → is_lt (slice_cmp nat_cmp y.form x.form) ≡ false →
    (x.form ≡ y.form → IsEarlier listed x y) → ComesBefore listed x y
by_form listed x y far earlier = by (slice_cmp nat_cmp x.form y.form) refl
  where
    by : (o : Ordering) → slice_cmp nat_cmp x.form y.form ≡ o → ComesBefore listed x y
    by Less is = inl is
    by Equal is = (let same = exact_bytes x.form y.form is in inr (same, earlier same))
    by Greater is =
        let turned = nat_list_cmp_total.antisymm y.form x.form in
        let below : is_lt (slice_cmp nat_cmp y.form x.form) ≡ true =
        ap is_lt (turned ∙ ap ordering_reverse is) in
        cc

-- what passes a test that equal entries pass alike, told apart, is what passes of what is told apart
keys_pass : (p : Entry → Bool) → ((x y : Entry) → x ≡ y → p x ≡ p y) → (keys : List Entry) (x : Entry) →
    p x ≡ true → list_any (entry_eq x) (filter p keys) ≡ list_any (entry_eq x) keys
keys_pass p alike [] x passes = refl
keys_pass p alike (k ∷ keys) x passes = elim (cases_Bool (p k)) [
  | inl is ↦ ap (list_any (entry_eq x)) (filter-true p k keys is)
      ∙ ap (λ (b : Bool). entry_eq x k || b) (keys_pass p alike keys x passes)
  | inr is ↦ (
      let other : entry_eq x k ≡ false = elim (cases_Bool (entry_eq x k)) [
        | inl same ↦ (let both = alike x k ((entry_eq-Decides x k).0 same) in cc)
        | inr fails ↦ fails
      ] in
      ap (list_any (entry_eq x)) (filter-false p k keys is) ∙ keys_pass p alike keys x passes
      ∙ sym (ap (λ (b : Bool). b || list_any (entry_eq x) keys) other))
]

key_passes : (p : Entry → Bool) → ((x y : Entry) → x ≡ y → p x ≡ p y) → (keys : List Entry)
    (x : Entry) → p x ≡ true →
    filter p (insert_key entry_eq keys x) ≡ insert_key entry_eq (filter p keys) x
key_passes p alike keys x passes =
    by (list_any (entry_eq x) keys)
    ∙ ap (λ (b : Bool). cond b (filter p keys) (filter p keys ++ x ∷ []))
    (sym (keys_pass p alike keys x passes))
  where
    by : (b : Bool) → filter p (cond b keys (keys ++ x ∷ []))
        ≡ cond b (filter p keys) (filter p keys ++ x ∷ [])
    by true = refl
    by false = filter-append p keys (x ∷ [])
        ∙ ap (λ (l : List Entry). filter p keys ++ l) (filter-true p x [] passes)

key_fails : (p : Entry → Bool) (keys : List Entry) (x : Entry) → p x ≡ false →
    filter p (insert_key entry_eq keys x) ≡ filter p keys
key_fails p keys x fails = by (list_any (entry_eq x) keys)
  where
    by : (b : Bool) → filter p (cond b keys (keys ++ x ∷ [])) ≡ filter p keys
    by true = refl
    by false = filter-append p keys (x ∷ [])
        ∙ ap (λ (l : List Entry). filter p keys ++ l) (filter-false p x [] fails)
        ∙ append-nil (filter p keys)

filter-insert_all : (p : Entry → Bool) → ((x y : Entry) → x ≡ y → p x ≡ p y) →
    (keys xs : List Entry) →
    filter p (insert_all entry_eq keys xs) ≡ insert_all entry_eq (filter p keys) (filter p xs)
filter-insert_all p alike keys [] = refl
filter-insert_all p alike keys (x ∷ xs) =
    filter-insert_all p alike (insert_key entry_eq keys x) xs ∙ elim (cases_Bool (p x)) [
      | inl is ↦ ap (λ (k : List Entry). insert_all entry_eq k (filter p xs))
          (key_passes p alike keys x is)
          ∙ ap (insert_all entry_eq (filter p keys)) (sym (filter-true p x xs is))
      | inr is ↦ ap (λ (k : List Entry). insert_all entry_eq k (filter p xs)) (key_fails p keys x is)
          ∙ ap (insert_all entry_eq (filter p keys)) (sym (filter-false p x xs is))
    ]

-- what is told apart of a sorted list is sorted
far_once : (sorted : List Entry) →
    IsSortedByKey (λ (e : Entry). e.form) (slice_cmp nat_cmp) sorted → (x y : Entry) →
    Contains sorted x → Contains sorted y → IsEarlier sorted x y →
    is_lt (slice_cmp nat_cmp y.form x.form) ≡ false
far_once sorted up x y mx my earlier =
    let px = place_of sorted x mx in
    let py = place_of sorted y my in
    let fx = first_place sorted x px.0 px.1 in
    let fy = first_place sorted y py.0 py.1 in
    let lt = earlier fx.0 fy.0 fx.1 fy.1 in
    let within = slice_get_within sorted fy.0 y fy.1.here in
    let at_x : get_or sorted fx.0 x ≡ x = get_or_from_slice_get sorted fx.0 x x fx.1.here in
    let at_y : get_or sorted fy.0 x ≡ y = get_or_from_slice_get sorted fy.0 y x fy.1.here in
    ap (λ (e : Entry). is_lt (slice_cmp nat_cmp y.form e.form)) (sym at_x)
    ∙ ap (λ (e : Entry). is_lt (slice_cmp nat_cmp e.form (get_or sorted fx.0 x).form)) (sym at_y)
    ∙ sorted_far _ (ranks_by nat_list_cmp_total (λ (e : Entry). e.form)) sorted up fx.0 fy.0 x
    (omega (arith, lt)) within

-- entries that are sorted by form, with those of one form in their order, and then told apart are the
-- content
pub IsContent-once : (listed sorted : List Entry) → IsPermutation listed sorted →
    IsSortedByKey (λ (e : Entry). e.form) (slice_cmp nat_cmp) sorted →
    IsStableByKey (λ (e : Entry). e.form) (slice_cmp nat_cmp) listed sorted →
    IsContent listed (insert_all entry_eq [] sorted)
IsContent-once listed sorted moved up stable =
    let content = insert_all entry_eq [] sorted in
    let keys = insert_all entry_eq [] listed in
    let firsts = AreFirsts-insert listed in
    let apart = AreDifferent-insert sorted in
    let members : (e : Entry) → Contains content e ↔ Contains listed e = λ e. (
      λ member. Contains-permutation sorted listed e (IsPermutation-sym listed sorted moved)
          ((apart.members e).0 member),
      λ member. (apart.members e).1 (Contains-permutation listed sorted e moved member),
    ) in
    let ties_are : (x : Entry) → AllPairs (IsEarlier listed) (filter (tie x) content) = λ x.
    subst (AllPairs (IsEarlier listed))
    (filter-insert_all (tie x) (λ a b same. ap (tie x) same) [] listed
    ∙ ap (insert_all entry_eq []) (sym (stable x))
    ∙ sym (filter-insert_all (tie x) (λ a b same. ap (tie x) same) [] sorted))
    (AllPairs-filter (IsEarlier listed) (tie x) keys firsts.pairs) in
    let pairs : AllPairs (ComesBefore listed) content = λ i j d lt within.
    let x = get_or content i d in
    let y = get_or content j d in
    let mx = (apart.members x).0 (Contains-get_or content i d (omega (arith, lt, within))) in
    let my = (apart.members y).0 (Contains-get_or content j d within) in
    by_form listed x y (far_once sorted up x y mx my (apart.ordered i j d lt within))
    (λ same. pair_kept (IsEarlier listed) (tie x) content (ties_are x) i j d lt within
    (tie-same x x refl) (tie-same x y same)) in
    record {
      members = members;
      once = λ i j d before within same.
          ComesBefore-irreflexive listed (get_or content j d)
          ((members (get_or content j d)).0 (Contains-get_or content j d within))
          (subst (λ (x : Entry). ComesBefore listed x (get_or content j d)) same
          (pairs i j d before within));
      ordered = pairs;
    }

-- a list has one content
pub IsContent-only : (listed content other : List Entry) → IsContent listed content →
    IsContent listed other → content ≡ other
IsContent-only listed content other is also =
    same_members (ComesBefore listed) (Contains listed) (ComesBefore-strict listed) content other
    (λ e. (
      λ member. (also.members e).1 ((is.members e).0 member),
      λ member. (is.members e).1 ((also.members e).0 member),
    ))
    (λ e member. (is.members e).0 member) is.ordered also.ordered

in_order : (listed : List Entry) (x y : Entry) → ComesBefore listed x y → IsUpTo x y
in_order listed x y (inl below) = inl below
in_order listed x y (inr same) = inr same.0

-- the content of sound entries is a dictionary's
pub IsDictionary-content : (listed content : List Entry) → IsContent listed content →
    All IsSound listed → IsDictionary content
IsDictionary-content listed content is sound = record {
  sound = λ k d lt. All-contains IsSound listed (get_or content k d) sound
      ((is.members (get_or content k d)).0 (Contains-get_or content k d lt));
  once = is.once;
  ordered = λ i j d lt within. in_order listed (get_or content i d) (get_or content j d)
      (is.ordered i j d lt within);
}
