-- Entries in order of form, told apart run by run.
use Rattle.std.proofs.Common.{◌≡◌, ◌≢◌, ℕ, zero, suc, ◌<◌, ◌≤◌, List, [], ◌∷◌, ◌++◌, Bool, true, false, cond, ◌||◌, length, get_or, refl, sym, ◌∙◌, ap, subst, inl, inr, arith, length-append}
use Rattle.std.specs.Prelude.{◌⊎◌, bytes_eq, Contains, IsSortedByKey}
use Rattle.std.specs.List.{list_any}
use Rattle.std.specs.Cmp.Lexicographic.{slice_cmp, nat_list_cmp_total}
use Rattle.std.specs.Ordering.{nat_cmp, is_lt, ordering_reverse}
use Rattle.std.specs.declared.cmp.Ordering.{Ordering}
use Rattle.std.specs.declared.cmp.Ordering.TheVariants.{Less, Equal, Greater}
use Rattle.std.proofs.lemmas.Bool.{cases_Bool}
use Rattle.std.proofs.Math.Seq.{get_or-append_seam}
use Rattle.std.proofs.lemmas.List.{append_assoc, append-nil, get_or_default, get_or_append_left}
use Rattle.std.proofs.lemmas.Option.{none-some, same_Some}
use Rattle.std.proofs.lemmas.Slice.Eq.{bytes_eq-Decides}
use Rattle.std.proofs.lemmas.List.Elements.{Contains-append_cases, Contains-push_cases}
use Rattle.std.proofs.lemmas.List.Folds.{Any-from_list_any, list_any-append}
use Rattle.std.proofs.lemmas.List.Sorted.{sorted_far, ranks_by}
use Rattle.std.proofs.lemmas.List.Sums.{fold-append}
use Rattle.std.proofs.lemmas.Map.Lookups.{exact_bytes}
use Rattle.indexmap.specs.IndexSet.{insert_key, insert_all}
use Rattle.ux_dela.specs.declared.entry.Entry.{Entry}
use Rattle.ux_dict.specs.Equal.{entry_eq, entry_eq-Decides}
use Rattle.ux_dict.specs.Runs.{GoesOn, HasOtherForm}
use Rattle.ux_dict.proofs.ContentLemmas.{AreDifferent-insert}

-- no entry of the run is one of the others
abbrev AreApart : (others run : List Entry) → Type 0
AreApart others run = (a b : Entry) → Contains others a → Contains run b → a.form ≢ b.form

none_equal : (others : List Entry) (entry : Entry) →
    ((a : Entry) → Contains others a → a.form ≢ entry.form) →
    list_any (entry_eq entry) others ≡ false
none_equal others entry apart = elim (cases_Bool (list_any (entry_eq entry) others)) [
  | inl is ↦ (
      let some = Any-from_list_any (entry_eq entry) others is in
      let same = (entry_eq-Decides entry some.1).0 some.4 in
      let member : Contains others some.1 =
      (some.0, some.2, get_or_default others some.0 some.1 some.1 some.2 ∙ some.3) in
      absurd (apart some.1 member (ap (λ (e : Entry). e.form) (sym same))))
  | inr is ↦ is
]

-- behind others that all differ from it, an entry is put as if they weren't there
insert_behind : (others keys : List Entry) (entry : Entry) →
    list_any (entry_eq entry) others ≡ false →
    insert_key entry_eq (others ++ keys) entry ≡ others ++ insert_key entry_eq keys entry
insert_behind others keys entry none =
    let any : list_any (entry_eq entry) (others ++ keys) ≡ list_any (entry_eq entry) keys =
    list_any-append (entry_eq entry) others keys
    ∙ ap (λ (b : Bool). b || list_any (entry_eq entry) keys) none in
    ap (λ (b : Bool). cond b (others ++ keys) ((others ++ keys) ++ entry ∷ [])) any
    ∙ by (list_any (entry_eq entry) keys)
  where
    by : (b : Bool) → cond b (others ++ keys) ((others ++ keys) ++ entry ∷ [])
        ≡ others ++ cond b keys (keys ++ entry ∷ [])
    by true = refl
    by false = append_assoc others keys (entry ∷ [])

insert_all_behind : (others keys run : List Entry) → AreApart others run →
    insert_all entry_eq (others ++ keys) run ≡ others ++ insert_all entry_eq keys run
insert_all_behind others keys [] apart = refl
insert_all_behind others keys (entry ∷ run) apart =
    let here : (a : Entry) → Contains others a → a.form ≢ entry.form =
    λ a member. apart a entry member (0, omega arith, refl) in
    ap (λ (k : List Entry). insert_all entry_eq k run)
    (insert_behind others keys entry (none_equal others entry here))
    ∙ insert_all_behind others (insert_key entry_eq keys entry) run
    (λ a b first (k, lt, is). apart a b first (suc k, omega (arith, lt), is))

-- a run whose forms no earlier entry has is told apart by itself
pub run_alone : (before run : List Entry) → AreApart before run →
    insert_all entry_eq [] (before ++ run)
    ≡ insert_all entry_eq [] before ++ insert_all entry_eq [] run
run_alone before run apart =
    let keys = insert_all entry_eq [] before in
    fold-append (insert_key entry_eq) [] before run
    ∙ ap (λ (k : List Entry). insert_all entry_eq k run) (sym (append-nil keys))
    ∙ insert_all_behind keys [] run
    (λ a b first second.
    apart a b (((AreDifferent-insert before).members a).0 first) second)

-- the entries so far: those of earlier forms are told apart, and those of the last form are the run
pub record IsOnceTo (done once run : List Entry) : Type 0 where
  pub before : List Entry
  pub whole : done ≡ before ++ run
  pub put : once ≡ insert_all entry_eq [] before
  pub same : (a b : Entry) → Contains run a → Contains run b → a.form ≡ b.form
  pub apart : AreApart before run
  pub first : run ≡ [] → before ≡ []

pub once_start : IsOnceTo [] [] []
once_start = record {
  before = [];
  whole = refl;
  put = refl;
  same = λ a b (k, lt, is). absurd (omega (arith, lt));
  apart = λ a b (k, lt, is). absurd (omega (arith, lt));
  first = λ e. refl;
}

nothing_in : (e : Entry) → Contains [] e → ⊥
nothing_in e (k, lt, is) = absurd (omega (arith, lt))

only_one : (entry e : Entry) → Contains (entry ∷ []) e → entry ≡ e
only_one entry e (zero, lt, is) = is
only_one entry e (suc k, lt, is) = absurd (omega (arith, lt))

-- the entry has the form of another one, or not
decide_form : (r entry : Entry) → (r.form ≡ entry.form) ⊎ (r.form ≢ entry.form)
decide_form r entry = elim (cases_Bool (bytes_eq r.form entry.form)) [
  | inl is ↦ inl ((bytes_eq-Decides r.form entry.form).0 is)
  | inr is ↦ inr (λ e. (let same = (bytes_eq-Decides r.form entry.form).1 e in cc))
]

-- the run is of another form, or not
decide_other : (run : List Entry) (entry : Entry) →
    HasOtherForm run entry ⊎ (HasOtherForm run entry → ⊥)
decide_other [] entry = inr (λ other. none-some other.0 other.1)
decide_other (r ∷ run) entry = elim (decide_form r entry) [
  | inl is ↦ inr (λ other.
      other.2 (ap (λ (e : Entry). e.form) (sym (same_Some r other.0 other.1)) ∙ is))
  | inr ne ↦ inl (r, refl, ne)
]

-- the run goes on with an entry of its form
pub once_same : (done once run : List Entry) (entry : Entry) → IsOnceTo done once run →
    (HasOtherForm run entry → ⊥) → IsOnceTo (done ++ entry ∷ []) once (run ++ entry ∷ [])
once_same done once [] entry so_far other =
    let none = so_far.first refl in
    record {
      before = so_far.before;
      whole = ap (λ (l : List Entry). l ++ entry ∷ [])
          (so_far.whole ∙ append-nil so_far.before);
      put = so_far.put;
      same = λ a b x y. ap (λ (e : Entry). e.form)
          (sym (only_one entry a x) ∙ only_one entry b y);
      apart = λ a b x y. absurd (nothing_in a (subst (λ (l : List Entry). Contains l a) none x));
      first = λ e. none;
    }
once_same done once (r ∷ run) entry so_far other =
    let is : (b : Entry) → Contains ((r ∷ run) ++ entry ∷ []) b → r.form ≡ b.form =
    λ b member. elim (Contains-push_cases (r ∷ run) entry b member) [
      | inl old ↦ so_far.same r b (0, omega arith, refl) old
      | inr here ↦ elim (decide_form r entry) [
        | inl same ↦ same ∙ ap (λ (e : Entry). e.form) here
        | inr not ↦ absurd (other (r, refl, not))
      ]
    ] in
    record {
      before = so_far.before;
      whole = ap (λ (l : List Entry). l ++ entry ∷ []) so_far.whole
          ∙ append_assoc so_far.before (r ∷ run) (entry ∷ []);
      put = so_far.put;
      same = λ a b x y. sym (is a x) ∙ is b y;
      apart = λ a b x y e.
          so_far.apart a r x (0, omega arith, refl) (e ∙ sym (is b y));
      first = λ e. absurd (omega (arith, ap length e));
    }

-- two texts of which neither is below the other are one
same_text : (s t : List ℕ) → is_lt (slice_cmp nat_cmp s t) ≡ false →
    is_lt (slice_cmp nat_cmp t s) ≡ false → s ≡ t
same_text s t first second = by (slice_cmp nat_cmp s t) refl
  where
    by : (o : Ordering) → slice_cmp nat_cmp s t ≡ o → s ≡ t
    by Less is = (let below = ap is_lt is in cc)
    by Equal is = exact_bytes s t is
    by Greater is =
        let turned = nat_list_cmp_total.antisymm t s in
        let below : is_lt (slice_cmp nat_cmp t s) ≡ true =
        ap is_lt (turned ∙ ap ordering_reverse is) in
        cc

-- of entries in order of form, one isn't below another that stands in front of it
module _ (sorted : List Entry)
    (up : IsSortedByKey (λ (e : Entry). e.form) (slice_cmp nat_cmp) sorted) where
  not_below : (i j : ℕ) (x y d : Entry) → i ≤ j → j < length sorted → get_or sorted i d ≡ x →
      get_or sorted j d ≡ y → is_lt (slice_cmp nat_cmp y.form x.form) ≡ false
  not_below i j x y d le within at_x at_y =
      ap (λ (e : Entry). is_lt (slice_cmp nat_cmp y.form e.form)) (sym at_x)
      ∙ ap (λ (e : Entry). is_lt (slice_cmp nat_cmp e.form (get_or sorted i d).form)) (sym at_y)
      ∙ sorted_far _ (ranks_by nat_list_cmp_total (λ (e : Entry). e.form)) sorted up i j d le within

  -- an entry of another form than the run differs from all before the run
  apart_from_all : (before run rest : List Entry) (r entry a : Entry) →
      sorted ≡ (before ++ r ∷ run) ++ entry ∷ rest → AreApart before (r ∷ run) →
      Contains before a → r.form ≢ entry.form → a.form ≢ entry.form
  apart_from_all before run rest r entry a whole apart (k, lt, at) ne same =
      let other : sorted ≡ before ++ r ∷ (run ++ entry ∷ rest) =
      whole ∙ append_assoc before (r ∷ run) (entry ∷ rest) in
      let many = ap length whole ∙ length-append (before ++ r ∷ run) (entry ∷ rest) in
      let front = length-append before (r ∷ run) in
      let at_a : get_or sorted k a ≡ a =
      ap (λ (l : List Entry). get_or l k a) other
      ∙ get_or_append_left before (r ∷ (run ++ entry ∷ rest)) a k lt ∙ at in
      let at_r : get_or sorted (length before) a ≡ r =
      ap (λ (l : List Entry). get_or l (length before) a) other
      ∙ get_or-append_seam before r (run ++ entry ∷ rest) a in
      let at_entry : get_or sorted (length (before ++ r ∷ run)) a ≡ entry =
      ap (λ (l : List Entry). get_or l (length (before ++ r ∷ run)) a) whole
      ∙ get_or-append_seam (before ++ r ∷ run) entry rest a in
      let low = not_below k (length before) a r a (omega (arith, lt))
      (omega (arith, many, front)) at_a at_r in
      let high = not_below (length before) (length (before ++ r ∷ run)) r entry a
      (omega (arith, front)) (omega (arith, many)) at_r at_entry in
      let high_a : is_lt (slice_cmp nat_cmp a.form r.form) ≡ false =
      subst (λ (f : List ℕ). is_lt (slice_cmp nat_cmp f r.form) ≡ false) (sym same) high in
      apart a r (k, lt, at) (0, omega arith, refl) (same_text a.form r.form high_a low)

  -- an entry of another form begins a run
  pub once_other : (done once run rest : List Entry) (entry : Entry) (more : List Entry) →
      sorted ≡ done ++ entry ∷ rest → IsOnceTo done once run → HasOtherForm run entry →
      more ≡ once ++ insert_all entry_eq [] run →
      IsOnceTo (done ++ entry ∷ []) more (entry ∷ [])
  once_other done once [] rest entry more whole so_far other put =
      absurd (none-some other.0 other.1)
  once_other done once (r ∷ run) rest entry more whole so_far other put =
      let first : r ≡ other.0 = same_Some r other.0 other.1 in
      let ne : r.form ≢ entry.form = λ e.
      other.2 (sym (ap (λ (e : Entry). e.form) first) ∙ e) in
      let split = whole ∙ ap (λ (l : List Entry). l ++ entry ∷ rest) so_far.whole in
      let new : (a : Entry) → Contains (so_far.before ++ r ∷ run) a → a.form ≢ entry.form =
      λ a member. elim (Contains-append_cases so_far.before (r ∷ run) a member) [
        | inl old ↦ apart_from_all so_far.before run rest r entry a split so_far.apart old ne
        | inr here ↦ λ e. ne (so_far.same r a (0, omega arith, refl) here ∙ e)
      ] in
      record {
        before = so_far.before ++ r ∷ run;
        whole = ap (λ (l : List Entry). l ++ entry ∷ []) so_far.whole;
        put = put ∙ ap (λ (l : List Entry). l ++ insert_all entry_eq [] (r ∷ run)) so_far.put
            ∙ sym (run_alone so_far.before (r ∷ run) so_far.apart);
        same = λ a b x y. ap (λ (e : Entry). e.form)
            (sym (only_one entry a x) ∙ only_one entry b y);
        apart = λ a b x y e. new a x (e ∙ ap (λ (e : Entry). e.form) (sym (only_one entry b y)));
        first = λ e. absurd (omega (arith, ap length e));
      }

  -- one more entry
  pub once_on : (done once run rest : List Entry) (entry : Entry) (run' once' : List Entry) →
      sorted ≡ done ++ entry ∷ rest → IsOnceTo done once run → GoesOn entry run once run' once' →
      IsOnceTo (done ++ entry ∷ []) once' run'
  once_on done once run rest entry run' once' whole so_far goes =
      elim (decide_other run entry) [
        | inl other ↦ (
            let put = goes.other other in
            subst (λ (r : List Entry). IsOnceTo (done ++ entry ∷ []) once' r) (sym put.0)
            (once_other done once run rest entry once' whole so_far other put.1))
        | inr same ↦ (
            let put = goes.same same in
            subst (λ (r : List Entry). IsOnceTo (done ++ entry ∷ []) once' r) (sym put.0)
            (subst (λ (o : List Entry). IsOnceTo (done ++ entry ∷ []) o (run ++ entry ∷ []))
            (sym put.1) (once_same done once run entry so_far same)))
      ]

-- all entries are told apart
pub once_whole : (done once run more : List Entry) → IsOnceTo done once run →
    more ≡ once ++ insert_all entry_eq [] run → more ≡ insert_all entry_eq [] done
once_whole done once run more so_far put =
    put ∙ ap (λ (l : List Entry). l ++ insert_all entry_eq [] run) so_far.put
    ∙ sym (run_alone so_far.before run so_far.apart)
    ∙ ap (insert_all entry_eq []) (sym so_far.whole)
