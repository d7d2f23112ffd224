-- Where the entries stand in order, those of a form stand together.
use Rattle.std.proofs.Common.{arith, ◌≡◌, ◌≢◌, ℕ, suc, ◌+◌, ◌<◌, List, [], ◌∷◌, ◌⊎◌, ◌↔◌, inl, inr, Bool, true, false, cond, refl, sym, ◌∙◌, ap, subst, length, take, drop, get_or}
use Rattle.std.specs.Prelude.{All, Some, slice_get}
use Rattle.std.specs.Cmp.Lexicographic.{slice_cmp}
use Rattle.std.specs.List.{prefix_len, take_while}
use Rattle.std.specs.Ordering.{nat_cmp}
use Rattle.std.specs.declared.cmp.Ordering.TheVariants.{Less, Equal}
use Rattle.std.specs.Str.{bytes_eq, chars}
use Rattle.std.proofs.lemmas.Cmp.{nat_list_cmp_total, tied_itself}
use Rattle.std.proofs.lemmas.List.{length-take-le, drop_more}
use Rattle.std.proofs.lemmas.List.Sums.{prefix_len-le-length}
use Rattle.std.proofs.lemmas.Option.{none-some, same_Some}
use Rattle.std.proofs.lemmas.Slice.Eq.{bytes_eq-Decides}
use Rattle.std.proofs.lemmas.List.Elements.{All-nil, All-cons, All-weaker, All-more, All-get_or}
use Rattle.ux_dela.specs.declared.entry.Entry.{Entry}
use Rattle.ux_image.specs.Contents.{Precedes, AreInOrder, IsContent}
use Rattle.ux_image.specs.Grouping.{MayFollow}

pub precedes_on : (a b c : List ℕ) → Precedes a b → Precedes b c → Precedes a c
precedes_on a b c = nat_list_cmp_total.trans (chars a) (chars b) (chars c)

pub precedes_other : (a b : List ℕ) → Precedes a b → b ≢ a
precedes_other a b less same =
    let tied : slice_cmp nat_cmp (chars a) (chars a) ≡ Equal =
    tied_itself nat_list_cmp_total (chars a) in
    let under : slice_cmp nat_cmp (chars a) (chars a) ≡ Less =
    subst (λ (t : List ℕ). Precedes a t) same less in
    cc

-- whether an entry has the form
abbrev pub has_form : List ℕ → Entry → Bool
has_form form entry = bytes_eq entry.form form

-- how many entries from the front on have it
abbrev pub run_of : List ℕ → List Entry → ℕ
run_of form entries = prefix_len (has_form form) entries

module _ (form : List ℕ) where
  one_more : (n : ℕ) → 1 + n ≡ suc n
  one_more n = omega arith

  -- these have it
  pub run_same : (entries : List Entry) →
      All (λ (e : Entry). e.form ≡ form) (take (run_of form entries) entries)
  run_same [] = All-nil (λ (e : Entry). e.form ≡ form)
  run_same (entry ∷ entries) = by (has_form form entry) refl (run_same entries)
    where
      by : (b : Bool) → has_form form entry ≡ b →
          All (λ (e : Entry). e.form ≡ form) (take (run_of form entries) entries) →
          All (λ (e : Entry). e.form ≡ form)
          (take (cond (has_form form entry) (1 + run_of form entries) 0) (entry ∷ entries))
      by true is rest =
          let more : cond (has_form form entry) (1 + run_of form entries) 0
          ≡ suc (run_of form entries) =
          ap (λ b. cond b (1 + run_of form entries) 0) is ∙ one_more (run_of form entries) in
          subst (λ n. All (λ (e : Entry). e.form ≡ form) (take n (entry ∷ entries))) (sym more)
          (All-cons (λ (e : Entry). e.form ≡ form) entry (take (run_of form entries) entries)
          ((bytes_eq-Decides entry.form form).0 is) rest)
      by false is rest =
          subst (λ n. All (λ (e : Entry). e.form ≡ form) (take n (entry ∷ entries)))
          (sym (ap (λ b. cond b (1 + run_of form entries) 0) is))
          (All-nil (λ (e : Entry). e.form ≡ form))

  -- the entry behind them has another form, and those behind it are in order
  pub behind_run : (entries : List Entry) → AreInOrder form entries →
      AreInOrder form (drop (run_of form entries) entries)
      × ((entry : Entry) → slice_get (drop (run_of form entries) entries) 0 ≡ Some entry →
      entry.form ≢ form)
  behind_run [] ordered = (tt, λ entry at. absurd (none-some entry at))
  behind_run (entry ∷ entries) ordered = by (has_form form entry) refl (behind_run entries)
    where
      by : (b : Bool) → has_form form entry ≡ b →
          (AreInOrder form entries → AreInOrder form (drop (run_of form entries) entries)
          × ((e : Entry) → slice_get (drop (run_of form entries) entries) 0 ≡ Some e →
          e.form ≢ form)) →
          AreInOrder form (drop (cond (has_form form entry) (1 + run_of form entries) 0)
          (entry ∷ entries))
          × ((e : Entry) → slice_get (drop (cond (has_form form entry)
          (1 + run_of form entries) 0) (entry ∷ entries)) 0 ≡ Some e → e.form ≢ form)
      by true is rest =
          let same : entry.form ≡ form = (bytes_eq-Decides entry.form form).0 is in
          let more : cond (has_form form entry) (1 + run_of form entries) 0
          ≡ suc (run_of form entries) =
          ap (λ b. cond b (1 + run_of form entries) 0) is ∙ one_more (run_of form entries) in
          subst (λ n. AreInOrder form (drop n (entry ∷ entries))
          × ((e : Entry) → slice_get (drop n (entry ∷ entries)) 0 ≡ Some e → e.form ≢ form))
          (sym more) (rest (subst (λ (t : List ℕ). AreInOrder t entries) same ordered.1))
      by false is rest =
          subst (λ n. AreInOrder form (drop n (entry ∷ entries))
          × ((e : Entry) → slice_get (drop n (entry ∷ entries)) 0 ≡ Some e → e.form ≢ form))
          (sym (ap (λ b. cond b (1 + run_of form entries) 0) is)) (
            ordered,
            λ e at same.
                let one = same_Some entry e at in
                let yes : has_form form entry ≡ true =
                (bytes_eq-Decides entry.form form).1 (ap (λ (x : Entry). x.form) one ∙ same) in
                let no : true ≡ false = sym yes ∙ is in
                cc,
          )

-- the first of them has it, so there are some
pub run_some : (form : List ℕ) (entry : Entry) (entries : List Entry) → entry.form ≡ form →
    0 < run_of form (entry ∷ entries)
run_some form entry entries same =
    let some = ap (λ b. cond b (1 + run_of form entries) 0)
    ((bytes_eq-Decides entry.form form).1 same) in
    omega (arith, some)

-- their number, as it is counted
pub run_count : (form : List ℕ) (entries : List Entry) →
    length (take_while (has_form form) entries) ≡ run_of form entries
run_count form entries =
    length-take-le (run_of form entries) entries (prefix_len-le-length (has_form form) entries)

-- it is one more than that of the entries behind the first of the form
pub run_first : (form : List ℕ) (first : Entry) (later : List Entry) (count : ℕ) →
    form ≡ first.form → count ≡ length (take_while (has_form form) later) →
    1 + count ≡ run_of form (first ∷ later)
run_first form first later count same counted =
    ap (λ n. 1 + n) (counted ∙ run_count form later)
    ∙ sym (ap (λ b. cond b (1 + run_of form later) 0)
    ((bytes_eq-Decides first.form form).1 (sym same)))

-- entries in order behind a form come after what it comes after
all_later : (low last : List ℕ) (entries : List Entry) → Precedes low last →
    AreInOrder last entries → All (λ (e : Entry). Precedes low e.form) entries
all_later low last [] less ordered = All-nil (λ (e : Entry). Precedes low e.form)
all_later low last (entry ∷ entries) less ordered =
    let here : Precedes low entry.form = elim ordered.0 [
      | inl same ↦ subst (λ (t : List ℕ). Precedes low t) (sym same) less
      | inr more ↦ precedes_on low last entry.form less more
    ] in
    All-cons (λ (e : Entry). Precedes low e.form) entry entries here
    (all_later low entry.form entries here ordered.1)

-- so no other entry has the form
pub others_behind : (form : List ℕ) (entries : List Entry) → AreInOrder form entries →
    ((entry : Entry) → slice_get entries 0 ≡ Some entry → entry.form ≢ form) →
    All (λ (e : Entry). e.form ≢ form) entries
others_behind form [] ordered fresh = All-nil (λ (e : Entry). e.form ≢ form)
others_behind form (entry ∷ entries) ordered fresh =
    let here : Precedes form entry.form = elim ordered.0 [
      | inl same ↦ absurd (fresh entry refl same)
      | inr more ↦ more
    ] in
    All-cons (λ (e : Entry). e.form ≢ form) entry entries (precedes_other form entry.form here)
    (All-weaker (λ (e : Entry). Precedes form e.form) (λ (e : Entry). e.form ≢ form)
    (λ e. precedes_other form e.form) entries
    (all_later form entry.form entries here ordered.1))

-- an entry, the order of what is behind it, and that of all
module _ (entries : List Entry) (i : ℕ) (entry : Entry) (last form : List ℕ)
    (within : i < length entries) (at : entry ≡ get_or entries i entry) (is : form ≡ entry.form) where
  cut_there : drop i entries ≡ entry ∷ drop (i + 1) entries
  cut_there =
      drop_more entries i entry within
      ∙ ap (λ (e : Entry). e ∷ drop (i + 1) entries) (sym at)

  -- they are in order from the last form on where this one may follow it and the later ones are
  order_there : AreInOrder last (drop i entries)
      ↔ (((form ≡ last) ⊎ Precedes last form) × AreInOrder form (drop (i + 1) entries))
  order_there = (
    λ ordered. subst (λ (t : List ℕ). ((t ≡ last) ⊎ Precedes last t)
        × AreInOrder t (drop (i + 1) entries)) (sym is) (subst (AreInOrder last) cut_there ordered),
    λ parts. subst (AreInOrder last) (sym cut_there)
        (subst (λ (t : List ℕ). ((t ≡ last) ⊎ Precedes last t)
        × AreInOrder t (drop (i + 1) entries)) is parts),
  )

  pub order_more : MayFollow last form → AreInOrder last (drop i entries) ↔ AreInOrder [] entries →
      AreInOrder form (drop (i + 1) entries) ↔ AreInOrder [] entries
  order_more follows so_far = (
    λ later. so_far.0 (order_there.1 (follows.1, later)),
    λ all. (order_there.0 (so_far.1 all)).1,
  )

  -- the form isn't empty
  pub some_more : MayFollow last form → All (λ (e : Entry). e.form ≢ []) (take i entries) →
      All (λ (e : Entry). e.form ≢ []) (take (i + 1) entries)
  some_more follows so_far =
      All-more (λ (e : Entry). e.form ≢ []) entries i entry within so_far
      (subst (λ (e : Entry). e.form ≢ []) at (subst (λ (t : List ℕ). t ≢ []) is follows.0))

  -- in a content it may follow
  pub follows_there : AreInOrder last (drop i entries) ↔ AreInOrder [] entries →
      IsContent entries → MayFollow last form
  follows_there so_far content = (
    subst (λ (t : List ℕ). t ≢ []) (sym is) (subst (λ (e : Entry). e.form ≢ []) (sym at)
        (All-get_or (λ (e : Entry). e.form ≢ []) entries i entry within content.some)),
    (order_there.0 (so_far.1 content.ordered)).0,
  )
