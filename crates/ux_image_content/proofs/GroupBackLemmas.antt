-- The forms of a content with their codes: they make the content again, in order, and their codes
-- are such as images have.
use Rattle.std.proofs.Common.{arith, ◌≡◌, ◌≢◌, ℕ, zero, suc, ◌<◌, ◌≤◌, List, [], ◌∷◌, ◌++◌, inl, inr, Bool, true, false, cond, refl, sym, ◌∙◌, ap, subst, length, map, zip, take, drop, get_or}
use Rattle.std.specs.Prelude.{All, AllPairs, Some, flat_map, slice_get}
use Rattle.std.specs.Str.{IsUtf8, all_scalars, bytes_eq, chars, encode_utf8_all}
use Rattle.std.proofs.lemmas.Bool.{and_parts}
use Rattle.std.proofs.lemmas.List.{get_or-map, get_or_append_left, length-append, length-drop, length-map, take-append-drop}
use Rattle.std.proofs.lemmas.List.Elements.{All-cons, All-drop, All-filter, All-head, All-map, All-nil, All-tail, All-take}
use Rattle.std.proofs.lemmas.Str.{scalars-chars}
use Rattle.ux_dela.specs.Printed.{printed_codes}
use Rattle.ux_dela.specs.Sound.{HasNoFeed, IsSound}
use Rattle.ux_dela.specs.declared.entry.Entry.{Entry}
use Rattle.ux_dela.proofs.PrintLemmas.{printed_no_feed}
use Rattle.ux_dela.proofs.SoundLemmas.{no_feed-rest}
use Rattle.ux_base.proofs.OrderedLists.{AllPairs-tail}
use Rattle.ux_image.specs.Codes.{behind_chars, entry_code, front_chars, pair_between, pairs_between, pairs_of_pieces, shared_len, Rebuilds}
use Rattle.ux_image.specs.Contents.{code_list, entries_of_form, forms_in, forms_with_codes, AreInOrder, Precedes}
use Rattle.ux_image.specs.Layout.{CodeFits, ListFits}
use Rattle.ux_image.specs.Pieces.{pieces, separators}
use Rattle.ux_image.specs.declared.code.Code.{Code}
use Rattle.ux_image.specs.declared.code.CodeList.{CodeList}
use Rattle.ux_image.specs.declared.code.Pair.{Pair}
use Rattle.ux_image.proofs.GroupLemmas.{groups_cut}
use Rattle.ux_image.proofs.OneEntryLaws.{one_entry}
use Rattle.ux_image.proofs.OrderLemmas.{behind_run, has_form, others_behind, run_of, run_same}
use Rattle.ux_image.proofs.RebuiltLaws.{rebuilds_again}
use Rattle.ux_image.proofs.Utf8Lemmas.{pieces_utf8, some_piece}
use Rattle.ux_image_lists.specs.Lists.{IsText}
use Rattle.ux_image_content.specs.Contents.{AreRebuilt}
use Rattle.ux_image_content.specs.Walking.{IsGood}
use Rattle.ux_image_content.proofs.EntryLemmas.{rebuilt_append}
use Rattle.ux_image_content.proofs.LemmaLemmas.{front_and_rest, pieces_no_feed}
use Rattle.ux_image_content.proofs.PrintedTextLemmas.{printed_utf8}
use Rattle.ux_image_content.proofs.ListsBackLemmas.{IsCode, IsList}

-- a sound entry whose form and lemma are UTF-8
pub record IsGoodEntry (entry : Entry) : Type 0 where
  pub sound : IsSound entry
  pub form : IsUtf8 entry.form
  pub lemma : IsUtf8 entry.lemma

-- the codes of the entry are UTF-8
pub record HasTextCodes (entry : Entry) : Type 0 where
  pub gram : IsUtf8 entry.gram
  pub sem : All IsUtf8 entry.sem
  pub infl : All IsUtf8 entry.infl

-- CODES

scalars_behind : (n : ℕ) (cs : List ℕ) → all_scalars cs ≡ true → all_scalars (drop n cs) ≡ true
scalars_behind zero cs all = all
scalars_behind (suc n) [] all = all
scalars_behind (suc n) (c ∷ cs) all =
    scalars_behind n cs (and_parts _ (all_scalars cs) all).1

-- what is added is a text
pair_text : (form lemma : List ℕ) → IsUtf8 lemma → HasNoFeed lemma →
    IsText (pair_between form lemma).added
pair_text form lemma utf8 none =
    let n = shared_len form lemma in
    let rest = behind_chars n lemma in (
      (rest, (scalars_behind n (chars lemma) (scalars-chars lemma utf8), refl)),
      no_feed-rest (front_chars n lemma) (encode_utf8_all rest)
          (subst HasNoFeed (sym (front_and_rest n lemma utf8)) none),
    )

zip_texts : (xs ys : List (List ℕ)) → All IsUtf8 ys → All HasNoFeed ys →
    All (λ (p : Pair). IsText p.added) (map (λ p. pair_between p.0 p.1) (zip xs ys))
zip_texts [] ys utf8 none = All-nil (λ (p : Pair). IsText p.added)
zip_texts (x ∷ xs) [] utf8 none = All-nil (λ (p : Pair). IsText p.added)
zip_texts (x ∷ xs) (y ∷ ys) utf8 none =
    All-cons (λ (p : Pair). IsText p.added) (pair_between x y)
    (map (λ p. pair_between p.0 p.1) (zip xs ys))
    (pair_text x y (All-head IsUtf8 y ys utf8) (All-head HasNoFeed y ys none))
    (zip_texts xs ys (All-tail IsUtf8 y ys utf8) (All-tail HasNoFeed y ys none))

pairs_text : (form lemma : List ℕ) → IsUtf8 lemma → HasNoFeed lemma →
    All (λ (p : Pair). IsText p.added) (pairs_between form lemma)
pairs_text form lemma utf8 none = by (bytes_eq (separators form) (separators lemma))
  where
    by : (t : Bool) → All (λ (p : Pair). IsText p.added)
        (cond t (pairs_of_pieces form lemma) (pair_between form lemma ∷ []))
    by true =
        zip_texts (pieces form) (pieces lemma) (pieces_utf8 lemma utf8)
        (pieces_no_feed lemma none).0
    by false =
        All-cons (λ (p : Pair). IsText p.added) (pair_between form lemma) []
        (pair_text form lemma utf8 none) (All-nil (λ (p : Pair). IsText p.added))

pairs_some : (form lemma : List ℕ) → 0 < length (pairs_between form lemma)
pairs_some form lemma =
    by (bytes_eq (separators form) (separators lemma)) (pieces form) (pieces lemma)
    (some_piece form) (some_piece lemma)
  where
    by : (t : Bool) (ps qs : List (List ℕ)) →
        ((p : List ℕ) × (rest : List (List ℕ)) × (ps ≡ p ∷ rest)) →
        ((q : List ℕ) × (rest : List (List ℕ)) × (qs ≡ q ∷ rest)) →
        0 < length (cond t (map (λ p. pair_between p.0 p.1) (zip ps qs))
        (pair_between form lemma ∷ []))
    by true [] qs p q = absurd (let long = ap length p.2 in omega (arith, long))
    by true (x ∷ ps) [] p q = absurd (let long = ap length q.2 in omega (arith, long))
    by true (x ∷ ps) (y ∷ qs) p q = omega arith
    by false ps qs p q = omega arith

-- the code of an entry is as images have them
pub entry_good : (entry : Entry) → IsGoodEntry entry → IsGood (entry_code entry)
entry_good entry good = record {
  printed = (
    record { gram = entry.gram; sem = entry.sem; infl = entry.infl },
    record { printed = refl; sound = good.sound.codes },
  );
  texts = pairs_text entry.form entry.lemma good.lemma good.sound.lemma.no_feed;
}

code_good : (entry : Entry) → IsGoodEntry entry → IsUtf8 (printed_codes entry) →
    CodeFits (entry_code entry) → IsCode (entry_code entry)
code_good entry good utf8 fits =
    let is = entry_good entry good in
    record {
      few = fits.0.0;
      some = pairs_some entry.form entry.lemma;
      pairs = λ k d less. record { fits = fits.0.1 k d less; text = is.texts k d less };
      short = fits.1;
      text = (utf8, printed_no_feed entry.gram entry.sem entry.infl good.sound.codes);
      printed = is.printed;
    }

-- what holds of the code of each entry holds of each code of a form
pub codes_among : (P : Code → Type 0) (content : List Entry) →
    All (λ (e : Entry). P (entry_code e)) content → All (λ (g : List ℕ × CodeList).
    All P (g.1).codes) (forms_with_codes content)
codes_among P content all =
    let Each : List ℕ × CodeList → Type 0 = λ g. All P (g.1).codes in
    All-map Each (λ form. (form, code_list (entries_of_form form content))) (forms_in content)
    (λ k d less.
    let own = entries_of_form (get_or (forms_in content) k d) content in
    All-map P entry_code own
    (All-filter (has_form (get_or (forms_in content) k d)) (λ (e : Entry). P (entry_code e)) content
    all))

-- entries with such codes print text
pub codes_text : (entry : Entry) → HasTextCodes entry → IsUtf8 (printed_codes entry)
codes_text entry has =
    printed_utf8 entry.gram entry.sem entry.infl has.gram has.sem has.infl

-- GROUPS

-- a form with the codes of some entries of it
pub record IsGroup (group : List ℕ × CodeList) : Type 0 where
  pub run : List Entry
  pub some : 0 < length run
  pub list : group.1 ≡ code_list run
  pub same : All (λ (e : Entry). e.form ≡ group.0) run
  pub good : All IsGoodEntry run
  pub apart : AllPairs (λ x y. x ≢ y) run
  pub utf8 : IsUtf8 group.0

-- entries of one form that differ have codes that do
codes_apart : (form : List ℕ) (run : List Entry) → All (λ (e : Entry). e.form ≡ form) run →
    All IsGoodEntry run → AllPairs (λ x y. x ≢ y) run →
    AllPairs (λ x y. x ≢ y) (map entry_code run)
codes_apart form run same good apart i j d less within equal =
    let long = length-map run entry_code in
    let inside : j < length run = omega (arith, long, within) in
    let first : i < length run = omega (arith, less, inside) in
    let none : Entry = record { form = []; lemma = []; gram = []; sem = []; infl = [] } in
    let x = get_or run i none in
    let y = get_or run j none in
    let here = get_or-map entry_code run i none d first in
    let there = get_or-map entry_code run j none d inside in
    let codes : entry_code x ≡ entry_code y = sym here ∙ equal ∙ there in
    let gx = good i none first in
    let gy = good j none inside in
    let forms : x.form ≡ y.form = same i none first ∙ sym (same j none inside) in
    let made = rebuilds_again x gx.sound gx.lemma in
    let other = rebuilds_again y gy.sound gy.lemma in
    apart i j none less inside (one_entry y.form (entry_code y) x y
    (subst (λ (f : List ℕ). Rebuilds f (entry_code y) x) forms
    (subst (λ (c : Code). Rebuilds x.form c x) codes made)) other)

pub group_list : (group : List ℕ × CodeList) → IsGroup group →
    All (λ (c : Code). IsUtf8 c.codes) (group.1).codes → ListFits group.1 → IsList group.1
group_list group is utf8 fits =
    let long = length-map is.run entry_code in
    let some = is.some in
    let fit : ListFits (code_list is.run) = subst ListFits is.list fits in
    let Text : CodeList → Type 0 = λ l. All (λ (c : Code). IsUtf8 c.codes) l.codes in
    let text : Text (code_list is.run) = subst Text is.list utf8 in
    subst IsList (sym is.list) (record {
      few = fit.0;
      some = omega (arith, long, some);
      codes = All-map IsCode entry_code is.run (λ k d less.
          let inside : k < length (map entry_code is.run) = omega (arith, long, less) in
          let at = get_or-map entry_code is.run k d (entry_code d) less in
          code_good (get_or is.run k d) (is.good k d less)
          (subst (λ (c : Code). IsUtf8 c.codes) at (text k (entry_code d) inside))
          (subst CodeFits at (fit.1 k (entry_code d) inside)));
      apart = codes_apart group.0 is.run is.same is.good is.apart;
    })

-- the texts of the groups, each with its codes
abbrev pub tells : List (List ℕ × CodeList) → List (List ℕ × Code)
tells groups =
    flat_map (λ (group : List ℕ × CodeList).
    map (λ code. (group.0, code)) (group.1).codes) groups

-- each form comes after the one before it
abbrev pub AreAfter : List ℕ → List (List ℕ × CodeList) → Type 0
AreAfter last [] = Unit {0}
AreAfter last (group ∷ groups) = Precedes last group.0 × AreAfter group.0 groups

run_rebuilt : (form : List ℕ) (run : List Entry) → All (λ (e : Entry). e.form ≡ form) run →
    All IsGoodEntry run → AreRebuilt (map (λ code. (form, code)) (map entry_code run)) run
run_rebuilt form [] same good = tt
run_rebuilt form (e ∷ run) same good =
    let IsOf : Entry → Type 0 = λ e. e.form ≡ form in
    let here = All-head IsGoodEntry e run good in (
      subst (λ (f : List ℕ). Rebuilds f (entry_code e) e) (All-head IsOf e run same)
          (rebuilds_again e here.sound here.lemma),
      run_rebuilt form run (All-tail IsOf e run same) (All-tail IsGoodEntry e run good),
    )

-- what is known of the forms of a content in order
pub record Groups (last : List ℕ) (content : List Entry) : Type 0 where
  pub each : All IsGroup (forms_with_codes content)
  pub rebuilt : AreRebuilt (tells (forms_with_codes content)) content
  pub after : AreAfter last (forms_with_codes content)

-- parts of a list that has each entry once have each once
pub apart_front : (xs ys : List Entry) → AllPairs (λ x y. x ≢ y) (xs ++ ys) →
    AllPairs (λ x y. x ≢ y) xs
apart_front xs ys apart i j d less within same =
    let long = length-append xs ys in
    apart i j d less (omega (arith, long, within))
    (get_or_append_left xs ys d i (omega (arith, less, within)) ∙ same
    ∙ sym (get_or_append_left xs ys d j within))

pub apart_rest : (xs ys : List Entry) → AllPairs (λ x y. x ≢ y) (xs ++ ys) →
    AllPairs (λ x y. x ≢ y) ys
apart_rest [] ys apart = apart
apart_rest (x ∷ xs) ys apart =
    apart_rest xs ys (AllPairs-tail (λ x y. x ≢ y) x (xs ++ ys) apart)

pub groups_of : (n : ℕ) (last : List ℕ) (content : List Entry) → length content ≤ n →
    AreInOrder last content →
    ((entry : Entry) → slice_get content 0 ≡ Some entry → entry.form ≢ last) →
    All IsGoodEntry content → AllPairs (λ x y. x ≢ y) content → Groups last content
groups_of n last [] few ordered fresh good apart =
    record { each = All-nil IsGroup; rebuilt = tt; after = tt }
groups_of zero last (entry ∷ rest) few ordered fresh good apart = absurd (omega (arith, few))
groups_of (suc n) last (entry ∷ rest) few ordered fresh good apart =
    let form = entry.form in
    let k = run_of form rest in
    let run = take k rest in
    let behind = drop k rest in
    let split : run ++ behind ≡ rest = take-append-drop k rest in
    let next = behind_run form rest ordered.1 in
    let others = others_behind form behind next.0 next.1 in
    let run_is = run_same form rest in
    let all_good = All-tail IsGoodEntry entry rest good in
    let mine = All-cons IsGoodEntry entry run (All-head IsGoodEntry entry rest good)
    (All-take IsGoodEntry k rest all_good) in
    let whole = subst (λ (l : List Entry). AllPairs (λ x y. x ≢ y) (entry ∷ l)) (sym split) apart in
    let fewer = length-drop k rest in
    let more = groups_of n form behind (omega (arith, few, fewer)) next.0 next.1
    (All-drop IsGoodEntry k rest all_good) (apart_rest (entry ∷ run) behind whole) in
    let IsOf : Entry → Type 0 = λ e. e.form ≡ form in
    let same = All-cons IsOf entry run refl run_is in
    let cut = groups_cut form behind others entry run refl run_is in
    let group : List ℕ × CodeList = (form, code_list (entry ∷ run)) in
    let is : IsGroup group = record {
      run = entry ∷ run;
      some = omega arith;
      list = refl;
      same = same;
      good = mine;
      apart = apart_front (entry ∷ run) behind whole;
      utf8 = (All-head IsGoodEntry entry rest good).form;
    } in
    let first : Precedes last form = elim ordered.0 [
      | inl equal ↦ absurd (fresh entry refl equal)
      | inr after ↦ after
    ] in
    subst (λ (l : List Entry). Groups last (entry ∷ l)) split (record {
      each = subst (All IsGroup) (sym cut)
          (All-cons IsGroup group (forms_with_codes behind) is more.each);
      rebuilt = subst (λ (l : List (List ℕ × CodeList)).
          AreRebuilt (tells l) (entry ∷ (run ++ behind))) (sym cut)
          (rebuilt_append (map (λ code. (form, code)) (map entry_code (entry ∷ run)))
          (tells (forms_with_codes behind)) (entry ∷ run) behind
          (run_rebuilt form (entry ∷ run) same mine) more.rebuilt);
      after = subst (AreAfter last) (sym cut) (first, more.after);
    })
