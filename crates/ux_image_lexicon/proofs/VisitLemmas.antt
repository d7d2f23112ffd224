-- The walk visits a state: it enters it, or counts the forms behind it at once.
use Rattle.std.proofs.Common.{◌≡◌, ℕ, ◌+◌, ◌<◌, min, List, [], ◌∷◌, ◌++◌, length, refl, sym, ◌∙◌, ap, subst, inl, inr, arith}
use Rattle.std.specs.Prelude.{Contains, Option, None, Some, slice_get, sum_by}
use Rattle.std.specs.Option.{unwrap_or}
use Rattle.std.proofs.lemmas.List.Elements.{All-contains, All-head, All-tail, Contains-append_cases, Contains-append_left, Contains-append_right}
use Rattle.std.proofs.lemmas.List.Sums.{sum_by-append, sum_by-cons}
use Rattle.indexmap.specs.IndexMap.{get_by_text}
use Rattle.ux_dawg.specs.declared.state.Form.{Form}
use Rattle.ux_dawg.specs.declared.state.State.{State}
use Rattle.ux_image_lists.specs.Sizes.{MOST}
use Rattle.ux_image_look_ups.specs.Ways.{behind_all, forms_at}
use Rattle.ux_image_lexicon.specs.Counting.{AreCountedBut, IsApart, TellsForm}
use Rattle.ux_image_lexicon.specs.Summing.{codes_of, codes_told, AreFormsApart, PassesOver, Visits}
use Rattle.ux_image_lexicon.specs.Told.{made_of, read_in, CodedForms, IsCoded}
use Rattle.ux_image_lexicon.specs.Walking.{forms_behind, forms_left, word_of, letters_left, IsWalk}
use Rattle.ux_image_lexicon.specs.declared.codes.ReadList.{ReadList}
use Rattle.ux_image_lexicon.specs.declared.counts.Counts.{Counts}
use Rattle.ux_image_lexicon.specs.declared.walk.Branch.{Branch}
use Rattle.ux_image_lexicon.specs.declared.walk.Walk.{Walk}
use Rattle.ux_image_lexicon.proofs.CountLemmas.{different_made, text_of}
use Rattle.ux_image_lexicon.proofs.EnterLemmas.{enters_counted, enters_walk, gone_less, passed_less}
use Rattle.ux_image_lexicon.proofs.SummingLemmas.{apart-fronted, codes-fronted}

module _ (coded : CodedForms) (is : IsCoded coded) where
  abbrev states : List State
  states = coded.states

  abbrev lists : List ReadList
  lists = coded.lists

  abbrev made : Form → ℕ
  made = made_of lists

  abbrev IsFormApart : Form → Type 0
  IsFormApart form = IsApart (read_in (slice_get lists form.code))

  -- a form has as many entries as its list codes, where no two of these make one entry
  made_apart : (f : Form) → IsFormApart f → made f ≡ codes_of lists f
  made_apart f apart = sym (different_made lists f) ∙ apart (text_of f)

  all_apart : (forms : List Form) → AreFormsApart lists forms →
      sum_by made forms ≡ codes_told lists forms
  all_apart [] apart = refl
  all_apart (f ∷ forms) apart =
      let one = sum_by-cons made f forms in
      let other = sum_by-cons (codes_of lists) f forms in
      let here = made_apart f (All-head IsFormApart f forms apart) in
      let rest = all_apart forms (All-tail IsFormApart f forms apart) in
      omega (arith, one, other, here, rest)

  -- such forms are counted at once
  module _ (old new : Counts) (left behind : List Form)
      (are : AreCountedBut coded old (left ++ behind)) (apart : AreFormsApart lists behind)
      (total : new.total ≡ min (old.total + codes_told lists behind) MOST)
      (fewer : new.fewer ≡ old.fewer) where
    told_as : (f : Form) (o : Option ℕ) → get_by_text old.fewer (text_of f) ≡ o →
        unwrap_or (get_by_text new.fewer (text_of f)) (codes_of lists f)
        ≡ unwrap_or o (codes_of lists f)
    told_as f o at =
        ap (λ m. unwrap_or (get_by_text m (text_of f)) (codes_of lists f)) fewer
        ∙ ap (λ (p : Option ℕ). unwrap_or p (codes_of lists f)) at

    tells_here : (f : Form) → Contains behind f → TellsForm lists new f
    tells_here f has = by (get_by_text old.fewer (text_of f)) refl
      where
        by : (o : Option ℕ) → get_by_text old.fewer (text_of f) ≡ o → TellsForm lists new f
        by None at =
            told_as f None at ∙ sym (made_apart f (All-contains IsFormApart behind f apart has))
        by (Some n) at =
            told_as f (Some n) at
            ∙ are.kept f (are.among f (Contains-append_right left behind f has)) n at

    all_at_once : AreCountedBut coded new left
    all_at_once = record {
      among = λ f has. are.among f (Contains-append_left left behind f has);
      total =
          let parts = sum_by-append made left behind in
          let same = all_apart behind apart in
          let whole = are.total in
          let few = is.few in
          omega (arith, parts, same, whole, few, total);
      kept = λ f has n at.
          are.kept f has n (ap (λ m. get_by_text m (text_of f)) (sym fewer) ∙ at);
      each = λ f has. elim (are.each f has) [
        | inl there ↦ elim (Contains-append_cases left behind f there) [
          | inl still ↦ inl still
          | inr here ↦ inr (tells_here f here)
        ]
        | inr tells ↦ inr (told_as f (get_by_text old.fewer (text_of f)) refl ∙ tells)
      ];
    }

  -- the walk is in the state, and all forms are counted but those behind it and those that are left
  module _ (number : ℕ) (walk next : Walk) (old new : Counts) (within : number < length states)
      (visits : Visits coded number walk next old new)
      (going : IsWalk states walk.letters.items walk.branches.items)
      (are : AreCountedBut coded old
      (forms_left states walk.letters.items walk.branches.items
      ++ forms_behind states walk.letters.items number)) where
    abbrev letters : List ℕ
    letters = walk.letters.items

    pub visits_walk : IsWalk states next.letters.items next.branches.items
    visits_walk = elim visits [
      | inl enters ↦ enters_walk coded is number walk next old new within enters going are
      | inr passes ↦
          subst (λ (l : List ℕ). IsWalk states l next.branches.items) (sym passes.letters)
          (subst (IsWalk states letters) (sym passes.branches) going)
    ]

    passes_counted : PassesOver coded number walk next old new →
        AreCountedBut coded new (forms_left states letters walk.branches.items)
    passes_counted passes =
        let there = forms_at states number in
        all_at_once old new (forms_left states letters walk.branches.items)
        (forms_behind states letters number) are
        (apart-fronted lists (behind_all letters) (λ f. refl) there passes.apart)
        (passes.total ∙ ap (λ n. min (old.total + n) MOST)
        (sym (codes-fronted lists (behind_all letters) (λ f. refl) there))) passes.fewer

    pub visits_counted :
        AreCountedBut coded new (forms_left states next.letters.items next.branches.items)
    visits_counted = elim visits [
      | inl enters ↦ enters_counted coded is number walk next old new within enters going are
      | inr passes ↦
          subst (λ (l : List ℕ). AreCountedBut coded new (forms_left states l next.branches.items))
          (sym passes.letters)
          (subst (λ (l : List Branch). AreCountedBut coded new (forms_left states letters l))
          (sym passes.branches) (passes_counted passes))
    ]

  -- fewer letters are left when the walk has gone to a state and visited it
  pub visits_less : (walk gone : Walk) (some : List Branch) (b : Branch) (counts : Counts) →
      IsWalk states walk.letters.items walk.branches.items →
      AreCountedBut coded counts (forms_left states walk.letters.items walk.branches.items) →
      walk.branches.items ≡ some ++ b ∷ [] → gone.letters.items ≡ word_of walk.letters.items b →
      gone.branches.items ≡ some → (next : Walk) (new : Counts) →
      Visits coded b.state gone next counts new →
      letters_left states next.branches.items < letters_left states walk.branches.items
  visits_less walk gone some b counts going are last to rest next new visits = elim visits [
    | inl enters ↦
        gone_less coded is walk gone some b counts going are last to rest next enters.branches
    | inr passes ↦
        passed_less coded is walk gone some b counts going are last to rest next passes.branches
  ]
