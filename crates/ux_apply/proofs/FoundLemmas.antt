-- The entries that dictionaries of one priority have for a text, one dictionary at a time.
use Rattle.std.proofs.Common.{◌≡◌, ◌≢◌, ℕ, ◌+◌, ◌<◌, ◌≤◌, length, take, get_or, map, Bool, true, false, cond, List, [], ◌∷◌, ◌++◌, append_assoc, append-nil, sym, ◌∙◌, ap, subst}
use Rattle.std.specs.Prelude.{◌==◌}
use Rattle.std.proofs.lemmas.Bool.{false≢true}
use Rattle.std.proofs.lemmas.Bool.Decides.{Decides-eqb}
use Rattle.std.proofs.lemmas.List.{map_more, nil_from_length, take_all}
use Rattle.ux_alphabet.specs.Letters.{Letters}
use Rattle.ux_dela.specs.declared.entry.Entry.{Entry}
use Rattle.ux_dict.specs.Forms.{IsFitting, FitsForm}
use Rattle.ux_apply.specs.declared.priority.Priority.{Priority}
use Rattle.ux_apply.specs.Applying.{contents, content_at, is_same}
use Rattle.ux_apply.specs.Kept.{AreAdded}
use Rattle.ux_apply.proofs.NothingLemmas.{chosen-append}

module _ (priority : Priority) (dic : Priority × List Entry) where
  -- the entries of one dictionary more
  content_at-push : (dics : List (Priority × List Entry)) →
      content_at priority (dics ++ dic ∷ [])
      ≡ content_at priority dics ++ cond (is_same dic.0 priority) dic.1 []
  content_at-push [] = append-nil (cond (is_same dic.0 priority) dic.1 [])
  content_at-push (d ∷ dics) =
      let own = cond (is_same d.0 priority) d.1 [] in
      ap (λ (l : List Entry). own ++ l) (content_at-push dics)
      ∙ sym (append_assoc own (content_at priority dics)
      (cond (is_same dic.0 priority) dic.1 []))

  module _ (alphabet : Letters) (dics : List (Priority × List Entry)) (text : List ℕ)
      (old : List Entry) (before : IsFitting alphabet text (content_at priority dics) old) where
    -- a dictionary of the priority has its entries added
    pub fitting-more : (all_new : List Entry) → is_same dic.0 priority ≡ true →
        AreAdded alphabet text dic.1 old all_new →
        IsFitting alphabet text (content_at priority (dics ++ dic ∷ [])) all_new
    fitting-more all_new same added =
        let content : content_at priority (dics ++ dic ∷ []) ≡ content_at priority dics ++ dic.1 =
        content_at-push dics
        ∙ ap (λ (b : Bool). content_at priority dics ++ cond b dic.1 []) same in
        subst
        (λ (l : List Entry). IsFitting alphabet text (content_at priority (dics ++ dic ∷ [])) l)
        (sym added.added)
        (subst (λ (l : List Entry). IsFitting alphabet text l (old ++ added.more)) (sym content)
        (chosen-append (λ (e : Entry). FitsForm alphabet e.form text) before added.fit))

    -- and another one is passed over
    pub fitting-skip : is_same dic.0 priority ≡ false →
        IsFitting alphabet text (content_at priority (dics ++ dic ∷ [])) old
    fitting-skip other =
        let content : content_at priority (dics ++ dic ∷ []) ≡ content_at priority dics =
        content_at-push dics
        ∙ (ap (λ (b : Bool). content_at priority dics ++ cond b dic.1 []) other
        ∙ append-nil (content_at priority dics)) in
        subst (λ (l : List Entry). IsFitting alphabet text l old) (sym content) before

-- the contents of one dictionary more
module _ {L : Type 0} (content : L → List Entry) (dics : List (Priority × L)) (i : ℕ)
    (dic : Priority × L) (lt : i < length dics) (at : dic ≡ get_or dics i dic) where
  pub contents-more : contents content (take (i + 1) dics)
      ≡ contents content (take i dics) ++ (dic.0, content dic.1) ∷ []
  contents-more =
      let pair : Priority × L → Priority × List Entry = λ d. (d.0, content d.1) in
      map_more pair dics i dic lt
      ∙ ap (λ (d : Priority × L). map pair (take i dics) ++ pair d ∷ []) (sym at)

-- the contents of all of them
pub contents-all : {L : Type 0} (content : L → List Entry) (dics : List (Priority × L)) (i : ℕ) →
    length dics ≤ i → contents content (take i dics) ≡ contents content dics
contents-all content dics i past = ap (contents content) (take_all i dics past)

-- whether a list is empty, by its length
pub some-entries : {X : Type 0} (xs : List X) (n : ℕ) → n ≡ length xs → false ≡ (n == 0) →
    xs ≢ []
some-entries xs n long isnt nil =
    let none : n ≡ 0 = long ∙ ap length nil in
    false≢true (subst (λ (k : ℕ). false ≡ (k == 0)) none isnt)

pub no-entries : {X : Type 0} (xs : List X) (n : ℕ) → n ≡ length xs → true ≡ (n == 0) → xs ≡ []
no-entries xs n long is =
    let none : n ≡ 0 = (Decides-eqb n 0).0 (sym is) in
    nil_from_length xs (sym long ∙ none)
