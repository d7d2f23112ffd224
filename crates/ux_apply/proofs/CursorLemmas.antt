-- Cursors, one dictionary at a time.
use Rattle.std.proofs.Common.{◌≡◌, ℕ, ◌+◌, ◌<◌, ◌≤◌, List, [], ◌∷◌, ◌++◌, length, take, get_or, sym, subst}
use Rattle.std.specs.List.{AllZip}
use Rattle.std.proofs.lemmas.List.{take_all}
use Rattle.std.proofs.lemmas.List.Elements.{All-nil, All-push}
use Rattle.ux_alphabet.specs.Letters.{Letters}
use Rattle.ux_dela.specs.declared.entry.Entry.{Entry}
use Rattle.ux_dict.specs.Forms.{MayBegin}
use Rattle.ux_lexicon.specs.Reached.{IsReachedBy}
use Rattle.ux_apply.specs.declared.cursors.Cursor.{Cursor}
use Rattle.ux_apply.specs.declared.priority.Priority.{Priority}
use Rattle.ux_apply.specs.Applying.{contents}
use Rattle.ux_apply.specs.Cursors.{IsCursor}
use Rattle.ux_apply.specs.Kept.{NoneBegins}
use Rattle.ux_apply.proofs.FoundLemmas.{contents-more}
use Rattle.ux_apply.proofs.ZipLemmas.{zip-push, zip-taken, zip-none}

-- the cursor of one dictionary more
pub begun-more : {L : Type 0} (content : L → List Entry) (dics : List (Priority × L)) (i : ℕ)
    (dic : Priority × L) → i < length dics → dic ≡ get_or dics i dic → (alphabet : Letters)
    (old new : List Cursor) (cursor : Cursor) →
    AllZip (IsCursor alphabet []) (contents content (take i dics)) old →
    cursor.priority ≡ dic.0 → IsReachedBy alphabet (content dic.1) [] cursor.reached →
    new ≡ old ++ cursor ∷ [] →
    AllZip (IsCursor alphabet []) (contents content (take (i + 1) dics)) new
begun-more content dics i dic lt at alphabet old new cursor before same leads is =
    let R = IsCursor alphabet [] in
    let pair : Priority × List Entry = (dic.0, content dic.1) in
    let pushed = zip-push R (contents content (take i dics)) old pair cursor before
    (record { priority = same; leads = leads }) in
    subst (λ (l : List (Priority × List Entry)). AllZip R l new)
    (sym (contents-more content dics i dic lt at))
    (subst (λ (l : List Cursor). AllZip R (contents content (take i dics) ++ pair ∷ []) l) (sym is)
    pushed)

module _ (alphabet : Letters) (cursors : List Cursor) where
  -- each text leads to no cursor where there is no dictionary
  pub gone-none : (text more : List ℕ) (dics : List (Priority × List Entry)) (next : List Cursor) →
      next ≡ [] → AllZip (IsCursor alphabet text) dics [] → AllZip (IsCursor alphabet more) dics next
  gone-none text more dics next is led =
      let none = zip-none (IsCursor alphabet text) dics led in
      subst (λ (l : List (Priority × List Entry)). AllZip (IsCursor alphabet more) l next) (sym none)
      (subst (λ (l : List Cursor). AllZip (IsCursor alphabet more) [] l) (sym is) tt)

  pub begins-none : (text : List ℕ) (dics : List (Priority × List Entry)) →
      AllZip (IsCursor alphabet text) dics [] → NoneBegins alphabet dics text
  begins-none text dics led =
      subst (λ (l : List (Priority × List Entry)). NoneBegins alphabet l text)
      (sym (zip-none (IsCursor alphabet text) dics led))
      (All-nil (λ (d : Priority × List Entry). MayBegin alphabet text d.1 → ⊥))

  module _ (i : ℕ) (cursor : Cursor) (lt : i < length cursors) (at : cursor ≡ get_or cursors i cursor)
      (text : List ℕ) where
    -- one cursor more goes on
    pub gone-more : (more : List ℕ) (old new : List Cursor) (next : Cursor) →
        ((dics : List (Priority × List Entry)) →
        AllZip (IsCursor alphabet text) dics (take i cursors) →
        AllZip (IsCursor alphabet more) dics old) →
        next.priority ≡ cursor.priority →
        ((content : List Entry) → IsReachedBy alphabet content text cursor.reached →
        IsReachedBy alphabet content more next.reached) → new ≡ old ++ next ∷ [] →
        (dics : List (Priority × List Entry)) →
        AllZip (IsCursor alphabet text) dics (take (i + 1) cursors) →
        AllZip (IsCursor alphabet more) dics new
    gone-more more old new next before same goes is dics led =
        let R = IsCursor alphabet more in
        let t = zip-taken (IsCursor alphabet text) dics cursors i cursor lt at led in
        let here = t.4 in
        let pushed = zip-push R t.0 old t.1 next (before t.0 t.3)
        (record {
          priority = subst (λ (p : Priority). next.priority ≡ p) here.priority same;
          leads = goes t.1.1 here.leads;
        }) in
        subst (λ (l : List (Priority × List Entry)). AllZip R l new) (sym t.2)
        (subst (λ (l : List Cursor). AllZip R (t.0 ++ t.1 ∷ []) l) (sym is) pushed)

    -- no form of one dictionary more begins so
    pub begins-more :
        ((dics : List (Priority × List Entry)) →
        AllZip (IsCursor alphabet text) dics (take i cursors) → NoneBegins alphabet dics text) →
        ((content : List Entry) → IsReachedBy alphabet content text cursor.reached →
        MayBegin alphabet text content → ⊥) →
        (dics : List (Priority × List Entry)) →
        AllZip (IsCursor alphabet text) dics (take (i + 1) cursors) → NoneBegins alphabet dics text
    begins-more before none dics led =
        let t = zip-taken (IsCursor alphabet text) dics cursors i cursor lt at led in
        let here = t.4 in
        subst (λ (l : List (Priority × List Entry)). NoneBegins alphabet l text) (sym t.2)
        (All-push (λ (d : Priority × List Entry). MayBegin alphabet text d.1 → ⊥) t.0 t.1
        (before t.0 t.3) (none t.1.1 here.leads))

  -- what is known of all of them
  pub taken-all : (i : ℕ) (text : List ℕ) (dics : List (Priority × List Entry)) →
      length cursors ≤ i → AllZip (IsCursor alphabet text) dics cursors →
      AllZip (IsCursor alphabet text) dics (take i cursors)
  taken-all i text dics past led =
      subst (λ (l : List Cursor). AllZip (IsCursor alphabet text) dics l)
      (sym (take_all i cursors past)) led
