-- Places in the automaton of an image: where texts lead, and what stands there.
use Rattle.std.proofs.Common.{◌≡◌, ◌↔◌, ℕ, ◌+◌, ◌<◌, List, [], ◌∷◌, ◌++◌, length, take, get_or, sym, ◌∙◌, ap, subst}
use Rattle.std.specs.Prelude.{All}
use Rattle.std.specs.List.{AllZip}
use Rattle.std.specs.Str.{chars}
use Rattle.std.proofs.lemmas.List.{take_more}
use Rattle.std.proofs.lemmas.Str.{chars-append, IsUtf8-append}
use Rattle.std.specs.Prelude.{IsUtf8}
use Rattle.ux_alphabet.specs.Letters.{Letters}
use Rattle.ux_dawg.specs.declared.state.Form.{Form}
use Rattle.ux_dawg.specs.declared.state.State.{State}
use Rattle.ux_dela.specs.Sound.{IsSound}
use Rattle.ux_dela.specs.declared.entry.Entry.{Entry}
use Rattle.ux_dict.specs.Content.{AreDifferent}
use Rattle.ux_dict.specs.Forms.{IsChosen, IsFitting, MayBegin as EntryMayBegin}
use Rattle.ux_image_lists.specs.Sizes.{forms_of}
use Rattle.ux_image_look_ups.specs.Ways.{FitsText, LeadsBy, MayBegin}
use Rattle.ux_image_lexicon.specs.Told.{content_in, entries_told, CodedForms, IsCoded}
use Rattle.ux_image_lexicon.specs.Places.{IsReachedInImage}
use Rattle.ux_image_lexicon.specs.declared.reached.ImageReached.{ImageReached}
use Rattle.ux_image_lexicon.proofs.FoundLemmas.{fitting_is, found_sound, may_begin_is}

-- a text leads on from a place
pub goes_on : (alphabet : Letters) (content : List Entry) (front text : List ℕ)
    (place next : ImageReached) → IsUtf8 text →
    place.coded.now ≡ next.coded.now →
    LeadsBy place.coded.now.states alphabet (chars front ++ chars text) next.states →
    IsReachedInImage alphabet content front place →
    IsReachedInImage alphabet content (front ++ text) next
goes_on alphabet content front text place next utf8 same leads is = record {
  own = is.own ∙ ap content_in same;
  utf8 = IsUtf8-append front text is.utf8 utf8;
  states = subst (λ (coded : CodedForms). LeadsBy coded.states alphabet (chars (front ++ text))
      next.states) same
      (subst (λ (l : List ℕ). LeadsBy place.coded.now.states alphabet l next.states)
      (sym (chars-append front text is.utf8)) leads);
}

-- lists beside one another, as far as a loop has come
pub zip_more : {X Y : Type 0} (R : X → Y → Type 0) (xs : List X) (i : ℕ) (x : X) (ys : List Y)
    (y : Y) → i < length xs → x ≡ get_or xs i x → AllZip R (take i xs) ys → R x y →
    AllZip R (take (i + 1) xs) (ys ++ y ∷ [])
zip_more {X} {Y} R xs i x ys y less is zip here =
    subst (λ (l : List X). AllZip R l (ys ++ y ∷ []))
    (sym (take_more xs i x less ∙ ap (λ (z : X). take i xs ++ z ∷ []) (sym is)))
    (by (take i xs) ys zip)
  where
    by : (us : List X) (vs : List Y) → AllZip R us vs → AllZip R (us ++ x ∷ []) (vs ++ y ∷ [])
    by [] [] zip = (here, tt)
    by [] (v ∷ vs) zip = absurd zip
    by (u ∷ us) [] zip = absurd zip
    by (u ∷ us) (v ∷ vs) zip = (zip.0, by us vs zip.1)

-- the states of a place, as a look-up is lent those of the automaton
pub states_lent : (alphabet : Letters) (text : List ℕ) (place : ImageReached)
    (states : List State) → states ≡ place.coded.now.states →
    LeadsBy place.coded.now.states alphabet text place.states →
    LeadsBy states alphabet text place.states
states_lent alphabet text place states same are =
    subst (λ (l : List State). LeadsBy l alphabet text place.states) (sym same) are

-- some form of the place's automaton begins so exactly where some entry does
pub may_begin_at : (alphabet : Letters) (content : List Entry) (text : List ℕ)
    (place : ImageReached) → IsCoded place.coded.now →
    IsReachedInImage alphabet content text place →
    MayBegin alphabet (chars text) (forms_of place.coded.now.states)
    ↔ EntryMayBegin alphabet text content
may_begin_at alphabet content text place is leads =
    subst (λ (l : List Entry). MayBegin alphabet (chars text) (forms_of place.coded.now.states)
    ↔ EntryMayBegin alphabet text l) (sym leads.own) (may_begin_is place.coded.now is alphabet text)

-- the entries of forms that fit are those of the content
pub fitting_at : (alphabet : Letters) (content : List Entry) (text : List ℕ) (place : ImageReached) →
    IsCoded place.coded.now → IsReachedInImage alphabet content text place → (some : List Form)
    (found : List Entry) →
    IsChosen (FitsText alphabet (chars text)) (forms_of place.coded.now.states) some →
    AreDifferent (entries_told place.coded.now.lists some) found →
    IsFitting alphabet text content found
fitting_at alphabet content text place is leads some found chosen different =
    subst (λ (l : List Entry). IsFitting alphabet text l found) (sym leads.own)
    (fitting_is place.coded.now is alphabet text some found chosen different)

-- and they are sound
pub sound_at : (alphabet : Letters) (content : List Entry) (text : List ℕ) (place : ImageReached) →
    IsCoded place.coded.now → IsReachedInImage alphabet content text place → (found : List Entry) →
    IsFitting alphabet text content found → All IsSound found
sound_at alphabet content text place is leads found fits =
    found_sound place.coded.now is alphabet text found
    (subst (λ (l : List Entry). IsFitting alphabet text l found) leads.own fits)
