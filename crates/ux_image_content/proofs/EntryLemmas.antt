-- What codes make of forms, one after another: the entries so far, and those of the next.
use Rattle.std.proofs.Common.{◌≡◌, ℕ, ◌+◌, ◌<◌, List, [], ◌∷◌, ◌++◌, refl, sym, ◌∙◌, ap, subst, length, map, take, get_or}
use Rattle.std.specs.Prelude.{flat_map, encode_utf8}
use Rattle.std.specs.Str.{encode_utf8_all}
use Rattle.std.proofs.lemmas.List.{append_assoc, append-nil, map-append, take_more}
use Rattle.std.proofs.lemmas.List.Concat.{flat_map-append}
use Rattle.std.proofs.lemmas.Str.{encodes-append}
use Rattle.ux_dawg.specs.declared.state.Form.{Form}
use Rattle.ux_dela.specs.declared.entry.Entry.{Entry}
use Rattle.ux_image.specs.Codes.{rebuilt_lemma, Rebuilds}
use Rattle.ux_image.specs.declared.code.Code.{Code}
use Rattle.ux_image.specs.declared.code.CodeList.{CodeList}
use Rattle.ux_image_lists.specs.Lists.{ArePrinted}
use Rattle.ux_image_content.specs.Contents.{told_by, AreRebuilt}
use Rattle.ux_image_content.specs.Walking.{Adds}

pub rebuilt_append : (told more : List (List ℕ × Code)) (xs ys : List Entry) → AreRebuilt told xs →
    AreRebuilt more ys → AreRebuilt (told ++ more) (xs ++ ys)
rebuilt_append [] more [] ys h k = k
rebuilt_append [] more (x ∷ xs) ys h k = absurd h
rebuilt_append (t ∷ told) more [] ys h k = absurd h
rebuilt_append (t ∷ told) more (x ∷ xs) ys h k = (h.0, rebuilt_append told more xs ys h.1 k)

-- nothing is added
pub adds_none : (old : List Entry) → Adds [] old old
adds_none old = ([], tt, sym (append-nil old))

-- the entry of one code
pub adds_one : (form : List ℕ) (code : Code) (entry : Entry) (old new : List Entry) →
    Rebuilds form code entry → new ≡ old ++ entry ∷ [] → Adds ((form, code) ∷ []) old new
adds_one form code entry old new makes is = (entry ∷ [], (makes, tt), is)

-- and then more
pub adds_on : (told more : List (List ℕ × Code)) (old mid new : List Entry) → Adds told old mid →
    Adds more mid new → Adds (told ++ more) old new
adds_on told more old mid new h k = (
  h.0 ++ k.0,
  rebuilt_append told more h.0 k.0 h.1 k.1,
  k.2 ∙ ap (λ (l : List Entry). l ++ k.0) h.2 ∙ append_assoc old h.0 k.0,
)

-- what was added to nothing is all
pub adds_all : (told : List (List ℕ × Code)) (old new : List Entry) → old ≡ [] → Adds told old new →
    AreRebuilt told new
adds_all told old new none h =
    subst (AreRebuilt told) (sym (h.2 ∙ ap (λ (l : List Entry). l ++ h.0) none)) h.1

-- printed codes make an entry of any form
pub printed_makes : (form : List ℕ) (code : Code) → ArePrinted code.codes →
    (entry : Entry) × Rebuilds form code entry
printed_makes form code (codes, printed) = (
  record {
    form = form;
    lemma = rebuilt_lemma code.pairs form;
    gram = codes.gram;
    sem = codes.sem;
    infl = codes.infl;
  },
  record { is_form = refl; is_lemma = refl; are_codes = printed },
)

-- one more of a list
pub front_more : {A : Type 0} (xs : List A) (i : ℕ) (x : A) → i < length xs →
    x ≡ get_or xs i x → take (i + 1) xs ≡ take i xs ++ x ∷ []
front_more {A} xs i x less is =
    take_more xs i x less ∙ ap (λ (y : A). take i xs ++ y ∷ []) (sym is)

-- with one more code of the form
pub adds_code : (form : List ℕ) (codes : List Code) (i : ℕ) (code : Code)
    (old mid new : List Entry) → i < length codes → code ≡ get_or codes i code →
    Adds (map (λ code. (form, code)) (take i codes)) old mid → Adds ((form, code) ∷ []) mid new →
    Adds (map (λ code. (form, code)) (take (i + 1) codes)) old new
adds_code form codes i code old mid new less is so_far more =
    let tells : Code → List ℕ × Code = λ code. (form, code) in
    subst (λ (l : List (List ℕ × Code)). Adds l old new)
    (sym (ap (map tells) (front_more codes i code less is)
    ∙ map-append tells (take i codes) (code ∷ [])))
    (adds_on (map tells (take i codes)) ((form, code) ∷ []) old mid new so_far more)

-- with the codes of one more form
pub adds_form : (lists : List CodeList) (forms : List Form) (i : ℕ) (form : Form)
    (old mid new : List Entry) → i < length forms → form ≡ get_or forms i form →
    Adds (flat_map (told_by lists) (take i forms)) old mid → Adds (told_by lists form) mid new →
    Adds (flat_map (told_by lists) (take (i + 1) forms)) old new
adds_form lists forms i form old mid new less is so_far more =
    let done = flat_map (told_by lists) (take i forms) in
    subst (λ (l : List (List ℕ × Code)). Adds l old new)
    (sym (ap (flat_map (told_by lists)) (front_more forms i form less is)
    ∙ flat_map-append (told_by lists) (take i forms) (form ∷ [])
    ∙ ap (λ (l : List (List ℕ × Code)). done ++ l) (append-nil (told_by lists form))))
    (adds_on done (told_by lists form) old mid new so_far more)

-- with one more letter
pub text_more : (letters : List ℕ) (i c : ℕ) (old new : List ℕ) → i < length letters →
    c ≡ get_or letters i c → old ≡ encode_utf8_all (take i letters) → new ≡ old ++ encode_utf8 c →
    new ≡ encode_utf8_all (take (i + 1) letters)
text_more letters i c old new less is so_far more =
    let here = encode_utf8 c in
    more
    ∙ ap (λ (t : List ℕ). t ++ here) so_far
    ∙ ap (λ (t : List ℕ). encode_utf8_all (take i letters) ++ t) (sym (append-nil here))
    ∙ sym (encodes-append (take i letters) (c ∷ []))
    ∙ ap encode_utf8_all (sym (front_more letters i c less is))
