-- In version 1 no code takes all of a form without adding something, so that the lemma that is made
-- is never empty, and no form stands in its place.
use Rattle.std.proofs.Common.{arith, ◌≡◌, ℕ, zero, suc, ◌+◌, ◌-◌, ◌<◌, ◌≤◌, List, [], ◌∷◌, ◌++◌, inl, inr, refl, sym, ◌∙◌, ap, subst, length, length-append, drop, take, get_or}
use Rattle.std.specs.Prelude.{All, Option, None, Some, slice_get}
use Rattle.std.specs.Str.{IsUtf8, chars, encode_utf8_all}
use Rattle.std.proofs.lemmas.Bool.{cases_lt}
use Rattle.std.proofs.lemmas.List.{append-nil, append_assoc, length-take}
use Rattle.std.proofs.lemmas.List.Elements.{All-map, All-nil}
use Rattle.std.proofs.lemmas.Option.{none-some, same_Some, slice_get-get_or, slice_get_within}
use Rattle.std.proofs.lemmas.Str.{chars_from_encodes, length-le-encodes}
use Rattle.ux_dawg.specs.Paths.{Accepts}
use Rattle.ux_dawg.specs.declared.state.Form.{Form}
use Rattle.ux_dawg.specs.declared.state.State.{State}
use Rattle.ux_image.specs.Codes.{changed, front_chars, made_of}
use Rattle.ux_image.specs.declared.code.Code.{Code}
use Rattle.ux_image.specs.declared.code.CodeList.{CodeList}
use Rattle.ux_image.specs.declared.code.Pair.{Pair}
use Rattle.ux_image_reader.specs.declared.front.Version.TheVariants.{One}
use Rattle.ux_image_reader.proofs.FrontLemmas.{states_fit}
use Rattle.ux_image_lists.specs.Fields.{BeginAll, Field}
use Rattle.ux_image_lists.specs.Images.{IsLayoutOf}
use Rattle.ux_image_lists.specs.Lists.{code, codes_in, list, next_code, next_list, pairs_by, rules_at}
use Rattle.ux_image_lists.specs.Sizes.{forms_of}
use Rattle.ux_image_lists.specs.declared.codes.Rules.{Rules}
use Rattle.ux_image_lists.specs.declared.image.Image.{Image}
use Rattle.ux_image_content.specs.Contents.{codes_of, told_by, told_in}
use Rattle.ux_image_content.proofs.FormLemmas.{forms_words, IsWord}
use Rattle.ux_image_content.proofs.PathLemmas.{forms_accepted}
use Rattle.ux_image_content.proofs.ToldLemmas.{all_flat}

-- CODES

-- the value of each place was read behind those before it
read_at : {V : Type 0} (field : List V → Field V) (before : List V) (bytes : List ℕ)
    (values : List V) (rest : List ℕ) → BeginAll field before bytes values rest → (i : ℕ) (v : V) →
    slice_get values i ≡ Some v →
    (here : List ℕ) × (behind : List ℕ) × (field (before ++ take i values)).Begins here v behind
read_at {V} field before bytes [] rest h i v at = absurd (none-some v at)
read_at {V} field before bytes (x ∷ values) rest h zero v at = (
  bytes,
  h.0,
  subst (λ (l : List V). (field l).Begins bytes v h.0) (sym (append-nil before))
      (subst (λ (w : V). (field before).Begins bytes w h.0) (same_Some x v at) h.1),
)
read_at {V} field before bytes (x ∷ values) rest h (suc i) v at =
    let more = read_at field (before ++ x ∷ []) h.0 values rest h.2 i v at in (
      more.0,
      more.1,
      subst (λ (l : List V). (field l).Begins more.0 v more.1)
          (append_assoc before (x ∷ []) (take i values)) more.2,
    )

-- the code has one pair, which leaves or adds something to a form of so many characters at least
record LeavesSome (shortest : ℕ) (code : Code) : Type 0 where
  only : Pair
  pairs : code.pairs ≡ only ∷ []
  few : only.taken ≤ shortest
  adds : only.taken ≡ shortest → 0 < length only.added

pair_leaves : (rules : Rules) → rules.version ≡ One → (n : ℕ) (bytes : List ℕ) (all : List Pair)
    (rest : List ℕ) → (pairs_by One rules n).Begins bytes all rest → (c : Code) → c.pairs ≡ all →
    LeavesSome rules.shortest c
pair_leaves rules one n bytes all rest h c is =
    let p = h.2 in
    let m = p.3 in
    let t = m.3 in
    let taken = ap (λ (p : Pair). p.taken) t.3.0 in
    let added = ap (λ (p : Pair). length p.added) t.3.0 in
    let long = t.2.0.0 in
    record {
      only = h.0;
      pairs = is ∙ h.3.0;
      few = let low = p.2.1 one in omega (arith, taken, low);
      adds = λ same. let some = m.2.1 one (sym taken ∙ same) in omega (arith, added, long, some);
    }

code_leaves : (rules : Rules) → rules.version ≡ One → (n : ℕ) (bytes : List ℕ) (c : Code)
    (rest : List ℕ) → (code rules n).Begins bytes c rest → LeavesSome rules.shortest c
code_leaves rules one n bytes c rest h =
    let pairs = subst (λ v. (pairs_by v rules n).Begins bytes h.0 h.1) one h.2 in
    pair_leaves rules one n bytes h.0 h.1 pairs c (ap (λ (d : Code). d.pairs) h.3.3.0)

list_leaves : (rules : Rules) → rules.version ≡ One → (first : ℕ) (bytes : List ℕ) (l : CodeList)
    (rest : List ℕ) → (list rules first).Begins bytes l rest →
    All (LeavesSome rules.shortest) l.codes
list_leaves rules one first bytes l rest h =
    let k = h.3 in
    subst (All (LeavesSome rules.shortest)) (sym (ap (λ (m : CodeList). m.codes) k.3.0))
    (λ i d less.
    let c = get_or k.0 i d in
    let read = read_at (next_code rules first) [] h.1 k.0 k.1 k.2.1 i c
    (slice_get-get_or k.0 i d less) in
    code_leaves rules one (first + length ([] ++ take i k.0)) read.0 c read.1 read.2.0)

-- LEMMAS

-- so something is made of a form with as many characters
made_some : (shortest : ℕ) (letters : List ℕ) (c : Code) → IsUtf8 (encode_utf8_all letters) →
    shortest ≤ length letters → LeavesSome shortest c →
    made_of c.pairs (encode_utf8_all letters) ≡ [] → ⊥
made_some shortest letters c utf8 long leaves none =
    let form = encode_utf8_all letters in
    let p = leaves.only in
    let made : changed p form ≡ [] =
    sym (ap (λ (l : List Pair). made_of l form) leaves.pairs) ∙ none in
    let are : letters ≡ chars form = chars_from_encodes letters form utf8 refl in
    let n = length (chars form) - p.taken in
    let few = leaves.few in
    let characters = ap (length {A = ℕ}) are in
    let parts = length-append (front_chars n form) p.added in
    let empty = ap (length {A = ℕ}) made in
    elim (cases_lt p.taken shortest) [
      | inl less ↦
          let front = length-le-encodes (take n (chars form)) in
          let taken = length-take n (chars form) in
          omega (arith, less, long, characters, parts, empty, front, taken)
      | inr all ↦
          let adds = leaves.adds (omega (arith, few, all)) in
          omega (arith, adds, parts, empty)
    ]

module _ (bytes : List ℕ) (image : Image) (is : IsLayoutOf bytes image)
    (one : is.front.version ≡ One) where
  some_made : (form : Form) → IsWord image.states form →
      Accepts image.states form.letters form.code →
      All (λ t. made_of t.1.pairs t.0 ≡ [] → ⊥) (told_by image.lists.keys form)
  some_made form word accepted =
      let text = encode_utf8_all form.letters in
      All-map (λ t. made_of t.1.pairs t.0 ≡ [] → ⊥) (λ code. (text, code))
      (codes_of (slice_get image.lists.keys form.code))
      (by (slice_get image.lists.keys form.code) refl)
    where
      by : (found : Option CodeList) → slice_get image.lists.keys form.code ≡ found →
          All (λ (c : Code). made_of c.pairs (encode_utf8_all form.letters) ≡ [] → ⊥)
          (codes_of found)
      by None at =
          All-nil (λ (c : Code). made_of c.pairs (encode_utf8_all form.letters) ≡ [] → ⊥)
      by (Some l) at =
          let keys = image.lists.keys in
          let shortest = is.lists.shortest in
          let are = is.lists.are_shortest in
          let number = form.code in
          let within = slice_get_within keys number l at in
          let read = read_at (next_list is.front.version shortest) [] (drop is.front.end bytes) keys
          [] is.lists.begins.0.1 number l at in
          let place : length ([] ++ take number keys) ≡ number =
          (let long = length-take number keys in omega (arith, long, within)) in
          let all = list_leaves (rules_at is.front.version shortest (length (take number keys))) one
          (codes_in (take number keys)) read.0 l read.1 read.2.0 in
          let long = is.lists.begins.0.0 in
          let many = are.many in
          let least = (are.each number (omega (arith, within, long, many))).least form.letters
          (subst (λ (s : List State). Accepts s form.letters form.code) is.states accepted) in
          λ k d less.
          let leaves = subst (λ n. LeavesSome (get_or shortest n 0) (get_or l.codes k d)) place
          (all k d less) in
          made_some (get_or shortest number 0) form.letters (get_or l.codes k d) word.utf8 least
          leaves

  -- what a code of version 1 makes isn't empty
  pub made_not_empty : All (λ t. made_of t.1.pairs t.0 ≡ [] → ⊥) (told_in image)
  made_not_empty =
      let accepts = forms_accepted is.front.states
      (states_fit (length is.front.states) is.front.lists is.front.states
      is.is_front.accepted.passed) is.is_front.accepted.some in
      let words = forms_words is.front.lists is.front.states is.is_front.accepted in
      let all_accepted = subst (λ (s : List State).
      All (λ (f : Form). Accepts s f.letters f.code) (forms_of s)) (sym is.states) accepts in
      let all_words = subst (λ (s : List State). All (IsWord s) (forms_of s)) (sym is.states) words
      in
      all_flat (λ t. made_of t.1.pairs t.0 ≡ [] → ⊥) (told_by image.lists.keys)
      (forms_of image.states) (λ k d less.
      some_made (get_or (forms_of image.states) k d) (all_words k d less) (all_accepted k d less))
