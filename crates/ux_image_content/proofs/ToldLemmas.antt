-- What the layout of an image says of its forms and codes: each code makes a sound entry of its
-- form, whose lemma is no longer than the file.
use Rattle.std.proofs.Common.{arith, ◌≡◌, ℕ, ◌+◌, ◌*◌, ◌^◌, ◌<◌, ◌≤◌, List, [], ◌∷◌, refl, sym, ap, subst, length, length-append, drop, min, get_or}
use Rattle.std.specs.Prelude.{All, Option, None, Some, flat_map, slice_get, sum_by}
use Rattle.std.specs.Str.{IsUtf8, encode_utf8_all}
use Rattle.std.proofs.lemmas.List.{length-drop}
use Rattle.std.proofs.lemmas.List.Elements.{All-append, All-contains, All-cons, All-head, All-map, All-nil, All-tail, All-weaker, Contains-get_or}
use Rattle.std.proofs.lemmas.List.Sums.{get_or-le-sum_by}
use Rattle.std.proofs.lemmas.Option.{get_or_from_slice_get, slice_get_within}
use Rattle.ux_dawg.specs.declared.state.Form.{Form}
use Rattle.ux_dawg.specs.declared.state.State.{State}
use Rattle.ux_dela.specs.Sound.{IsSound, IsSoundText}
use Rattle.ux_dela.specs.declared.entry.Entry.{Entry}
use Rattle.ux_dict.specs.Content.{AreDifferent}
use Rattle.ux_image.specs.Codes.{rebuilt_lemma}
use Rattle.ux_image.specs.declared.code.Code.{Code}
use Rattle.ux_image.specs.declared.code.CodeList.{CodeList}
use Rattle.ux_image_reader.specs.Layout.{written, written_all}
use Rattle.ux_image_lists.specs.Images.{IsLayoutOf}
use Rattle.ux_image_lists.specs.Sizes.{forms_of, letters_told, MOST}
use Rattle.ux_image_lists.specs.declared.image.Image.{Image}
use Rattle.ux_image_lists.proofs.ImageLaws.{front_within}
use Rattle.ux_image_content.specs.Contents.{codes_of, told_by, told_in, AreRebuilt}
use Rattle.ux_image_content.specs.Files.{in_forms, in_lemma, HasTooMany, IsImageFile, MOST_LETTERS}
use Rattle.ux_image_content.specs.Walking.{added_by, AreCodes, AreLists, IsGood}
use Rattle.ux_image_content.proofs.FormLemmas.{forms_words, IsWord}
use Rattle.ux_image_content.proofs.LemmaLemmas.{lemma_short, rebuilt_sound}
use Rattle.ux_image_content.proofs.ReadLemmas.{added_in, lists_take}

-- all of what lists give
pub all_flat : {X Y : Type 0} (P : Y → Type 0) (f : X → List Y) (xs : List X) →
    All (λ x. All P (f x)) xs → All P (flat_map f xs)
all_flat {X} {Y} P f [] all = All-nil P
all_flat {X} {Y} P f (x ∷ xs) all =
    let Each : X → Type 0 = λ x. All P (f x) in
    All-append P (f x) (flat_map f xs) (All-head Each x xs all)
    (all_flat P f xs (All-tail Each x xs all))

-- a code that is good, and adds no more than so many bytes
record IsGoodWithin (room : ℕ) (code : Code) : Type 0 where
  good : IsGood code
  adds : added_by code.pairs ≤ room

codes_good : (lists : List CodeList) → AreLists lists → (number : ℕ) →
    All (IsGoodWithin (sum_by added_in lists)) (codes_of (slice_get lists number))
codes_good lists are number = by (slice_get lists number) refl
  where
    by : (found : Option CodeList) → slice_get lists number ≡ found →
        All (IsGoodWithin (sum_by added_in lists)) (codes_of found)
    by None at = All-nil (IsGoodWithin (sum_by added_in lists))
    by (Some list) at =
        let within = slice_get_within lists number list at in
        let is = get_or_from_slice_get lists number list list at in
        let all = subst (λ (l : CodeList). All IsGood l.codes) is (are number list within) in
        let part = get_or-le-sum_by added_in lists number list within in
        let same = ap added_in is in
        λ k d less.
        let one = get_or-le-sum_by (λ (c : Code). added_by c.pairs) list.codes k d less in
        record { good = all k d less; adds = omega (arith, part, same, one) }

pub found_codes : (lists : List CodeList) → AreLists lists → (number : ℕ) →
    AreCodes (codes_of (slice_get lists number))
found_codes lists are number =
    All-weaker (IsGoodWithin (sum_by added_in lists)) IsGood (λ code within. within.good)
    (codes_of (slice_get lists number)) (codes_good lists are number)

-- each state takes two numbers at least
states_written : (states : List State) → 2 * length states ≤ length (written_all states)
states_written [] = omega arith
states_written (s ∷ states) =
    let more = states_written states in
    let parts = length-append (written s) (written_all states) in
    omega (arith, more, parts)

-- what is told: a sound form, and a code that makes a lemma no longer than the file
pub record IsTold (bytes form : List ℕ) (code : Code) : Type 0 where
  pub utf8 : IsUtf8 form
  pub sound : IsSoundText form
  pub good : IsGood code
  pub short : length (rebuilt_lemma code.pairs form) ≤ length bytes

module _ (bytes : List ℕ) (image : Image) (is : IsLayoutOf bytes image) where
  lists : List CodeList
  lists = image.lists.keys

  -- the lists of a layout are good
  taken : AreLists image.lists.keys
      × (sum_by added_in image.lists.keys + 0 ≤ length (drop is.front.end bytes))
  taken =
      lists_take is.front.version is.lists.shortest (drop is.front.end bytes) image.lists.keys []
      is.lists.begins.0.1

  pub lists_good : AreLists image.lists.keys
  lists_good = taken.0

  words : All (IsWord image.states) (forms_of image.states)
  words =
      subst (λ (s : List State). All (IsWord s) (forms_of s)) (sym is.states)
      (forms_words is.front.lists is.front.states is.is_front.accepted)

  room : sum_by added_in image.lists.keys + (16 + 8 * length image.states) ≤ length bytes
  room =
      let fits = taken.1 in
      let behind = length-drop is.front.end bytes in
      let within = front_within bytes is.front is.is_front in
      let place = is.is_front.place in
      let states = states_written is.front.states in
      let same = ap (length {A = State}) is.states in
      omega (arith, fits, behind, within, place, states, same)

  told : (form : Form) → IsWord image.states form →
      All (λ t. IsTold bytes t.0 t.1) (told_by image.lists.keys form)
  told form word =
      let text = encode_utf8_all form.letters in
      let codes = codes_of (slice_get image.lists.keys form.code) in
      All-map (λ t. IsTold bytes t.0 t.1) (λ code. (text, code)) codes (λ k d less.
      let code = codes_good image.lists.keys taken.0 form.code k d less in
      let made = lemma_short (get_or codes k d).pairs text word.utf8 in
      let short = word.short in
      let adds = code.adds in
      record {
        utf8 = word.utf8;
        sound = word.sound;
        good = code.good;
        short = let whole = room in omega (arith, made, short, adds, whole);
      })

  pub all_told : All (λ t. IsTold bytes t.0 t.1) (told_in image)
  all_told =
      all_flat (λ t. IsTold bytes t.0 t.1) (told_by image.lists.keys) (forms_of image.states)
      (λ k d less. told (get_or (forms_of image.states) k d) (words k d less))

  -- so a file that is short enough has no lemma that is too long
  pub few_from : length bytes < 2 ^ 32 →
      (MOST_LETTERS < letters_told image.lists.keys (forms_of image.states) → ⊥) →
      HasTooMany image → ⊥
  few_from short few (in_forms more) = few more
  few_from short few (in_lemma form code has long) =
      let made = (All-contains (λ t. IsTold bytes t.0 t.1) (told_in image) (form, code) all_told
      has).short in
      omega (arith, short, made, long)

  -- and is an image where the letters that were counted are few
  pub image_is : length bytes < 2 ^ 32 → (letters : ℕ) →
      letters ≡ min (letters_told image.lists.keys (forms_of image.states)) MOST →
      letters ≤ MOST_LETTERS → IsImageFile bytes image
  image_is short letters counted low = record {
    layout = is;
    few = few_from short (λ more. omega (arith, counted, low, more));
  }

-- what is made is sound
made_sound : (bytes : List ℕ) (tells : List (List ℕ × Code)) (made : List Entry) →
    All (λ t. IsTold bytes t.0 t.1) tells → AreRebuilt tells made → All IsSound made
made_sound bytes [] [] all are = All-nil IsSound
made_sound bytes [] (e ∷ made) all are = absurd are
made_sound bytes (t ∷ tells) [] all are = absurd are
made_sound bytes (t ∷ tells) (e ∷ made) all are =
    let Told : List ℕ × Code → Type 0 = λ t. IsTold bytes t.0 t.1 in
    let here = All-head Told t tells all in
    All-cons IsSound e made (rebuilt_sound t.0 t.1 e are.0 here.utf8 here.sound here.good)
    (made_sound bytes tells made (All-tail Told t tells all) are.1)

pub content_sound : (bytes : List ℕ) (image : Image) (made content : List Entry) →
    IsLayoutOf bytes image → AreRebuilt (told_in image) made → AreDifferent made content →
    All IsSound content
content_sound bytes image made content is are different =
    let sound = made_sound bytes (told_in image) made (all_told bytes image is) are in
    λ k d less.
    All-contains IsSound made (get_or content k d) sound
    ((different.members (get_or content k d)).0 (Contains-get_or content k d less))
