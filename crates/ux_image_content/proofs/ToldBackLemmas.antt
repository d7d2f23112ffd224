-- The forms that a content's image has tell what its groups do: the same letters in the same order,
-- the same codes, and as many letters together as the entries.
use Rattle.std.proofs.Common.{arith, ◌≡◌, ℕ, ◌*◌, ◌<◌, List, [], ◌∷◌, ◌++◌, inl, inr, true, refl, sym, ◌∙◌, ap, subst, length, map}
use Rattle.std.specs.Prelude.{All, Contains, Option, None, Some, encode_utf8, flat_map, slice_get, sum_by}
use Rattle.std.specs.Cmp.Lexicographic.{slice_cmp}
use Rattle.std.specs.Ordering.{nat_cmp}
use Rattle.std.specs.declared.cmp.Ordering.TheVariants.{Less}
use Rattle.std.specs.Str.{all_scalars, chars, encode_utf8_all}
use Rattle.std.proofs.lemmas.Bool.{and_parts, cases_lt, false≢true}
use Rattle.std.proofs.lemmas.List.{nil_from_length}
use Rattle.std.proofs.lemmas.List.Elements.{All-cons, All-head, All-nil, All-tail}
use Rattle.std.proofs.lemmas.List.Sums.{sum_by-append, sum_by-cons}
use Rattle.std.proofs.lemmas.Str.{encode_ascii, encodes-chars, scalars-chars}
use Rattle.ux_base.proofs.FirstsLemmas.{Contains-after, Contains-cases, Contains-first, Contains-none}
use Rattle.ux_dawg.specs.Forms.{AreSorted}
use Rattle.ux_dawg.specs.declared.state.Form.{Form}
use Rattle.ux_dela.specs.Signs.{LINE_FEED}
use Rattle.ux_dela.specs.Sound.{HasNoFeed, IsSoundText}
use Rattle.ux_dela.specs.declared.entry.Entry.{Entry}
use Rattle.ux_dela.proofs.SoundLemmas.{no_feed-front, no_feed-rest}
use Rattle.ux_image.specs.declared.code.Code.{Code}
use Rattle.ux_image.specs.declared.code.CodeList.{CodeList}
use Rattle.ux_image_reader.specs.Tests.{IsLetter}
use Rattle.ux_image_lists.specs.Sizes.{codes_at, count_of, letters_told}
use Rattle.ux_image_content.specs.Contents.{codes_of, told_by, AreRebuilt}
use Rattle.ux_image_content.proofs.GroupBackLemmas.{tells, AreAfter, IsGroup}

-- LETTERS

letters_of_text : (cs : List ℕ) → all_scalars cs ≡ true → HasNoFeed (encode_utf8_all cs) →
    All IsLetter cs
letters_of_text [] all none = All-nil IsLetter
letters_of_text (c ∷ cs) all none =
    let parts = and_parts _ (all_scalars cs) all in
    All-cons IsLetter c cs (
      parts.0,
      λ feed. is_feed_not c feed
          (no_feed-front (encode_utf8 c) (encode_utf8_all cs) none),
    )
    (letters_of_text cs parts.1 (no_feed-rest (encode_utf8 c) (encode_utf8_all cs) none))
  where
    is_feed_not : (c : ℕ) → c ≡ LINE_FEED → HasNoFeed (encode_utf8 c) → ⊥
    is_feed_not c feed none =
        let alone = encode_ascii c (omega (arith, feed)) in
        let other : HasNoFeed (LINE_FEED ∷ []) =
        subst (λ n. HasNoFeed (n ∷ [])) feed (subst HasNoFeed alone none) in
        false≢true (sym other)

-- a form of a group has letters, and none is a line feed
pub group_letters : (group : List ℕ × CodeList) → IsGroup group →
    (0 < length (chars group.0)) × All IsLetter (chars group.0)
group_letters group is =
    let none : Entry = record { form = []; lemma = []; gram = []; sem = []; infl = [] } in
    let good = is.good 0 none is.some in
    let sound = subst IsSoundText (is.same 0 none is.some) good.sound.form in
    let again = encodes-chars group.0 is.utf8 in (
      elim (cases_lt 0 (length (chars group.0))) [
        | inl some ↦ some
        | inr empty ↦
            let nothing = nil_from_length (chars group.0) (omega (arith, empty)) in
            absurd (sound.some (sym again ∙ ap encode_utf8_all nothing))
      ],
      letters_of_text (chars group.0) (scalars-chars group.0 is.utf8)
          (subst HasNoFeed (sym again) sound.no_feed),
    )

-- FORMS AND GROUPS

-- two lists that are mapped alike have their elements side by side
pub beside : {A B C : Type 0} (f : A → C) (g : B → C) (xs : List A) (ys : List B) →
    map f xs ≡ map g ys → (x : A) → Contains xs x → (y : B) × Contains ys y × (f x ≡ g y)
beside f g [] ys same x has = absurd (Contains-none x has)
beside f g (a ∷ xs) [] same x has = absurd (let long = ap length same in omega (arith, long))
beside {A} {B} {C} f g (a ∷ xs) (b ∷ ys) same x has =
    let first : f a ≡ g b = cc in
    let rest : map f xs ≡ map g ys = cc in
    elim (Contains-cases a x xs has) [
      | inl here ↦ (b, Contains-first b ys, subst (λ (z : A). f z ≡ g b) here first)
      | inr there ↦
          let more = beside f g xs ys rest x there in
          (more.0, Contains-after b more.0 ys more.1, more.2)
    ]

-- forms that are as their groups are sorted as these are
pub sorted_as : (last : List ℕ) (forms : List Form) (groups : List (List ℕ × CodeList)) →
    map (λ (f : Form). f.letters) forms ≡ map (λ (g : List ℕ × CodeList). chars g.0) groups →
    AreAfter last groups → AreSorted (chars last) forms
sorted_as last [] groups same after = tt
sorted_as last (f ∷ forms) [] same after =
    absurd (let long = ap length same in omega (arith, long))
sorted_as last (f ∷ forms) (g ∷ groups) same after =
    let first : f.letters ≡ chars g.0 = cc in
    let rest : map (λ (f : Form). f.letters) forms
    ≡ map (λ (g : List ℕ × CodeList). chars g.0) groups = cc in (
      subst (λ (l : List ℕ). slice_cmp nat_cmp (chars last) l ≡ Less) (sym first) after.0,
      subst (λ (l : List ℕ). AreSorted l forms) (sym first)
          (sorted_as g.0 forms groups rest after.1),
    )

-- and tell what the groups do
pub tell_alike : (lists : List CodeList) (forms : List Form) (groups : List (List ℕ × CodeList)) →
    map (λ (f : Form). f.letters) forms ≡ map (λ (g : List ℕ × CodeList). chars g.0) groups →
    map (λ (f : Form). slice_get lists f.code) forms
    ≡ map (λ (g : List ℕ × CodeList). Some g.1) groups → All IsGroup groups →
    flat_map (told_by lists) forms ≡ tells groups
tell_alike lists [] [] letters numbers all = refl
tell_alike lists [] (g ∷ groups) letters numbers all =
    absurd (let long = ap length letters in omega (arith, long))
tell_alike lists (f ∷ forms) [] letters numbers all =
    absurd (let long = ap length letters in omega (arith, long))
tell_alike lists (f ∷ forms) (g ∷ groups) letters numbers all =
    let letter : f.letters ≡ chars g.0 = cc in
    let more_letters : map (λ (f : Form). f.letters) forms
    ≡ map (λ (g : List ℕ × CodeList). chars g.0) groups = cc in
    let number : slice_get lists f.code ≡ Some g.1 = cc in
    let more_numbers : map (λ (f : Form). slice_get lists f.code) forms
    ≡ map (λ (g : List ℕ × CodeList). Some g.1) groups = cc in
    let utf8 = (All-head IsGroup g groups all).utf8 in
    let text : encode_utf8_all f.letters ≡ g.0 =
    ap encode_utf8_all letter ∙ encodes-chars g.0 utf8 in
    let here : told_by lists f ≡ map (λ code. (g.0, code)) (g.1).codes =
    ap (λ (t : List ℕ). map (λ code. (t, code)) (codes_of (slice_get lists f.code))) text
    ∙ ap (λ o. map (λ code. (g.0, code)) (codes_of o)) number in
    ap (λ (l : List (List ℕ × Code)). l ++ flat_map (told_by lists) forms) here
    ∙ ap (λ (l : List (List ℕ × Code)). map (λ code. (g.0, code)) (g.1).codes ++ l)
    (tell_alike lists forms groups more_letters more_numbers (All-tail IsGroup g groups all))

-- SIZES

-- what is told has the letters of the entries that are made of it
pub made_letters : (told : List (List ℕ × Code)) (made : List Entry) → AreRebuilt told made →
    sum_by (λ (t : List ℕ × Code). length (chars t.0)) told
    ≡ sum_by (λ (e : Entry). length (chars e.form)) made
made_letters [] [] are = refl
made_letters [] (e ∷ made) are = absurd are
made_letters (t ∷ told) [] are = absurd are
made_letters (t ∷ told) (e ∷ made) are =
    let more = made_letters told made are.1 in
    let here = ap (λ (f : List ℕ). length (chars f)) (are.0).is_form in
    let one = sum_by-cons (λ (t : List ℕ × Code). length (chars t.0)) t told in
    let other = sum_by-cons (λ (e : Entry). length (chars e.form)) e made in
    omega (arith, more, here, one, other)

codes_letters : (text : List ℕ) (codes : List Code) →
    sum_by (λ (t : List ℕ × Code). length (chars t.0)) (map (λ code. (text, code)) codes)
    ≡ length (chars text) * length codes
codes_letters text [] = omega arith
codes_letters text (c ∷ codes) =
    let more = codes_letters text codes in
    let one = sum_by-cons (λ (t : List ℕ × Code). length (chars t.0)) (text, c)
    (map (λ code. (text, code)) codes) in
    omega (arith, more, one)

codes_long : (found : Option CodeList) → length (codes_of found) ≡ count_of found
codes_long None = refl
codes_long (Some list) = refl

pub told_letters : (lists : List CodeList) (forms : List Form) →
    All (λ (f : Form). chars (encode_utf8_all f.letters) ≡ f.letters) forms →
    letters_told lists forms
    ≡ sum_by (λ (t : List ℕ × Code). length (chars t.0)) (flat_map (told_by lists) forms)
told_letters lists [] all = refl
told_letters lists (f ∷ forms) all =
    let IsSame : Form → Type 0 = λ f. chars (encode_utf8_all f.letters) ≡ f.letters in
    let more = told_letters lists forms (All-tail IsSame f forms all) in
    let same = ap (length {A = ℕ}) (All-head IsSame f forms all) in
    let one = sum_by-cons (λ (f : Form). length f.letters * codes_at lists f.code) f forms in
    let here = codes_letters (encode_utf8_all f.letters) (codes_of (slice_get lists f.code)) in
    let many = codes_long (slice_get lists f.code) in
    let parts = sum_by-append (λ (t : List ℕ × Code). length (chars t.0)) (told_by lists f)
    (flat_map (told_by lists) forms) in
    let product : length (chars (encode_utf8_all f.letters))
    * length (codes_of (slice_get lists f.code)) ≡ length f.letters * codes_at lists f.code =
    ap (λ n. n * length (codes_of (slice_get lists f.code))) same
    ∙ ap (λ n. length f.letters * n) many in
    omega (arith, more, one, here, parts, product)
