-- A file is an image of one content, or is refused by one error.
use Rattle.std.proofs.Common.{arith, ◌≡◌, ℕ, ◌<◌, List, [], ◌∷◌, inl, inr, refl, sym, ◌∙◌, ap, subst, drop, get_or}
use Rattle.std.specs.Prelude.{Contains}
use Rattle.std.proofs.lemmas.List.{ext_get_or}
use Rattle.ux_dawg.specs.declared.state.State.{State}
use Rattle.ux_dela.specs.declared.entry.Entry.{Entry}
use Rattle.ux_dict.specs.Content.{AreDifferent, IsEarlier}
use Rattle.ux_dict.proofs.ContentLemmas.{first_place}
use Rattle.ux_base.proofs.OrderedLists.{place_of, same_members}
use Rattle.ux_image.specs.declared.code.Code.{Code}
use Rattle.ux_image.specs.declared.code.CodeList.{CodeList}
use Rattle.ux_image.proofs.OneEntryLaws.{one_entry}
use Rattle.ux_image_reader.specs.declared.error.ImageError.{ImageError}
use Rattle.ux_image_reader.specs.declared.front.Front.{Front}
use Rattle.ux_image_lists.specs.Images.{lists_behind, HasLists, IsLayoutOf}
use Rattle.ux_image_lists.specs.Shortest.{AreShortest, IsShortest}
use Rattle.ux_image_lists.specs.declared.image.Image.{Image}
use Rattle.ux_image_lists.proofs.ImageLaws.{layout_excluded, layout_refused_once, one_front}
use Rattle.ux_image_lists.proofs.ListLaws.{sound_lists}
use Rattle.ux_image_content.specs.Contents.{told_in, AreRebuilt, IsContentOf}
use Rattle.ux_image_content.specs.Files.{in_forms, in_lemma, HasTooMany, IsImageContent, IsImageFile, RefusesImage}

-- the shortest forms have one length each
one_shortest : (states : List State) (list m n : ℕ) → IsShortest states list m →
    IsShortest states list n → m ≡ n
one_shortest states list m n h k =
    let low = h.least k.form k.accepted in
    let high = k.least h.form h.accepted in
    let here = h.is in
    let there = k.is in
    omega (arith, low, high, here, there)

same_shortest : (states : List State) (lists : ℕ) (xs ys : List ℕ) → AreShortest states lists xs →
    AreShortest states lists ys → xs ≡ ys
same_shortest states lists xs ys h k =
    ext_get_or 0 xs ys (h.many ∙ sym k.many) (λ i less.
    let many = h.many in
    let inside : i < lists = omega (arith, many, less) in
    one_shortest states i (get_or xs i 0) (get_or ys i 0) (h.each i inside) (k.each i inside))

-- so a file has one list of lists
one_lists : (bytes : List ℕ) (f g : Front) (xs ys : List CodeList) → f ≡ g →
    HasLists bytes f xs → HasLists bytes g ys → xs ≡ ys
one_lists bytes f g xs ys same has other =
    let there = subst (λ (x : Front). HasLists bytes x ys) (sym same) other in
    let one = same_shortest f.states f.lists there.shortest has.shortest there.are_shortest
    has.are_shortest in
    ((sound_lists f.version has.shortest).one (drop f.end bytes) xs ys [] [] has.begins
    (subst (λ (l : List ℕ). (lists_behind f l).Begins (drop f.end bytes) ys []) one
    there.begins)).0

module _ (bytes : List ℕ) (x y : Image) (here : IsLayoutOf bytes x) (there : IsLayoutOf bytes y)
  where
    fronts : here.front ≡ there.front
    fronts = one_front bytes here.front there.front here.is_front there.is_front

    same_states : x.states ≡ y.states
    same_states = here.states ∙ ap (λ (f : Front). f.states) fronts ∙ sym there.states

    same_lists : x.lists.keys ≡ y.lists.keys
    same_lists =
        one_lists bytes here.front there.front x.lists.keys y.lists.keys fronts here.lists there.lists

    -- so its codes and forms are the same
    same_told : told_in x ≡ told_in y
    same_told = rw same_states (rw same_lists refl)

    same_many : HasTooMany x → HasTooMany y
    same_many (in_forms more) = in_forms (rw (sym same_states) (rw (sym same_lists) more))
    same_many (in_lemma form code told more) =
        in_lemma form code (subst (λ l. Contains l (form, code)) same_told told) more

-- codes make one list of entries of their forms
pub one_made : (told : List (List ℕ × Code)) (xs ys : List Entry) → AreRebuilt told xs →
    AreRebuilt told ys → xs ≡ ys
one_made [] [] [] h k = refl
one_made [] (x ∷ xs) ys h k = absurd h
one_made [] [] (y ∷ ys) h k = absurd k
one_made (t ∷ told) [] ys h k = absurd h
one_made (t ∷ told) (x ∷ xs) [] h k = absurd k
one_made (t ∷ told) (x ∷ xs) (y ∷ ys) h k =
    ap (λ (e : Entry). e ∷ xs) (one_entry t.0 t.1 x y h.0 k.0)
    ∙ ap (λ (l : List Entry). y ∷ l) (one_made told xs ys h.1 k.1)

-- no two entries are each earlier than the other
earlier_strict : (listed : List Entry) (x y : Entry) → Contains listed x → Contains listed y →
    IsEarlier listed x y → IsEarlier listed y x → ⊥
earlier_strict listed x y mx my up down =
    let px = place_of listed x mx in
    let py = place_of listed y my in
    let fx = first_place listed x px.0 px.1 in
    let fy = first_place listed y py.0 py.1 in
    let low = up fx.0 fy.0 fx.1 fy.1 in
    let high = down fy.0 fx.0 fy.1 fx.1 in
    omega (arith, low, high)

-- and each once is one list
pub one_different : (made x y : List Entry) → AreDifferent made x → AreDifferent made y → x ≡ y
one_different made x y h k =
    same_members (IsEarlier made) (Contains made) (earlier_strict made) x y
    (λ e. (
      λ member. (k.members e).1 ((h.members e).0 member),
      λ member. (h.members e).1 ((k.members e).0 member),
    ))
    (λ e member. (h.members e).0 member) h.ordered k.ordered

one_of_images : (x y : Image) (one other : List Entry) → told_in x ≡ told_in y →
    IsContentOf x one → IsContentOf y other → one ≡ other
one_of_images x y one other same h k =
    let made = one_made (told_in x) h.made k.made h.rebuilt
    (subst (λ l. AreRebuilt l k.made) (sym same) k.rebuilt) in
    one_different h.made one other h.different
    (subst (λ (l : List Entry). AreDifferent l other) (sym made) k.different)

-- a file has one content
pub one_content : (bytes : List ℕ) (one other : List Entry) → IsImageContent bytes one →
    IsImageContent bytes other → one ≡ other
one_content bytes one other h k =
    one_of_images h.0 k.0 one other (same_told bytes h.0 k.0 h.1.layout k.1.layout) h.2 k.2

-- no file that is an image is refused
pub image_excluded : (bytes : List ℕ) (image : Image) (error : ImageError) →
    IsImageFile bytes image → RefusesImage bytes error → ⊥
image_excluded bytes image error is (inl refuses) =
    layout_excluded bytes image error is.layout refuses
image_excluded bytes image error is (inr (other, layout, many, told)) =
    is.few (same_many bytes other image layout is.layout many)

-- nor one that has a content
pub content_excluded : (bytes : List ℕ) (content : List Entry) (error : ImageError) →
    IsImageContent bytes content → RefusesImage bytes error → ⊥
content_excluded bytes content error h refuses = image_excluded bytes h.0 error h.1 refuses

-- and none is refused in two ways
pub image_refused_once : (bytes : List ℕ) (one other : ImageError) → RefusesImage bytes one →
    RefusesImage bytes other → one ≡ other
image_refused_once bytes one other (inl h) (inl k) = layout_refused_once bytes one other h k
image_refused_once bytes one other (inl h) (inr (image, layout, many, told)) =
    absurd (layout_excluded bytes image one layout h)
image_refused_once bytes one other (inr (image, layout, many, told)) (inl k) =
    absurd (layout_excluded bytes image other layout k)
image_refused_once bytes one other (inr h) (inr k) = h.3 ∙ sym k.3
