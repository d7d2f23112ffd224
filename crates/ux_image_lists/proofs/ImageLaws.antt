-- A file has one front and one length of the shortest form with each list, so it has one layout or
-- is refused by one error.
use Rattle.std.proofs.Common.{arith, ◌≡◌, ℕ, ◌*◌, ◌<◌, ◌≤◌, List, [], ◌∷◌, inl, inr, refl, sym, ◌∙◌, ap, subst, length, length-append, drop, get_or}
use Rattle.std.proofs.lemmas.List.{ext_get_or, length-drop}
use Rattle.ux_dawg.specs.declared.state.State.{State}
use Rattle.ux_image.specs.declared.code.CodeList.{CodeList}
use Rattle.ux_image_reader.specs.Fronts.{IsFrontOf}
use Rattle.ux_image_reader.specs.Layout.{magic_of, place_behind, written_all, HasMagic}
use Rattle.ux_image_reader.specs.Numbers.{numbers_of}
use Rattle.ux_image_reader.specs.Tests.{AllPass}
use Rattle.ux_image_reader.specs.declared.error.ImageError.{ImageError}
use Rattle.ux_image_reader.specs.declared.front.Front.{Front}
use Rattle.ux_image_reader.specs.declared.front.Version.{Version}
use Rattle.ux_image_reader.specs.declared.front.Version.TheVariants.{One, Two}
use Rattle.ux_image_reader.proofs.RefusalLaws.{front_excluded, refused_once}
use Rattle.ux_image_reader.proofs.StopLemmas.{ends_whole, one_stop, same_parts}
use Rattle.ux_image_lists.specs.Images.{lists_behind, HasLists, IsLayoutOf, RefusesLayout, RefusesLists}
use Rattle.ux_image_lists.specs.Shortest.{AreShortest, IsShortest}
use Rattle.ux_image_lists.specs.declared.image.Image.{Image}
use Rattle.ux_image_lists.proofs.ListLaws.{sound_lists}

-- whole numbers take four bytes each
numbers_short : (bytes : List ℕ) → 4 * length (numbers_of bytes) ≤ length bytes
numbers_short [] = omega arith
numbers_short (a ∷ []) = omega arith
numbers_short (a ∷ (b ∷ [])) = omega arith
numbers_short (a ∷ (b ∷ (c ∷ []))) = omega arith
numbers_short (a ∷ (b ∷ (c ∷ (d ∷ bytes)))) =
    let more = numbers_short bytes in omega (arith, more)

-- the front ends in the file
pub front_within : (bytes : List ℕ) (front : Front) → IsFrontOf bytes front →
    front.end ≤ length bytes
front_within bytes front is =
    let few = numbers_short (drop 8 bytes) in
    let behind = length-drop 8 bytes in
    let many = ap (length {A = ℕ}) is.begins.numbers in
    let parts = length-append (written_all front.states) is.rest in
    let place = is.place in
    omega (arith, few, behind, many, parts, place)

-- a magic tells its version
one_version : (bytes : List ℕ) (v w : Version) → HasMagic v bytes → HasMagic w bytes → v ≡ w
one_version bytes One One h k = refl
one_version bytes Two Two h k = refl
one_version bytes One Two h k = absurd (other (sym h ∙ k))
  where
    other : magic_of One ≡ magic_of Two → ⊥
    other same = let e = ap (λ (l : List ℕ). get_or l 5 0) same in omega (arith, e)
one_version bytes Two One h k = absurd (other (sym h ∙ k))
  where
    other : magic_of Two ≡ magic_of One → ⊥
    other same = let e = ap (λ (l : List ℕ). get_or l 5 0) same in omega (arith, e)

-- a file has one front
pub one_front : (bytes : List ℕ) (f g : Front) → IsFrontOf bytes f → IsFrontOf bytes g → f ≡ g
one_front bytes f g is other =
    let version = one_version bytes f.version g.version is.begins.magic other.begins.magic in
    let numbers = sym is.begins.numbers ∙ other.begins.numbers in
    let count = same_parts (length f.states) (length g.states) _ _ numbers in
    let lists = same_parts f.lists g.lists _ _ count.1 in
    let same = one_stop (length f.states) f.lists f.states g.states is.rest other.rest lists.1
    is.begins.passed (there count.0 lists.0)
    (ends_whole (length f.states) f.lists f.states is.rest refl)
    (ends_whole (length f.states) f.lists g.states other.rest (sym count.0)) in
    let end = is.place ∙ ap place_behind same.0 ∙ sym other.place in
    λ j. record { version = version j; states = same.0 j; lists = lists.0 j; end = end j }
  where
    there : length f.states ≡ length g.states → f.lists ≡ g.lists →
        AllPass (length f.states) f.lists g.states
    there count lists =
        subst (λ n. AllPass n f.lists g.states) (sym count)
        (subst (λ n. AllPass (length g.states) n g.states) (sym lists) other.begins.passed)

-- the length of the shortest form is one
one_shortest : (states : List State) (list m n : ℕ) → IsShortest states list m →
    IsShortest states list n → m ≡ n
one_shortest states list m n h k =
    let low = h.least k.form k.accepted in
    let high = k.least h.form h.accepted in
    let here = h.is in
    let there = k.is in
    omega (arith, low, high, here, there)

all_shortest : (states : List State) (lists : ℕ) (xs ys : List ℕ) → AreShortest states lists xs →
    AreShortest states lists ys → xs ≡ ys
all_shortest states lists xs ys h k =
    ext_get_or 0 xs ys (h.many ∙ sym k.many) (λ i less.
    let many = h.many in
    let inside : i < lists = omega (arith, many, less) in
    one_shortest states i (get_or xs i 0) (get_or ys i 0) (h.each i inside) (k.each i inside))

-- lists that stand there aren't refused
lists_excluded : (bytes : List ℕ) (f g : Front) (image : Image) (error : ImageError) → f ≡ g →
    HasLists bytes f image.lists.keys → RefusesLists bytes g error → ⊥
lists_excluded bytes f g image error same has refuses =
    let there = subst (λ (x : Front). RefusesLists bytes x error) (sym same) refuses in
    let one = all_shortest f.states f.lists there.shortest has.shortest there.are_shortest
    has.are_shortest in
    (sound_lists f.version has.shortest).excluded (drop f.end bytes) image.lists.keys [] error
    has.begins
    (subst (λ (l : List ℕ). (lists_behind f l).Refuses (drop f.end bytes) error) one there.refuses)

-- no file that has a layout is refused
pub layout_excluded : (bytes : List ℕ) (image : Image) (error : ImageError) →
    IsLayoutOf bytes image → RefusesLayout bytes error → ⊥
layout_excluded bytes image error is (inl refuses) =
    front_excluded bytes is.front error is.is_front refuses
layout_excluded bytes image error is (inr refuses) =
    lists_excluded bytes is.front refuses.0 image error
    (one_front bytes is.front refuses.0 is.is_front refuses.1) is.lists refuses.2

lists_once : (bytes : List ℕ) (f g : Front) (one other : ImageError) → f ≡ g →
    RefusesLists bytes f one → RefusesLists bytes g other → one ≡ other
lists_once bytes f g one other same h k =
    let there = subst (λ (x : Front). RefusesLists bytes x other) (sym same) k in
    let shortest = all_shortest f.states f.lists there.shortest h.shortest there.are_shortest
    h.are_shortest in
    (sound_lists f.version h.shortest).once (drop f.end bytes) one other h.refuses
    (subst (λ (l : List ℕ). (lists_behind f l).Refuses (drop f.end bytes) other) shortest
    there.refuses)

-- no file is refused in two ways
pub layout_refused_once : (bytes : List ℕ) (one other : ImageError) → RefusesLayout bytes one →
    RefusesLayout bytes other → one ≡ other
layout_refused_once bytes one other (inl h) (inl k) = refused_once bytes one other h k
layout_refused_once bytes one other (inl h) (inr k) =
    absurd (front_excluded bytes k.0 one k.1 h)
layout_refused_once bytes one other (inr h) (inl k) =
    absurd (front_excluded bytes h.0 other h.1 k)
layout_refused_once bytes one other (inr h) (inr k) =
    lists_once bytes h.0 k.0 one other (one_front bytes h.0 k.0 h.1 k.1) h.2 k.2

-- what was read behind a front
module _ (bytes : List ℕ) (front : Front) (shortest slice behind : List ℕ)
    (are : AreShortest front.states front.lists shortest) (same : slice ≡ shortest)
    (there : behind ≡ drop front.end bytes) where
  pub has_lists : (all : List CodeList) → (lists_behind front slice).Begins behind all [] →
      HasLists bytes front all
  has_lists all begins = record {
    shortest = shortest;
    are_shortest = are;
    begins = subst (λ (l : List ℕ). (lists_behind front l).Begins (drop front.end bytes) all [])
        same (subst (λ (b : List ℕ). (lists_behind front slice).Begins b all []) there begins);
  }

  pub refuses_lists : (error : ImageError) → (lists_behind front slice).Refuses behind error →
      RefusesLists bytes front error
  refuses_lists error refuses = record {
    shortest = shortest;
    are_shortest = are;
    refuses = subst (λ (l : List ℕ). (lists_behind front l).Refuses (drop front.end bytes) error)
        same (subst (λ (b : List ℕ). (lists_behind front slice).Refuses b error) there refuses);
  }
