-- The image of a content reads back: it is an image, and its content is this one.
use Rattle.std.proofs.Common.{arith, ◌≡◌, ◌≢◌, ℕ, ◌^◌, ◌<◌, ◌≤◌, List, [], ◌∷◌, refl, sym, ◌∙◌, ap, subst, length, map, get_or}
use Rattle.std.specs.Prelude.{All, AllPairs, Contains, Some, flat_map, slice_get, sum_by}
use Rattle.std.specs.Str.{IsUtf8, chars, encode_utf8_all}
use Rattle.std.proofs.lemmas.List.Elements.{All-contains, Contains-get_or}
use Rattle.std.proofs.lemmas.Simd.{map-map}
use Rattle.ux_dawg.specs.Automaton.{IsAutomaton}
use Rattle.ux_image_reader.specs.Fronts.{AreAccepted}
use Rattle.ux_image.proofs.GroupLemmas.{map_agree}
use Rattle.std.proofs.lemmas.Option.{get_or_from_slice_get, slice_get-get_or, slice_get_within}
use Rattle.std.proofs.lemmas.Str.{chars-nil, encodes-chars}
use Rattle.indexmap.specs.Layout.{hash_map, key_set}
use Rattle.ux_base.proofs.FirstsLemmas.{Contains-from_place}
use Rattle.ux_dawg.specs.Forms.{form_of, AreSorted}
use Rattle.ux_dawg.specs.declared.state.Form.{Form}
use Rattle.ux_dawg.specs.declared.state.State.{State}
use Rattle.ux_dawg.proofs.FormsLemmas.{in_order}
use Rattle.ux_dela.specs.declared.entry.Entry.{Entry}
use Rattle.ux_image.specs.Contents.{forms_with_codes, IsContent}
use Rattle.ux_image.specs.Images.{lists_of, renumbered, IsImage}
use Rattle.ux_image.specs.Layout.{ListFits}
use Rattle.ux_image.specs.declared.code.Code.{Code}
use Rattle.ux_image.specs.declared.code.CodeList.{CodeList}
use Rattle.ux_image.proofs.RenumberLemmas.{new_form, number_of_form, path_used, place_holds, place_of, renumbered_is, Contains-map, Contains-unmap}
use Rattle.ux_image_reader.specs.Tests.{IsLetter}
use Rattle.ux_image_reader.specs.declared.front.Version.TheVariants.{Two}
use Rattle.ux_image_lists.specs.Fields.{closed}
use Rattle.ux_image_lists.specs.Images.{HasLists, IsLayoutOf}
use Rattle.ux_image_lists.specs.Lists.{lists as lists_field}
use Rattle.ux_image_lists.specs.Sizes.{forms_of, letters_told}
use Rattle.ux_image_lists.specs.declared.image.Image.{Image}
use Rattle.ux_image_content.specs.Contents.{told_by, told_in, AreRebuilt}
use Rattle.ux_image_content.specs.Files.{IsImageContent, MOST_LETTERS}
use Rattle.ux_image_content.proofs.AcceptedLemmas.{are_accepted}
use Rattle.ux_image_content.proofs.FirstUseLemmas.{first_used, one_place, AreUsed}
use Rattle.ux_image_content.proofs.FrontBackLemmas.{front_of, is_front, lists_there}
use Rattle.ux_image_content.proofs.GroupBackLemmas.{codes_among, codes_text, group_list, groups_of, tells, Groups, HasTextCodes, IsGoodEntry, IsGroup}
use Rattle.ux_image_content.proofs.ListsBackLemmas.{lists_begin, IsList}
use Rattle.ux_image_content.proofs.PathLemmas.{forms_same}
use Rattle.ux_image_content.proofs.ShortestBackLemmas.{shortest_are}
use Rattle.ux_image_content.proofs.ToldLemmas.{few_from}
use Rattle.ux_image_content.proofs.ChosenBackLemmas.{different_itself, list_at, list_from, lists_apart, lists_many}
use Rattle.ux_image_content.proofs.ToldBackLemmas.{beside, group_letters, made_letters, sorted_as, tell_alike, told_letters}

-- an image of these states and lists; how a set of lists is kept in memory is of no account
abbrev image_with : List State → List CodeList → Image
image_with states lists =
    let none : ℕ = 0 in
    record {
      states = states;
      lists = key_set (hash_map (map (λ (l : CodeList). (l, none)) lists)
          (record { initial = record { state = 0 } }) 0);
    }

keys_are : (states : List State) (lists : List CodeList) →
    (image_with states lists).lists.keys ≡ lists
keys_are states [] = refl
keys_are states (l ∷ lists) = ap (λ (ls : List CodeList). l ∷ ls) (keys_are states lists)

module _ (content : List Entry) (bytes : List ℕ) (image : IsImage content bytes)
    (ordered : IsContent content) (good : All IsGoodEntry content)
    (texts : All HasTextCodes content)
    (apart : AllPairs (λ x y. x ≢ y) content) (short : length bytes < 2 ^ 32)
    (few : sum_by (λ (e : Entry). length (chars e.form)) content ≤ MOST_LETTERS) where
  abbrev order : List ℕ
  order = image.order

  abbrev groups : List (List ℕ × CodeList)
  groups = forms_with_codes content

  abbrev states : List State
  states = map (renumbered image.order) image.states

  abbrev lists : List CodeList
  lists = lists_of image.lists image.order

  abbrev root : ℕ
  root = image.minimal.0

  abbrev into : Form → Form
  into = new_form image.states image.order image.first_used

  abbrev forms : List Form
  forms = map (new_form image.states image.order image.first_used) image.forms

  known : Groups [] content
  known =
      groups_of (length content) [] content (omega arith) ordered.ordered
      (λ entry at. subst (λ (e : Entry). e.form ≢ [])
      (get_or_from_slice_get content 0 entry entry at)
      (ordered.some 0 entry (slice_get_within content 0 entry at))) good apart

  automaton : IsAutomaton (map (new_form image.states image.order image.first_used) image.forms)
      (map (renumbered image.order) image.states) image.minimal.0
  automaton =
      renumbered_is image.states image.order image.first_used image.forms image.minimal.0
      image.minimal.1

  -- each number has a list
  have : (n : ℕ) → Contains image.order n →
      (l : CodeList) × (slice_get image.lists n ≡ Some l)
  have n has =
      let form = number_of_form image.states image.order image.first_used image.forms
      image.minimal.0 image.minimal.1 n has in
      let group = beside (λ (f : Form). slice_get image.lists f.code)
      (λ (g : List ℕ × CodeList). Some g.1) image.forms (forms_with_codes content)
      image.are_forms.numbers (form_of form.0 n) form.1 in
      (group.0.1, group.2)

  many : length (lists_of image.lists image.order) ≡ length image.order
  many = lists_many image.lists image.order have

  -- the forms are as their groups
  letters : map (λ (f : Form). f.letters) forms
      ≡ map (λ (g : List ℕ × CodeList). chars g.0) (forms_with_codes content)
  letters = map-map (λ (f : Form). f.letters) into image.forms ∙ image.are_forms.letters

  numbers : map (λ (f : Form). slice_get (lists_of image.lists image.order) f.code) forms
      ≡ map (λ (g : List ℕ × CodeList). Some g.1) (forms_with_codes content)
  numbers =
      map-map (λ (f : Form). slice_get (lists_of image.lists image.order) f.code) into image.forms
      ∙ map_agree (λ (f : Form). slice_get (lists_of image.lists image.order)
      (place_of image.order f.code)) (λ (f : Form). slice_get image.lists f.code) image.forms
      (λ k d less. moved (get_or image.forms k d) (Contains-get_or image.forms k d less))
      ∙ image.are_forms.numbers
    where
      moved : (f : Form) → Contains image.forms f →
          slice_get (lists_of image.lists image.order) (place_of image.order f.code)
          ≡ slice_get image.lists f.code
      moved f has =
          let path = ((image.minimal.1).exact f.letters f.code).1 has in
          let used = path_used image.states image.order image.first_used image.minimal.0 f.letters
          f.code path in
          list_at image.lists image.order have (place_of image.order f.code) f.code
          (place_holds image.order f.code used)

  -- so they have letters that may be
  form_letters : (w : List ℕ) (c : ℕ) → Contains forms (form_of w c) →
      (0 < length w) × All IsLetter w
  form_letters w c has =
      let group = beside (λ (f : Form). f.letters) (λ (g : List ℕ × CodeList). chars g.0) forms
      (forms_with_codes content) letters (form_of w c) has in
      let is = All-contains IsGroup (forms_with_codes content) group.0 known.each group.1 in
      subst (λ (l : List ℕ). (0 < length l) × All IsLetter l) (sym group.2)
      (group_letters group.0 is)

  used : AreUsed (length (lists_of image.lists image.order))
      (map (renumbered image.order) image.states)
  used =
      subst (λ n. AreUsed n (map (renumbered image.order) image.states)) (sym many)
      (first_used image.states image.order image.first_used)

  accepted : AreAccepted (length (lists_of image.lists image.order))
      (map (renumbered image.order) image.states)
  accepted =
      are_accepted (map (renumbered image.order) image.states) forms image.minimal.0 automaton
      form_letters (length (lists_of image.lists image.order)) used

  -- each list is that of a group, and they differ
  lists_good : All IsList (lists_of image.lists image.order)
  lists_good k d less =
      let l = get_or (lists_of image.lists image.order) k d in
      let from = list_from image.lists image.order l
      (Contains-get_or (lists_of image.lists image.order) k d less) in
      let stands = Contains-from_place image.lists from.0 l from.2 in
      let group = Contains-unmap (λ (g : List ℕ × CodeList). g.1) (forms_with_codes content) l
      ((image.are_forms.once.same l).0 stands) in
      let is = All-contains IsGroup (forms_with_codes content) group.0 known.each group.1 in
      let printed = codes_among (λ (c : Code). IsUtf8 c.codes) content (λ k d less.
      codes_text (get_or content k d) (texts k d less)) in
      let text = All-contains (λ (g : List ℕ × CodeList). All (λ (c : Code). IsUtf8 c.codes) (g.1).codes)
      (forms_with_codes content) group.0 printed group.1 in
      subst IsList group.2 (group_list group.0 is text
      (subst ListFits (sym group.2) (image.laid_out.lists_fit.1 k d less)))

  -- each list has a form
  list_form : (list : ℕ) → list < length (lists_of image.lists image.order) →
      (w : List ℕ) × Contains forms (form_of w list)
  list_form list less =
      let n = get_or image.order list 0 in
      let at = slice_get-get_or image.order list 0
      (let same = many in omega (arith, less, same)) in
      let has = Contains-from_place image.order list n at in
      let form = number_of_form image.states image.order image.first_used image.forms
      image.minimal.0 image.minimal.1 n has in
      let same : place_of image.order n ≡ list =
      one_place image.order image.first_used.once (place_of image.order n) list n
      (place_holds image.order n has) at in (
        form.0,
        subst (λ c. Contains forms (form_of form.0 c)) same
            (Contains-map into image.forms (form_of form.0 n) form.1),
      )

  layout_is : IsLayoutOf bytes (image_with states lists)
  layout_is =
      let shortest = shortest_are forms states root (length lists) automaton list_form in
      let laid = image.laid_out in
      let begins = lists_begin shortest.0 lists (sym shortest.1.many) lists_good
      (lists_apart image.lists image.are_forms.once.once image.order image.first_used.once) in
      let there = lists_there bytes states lists laid.states_fit laid.lists_fit.0 laid.whole in
      record {
        front = front_of bytes states lists laid.states_fit laid.lists_fit.0 laid.whole;
        is_front = is_front bytes states lists laid.states_fit laid.lists_fit.0 laid.whole accepted;
        states = refl;
        lists = subst (HasLists bytes (front_of bytes states lists laid.states_fit laid.lists_fit.0
            laid.whole)) (sym (keys_are states lists)) (record {
              shortest = shortest.0;
              are_shortest = shortest.1;
              begins = subst (λ (b : List ℕ). (closed (lists_field Two shortest.0)).Begins b lists [])
                  (sym there) begins;
            });
      }

  -- the forms that are listed
  listed : forms_of states ≡ forms
  listed =
      forms_same forms states root automaton
      (in_order [] forms (subst (λ (l : List ℕ). AreSorted l forms) chars-nil
      (sorted_as [] forms groups letters known.after)))

  told_are : told_in (image_with states lists) ≡ tells groups
  told_are =
      ap (λ (ls : List CodeList). flat_map (told_by ls) (forms_of states)) (keys_are states lists)
      ∙ ap (flat_map (told_by lists)) listed
      ∙ tell_alike lists forms groups letters numbers known.each

  -- their letters are those of the entries
  counted : letters_told (image_with states lists).lists.keys (forms_of states)
      ≡ sum_by (λ (e : Entry). length (chars e.form)) content
  counted =
      told_letters (image_with states lists).lists.keys (forms_of states)
      (subst (λ (l : List Form).
      All (λ (f : Form). chars (encode_utf8_all f.letters) ≡ f.letters) l) (sym listed) same_letters)
      ∙ ap (sum_by (λ (t : List ℕ × Code). length (chars t.0))) told_are
      ∙ made_letters (tells groups) content known.rebuilt
    where
      same_letters : All (λ (f : Form). chars (encode_utf8_all f.letters) ≡ f.letters) forms
      same_letters k d less =
          let f = get_or forms k d in
          let group = beside (λ (f : Form). f.letters) (λ (g : List ℕ × CodeList). chars g.0) forms
          groups letters f (Contains-get_or forms k d less) in
          let is = All-contains IsGroup groups group.0 known.each group.1 in
          subst (λ (l : List ℕ). chars (encode_utf8_all l) ≡ l) (sym group.2)
          (ap chars (encodes-chars (group.0).0 is.utf8))

  -- what is written reads back
  pub image_read_back : IsImageContent bytes content
  image_read_back = (
    image_with states lists,
    record {
      layout = layout_is;
      few = few_from bytes (image_with states lists) layout_is short
          (λ more. let same = counted in omega (arith, more, same, few));
    },
    record {
      made = content;
      rebuilt = subst (λ (t : List (List ℕ × Code)). AreRebuilt t content) (sym told_are)
          known.rebuilt;
      different = different_itself content apart;
    },
  )
