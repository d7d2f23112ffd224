-- What is read of an image: its codes make the entries that the image tells, and each form has one.
use Rattle.std.proofs.Common.{◌≡◌, ℕ, zero, suc, ◌+◌, ◌-◌, ◌<◌, List, [], ◌∷◌, ◌++◌, inl, inr, length, map, get_or, take, refl, sym, ◌∙◌, ap, subst, arith}
use Rattle.std.specs.Prelude.{All, Contains, Option, None, Some, flat_map, slice_get}
use Rattle.std.specs.List.{AllZip}
use Rattle.std.specs.Str.{encode_utf8_all}
use Rattle.std.proofs.lemmas.Bool.{cases_lt}
use Rattle.std.proofs.lemmas.List.{get_or_past}
use Rattle.std.proofs.lemmas.List.Elements.{All-append, All-cons, All-contains, All-map, All-nil, Contains-get_or}
use Rattle.std.proofs.lemmas.Option.{get_or_from_slice_get, none-some, slice_get-get_or}
use Rattle.ux_dawg.specs.Building.{bare}
use Rattle.ux_dawg.specs.Listed.{behind, ending, forms_from}
use Rattle.ux_dawg.specs.Paths.{IsAlive, MakeAutomaton}
use Rattle.ux_dawg.specs.declared.state.Edge.{Edge}
use Rattle.ux_dawg.specs.declared.state.Form.{Form}
use Rattle.ux_dawg.specs.declared.state.State.{State}
use Rattle.ux_dela.specs.Sound.{IsSound}
use Rattle.ux_dict.specs.Content.{AreDifferent}
use Rattle.ux_dict.proofs.ContentLemmas.{AreDifferent-insert}
use Rattle.ux_image.specs.Codes.{rebuilt_lemma, Rebuilds}
use Rattle.ux_image.specs.declared.code.Code.{Code}
use Rattle.ux_image.specs.declared.code.CodeList.{CodeList}
use Rattle.ux_image_reader.specs.Fronts.{AreAccepted}
use Rattle.ux_image_reader.specs.Layout.{final_number, written}
use Rattle.ux_image_reader.specs.Tests.{limits_behind, Pass}
use Rattle.ux_image_lists.specs.Fields.{Field, BeginAll}
use Rattle.ux_image_lists.specs.Lists.{codes_in, list, next_list, rules_at}
use Rattle.ux_image_lists.specs.Sizes.{forms_of}
use Rattle.ux_image_lists.specs.declared.codes.Rules.{Rules}
use Rattle.ux_image_lists.specs.declared.image.Image.{Image}
use Rattle.ux_image_content.specs.Contents.{codes_of, told_by, told_in, AreRebuilt, IsContentOf}
use Rattle.ux_image_content.specs.Files.{IsImageFile}
use Rattle.ux_image_content.proofs.EntryLemmas.{rebuilt_append}
use Rattle.ux_image_content.proofs.FormLemmas.{forms_words}
use Rattle.ux_image_content.proofs.ToldLemmas.{content_sound}
use Rattle.ux_image_look_ups.proofs.EndLemmas.{forms_alive}
use Rattle.ux_image_lexicon.specs.Told.{content_in, entries_by, entries_told, entry_by, read_in, AreRead, CodedForms, IsCoded, IsRead, IsTold}
use Rattle.ux_image_lexicon.specs.declared.codes.ReadCode.{ReadCode}
use Rattle.ux_image_lexicon.specs.declared.codes.ReadList.{ReadList}
use Rattle.ux_image_lexicon.proofs.FewLemmas.{few_told}
use Rattle.ux_image_lexicon.proofs.FoundLemmas.{content_is}

-- the lists of one number
read_at : (lists : List CodeList) (read : List ReadList) → AreRead lists read → (n : ℕ) →
    AllZip IsRead (codes_of (slice_get lists n)) (read_in (slice_get read n))
read_at [] [] are n = tt
read_at [] (r ∷ read) are n = absurd are
read_at (l ∷ lists) [] are n = absurd are
read_at (l ∷ lists) (r ∷ read) are zero = are.0
read_at (l ∷ lists) (r ∷ read) are (suc n) = read_at lists read are.1 n

-- as many codes
zip_some : (codes : List Code) (read : List ReadCode) → AllZip IsRead codes read →
    0 < length codes → 0 < length read
zip_some [] read zip some = absurd (omega (arith, some))
zip_some (c ∷ codes) [] zip some = absurd zip
zip_some (c ∷ codes) (r ∷ read) zip some = omega arith

-- the entry of a code that was read is the one that the code makes
entry_rebuilt : (form : List ℕ) (code : Code) (read : ReadCode) → IsRead code read →
    Rebuilds form code (entry_by form read)
entry_rebuilt form code read is = record {
  is_form = refl;
  is_lemma = ap (λ pairs. rebuilt_lemma pairs form) is.pairs;
  are_codes = is.codes;
}

codes_rebuilt : (form : List ℕ) (codes : List Code) (read : List ReadCode) →
    AllZip IsRead codes read →
    AreRebuilt (map (λ code. (form, code)) codes) (map (entry_by form) read)
codes_rebuilt form [] [] zip = tt
codes_rebuilt form [] (r ∷ read) zip = absurd zip
codes_rebuilt form (c ∷ codes) [] zip = absurd zip
codes_rebuilt form (c ∷ codes) (r ∷ read) zip =
    (entry_rebuilt form c r zip.0, codes_rebuilt form codes read zip.1)

-- what is told of forms is what the codes make of them
pub forms_rebuilt : (lists : List CodeList) (read : List ReadList) → AreRead lists read →
    (forms : List Form) → AreRebuilt (flat_map (told_by lists) forms) (entries_told read forms)
forms_rebuilt lists read are [] = tt
forms_rebuilt lists read are (f ∷ forms) =
    rebuilt_append (told_by lists f) (flat_map (told_by lists) forms) (entries_by read f)
    (entries_told read forms)
    (codes_rebuilt (encode_utf8_all f.letters) (codes_of (slice_get lists f.code))
    (read_in (slice_get read f.code)) (read_at lists read are f.code))
    (forms_rebuilt lists read are forms)

-- EACH FORM HAS A CODE

-- all values of fields that follow one another
begin_all : {V : Type 0} (P : V → Type 0) (field : List V → Field V) →
    ((before : List V) (bytes : List ℕ) (v : V) (rest : List ℕ) →
    (field before).Begins bytes v rest → P v) → (before : List V) (bytes : List ℕ)
    (values : List V) (rest : List ℕ) → BeginAll field before bytes values rest → All P values
begin_all P field each before bytes [] rest all = All-nil P
begin_all P field each before bytes (v ∷ values) rest all =
    All-cons P v values (each before bytes v all.0 all.1)
    (begin_all P field each (before ++ v ∷ []) all.0 values rest all.2)

-- a list has a code
list_some : (rules : Rules) (first : ℕ) (bytes : List ℕ) (l : CodeList) (rest : List ℕ) →
    (list rules first).Begins bytes l rest → 0 < length l.codes
list_some rules first bytes l rest h =
    let many = h.2.1 in
    let long = h.3.2.0 in
    let same = ap (λ (x : CodeList). length x.codes) h.3.3.0 in
    omega (arith, many, long, same)

module _ (states : List State) (m : ℕ)
    (low : (t c : ℕ) → (get_or states t bare).code ≡ Some c → c < m) where
  abbrev IsLow : Form → Type 0
  IsLow form = form.code < m

  ending_low : (code : Option ℕ) → ((c : ℕ) → code ≡ Some c → c < m) → All IsLow (ending code)
  ending_low None each = All-nil IsLow
  ending_low (Some c) each = All-cons IsLow _ [] (each c refl) (All-nil IsLow)

  edges_low : (n : ℕ) → ((t : ℕ) → All IsLow (forms_from n states (get_or states t bare))) →
      (edges : List Edge) →
      All IsLow (flat_map (λ (e : Edge).
      map (behind e.letter) (forms_from n states (get_or states e.target bare))) edges)
  edges_low n each [] = All-nil IsLow
  edges_low n each (e ∷ edges) =
      let there = forms_from n states (get_or states e.target bare) in
      All-append IsLow (map (behind e.letter) there) _
      (All-map IsLow (behind e.letter) there (λ k d less. each e.target k d less))
      (edges_low n each edges)

  -- the lists of all forms have lower numbers
  pub forms_low : (n t : ℕ) → All IsLow (forms_from n states (get_or states t bare))
  forms_low zero t = ending_low (get_or states t bare).code (low t)
  forms_low (suc n) t =
      All-append IsLow (ending (get_or states t bare).code) _
      (ending_low (get_or states t bare).code (low t))
      (edges_low n (forms_low n) (get_or states t bare).edges)

-- what states that were accepted are
module _ (lists : ℕ) (states : List State) (accepted : AreAccepted lists states) where
  abbrev at : ℕ → State
  at t = get_or states t bare

  passes : (t : ℕ) → t < length states →
      Pass (limits_behind (length states) lists (take t states)) (written (at t))
  passes t less = accepted.passed t (at t) (slice_get-get_or states t bare less)

  -- each but the root goes on
  pub are_alive : (i : ℕ) → i + 1 < length states → IsAlive (at i)
  are_alive i inside = by (at i).code (at i).edges refl refl
    where
      by : (code : Option ℕ) (edges : List Edge) → (at i).code ≡ code → (at i).edges ≡ edges →
          IsAlive (at i)
      by (Some code) edges is are = inl (code, is)
      by None (e ∷ edges) is are =
          inr (e, subst (λ (l : List Edge). Contains l e) (sym are) (0, omega arith, refl))
      by None [] is are =
          let one = (passes i (omega (arith, inside))).1 (ap final_number is)
          (ap (length {A = Edge}) are) in
          absurd (omega (arith, one, inside))

  -- and their lists are those of the file
  pub codes_low : (t c : ℕ) → (at t).code ≡ Some c → c < lists
  codes_low t c is = elim (cases_lt t (length states)) [
    | inl less ↦
        let below = (passes t less).0.below in
        let number = ap final_number is in
        omega (arith, below, number)
    | inr past ↦
        let none : (at t).code ≡ None = ap (λ (s : State). s.code) (get_or_past states t bare past)
        in absurd (none-some c (sym none ∙ is))
  ]

module _ (bytes : List ℕ) (image : Image) (file : IsImageFile bytes image)
    (read : List ReadList) (are : AreRead image.lists.keys read) where
  abbrev coded : CodedForms
  coded = record { states = image.states; lists = read }

  rebuilt : AreRebuilt (told_in image) (entries_told read (forms_of image.states))
  rebuilt = forms_rebuilt image.lists.keys read are (forms_of image.states)

  -- the front's states and lists
  accepted : AreAccepted file.layout.front.lists image.states
  accepted =
      subst (AreAccepted file.layout.front.lists) (sym file.layout.states)
      file.layout.is_front.accepted

  lists_many : length image.lists.keys ≡ file.layout.front.lists
  lists_many = file.layout.lists.begins.0.0 ∙ file.layout.lists.are_shortest.many

  lists_some : All (λ (l : CodeList). 0 < length l.codes) image.lists.keys
  lists_some =
      let layout = file.layout in
      begin_all (λ (l : CodeList). 0 < length l.codes)
      (next_list layout.front.version layout.lists.shortest)
      (λ before b l r h.
      list_some (rules_at layout.front.version layout.lists.shortest (length before))
      (codes_in before) b l r h.0) [] _ image.lists.keys [] layout.lists.begins.0.1

  -- a list below has a code
  list_at : (n : ℕ) → n < length image.lists.keys →
      0 < length (codes_of (slice_get image.lists.keys n))
  list_at n less = by (slice_get image.lists.keys n) refl
    where
      by : (o : Option CodeList) → slice_get image.lists.keys n ≡ o → 0 < length (codes_of o)
      by None is =
          let none : CodeList = record { codes = [] } in
          absurd (none-some (get_or image.lists.keys n none)
          (sym is ∙ slice_get-get_or image.lists.keys n none less))
      by (Some l) is =
          subst (λ (x : CodeList). 0 < length x.codes)
          (get_or_from_slice_get image.lists.keys n l l is) (lists_some n l less)

  told : All (IsTold read) (forms_of image.states)
  told k d less =
      let form = get_or (forms_of image.states) k d in
      let low = forms_low image.states file.layout.front.lists
      (codes_low file.layout.front.lists image.states accepted) (length image.states)
      (length image.states - 1) k d less in
      let inside : form.code < length image.lists.keys = omega (arith, low, lists_many) in
      record {
        utf8 = (forms_words file.layout.front.lists image.states accepted k d less).utf8;
        some = zip_some (codes_of (slice_get image.lists.keys form.code))
            (read_in (slice_get read form.code)) (read_at image.lists.keys read are form.code)
            (list_at form.code inside);
      }

  sound : All IsSound (entries_told read (forms_of image.states))
  sound =
      let made = entries_told read (forms_of image.states) in
      let different = AreDifferent-insert made in
      let all = content_sound bytes image made _ file.layout rebuilt different in
      λ k d less.
      All-contains IsSound _ (get_or made k d) all
      ((different.members (get_or made k d)).1 (Contains-get_or made k d less))

  -- so the states and lists of an image are a dictionary's
  pub coded_is : MakeAutomaton image.states → IsCoded coded
  coded_is automaton = record {
    automaton = automaton;
    forms = forms_alive image.states automaton.fit
        (are_alive file.layout.front.lists image.states accepted);
    told = told;
    sound = sound;
    few = few_told bytes image file read are file.layout.front.lists accepted;
  }

  -- and its content that of the image
  pub content_of : (is : IsCoded coded) → IsContentOf image (content_in coded)
  content_of is = record {
    made = entries_told read (forms_of image.states);
    rebuilt = rebuilt;
    different = subst (AreDifferent (entries_told read (forms_of image.states)))
        (sym (content_is coded is)) (AreDifferent-insert (entries_told read (forms_of image.states)));
  }
