-- The readings of a sentence are told by their places.
use Rattle.std.proofs.Common.{arith, ◌≡◌, ℕ, suc, ◌<◌, ◌↔◌, List, [], ◌∷◌, inl, inr, refl, sym, ◌∙◌, ap, subst, length, get_or, true}
use Rattle.std.specs.Prelude.{All, Contains, map}
use Rattle.std.specs.Ordering.{is_eq, nat_cmp}
use Rattle.std.specs.Str.{bytes_eq}
use Rattle.std.specs.Cmp.Lexicographic.{nat_list_cmp_total, slice_cmp, texts_ties}
use Rattle.std.specs.List.Sorted.{IsStrictlySortedBy}
use Rattle.std.specs.declared.cmp.Ordering.TheVariants.{Equal}
use Rattle.std.proofs.lemmas.Slice.Eq.{bytes_eq-Decides}
use Rattle.std.proofs.lemmas.Cmp.{tied_itself}
use Rattle.std.proofs.lemmas.List.{get_or-map, get_or_default, length-map}
use Rattle.std.proofs.lemmas.List.Elements.{All-contains, Contains-get_or}
use Rattle.std.proofs.lemmas.Map.Keys.{Less-from_sorted}
use Rattle.ux_base.proofs.Lists.{less_or}
use Rattle.ux_base.proofs.JoinedLists.{contained_mapped, contains_mapped}
use Rattle.ux_sentence.specs.declared.sentence.Reading.{Reading}
use Rattle.ux_sentence.specs.declared.sentence.Reading.TheVariants.{Raw}
use Rattle.ux_sentence.specs.declared.sentence.Link.{Link}
use Rattle.ux_sentence.specs.declared.sentence.Sentence.{Sentence}
use Rattle.ux_sentence.specs.Readings.{IsSpellable}
use Rattle.ux_sentence.specs.Valid.{HasSpellable}
use Rattle.ux_sentence.specs.Written.{reading_text}
use Rattle.ux_sentence.proofs.ReadingLemmas.{spelled_once}
use Rattle.ux_reading_table.specs.Numbered.{text_of}
use Rattle.ux_reading_table.specs.declared.numbered.NumberedLink.{NumberedLink}
use Rattle.ux_reading_table.specs.declared.numbered.NumberedSentence.{NumberedSentence}
use Rattle.ux_elag.specs.Left.{IsTextBefore}
use Rattle.ux_elag.specs.Numbers.{AreBelow, AreReadings, HaveTexts, link_of, reading_at, sentence_of}
use Rattle.ux_elag.specs.Numbering.{AreToldBy, IsNumbered, IsShownBy, link_at}
use Rattle.ux_elag.proofs.Leaving.{all-of}

-- two lists with the same elements at each place
pub same-places : {A : Type 0} (xs ys : List A) (d : A) → length xs ≡ length ys →
    ((k : ℕ) → k < length xs → get_or xs k d ≡ get_or ys k d) → xs ≡ ys
same-places [] [] d e each = refl
same-places [] (y ∷ ys) d e each = absurd (omega (arith, e))
same-places (x ∷ xs) [] d e each = absurd (omega (arith, e))
same-places (x ∷ xs) (y ∷ ys) d e each =
    let first : x ≡ y = each 0 (omega arith) in
    let rest = same-places xs ys d (omega (arith, e)) (λ k lt. each (suc k) (omega (arith, lt))) in
    ap (λ (z : _). z ∷ xs) first ∙ ap (λ (zs : List _). y ∷ zs) rest

abbrev made_of : (number states : ℕ) → List Link → Sentence
made_of number states links = record { number = number; states = states; links = links }

-- sentences with the same parts
pub same_sentence : (s t : Sentence) → s.number ≡ t.number → s.states ≡ t.states →
    s.links ≡ t.links → s ≡ t
same_sentence s t n c l = ap (λ (x : ℕ). made_of x s.states s.links) n
    ∙ (ap (λ (x : ℕ). made_of t.number x s.links) c ∙ ap (made_of t.number t.states) l)

abbrev linked : (from to : ℕ) → Reading → Link
linked from to reading = record { from = from; to = to; reading = reading }

pub same_link : (a b : Link) → a.from ≡ b.from → a.to ≡ b.to → a.reading ≡ b.reading → a ≡ b
same_link a b f t r = ap (λ (x : ℕ). linked x a.to a.reading) f
    ∙ (ap (λ (x : ℕ). linked b.from x a.reading) t ∙ ap (linked b.from b.to) r)

-- links whose parts are told are told
links-told : (readings : List Reading) (made : List NumberedLink) (links : List Link)
    (places : List ℕ) →
    map (λ (one : NumberedLink). one.from) made ≡ map (λ (link : Link). link.from) links →
    map (λ (one : NumberedLink). one.to) made ≡ map (λ (link : Link). link.to) links →
    map (λ (one : NumberedLink). one.reading) made ≡ places →
    map (reading_at readings) places ≡ map (λ (link : Link). link.reading) links →
    links ≡ map (link_of readings) made
links-told readings [] [] places f t r g = refl
links-told readings [] (link ∷ links) places f t r g = cc
links-told readings (one ∷ made) [] places f t r g = cc
links-told readings (one ∷ made) (link ∷ links) places f t r g =
    let all_readings : map (reading_at readings) (map (λ (x : NumberedLink). x.reading)
    (one ∷ made))
    ≡ map (λ (x : Link). x.reading) (link ∷ links) = ap (map (reading_at readings)) r ∙ g in
    let from : one.from ≡ link.from = cc in
    let to : one.to ≡ link.to = cc in
    let reading : reading_at readings one.reading ≡ link.reading = cc in
    let froms : map (λ (x : NumberedLink). x.from) made ≡ map (λ (x : Link). x.from) links = cc in
    let tos : map (λ (x : NumberedLink). x.to) made ≡ map (λ (x : Link). x.to) links = cc in
    let rest : map (reading_at readings) (map (λ (x : NumberedLink). x.reading) made)
    ≡ map (λ (x : Link). x.reading) links = cc in
    let later = links-told readings made links (map (λ (x : NumberedLink). x.reading) made)
    froms tos refl rest in
    let first : link ≡ link_of readings one = same_link link (link_of readings one) (sym from)
    (sym to)
    (sym reading) in
    ap (λ (z : Link). z ∷ links) first ∙ ap (λ (zs : List Link). link_of readings one ∷ zs) later

-- no text stands before itself
text-irreflexive : (text : List ℕ) → IsTextBefore text text → ⊥
text-irreflexive text less = let tied = tied_itself nat_list_cmp_total text in cc

module _ (links : List Link) (spellable : All HasSpellable links)
    (texts : List (List ℕ)) (rise : IsStrictlySortedBy (slice_cmp nat_cmp) texts)
    (same_texts : (text : List ℕ) → Contains texts text ↔ Contains (map text_of links) text) where
  -- each link's text is there
  pub texts-there : All (λ link. Contains texts (text_of link)) links
  texts-there = all-of (λ link. Contains texts (text_of link)) links
      (λ link has. (same_texts (text_of link)).1 (contains_mapped text_of links link has))

  texts-alone : (n k : ℕ) → n < length texts → k < length texts →
      get_or texts n [] ≡ get_or texts k [] → n ≡ k
  texts-alone n k ln lk e = elim (less_or n k) [
    | inl below ↦ absurd (text-irreflexive (get_or texts k [])
        (subst (λ (t : List ℕ). IsTextBefore t (get_or texts k [])) e
        (Less-from_sorted (slice_cmp nat_cmp) texts n k [] rise below lk)))
    | inr at_least ↦ elim (less_or k n) [
      | inl below ↦ absurd (text-irreflexive (get_or texts k [])
          (subst (λ (t : List ℕ). IsTextBefore (get_or texts k []) t) e
          (Less-from_sorted (slice_cmp nat_cmp) texts k n [] rise below ln)))
      | inr at_most ↦ omega arith
    ]
  ]

  module _ (places : List ℕ) (told : AreToldBy texts links places) where
    pub places-count : length places ≡ length links
    places-count = sym (length-map places (λ place. get_or texts place []))
        ∙ (ap length told.told ∙ length-map links text_of)

    -- a link's text stands at its place
    told-at : (k : ℕ) → k < length links →
        get_or texts (get_or places k 0) [] ≡ text_of (link_at links k)
    told-at k lt =
        let count = places-count in
        sym (get_or-map (λ place. get_or texts place []) places k 0 [] (omega (arith, lt, count)))
        ∙ (ap (λ (ts : List (List ℕ)). get_or ts k []) told.told
        ∙ get_or-map text_of links k (record { from = 0; to = 0; reading = Raw [] }) [] lt)

    place-within : (k : ℕ) → k < length links → get_or places k 0 < length texts
    place-within k lt = let count = places-count in told.within k 0 (omega (arith, lt, count))

    -- each place is told by a link
    told-by : (n : ℕ) → n < length texts →
        (k : ℕ) × (k < length links) × (get_or places k 0 ≡ n)
    told-by n lt =
        let has = (same_texts (get_or texts n [])).0 (Contains-get_or texts n [] lt) in
        let found = contained_mapped text_of links (get_or texts n []) has in
        let k = found.1.0 in
        let inside : k < length links = found.1.1 in
        let link_is : link_at links k ≡ found.0 =
        get_or_default links k (record { from = 0; to = 0; reading = Raw [] }) found.0 inside ∙
        found.1.2 in
        let text_is : get_or texts (get_or places k 0) [] ≡ get_or texts n [] =
        told-at k inside ∙ (ap text_of link_is ∙ found.2) in
        (k, inside, texts-alone (get_or places k 0) n (place-within k inside) lt text_is)

    module _ (shown : List ℕ) (are : IsShownBy places (length texts) shown) where
      shown-at : (n : ℕ) → n < length texts → get_or shown n 0 < length links
      shown-at n lt =
          let by = told-by n lt in
          let count = places-count in
          let inside = by.1 in
          let within = are.within by.0 (omega (arith, inside, count)) in
          let e : get_or shown (get_or places by.0 0) 0 ≡ get_or shown n 0 =
          ap (λ (m : ℕ). get_or shown m 0) by.2 in
          omega (arith, within, e, count)

      -- what is shown is the index of a link
      pub shown-within : All (λ index. index < length links) shown
      shown-within k d lt =
          let counted = are.counted in
          subst (λ (m : ℕ). m < length links) (get_or_default shown k 0 d lt)
          (shown-at k (omega (arith, lt, counted)))

      module _ (readings : List Reading)
          (readings_are : readings ≡ map (λ index. (link_at links index).reading) shown) where
        pub readings-count : length readings ≡ length texts
        readings-count = ap length readings_are
            ∙ (length-map shown (λ index. (link_at links index).reading) ∙ are.counted)

        reading-shown : (n : ℕ) → n < length texts →
            reading_at readings n ≡ (link_at links (get_or shown n 0)).reading
        reading-shown n lt =
            let counted = are.counted in
            ap (λ (rs : List Reading). get_or rs n (Raw [])) readings_are
            ∙ get_or-map (λ index. (link_at links index).reading) shown n 0 (Raw [])
            (omega (arith, lt, counted))

        -- the reading at a link's place is the link's
        reading-told : (k : ℕ) → k < length links →
            reading_at readings (get_or places k 0) ≡ (link_at links k).reading
        reading-told k lt =
            let n = get_or places k 0 in
            let inside = place-within k lt in
            let other = get_or shown n 0 in
            let other_in = shown-at n inside in
            let count = places-count in
            let same_place : get_or places other 0 ≡ n = are.same k (omega (arith, lt, count)) in
            let texts_same : text_of (link_at links other) ≡ text_of (link_at links k) =
            sym (told-at other other_in)
            ∙ (ap (λ (m : ℕ). get_or texts m []) same_place ∙ told-at k lt) in
            reading-shown n inside ∙ spelled_once (link_at links other).reading
            (link_at links k).reading
            (spellable other (record { from = 0; to = 0; reading = Raw [] }) other_in)
            (spellable k (record { from = 0; to = 0; reading = Raw [] }) lt) texts_same

        -- the reading with a number has the text with that number
        reading-text : (n : ℕ) → n < length texts →
            reading_text (reading_at readings n) ≡ get_or texts n []
        reading-text n lt =
            let by = told-by n lt in
            ap (λ (m : ℕ). reading_text (reading_at readings m)) (sym by.2)
            ∙ (ap reading_text (reading-told by.0 by.1)
            ∙ (sym (told-at by.0 by.1) ∙ ap (λ (m : ℕ). get_or texts m []) by.2))

        readings-different : (n k : ℕ) → n < length readings → k < length readings →
            reading_text (reading_at readings n) ≡ reading_text (reading_at readings k) → n ≡ k
        readings-different n k ln lk e =
            let count = readings-count in
            let tn : n < length texts = omega (arith, ln, count) in
            let tk : k < length texts = omega (arith, lk, count) in
            texts-alone n k tn tk (sym (reading-text n tn) ∙ (e ∙ reading-text k tk))

        pub have-texts : HaveTexts texts readings
        have-texts n lt =
            let count = readings-count in sym (reading-text n (omega (arith, lt, count)))

        pub readings-told : map (reading_at readings) places ≡ map (λ (link : Link). link.reading)
            links
        readings-told = same-places (map (reading_at readings) places)
            (map (λ (link : Link). link.reading) links) (Raw [])
            (length-map places (reading_at readings)
            ∙ (places-count ∙ sym (length-map links (λ (link : Link). link.reading))))
            (λ k lt.
            let count = places-count in
            let lp : k < length places = subst (λ (m : ℕ). k < m)
            (length-map places (reading_at readings)) lt in
            let lk : k < length links = omega (arith, lp, count) in
            get_or-map (reading_at readings) places k 0 (Raw []) lp
            ∙ (reading-told k lk ∙ sym (get_or-map (λ (link : Link). link.reading) links k
            (record { from = 0; to = 0; reading = Raw [] }) (Raw []) lk)))

        readings-spellable : All IsSpellable readings
        readings-spellable k d lt =
            let count = readings-count in
            let inside : k < length texts = omega (arith, lt, count) in
            let index = get_or shown k 0 in
            let is : (link_at links index).reading ≡ get_or readings k d =
            sym (reading-shown k inside) ∙ get_or_default readings k (Raw []) d lt in
            subst IsSpellable is
            (spellable index (record { from = 0; to = 0; reading = Raw [] }) (shown-at k inside))

        pub readings-are : AreReadings readings
        readings-are = record { different = readings-different; spellable = readings-spellable }

        pub places-below : (made : List NumberedLink) →
            map (λ (one : NumberedLink). one.reading) made ≡ places →
            AreBelow (length readings) made
        places-below made are_places = all-of (λ (one : NumberedLink). one.reading < length
            readings) made
            (λ one has.
            let count = readings-count in
            let there = contains_mapped (λ (x : NumberedLink). x.reading) made one has in
            let place = subst (λ (ps : List ℕ). Contains ps one.reading) are_places there in
            let inside = All-contains (λ (p : ℕ). p < length texts) places one.reading told.within
            place in
            omega (arith, inside, count))

-- texts that compare as equal are equal
pub text-from_eq : (x y : List ℕ) → bytes_eq x y ≡ true → x ≡ y
text-from_eq x y e = (bytes_eq-Decides x y).0 e

pub text-from_cmp : (x y : List ℕ) → slice_cmp nat_cmp x y ≡ Equal → x ≡ y
text-from_cmp x y e = text-from_eq x y (texts_ties x y ∙ ap is_eq e)

-- a sentence in numbers, of its parts
pub numbered-whole : (sentence : Sentence) (links : List Link) → links ≡ sentence.links →
    All HasSpellable links → (texts : List (List ℕ)) → IsStrictlySortedBy (slice_cmp nat_cmp) texts
    →
    ((text : List ℕ) → Contains texts text ↔ Contains (map text_of links) text) →
    (places : List ℕ) → AreToldBy texts links places →
    (shown : List ℕ) → IsShownBy places (length texts) shown →
    (readings : List Reading) → readings ≡ map (λ index. (link_at links index).reading) shown →
    (numbered : NumberedSentence) → numbered.number ≡ sentence.number →
    numbered.states ≡ sentence.states →
    map (λ (one : NumberedLink). one.from) numbered.links.items
    ≡ map (λ (link : Link). link.from) links →
    map (λ (one : NumberedLink). one.to) numbered.links.items ≡ map (λ (link : Link). link.to)
    links →
    map (λ (one : NumberedLink). one.reading) numbered.links.items ≡ places →
    IsNumbered sentence texts readings numbered
numbered-whole sentence links links_are spellable texts rise same places told shown are readings
    readings_are numbered number states froms tos made_places =
    let made = numbered.links.items in
    let all : links ≡ map (link_of readings) made =
    links-told readings made links places froms tos made_places
    (readings-told links spellable texts rise same places told shown are readings readings_are) in
    record {
      is = same_sentence sentence (sentence_of readings numbered) (sym number) (sym states)
          (sym links_are ∙ all);
      are_readings = readings-are links spellable texts rise same places told shown are readings
          readings_are;
      texts_are = have-texts links spellable texts rise same places told shown are readings
          readings_are;
      below = places-below links spellable texts rise same places told shown are readings
          readings_are
          made made_places;
    }
