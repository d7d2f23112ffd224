-- Sentences that are told by numbers: which links stand for theirs.
use Rattle.std.proofs.Common.{arith, ◌≡◌, ℕ, zero, suc, ◌+◌, ◌-◌, ◌<◌, ◌≤◌, List, [], ◌∷◌, inl, inr, refl, sym, ◌∙◌, ap, subst, length}
use Rattle.std.specs.Prelude.{Contains, Some, flat_map, get_or, map, slice_get}
use Rattle.std.specs.List.{AllZip}
use Rattle.std.proofs.lemmas.List.{get_or-map, length-map}
use Rattle.std.proofs.lemmas.List.Elements.{All-contains}
use Rattle.std.proofs.lemmas.Option.{get_or_from_slice_get, slice_get-get_or, slice_get_within}
use Rattle.ux_base.proofs.JoinedLists.{contained_joined, contained_mapped, contains_joined, contains_mapped}
use Rattle.ux_base.proofs.Lists.{first_or_later, nothing_in}
use Rattle.ux_base.proofs.OrderedLists.{Contains-at}
use Rattle.ux_reading_table.specs.Numbered.{IsNumberedBy, IsTold}
use Rattle.ux_reading_table.specs.declared.numbered.NumberedLink.{NumberedLink}
use Rattle.ux_reading_table.specs.declared.numbered.NumberedSentence.{NumberedSentence}
use Rattle.ux_sentence.specs.declared.sentence.Link.{Link}
use Rattle.ux_sentence.specs.declared.sentence.Reading.{Reading}
use Rattle.ux_sentence.specs.declared.sentence.Sentence.{Sentence}
use Rattle.ux_sentence.specs.Paths.{last_of}
use Rattle.ux_sentence.specs.Readings.{IsSpellable}
use Rattle.ux_sentence.specs.Valid.{AreNumbered, IsWritable, HasSpellable}
use Rattle.ux_sentence.specs.Written.{reading_text}
use Rattle.ux_sentence.proofs.ReadingLemmas.{spelled_once}
use Rattle.ux_tfst_locate.specs.declared.lattice.SentenceLink.{SentenceLink}
use Rattle.ux_tfst_locate.specs.Sought.{AreSpellable, AreTold, link_of, links_of}

-- the other at the place of the one
pub zip_right : {A B : Type 0} (R : A → B → Type 0) (xs : List A) (ys : List B) (y : B) →
    AllZip R xs ys → Contains ys y → (x : A) × Contains xs x × R x y
zip_right R xs [] y zip (k, low, at) = absurd (omega (arith, low))
zip_right R [] (b ∷ ys) y zip has = absurd zip
zip_right R (a ∷ xs) (b ∷ ys) y zip (zero, low, at) =
    (a, (zero, omega arith, refl), subst (λ z. R a z) at zip.0)
zip_right R (a ∷ xs) (b ∷ ys) y zip (suc k, low, at) =
    let rest = zip_right R xs ys y zip.1 (k, omega (arith, low), at) in
    (rest.0, (suc rest.1.0, omega (arith, rest.1.1), rest.1.2), rest.2)

pub zip_left : {A B : Type 0} (R : A → B → Type 0) (xs : List A) (ys : List B) (x : A) →
    AllZip R xs ys → Contains xs x → (y : B) × Contains ys y × R x y
zip_left R [] ys x zip (k, low, at) = absurd (omega (arith, low))
zip_left R (a ∷ xs) [] x zip has = absurd zip
zip_left R (a ∷ xs) (b ∷ ys) x zip (zero, low, at) =
    (b, (zero, omega arith, refl), subst (λ z. R z b) at zip.0)
zip_left R (a ∷ xs) (b ∷ ys) x zip (suc k, low, at) =
    let rest = zip_left R xs ys x zip.1 (k, omega (arith, low), at) in
    (rest.0, (suc rest.1.0, omega (arith, rest.1.1), rest.1.2), rest.2)

-- sentences that follow each other by number have numbers from the first on
numbers_from : (first : ℕ) (sentences : List Sentence) (one : Sentence) →
    AreNumbered first sentences → Contains sentences one → first ≤ one.number
numbers_from first [] one are has = absurd (nothing_in has)
numbers_from first (sentence ∷ sentences) one are has =
    elim (first_or_later sentence sentences one has) [
      | inl e ↦
          let same = ap (λ (s : Sentence). s.number) e in
          let number = are.0 in omega (arith, same, number)
      | inr later ↦
          let more = numbers_from (first + 1) sentences one are.1 later in
          omega (arith, more)
    ]

-- so a number is that of one sentence
pub one_number : (first : ℕ) (sentences : List Sentence) (one other : Sentence) →
    AreNumbered first sentences → Contains sentences one → Contains sentences other →
    one.number ≡ other.number → one ≡ other
one_number first [] one other are has also same = absurd (nothing_in has)
one_number first (sentence ∷ sentences) one other are has also same =
    elim (first_or_later sentence sentences one has) [
      | inl e ↦ elim (first_or_later sentence sentences other also) [
        | inl f ↦ sym e ∙ f
        | inr later ↦
            let more = numbers_from (first + 1) sentences other are.1 later in
            let number = are.0 in
            let here = ap (λ (s : Sentence). s.number) e in
            absurd (omega (arith, more, number, here, same))
      ]
      | inr before ↦ elim (first_or_later sentence sentences other also) [
        | inl f ↦
            let more = numbers_from (first + 1) sentences one are.1 before in
            let number = are.0 in
            let here = ap (λ (s : Sentence). s.number) f in
            absurd (omega (arith, more, number, here, same))
        | inr later ↦ one_number (first + 1) sentences one other are.1 before later same
      ]
    ]

-- the link of a sentence, with its reading's number, its sentence and the last state of that
pub record StandsFor (readings : List Reading) (sentence : Sentence) (link : Link)
    (told : SentenceLink) : Type 0 where
  pub number : told.sentence ≡ sentence.number
  pub from : told.from ≡ link.from
  pub to : told.to ≡ link.to
  pub last : told.last ≡ last_of sentence
  pub reading : slice_get readings told.reading ≡ Some link.reading

-- a reading with the text is the one with the number
reading_with : (readings : List Reading) (number : ℕ) (reading : Reading) → AreSpellable readings →
    IsSpellable reading → slice_get (map reading_text readings) number ≡ Some (reading_text reading) →
    slice_get readings number ≡ Some reading
reading_with readings number reading each is at =
    let long = length-map readings reading_text in
    let within = slice_get_within (map reading_text readings) number (reading_text reading) at in
    let inside : number < length readings = omega (arith, long, within) in
    let there = slice_get-get_or readings number reading inside in
    let one = get_or readings number reading in
    let spelled = All-contains IsSpellable readings one each
    (Contains-at readings one number there) in
    let text : reading_text one ≡ reading_text reading =
    sym (get_or-map reading_text readings number reading (reading_text reading) inside)
    ∙ get_or_from_slice_get (map reading_text readings) number (reading_text reading)
    (reading_text reading) at in
    there ∙ ap Some (spelled_once one reading spelled is text)

module _ (readings : List Reading) (spellable : AreSpellable readings) (sentences : List Sentence)
    (numbered : List NumberedSentence)
    (are : AreTold (map reading_text readings) sentences numbered) where
  stands : (sentence : Sentence) (told : NumberedSentence) → Contains sentences sentence →
      IsNumberedBy (map reading_text readings) sentence told → (link : Link) (one : NumberedLink) →
      Contains sentence.links link → IsTold (map reading_text readings) one link →
      StandsFor readings sentence link (link_of told one)
  stands sentence told inside is link one has tells = record {
    number = is.number;
    from = tells.from;
    to = tells.to;
    last = ap (λ n. n - 1) is.states;
    reading = reading_with readings one.reading link.reading spellable
        (All-contains HasSpellable sentence.links link
        (All-contains IsWritable sentences sentence are.writable inside).readings has)
        tells.reading;
  }

  -- for each link of a sentence stands one
  pub link_forth : (sentence : Sentence) (link : Link) → Contains sentences sentence →
      Contains sentence.links link → (told : SentenceLink)
      × Contains (flat_map links_of numbered) told × StandsFor readings sentence link told
  link_forth sentence link inside has =
      let one = zip_left (IsNumberedBy (map reading_text readings)) sentences numbered sentence
      are.told inside in
      let told = zip_right (IsTold (map reading_text readings)) one.0.links.items sentence.links link
      one.2.links has in (
        link_of one.0 told.0,
        contains_joined links_of numbered one.0 (link_of one.0 told.0) one.1
            (contains_mapped (link_of one.0) one.0.links.items told.0 told.1),
        stands sentence one.0 inside one.2 link told.0 has told.2,
      )

  -- and each stands for one
  pub link_back : (told : SentenceLink) → Contains (flat_map links_of numbered) told →
      (sentence : Sentence) × (link : Link) × Contains sentences sentence
      × Contains sentence.links link × StandsFor readings sentence link told
  link_back told has =
      let one = contained_joined links_of numbered told has in
      let of = zip_right (IsNumberedBy (map reading_text readings)) sentences numbered one.0
      are.told one.1 in
      let number = contained_mapped (link_of one.0) one.0.links.items told one.2 in
      let link = zip_left (IsTold (map reading_text readings)) one.0.links.items of.0.links number.0
      of.2.links number.1 in (
        of.0,
        link.0,
        of.1,
        link.1,
        subst (StandsFor readings of.0 link.0) number.2
            (stands of.0 one.0 of.1 of.2 link.0 number.0 link.1 link.2),
      )
