-- The lines of a sentence that is told by numbers are those of the sentence.
use Rattle.std.proofs.Common.{arith, ◌≡◌, ℕ, ◌+◌, ◌<◌, ◌≤◌, List, [], ◌∷◌, ◌++◌, inl, refl, sym, ◌∙◌, ap, append_assoc, length, get_or, take}
use Rattle.std.specs.Prelude.{All}
use Rattle.std.specs.List.{AllZip}
use Rattle.std.proofs.lemmas.List.{append-nil, get_or_default}
use Rattle.std.proofs.lemmas.Option.{get_or_from_slice_get}
use Rattle.std.proofs.lemmas.Slice.Zip.{AllZip-long}
use Rattle.ux_base.proofs.Lists.{take_more, take_whole}
use Rattle.ux_sentence.specs.declared.sentence.Link.{Link}
use Rattle.ux_sentence.specs.declared.sentence.Sentence.{Sentence}
use Rattle.ux_sentence.specs.Written.{HasPath, IsPrinted, ended, line_of_link, link_line, link_lines, sentence_line}
use Rattle.ux_reading_table.specs.declared.numbered.NumberedLink.{NumberedLink}
use Rattle.ux_reading_table.specs.declared.numbered.NumberedSentence.{NumberedSentence}
use Rattle.ux_reading_table.specs.Numbered.{IsNumberedBy, IsTold, text_of}

-- the line of a link in numbers, with its line feed
abbrev pub numbered_line : List (List ℕ) → NumberedLink → List ℕ
numbered_line texts link = ended (link_line link.from link.to (get_or texts link.reading []))

-- a line for each link
abbrev pub numbered_lines : List (List ℕ) → List NumberedLink → List ℕ
numbered_lines texts [] = []
numbered_lines texts (link ∷ links) = numbered_line texts link ++ numbered_lines texts links

numbered_lines-push : (texts : List (List ℕ)) (links : List NumberedLink) (link : NumberedLink) →
    numbered_lines texts (links ++ link ∷ [])
    ≡ numbered_lines texts links ++ numbered_line texts link
numbered_lines-push texts [] link = append-nil (numbered_line texts link)
numbered_lines-push texts (x ∷ links) link =
    ap (λ (t : List ℕ). numbered_line texts x ++ t) (numbered_lines-push texts links link)
    ∙ sym (append_assoc (numbered_line texts x) (numbered_lines texts links)
    (numbered_line texts link))

-- the lines so far and the next one
lines_more : (texts : List (List ℕ)) (links : List NumberedLink) (i : ℕ) (link : NumberedLink)
    (old file new head : List ℕ) → i < length links → link ≡ get_or links i link →
    file ≡ old ++ (head ++ numbered_lines texts (take i links)) →
    new ≡ file ++ numbered_line texts link →
    new ≡ old ++ (head ++ numbered_lines texts (take (i + 1) links))
lines_more texts links i link old file new head lt is so_far added =
    let front : take i links ++ link ∷ [] ≡ take (i + 1) links =
    ap (λ (l : NumberedLink). take i links ++ l ∷ []) is ∙ sym (take_more links i link lt) in
    let line = numbered_line texts link in
    added ∙ ap (λ (t : List ℕ). t ++ line) so_far
    ∙ append_assoc old (head ++ numbered_lines texts (take i links)) line
    ∙ ap (λ (t : List ℕ). old ++ t)
    (append_assoc head (numbered_lines texts (take i links)) line
    ∙ ap (λ (t : List ℕ). head ++ t) (sym (numbered_lines-push texts (take i links) link)
    ∙ ap (numbered_lines texts) front))

-- the same of the link at a place, whose reading is told by its text
pub lines_next : (texts : List (List ℕ)) (links items : List NumberedLink) (i : ℕ)
    (d : NumberedLink) (shown reading old file new head : List ℕ) → items ≡ links →
    i < length items → All (λ link. link.reading < length texts) links →
    shown ≡ get_or texts (get_or items i d).reading shown → reading ≡ shown →
    file ≡ old ++ (head ++ numbered_lines texts (take i links)) →
    new ≡ file ++ ended (link_line (get_or items i d).from (get_or items i d).to reading) →
    new ≡ old ++ (head ++ numbered_lines texts (take (i + 1) links))
lines_next texts links items i d shown reading old file new head same lt within is says so_far
    added =
    let link = get_or items i d in
    let inside : i < length links = omega (arith, lt, ap length same) in
    let here : link ≡ get_or links i d = ap (λ (ls : List NumberedLink). get_or ls i d) same in
    let known : link.reading < length texts =
    omega (arith, within i d inside, ap (λ (l : NumberedLink). l.reading) here) in
    let text : reading ≡ get_or texts link.reading [] =
    says ∙ is ∙ get_or_default texts link.reading shown [] known in
    lines_more texts links i link old file new head inside
    (here ∙ get_or_default links i d link inside) so_far
    (added ∙ ap (λ (t : List ℕ). file ++ ended (link_line link.from link.to t)) text)

-- the line of a link that is told
line_told : (texts : List (List ℕ)) (numbered : NumberedLink) (link : Link) →
    IsTold texts numbered link → numbered_line texts numbered ≡ ended (line_of_link link)
line_told texts numbered link is =
    let text = get_or_from_slice_get texts numbered.reading (text_of link) [] is.reading in
    ap (λ (n : ℕ). ended (link_line n numbered.to (get_or texts numbered.reading []))) is.from
    ∙ ap (λ (n : ℕ). ended (link_line link.from n (get_or texts numbered.reading []))) is.to
    ∙ ap (λ (t : List ℕ). ended (link_line link.from link.to t)) text

-- so the lines are those of the links
lines_told : (texts : List (List ℕ)) (numbered : List NumberedLink) (links : List Link) →
    AllZip (IsTold texts) numbered links → numbered_lines texts numbered ≡ link_lines links
lines_told texts [] [] told = refl
lines_told texts [] (y ∷ links) told = absurd told
lines_told texts (x ∷ numbered) [] told = absurd told
lines_told texts (x ∷ numbered) (y ∷ links) told =
    ap (λ (t : List ℕ). t ++ numbered_lines texts numbered) (line_told texts x y told.0)
    ∙ ap (λ (t : List ℕ). ended (line_of_link y) ++ t) (lines_told texts numbered links told.1)

-- what is printed of a sentence with states
pub printed_lines : (texts : List (List ℕ)) (numbered : NumberedSentence) (old : Sentence) (i : ℕ) →
    length numbered.links.items ≤ i → IsNumberedBy texts old numbered → HasPath old →
    IsPrinted old (ended (sentence_line numbered.number numbered.states
    (length numbered.links.items)) ++ numbered_lines texts (take i numbered.links.items))
printed_lines texts numbered old i all is path =
    let lines : numbered_lines texts (take i numbered.links.items) ≡ link_lines old.links =
    ap (numbered_lines texts) (take_whole numbered.links.items i all)
    ∙ lines_told texts numbered.links.items old.links is.links in
    let long : length numbered.links.items ≡ length old.links =
    sym (AllZip-long (IsTold texts) numbered.links.items old.links is.links) in
    inl (
      path,
      ap (λ (n : ℕ). ended (sentence_line n numbered.states (length numbered.links.items))
          ++ numbered_lines texts (take i numbered.links.items)) is.number
          ∙ ap (λ (n : ℕ). ended (sentence_line old.number n (length numbered.links.items))
          ++ numbered_lines texts (take i numbered.links.items)) is.states
          ∙ ap (λ (n : ℕ). ended (sentence_line old.number old.states n)
          ++ numbered_lines texts (take i numbered.links.items)) long
          ∙ ap (λ (t : List ℕ). ended (sentence_line old.number old.states (length old.links)) ++ t)
          lines,
    )
