-- What is printed for sentences that the format can write is read as these sentences, each without a
-- path made one without states.
use Rattle.std.proofs.Common.{arith, ◌≡◌, ℕ, ◌+◌, ◌<◌, ◌≤◌, ◌^◌, List, [], ◌∷◌, ◌++◌, refl, sym, ◌∙◌, ap, subst, inl, inr, append_assoc, length}
use Rattle.std.specs.Prelude.{All, codes}
use Rattle.std.specs.Fmt.{decimal}
use Rattle.std.proofs.lemmas.List.Elements.{All-head, All-tail}
use Rattle.ux_base.specs.Lines.{lines_of}
use Rattle.ux_dela.specs.Sound.{HasNoFeed}
use Rattle.ux_dela.specs.Printed.{printed}
use Rattle.ux_dela.proofs.SoundLemmas.{no_feed-append}
use Rattle.ux_sentence.specs.declared.sentence.Reading.{Reading}
use Rattle.ux_sentence.specs.declared.sentence.Reading.TheVariants.{Word, Raw}
use Rattle.ux_sentence.specs.declared.sentence.Link.{Link}
use Rattle.ux_sentence.specs.declared.sentence.Sentence.{Sentence}
use Rattle.ux_sentence.specs.Paths.{LeadsOn, IsWellFormed}
use Rattle.ux_sentence.specs.Written.{SPACE, OPENING_BRACE, CLOSING_BRACE, reading_text, head_line, sentence_line, empty_line, line_of_link, ended, link_lines, HasPath, IsPrinted, ArePrinted, IsPrintedFile}
use Rattle.ux_sentence.specs.Readings.{IsSpellable}
use Rattle.ux_sentence.specs.Files.{LinkSays, LinksSay, SentenceSays, Place, Opens, Tells, behind_sentence, AreAll, AreSentences}
use Rattle.ux_sentence.specs.Valid.{HasSpellable, AreNumbered, IsWritable, AreValid, IsKept, AreKept}
use Rattle.ux_sentence.proofs.PrintedEntries.{entry_no_feed}
use Rattle.ux_sentence.proofs.ReadingLemmas.{spelled}
use Rattle.ux_sentence.proofs.LinesLemmas.{IsLine, lines_of-ended, EndsPlain, ends_plain, EndsPlain-behind, decimal_ends_plain, decimal_no_feed, raw_no_feed, raw_ends_plain}

-- the text of a reading is on one line
reading_no_feed : (r : Reading) → IsSpellable r → HasNoFeed (reading_text r)
reading_no_feed (Word e) sound =
    no_feed-append (OPENING_BRACE ∷ []) (printed e ++ CLOSING_BRACE ∷ []) refl
    (no_feed-append (printed e) (CLOSING_BRACE ∷ []) (entry_no_feed e sound) refl)
reading_no_feed (Raw raw) is = raw_no_feed raw is.no_separator

reading_ends_plain : (r : Reading) → IsSpellable r → EndsPlain (reading_text r)
reading_ends_plain (Word e) sound = record {
  front = OPENING_BRACE ∷ printed e;
  last = CLOSING_BRACE;
  whole = refl;
  other = refl;
}
reading_ends_plain (Raw raw) is = raw_ends_plain raw is.some is.no_separator

-- the line of a link
line_of_link_is_line : (link : Link) → link.from < 2 ^ 64 → link.to < 2 ^ 64 →
    IsSpellable link.reading → IsLine (line_of_link link)
line_of_link_is_line link small few is =
    let text = reading_text link.reading in
    let behind = decimal link.to ++ SPACE ∷ text in
    record {
      no_feed = no_feed-append (decimal link.from) (SPACE ∷ behind) (decimal_no_feed link.from small)
          (no_feed-append (SPACE ∷ []) behind refl
          (no_feed-append (decimal link.to) (SPACE ∷ text) (decimal_no_feed link.to few)
          (no_feed-append (SPACE ∷ []) text refl (reading_no_feed link.reading is))));
      no_return = ends_plain (line_of_link link)
          (EndsPlain-behind (decimal link.from) (SPACE ∷ behind)
          (EndsPlain-behind (SPACE ∷ []) behind
          (EndsPlain-behind (decimal link.to) (SPACE ∷ text)
          (EndsPlain-behind (SPACE ∷ []) text (reading_ends_plain link.reading is)))));
    }

-- the head line, and the lines of sentences
head_is_line : (n : ℕ) → n < 2 ^ 64 → IsLine (head_line n)
head_is_line n small = record {
  no_feed = no_feed-append (codes "#TFST ") (decimal n) refl (decimal_no_feed n small);
  no_return = ends_plain (head_line n)
      (EndsPlain-behind (codes "#TFST ") (decimal n) (decimal_ends_plain n small));
}

sentence_is_line : (n s l : ℕ) → n < 2 ^ 64 → s < 2 ^ 64 → l < 2 ^ 64 →
    IsLine (sentence_line n s l)
sentence_is_line n s l small few rest =
    let counts = decimal s ++ SPACE ∷ decimal l in
    record {
      no_feed = no_feed-append (codes "S ") (decimal n ++ SPACE ∷ counts) refl
          (no_feed-append (decimal n) (SPACE ∷ counts) (decimal_no_feed n small)
          (no_feed-append (SPACE ∷ []) counts refl
          (no_feed-append (decimal s) (SPACE ∷ decimal l) (decimal_no_feed s few)
          (no_feed-append (SPACE ∷ []) (decimal l) refl (decimal_no_feed l rest)))));
      no_return = ends_plain (sentence_line n s l)
          (EndsPlain-behind (codes "S ") (decimal n ++ SPACE ∷ counts)
          (EndsPlain-behind (decimal n) (SPACE ∷ counts)
          (EndsPlain-behind (SPACE ∷ []) counts
          (EndsPlain-behind (decimal s) (SPACE ∷ decimal l)
          (EndsPlain-behind (SPACE ∷ []) (decimal l) (decimal_ends_plain l rest))))));
    }

empty_ends_plain : EndsPlain (codes "EMPTY")
empty_ends_plain = record { front = codes "EMPT"; last = 89; whole = refl; other = refl }

empty_is_line : (n : ℕ) → n < 2 ^ 64 → IsLine (empty_line n)
empty_is_line n small = record {
  no_feed = no_feed-append (codes "S ") (decimal n ++ SPACE ∷ codes "EMPTY") refl
      (no_feed-append (decimal n) (SPACE ∷ codes "EMPTY") (decimal_no_feed n small) refl);
  no_return = ends_plain (empty_line n)
      (EndsPlain-behind (codes "S ") (decimal n ++ SPACE ∷ codes "EMPTY")
      (EndsPlain-behind (decimal n) (SPACE ∷ codes "EMPTY")
      (EndsPlain-behind (SPACE ∷ []) (codes "EMPTY") empty_ends_plain)));
}

-- the lines of links say them
links_said : (states : ℕ) (links : List Link) (rest : List ℕ) → states < 2 ^ 64 →
    All HasSpellable links → All (LeadsOn states) links →
    LinksSay states (lines_of (link_lines links ++ rest)) links (lines_of rest)
links_said states [] rest fit are lead = refl
links_said states (link ∷ links) rest fit are lead =
    let line = line_of_link link in
    let spellable = All-head HasSpellable link links are in
    let leads = All-head (LeadsOn states) link links lead in
    let is : IsLine line = line_of_link_is_line link (omega arith) (omega arith) spellable in
    let split : lines_of (link_lines (link ∷ links) ++ rest)
    ≡ line ∷ lines_of (link_lines links ++ rest) =
    ap (λ (t : List ℕ). lines_of t) (append_assoc (ended line) (link_lines links) rest)
    ∙ lines_of-ended line (link_lines links ++ rest) is in
    let says : LinkSays states line link = (
      record {
        text = reading_text link.reading;
        whole = refl;
        reading = spelled link.reading spellable;
        from_state = omega arith;
        to_state = leads.1;
      },
      leads.0,
    ) in
    let later = links_said states links rest fit (All-tail HasSpellable link links are)
    (All-tail (LeadsOn states) link links lead) in
    subst (λ (ls : List (List ℕ)). LinksSay states ls (link ∷ links) (lines_of rest)) (sym split)
    (says, later)

-- a sentence with a path has states
path_states : (s : Sentence) → IsWellFormed s → HasPath s →
    (2 ≤ s.states) × All (LeadsOn s.states) s.links
path_states s well has =
    elim well [ inl none ↦ absurd (omega (arith, none.0, has.0)) | inr some ↦ some ]

-- what a sentence's text says
said_of : (s : Sentence) (text : List ℕ) → IsPrinted s text → (said : Sentence) × IsKept s said
said_of s text is =
    elim is [
      | inl has ↦ (s, inl (has.0, refl))
      | inr none ↦ (
        (let empty : Sentence = record { number = s.number; states = 0; links = [] } in empty),
        inr (none.0, refl),
      )
    ]

-- the text of a sentence says what is kept of it
sentence_said : (s said : Sentence) (text rest : List ℕ) → s.number < 2 ^ 64 → IsWritable s →
    IsPrinted s text → IsKept s said → SentenceSays (lines_of (text ++ rest)) said (lines_of rest)
sentence_said s said text rest small is printed kept =
    elim printed [
      | inl has ↦ elim kept [
        | inl same ↦
            let states = path_states s is.well_formed has.0 in
            let line = sentence_line s.number s.states (length s.links) in
            let split : lines_of (text ++ rest) ≡ line ∷ lines_of (link_lines s.links ++ rest) =
            ap (λ (t : List ℕ). lines_of (t ++ rest)) has.1
            ∙ ap (λ (t : List ℕ). lines_of t) (append_assoc (ended line) (link_lines s.links) rest)
            ∙ lines_of-ended line (link_lines s.links ++ rest)
            (sentence_is_line s.number s.states (length s.links) small is.states_fit is.links_fit) in
            let says : SentenceSays (line ∷ lines_of (link_lines s.links ++ rest)) s (lines_of rest) =
            inr (
              record {
                whole = refl;
                some = states.0;
                states_fit = is.states_fit;
                links_fit = is.links_fit;
              },
              links_said s.states s.links rest is.states_fit is.readings states.1,
            ) in
            let here : SentenceSays (lines_of (text ++ rest)) s (lines_of rest) =
            subst (λ (ls : List (List ℕ)). SentenceSays ls s (lines_of rest)) (sym split) says in
            subst (λ (x : Sentence). SentenceSays (lines_of (text ++ rest)) x (lines_of rest))
            (sym same.1) here
        | inr other ↦ absurd (other.0 has.0)
      ]
      | inr none ↦ elim kept [
        | inl same ↦ absurd (none.0 same.0)
        | inr other ↦
            let empty : Sentence = record { number = s.number; states = 0; links = [] } in
            let line = empty_line s.number in
            let split : lines_of (text ++ rest) ≡ line ∷ lines_of rest =
            ap (λ (t : List ℕ). lines_of (t ++ rest)) none.1
            ∙ lines_of-ended line rest (empty_is_line s.number small) in
            let says : SentenceSays (line ∷ lines_of rest) empty (lines_of rest) =
            inl (record { whole = refl; no_states = refl; no_links = refl }, refl) in
            let here : SentenceSays (lines_of (text ++ rest)) empty (lines_of rest) =
            subst (λ (ls : List (List ℕ)). SentenceSays ls empty (lines_of rest)) (sym split) says in
            subst (λ (x : Sentence). SentenceSays (lines_of (text ++ rest)) x (lines_of rest))
            (sym other.1) here
      ]
    ]

-- a sentence keeps its number
kept_number : (s said : Sentence) → IsKept s said → said.number ≡ s.number
kept_number s said kept =
    elim kept [
      | inl same ↦ ap (λ (x : Sentence). x.number) same.1
      | inr other ↦ ap (λ (x : Sentence). x.number) other.1
    ]

-- what is told from a place on, before which so many sentences were told
record IsToldOf (place : Place) (sentences : List Sentence) : Type 0 where
  said : List Sentence
  kept : AreKept sentences said
  all : AreAll place said

all_said : (sentences : List Sentence) (text : List ℕ) (place : Place) →
    place.lines ≡ lines_of text → place.told + length sentences ≡ place.count →
    place.count < 2 ^ 32 → AreNumbered (place.told + 1) sentences → All IsWritable sentences →
    ArePrinted sentences text → IsToldOf place sentences
all_said [] text place lines counted fit numbered are printed = record {
  said = [];
  kept = tt;
  all = (
    place,
    refl,
    record {
      told = omega (arith, counted);
      no_line = lines ∙ ap (λ (t : List ℕ). lines_of t) printed;
    },
  );
}
all_said (s ∷ sentences) text place lines counted fit numbered are printed =
    let writable = All-head IsWritable s sentences are in
    let told = said_of s printed.0 printed.3 in
    let small : s.number < 2 ^ 64 = omega (arith, numbered.0, counted, fit) in
    let says : SentenceSays (lines_of (printed.0 ++ printed.1)) told.0 (lines_of printed.1) =
    sentence_said s told.0 printed.0 printed.1 small writable printed.3 told.1 in
    let same : lines_of (printed.0 ++ printed.1) ≡ place.lines =
    ap (λ (t : List ℕ). lines_of t) (sym printed.2) ∙ sym lines in
    let tells : Tells place told.0 (lines_of printed.1) = record {
      due = omega (arith, counted);
      number = kept_number s told.0 told.1 ∙ numbered.0;
      says = subst (λ (ls : List (List ℕ)). SentenceSays ls told.0 (lines_of printed.1)) same says;
    } in
    let later = all_said sentences printed.1 (behind_sentence place told.0 (lines_of printed.1))
    refl (omega (arith, counted)) fit numbered.1 (All-tail IsWritable s sentences are) printed.4 in
    record {
      said = told.0 ∷ later.said;
      kept = (told.1, later.kept);
      all = (later.all.0, (lines_of printed.1, tells, later.all.1), later.all.2);
    }

-- what is printed for valid sentences is read as them, each without a path without states
pub printed_is_read : (sentences : List Sentence) (text : List ℕ) → AreValid sentences →
    IsPrintedFile sentences text →
    (said : List Sentence) × AreSentences text said × AreKept sentences said
printed_is_read sentences text valid file =
    let start : Place = record {
      lines = lines_of file.0;
      passed = 1;
      told = 0;
      count = length sentences;
    } in
    let line = head_line (length sentences) in
    let opens : Opens text start = record {
      head = line;
      lines = ap (λ (t : List ℕ). lines_of t) file.1
          ∙ lines_of-ended line file.0 (head_is_line (length sentences) (omega (arith, valid.fit)));
      is_head = refl;
      fits = valid.fit;
      passed = refl;
      told = refl;
    } in
    let all = all_said sentences file.0 start refl (omega arith) valid.fit valid.numbered
    valid.writable file.2 in
    (all.said, (start, opens, all.all), all.kept)
