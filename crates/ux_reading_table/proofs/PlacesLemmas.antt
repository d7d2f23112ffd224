-- From place to place: the lines of links, the line of a sentence, and a whole sentence.
use Rattle.std.proofs.Common.{arith, ◌≡◌, ℕ, ◌+◌, ◌<◌, List, [], ◌∷◌, ◌++◌, ◌⊎◌, Some, inl, inr, refl, sym, ◌∙◌, subst, length-append, map, ◌↔◌}
use Rattle.std.specs.Prelude.{Contains}
use Rattle.std.specs.List.{AllZip, flat_map}
use Rattle.std.proofs.lemmas.List.{map-append}
use Rattle.std.proofs.lemmas.List.Elements.{Contains-append_cases, Contains-append_left, Contains-append_right}
use Rattle.ux_base.proofs.Lists.{nothing_in, first_or_later, contains_first}
use Rattle.ux_base.proofs.JoinedLists.{joined_push}
use Rattle.ux_sentence.specs.declared.error.SentenceError.{SentenceError}
use Rattle.ux_sentence.specs.declared.error.SentenceError.TheVariants.{NoMemory}
use Rattle.ux_sentence.specs.declared.sentence.Link.{Link}
use Rattle.ux_sentence.specs.declared.sentence.Sentence.{Sentence}
use Rattle.ux_sentence.specs.declared.sentence_line.Opening.TheVariants.{Empty, Automaton}
use Rattle.ux_sentence.specs.Files.{LinkSays, Place, RefusesLinks, Stops}
use Rattle.ux_sentence.specs.Places.{IsPast, RefusesNext}
use Rattle.ux_sentence.proofs.DueLemmas.{IsTold as IsToldTo, due_empty, due_links}
use Rattle.ux_sentence.proofs.LinkLemmas.{LinksSay-push, err_behind}
use Rattle.ux_sentence.proofs.PlaceLemmas.{refuses_links}
use Rattle.ux_reading_table.specs.Noting.{AddsText, AddsTexts, Begins, KeepsPlaces, NotesSentence, ReadsLinks}
use Rattle.ux_reading_table.specs.Numbered.{IsNumberedBy, IsTold, text_of, texts_in}
use Rattle.ux_reading_table.specs.declared.numbered.NumberedLink.{NumberedLink}
use Rattle.ux_reading_table.specs.declared.numbered.NumberedSentence.{NumberedSentence}

-- no line of a link is read
pub ReadsLinks-none : (states : ℕ) (place : Place) → ReadsLinks states 0 place [] place
ReadsLinks-none states place = record {
  many = refl;
  say = refl;
  passed = omega arith;
  told = refl;
  counted = refl;
}

-- one more line of a link is read
pub ReadsLinks-more : (states count : ℕ) (old mid new : Place) (links : List Link)
    (line : List ℕ) (link : Link) → ReadsLinks states count old links mid →
    IsPast line mid new → LinkSays states line link →
    ReadsLinks states (count + 1) old (links ++ link ∷ []) new
ReadsLinks-more states count old mid new links line link reads past says = record {
  many = omega (arith, reads.many, length-append links (link ∷ []));
  say = LinksSay-push states old.lines links line new.lines mid.lines link reads.say past.lines
      says;
  passed = omega (arith, reads.passed, past.passed);
  told = past.told ∙ reads.told;
  counted = past.count ∙ reads.counted;
}

-- the next line is refused
pub links_refused : (states done count : ℕ) (old mid : Place) (links : List Link)
    (error : SentenceError) → ReadsLinks states done old links mid → done < count →
    ((error ≡ NoMemory) ⊎ RefusesNext states mid.lines (mid.passed + 1) error) →
    (error ≡ NoMemory) ⊎ RefusesLinks states count old.lines (old.passed + 1) error
links_refused states done count old mid links error reads more refused =
    err_behind states count old.lines links mid.lines (old.passed + 1) (mid.passed + 1) error
    reads.say (omega (arith, reads.many, more)) (omega (arith, reads.many, reads.passed)) refused

-- the reading stops where a line of a link is refused
pub stops_at_link : (states count : ℕ) (old mid : Place) (error : SentenceError) →
    Begins old (Automaton states count) mid →
    ((error ≡ NoMemory) ⊎ RefusesLinks states count mid.lines (mid.passed + 1) error) →
    (error ≡ NoMemory) ⊎ Stops old error
stops_at_link states count old mid error begins refused = elim refused [
  | inl none ↦ inl none
  | inr bad ↦ inr (inr (
    begins.due,
    refuses_links (old.told + 1) (old.passed + 1) (mid.passed + 1) states count old.lines
        mid.lines begins.line error begins.lines begins.opens (omega (arith, begins.passed)) bad,
  ))
]

-- the place behind the line of a sentence that isn't counted as told yet
abbrev behind_line : Place → Place → Place
behind_line old mid = record {
  lines = mid.lines;
  passed = old.passed + 1;
  told = old.told;
  count = old.count;
}

past_line : (old mid : Place) (line : List ℕ) → old.lines ≡ line ∷ mid.lines →
    IsPast line old (behind_line old mid)
past_line old mid line is = record { lines = is; passed = refl; told = refl; count = refl }

-- the sentence with the next number
abbrev pub next_sentence : Place → (states : ℕ) → List Link → Sentence
next_sentence old states links =
    record { number = old.told + 1; states = states; links = links }

-- a sentence without a path is told
pub tells_none : (old new : Place) → Begins old Empty new →
    IsToldTo old (next_sentence old 0 []) new
tells_none old new begins =
    due_empty old (behind_line old new) new begins.line (next_sentence old 0 []) begins.due
    (past_line old new begins.line begins.lines) refl begins.opens refl refl refl begins.passed
    begins.told begins.counted

-- a sentence with so many links is told
pub tells_many : (states count : ℕ) (old mid new : Place) (links : List Link) →
    Begins old (Automaton states count) mid → ReadsLinks states count mid links new →
    IsToldTo old (next_sentence old states links) new
tells_many states count old mid new links begins reads =
    due_links old (behind_line old mid) new begins.line (next_sentence old states links) count
    begins.due (past_line old mid begins.line begins.lines) refl begins.opens reads.many reads.say
    (omega (arith, reads.passed, begins.passed)) (reads.told ∙ begins.told)
    (reads.counted ∙ begins.counted)

-- no text is added
pub AddsTexts-none : (texts : List (List ℕ)) → AddsTexts texts [] texts
AddsTexts-none texts one = (
  λ has. inl has,
  λ either. elim either [ inl has ↦ has | inr none ↦ absurd (nothing_in none) ],
)

-- one more text is added
AddsTexts-more : (old mid new added : List (List ℕ)) (text : List ℕ) → AddsTexts old added mid →
    AddsText mid text new → AddsTexts old (added ++ text ∷ []) new
AddsTexts-more old mid new added text so_far more one = (
  λ has. elim ((more one).0 has) [
    | inl before ↦ elim ((so_far one).0 before) [
      | inl first ↦ inl first
      | inr earlier ↦ inr (Contains-append_left added (text ∷ []) one earlier)
    ]
    | inr is ↦ inr (Contains-append_right added (text ∷ []) one
        (subst (Contains (text ∷ [])) (sym is) (contains_first text [])))
  ],
  λ either. (more one).1 (elim either [
    | inl first ↦ inl ((so_far one).1 (inl first))
    | inr later ↦ elim (Contains-append_cases added (text ∷ []) one later) [
      | inl earlier ↦ inl ((so_far one).1 (inr earlier))
      | inr last ↦ elim (first_or_later text [] one last) [
        | inl is ↦ inr (sym is)
        | inr none ↦ absurd (nothing_in none)
      ]
    ]
  ]),
)

-- the text of one more link is added
pub adds_link : (old mid new : List (List ℕ)) (links : List Link) (link : Link) →
    AddsTexts old (map text_of links) mid → AddsText mid (text_of link) new →
    AddsTexts old (map text_of (links ++ link ∷ [])) new
adds_link old mid new links link so_far more =
    subst (λ (ts : List (List ℕ)). AddsTexts old ts new)
    (sym (map-append text_of links (link ∷ [])))
    (AddsTexts-more old mid new (map text_of links) (text_of link) so_far more)

-- the texts of one more sentence are added
pub adds_sentence : (old new : List (List ℕ)) (sentences : List Sentence) (sentence : Sentence) →
    ((one : List ℕ) → Contains old one ↔ Contains (flat_map texts_in sentences) one) →
    AddsTexts old (texts_in sentence) new →
    (one : List ℕ) →
    Contains new one ↔ Contains (flat_map texts_in (sentences ++ sentence ∷ [])) one
adds_sentence old new sentences sentence same more one =
    let before = flat_map texts_in sentences in
    let joined = joined_push texts_in sentences sentence in (
      λ has. subst (λ (ts : List (List ℕ)). Contains ts one) (sym joined)
          (elim ((more one).0 has) [
            | inl first ↦ Contains-append_left before (texts_in sentence) one ((same one).0 first)
            | inr later ↦ Contains-append_right before (texts_in sentence) one later
          ]),
      λ there. (more one).1 (elim (Contains-append_cases before (texts_in sentence) one
          (subst (λ (ts : List (List ℕ)). Contains ts one) joined there)) [
            | inl first ↦ inl ((same one).1 first)
            | inr later ↦ inr later
          ]),
    )

-- a link that is told is so where places stay
pub told_still : (old new : List (List ℕ)) (numbered : List NumberedLink) (links : List Link) →
    KeepsPlaces old new → AllZip (IsTold old) numbered links → AllZip (IsTold new) numbered links
told_still old new [] [] kept told = tt
told_still old new [] (y ∷ links) kept told = told
told_still old new (x ∷ numbered) [] kept told = told
told_still old new (x ∷ numbered) (y ∷ links) kept told = (
  record {
    from = told.0.from;
    to = told.0.to;
    reading = kept x.reading (text_of y) told.0.reading;
  },
  told_still old new numbered links kept told.1,
)

-- and so is a sentence
pub numbered_still : (old new : List (List ℕ)) (sentences : List Sentence)
    (numbered : List NumberedSentence) → KeepsPlaces old new →
    AllZip (IsNumberedBy old) sentences numbered → AllZip (IsNumberedBy new) sentences numbered
numbered_still old new [] [] kept told = tt
numbered_still old new [] (y ∷ numbered) kept told = told
numbered_still old new (x ∷ sentences) [] kept told = told
numbered_still old new (x ∷ sentences) (y ∷ numbered) kept told = (
  record {
    number = told.0.number;
    states = told.0.states;
    links = told_still old new y.links.items x.links kept told.0.links;
  },
  numbered_still old new sentences numbered kept told.1,
)

pub KeepsPlaces-then : (old mid new : List (List ℕ)) → KeepsPlaces old mid → KeepsPlaces mid new →
    KeepsPlaces old new
KeepsPlaces-then old mid new first then place text at = then place text (first place text at)

-- a sentence without a path is noted
pub notes_none : (old new : Place) (texts : List (List ℕ)) (numbered : NumberedSentence) →
    Begins old Empty new → numbered.number ≡ new.told → numbered.states ≡ 0 →
    numbered.links.items ≡ [] → NotesSentence (Some numbered) old new texts texts
notes_none old new texts numbered begins number states links =
    let told = tells_none old new begins in (
      next_sentence old 0 [],
      told.0,
      told.1,
      told.2,
      AddsTexts-none texts,
      record {
        number = number ∙ begins.told;
        states = states;
        links = subst (λ (ls : List NumberedLink). AllZip (IsTold texts) ls []) (sym links) tt;
      },
    )

-- a sentence with so many links is noted
pub notes_many : (count : ℕ) (old mid new : Place) (links : List Link)
    (texts noted : List (List ℕ)) (numbered : NumberedSentence) →
    Begins old (Automaton numbered.states count) mid →
    ReadsLinks numbered.states count mid links new → AddsTexts texts (map text_of links) noted →
    AllZip (IsTold noted) numbered.links.items links → numbered.number ≡ mid.told →
    NotesSentence (Some numbered) old new texts noted
notes_many count old mid new links texts noted numbered begins reads adds each number =
    let told = tells_many numbered.states count old mid new links begins reads in (
      next_sentence old numbered.states links,
      told.0,
      told.1,
      told.2,
      adds,
      record { number = number ∙ begins.told; states = refl; links = each },
    )
