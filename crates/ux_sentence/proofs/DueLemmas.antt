-- What the reader tells at a place, and what it answers for a whole file.
use Rattle.std.proofs.Common.{arith, ◌≡◌, ℕ, ◌+◌, ◌<◌, List, [], ◌∷◌, ◌++◌, refl, sym, ◌∙◌, ap, subst, ◌⊎◌, inl, inr, length}
use Rattle.std.specs.Prelude.{All}
use Rattle.std.proofs.lemmas.List.Elements.{All-push, All-nil}
use Rattle.ux_sentence.specs.declared.error.SentenceError.{SentenceError}
use Rattle.ux_sentence.specs.declared.error.SentenceError.TheVariants.{BadLine, NoMemory}
use Rattle.ux_sentence.specs.declared.sentence.Link.{Link}
use Rattle.ux_sentence.specs.declared.sentence.Sentence.{Sentence}
use Rattle.ux_sentence.specs.Paths.{IsWellFormed}
use Rattle.ux_sentence.specs.Written.{empty_line}
use Rattle.ux_sentence.specs.Files.{Place, Opens, HasNoHead, Tells, behind_sentence, IsOver, Stops, LinksSay, RefusesSentence, IsSentenceLine, Refuses}
use Rattle.ux_sentence.specs.Places.{IsPast}
use Rattle.ux_sentence.proofs.Laws.{not_refused}
use Rattle.ux_sentence.proofs.PlaceLemmas.{same_place, tells_empty, tells_links, well_formed_told, IsReadTo, read_start, read_more, read_whole, read_stops}

-- a sentence is told from one place on, up to another
abbrev pub IsTold : Place → Sentence → Place → Type 0
IsTold old s new = (behind : List (List ℕ)) × Tells old s behind
    × (new ≡ behind_sentence old s behind)

-- a sentence without a path
pub due_empty : (old mid new : Place) (line : List ℕ) (s : Sentence) → old.told < old.count →
    IsPast line old mid → s.number ≡ old.told + 1 → line ≡ empty_line (old.told + 1) →
    s.states ≡ 0 → s.links ≡ [] → new.lines ≡ mid.lines → new.passed ≡ mid.passed →
    new.told ≡ old.told + 1 → new.count ≡ mid.count → IsTold old s new
due_empty old mid new line s due past number is states links lines passed told count = (
  mid.lines,
  tells_empty old line mid.lines s due past.lines number is states links,
  same_place new (behind_sentence old s mid.lines) lines
      (omega (arith, passed, past.passed, ap length links)) told
      (omega (arith, count, past.count)),
)

-- a sentence with links
pub due_links : (old mid new : Place) (line : List ℕ) (s : Sentence) (many : ℕ) →
    old.told < old.count → IsPast line old mid → s.number ≡ old.told + 1 →
    IsSentenceLine (old.told + 1) line s.states many → length s.links ≡ many →
    LinksSay s.states mid.lines s.links new.lines → new.passed ≡ mid.passed + many →
    new.told ≡ old.told + 1 → new.count ≡ mid.count → IsTold old s new
due_links old mid new line s many due past number is same says passed told count = (
  new.lines,
  tells_links old line mid.lines new.lines s many due past.lines number is same says,
  same_place new (behind_sentence old s new.lines) refl
      (omega (arith, passed, past.passed, same)) told (omega (arith, count, past.count)),
)

-- a sentence that is told is well formed
pub told_is_well_formed : (old new : Place) (s : Sentence) → IsTold old s new → IsWellFormed s
told_is_well_formed old new s told = well_formed_told old s told.0 told.1

-- out of memory, or stopped, since no sentence is told where one is due
pub due_refused : (place : Place) (e : SentenceError) → place.told < place.count →
    ((e ≡ NoMemory) ⊎ RefusesSentence (place.told + 1) place.lines (place.passed + 1) e) →
    (e ≡ NoMemory) ⊎ Stops place e
due_refused place e due r = elim r [ inl none ↦ inl none | inr bad ↦ inr (inr (due, bad)) ]

-- a sentence more was read
pub read_told : (text : List ℕ) (place now : Place) (read items : List Sentence) (s : Sentence) →
    IsReadTo text place read → IsTold place s now → items ≡ read ++ s ∷ [] →
    IsReadTo text now items
read_told text place now read items s so_far told is =
    subst (λ (ss : List Sentence). IsReadTo text now ss) (sym is)
    (read_more text place now read s told.0 so_far told.1 told.2)

pub well_told : (place now : Place) (read items : List Sentence) (s : Sentence) →
    All IsWellFormed read → IsTold place s now → items ≡ read ++ s ∷ [] → All IsWellFormed items
well_told place now read items s well told is =
    subst (λ (ss : List Sentence). All IsWellFormed ss) (sym is)
    (All-push IsWellFormed read s well (told_is_well_formed place now s told))

-- fewer sentences are left
pub fewer_left : (place now : Place) (s : Sentence) → IsTold place s now →
    (place.told < place.count) × (now.told ≡ place.told + 1) × (now.count ≡ place.count)
fewer_left place now s told = (
  told.1.due,
  ap (λ (p : Place). p.told) told.2,
  ap (λ (p : Place). p.count) told.2,
)

-- the first line is refused
pub open_refused : (text : List ℕ) (e : SentenceError) → (e ≡ BadLine 1) × HasNoHead text →
    (e ≡ NoMemory) ⊎ Refuses text e
open_refused text e h = inr (inl (h.1, h.0))

-- a later line is refused
pub next_refused : (text : List ℕ) (place : Place) (read : List Sentence) (e : SentenceError) →
    IsReadTo text place read → ((e ≡ NoMemory) ⊎ Stops place e) →
    (e ≡ NoMemory) ⊎ Refuses text e
next_refused text place read e so_far r = elim r [
  | inl none ↦ inl none
  | inr stops ↦ inr (read_stops text place read e so_far stops)
]

-- a file that was read to its end isn't refused
pub read_exact : (text : List ℕ) (place : Place) (read : List Sentence) →
    IsReadTo text place read → IsOver place → (e : SentenceError) → Refuses text e → ⊥
read_exact text place read so_far over e refuses =
    not_refused text read e (read_whole text place read so_far over) refuses

-- the same, from the parts of the places
pub empty_from : (old mid new : Place) (line : List ℕ) (s : Sentence) (told : ℕ) →
    told ≡ old.told → old.told < old.count → IsPast line old mid → s.number ≡ told + 1 →
    line ≡ empty_line (told + 1) → s.states ≡ 0 → s.links ≡ [] → new.lines ≡ mid.lines →
    new.passed ≡ mid.passed → new.told ≡ told + 1 → new.count ≡ mid.count → IsTold old s new
empty_from old mid new line s told same due past number is states links lines passed after count =
    let next : told + 1 ≡ old.told + 1 = omega (arith, same) in
    due_empty old mid new line s due past (number ∙ next) (is ∙ ap empty_line next) states links
    lines passed (after ∙ next) count

pub links_from : (old mid new : Place) (line : List ℕ) (s : Sentence) (many told passed count : ℕ)
    (lines : List (List ℕ)) (items : List Link) → told ≡ old.told → lines ≡ mid.lines →
    passed ≡ mid.passed → count ≡ mid.count → old.told < old.count → IsPast line old mid →
    s.number ≡ told + 1 → IsSentenceLine (told + 1) line s.states many → s.links ≡ items →
    length items ≡ many → LinksSay s.states lines items new.lines → new.passed ≡ passed + many →
    new.told ≡ told + 1 → new.count ≡ count → IsTold old s new
links_from old mid new line s many told passed count lines items same place went_from total due past number
    is given all says went after stays =
    let next : told + 1 ≡ old.told + 1 = omega (arith, same) in
    let here : LinksSay s.states mid.lines items new.lines =
    subst (λ (ls : List (List ℕ)). LinksSay s.states ls items new.lines) place says in
    due_links old mid new line s many due past (number ∙ next)
    (subst (λ (n : ℕ). IsSentenceLine n line s.states many) next is) (ap length given ∙ all)
    (subst (λ (ls : List Link). LinksSay s.states mid.lines ls new.lines) (sym given) here)
    (omega (arith, went, went_from)) (after ∙ next) (stays ∙ total)

-- at first nothing was read
pub read_begin : (text : List ℕ) (place : Place) (items : List Sentence) → Opens text place →
    items ≡ [] → IsReadTo text place items
read_begin text place items opens none =
    subst (λ (ss : List Sentence). IsReadTo text place ss) (sym none)
    (read_start text place opens)

pub well_begin : (items : List Sentence) → items ≡ [] → All IsWellFormed items
well_begin items none =
    subst (λ (ss : List Sentence). All IsWellFormed ss) (sym none) (All-nil IsWellFormed)
