-- From place to place: which sentence is told, and why none is.
use Rattle.std.proofs.Common.{◌≡◌, ℕ, ◌+◌, ◌<◌, List, [], ◌∷◌, ◌++◌, refl, sym, ◌∙◌, ap, subst, inl, inr, length}
use Rattle.ux_sentence.specs.declared.error.SentenceError.{SentenceError}
use Rattle.ux_sentence.specs.declared.error.SentenceError.TheVariants.{BadLine}
use Rattle.ux_sentence.specs.declared.sentence.Sentence.{Sentence}
use Rattle.ux_sentence.specs.Paths.{IsWellFormed}
use Rattle.ux_sentence.specs.Written.{empty_line}
use Rattle.ux_base.specs.Lines.{lines_of}
use Rattle.ux_sentence.specs.Files.{Place, Opens, HasNoHead, Tells, behind_sentence, SentenceSays, IsOver, Stops, Passes, LinksSay, RefusesLinks, RefusesSentence, IsNoSentenceLine, IsSentenceLine, AreSentences, Refuses}
use Rattle.ux_sentence.specs.Places.{HasNoHeadLine}
use Rattle.ux_sentence.proofs.FileLemmas.{Passes-push, told_well_formed}

-- places with the same parts are the same
pub same_place : (a b : Place) → a.lines ≡ b.lines → a.passed ≡ b.passed → a.told ≡ b.told →
    a.count ≡ b.count → a ≡ b
same_place a b lines passed told count =
    let make = λ (ls : List (List ℕ)) (p t c : ℕ).
    (let made : Place = record { lines = ls; passed = p; told = t; count = c } in
    made) in
    ap (λ ls. make ls a.passed a.told a.count) lines
    ∙ ap (λ p. make b.lines p a.told a.count) passed
    ∙ ap (λ t. make b.lines b.passed t a.count) told
    ∙ ap (λ c. make b.lines b.passed b.told c) count

-- no line is left for the sentence
pub refuses_missing : (number first : ℕ) (lines : List (List ℕ)) (e : SentenceError) →
    lines ≡ [] → e ≡ BadLine first → RefusesSentence number lines first e
refuses_missing number first lines e none is =
    subst (λ (ls : List (List ℕ)). RefusesSentence number ls first e) (sym none) is

-- the next line begins no sentence
pub refuses_line : (number first : ℕ) (lines rest : List (List ℕ)) (line : List ℕ)
    (e : SentenceError) → lines ≡ line ∷ rest → IsNoSentenceLine number line →
    e ≡ BadLine first → RefusesSentence number lines first e
refuses_line number first lines rest line e split bare is =
    subst (λ (ls : List (List ℕ)). RefusesSentence number ls first e) (sym split) (inl (bare, is))

-- a link line is refused
pub refuses_links : (number first at states count : ℕ) (lines rest : List (List ℕ))
    (line : List ℕ) (e : SentenceError) → lines ≡ line ∷ rest →
    IsSentenceLine number line states count → at ≡ first + 1 →
    RefusesLinks states count rest at e → RefusesSentence number lines first e
refuses_links number first at states count lines rest line e split is next r =
    subst (λ (ls : List (List ℕ)). RefusesSentence number ls first e) (sym split)
    (inr (states, count, is, subst (λ (n : ℕ). RefusesLinks states count rest n e) next r))

-- a sentence without a path is told
pub tells_empty : (old : Place) (line : List ℕ) (rest : List (List ℕ)) (s : Sentence) →
    old.told < old.count → old.lines ≡ line ∷ rest → s.number ≡ old.told + 1 →
    line ≡ empty_line (old.told + 1) → s.states ≡ 0 → s.links ≡ [] → Tells old s rest
tells_empty old line rest s due split number is states links = record {
  due = due;
  number = number;
  says = subst (λ (ls : List (List ℕ)). SentenceSays ls s rest) (sym split)
      (inl (
        record {
          whole = is ∙ ap empty_line (sym number);
          no_states = states;
          no_links = links;
        },
        refl,
      ));
}

-- a sentence with links is told
pub tells_links : (old : Place) (line : List ℕ) (rest behind : List (List ℕ)) (s : Sentence)
    (count : ℕ) → old.told < old.count → old.lines ≡ line ∷ rest → s.number ≡ old.told + 1 →
    IsSentenceLine (old.told + 1) line s.states count → length s.links ≡ count →
    LinksSay s.states rest s.links behind → Tells old s behind
tells_links old line rest behind s count due split number is many says = record {
  due = due;
  number = number;
  says = subst (λ (ls : List (List ℕ)). SentenceSays ls s behind) (sym split)
      (inr (
        subst (λ (n : ℕ). IsSentenceLine n line s.states (length s.links)) (sym number)
            (subst (λ (n : ℕ). IsSentenceLine (old.told + 1) line s.states n) (sym many) is),
        says,
      ));
}

-- a sentence that is told from a place on is well formed
pub well_formed_told : (place : Place) (s : Sentence) (b : List (List ℕ)) → Tells place s b →
    IsWellFormed s
well_formed_told place s b is = told_well_formed place.lines s b is.says

-- what was read of a file
pub record IsReadTo (text : List ℕ) (place : Place) (read : List Sentence) : Type 0 where
  pub start : Place
  pub opens : Opens text start
  pub passes : Passes start read place

pub read_start : (text : List ℕ) (place : Place) → Opens text place → IsReadTo text place []
read_start text place opens = record { start = place; opens = opens; passes = refl }

-- one more sentence was read
pub read_more : (text : List ℕ) (place now : Place) (read : List Sentence) (s : Sentence)
    (b : List (List ℕ)) → IsReadTo text place read → Tells place s b →
    now ≡ behind_sentence place s b → IsReadTo text now (read ++ s ∷ [])
read_more text place now read s b so_far tells is = record {
  start = so_far.start;
  opens = so_far.opens;
  passes = Passes-push so_far.start read place now s b so_far.passes tells is;
}

-- the file was read to its end
pub read_whole : (text : List ℕ) (place : Place) (read : List Sentence) →
    IsReadTo text place read → IsOver place → AreSentences text read
read_whole text place read so_far over =
    (so_far.start, so_far.opens, (place, so_far.passes, over))

-- the file is refused where its reader stops
pub read_stops : (text : List ℕ) (place : Place) (read : List Sentence) (e : SentenceError) →
    IsReadTo text place read → Stops place e → Refuses text e
read_stops text place read e so_far stops =
    inr (so_far.start, so_far.opens, (read, place, so_far.passes, stops))

-- the first line is no head line
pub no_head : (text : List ℕ) → HasNoHeadLine (lines_of text) → HasNoHead text
no_head text none start opens =
    let moved : HasNoHeadLine (opens.head ∷ start.lines) =
    subst (λ (ls : List (List ℕ)). HasNoHeadLine ls) opens.lines none in
    moved start.count opens.fits opens.is_head
