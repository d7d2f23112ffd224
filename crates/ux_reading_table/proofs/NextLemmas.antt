-- The sentences of a file whose table has their texts.
use Rattle.std.proofs.Common.{◌≡◌, ℕ, List, [], ◌∷◌, Option, None, Some, inr, refl, sym, ◌∙◌, ap, subst}
use Rattle.std.specs.Prelude.{Contains, MatchOption}
use Rattle.std.specs.List.{AllZip}
use Rattle.ux_base.proofs.Lists.{contains_first, contains_later}
use Rattle.ux_base.proofs.JoinedLists.{contains_joined, contains_mapped}
use Rattle.ux_sentence.specs.declared.error.SentenceError.{SentenceError}
use Rattle.ux_sentence.specs.declared.sentence.Link.{Link}
use Rattle.ux_sentence.specs.declared.sentence.Sentence.{Sentence}
use Rattle.ux_sentence.specs.declared.sentence_line.Opening.TheVariants.{Empty, Automaton}
use Rattle.ux_sentence.specs.Files.{IsOver, Passes, Place, Stops, Tells, behind_sentence}
use Rattle.ux_sentence.proofs.FileLemmas.{one_start, one_told, over_tells}
use Rattle.ux_sentence.proofs.Laws.{not_refused}
use Rattle.ux_sentence.proofs.ValidLemmas.{told_writable}
use Rattle.ux_reading_table.specs.declared.numbered.NumberedLink.{NumberedLink}
use Rattle.ux_reading_table.specs.declared.numbered.NumberedSentence.{NumberedSentence}
use Rattle.ux_reading_table.specs.Noting.{Begins, IsToldIfKnown, ReadsLinks}
use Rattle.ux_reading_table.specs.Numbered.{IsPlaceOf, IsTableOf, IsTold, ReadsNext, text_of, texts_in}
use Rattle.ux_reading_table.specs.Sentences.{TellsNext}
use Rattle.ux_reading_table.proofs.PlacesLemmas.{next_sentence, tells_many, tells_none}

-- a sentence without a path is told
pub tells_next_empty : (texts : List (List ℕ)) (old new : Place) (numbered : NumberedSentence) →
    Begins old Empty new → numbered.number ≡ new.told → numbered.states ≡ 0 →
    numbered.links.items ≡ [] → TellsNext texts old numbered new
tells_next_empty texts old new numbered begins number states links =
    let told = tells_none old new begins in
    record {
      sentence = next_sentence old 0 [];
      behind = told.0;
      tells = told.1;
      is_behind = told.2;
      number = number ∙ begins.told;
      states = states;
      links = subst (λ (ls : List NumberedLink). AllZip (IsToldIfKnown texts) ls []) (sym links) tt;
    }

-- a sentence with so many links is told
pub tells_next_many : (texts : List (List ℕ)) (count : ℕ) (old mid new : Place)
    (numbered : NumberedSentence) (links : List Link) →
    Begins old (Automaton numbered.states count) mid →
    ReadsLinks numbered.states count mid links new →
    AllZip (IsToldIfKnown texts) numbered.links.items links → numbered.number ≡ mid.told →
    TellsNext texts old numbered new
tells_next_many texts count old mid new numbered links begins reads each number =
    let told = tells_many numbered.states count old mid new links begins reads in
    record {
      sentence = next_sentence old numbered.states links;
      behind = told.0;
      tells = told.1;
      is_behind = told.2;
      number = number ∙ begins.told;
      states = refl;
      links = each;
    }

-- a sentence that is told behind others is one of all
told_is_one : (place : Place) (all front : List Sentence) (end at : Place) (s : Sentence)
    (b : List (List ℕ)) → Passes place all end → IsOver end → Passes place front at →
    Tells at s b → Contains all s
told_is_one place [] [] end at s b passes over here tells =
    absurd (over_tells place s b (subst (λ (x : Place). IsOver x) (sym passes) over)
    (subst (λ (x : Place). Tells x s b) (sym here) tells))
told_is_one place [] (t ∷ front) end at s b passes over here tells =
    absurd (over_tells place t here.0 (subst (λ (x : Place). IsOver x) (sym passes) over) here.1)
told_is_one place (x ∷ all) [] end at s b passes over here tells =
    let same = one_told place x s passes.0 b passes.1
    (subst (λ (p : Place). Tells p s b) (sym here) tells) in
    subst (Contains (x ∷ all)) same.0 (contains_first x all)
told_is_one place (x ∷ all) (t ∷ front) end at s b passes over here tells =
    let same = one_told place x t passes.0 here.0 passes.1 here.1 in
    let there : behind_sentence place x passes.0 ≡ behind_sentence place t here.0 =
    ap (λ (y : Sentence). behind_sentence place y passes.0) same.0
    ∙ ap (λ (c : List (List ℕ)). behind_sentence place t c) same.1 in
    contains_later x all s (told_is_one (behind_sentence place t here.0) all front end at s b
    (subst (λ (p : Place). Passes p all end) there passes.2) over here.2 tells)

module _ (text : List ℕ) (texts : List (List ℕ)) (place : Place) (table : IsTableOf text texts)
    (at : IsPlaceOf text place) where
  -- no place of the file stops the reading
  pub never_stops : (error : SentenceError) → Stops place error → ⊥
  never_stops error stops =
      not_refused text table.sentences error table.said
      (inr (at.start, at.opens, (at.front, place, at.passes, stops)))

  -- a sentence that is told is one of the file
  is_of_file : (s : Sentence) (b : List (List ℕ)) → Tells place s b → Contains table.sentences s
  is_of_file s b tells =
      let (start, opens, (end, passes, over)) = table.said in
      let same = one_start text start at.start opens at.opens in
      told_is_one at.start table.sentences at.front end place s b
      (subst (λ (x : Place). Passes x table.sentences end) same passes) over at.passes tells

  -- so the table has the texts of its links
  has_text : (s : Sentence) (b : List (List ℕ)) → Tells place s b → (link : Link) →
      Contains s.links link → Contains texts (text_of link)
  has_text s b tells link has =
      (table.same (text_of link)).1 (contains_joined texts_in table.sentences s (text_of link)
      (is_of_file s b tells) (contains_mapped text_of s.links link has))

  -- and its links are told
  all_told : (numbered : List NumberedLink) (links : List Link) →
      AllZip (IsToldIfKnown texts) numbered links →
      ((link : Link) → Contains links link → Contains texts (text_of link)) →
      AllZip (IsTold texts) numbered links
  all_told [] [] each known = tt
  all_told [] (y ∷ links) each known = each
  all_told (x ∷ numbered) [] each known = each
  all_told (x ∷ numbered) (y ∷ links) each known = (
    each.0 (known y (contains_first y links)),
    all_told numbered links each.1 (λ link has. known link (contains_later y links link has)),
  )

  reads_next : (new : Place) (numbered : NumberedSentence) → TellsNext texts place numbered new →
      ReadsNext texts place numbered new
  reads_next new numbered told = record {
    sentence = told.sentence;
    behind = told.behind;
    tells = told.tells;
    is_behind = told.is_behind;
    is_numbered = record {
      number = told.number;
      states = told.states;
      links = all_told numbered.links.items told.sentence.links told.links
          (has_text told.sentence told.behind told.tells);
    };
    writable = told_writable text at.start place at.front told.sentence told.behind at.opens
        at.passes told.tells;
  }

  -- what is read at the place
  pub next_read : (new : Place) (found : Option NumberedSentence) →
      MatchOption found (IsOver place) (λ numbered. TellsNext texts place numbered new) →
      MatchOption found (IsOver place) (λ numbered. ReadsNext texts place numbered new)
  next_read new None over = over
  next_read new (Some numbered) told = reads_next new numbered told
