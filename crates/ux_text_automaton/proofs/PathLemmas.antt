-- The paths of a sentence's links are the lists of readings that follow each other on its tokens.
use Rattle.std.proofs.Common.{arith, ◌≡◌, ◌↔◌, ℕ, ◌+◌, ◌≤◌, List, [], ◌∷◌, map, refl, sym, ◌∙◌, ap, subst, inl, inr}
use Rattle.std.specs.Prelude.{Contains}
use Rattle.std.proofs.lemmas.Bool.{cases_lt}
use Rattle.ux_alphabet.specs.Letters.{Letters}
use Rattle.ux_tokens.specs.Tokens.{Token}
use Rattle.ux_lexical_tables.specs.Belonging.{Belongs}
use Rattle.ux_lexical_tables.specs.Tables.{Tables}
use Rattle.ux_sentence.specs.Paths.{IsPath, IsReadAs, last_of}
use Rattle.ux_sentence.specs.declared.sentence.Reading.{Reading}
use Rattle.ux_sentence.specs.declared.sentence.Link.{Link}
use Rattle.ux_sentence.specs.declared.sentence.Sentence.{Sentence}
use Rattle.ux_text_automaton.specs.declared.run.Run.{Run}
use Rattle.ux_text_automaton.specs.Built.{AreLinks, IsLinkAt, StandsOn}
use Rattle.ux_text_automaton.specs.Runs.{IsRun, state_at}
use Rattle.ux_text_automaton.specs.SentencePaths.{Analysis, AreSpaces, Follow, IsPathOf}
use Rattle.ux_text_automaton.proofs.LinkLemmas.{stands_on}
use Rattle.ux_text_automaton.proofs.StateLemmas.{over_spaces, spaces_between, state_first, state_less}

reading_of : Analysis → Reading
reading_of analysis = analysis.reading

reading_on : Link → Reading
reading_on link = link.reading

module _ (alphabet : Letters) (tokens : List Token) (tables : Tables)
    (belongs : Belongs alphabet tokens tables) (run : Run) (is_run : IsRun tokens run)
    (links : List Link) (are : AreLinks tokens tables run links) where
  abbrev at : ℕ → ℕ
  at place = state_at tokens run.first place

  -- ALONG LINKS

  abbrev Analysed : (place : ℕ) → List Link → Type 0
  Analysed place path = (analyses : List Analysis)
      × Follow tokens (StandsOn tokens tables) place run.end analyses
      × (map (λ (analysis : Analysis). analysis.reading) analyses
      ≡ map (λ (link : Link). link.reading) path)

  -- a link goes on from the next token that isn't a space
  next_token : (place first last : ℕ) (link : Link) → run.first ≤ place → place ≤ run.end →
      IsLinkAt tokens tables run first last link → link.from ≡ at place →
      AreSpaces tokens place first
  next_token place first last link from to is start =
      let on = stands_on alphabet tokens tables belongs first last link.reading is.stands in
      let inside = is_run.within in
      let ordered = on.0 in
      let ends = is.ends in
      let same : at first ≡ at place = sym is.from ∙ start in
      let le : place ≤ first = elim (cases_lt first place) [
        | inl less ↦ absurd (omega (
          arith,
          state_less tokens run.first first place is.begins on.1 less (omega (arith, to, inside)),
          same,
        ))
        | inr le ↦ le
      ] in
      spaces_between tokens run.first place first from le (omega (arith, ordered, ends, inside)) same

  analysed : (path : List Link) (place : ℕ) → run.first ≤ place → place ≤ run.end →
      IsPath links (at place) (at run.end) path → Analysed place path
  analysed [] place from to same = (
    [],
    spaces_between tokens run.first place run.end from to is_run.within (sym same),
    refl,
  )
  analysed (link ∷ path) place from to (has, start, rest) =
      let found = (are.exact link).0 has in
      let first = found.0 in
      let last = found.1 in
      let is = found.2 in
      let on = stands_on alphabet tokens tables belongs first last link.reading is.stands in
      let begins = is.begins in
      let ends = is.ends in
      let ordered = on.0 in
      let more = analysed path (last + 1) (omega (arith, begins, ordered)) (omega (arith, ends))
      (subst (λ (n : ℕ). IsPath links n (at run.end) path) is.to rest) in
      let here : Analysis = record { first = first; last = last; reading = link.reading } in (
        here ∷ more.0,
        (next_token place first last link from to is start, is.ends, is.stands, more.1),
        ap (λ (readings : List Reading). link.reading ∷ readings) more.2,
      )

  -- ALONG TOKENS

  abbrev Linked : (place : ℕ) → List Analysis → Type 0
  Linked place analyses = (path : List Link) × IsPath links (at place) (at run.end) path
      × (map (λ (link : Link). link.reading) path
      ≡ map (λ (analysis : Analysis). analysis.reading) analyses)

  linked : (analyses : List Analysis) (place : ℕ) → run.first ≤ place →
      Follow tokens (StandsOn tokens tables) place run.end analyses → Linked place analyses
  linked [] place from spaces = ([], sym (over_spaces tokens run.first place run.end from spaces), refl)
  linked (analysis ∷ analyses) place from (spaces, ends, reads, rest) =
      let first = analysis.first in
      let last = analysis.last in
      let on = stands_on alphabet tokens tables belongs first last analysis.reading reads in
      let ordered = on.0 in
      let behind = spaces.in_order in
      let link : Link = record { from = at first; to = at (last + 1); reading = analysis.reading } in
      let is : IsLinkAt tokens tables run first last link = record {
        begins = omega (arith, from, behind);
        ends = ends;
        stands = reads;
        from = refl;
        to = refl;
      } in
      let has : Contains links link = (are.exact link).1 (first, last, is) in
      let more = linked analyses (last + 1) (omega (arith, from, behind, ordered)) rest in (
        link ∷ more.0,
        (has, over_spaces tokens run.first place first from spaces, more.1),
        ap (λ (readings : List Reading). analysis.reading ∷ readings) more.2,
      )

  -- BOTH WAYS

  -- the lists of readings along the links are those that follow each other on the tokens
  pub paths_are : (sentence : Sentence) → sentence.states ≡ state_at tokens run.first run.end + 1 →
      sentence.links ≡ links → (readings : List Reading) →
      IsReadAs sentence readings ↔ IsPathOf tokens (StandsOn tokens tables) run readings
  paths_are sentence states links_is readings = (
    λ (some, (path, is, spelled)). (
        let whole = analysed path run.first (omega arith) ordered
        (subst (λ (n : ℕ). IsPath links (at run.first) n path) last
        (subst (λ (n : ℕ). IsPath links n (last_of sentence) path) (sym start)
        (subst (λ (l : List Link). IsPath l 0 (last_of sentence) path) links_is is))) in
        (whole.0, whole.1, whole.2 ∙ spelled)),
    λ (analyses, follow, spelled). (
        let whole = linked analyses run.first (omega arith) follow in (
          omega (arith, states),
          (
            whole.0,
            subst (λ (l : List Link). IsPath l 0 (last_of sentence) whole.0) (sym links_is)
                (subst (λ (n : ℕ). IsPath links n (last_of sentence) whole.0) start
                (subst (λ (n : ℕ). IsPath links (at run.first) n whole.0) (sym last) whole.1)),
            whole.2 ∙ spelled,
          ),
        )),
  )
    where
      start : at run.first ≡ 0
      start = state_first tokens run.first

      last : last_of sentence ≡ at run.end
      last = omega (arith, states)

      ordered : run.first ≤ run.end
      ordered =
          let low = is_run.some.1 in
          let high = is_run.some.2 in
          omega (arith, low, high)

-- readings by another word for them
pub follow_like : (tokens : List Token) (Reads Others : (first last : ℕ) → Reading → Type 0) →
    ((first last : ℕ) (reading : Reading) → Reads first last reading → Others first last reading) →
    (place end : ℕ) (path : List Analysis) → Follow tokens Reads place end path →
    Follow tokens Others place end path
follow_like tokens Reads Others means place end [] spaces = spaces
follow_like tokens Reads Others means place end (analysis ∷ path) (spaces, ends, reads, rest) = (
  spaces,
  ends,
  means analysis.first analysis.last analysis.reading reads,
  follow_like tokens Reads Others means (analysis.last + 1) end path rest,
)
