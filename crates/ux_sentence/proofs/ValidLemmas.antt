-- What was read is valid: numbered, well formed, and of readings that can be spelled.
use Rattle.std.proofs.Common.{arith, ◌≡◌, ℕ, ◌+◌, List, [], ◌∷◌, ◌++◌, refl, sym, ap, subst, inl, inr, length}
use Rattle.std.specs.Prelude.{All}
use Rattle.std.specs.Fmt.{decimal}
use Rattle.std.proofs.lemmas.List.Elements.{All-nil, All-cons, All-head, All-tail}
use Rattle.ux_base.specs.EachLine.{AreSaid, no_line, line_then}
use Rattle.ux_base.specs.Lines.{lines_of}
use Rattle.ux_dela.specs.Sound.{HasNoFeed}
use Rattle.ux_dela.proofs.SoundLemmas.{good_file, lines_of-no_feed, no_feed-rest}
use Rattle.ux_sentence.specs.declared.sentence.Link.{Link}
use Rattle.ux_sentence.specs.declared.sentence.Sentence.{Sentence}
use Rattle.ux_sentence.specs.Written.{SPACE, link_line}
use Rattle.ux_sentence.specs.Files.{IsLinkLine, LinksSay, SentenceSays, Place, Opens, Tells, behind_sentence, Passes, AreSentences}
use Rattle.ux_sentence.specs.Valid.{HasSpellable, AreNumbered, IsWritable, AreValid}
use Rattle.ux_sentence.proofs.ReadingLemmas.{read_spellable}
use Rattle.ux_sentence.proofs.FileLemmas.{told_well_formed}

-- no line has a line feed
abbrev AreFeedless : List (List ℕ) → Type 0
AreFeedless lines = All HasNoFeed lines

-- each line by itself
abbrev SaysItself : List ℕ → List (List ℕ) → Type 0
SaysItself line said = said ≡ line ∷ []

say_themselves : (lines : List (List ℕ)) → AreSaid SaysItself lines lines
say_themselves [] = no_line
say_themselves (line ∷ lines) =
    line_then line lines (line ∷ []) lines refl (say_themselves lines)

itself_feedless : (line : List ℕ) (said : List (List ℕ)) → HasNoFeed line →
    SaysItself line said → AreFeedless said
itself_feedless line said none is =
    subst (λ (ls : List (List ℕ)). AreFeedless ls) (sym is)
    (All-cons HasNoFeed line [] none (All-nil HasNoFeed))

lines_feedless : (text : List ℕ) → AreFeedless (lines_of text)
lines_feedless text =
    good_file SaysItself HasNoFeed itself_feedless (lines_of text) (lines_of text)
    (lines_of-no_feed text) (say_themselves (lines_of text))

-- the reading of a line can be spelled
link_spellable : (states : ℕ) (line : List ℕ) (link : Link) → HasNoFeed line →
    IsLinkLine states line link → HasSpellable link
link_spellable states line link none is =
    let whole : HasNoFeed (link_line link.from link.to is.text) =
    subst (λ (t : List ℕ). HasNoFeed t) is.whole none in
    let behind = no_feed-rest (SPACE ∷ []) (decimal link.to ++ SPACE ∷ is.text)
    (no_feed-rest (decimal link.from) (SPACE ∷ (decimal link.to ++ SPACE ∷ is.text)) whole) in
    let text : HasNoFeed is.text = no_feed-rest (SPACE ∷ []) is.text
    (no_feed-rest (decimal link.to) (SPACE ∷ is.text) behind) in
    read_spellable is.text link.reading text is.reading

-- so can those of lines, and no line behind them has a line feed
links_spellable : (states : ℕ) (lines : List (List ℕ)) (links : List Link)
    (behind : List (List ℕ)) → AreFeedless lines → LinksSay states lines links behind →
    All HasSpellable links × AreFeedless behind
links_spellable states lines [] behind none says =
    (All-nil HasSpellable, subst (λ (ls : List (List ℕ)). AreFeedless ls) says none)
links_spellable states [] (x ∷ links) behind none says = absurd says
links_spellable states (line ∷ lines) (x ∷ links) behind none says =
    let here = link_spellable states line x (All-head HasNoFeed line lines none) says.0.0 in
    let rest = All-tail HasNoFeed line lines none in
    let later = links_spellable states lines links behind rest says.1 in
    (All-cons HasSpellable x links here later.0, later.1)

-- a sentence that is told can be written
sentence_writable : (lines : List (List ℕ)) (s : Sentence) (behind : List (List ℕ)) →
    AreFeedless lines → SentenceSays lines s behind → IsWritable s × AreFeedless behind
sentence_writable [] s behind none says = absurd says
sentence_writable (line ∷ lines) s behind none says =
    let rest = All-tail HasNoFeed line lines none in
    let well = told_well_formed (line ∷ lines) s behind says in
    elim says [
      | inl e ↦ (
        record {
          well_formed = well;
          states_fit = omega (arith, e.0.no_states);
          links_fit = omega (arith, ap length e.0.no_links);
          readings = subst (λ (ls : List Link). All HasSpellable ls) (sym e.0.no_links)
              (All-nil HasSpellable);
        },
        subst (λ (ls : List (List ℕ)). AreFeedless ls) e.1 rest,
      )
      | inr e ↦
          let links = links_spellable s.states lines s.links behind rest e.1 in (
            record {
              well_formed = well;
              states_fit = e.0.states_fit;
              links_fit = e.0.links_fit;
              readings = links.0;
            },
            links.1,
          )
    ]

-- what is passed from a place on is numbered, and can be written
record IsValidFrom (place end : Place) (all : List Sentence) : Type 0 where
  numbered : AreNumbered (place.told + 1) all
  writable : All IsWritable all
  told : place.told + length all ≡ end.told
  count : end.count ≡ place.count

passed_valid : (place : Place) (all : List Sentence) (end : Place) →
    AreFeedless place.lines → Passes place all end → IsValidFrom place end all
passed_valid place [] end none passes = record {
  numbered = tt;
  writable = All-nil IsWritable;
  told = (let same = ap (λ (p : Place). p.told) passes in omega (arith, same));
  count = ap (λ (p : Place). p.count) (sym passes);
}
passed_valid place (s ∷ all) end none passes =
    let here = sentence_writable place.lines s passes.0 none passes.1.says in
    let later = passed_valid (behind_sentence place s passes.0) all end here.1 passes.2 in
    record {
      numbered = (passes.1.number, later.numbered);
      writable = All-cons IsWritable s all here.0 later.writable;
      told = omega (arith, later.told);
      count = later.count;
    }

-- no line behind what is passed has a line feed
passed_feedless : (place : Place) (all : List Sentence) (end : Place) →
    AreFeedless place.lines → Passes place all end → AreFeedless end.lines
passed_feedless place [] end none passes =
    subst (λ (p : Place). AreFeedless p.lines) passes none
passed_feedless place (s ∷ all) end none passes =
    passed_feedless (behind_sentence place s passes.0) all end
    (sentence_writable place.lines s passes.0 none passes.1.says).1 passes.2

-- a sentence that a file tells at any place can be written
pub told_writable : (text : List ℕ) (start place : Place) (front : List Sentence) (s : Sentence)
    (behind : List (List ℕ)) → Opens text start → Passes start front place →
    Tells place s behind → IsWritable s
told_writable text start place front s behind opens passes tells =
    let whole : AreFeedless (opens.head ∷ start.lines) =
    subst (λ (ls : List (List ℕ)). AreFeedless ls) opens.lines (lines_feedless text) in
    let rest = All-tail HasNoFeed opens.head start.lines whole in
    (sentence_writable place.lines s behind (passed_feedless start front place rest passes)
    tells.says).0

-- what a file says is valid
pub read_is_valid : (text : List ℕ) (all : List Sentence) → AreSentences text all → AreValid all
read_is_valid text all is =
    let opens = is.1 in
    let whole : AreFeedless (opens.head ∷ is.0.lines) =
    subst (λ (ls : List (List ℕ)). AreFeedless ls) opens.lines (lines_feedless text) in
    let rest = All-tail HasNoFeed opens.head is.0.lines whole in
    let valid = passed_valid is.0 all is.2.0 rest is.2.1 in
    record {
      numbered = subst (λ (n : ℕ). AreNumbered n all)
          (ap (λ (n : ℕ). n + 1) opens.told) valid.numbered;
      fit = omega (arith, valid.told, valid.count, opens.told, is.2.2.told, opens.fits);
      writable = valid.writable;
    }
