-- What a search in whole finds are the entries of the words of the net.
use Rattle.std.proofs.Common.{◌≡◌, ℕ, List, [], ◌∷◌, refl, sym, ◌∙◌, ap, subst, inl, Some, None, map}
use Rattle.std.specs.Prelude.{Option, Contains, option_map}
use Rattle.std.proofs.lemmas.Option.{slice_get-get_or}
use Rattle.ux_dela.specs.declared.entry.Entry.{Entry}
use Rattle.ux_dela.specs.declared.entry.Stem.{Stem}
use Rattle.ux_net.specs.declared.net_graph.NetGraph.{NetGraph}
use Rattle.ux_net.specs.Words.{Letter}
use Rattle.ux_inflect.specs.declared.config.Config.{Config}
use Rattle.ux_inflect.specs.declared.exploring.Link.{Link}
use Rattle.ux_inflect.specs.declared.stroke.Detail.TheVariants.{Whole}
use Rattle.ux_inflect.specs.Inflected.{AreInflected, HasCodes, Inflects, IsEntryOf, end_of}
use Rattle.ux_inflect.specs.Outcomes.{AreListed, Gives, IsCodedAt}
use Rattle.ux_inflect.specs.Places.{Place, kept_by, outlined, place_of}
use Rattle.ux_inflect.specs.Refusing.{IsAccepted}
use Rattle.ux_inflect.specs.Searches.{IsExplored, start_place}
use Rattle.ux_inflect.specs.Strokes.{Cursor}
use Rattle.ux_inflect.specs.Whole.{IsWhole, output_of}
use Rattle.ux_inflect.proofs.CodesLemmas.{codes_read, has_codes}
use Rattle.ux_inflect.proofs.ListedLemmas.{member_at}
use Rattle.ux_inflect.proofs.PathLemmas.{walk_way}
use Rattle.ux_inflect.proofs.RefusingLemmas.{clean_good, end_cursor, end_place, walk_word, word_walk}

-- all of a form is kept
kept_whole : (characters : List ℕ) → map (kept_by Whole) characters ≡ characters
kept_whole [] = refl
kept_whole (c ∷ characters) = ap (λ (l : List ℕ). c ∷ l) (kept_whole characters)

form_whole : (o : Option Cursor) → option_map (outlined Whole) o ≡ o
form_whole None = refl
form_whole (Some cursor) =
    let left = kept_whole cursor.left in
    let right = kept_whole cursor.right in
    ap Some (λ i. record { left = left i; right = right i })

module _ (net : List NetGraph) (stem : Stem) where
  abbrev end : List Letter → Place
  end whole = end_place Whole net stem.lemma whole

  form_at_end : (whole : List Letter) → (end whole).cursor ≡ end_of stem whole
  form_at_end whole = end_cursor Whole net stem whole ∙ form_whole (end_of stem whole)

  -- the end of a word gives its entry, and nothing else
  given_entry : (whole : List Letter) (entry : Entry) → Gives stem (end whole) entry →
      IsEntryOf stem whole entry
  given_entry whole entry gives = record {
    cursor = gives.cursor;
    ends = sym (form_at_end whole) ∙ gives.at;
    form = ap (λ (e : Entry). e.form) gives.is;
    lemma = ap (λ (e : Entry). e.lemma) gives.is;
    gram = ap (λ (e : Entry). e.gram) gives.is;
    sem = ap (λ (e : Entry). e.sem) gives.is;
    infl = subst (λ (codes : List (List ℕ)). HasCodes (output_of whole) codes)
        (sym (ap (λ (e : Entry). e.infl) gives.is)) gives.has;
  }

  entry_given : (whole : List Letter) (entry : Entry) → IsEntryOf stem whole entry →
      Gives stem (end whole) entry
  entry_given whole entry is = record {
    over = refl;
    cursor = is.cursor;
    at = form_at_end whole ∙ is.ends;
    codes = entry.infl;
    has = is.infl;
    is = λ i. record {
      form = is.form i;
      lemma = is.lemma i;
      gram = is.gram i;
      sem = is.sem i;
      infl = entry.infl;
    };
  }

  module _ (keys : List Config) (links : List (List Link)) (accepted : IsAccepted stem net)
      (known : IsExplored Whole net (start_place Whole stem.lemma) keys links) where
    -- a configuration at which a word ends
    record Ended (config : Config) : Type 0 where
      whole : List Letter
      is_whole : IsWhole net whole
      place : place_of config ≡ end whole

    ended : (config : Config) → Contains keys config → (place_of config).frames ≡ [] → Ended config
    ended config inside over =
        let found = slice_get-get_or keys inside.0 config inside.1 ∙ ap Some inside.2 in
        let reached = known.reached inside.0 config found in
        let word = walk_word Whole net stem.lemma (clean_good Whole net accepted.doable.clean)
        reached.0 (place_of config) reached.1 over in
        record { whole = word.whole; is_whole = word.is_whole; place = word.place }

    -- its output has codes
    pub all_coded : (config : Config) → Contains keys config → IsCodedAt (place_of config)
    all_coded config inside over =
        let word = ended config inside over in
        let codes = has_codes (output_of word.whole) (λ uncoded.
        accepted.coded word.whole word.is_whole
        (inl (λ codes has. codes_read (output_of word.whole) codes has uncoded))) in
        (codes.0, subst (λ (p : Place). HasCodes p.output codes.0) (sym word.place) codes.1)

    -- the entries that the configurations give are those of the words
    inflects : (entry : Entry) (config : Config) → Contains keys config →
        Gives stem (place_of config) entry → Inflects stem net entry
    inflects entry config inside gives =
        let word = ended config inside gives.over in
        record {
          whole = word.whole;
          is_whole = word.is_whole;
          is_entry = given_entry word.whole entry
              (subst (λ (p : Place). Gives stem p entry) word.place gives);
        }

    gives_some : (entry : Entry) → Inflects stem net entry →
        (config : Config) × Contains keys config × Gives stem (place_of config) entry
    gives_some entry is =
        let walk = word_walk Whole net stem.lemma is.whole is.is_whole in
        let way = walk_way Whole net (start_place Whole stem.lemma) keys links known walk 0
        known.first in
        let at = way.2 in (
          at.0,
          member_at keys at.0 way.0 at.1,
          subst (λ (p : Place). Gives stem p entry) (sym at.2)
              (entry_given is.whole entry is.is_entry),
        )

    pub are_inflected : (entries : List Entry) → AreListed stem keys entries →
        AreInflected stem net entries
    are_inflected entries listed = record {
      same = λ entry. (
        λ has. let some = (listed.same entry).0 has in inflects entry some.0 some.1 some.2,
        λ is. (listed.same entry).1 (gives_some entry is),
      );
      once = listed.once;
      in_order = listed.in_order;
    }
