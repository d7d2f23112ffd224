-- Lemma by lemma the lines of the forms are put, up to the first lemma that is refused.
use Rattle.std.proofs.Common.{arith, ◌≡◌, ℕ, ◌+◌, ◌<◌, ◌≤◌, List, [], ◌∷◌, ◌++◌, Some, length, get_or, take, refl, sym, ap, ◌∙◌, subst}
use Rattle.std.specs.Prelude.{All, slice_get}
use Rattle.std.specs.List.{AllZip, flat_map}
use Rattle.std.proofs.lemmas.Grind.{flat_map-append}
use Rattle.std.proofs.lemmas.List.{append-nil, get_or-take, length-take-le, take_all}
use Rattle.std.proofs.lemmas.List.Elements.{All-push}
use Rattle.std.proofs.lemmas.Option.{get_or_from_slice_get, slice_get_read}
use Rattle.ux_boxes.proofs.SplittingLemmas.{AllZip-grown, take-next}
use Rattle.ux_dela.specs.declared.entry.Entry.{Entry}
use Rattle.ux_dela.specs.declared.entry.Stem.{Stem}
use Rattle.ux_inflect.specs.Refusing.{IsAccepted}
use Rattle.ux_inflect.specs.declared.error.InflectError.{InflectError}
use Rattle.ux_net.specs.declared.net_graph.NetGraph.{NetGraph}
use Rattle.ux_plan.specs.declared.stop.Stop.{Stop}
use Rattle.ux_plan.specs.declared.stop.Stop.TheVariants.{Absent, ReadFault, TooLarge, Refused, NoMemory}
use Rattle.ux_plan.specs.Plans.{StopsTest, refusing}
use Rattle.ux_reasons.specs.declared.reason.Reason.{Reason}
use Rattle.ux_cmd_inflect.specs.Files.{PutsForms, RefusesBy}
use Rattle.ux_cmd_inflect.specs.Inflecting.{AreForms, HasForms, IsFirstRefused, IsInflectable, RefusesStems, line_of, lines_of}

-- the line of one more entry
pub lines_next : (entries : List Entry) (i : ℕ) (entry : Entry) → i < length entries →
    entry ≡ get_or entries i entry →
    lines_of (take i entries) ++ line_of entry ≡ lines_of (take (i + 1) entries)
lines_next entries i entry within is =
    sym (flat_map-append line_of (take i entries) (entry ∷ [])
    ∙ ap (λ (l : List ℕ). lines_of (take i entries) ++ l) (append-nil (line_of entry)))
    ∙ ap lines_of (take-next entries i entry within is)

module _ (IsNetOf : (class : List ℕ) → List NetGraph → Type 0) where
  pub forms_none : AreForms IsNetOf [] []
  forms_none = record { each = []; are = tt; is = refl }

  lines_more : (each : List (List Entry)) (entries : List Entry) →
      flat_map lines_of (each ++ entries ∷ []) ≡ flat_map lines_of each ++ lines_of entries
  lines_more each entries = flat_map-append lines_of each (entries ∷ [])
      ∙ ap (λ (l : List ℕ). flat_map lines_of each ++ l) (append-nil (lines_of entries))

  module _ (stems : List Stem) (i : ℕ) (stem : Stem) (within : i < length stems)
      (is : stem ≡ get_or stems i stem) where
    -- the next lemma was inflected
    pub forms_more : (net : List NetGraph) (old new : List ℕ) → AreForms IsNetOf (take i stems) old →
        IsNetOf stem.class net → PutsForms stem net old new →
        AreForms IsNetOf (take (i + 1) stems) new
    forms_more net old new so_far of_class puts =
        subst (λ (l : List Stem). AreForms IsNetOf l new) (take-next stems i stem within is) (record {
          each = so_far.each ++ puts.entries ∷ [];
          are = AllZip-grown (HasForms IsNetOf) (take i stems) so_far.each stem puts.entries so_far.are
              (record { net = net; of_class = of_class; are = puts.are });
          is =
              puts.is ∙ (ap (λ (l : List ℕ). l ++ lines_of puts.entries) so_far.is
              ∙ sym (lines_more so_far.each puts.entries));
        })

    pub inflectable_more : (net : List NetGraph) → All (IsInflectable IsNetOf) (take i stems) →
        IsNetOf stem.class net → IsAccepted stem net →
        All (IsInflectable IsNetOf) (take (i + 1) stems)
    inflectable_more net so_far of_class accepted =
        subst (λ (l : List Stem). All (IsInflectable IsNetOf) l) (take-next stems i stem within is)
        (All-push (IsInflectable IsNetOf) (take i stems) stem so_far
        (record { net = net; of_class = of_class; accepted = accepted }))

    -- the next lemma is the first that is refused
    pub stem_stops : (word : List ℕ) (net : List NetGraph) (stop : Stop Reason) →
        All (IsInflectable IsNetOf) (take i stems) → IsNetOf stem.class net →
        StopsTest (refusing (RefusesBy word stem net)) stop →
        StopsTest (refusing (RefusesStems IsNetOf word stems)) stop
    stem_stops word net (Absent name) so_far of_class stops = stops
    stem_stops word net (ReadFault name) so_far of_class stops = stops
    stem_stops word net (TooLarge name) so_far of_class stops = stops
    stem_stops word net NoMemory so_far of_class stops = tt
    stem_stops word net (Refused name reason) so_far of_class stops = record {
      error = stops.error;
      refuses = record {
        place = i;
        stem = stem;
        at = slice_get_read stems (length stems) i stem refl within is;
        before = λ k other low at. before k other low at;
        refused = record {
          net = net;
          of_class = of_class;
          refuses = stops.refuses.0;
          names = stops.refuses.1;
        };
      };
      is = stops.is;
    }
      where
        before : (k : ℕ) (other : Stem) → k < i → slice_get stems k ≡ Some other →
            IsInflectable IsNetOf other
        before k other low at =
            subst (IsInflectable IsNetOf)
            (get_or-take i stems k other low ∙ get_or_from_slice_get stems k other other at)
            (so_far k other (let len = length-take-le i stems (omega (arith, within)) in
            omega (arith, len, low)))

  -- all were
  pub forms_all : (stems : List Stem) (i : ℕ) (text : List ℕ) → length stems ≤ i →
      AreForms IsNetOf (take i stems) text → AreForms IsNetOf stems text
  forms_all stems i text past so_far =
      subst (λ (l : List Stem). AreForms IsNetOf l text) (take_all i stems past) so_far

  pub inflectable_all : (stems : List Stem) (i : ℕ) → length stems ≤ i →
      All (IsInflectable IsNetOf) (take i stems) → All (IsInflectable IsNetOf) stems
  inflectable_all stems i past so_far =
      subst (λ (l : List Stem). All (IsInflectable IsNetOf) l) (take_all i stems past) so_far

-- Of two kinds of nets of a class the one is the other.
module _ (One Other : (class : List ℕ) → List NetGraph → Type 0)
    (so : (class : List ℕ) (net : List NetGraph) → One class net → Other class net) where
  forms_of : (stem : Stem) (entries : List Entry) → HasForms One stem entries →
      HasForms Other stem entries
  forms_of stem entries has =
      record { net = has.net; of_class = so stem.class has.net has.of_class; are = has.are }

  each_of : (stems : List Stem) (each : List (List Entry)) → AllZip (HasForms One) stems each →
      AllZip (HasForms Other) stems each
  each_of [] [] are = tt
  each_of [] (entries ∷ each) are = absurd are
  each_of (stem ∷ stems) [] are = absurd are
  each_of (stem ∷ stems) (entries ∷ each) are =
      (forms_of stem entries are.0, each_of stems each are.1)

  pub forms_by : (stems : List Stem) (text : List ℕ) → AreForms One stems text →
      AreForms Other stems text
  forms_by stems text forms =
      record { each = forms.each; are = each_of stems forms.each forms.are; is = forms.is }

  inflectable_of : (stem : Stem) → IsInflectable One stem → IsInflectable Other stem
  inflectable_of stem can = record {
    net = can.net;
    of_class = so stem.class can.net can.of_class;
    accepted = can.accepted;
  }

  pub inflectable_by : (stems : List Stem) → All (IsInflectable One) stems →
      All (IsInflectable Other) stems
  inflectable_by stems each k d within = inflectable_of (get_or stems k d) (each k d within)

  first_of : (word : List ℕ) (stems : List Stem) (file : List ℕ) (error : InflectError) →
      IsFirstRefused One word stems file error → IsFirstRefused Other word stems file error
  first_of word stems file error first = record {
    place = first.place;
    stem = first.stem;
    at = first.at;
    before = λ k other low at. inflectable_of other (first.before k other low at);
    refused = record {
      net = first.refused.net;
      of_class = so first.stem.class first.refused.net first.refused.of_class;
      refuses = first.refused.refuses;
      names = first.refused.names;
    };
  }

  pub stops_by : (word : List ℕ) (stems : List Stem) (stop : Stop Reason) →
      StopsTest (refusing (RefusesStems One word stems)) stop →
      StopsTest (refusing (RefusesStems Other word stems)) stop
  stops_by word stems (Absent name) stops = stops
  stops_by word stems (ReadFault name) stops = stops
  stops_by word stems (TooLarge name) stops = stops
  stops_by word stems NoMemory stops = tt
  stops_by word stems (Refused name reason) stops = record {
    error = stops.error;
    refuses = first_of word stems name stops.error stops.refuses;
    is = stops.is;
  }
