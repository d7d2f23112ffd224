-- What a search in outline finds of faults is what the words of the net have.
use Rattle.std.proofs.Common.{◌≡◌, ℕ, List, [], ◌∷◌, ◌++◌, refl, sym, ◌∙◌, ap, subst, append-nil, ◌⊎◌, inl, inr, Some, None, map}
use Rattle.std.specs.Prelude.{Option, Result, Ok, Err, IfErr, IsErrAnd, option_map}
use Rattle.ux_dela.specs.declared.entry.Stem.{Stem}
use Rattle.ux_net.specs.declared.net_graph.NetGraph.{NetGraph}
use Rattle.ux_net.specs.Words.{Letter}
use Rattle.ux_inflect.specs.declared.codes.CodeState.{CodeState}
use Rattle.ux_inflect.specs.declared.codes.CodeState.TheVariants.{Nothing, AtColon, InCode, Broken}
use Rattle.ux_inflect.specs.declared.refusing.Fault.{Fault}
use Rattle.ux_inflect.specs.declared.refusing.Fault.TheVariants.{Stuck, Miscoded}
use Rattle.ux_inflect.specs.declared.stroke.Detail.{Detail}
use Rattle.ux_inflect.specs.Faults.{IsFaultAt, IsFaulty, IsUncodedAt}
use Rattle.ux_inflect.specs.Inflected.{end_of}
use Rattle.ux_inflect.specs.Places.{Place, kept_by, outlined, after_text}
use Rattle.ux_inflect.specs.Refusing.{IsClean, IsStuck, IsMiscoded, IsLeast}
use Rattle.ux_inflect.specs.Searches.{Walk, here, start_place}
use Rattle.ux_inflect.specs.Strokes.{Cursor, at_end}
use Rattle.ux_inflect.specs.Ways.{IsLeastOf}
use Rattle.ux_inflect.specs.Whole.{IsWhole, input_of, output_of}
use Rattle.ux_inflect.proofs.CodesLemmas.{has_codes, codes_read}
use Rattle.ux_inflect.proofs.OutlineLemmas.{word_outline}
use Rattle.ux_inflect.proofs.PlacesLemmas.{after}
use Rattle.ux_inflect.proofs.WordsLemmas.{AreGood, frame_of, walked, worded}

-- the edges of a clean net are good
pub clean_good : (detail : Detail) (net : List NetGraph) → IsClean net → AreGood detail net
clean_good detail net clean = λ g n state edge found inside bad.
    clean.clean g n (record {
      state = state;
      found = found;
      edge = edge;
      inside = inside;
      bad = inl bad;
    })

module _ (detail : Detail) (net : List NetGraph) (lemma : List ℕ) where
  -- the place at the end of a word
  abbrev pub end_place : List Letter → Place
  end_place whole = after detail [] (start_place detail lemma) whole

  -- each word is walked to its end
  pub word_walk : (whole : List Letter) → IsWhole net whole →
      Walk detail net (start_place detail lemma) (input_of whole) (end_place whole)
  word_walk whole is = subst
      (λ (t : List ℕ). Walk detail net (start_place detail lemma) t (end_place whole))
      (append-nil (input_of whole))
      (walked detail net is [] (start_place detail lemma) refl [] (end_place whole) here)

  -- and what is walked to an end is a word
  pub record Walked (text : List ℕ) (q : Place) : Type 0 where
    pub whole : List Letter
    pub is_whole : IsWhole net whole
    pub reads : text ≡ input_of whole
    pub place : q ≡ end_place whole

  pub walk_word : AreGood detail net → (text : List ℕ) (q : Place) →
      Walk detail net (start_place detail lemma) text q → q.frames ≡ [] → Walked text q
  walk_word good text q walk over =
      let w = worded detail net good walk over (frame_of 1 0 ∷ []) refl in
      let r = w.rests in
      let same : w.word ≡ r.0 = r.2 ∙ (ap (λ (y : List Letter). r.0 ++ y) r.4 ∙ append-nil r.0) in
      record {
        whole = r.0;
        is_whole = r.3;
        reads = w.reads ∙ ap input_of same;
        place = w.place ∙ ap end_place same;
      }

-- the form at the end of a word
pub end_cursor : (detail : Detail) (net : List NetGraph) (stem : Stem) (whole : List Letter) →
    (end_place detail net stem.lemma whole).cursor ≡ option_map (outlined detail) (end_of stem whole)
end_cursor detail net stem whole = word_outline detail whole (at_end stem.lemma)

module _ (detail : Detail) (net : List NetGraph) (stem : Stem) (good : AreGood detail net) where
  abbrev start : Place
  start = start_place detail stem.lemma

  lost_back : (o : Option Cursor) → option_map (outlined detail) o ≡ None → o ≡ None
  lost_back None e = refl
  lost_back (Some c) e = cc

  found_back : (o : Option Cursor) (c : Cursor) → option_map (outlined detail) o ≡ Some c →
      (d : Cursor) × (o ≡ Some d) × (outlined detail d ≡ c)
  found_back None c e = cc
  found_back (Some d) c e = (d, refl, cc)

  unmapped : (xs : List ℕ) → map (kept_by detail) xs ≡ [] → xs ≡ []
  unmapped [] e = refl
  unmapped (x ∷ xs) e = cc

  -- what a word has of a fault
  abbrev pub Has : Fault → List Letter → Type 0
  Has Stuck whole = IsStuck stem whole
  Has Miscoded whole = IsMiscoded stem whole

  fault_back : (fault : Fault) (whole : List Letter) →
      IsFaultAt fault (end_place detail net stem.lemma whole) → Has fault whole
  fault_back Stuck whole f = lost_back (end_of stem whole) (sym (end_cursor detail net stem whole) ∙ f)
  fault_back Miscoded whole f = elim f [
    | inl u ↦ inl (λ codes has. codes_read (output_of whole) codes has u)
    | inr l ↦ (
        let d = found_back (end_of stem whole) l.0 (sym (end_cursor detail net stem whole) ∙ l.1) in
        inr (d.0, d.1, unmapped d.0.left (ap (λ (c : Cursor). c.left) d.2 ∙ l.2)))
  ]

  -- whatever it is, an uncoded state can be told
  uncoded_or : (s : CodeState) → IsUncodedAt s ⊎ (IsUncodedAt s → ⊥)
  uncoded_or Nothing = inr (λ h. h)
  uncoded_or InCode = inr (λ h. h)
  uncoded_or AtColon = inl tt
  uncoded_or Broken = inl tt

  fault_there : (fault : Fault) (whole : List Letter) → Has fault whole →
      IsFaultAt fault (end_place detail net stem.lemma whole)
  fault_there Stuck whole f = end_cursor detail net stem whole ∙ ap (option_map (outlined detail)) f
  fault_there Miscoded whole f = elim f [
    | inl u ↦ elim (uncoded_or (after_text Nothing (output_of whole))) [
      | inl at ↦ inl at
      | inr lacks ↦ (let c = has_codes (output_of whole) lacks in absurd (u c.0 c.1))
    ]
    | inr l ↦ inr (
      outlined detail l.0,
      end_cursor detail net stem whole ∙ ap (option_map (outlined detail)) l.1,
      ap (map (kept_by detail)) l.2,
    )
  ]

  -- the least text of a walk with the fault is that of a word
  pub least_word : (fault : Fault) (path : List ℕ) →
      IsLeastOf (IsFaulty detail net start fault) (Some path) → IsLeast net (Has fault) path
  least_word fault path is =
      let f = is.0 in
      let w = walk_word detail net stem.lemma good path f.place f.walk f.has.over in
      record {
        whole = w.whole;
        is_whole = w.is_whole;
        is = fault_back fault w.whole
            (subst (λ (p : Place). IsFaultAt fault p) w.place f.has.is);
        text = w.reads;
        least = λ other whole has. is.1 (input_of other) (record {
          place = end_place detail net stem.lemma other;
          walk = word_walk detail net stem.lemma other whole;
          has = record { over = refl; is = fault_there fault other has };
        });
      }

  pub no_word : (fault : Fault) → IsLeastOf (IsFaulty detail net start fault) None →
      (whole : List Letter) → IsWhole net whole → Has fault whole → ⊥
  no_word fault none whole is has = none (input_of whole) (record {
    place = end_place detail net stem.lemma whole;
    walk = word_walk detail net stem.lemma whole is;
    has = record { over = refl; is = fault_there fault whole has };
  })

-- an error of which more is known
pub if_err : {T E : Type 0} (r : Result T E) (Q P : E → Type 0) → IsErrAnd r Q →
    ((e : E) → Q e → P e) → IfErr r P
if_err (Ok x) Q P h f = tt
if_err (Err e) Q P h f = f e h
