-- The plan of `inflect` keeps the laws: a class has one list of states, and a lemma is inflected or
-- refused for one cause.
use Rattle.std.proofs.Common.{◌≡◌, ◌≢◌, inl, inr, ℕ, List, sym, ap, ◌∙◌, subst, map}
use Rattle.std.specs.Prelude.{slice_get}
use Rattle.std.specs.List.{AllZip}
use Rattle.std.proofs.lemmas.Bool.{cases_order}
use Rattle.std.proofs.lemmas.Option.{same_Some, slice_get_within, get_or_from_slice_get}
use Rattle.ux_base.proofs.EachLineLemmas.{not_refused}
use Rattle.ux_base.proofs.OnceLemmas.{each_once-once}
use Rattle.ux_base.specs.Lines.{lines_of}
use Rattle.ux_boxes.specs.Boxes.{Drawn}
use Rattle.ux_dela.specs.Delas.{DelasSays, RefusesDelas}
use Rattle.ux_dela.specs.Files.{AreStems, RefusesStems}
use Rattle.ux_dela.specs.declared.entry.Stem.{Stem}
use Rattle.ux_dela.specs.declared.error.DelaError.{DelaError}
use Rattle.ux_dela.proofs.StemExclusionLemmas.{stem_excluded}
use Rattle.ux_dela.proofs.StemLaws.{stems_once, stems_refused_once}
use Rattle.ux_grammars.specs.Naming.{callee_file}
use Rattle.ux_grammars.proofs.GrammarLaws.{drawn_laws}
use Rattle.ux_grammars.specs.Reading.{AreStatesOfBoxes}
use Rattle.ux_grammars.proofs.SameStates.{boxes_alike}
use Rattle.ux_inflect.specs.declared.error.InflectError.{InflectError}
use Rattle.ux_inflect.specs.declared.error.InflectError.TheVariants.{Cyclic, BadItem, StackEnd, BadCodes, NoMemory}
use Rattle.ux_inflect.proofs.RefusalLaws.{accepted_not_refused, refused_once}
use Rattle.ux_inflect.proofs.SameNets.{AreAlike, refused_alike}
use Rattle.ux_net.specs.declared.net_graph.NetGraph.{NetGraph}
use Rattle.ux_plan.specs.Laws.{IsSound, IsSoundTest, Laws}
use Rattle.ux_plan.specs.Plans.{all, gives, refusing, said_as, tests}
use Rattle.ux_plan.proofs.PlanLaws.{decoded_sound, laws_all, laws_then, refusing_sound, said_sound}
use Rattle.ux_reasons.specs.declared.reason.Reason.{Reason}
use Rattle.ux_reasons.specs.declared.reason.Reason.TheVariants.{Decode, Dela, Inflect}
use Rattle.ux_cmd_inflect.specs.Inflecting.{IsFirstRefused, IsInflectable, NamesFile, RefusesStem}
use Rattle.ux_cmd_inflect.specs.Reading.{AreInflectable, Classed, IsNetOf, NO_LETTERS, RefusesClassed, class_plan, classes_of, inflect_plan, stems_format}

-- a file of lemmas says one list, or is refused for one reason
stems_not_refused : (text : List ℕ) (stems : List Stem) (error : DelaError) → AreStems text stems →
    RefusesStems text error → ⊥
stems_not_refused text stems error are refuses =
    not_refused DelasSays RefusesDelas stem_excluded (lines_of text) 1 stems error are refuses

pub stems_sound : IsSound stems_format
stems_sound =
    decoded_sound Decode (said_as Dela AreStems RefusesStems)
    (said_sound Dela AreStems RefusesStems stems_not_refused stems_once stems_refused_once)

-- an error that names a file isn't want of memory
not_memory : (word class file : List ℕ) (error : InflectError) → NamesFile word class error file →
    error ≢ NoMemory
not_memory word class file error names is =
    let none : NamesFile word class NoMemory file =
    subst (λ (e : InflectError). NamesFile word class e file) is names in
    none

-- it names one
one_file : (word class file other : List ℕ) (error : InflectError) →
    NamesFile word class error file → NamesFile word class error other → file ≡ other
one_file word class file other (Cyclic name) one also = one ∙ sym also
one_file word class file other (BadItem name node) one also = one ∙ sym also
one_file word class file other (StackEnd path) one also = one ∙ sym also
one_file word class file other (BadCodes path) one also = one ∙ sym also
one_file word class file other NoMemory one also = absurd one

module _ (word : List ℕ) (read : Classed) where
  -- the nets of a class are alike
  nets_alike : (class : List ℕ) (a b : List NetGraph) → IsNetOf read class a → IsNetOf read class b →
      AllZip AreAlike a b
  nets_alike class a b one also =
      let number = each_once-once (map (λ (stem : Stem). stem.class) read.stems) one.number also.number
      class one.is_class also.is_class in
      let graphs = same_Some one.graphs also.graphs
      (sym one.drawn ∙ (ap (slice_get read.grammars) number ∙ also.drawn)) in
      boxes_alike NO_LETTERS also.graphs a b
      (subst (λ (drawn : List Drawn). AreStatesOfBoxes NO_LETTERS drawn a) graphs one.states)
      also.states

  -- a lemma that is inflected isn't refused
  stem_excluded_here : (stem : Stem) (file : List ℕ) (error : InflectError) →
      IsInflectable (IsNetOf read) stem → RefusesStem (IsNetOf read) word stem file error → ⊥
  stem_excluded_here stem file error can refused =
      accepted_not_refused stem can.net error (not_memory word stem.class file error refused.names)
      can.accepted
      (refused_alike refused.net can.net
      (nets_alike stem.class refused.net can.net refused.of_class can.of_class) stem error
      refused.refuses)

  -- one that isn't is refused for one error
  stem_refused_once : (stem : Stem) (file other : List ℕ) (e f : InflectError) →
      RefusesStem (IsNetOf read) word stem file e → RefusesStem (IsNetOf read) word stem other f →
      (e ≡ f) × (file ≡ other)
  stem_refused_once stem file other e f a b =
      let errors = refused_once b.net stem e f (not_memory word stem.class file e a.names)
      (not_memory word stem.class other f b.names)
      (refused_alike a.net b.net (nets_alike stem.class a.net b.net a.of_class b.of_class) stem e
      a.refuses) b.refuses in (
        errors,
        one_file word stem.class file other f
            (subst (λ (e : InflectError). NamesFile word stem.class e file) errors a.names) b.names,
      )

  -- lemmas that are all inflected aren't refused
  excluded : (file : List ℕ) (reason : Reason) → AreInflectable read →
      RefusesClassed word read file reason → ⊥
  excluded file reason can refused =
      let first = refused.refuses in
      let within = slice_get_within read.stems first.place first.stem first.at in
      stem_excluded_here first.stem file refused.error
      (subst (IsInflectable (IsNetOf read))
      (get_or_from_slice_get read.stems first.place first.stem first.stem first.at)
      (can first.place first.stem within)) first.refused

  -- others are refused for one cause, which names one file
  same_place : (file other : List ℕ) (e f : InflectError) →
      (a : IsFirstRefused (IsNetOf read) word read.stems file e) →
      (b : IsFirstRefused (IsNetOf read) word read.stems other f) → a.place ≡ b.place
  same_place file other e f a b = elim (cases_order a.place b.place) [
    | inl same ↦ same
    | inr (inl low) ↦ absurd (stem_excluded_here a.stem file e
        (b.before a.place a.stem low a.at) a.refused)
    | inr (inr low) ↦ absurd (stem_excluded_here b.stem other f
        (a.before b.place b.stem low b.at) b.refused)
  ]

  one_cause : (file other : List ℕ) (reason also : Reason) → RefusesClassed word read file reason →
      RefusesClassed word read other also → (file ≡ other) × (reason ≡ also)
  one_cause file other reason also a b =
      let one = a.refuses in
      let two = b.refuses in
      let place = same_place file other a.error b.error one two in
      let stem = same_Some one.stem two.stem
      (sym one.at ∙ (ap (slice_get read.stems) place ∙ two.at)) in
      let once = stem_refused_once two.stem file other a.error b.error
      (subst (λ (s : Stem). RefusesStem (IsNetOf read) word s file a.error) stem one.refused)
      two.refused in
      (once.1, a.is ∙ (ap Inflect once.0 ∙ sym b.is))

  stems_test : IsSoundTest (AreInflectable read) (refusing (RefusesClassed word read))
  stems_test = refusing_sound (AreInflectable read) (RefusesClassed word read) excluded one_cause

pub inflect_laws : (word : List ℕ) → Laws (inflect_plan word)
inflect_laws word = (
  stems_sound,
  λ stems.
      let given : List (List Drawn) → Classed =
      λ grammars. record { stems = stems; grammars = grammars } in
      laws_then (λ grammars. tests (AreInflectable (given grammars))
      (refusing (RefusesClassed word (given grammars))) (gives (given grammars)))
      (λ grammars. (stems_test word (given grammars), tt))
      (all (class_plan word) (classes_of stems))
      (laws_all (class_plan word)
      (λ class. drawn_laws (callee_file word class) NO_LETTERS) (classes_of stems)),
)
