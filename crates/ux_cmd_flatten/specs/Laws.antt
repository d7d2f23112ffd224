-- The plan of `flatten` keeps the laws: a grammar has one list of states, and is flattened or refused
-- for one cause.
use Rattle.std.proofs.Common.{◌≡◌, ◌≢◌, ℕ, false, List, refl, sym, ap, ◌∙◌, subst}
use Rattle.ux_alphabet.specs.Letters.{Letters}
use Rattle.ux_flatten.specs.Cuts.{IsNegativeCut}
use Rattle.ux_flatten.specs.Flattening.{IsFlattened, RefusesFlat}
use Rattle.ux_flatten.specs.declared.error.FlattenError.{FlattenError}
use Rattle.ux_flatten.specs.declared.error.FlattenError.TheVariants.{TooBig, NegativeCut, NoMemory}
use Rattle.ux_grammars.specs.Graphs.{grammar_plan}
use Rattle.ux_grammars.specs.Sources.{Source}
use Rattle.ux_grammars.proofs.GrammarLaws.{grammar_laws}
use Rattle.ux_grammars.proofs.GrammarRefusedOnce.{first_named}
use Rattle.ux_grammars.proofs.SameStates.{states_same}
use Rattle.ux_net.specs.StateGraphs.{state_grammar}
use Rattle.ux_net.specs.declared.state_graph.StateGraph.{StateGraph}
use Rattle.ux_state_places.specs.RefusingStates.{names_told}
use Rattle.ux_plan.specs.Laws.{IsSoundTest, Laws}
use Rattle.ux_plan.specs.Plans.{gives, refusing, tests}
use Rattle.ux_plan.proofs.PlanLaws.{laws_then, refusing_sound}
use Rattle.ux_reasons.specs.declared.reason.Reason.{Reason}
use Rattle.ux_reasons.specs.declared.reason.Reason.TheVariants.{Flatten}
use Rattle.ux_texts.proofs.TextLaws.{alphabet_sound}
use Rattle.ux_cmd_flatten.specs.Reading.{flat_plan}
use Rattle.ux_cmd_flatten.specs.Refusing.{CanFlatten, HasStates, NamesGraph, RefusesGrammar, RefusesNet}

-- a grammar has one list of states
states_once : (letters : Letters) (source : Source) (graphs others : List StateGraph) →
    HasStates letters source graphs → HasStates letters source others → graphs ≡ others
states_once letters source graphs others a b =
    a.told ∙ (states_same letters source a.net b.net a.states b.states ∙ sym b.told)

-- an error that names a file isn't want of memory
not_memory : (word file : List ℕ) (error : FlattenError) → NamesGraph word error file →
    error ≢ NoMemory
not_memory word file error names is =
    let none : NamesGraph word NoMemory file =
    subst (λ (e : FlattenError). NamesGraph word e file) is names in
    none

-- it names one
one_file : (word file other : List ℕ) (error : FlattenError) → NamesGraph word error file →
    NamesGraph word error other → file ≡ other
one_file word file other TooBig one also = one ∙ sym also
one_file word file other (NegativeCut name node) one also = one ∙ sym also
one_file word file other NoMemory one also = absurd one

module _ (graphs : List StateGraph) (depth : ℕ) where
  -- what is flattened isn't refused
  not_refused : (error : FlattenError) → error ≢ NoMemory → IsFlattened graphs depth →
      RefusesFlat graphs depth error → ⊥
  not_refused TooBig some flattened big = flattened.not_too_big big
  not_refused (NegativeCut name node) some flattened cut =
      flattened.no_cut cut.1.0 node cut.1.2.here
  not_refused NoMemory some flattened refused = some refl

  -- one state is the first with a cut
  one_cut : (name other : List ℕ) (node n : ℕ) → RefusesFlat graphs depth (NegativeCut name node) →
      RefusesFlat graphs depth (NegativeCut other n) → NegativeCut name node ≡ NegativeCut other n
  one_cut name other node n a b =
      first_named (names_told graphs) (IsNegativeCut (state_grammar graphs) depth) NegativeCut
      name other node n a.1 b.1

  -- graphs are refused for one error, want of memory aside
  refused_once : (e f : FlattenError) → e ≢ NoMemory → f ≢ NoMemory → RefusesFlat graphs depth e →
      RefusesFlat graphs depth f → e ≡ f
  refused_once TooBig TooBig some also a b = refl
  refused_once TooBig (NegativeCut name node) some also a b = absurd (b.0 a)
  refused_once (NegativeCut name node) TooBig some also a b = absurd (a.0 b)
  refused_once (NegativeCut name node) (NegativeCut other n) some also a b =
      one_cut name other node n a b
  refused_once NoMemory f some also a b = absurd (some refl)
  refused_once e NoMemory some also a b = absurd (also refl)

module _ (word : List ℕ) (letters : Letters) (source : Source) (depth : ℕ) where
  -- a grammar that has a flat net isn't refused
  excluded : (file : List ℕ) (reason : Reason) → CanFlatten letters source depth →
      RefusesGrammar word letters source depth file reason → ⊥
  excluded file reason can refused =
      let tells = refused.refuses in
      let same = states_once letters source can.graphs refused.graphs can.states refused.states in
      not_refused refused.graphs depth tells.error
      (not_memory word file tells.error tells.refuses.1)
      (subst (λ (l : List StateGraph). IsFlattened l depth) same can.flattened) tells.refuses.0

  -- one that hasn't is refused for one cause, which names one file
  one_cause : (file other : List ℕ) (reason also : Reason) →
      RefusesGrammar word letters source depth file reason →
      RefusesGrammar word letters source depth other also → (file ≡ other) × (reason ≡ also)
  one_cause file other reason also a b =
      let same = states_once letters source b.graphs a.graphs b.states a.states in
      let one = a.refuses in
      let two : RefusesNet word a.graphs depth other also =
      subst (λ (l : List StateGraph). RefusesNet word l depth other also) same b.refuses in
      let errors = refused_once a.graphs depth one.error two.error
      (not_memory word file one.error one.refuses.1)
      (not_memory word other two.error two.refuses.1) one.refuses.0 two.refuses.0 in (
        one_file word file other two.error
            (subst (λ (e : FlattenError). NamesGraph word e file) errors one.refuses.1)
            two.refuses.1,
        one.is ∙ (ap Flatten errors ∙ sym two.is),
      )

  flat_test : IsSoundTest (CanFlatten letters source depth)
      (refusing (RefusesGrammar word letters source depth))
  flat_test =
      refusing_sound (CanFlatten letters source depth)
      (RefusesGrammar word letters source depth) excluded one_cause

pub flat_laws : (graph alphabet : List ℕ) (depth : ℕ) → Laws (flat_plan graph alphabet depth)
flat_laws graph alphabet depth = (
  alphabet_sound false,
  λ letters. laws_then (λ source. tests (CanFlatten letters source depth)
      (refusing (RefusesGrammar graph letters source depth)) (gives (letters, source)))
      (λ source. (flat_test graph letters source depth, tt))
      (grammar_plan graph letters) (grammar_laws graph letters),
)
