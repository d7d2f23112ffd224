-- The forms from a state that fit a text, character by character.
use Rattle.std.proofs.Common.{◌≡◌, ℕ, suc, ◌+◌, ◌-◌, ◌<◌, List, [], ◌∷◌, ◌++◌, length, map, take, get_or, refl, sym, ◌∙◌, ap, subst, inl, inr, arith}
use Rattle.std.specs.Prelude.{All, Contains, Option, None, Some}
use Rattle.std.specs.List.{AllZip}
use Rattle.std.proofs.lemmas.List.{append-nil, take_more}
use Rattle.std.proofs.lemmas.List.Elements.{All-head, All-push, All-tail, Contains-get_or}
use Rattle.std.proofs.lemmas.Option.{get_or_from_slice_get}
use Rattle.ux_alphabet.specs.Letters.{Letters, Fits, FitsAlone}
use Rattle.ux_dawg.specs.Building.{bare}
use Rattle.ux_dawg.specs.Forms.{form_of}
use Rattle.ux_dawg.specs.Listed.{behind, ending}
use Rattle.ux_dawg.specs.Paths.{edge as edge_to, AreAscending, AreStates, Leads, MakeAutomaton}
use Rattle.ux_dawg.specs.declared.state.Edge.{Edge}
use Rattle.ux_dawg.specs.declared.state.Form.{Form}
use Rattle.ux_dawg.specs.declared.state.State.{State}
use Rattle.ux_dict.specs.Forms.{IsChosen, none, kept, left}
use Rattle.ux_dict.proofs.ChosenLemmas.{chosen-append, chosen-member, chosen-none}
use Rattle.ux_base.proofs.OrderedLists.{Contains-cons_cases, Contains-nil}
use Rattle.ux_image_lists.specs.Sizes.{forms_of}
use Rattle.ux_image_look_ups.specs.Steps.{EndsBy}
use Rattle.ux_image_look_ups.specs.Ways.{branches, forms_at, FitsText, LeadsBy}
use Rattle.ux_image_look_ups.proofs.PathLemmas.{forms_behind, leads_within}
use Rattle.ux_image_look_ups.proofs.WayLemmas.{from_here}

-- what is chosen of a list is chosen of the list with a letter in front of each form
chosen-behind : (alphabet : Letters) (a c : ℕ) (rest : List ℕ) → Fits alphabet a c →
    {forms found : List Form} → IsChosen (FitsText alphabet rest) forms found →
    IsChosen (FitsText alphabet (c ∷ rest)) (map (behind a) forms) (map (behind a) found)
chosen-behind alphabet a c rest fits none = none
chosen-behind alphabet a c rest fits (kept p more) =
    kept (fits, p) (chosen-behind alphabet a c rest fits more)
chosen-behind alphabet a c rest fits (left fails more) =
    left (λ p. fails p.1) (chosen-behind alphabet a c rest fits more)

-- and none where the letter doesn't fit
chosen-apart : (alphabet : Letters) (a c : ℕ) (rest : List ℕ) → (Fits alphabet a c → ⊥) →
    (forms : List Form) → IsChosen (FitsText alphabet (c ∷ rest)) (map (behind a) forms) []
chosen-apart alphabet a c rest fails [] = none
chosen-apart alphabet a c rest fails (f ∷ forms) =
    left (λ p. fails p.0) (chosen-apart alphabet a c rest fails forms)

-- one more character that no other letter fits
pub alone-more : (alphabet : Letters) (text : List ℕ) (i c : ℕ) → i < length text →
    c ≡ get_or text i c → All (FitsAlone alphabet) (take i text) → FitsAlone alphabet c →
    All (FitsAlone alphabet) (take (i + 1) text)
alone-more alphabet text i c less is all alone =
    subst (All (FitsAlone alphabet))
    (sym (take_more text i c less ∙ ap (λ k. take i text ++ k ∷ []) (sym is)))
    (All-push (FitsAlone alphabet) (take i text) c all alone)

module _ (states : List State) (alphabet : Letters) where
  abbrev at : ℕ → State
  at t = get_or states t bare

  -- the forms by an edge that fits, and by one that doesn't
  pub branch_fits : (e : Edge) (c : ℕ) (rest : List ℕ) (told : List Form) →
      Fits alphabet e.letter c →
      IsChosen (FitsText alphabet rest) (forms_at states e.target) told →
      IsChosen (FitsText alphabet (c ∷ rest)) (branches states (e ∷ [])) (map (behind e.letter) told)
  branch_fits e c rest told fits chosen =
      subst (λ (l : List Form). IsChosen (FitsText alphabet (c ∷ rest)) l
      (map (behind e.letter) told)) (sym (append-nil (map (behind e.letter) (forms_at states e.target))))
      (chosen-behind alphabet e.letter c rest fits chosen)

  pub branch_fails : (e : Edge) (c : ℕ) (rest : List ℕ) → (Fits alphabet e.letter c → ⊥) →
      IsChosen (FitsText alphabet (c ∷ rest)) (branches states (e ∷ [])) []
  branch_fails e c rest fails =
      subst (λ (l : List Form). IsChosen (FitsText alphabet (c ∷ rest)) l [])
      (sym (append-nil (map (behind e.letter) (forms_at states e.target))))
      (chosen-apart alphabet e.letter c rest fails (forms_at states e.target))

  -- no form that ends here has a letter more
  ending_short : (c : ℕ) (rest : List ℕ) (code : Option ℕ) →
      IsChosen (FitsText alphabet (c ∷ rest)) (ending code) []
  ending_short c rest None = none
  ending_short c rest (Some code) = left (λ zip. zip) none

  -- and no form by an edge ends here
  branches_long : (edges : List Edge) → IsChosen (FitsText alphabet []) (branches states edges) []
  branches_long [] = none
  branches_long (e ∷ edges) =
      chosen-append (FitsText alphabet []) (long (forms_at states e.target)) (branches_long edges)
    where
      long : (forms : List Form) → IsChosen (FitsText alphabet []) (map (behind e.letter) forms) []
      long [] = none
      long (f ∷ forms) = left (λ zip. zip) (long forms)

  ending_whole : (code : Option ℕ) → IsChosen (FitsText alphabet []) (ending code) (ending code)
  ending_whole None = none
  ending_whole (Some code) = kept tt none

  module _ (fit : AreStates states) where
    -- of a state the form that ends there fits no character
    pub found_end : (t : ℕ) → t < length states →
        IsChosen (FitsText alphabet []) (forms_at states t) (ending (at t).code)
    found_end t less =
        subst (λ (l : List Form). IsChosen (FitsText alphabet []) l (ending (at t).code))
        (sym (from_here states fit t less))
        (subst (IsChosen (FitsText alphabet []) (ending (at t).code ++ branches states (at t).edges))
        (append-nil (ending (at t).code))
        (chosen-append (FitsText alphabet []) (ending_whole (at t).code)
        (branches_long (at t).edges)))

    -- and those by its edges fit more
    pub found_on : (t c : ℕ) (rest : List ℕ) (found : List Form) → t < length states →
        IsChosen (FitsText alphabet (c ∷ rest)) (branches states (at t).edges) found →
        IsChosen (FitsText alphabet (c ∷ rest)) (forms_at states t) found
    found_on t c rest found less chosen =
        subst (λ (l : List Form). IsChosen (FitsText alphabet (c ∷ rest)) l found)
        (sym (from_here states fit t less))
        (chosen-append (FitsText alphabet (c ∷ rest)) (ending_short c rest (at t).code) chosen)

    -- where the text's own letters alone fit, one edge goes on
    alone_edges : (edges : List Edge) (c t : ℕ) (rest : List ℕ) (told : List Form) →
        AreAscending edges → Contains edges (edge_to c t) → FitsAlone alphabet c →
        IsChosen (FitsText alphabet rest) (forms_at states t) told →
        IsChosen (FitsText alphabet (c ∷ rest)) (branches states edges) (map (behind c) told)
    alone_edges [] c t rest told up has alone chosen = absurd (Contains-nil (edge_to c t) has)
    alone_edges (e ∷ edges) c t rest told up has alone chosen =
        elim (Contains-cons_cases e (edge_to c t) edges has) [
          | inl same ↦
              subst (λ (x : Edge). IsChosen (FitsText alphabet (c ∷ rest))
              (map (behind x.letter) (forms_at states x.target) ++ branches states edges)
              (map (behind c) told)) (sym same)
              (subst (IsChosen (FitsText alphabet (c ∷ rest))
              (map (behind c) (forms_at states t) ++ branches states edges))
              (append-nil (map (behind c) told))
              (chosen-append (FitsText alphabet (c ∷ rest))
              (chosen-behind alphabet c c rest (inl refl) chosen)
              (none_of edges (λ d there.
              let above = up.0 d there in
              let letter = ap (λ (x : Edge). x.letter) same in
              omega (arith, above, letter)))))
          | inr later ↦
              chosen-append (FitsText alphabet (c ∷ rest))
              (chosen-apart alphabet e.letter c rest
              (λ fits.
              let below = up.0 (edge_to c t) later in
              let is = alone e.letter fits in
              absurd (omega (arith, below, is))) (forms_at states e.target))
              (alone_edges edges c t rest told up.1 later alone chosen)
        ]
      where
        none_of : (ds : List Edge) → ((d : Edge) → Contains ds d → c < d.letter) →
            IsChosen (FitsText alphabet (c ∷ rest)) (branches states ds) []
        none_of [] above = none
        none_of (d ∷ ds) above =
            chosen-append (FitsText alphabet (c ∷ rest))
            (chosen-apart alphabet d.letter c rest
            (λ fits.
            let low = above d (0, omega arith, refl) in
            let is = alone d.letter fits in
            absurd (omega (arith, low, is))) (forms_at states d.target))
            (none_of ds (λ x there.
            above x (suc there.0, let less = there.1 in omega (arith, less), there.2)))

    pub alone_found : (text : List ℕ) (s t code : ℕ) → s < length states →
        All (FitsAlone alphabet) text → Leads states s text t → (at t).code ≡ Some code →
        IsChosen (FitsText alphabet text) (forms_at states s) (form_of text code ∷ [])
    alone_found [] s t code less alone is ends =
        subst (λ (o : Option ℕ). IsChosen (FitsText alphabet []) (forms_at states s) (ending o))
        (subst (λ k. (at k).code ≡ Some code) (sym is) ends) (found_end s less)
    alone_found (c ∷ text) s t code less alone (k, x, stands, has, more) ends =
        let low = (fit s x stands).within (edge_to c k) has in
        let here = get_or_from_slice_get states s x bare stands in
        found_on s c text (form_of (c ∷ text) code ∷ []) less
        (subst (λ (y : State). IsChosen (FitsText alphabet (c ∷ text)) (branches states y.edges)
        (form_of (c ∷ text) code ∷ [])) (sym here)
        (alone_edges x.edges c k text (form_of text code ∷ []) (fit s x stands).ascending has
        (All-head (FitsAlone alphabet) c text alone)
        (alone_found text k t code (omega (arith, low, less))
        (All-tail (FitsAlone alphabet) c text alone) more ends)))

  module _ (automaton : MakeAutomaton states) where
    abbrev root : ℕ
    root = length states - 1

    root_within : root < length states
    root_within = let some = automaton.some in omega (arith, some)

    -- where a form ends there is one
    ends_some : (t code : ℕ) → t < length states → (at t).code ≡ Some code →
        0 < length (forms_at states t)
    ends_some t code less ends =
        let parts = ap (length {A = Form}) (from_here states automaton.fit t less
        ∙ ap (λ (o : Option ℕ). ending o ++ branches states (at t).edges) ends) in
        omega (arith, parts)

    -- letters that fit the text whose own letters alone fit are its own
    own_letters : (letters text : List ℕ) → All (FitsAlone alphabet) text →
        AllZip (Fits alphabet) letters text → letters ≡ text
    own_letters [] [] alone zip = refl
    own_letters [] (c ∷ text) alone zip = absurd zip
    own_letters (a ∷ letters) [] alone zip = absurd zip
    own_letters (a ∷ letters) (c ∷ text) alone zip =
        let first = All-head (FitsAlone alphabet) c text alone a zip.0 in
        ap (λ k. k ∷ letters) first
        ∙ ap (λ (l : List ℕ). c ∷ l)
        (own_letters letters text (All-tail (FitsAlone alphabet) c text alone) zip.1)

    -- the text itself is the form that ends in the place
    pub ends_alone : (text place : List ℕ) (code : ℕ) → LeadsBy states alphabet text place →
        EndsBy states place (Some code) → All (FitsAlone alphabet) text →
        IsChosen (FitsText alphabet text) (forms_of states) (form_of text code ∷ [])
    ends_alone text place code leads (s, has, ends) alone =
        let is = (leads s).0 has in
        alone_found automaton.fit text root s code root_within alone
        (subst (λ (l : List ℕ). Leads states root l s) (own_letters is.letters text alone is.fit)
        is.lead) ends

    -- where no form ends in the place, none fits the text
    pub ends_nowhere : (text place : List ℕ) → LeadsBy states alphabet text place →
        EndsBy states place None → IsChosen (FitsText alphabet text) (forms_of states) []
    ends_nowhere text place leads ends =
        chosen-none (FitsText alphabet text) (forms_of states) (λ k d less zip.
        no_form (get_or (forms_of states) k d) (Contains-get_or (forms_of states) k d less) zip)
      where
        no_end : (t code : ℕ) → t < length states → (at t).code ≡ None →
            Contains (forms_at states t) (form_of [] code) → ⊥
        no_end t code less bare_code has =
            Contains-nil (form_of [] code)
            (chosen-member (FitsText alphabet []) (form_of [] code)
            (branches_long (at t).edges) (subst (λ (l : List Form). Contains l (form_of [] code))
            (from_here states automaton.fit t less
            ∙ ap (λ (o : Option ℕ). ending o ++ branches states (at t).edges) bare_code) has) tt)

        no_form : (form : Form) → Contains (forms_of states) form →
            FitsText alphabet text form → ⊥
        no_form form has zip =
            let whole : form ≡ form_of (form.letters ++ []) form.code =
            λ k. record { letters = (sym (append-nil form.letters)) k; code = form.code } in
            let (t, lead, there) = forms_behind states automaton form.letters [] root form.code
            root_within (subst (Contains (forms_of states)) whole has) in
            let some : 0 < length (forms_at states t) = let low = there.1 in omega (arith, low) in
            let stands = (leads t).1 (record {
              letters = form.letters;
              fit = zip;
              lead = lead;
              some = some;
            }) in
            let inside = leads_within states automaton form.letters root t root_within lead in
            no_end t form.code inside (ends t stands) there
