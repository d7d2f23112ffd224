-- The grammars of the steps, read one after the other, and their nets.
use Rattle.std.proofs.Common.{◌≡◌, ◌∙◌, ℕ, suc, ◌+◌, ◌<◌, List, [], ◌∷◌, ◌++◌, Option, ap, add-one, drop, drop-cons, get_or, length, refl, subst, sym, take}
use Rattle.std.proofs.lemmas.List.{take-append-drop, take_more}
use Rattle.std.specs.List.{AllZip}
use Rattle.ux_alphabet.specs.Letters.{Letters}
use Rattle.ux_base.specs.Outside.{Files, Seen, IsLater}
use Rattle.ux_command_line.specs.declared.request.CascadeStep.{CascadeStep}
use Rattle.ux_grammars.specs.Sources.{Source}
use Rattle.ux_plan.specs.Plans.{Comes, Halts, all}
use Rattle.ux_plan.specs.declared.stop.Stop.{Stop}
use Rattle.ux_plan.proofs.InTurn.{all_come, all_halt_later}
use Rattle.ux_reasons.specs.declared.reason.Reason.{Reason}
use Rattle.ux_cmd_cascade.specs.declared.files.StepNet.{StepNet}
use Rattle.ux_cmd_cascade.specs.Files.{AreNetsOf, HasStepNet, HaveNets}
use Rattle.ux_cmd_cascade.specs.Reading.{step_plan}

module _ (letters : Letters) (told : Option Files) where
  -- the grammars that were read, which are those of the nets
  pub record HaveSources (steps : List CascadeStep) (nets : List StepNet) : Type 0 where
    pub sources : List Source
    pub each : AllZip (λ step source. Comes (step_plan letters step) told source) steps sources
    pub are : AreNetsOf letters steps sources nets

  pub sources_of : (steps : List CascadeStep) (nets : List StepNet) →
      AllZip (HasStepNet letters told) steps nets → HaveSources steps nets
  sources_of [] [] each = record { sources = []; each = tt; are = tt }
  sources_of [] (net ∷ nets) each = absurd each
  sources_of (step ∷ steps) [] each = absurd each
  sources_of (step ∷ steps) (net ∷ nets) each =
      let later = sources_of steps nets each.1 in
      record {
        sources = each.0.source ∷ later.sources;
        each = (each.0.comes, later.each);
        are = (each.0.is, later.are);
      }

  -- one more was read
  read_more : (steps : List CascadeStep) (nets : List StepNet) (step : CascadeStep) (net : StepNet) →
      AllZip (HasStepNet letters told) steps nets → HasStepNet letters told step net →
      AllZip (HasStepNet letters told) (steps ++ step ∷ []) (nets ++ net ∷ [])
  read_more [] [] step net each has = (has, tt)
  read_more [] (other ∷ nets) step net each has = absurd each
  read_more (one ∷ steps) [] step net each has = absurd each
  read_more (one ∷ steps) (other ∷ nets) step net each has =
      (each.0, read_more steps nets step net each.1 has)

  -- all were read
  pub nets_read : (steps : List CascadeStep) (nets : List StepNet) →
      AllZip (HasStepNet letters told) steps nets → HaveNets letters told steps nets
  nets_read steps nets each =
      let have = sources_of steps nets each in
      record {
        sources = have.sources;
        comes = all_come (step_plan letters) told steps have.sources have.each;
        are = have.are;
      }

-- there are as many nets as steps
pub as_many : (letters : Letters) (steps : List CascadeStep) (sources : List Source)
    (nets : List StepNet) → AreNetsOf letters steps sources nets → length nets ≡ length steps
as_many letters [] [] [] are = refl
as_many letters [] [] (net ∷ nets) are = absurd are
as_many letters [] (source ∷ sources) nets are = absurd are
as_many letters (step ∷ steps) [] nets are = absurd are
as_many letters (step ∷ steps) (source ∷ sources) [] are = absurd are
as_many letters (step ∷ steps) (source ∷ sources) (net ∷ nets) are =
    ap (λ n. suc n) (as_many letters steps sources nets are.1)

module _ (letters : Letters) (steps : List CascadeStep) (k : ℕ) (step : CascadeStep)
    (inside : k < length steps) (is : step ≡ get_or steps k step) where
  parts : steps ≡ take k steps ++ step ∷ drop (k + 1) steps
  parts =
      sym (take-append-drop k steps)
      ∙ ap (λ (l : List CascadeStep). take k steps ++ l) (drop-cons steps k step inside
      ∙ (ap (λ (s : CascadeStep). s ∷ drop (suc k) steps) (sym is)
      ∙ ap (λ n. step ∷ drop n steps) (sym (add-one k))))

  -- after the grammars of earlier steps, what stops the next stops the whole
  pub step_halts : (nets : List StepNet) (old mid new : Seen) (stop : Stop Reason) →
      IsLater old mid → AllZip (HasStepNet letters old.files) (take k steps) nets →
      Halts (step_plan letters step) mid new stop → Halts (all (step_plan letters) steps) old new stop
  step_halts nets old mid new stop later each stops =
      let have = sources_of letters old.files (take k steps) nets each in
      subst (λ (l : List CascadeStep). Halts (all (step_plan letters) l) old new stop) (sym parts)
      (all_halt_later (step_plan letters) (take k steps) (drop (k + 1) steps) step have.sources old mid
      new stop later have.each stops)

  -- one more was read, from a folder with the same files
  pub nets_more : (told told' : Option Files) (net : StepNet) (nets more : List StepNet) →
      told' ≡ told → AllZip (HasStepNet letters told) (take k steps) nets →
      HasStepNet letters told' step net → more ≡ nets ++ net ∷ [] →
      AllZip (HasStepNet letters told) (take (k + 1) steps) more
  nets_more told told' net nets more kept each has grown =
      let here : take (k + 1) steps ≡ take k steps ++ step ∷ [] =
      take_more steps k step inside ∙ ap (λ (s : CascadeStep). take k steps ++ s ∷ []) (sym is) in
      subst (λ (l : List StepNet). AllZip (HasStepNet letters told) (take (k + 1) steps) l) (sym grown)
      (subst (λ (l : List CascadeStep). AllZip (HasStepNet letters told) l (nets ++ net ∷ []))
      (sym here) (read_more letters told (take k steps) nets step net each
      (subst (λ (f : Option Files). HasStepNet letters f step net) kept has)))
