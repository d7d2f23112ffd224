-- From what is kept to starts from which nothing is derived.
use Rattle.std.proofs.Common.{arith, ◌≡◌, ℕ, ◌+◌, ◌<◌, ◌≤◌, ◌⊎◌, inl, inr, sym, ◌∙◌, subst, refl, length, Bool, true, false}
use Rattle.std.specs.Prelude.{IsTrue}
use Rattle.ux_lexical_tables.specs.Accepting.{IsAlone}
use Rattle.ux_lexical_tables.specs.Belonging.{Belongs}
use Rattle.ux_closure.specs.Taking.{TellsSpace}
use Rattle.ux_masks.specs.declared.mask.Mask.{Mask}
use Rattle.ux_meaning.specs.Texts.{IsSpaceAt}
use Rattle.ux_net.specs.declared.label.Label.TheVariants as label
use Rattle.ux_outputs.specs.Rendering.{skip}
use Rattle.ux_tokens.specs.declared.kind.Kind.{Kind}
use Rattle.ux_walk.specs.Leads.{LeadsTo, Stack, main_stack}
use Rattle.ux_walk.specs.Settings.{Setting}
use Rattle.ux_automaton.specs.declared.closed.Closed.{Closed}
use Rattle.ux_automaton.specs.Caches.{IsBarred, IsClosed, IsNumbered, TakeSingly, IsTransition}
use Rattle.ux_automaton.specs.Fronts.{BeginsNothing, HoldsIn, Store}
use Rattle.ux_automaton.specs.Kept.{IsFirst}
use Rattle.ux_automaton.specs.Onwards.{LeadNowhere, LeadOnlyTo}
use Rattle.ux_automaton.specs.Targets.{GoesOver, IsOver, TakeNoToken}
use Rattle.ux_automaton.proofs.StepLemmas.{near}
use Rattle.ux_automaton.proofs.StoreLemmas.{nothing_held}
use Rattle.ux_automaton.proofs.TakesLemmas.{reach, skip_bare, takes_space}

-- no walk leads anywhere from front 0
pub nowhere_from_0 : (setting : Setting) (store : Store) (p : ℕ) →
    LeadNowhere setting (HoldsIn store 0) p
nowhere_from_0 setting store p end (stack, held, leads) = nothing_held store stack held

-- edges that may take no token take a space alone
pub bare_only : (setting : Setting) (store : Store) (There : Stack → Type 0) (p front : ℕ) →
    TakeNoToken setting.net There → LeadOnlyTo setting store There p front
bare_only setting store There p front none k stack (f, fs, there, edge, of, takes, is) =
    inl (takes_space setting edge.label p k (λ may. none f fs edge there of may) takes)

module _ (setting : Setting)
    (belongs : Belongs setting.alphabet setting.tokens setting.tables) (store : Store) where
  -- at the end of the text edges take a space alone
  pub end_only : (There : Stack → Type 0) (p front : ℕ) →
      length setting.tokens ≤ skip setting.tokens p → LeadOnlyTo setting store There p front
  end_only There p front past k stack over =
      let reached = reach setting belongs over.3.label p k over.5 in
      go reached.place reached.within
    where
      go : ((IsSpaceAt setting.tokens p × (k ≡ p + 1))
          ⊎ ((k ≡ skip setting.tokens p + 1) ⊎ ((skip setting.tokens p + 1 < k)
          × (skip setting.tokens p < length setting.tokens)
          × ((mask : Mask) × (over.3.label ≡ label.Mask mask))))) → k ≤ length setting.tokens →
          (IsSpaceAt setting.tokens p × (k ≡ p + 1))
          ⊎ ((k ≡ skip setting.tokens p + 1) × HoldsIn store front stack)
      go (inl space) within = inl space
      go (inr (inl is)) within = absurd (omega (arith, is, within, past))
      go (inr (inr (far, inside, mask))) within = absurd (omega (arith, inside, past))

  -- where no span of several tokens is taken, they lead where a transition leads
  pub token_only : (front number next p : ℕ) (kind : Kind) → IsTransition setting store
      (record { front = front; number = number; kind = kind; next = next }) →
      IsNumbered setting.tokens (skip setting.tokens p) number kind →
      TakeSingly setting (HoldsIn store front) (skip setting.tokens p) →
      LeadOnlyTo setting store (HoldsIn store front) p next
  token_only front number next p kind right numbered singly k stack over =
      go ((reach setting belongs over.3.label p k over.5).place)
    where
      go : ((IsSpaceAt setting.tokens p × (k ≡ p + 1))
          ⊎ ((k ≡ skip setting.tokens p + 1) ⊎ ((skip setting.tokens p + 1 < k)
          × (skip setting.tokens p < length setting.tokens)
          × ((mask : Mask) × (over.3.label ≡ label.Mask mask))))) →
          (IsSpaceAt setting.tokens p × (k ≡ p + 1))
          ⊎ ((k ≡ skip setting.tokens p + 1) × HoldsIn store next stack)
      go (inl space) = inl space
      go (inr (inl is)) = inr (
        is,
        (right.leads p numbered singly stack).1
            (subst (λ n. IsOver setting (HoldsIn store front) p n stack) is over),
      )
      go (inr (inr (far, inside, mask))) = absurd (near setting belongs (HoldsIn store front) p k
          stack numbered.0 numbered.1 singly over far)

  -- a front leads nowhere whose closure doesn't end, leads over a token into front 0 alone, and
  -- over a space to where no walk leads on
  pub nowhere : (front p : ℕ) (is_spaced : Bool) → TellsSpace setting p is_spaced →
      (closed : Closed) → IsClosed setting store front is_spaced closed → closed.ends ≡ false →
      LeadNowhere setting (HoldsIn store closed.over_space) (p + 1) →
      LeadOnlyTo setting store (HoldsIn store closed.front) p 0 →
      LeadNowhere setting (HoldsIn store front) p
  nowhere front p is_spaced tells closed right no_end no_space only end leads =
      go ((right.leads p tells end).0 leads)
    where
      go : (IsTrue closed.ends × (end ≡ p))
          ⊎ GoesOver setting (HoldsIn store closed.front) p end → ⊥
      go (inl (ends, is)) = let both : true ≡ false = sym ends ∙ no_end in cc
      go (inr (k, stack, over, leads_on)) = by (only k stack over)
        where
          by : (IsSpaceAt setting.tokens p × (k ≡ p + 1))
              ⊎ ((k ≡ skip setting.tokens p + 1) × HoldsIn store 0 stack) → ⊥
          by (inl (space, is)) = no_space end (
            stack,
            (right.over_space p (tells.1 space) space stack).1
                (subst (λ n. IsOver setting (HoldsIn store closed.front) p n stack) is over),
            subst (λ n. LeadsTo setting stack n end) is leads_on,
          )
          by (inr (is, held)) = nothing_held store stack held

  -- nothing begins where the first front leads only to one that leads nowhere
  pub begins_nothing : (first : ℕ) (closed : Closed) → IsFirst store first →
      IsClosed setting store first false closed → (start next : ℕ) →
      LeadOnlyTo setting store (HoldsIn store closed.front) start next →
      LeadNowhere setting (HoldsIn store next) (start + 1) →
      (IsSpaceAt setting.tokens start → ⊥) → BeginsNothing setting start
  begins_nothing first closed is_first right start next only nothing bare end later leads =
      go ((right.leads start
      ((λ yes. let no : false ≡ true = yes in cc), λ space. absurd (bare space)) end).0
      (main_stack, (is_first.main main_stack).1 refl, leads))
    where
      go : (IsTrue closed.ends × (end ≡ start))
          ⊎ GoesOver setting (HoldsIn store closed.front) start end → ⊥
      go (inl (ends, is)) = omega (arith, is, later)
      go (inr (k, stack, over, leads_on)) = by (only k stack over)
        where
          by : (IsSpaceAt setting.tokens start × (k ≡ start + 1))
              ⊎ ((k ≡ skip setting.tokens start + 1) × HoldsIn store next stack) → ⊥
          by (inl (space, is)) = bare space
          by (inr (is, held)) =
              let same = skip_bare setting.tokens start bare in
              let at : k ≡ start + 1 = omega (arith, is, same) in
              nothing end (stack, held, subst (λ n. LeadsTo setting stack n end) at leads_on)

  -- nothing begins with tokens over which the first front leads nowhere
  pub bars : (first : ℕ) (closed : Closed) (number : ℕ) (kind : Kind) → IsFirst store first →
      IsClosed setting store first false closed → IsTransition setting store
      (record { front = closed.front; number = number; kind = kind; next = 0 }) →
      IsBarred setting number kind
  bars first closed number kind is_first right transition start numbered alone bare =
      let same = sym (skip_bare setting.tokens start bare) in
      begins_nothing first closed is_first right start 0
      (token_only closed.front number 0 start kind transition
      (subst (λ n. IsNumbered setting.tokens n number kind) same numbered)
      (inl (subst (λ n. IsAlone setting.tokens setting.tables n) same alone)))
      (nowhere_from_0 setting store (start + 1)) bare
