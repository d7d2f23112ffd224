-- From what is kept to what a step gives.
use Rattle.std.proofs.Common.{arith, ◌≡◌, ℕ, ◌+◌, ◌<◌, ◌≤◌, List, [], ◌∷◌, ◌⊎◌, ◌↔◌, inl, inr, sym, ◌∙◌, subst, refl, length, Bool, true, false}
use Rattle.std.specs.Prelude.{Contains, Some, IsTrue, slice_get}
use Rattle.ux_lexical_tables.specs.Accepting.{IsAlone}
use Rattle.ux_lexical_tables.specs.Belonging.{Belongs}
use Rattle.ux_closure.specs.declared.closing.Closure.{Closure}
use Rattle.ux_closure.specs.declared.stand.Stand.{Stand}
use Rattle.ux_closure.specs.Holding.{IsClosure}
use Rattle.ux_net.specs.declared.state.Edge.{Edge}
use Rattle.ux_closure.specs.Passing.{behind}
use Rattle.ux_closure.specs.Taking.{TellsSpace}
use Rattle.ux_meaning.specs.Texts.{IsSpaceAt}
use Rattle.ux_masks.specs.declared.mask.Mask.{Mask}
use Rattle.ux_net.specs.declared.label.Label.TheVariants as label
use Rattle.ux_tokens.specs.declared.kind.Kind.{Kind}
use Rattle.ux_tokens.specs.Tokens.{Token}
use Rattle.ux_outputs.specs.Rendering.{skip}
use Rattle.ux_walk.specs.declared.config.Frame.{Frame}
use Rattle.ux_walk.specs.Leads.{LeadsFrom, LeadsTo, Stack}
use Rattle.ux_walk.specs.Settings.{Setting}
use Rattle.ux_automaton.specs.declared.closed.Closed.{Closed}
use Rattle.ux_automaton.specs.declared.onward.Onward.{Onward}
use Rattle.ux_automaton.specs.declared.step.Landing.{Landing}
use Rattle.ux_automaton.specs.declared.step.Step.{Step}
use Rattle.ux_automaton.specs.declared.target.Target.{Target}
use Rattle.ux_automaton.specs.Caches.{IsClosed, IsNumbered, TakeSingly, IsTransition}
use Rattle.ux_automaton.specs.Fronts.{Known, Store, HasStand, HoldsIn, IsFrontIn, NamesStack}
use Rattle.ux_automaton.specs.Kept.{Grows, IsSound, IsStand}
use Rattle.ux_automaton.specs.Landings.{AreLandings}
use Rattle.ux_automaton.specs.Onwards.{IsFrontOver, IsOnward}
use Rattle.ux_automaton.specs.Steps.{IsStep, LeadsFromLanding}
use Rattle.ux_automaton.specs.Targets.{GoesOver, IsEdgeOf, IsOver, IsTarget, MayTakeToken, TakeNoToken}
use Rattle.ux_automaton.proofs.AddingLemmas.{nothing_in}
use Rattle.ux_automaton.proofs.CacheLemmas.{goes_same, leads_same, over_same, through}
use Rattle.ux_automaton.proofs.OverLemmas.{closure_leads, front_over, leads_by}
use Rattle.ux_automaton.proofs.StoreLemmas.{front_kept, grows_on, holds_kept, names_same, nothing_held}
use Rattle.ux_automaton.proofs.TakesLemmas.{alone_near, numbered_within, reach, same_token, skip_space, space_alike, space_within, takes_space, token_alike}

-- the known of a setting and a store
abbrev pub known_at : Setting → Store → Known
known_at setting store = record { setting = setting; store = store }

module _ (setting : Setting)
    (belongs : Belongs setting.alphabet setting.tokens setting.tables) where
  module _ (There : Stack → Type 0) where
    -- edges of stacks where masks accept one token at most take no more
    singly_mask : (place : ℕ) → TakeSingly setting There place → (f : Frame) (fs : Stack) (edge : _) →
        There (f ∷ fs) → IsEdgeOf setting.net f edge → (mask : Mask) →
        edge.label ≡ label.Mask mask → IsAlone setting.tokens setting.tables place
    singly_mask place (inl alone) f fs edge there of mask is = alone
    singly_mask place (inr none) f fs edge there of mask is = absurd (none f fs edge mask there of is)

    -- and so do these stacks
    pub near : (p k : ℕ) (stack : Stack) (token : Token) →
        slice_get setting.tokens (skip setting.tokens p) ≡ Some token →
        TakeSingly setting There (skip setting.tokens p) → IsOver setting There p k stack →
        skip setting.tokens p + 1 < k → ⊥
    near p k stack token at singly (f, fs, there, edge, of, takes, is) far =
        alone_near setting belongs edge.label p k token at
        (singly_mask (skip setting.tokens p) singly f fs edge there of) takes far

    -- edges lead alike over the token at two places
    alike : (p q : ℕ) (token : Token) →
        slice_get setting.tokens (skip setting.tokens p) ≡ Some token →
        slice_get setting.tokens (skip setting.tokens q) ≡ Some token →
        TakeSingly setting There (skip setting.tokens p) →
        TakeSingly setting There (skip setting.tokens q) → (stack : Stack) →
        IsOver setting There p (skip setting.tokens p + 1) stack →
        IsOver setting There q (skip setting.tokens q + 1) stack
    alike p q token here at singly other stack (f, fs, there, edge, of, takes, is) = (
      f,
      fs,
      there,
      edge,
      of,
      token_alike setting belongs p q token here at edge.label (λ mask e. (
        singly_mask (skip setting.tokens p) singly f fs edge there of mask e,
        singly_mask (skip setting.tokens q) other f fs edge there of mask e,
      )) takes,
      is,
    )

    space_over : (p q : ℕ) → IsSpaceAt setting.tokens p → IsSpaceAt setting.tokens q →
        (stack : Stack) → IsOver setting There p (p + 1) stack →
        IsOver setting There q (q + 1) stack
    space_over p q here at stack (f, fs, there, edge, of, takes, is) =
        (f, fs, there, edge, of, space_alike setting belongs edge.label p q here at takes, is)

  -- a transition that was worked out at one place is right at each
  pub transition_right : (old new : Store) → IsSound old → Grows old new →
      (front number next p : ℕ) (kind : Kind) → IsFrontIn old front → IsFrontIn new next →
      IsNumbered setting.tokens (skip setting.tokens p) number kind →
      TakeSingly setting (HoldsIn old front) (skip setting.tokens p) →
      ((stack : Stack) → HoldsIn new next stack
      ↔ IsOver setting (HoldsIn old front) p (skip setting.tokens p + 1) stack) →
      IsTransition setting new
      (record { front = front; number = number; kind = kind; next = next })
  transition_right old new sound grows front number next p kind there next_there numbered singly over =
      record {
        front_there = front_kept old new sound grows front there;
        next_there = next_there;
        leads = λ q other other_singly stack.
            let token = same_token setting.tokens (skip setting.tokens p) (skip setting.tokens q)
            number kind numbered other in
            let same = holds_kept old new sound grows front there in
            let now : (s : Stack) → HoldsIn new next s
            ↔ IsOver setting (HoldsIn new front) p (skip setting.tokens p + 1) s =
            λ s. through (over s) (over_same setting (HoldsIn old front) (HoldsIn new front) same p
            (skip setting.tokens p + 1) s) in
            let here : TakeSingly setting (HoldsIn new front) (skip setting.tokens p) =
            elim singly [
              | inl alone ↦ inl alone
              | inr none ↦ inr (λ f fs edge mask has. none f fs edge mask ((same (f ∷ fs)).1 has))
            ] in (
              λ h. alike (HoldsIn new front) p q token.0 token.1 token.2 here other_singly stack
                  ((now stack).0 h),
              λ h. (now stack).1 (alike (HoldsIn new front) q p token.0 token.2 token.1 other_singly
                  here stack h),
            );
      }

  -- nothing is taken behind the end of the text
  pub end_onward : (store : Store) (There : Stack → Type 0) (p : ℕ) (onward : Onward) →
      length setting.tokens ≤ skip setting.tokens p → onward.over_token ≡ 0 →
      onward.landings.items ≡ [] → IsOnward setting store There p onward
  end_onward store There p onward past zero_is none = record {
    token = record {
      there = omega (arith, zero_is);
      stacks = λ stack. (
        λ h. absurd (nothing_held store stack (subst (λ n. HoldsIn store n stack) zero_is h)),
        λ h. absurd (beyond (skip setting.tokens p + 1) stack h (omega arith)),
      );
    };
    token_within = inl zero_is;
    landings = λ landing inside.
        absurd (nothing_in (subst (λ (l : List Landing). Contains l landing) none inside));
    all = λ k stack over far. absurd (beyond k stack over (omega (arith, far)));
  }
    where
      beyond : (k : ℕ) (stack : Stack) → IsOver setting There p k stack →
          skip setting.tokens p < k → ⊥
      beyond k stack (f, fs, there, edge, of, takes, is) far =
          let within = (reach setting belongs edge.label p k takes).within in
          omega (arith, within, past, far)

  -- where no edge may take a token
  pub bare_onward : (store : Store) (There : Stack → Type 0) (p : ℕ) (onward : Onward) →
      TakeNoToken setting.net There → onward.over_token ≡ 0 → onward.landings.items ≡ [] →
      IsOnward setting store There p onward
  bare_onward store There p onward no_token zero_is none = record {
    token = record {
      there = omega (arith, zero_is);
      stacks = λ stack. (
        λ h. absurd (nothing_held store stack (subst (λ n. HoldsIn store n stack) zero_is h)),
        λ h. absurd (beyond (skip setting.tokens p + 1) stack h (omega arith)),
      );
    };
    token_within = inl zero_is;
    landings = λ landing inside.
        absurd (nothing_in (subst (λ (l : List Landing). Contains l landing) none inside));
    all = λ k stack over far. absurd (beyond k stack over (omega (arith, far)));
  }
    where
      beyond : (k : ℕ) (stack : Stack) → IsOver setting There p k stack →
          skip setting.tokens p < k → ⊥
      beyond k stack (f, fs, there, edge, of, takes, is) far =
          let space = takes_space setting edge.label p k
          (λ may. no_token f fs edge there of may) takes in
          let past = skip_space setting.tokens p space.0 in
          let at = space.1 in
          omega (arith, past, at, far)

  -- a transition tells all where no span of several tokens begins
  pub singly_onward : (store : Store) (old : Store) (front number p : ℕ) (kind : Kind)
      (onward : Onward) → IsSound old → Grows old store → IsFrontIn old front →
      IsTransition setting store
      (record { front = front; number = number; kind = kind; next = onward.over_token }) →
      IsNumbered setting.tokens (skip setting.tokens p) number kind →
      TakeSingly setting (HoldsIn old front) (skip setting.tokens p) → onward.landings.items ≡ [] →
      IsOnward setting store (HoldsIn old front) p onward
  singly_onward store old front number p kind onward sound grows there right numbered singly none =
      let same = holds_kept old store sound grows front there in
      let inside = numbered_within setting.tokens (skip setting.tokens p) number kind numbered in
      let here : TakeSingly setting (HoldsIn store front) (skip setting.tokens p) = elim singly [
        | inl alone ↦ inl alone
        | inr no_mask ↦ inr (λ f fs edge mask has. no_mask f fs edge mask ((same (f ∷ fs)).1 has))
      ] in record {
        token = record {
          there = right.next_there;
          stacks = λ stack. through (right.leads p numbered here stack)
              (over_same setting (HoldsIn store front) (HoldsIn old front)
              (λ s. ((same s).1, (same s).0)) p (skip setting.tokens p + 1) stack);
        };
        token_within = inr (omega (arith, inside));
        landings = λ landing has.
            absurd (nothing_in (subst (λ (l : List Landing). Contains l landing) none has));
        all = λ k stack over far.
            absurd (near (HoldsIn old front) p k stack numbered.0 numbered.1 singly over far);
      }

  -- at any place the fronts of all targets tell all
  pub anew_onward : (old mid new : Store) (front p : ℕ) (targets : List Target) (onward : Onward) →
      IsSound old → Grows old mid → Grows mid new → Grows old new → IsFrontIn old front →
      skip setting.tokens p < length setting.tokens →
      ((stand : Stand) → HasStand old front stand → IsStand old stand) →
      ((target : Target) → Contains targets target
      ↔ IsTarget setting p (HasStand old front) target) →
      IsFrontIn mid onward.over_token →
      ((stand : Stand) → HasStand mid onward.over_token stand
      ↔ Contains targets (record { at = skip setting.tokens p + 1; stand = stand })) →
      AreLandings new targets (skip setting.tokens p + 1) onward.landings.items →
      IsOnward setting new (HoldsIn old front) p onward
  anew_onward old mid new front p targets onward sound first second grows there inside stands exact
      token_there token landings = record {
        token = record {
          there = front_kept mid new first.sound second onward.over_token token_there;
          stacks = λ stack. through
              (let kept = holds_kept mid new first.sound second onward.over_token token_there stack in
              (kept.1, kept.0))
              (front_over setting (HasStand old front) targets p (skip setting.tokens p + 1) exact old
              mid sound first stands onward.over_token token stack);
        };
        token_within = inr (omega (arith, inside));
        landings = λ landing has.
            let each = landings.each landing has in (
              each.0,
              landed_within landing has,
              record {
                there = each.1.there;
                stacks = λ stack. front_over setting (HasStand old front) targets p landing.at exact old
                    new sound grows stands landing.front each.1.stands stack;
              },
            );
        all = λ k stack over far. all_landed k stack over far;
      }
    where
      landed_within : (landing : Landing) → Contains onward.landings.items landing →
          landing.at ≤ length setting.tokens
      landed_within landing has =
          let real = landings.real landing has in
          let target = (exact (record { at = landing.at; stand = real.0 })).0 real.1 in
          (reach setting belongs target.2.label p landing.at target.4.0).within

      all_landed : (k : ℕ) (stack : Stack) → IsOver setting (HoldsIn old front) p k stack →
          skip setting.tokens p + 1 < k →
          (landing : Landing) × Contains onward.landings.items landing × (landing.at ≡ k)
      all_landed k stack (f, fs, (from, has, (here, names)), edge, of, takes, is) far =
          let target : Target = record {
            at = k;
            stand = record { here = behind from.here edge; back = from.back };
          } in
          landings.all target ((exact target).1 (
            from,
            has,
            edge,
            subst (λ (x : Frame). IsEdgeOf setting.net x edge) (sym here) of,
            (takes, refl),
          )) far

  module _ (one two : Store) (front p : ℕ) (is_spaced : Bool) (tells : TellsSpace setting p is_spaced)
      (sound : IsSound one) (grows : Grows one two) (closed : Closed)
      (right : IsClosed setting one front is_spaced closed) (onward : Onward)
      (goes : IsOnward setting two (HoldsIn one closed.front) p onward) (step : Step)
      (ends_is : step.ends ≡ closed.ends) (space_is : step.over_space ≡ closed.over_space)
      (token_is : step.over_token ≡ onward.over_token)
      (landings_are : step.landings.items ≡ onward.landings.items) where
    abbrev Lead : (front at end : ℕ) → Type 0
    Lead f at end = LeadsFrom setting (HoldsIn two f) at end

    -- the space tells itself
    space_cases : (IsTrue is_spaced × IsSpaceAt setting.tokens p)
        ⊎ ((is_spaced ≡ false) × (IsSpaceAt setting.tokens p → ⊥))
    space_cases = go is_spaced tells.0 tells.1
      where
        go : (b : Bool) → (IsTrue b → IsSpaceAt setting.tokens p) →
            (IsSpaceAt setting.tokens p → IsTrue b) →
            (IsTrue b × IsSpaceAt setting.tokens p)
            ⊎ ((b ≡ false) × (IsSpaceAt setting.tokens p → ⊥))
        go true forth back = inl (refl, forth refl)
        go false forth back = inr (refl, λ space. let yes = back space in cc)

    space_stacks : (stack : Stack) → IsSpaceAt setting.tokens p →
        HoldsIn two step.over_space stack
        ↔ IsOver setting (HoldsIn one closed.front) p (p + 1) stack
    space_stacks stack space =
        let kept = holds_kept one two sound grows closed.over_space right.space_there stack in
        subst (λ n. HoldsIn two n stack
        ↔ IsOver setting (HoldsIn one closed.front) p (p + 1) stack) (sym space_is)
        (through (kept.1, kept.0) (right.over_space p (tells.1 space) space stack))

    token_stacks : (stack : Stack) → HoldsIn two step.over_token stack
        ↔ IsOver setting (HoldsIn one closed.front) p (skip setting.tokens p + 1) stack
    token_stacks stack = subst (λ n. HoldsIn two n stack
        ↔ IsOver setting (HoldsIn one closed.front) p (skip setting.tokens p + 1) stack)
        (sym token_is) (goes.token.stacks stack)

    over_parts : (end k : ℕ) (stack : Stack) →
        IsOver setting (HoldsIn one closed.front) p k stack → LeadsTo setting stack k end →
        Lead step.over_space (p + 1) end
        ⊎ (Lead step.over_token (skip setting.tokens p + 1) end
        ⊎ LeadsFromLanding (known_at setting two) step end)
    over_parts end k stack over leads =
        go ((reach setting belongs over.3.label p k over.5).place)
      where
        go : (IsSpaceAt setting.tokens p × (k ≡ p + 1))
            ⊎ ((k ≡ skip setting.tokens p + 1) ⊎ ((skip setting.tokens p + 1 < k)
            × (skip setting.tokens p < length setting.tokens)
            × ((mask : Mask) × (over.3.label ≡ label.Mask mask)))) →
            Lead step.over_space (p + 1) end
            ⊎ (Lead step.over_token (skip setting.tokens p + 1) end
            ⊎ LeadsFromLanding (known_at setting two) step end)
        go (inl (space, is)) = inl (
          stack,
          (space_stacks stack space).1
              (subst (λ n. IsOver setting (HoldsIn one closed.front) p n stack) is over),
          subst (λ n. LeadsTo setting stack n end) is leads,
        )
        go (inr (inl is)) = inr (inl (
          stack,
          (token_stacks stack).1
              (subst (λ n. IsOver setting (HoldsIn one closed.front) p n stack) is over),
          subst (λ n. LeadsTo setting stack n end) is leads,
        ))
        go (inr (inr (far, inside, mask))) =
            let landed = goes.all k stack over far in
            let landing = goes.landings landed.0 landed.1 in
            inr (inr (
              landed.0,
              subst (λ (l : List Landing). Contains l landed.0) (sym landings_are) landed.1,
              (
                stack,
                (landing.2.stacks stack).1
                    (subst (λ n. IsOver setting (HoldsIn one closed.front) p n stack)
                    (sym landed.2) over),
                subst (λ n. LeadsTo setting stack n end) (sym landed.2) leads,
              ),
            ))

    parts_over : (end : ℕ) → Lead step.over_space (p + 1) end
        ⊎ (Lead step.over_token (skip setting.tokens p + 1) end
        ⊎ LeadsFromLanding (known_at setting two) step end) →
        GoesOver setting (HoldsIn one closed.front) p end
    parts_over end (inl (stack, held, leads)) = elim space_cases [
      | inl space ↦ (p + 1, stack, (space_stacks stack space.1).0 held, leads)
      | inr bare ↦ absurd (nothing_held two stack
          (subst (λ n. HoldsIn two n stack) (space_is ∙ right.no_space bare.0) held))
    ]
    parts_over end (inr (inl (stack, held, leads))) =
        (skip setting.tokens p + 1, stack, (token_stacks stack).0 held, leads)
    parts_over end (inr (inr (landing, inside, (stack, held, leads)))) =
        let here = goes.landings landing
        (subst (λ (l : List Landing). Contains l landing) landings_are inside) in
        (landing.at, stack, (here.2.stacks stack).0 held, leads)

    landing_there : (landing : Landing) → Contains step.landings.items landing →
        (skip setting.tokens p + 1 < landing.at) × (landing.at ≤ length setting.tokens)
        × IsFrontOver setting two (HoldsIn one closed.front) p landing.at landing.front
    landing_there landing inside = goes.landings landing
        (subst (λ (l : List Landing). Contains l landing) landings_are inside)

    -- what is known of a front, and where walks go on behind tokens, are a step
    pub step_is : (old : Store) → IsSound old → Grows old one → IsFrontIn old front →
        IsStep (known_at setting old) (known_at setting two) front p step
    step_is old old_sound before there = record {
      over_space = subst (λ n. IsFrontIn two n) (sym space_is)
          (front_kept one two sound grows closed.over_space right.space_there);
      over_token = subst (λ n. IsFrontIn two n) (sym token_is) goes.token.there;
      space_within = elim space_cases [
        | inl space ↦ inr (space_inside space.1)
        | inr bare ↦ inl (space_is ∙ right.no_space bare.0)
      ];
      token_within = subst
          (λ n. (n ≡ 0) ⊎ (skip setting.tokens p + 1 ≤ length setting.tokens)) (sym token_is)
          goes.token_within;
      landings = λ landing inside. record {
        front = (landing_there landing inside).2.there;
        later = (landing_there landing inside).0;
        within = (landing_there landing inside).1;
      };
      exactly = λ end. through
          (leads_old end)
          (through (right.leads p tells end) (
            λ h. elim h [
              | inl e ↦ inl (subst (λ b. IsTrue b) (sym ends_is) e.0, e.1)
              | inr over ↦ inr (over_parts end over.0 over.1 over.2 over.3)
            ],
            λ h. elim h [
              | inl e ↦ inl (subst (λ b. IsTrue b) ends_is e.0, e.1)
              | inr parts ↦ inr (parts_over end parts)
            ],
          ));
    }
      where
        space_inside : IsSpaceAt setting.tokens p → p + 1 ≤ length setting.tokens
        space_inside space = space_within setting belongs p space

        leads_old : (end : ℕ) → LeadsFrom setting (HoldsIn old front) p end
            ↔ LeadsFrom setting (HoldsIn one front) p end
        leads_old end =
            let same = holds_kept old one old_sound before front there in (
              leads_by setting (HoldsIn old front) (HoldsIn one front) (λ s. (same s).0) p end,
              leads_by setting (HoldsIn one front) (HoldsIn old front) (λ s. (same s).1) p end,
            )

  -- what is worked out of a front is right
  module _ (zero_store one two three : Store) (front : ℕ) (is_spaced : Bool) (at : ℕ)
      (tells : TellsSpace setting at is_spaced) (closure : Closure) (closed : Closed)
      (sound : IsSound zero_store) (first : Grows zero_store one) (second : Grows one two)
      (third : Grows two three) (there : IsFrontIn zero_store front)
      (is : IsClosure setting.net is_spaced (HoldsIn zero_store front) one.stacks closure)
      (stands_there : (stand : Stand) → Contains closure.stands.items stand → IsStand one stand)
      (ends_is : closed.ends ≡ closure.ends) (closed_there : IsFrontIn two closed.front)
      (stands : (stand : Stand) →
      HasStand two closed.front stand ↔ Contains closure.stands.items stand) where
    abbrev Given : Store → Stack → Type 0
    Given store = NamesStack store.stacks (Contains closure.stands.items)

    at_two : (stack : Stack) → Given two stack ↔ HoldsIn three closed.front stack
    at_two stack = through (
      (λ h. (h.0, (stands h.0).1 h.1, h.2)),
      (λ h. (h.0, (stands h.0).0 h.1, h.2)),
    ) (holds_kept two three second.sound third closed.front closed_there stack)

    at_one : (stack : Stack) → Given one stack ↔ HoldsIn three closed.front stack
    at_one stack = through (names_same one two first.sound second
        (Contains closure.stands.items) stands_there stack) (at_two stack)

    pub close_right : IsFrontIn three closed.over_space →
        (IsSpaceAt setting.tokens at → (stack : Stack) → HoldsIn three closed.over_space stack
        ↔ IsOver setting (Given two) at (at + 1) stack) →
        ((IsSpaceAt setting.tokens at → ⊥) → closed.over_space ≡ 0) →
        (closed.has_masks ≡ false → (stand : Stand) (edge : Edge) (mask : Mask) →
        Contains closure.stands.items stand → IsEdgeOf setting.net stand.here edge →
        edge.label ≡ label.Mask mask → ⊥) →
        (closed.takes_tokens ≡ false → (stand : Stand) (edge : Edge) →
        Contains closure.stands.items stand → IsEdgeOf setting.net stand.here edge →
        MayTakeToken edge.label → ⊥) →
        IsClosed setting three front is_spaced closed
    close_right space_there spaced bare masks tokens =
        let whole = grows_on zero_store two three (grows_on zero_store one two first second) third in
        let kept = holds_kept zero_store three sound whole front there in record {
          front_there = front_kept zero_store three sound whole front there;
          there = front_kept two three second.sound third closed.front closed_there;
          space_there = space_there;
          leads = λ p tells_p end. through
              (leads_same setting (HoldsIn three front) (HoldsIn zero_store front)
              (λ s. ((kept s).1, (kept s).0)) p end)
              (through (closure_leads setting is_spaced (HoldsIn zero_store front) one.stacks closure is
              p tells_p end) (
                λ h. elim h [
                  | inl e ↦ inl (subst (λ b. IsTrue b) (sym ends_is) e.0, e.1)
                  | inr over ↦ inr ((goes_same setting (Given one) (HoldsIn three closed.front) at_one
                      p end).0 over)
                ],
                λ h. elim h [
                  | inl e ↦ inl (subst (λ b. IsTrue b) ends_is e.0, e.1)
                  | inr over ↦ inr ((goes_same setting (Given one) (HoldsIn three closed.front) at_one
                      p end).1 over)
                ],
              ));
          over_space = λ p yes space stack. through (spaced (tells.0 yes) stack) (
            λ h. (over_same setting (Given two) (HoldsIn three closed.front) at_two p (p + 1) stack).0
                (space_over (Given two) at p (tells.0 yes) space stack h),
            λ h. space_over (Given two) p at space (tells.0 yes) stack
                ((over_same setting (Given two) (HoldsIn three closed.front) at_two p (p + 1) stack).1 h),
          );
          no_space = λ no. bare (λ space. let yes = tells.1 space in
              let both : true ≡ false = sym yes ∙ no in cc);
          masks = λ none f fs edge mask held of has. no_mask none f fs edge mask
              ((at_two (f ∷ fs)).1 held) of has;
          tokens = λ none f fs edge held of may. no_token none f fs edge
              ((at_two (f ∷ fs)).1 held) of may;
        }
      where
        no_token : closed.takes_tokens ≡ false → (f : Frame) (fs : Stack) (edge : Edge) →
            Given two (f ∷ fs) → IsEdgeOf setting.net f edge → MayTakeToken edge.label → ⊥
        no_token none f fs edge (stand, inside, (here, names)) of may = tokens none stand edge inside
            (subst (λ (x : Frame). IsEdgeOf setting.net x edge) (sym here) of) may

        no_mask : closed.has_masks ≡ false → (f : Frame) (fs : Stack) (edge : Edge) (mask : Mask) →
            Given two (f ∷ fs) → IsEdgeOf setting.net f edge → edge.label ≡ label.Mask mask → ⊥
        no_mask none f fs edge mask (stand, inside, (here, names)) of has =
            masks none stand edge mask inside
            (subst (λ (x : Frame). IsEdgeOf setting.net x edge) (sym here) of) has
