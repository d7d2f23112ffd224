-- A text as an input: what a label takes lies ahead, and where a label leads.
use Rattle.std.proofs.Common.{◌≡◌, ℕ, List, [], ◌∷◌, ◌++◌, ◌⊎◌, ◌↔◌, Option, Some, None, inl, inr, refl, sym, ap, subst, ◌∙◌, length, Bool}
use Rattle.std.specs.Prelude.{Contains, IsTrue, is_some}
use Rattle.std.proofs.lemmas.List.Elements.{Contains-append_left, Contains-append_right, Contains-append_cases, Contains-push, Contains-push_cases}
use Rattle.std.proofs.lemmas.Option.{same_Some, none-some}
use Rattle.ux_alphabet.specs.Letters.{Letters}
use Rattle.ux_tokens.specs.Tokens.{Token}
use Rattle.ux_masks.specs.declared.mask.Mask.{Mask}
use Rattle.ux_net.specs.declared.label.Label.{Label}
use Rattle.ux_net.specs.declared.label.Label.TheVariants as label
use Rattle.ux_lexical_tables.specs.Accepting.{Accepts}
use Rattle.ux_lexical_tables.specs.Belonging.{Belongs}
use Rattle.ux_lexical_tables.specs.Tables.{Tables}
use Rattle.ux_lexical_tables.proofs.OneTokenLaws.{accepts_forward}
use Rattle.ux_outputs.specs.declared.event.Event.TheVariants as event
use Rattle.ux_outputs.specs.Rendering.{skip}
use Rattle.ux_meaning.specs.Inputs.{Input}
use Rattle.ux_meaning.specs.Texts.{IsSpaceAt, Takes}
use Rattle.ux_parts.specs.Ordered.{GoesAhead, IsTaking}
use Rattle.ux_parts.specs.Runs.{Plain}
use Rattle.ux_walk.specs.Settings.{applied_text}
use Rattle.ux_walk.proofs.Onward.{takes_forward}
use Rattle.ux_mask_table.specs.MaskedTexts.{AddsEnds}
use Rattle.ux_text_chart.specs.Leading.{MayLead, without_masks}

module _ (alphabet : Letters) (tokens : List Token) (tables : Tables) where
  taking : (x : Label) (p k : ℕ) → Takes alphabet tokens (Accepts alphabet tokens tables) x p k →
      IsTaking x
  taking (label.CaseFolded text) p k t = tt
  taking (label.CaseExact text) p k t = tt
  taking (label.Mask mask) p k t = tt
  taking (label.Brace text) p k t = tt
  taking label.Space p k t = tt
  taking x p k t = absurd t

  pub goes_ahead : Belongs alphabet tokens tables →
      GoesAhead (applied_text alphabet tokens tables) (length tokens)
  goes_ahead belongs = record {
    taking = λ {x} {p} {k} t. taking x p k t;
    forward = λ {x} {p} {k} t. (takes_forward alphabet tokens tables
        (accepts_forward alphabet tokens tables belongs) x p k t).0;
    within = λ {x} {p} {k} t. (takes_forward alphabet tokens tables
        (accepts_forward alphabet tokens tables belongs) x p k t).1;
  }

  -- masks alone are told by the entries
  plain_same : (x : Label) (p k : ℕ) → ((mask : Mask) → x ≡ label.Mask mask → ⊥) →
      Plain (without_masks alphabet tokens) x p k ↔ Plain (applied_text alphabet tokens tables) x p k
  plain_same (label.Mask mask) p k never = absurd (never mask refl)
  plain_same (label.CaseFolded text) p k never = (λ h. h, λ h. h)
  plain_same (label.CaseExact text) p k never = (λ h. h, λ h. h)
  plain_same (label.Brace text) p k never = (λ h. h, λ h. h)
  plain_same label.Space p k never = (λ h. h, λ h. h)
  plain_same label.NoSpace p k never = (λ h. h, λ h. h)
  plain_same (label.Begin name) p k never = (λ h. h, λ h. h)
  plain_same (label.End name) p k never = (λ h. h, λ h. h)
  plain_same label.Cut p k never = (λ h. h, λ h. h)
  plain_same x p k never = (λ h. h, λ h. h)

  -- the ends of a mask are added
  pub masked : (x : Label) (mask : Mask) (p place : ℕ) (old new : List ℕ) → x ≡ label.Mask mask →
      place ≡ skip tokens p → AddsEnds (Accepts alphabet tokens tables mask place) old new →
      (k : ℕ) → Contains new k ↔ (Contains old k ⊎ Plain (applied_text alphabet tokens tables) x p k)
  masked x mask p place old new is after adds k =
      subst (λ (y : Label). Contains new k
      ↔ (Contains old k ⊎ Plain (applied_text alphabet tokens tables) y p k)) (sym is)
      (subst (λ (l : List ℕ). Contains l k
      ↔ (Contains old k ⊎ Plain (applied_text alphabet tokens tables) (label.Mask mask) p k))
      (sym adds.added) (
        λ h. elim (Contains-append_cases old adds.more k h) [
          | inl o ↦ inl o
          | inr n ↦ inr (inl (subst (λ n. Accepts alphabet tokens tables mask n k) after
              ((adds.exactly k).0 n)))
        ],
        λ h. elim h [
          | inl o ↦ Contains-append_left old adds.more k o
          | inr n ↦ Contains-append_right old adds.more k (elim n [
            | inl t ↦ (adds.exactly k).1
                (subst (λ n. Accepts alphabet tokens tables mask n k) (sym after) t)
            | inr s ↦ absurd s.2
          ])
        ],
      ))

  -- so is the one end of another label
  pub ended : (x : Label) (p : ℕ) (old new : List ℕ) (end : ℕ) (o : Option ℕ) → o ≡ Some end →
      ((mask : Mask) → x ≡ label.Mask mask → ⊥) →
      ((k : ℕ) → (o ≡ Some k) ↔ Plain (without_masks alphabet tokens) x p k) → new ≡ old ++ end ∷ [] →
      (k : ℕ) → Contains new k ↔ (Contains old k ⊎ Plain (applied_text alphabet tokens tables) x p k)
  ended x p old new end o is never exact put k =
      subst (λ (l : List ℕ). Contains l k
      ↔ (Contains old k ⊎ Plain (applied_text alphabet tokens tables) x p k)) (sym put) (
        λ h. elim (Contains-push_cases old end k h) [
          | inl o ↦ inl o
          | inr e ↦ inr ((plain_same x p k never).0 ((exact k).0 (is ∙ ap Some e)))
        ],
        λ h. elim h [
          | inl o ↦ Contains-append_left old (end ∷ []) k o
          | inr n ↦
              let e = same_Some end k (sym is ∙ (exact k).1 ((plain_same x p k never).1 n)) in
              subst (λ m. Contains (old ++ end ∷ []) m) e (Contains-push old end)
        ],
      )

  pub not_ended : (x : Label) (p : ℕ) (old : List ℕ) (o : Option ℕ) → o ≡ None →
      ((mask : Mask) → x ≡ label.Mask mask → ⊥) →
      ((k : ℕ) → (o ≡ Some k) ↔ Plain (without_masks alphabet tokens) x p k) →
      (k : ℕ) → Contains old k ↔ (Contains old k ⊎ Plain (applied_text alphabet tokens tables) x p k)
  not_ended x p old o is never exact k = (
    λ h. inl h,
    λ h. elim h [
      | inl o ↦ o
      | inr n ↦ absurd (none-some k (sym is ∙ (exact k).1 ((plain_same x p k never).1 n)))
    ],
  )

-- a label that takes something leads nowhere else
pub plain_taking : (input : Input) (x : Label) → IsTaking x → (p k : ℕ) →
    input.Takes x p k ↔ Plain input x p k
plain_taking input (label.CaseFolded text) t p k = (
  λ h. inl h,
  λ h. elim h [
    | inl a ↦ a
    | inr s ↦ absurd s.2
  ],
)
plain_taking input (label.CaseExact text) t p k = (
  λ h. inl h,
  λ h. elim h [
    | inl a ↦ a
    | inr s ↦ absurd s.2
  ],
)
plain_taking input (label.Mask mask) t p k = (
  λ h. inl h,
  λ h. elim h [
    | inl a ↦ a
    | inr s ↦ absurd s.2
  ],
)
plain_taking input (label.Brace text) t p k = (
  λ h. inl h,
  λ h. elim h [
    | inl a ↦ a
    | inr s ↦ absurd s.2
  ],
)
plain_taking input label.Space t p k = (
  λ h. inl h,
  λ h. elim h [
    | inl a ↦ a
    | inr s ↦ absurd s.2
  ],
)
plain_taking input x t p k = absurd t

-- labels of one token, and the space
abbrev IsTried : Label → Type 0
IsTried (label.CaseFolded text) = Unit {0}
IsTried (label.CaseExact text) = Unit {0}
IsTried (label.Brace text) = Unit {0}
IsTried label.Space = Unit {0}
IsTried x = ⊥

module _ (alphabet : Letters) (tokens : List Token) (tables : Tables) where
  -- a label that is tried leads on where an end is told
  tried_leads : (x : Label) → IsTried x → (o : Option ℕ) (p : ℕ) →
      ((k : ℕ) → (o ≡ Some k) ↔ Plain (without_masks alphabet tokens) x p k) →
      ((k : ℕ) × (o ≡ Some k)) ↔ MayLead (applied_text alphabet tokens tables) x p
  tried_leads (label.CaseFolded text) t o p exact = (
    λ (k, is). (
      k,
      (plain_taking (without_masks alphabet tokens) (label.CaseFolded text) tt p k).1
          ((exact k).0 is),
    ),
    λ (k, takes). (k, (exact k).1 (inl takes)),
  )
  tried_leads (label.CaseExact text) t o p exact = (
    λ (k, is). (
      k,
      (plain_taking (without_masks alphabet tokens) (label.CaseExact text) tt p k).1
          ((exact k).0 is),
    ),
    λ (k, takes). (k, (exact k).1 (inl takes)),
  )
  tried_leads (label.Brace text) t o p exact = (
    λ (k, is). (
      k,
      (plain_taking (without_masks alphabet tokens) (label.Brace text) tt p k).1
          ((exact k).0 is),
    ),
    λ (k, takes). (k, (exact k).1 (inl takes)),
  )
  tried_leads label.Space t o p exact = (
    λ (k, is). (
      k,
      (plain_taking (without_masks alphabet tokens) label.Space tt p k).1
          ((exact k).0 is),
    ),
    λ (k, takes). (k, (exact k).1 (inl takes)),
  )
  tried_leads x t o p exact = absurd t

  -- the same, as an arm of a match and a test have it
  pub tried_test : (x : Label) →
      ((text : List ℕ) × (x ≡ label.CaseFolded text))
      ⊎ (((text : List ℕ) × (x ≡ label.CaseExact text))
      ⊎ (((text : List ℕ) × (x ≡ label.Brace text)) ⊎ (x ≡ label.Space))) →
      (o : Option ℕ) (p : ℕ) →
      ((k : ℕ) → (o ≡ Some k) ↔ Plain (without_masks alphabet tokens) x p k) →
      IsTrue (is_some o) ↔ MayLead (applied_text alphabet tokens tables) x p
  tried_test x which o p exact = by o refl
    where
      tried : IsTried x
      tried = elim which [
        | inl f ↦ subst IsTried (sym f.1) tt
        | inr r ↦ elim r [
          | inl e ↦ subst IsTried (sym e.1) tt
          | inr s ↦ elim s [
            | inl b ↦ subst IsTried (sym b.1) tt
            | inr q ↦ subst IsTried (sym q) tt
          ]
        ]
      ]

      by : (told : Option ℕ) → o ≡ told →
          IsTrue (is_some told) ↔ MayLead (applied_text alphabet tokens tables) x p
      by None is = (
        λ t. cc,
        λ may.
            let end = (tried_leads x tried o p exact).1 may in
            absurd (none-some end.0 (sym is ∙ end.1)),
      )
      by (Some k) is = (λ t. (tried_leads x tried o p exact).0 (k, is), λ may. refl)

  -- a mask leads on where it accepts something
  pub mask_test : (x : Label) (mask : Mask) (p place : ℕ) (some : Bool) → x ≡ label.Mask mask →
      place ≡ skip tokens p →
      (IsTrue some ↔ ((k : ℕ) × Accepts alphabet tokens tables mask place k)) →
      IsTrue some ↔ MayLead (applied_text alphabet tokens tables) x p
  mask_test x mask p place some is after told =
      subst (λ (y : Label). IsTrue some ↔ MayLead (applied_text alphabet tokens tables) y p)
      (sym is) (
        λ t. subst (λ n. (k : ℕ) × Accepts alphabet tokens tables mask n k) after (told.0 t),
        λ (k, takes). told.1
            (k, subst (λ n. Accepts alphabet tokens tables mask n k) (sym after) takes),
      )

module _ (alphabet : Letters) (tokens : List Token) where
  abbrev bare : Input
  bare = without_masks alphabet tokens

  -- `#` leads where it stands, where no space does
  pub plain_glue : (p k : ℕ) → ((IsSpaceAt tokens p → ⊥) × (k ≡ p)) ↔ Plain bare label.NoSpace p k
  plain_glue p k = (
    λ h. inr (h.1, [], (h.0, refl)),
    λ h. elim h [ inl t ↦ absurd t | inr s ↦ (s.2.0, s.0) ],
  )

  -- labels that lead where they stand
  abbrev IsPassed : Label → Type 0
  IsPassed (label.Begin name) = Unit {0}
  IsPassed (label.End name) = Unit {0}
  IsPassed label.Cut = Unit {0}
  IsPassed x = ⊥

  pub plain_passed : (x : Label) → IsPassed x → (p k : ℕ) → (Some p ≡ Some k) ↔ Plain bare x p k
  plain_passed (label.Begin name) y p k = (
    λ e. inr (sym (same_Some p k e), event.Begin name ∷ [], refl),
    λ h. elim h [ inl t ↦ absurd t | inr s ↦ ap Some (sym s.0) ],
  )
  plain_passed (label.End name) y p k = (
    λ e. inr (sym (same_Some p k e), event.End name ∷ [], refl),
    λ h. elim h [ inl t ↦ absurd t | inr s ↦ ap Some (sym s.0) ],
  )
  plain_passed label.Cut y p k = (
    λ e. inr (sym (same_Some p k e), event.Cut ∷ [], refl),
    λ h. elim h [ inl t ↦ absurd t | inr s ↦ ap Some (sym s.0) ],
  )
  plain_passed x y p k = absurd y

  -- labels that lead nowhere by themselves
  abbrev IsClosed : Label → Type 0
  IsClosed label.Empty = Unit {0}
  IsClosed (label.Mask mask) = Unit {0}
  IsClosed label.Positive = Unit {0}
  IsClosed label.Negative = Unit {0}
  IsClosed label.ContextEnd = Unit {0}
  IsClosed (label.Call graph) = Unit {0}
  IsClosed x = ⊥

  never_plain : (x : Label) → IsClosed x → (p k : ℕ) → Plain bare x p k → ⊥
  never_plain label.Empty y p k h = elim h [ inl t ↦ t | inr s ↦ s.2 ]
  never_plain (label.Mask mask) y p k h = elim h [ inl t ↦ t | inr s ↦ s.2 ]
  never_plain label.Positive y p k h = elim h [ inl t ↦ t | inr s ↦ s.2 ]
  never_plain label.Negative y p k h = elim h [ inl t ↦ t | inr s ↦ s.2 ]
  never_plain label.ContextEnd y p k h = elim h [ inl t ↦ t | inr s ↦ s.2 ]
  never_plain (label.Call graph) y p k h = elim h [ inl t ↦ t | inr s ↦ s.2 ]
  never_plain x y p k h = absurd y

  pub plain_closed : (x : Label) → IsClosed x → (p k : ℕ) → (None ≡ Some k) ↔ Plain bare x p k
  plain_closed x y p k = (λ e. absurd (none-some k e), λ h. absurd (never_plain x y p k h))

  -- the same, as an arm of a match has it
  pub plain_begun : (x : Label) →
      ((name : List ℕ) × (x ≡ label.Begin name))
      ⊎ (((name : List ℕ) × (x ≡ label.End name)) ⊎ (x ≡ label.Cut)) →
      (p k : ℕ) → (Some p ≡ Some k) ↔ Plain bare x p k
  plain_begun x (inl b) p k = plain_passed x (subst IsPassed (sym b.1) tt) p k
  plain_begun x (inr (inl e)) p k = plain_passed x (subst IsPassed (sym e.1) tt) p k
  plain_begun x (inr (inr c)) p k = plain_passed x (subst IsPassed (sym c) tt) p k
