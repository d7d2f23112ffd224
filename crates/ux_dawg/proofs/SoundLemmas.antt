-- What is sound stays sound where a state is finished, begun or given a code.
use Rattle.std.proofs.Common.{arith, ◌≡◌, ℕ, ◌<◌, ◌≤◌, ◌∙◌, List, [], ◌∷◌, ◌++◌, ◌⊎◌, inl, inr, refl, sym, ap, subst, length, length-append}
use Rattle.std.specs.Prelude.{Some, Contains}
use Rattle.std.proofs.lemmas.Option.{none-some, slice_get_within}
use Rattle.std.proofs.lemmas.List.Elements.{Contains-append_left, Contains-push_cases, Contains-push}
use Rattle.ux_dawg.specs.declared.state.State.{State}
use Rattle.ux_dawg.specs.declared.state.Edge.{Edge}
use Rattle.ux_dawg.specs.declared.pending.Frame.{Frame}
use Rattle.ux_dawg.specs.Register.{IsKept}
use Rattle.ux_dawg.specs.Paths.{edge, AreAscending, IsFit, IsAlive}
use Rattle.ux_dawg.specs.Building.{IsPending, IsTarget, IsOpen, IsSound, bare, with_edge}
use Rattle.ux_dawg.specs.Building.{letters}
use Rattle.ux_dawg.specs.Order.{IsOrdered}
use Rattle.ux_dawg.proofs.OrderLemmas.{ordered_start, ordered_open, ordered_close}
use Rattle.ux_dawg.proofs.PathLemmas.{got, is_some_of, contains_at, in_front, behind, kept_at, kept_from}

ascending_push : (es : List Edge) (x : Edge) → AreAscending es → ((e : Edge) → Contains es e → e.letter < x.letter) → AreAscending (es ++ x ∷ [])
ascending_push [] x up before = (λ d has. absurd (none-some d (is_some_of [] d has).1), tt)
ascending_push (e ∷ es) x up before = (
  λ d has. elim (Contains-push_cases es x d has) [
    | inl old ↦ up.0 d old
    | inr new ↦ subst (λ (y : Edge). e.letter < y.letter) new (before e (in_front e es))
  ],
  ascending_push es x up.1 (λ d has. before d (behind e es d has)),
)

fit_more : (n m : ℕ) (s : State) → n ≤ m → IsFit n s → IsFit m s
fit_more n m s more fit = record { ascending = fit.ascending; within = λ e has. let l = fit.within e has in omega (arith, l, more) }

bare_fit : (n : ℕ) → IsFit n bare
bare_fit n = record { ascending = tt; within = λ e has. absurd (none-some e (is_some_of [] e has).1) }

pub sound_start : IsSound [] [] bare
sound_start = record {
  fit = λ i s at. absurd (none-some s at);
  alive = λ i s at. absurd (none-some s at);
  frames = λ f has. absurd (none-some f (is_some_of [] f has).1);
  top_fit = bare_fit 0;
  used = λ i less. absurd (omega (arith, less));
  ordered = ordered_start;
}

pub sound_open : (states : List State) (above : List Frame) (top : State) (a : ℕ) → IsSound states above top → ((e : Edge) → Contains top.edges e → e.letter < a) →
    IsSound states (above ++ record { state = top; letter = a } ∷ []) bare
sound_open states above top a sound under = let frame : Frame = record { state = top; letter = a } in record {
  fit = sound.fit;
  alive = sound.alive;
  frames = λ f has. elim (Contains-push_cases above frame f has) [
    | inl old ↦ sound.frames f old
    | inr new ↦ subst (IsOpen (length states)) new (record { fit = sound.top_fit; before = under })
  ];
  top_fit = bare_fit (length states);
  ordered = ordered_open states above top a sound.ordered (λ f has. (sound.frames f has).before) under;
  used = λ i less. let t = sound.used i less in record {
    «from» = t.«from»;
    stands = elim t.stands [
      | inl pending ↦ elim pending [
        | inl is ↦ inl (inr (frame, Contains-push above frame, sym is))
        | inr f ↦ inl (inr (f.0, Contains-append_left above (frame ∷ []) f.0 f.1, f.2))
      ]
      | inr there ↦ inr there
    ];
    letter = t.letter;
    leads = t.leads;
  };
}

pub sound_code : (states : List State) (above : List Frame) (top top' : State) → top'.edges ≡ top.edges → IsSound states above top → IsSound states above top'
sound_code states above top top' same sound = record {
  fit = sound.fit;
  alive = sound.alive;
  frames = sound.frames;
  top_fit = record {
    ascending = subst AreAscending (sym same) sound.top_fit.ascending;
    within = λ e has. sound.top_fit.within e (subst (λ (es : List Edge). Contains es e) same has);
  };
  used = λ i less. let t = sound.used i less in by i t t.stands;
  ordered = subst (λ (es : List Edge). IsOrdered states above es (letters above)) (sym same) sound.ordered;
}
  where
    by : (i : ℕ) → (t : IsTarget states above top i) → IsPending above top t.«from» ⊎ Contains states t.«from» → IsTarget states above top' i
    by i t (inr there) = record { «from» = t.«from»; stands = inr there; letter = t.letter; leads = t.leads }
    by i t (inl (inr f)) = record { «from» = t.«from»; stands = inl (inr f); letter = t.letter; leads = t.leads }
    by i t (inl (inl is)) = record {
      «from» = top';
      stands = inl (inl refl);
      letter = t.letter;
      leads = subst (λ (es : List Edge). Contains es (edge t.letter i)) (sym same) (subst (λ (s : State). Contains s.edges (edge t.letter i)) is t.leads);
    }

-- the register has grown, if at all, by the finished state
pub grows : (old new : List State) (item : State) (i : ℕ) → IsKept old new item i → length old ≤ length new
grows old new item i kept = elim kept.grown [
  | inl same ↦ omega (arith, ap (length {A = State}) same)
  | inr more ↦ omega (arith, ap (length {A = State}) more.0, length-append old (item ∷ []))
]

pub sound_close : (states : List State) (above : List Frame) (f : Frame) (top : State) (states' : List State) (n : ℕ) →
    IsSound states (above ++ f ∷ []) top → IsAlive top → IsKept states states' top n →
    IsSound states' above (with_edge f.state f.letter n)
sound_close states above f top states' n sound live kept =
    let more = grows states states' top n kept in
    let open' = sound.frames f (Contains-push above f) in
    let top' = with_edge f.state f.letter n in
    record {
      fit = λ i s at. elim (kept_from states states' top n kept i s at) [
        | inl old ↦ sound.fit i s old
        | inr new ↦ subst (λ m. IsFit m s) (sym new.0) (subst (IsFit (length states)) (sym new.1) sound.top_fit)
      ];
      alive = λ i s at. elim (kept_from states states' top n kept i s at) [
        | inl old ↦ sound.alive i s old
        | inr new ↦ subst IsAlive (sym new.1) live
      ];
      frames = λ g has. let o = sound.frames g (Contains-append_left above (f ∷ []) g has) in record { fit = fit_more (length states) (length states') g.state more o.fit; before = o.before };
      top_fit = record {
        ascending = ascending_push f.state.edges (edge f.letter n) open'.fit.ascending open'.before;
        within = λ e has. elim (Contains-push_cases f.state.edges (edge f.letter n) e has) [
          | inl old ↦ let l = open'.fit.within e old in omega (arith, l, more)
          | inr new ↦ subst (λ (x : Edge). x.target < length states') new (slice_get_within states' n top kept.stored)
        ];
      };
      ordered = ordered_close states above f top sound.ordered sound.fit (λ g has. (sound.frames g has).fit) sound.top_fit.within states' n kept;
      used = λ i less. let g = got states' i less in elim (kept_from states states' top n kept i g.0 g.1) [
        | inl old ↦ let t = sound.used i (slice_get_within states i g.0 old) in by i t t.stands
        | inr new ↦ subst (IsTarget states' above top') new.2 (record { «from» = top'; stands = inl (inl refl); letter = f.letter; leads = Contains-push f.state.edges (edge f.letter n) })
      ];
    }
  where
    by : (i : ℕ) → (t : IsTarget states (above ++ f ∷ []) top i) → IsPending (above ++ f ∷ []) top t.«from» ⊎ Contains states t.«from» → IsTarget states' above (with_edge f.state f.letter n) i
    by i t (inr there) = let p = is_some_of states t.«from» there in record {
      «from» = t.«from»;
      stands = inr (contains_at states' p.0 t.«from» (kept_at states states' top n kept p.0 t.«from» p.1));
      letter = t.letter;
      leads = t.leads;
    }
    by i t (inl (inl is)) = record {
      «from» = t.«from»;
      stands = inr (contains_at states' n t.«from» (kept.stored ∙ ap Some (sym is)));
      letter = t.letter;
      leads = t.leads;
    }
    by i t (inl (inr g)) = elim (Contains-push_cases above f g.0 g.1) [
      | inl old ↦ record { «from» = t.«from»; stands = inl (inr (g.0, old, g.2)); letter = t.letter; leads = t.leads }
      | inr new ↦ record {
        «from» = with_edge f.state f.letter n;
        stands = inl (inl refl);
        letter = t.letter;
        leads = Contains-append_left f.state.edges (edge f.letter n ∷ []) (edge t.letter i)
            (subst (λ (s : State). Contains s.edges (edge t.letter i)) (sym (ap (λ (h : Frame). h.state) new ∙ g.2)) t.leads);
      }
    ]
