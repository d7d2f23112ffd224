-- Contexts that apply as they are meant: each has a body, and a net of plain labels has none.
use Rattle.std.proofs.Common.{arith, ◌≡◌, ℕ, List, [], ◌∷◌, ◌++◌, ◌↔◌, refl, sym, ◌∙◌, ap, subst, map}
use Rattle.ux_grf.specs.declared.item.Piece.{Piece}
use Rattle.ux_net.specs.declared.label.Label.{Label}
use Rattle.ux_net.specs.declared.label.Label.TheVariants.{Empty, CaseFolded, CaseExact, Mask, Brace, Space, NoSpace, Begin, End, Positive, Negative, Call}
use Rattle.ux_net.specs.declared.net_graph.NetGraph.{NetGraph}
use Rattle.ux_net.specs.Words.{Letter, piece, ordinary, opens, closes, mark_of, letters, put_by, Run, stop, along, across, IsBody}
use Rattle.ux_net.specs.Nets.{IsPlain, ArePlain, net_graph, net_grammar, states_of}
use Rattle.ux_net.specs.Closers.{ClosesInto}
use Rattle.ux_net.specs.Levels.{WordLevel}
use Rattle.ux_net.specs.Measured.{IsLower, Falls}
use Rattle.ux_meaning.specs.Inputs.{Input}
use Rattle.ux_meaning.specs.Meaning.{RefusesBy}
use Rattle.ux_meaning.specs.Contexts.{Holds, Applies}
use Rattle.ux_meaning.proofs.Levels.{refuses_iff}
use Rattle.ux_walk.specs.Contexts.{Applying, Opens, none_apply, all_asked, ApplyAsMeant, ContextsTold}
use Rattle.ux_walk.specs.Settings.{Setting, applied_text}

-- plain labels open and close no context
pub plain_mark : (x : Label) → IsPlain x → mark_of (x ∷ []) ≡ ordinary
plain_mark Empty is = refl
plain_mark (CaseFolded text) is = refl
plain_mark (CaseExact text) is = refl
plain_mark (Mask mask) is = refl
plain_mark (Brace text) is = refl
plain_mark Space is = refl
plain_mark NoSpace is = refl
plain_mark (Begin name) is = refl
plain_mark (End name) is = refl
plain_mark (Call h) is = refl
plain_mark other is = absurd is

module _ (input : Input) (net : List NetGraph) where
  -- where a context applies, a body of it is closed so
  closed_by : (levels g : ℕ) (x : Label) (o i c : ℕ) → Opens x →
      Applies input (net_grammar net) levels g x o i c → ClosesInto (net_grammar net) g o c
  closed_by levels g Positive o i c opening applies = (applies.word, applies.body)
  closed_by levels g Negative o i c opening applies = applies.0
  closed_by levels g other o i c opening applies = let mark = opening.1 in cc

  module _ (applies : Applying) (meant : ApplyAsMeant input net applies) where
    pub is_closed : (g : ℕ) (x : Label) (o i c : ℕ) → Opens x →
        applies.contexts g x o i c → ClosesInto (net_grammar net) g o c
    is_closed g x o i c opening applied =
        closed_by meant.levels g x o i c opening ((meant.exact g x o i c opening).0 applied)

    -- an edge that opens a context leads lower behind it
    pub lower_behind : (g from to : ℕ) (x : Label) (i c : ℕ) → Opens x →
        Falls net g from to x → applies.contexts g x to i c → IsLower net g from c
    lower_behind g from to Positive i c opening falls applied =
        falls.1 c (is_closed g Positive to i c opening applied)
    lower_behind g from to Negative i c opening falls applied =
        falls.1 c (is_closed g Negative to i c opening applied)
    lower_behind g from to other i c opening falls applied = let mark = opening.1 in cc

    -- a context is refused exactly where it doesn't hold
    pub refused_iff : (g o c i : ℕ) → RefusesBy input (net_grammar net) meant.levels g o c i
        ↔ (Holds input (net_grammar net) meant.levels g o c i → ⊥)
    refused_iff g o c i =
        let iff = refuses_iff input (net_grammar net) meant.level meant.levels meant.nested
        g o c i in (
          λ r h. iff.0 r h.word h.end h.events h.body h.seq,
          λ never. iff.1 (λ w k events body s. never (record {
            word = w;
            body = body;
            end = k;
            events = events;
            seq = s;
          })),
        )

-- a net of plain labels has no context
module _ (net : List NetGraph) (are : ArePlain net) where
  abbrev no_level : ℕ → ℕ → ℕ
  no_level g first = 0

  abbrev IsFlat : List Letter → Type 0
  IsFlat word = WordLevel (net_grammar net) no_level 0 word

  flat_append : (v w : List Letter) → IsFlat v → IsFlat w → IsFlat (v ++ w)
  flat_append [] w first second = second
  flat_append (x ∷ v) w first second = (first.0, flat_append v w first.1 second)

  flat_pieces : (output : List Piece) → IsFlat (map piece output)
  flat_pieces [] = tt
  flat_pieces (part ∷ output) = (tt, flat_pieces output)

  flat_label : (x : Label) → IsFlat (letters (x ∷ []))
  flat_label Empty = tt
  flat_label (Call h) = (omega arith, tt)
  flat_label other = (tt, tt)

  -- so its words enter no context
  flat_run : {g a b : ℕ} {word : List Letter} → Run g (net_graph (states_of net g)) a b word →
      IsFlat word
  flat_run stop = tt
  flat_run {g = g} (along {word = word} s is mark run) =
      flat_append (put_by s ++ letters s.labels) word
      (flat_append (put_by s) (letters s.labels) (flat_pieces s.output)
      (subst (λ (labels : List Label). IsFlat (letters labels)) (sym is.label)
      (flat_label is.edge.label)))
      (flat_run run)
  flat_run {g = g} (across sign s t is mark inner closing closed run) =
      let no : opens sign ≡ ordinary = sym mark ∙ (ap mark_of is.label
      ∙ plain_mark is.edge.label (are g s.from is.state is.edge is.found is.inside)) in
      cc

  no_body : (g o c : ℕ) (word : List Letter) →
      IsBody g ((net_grammar net).graph g) o c word → ⊥
  no_body g o c word body =
      let is = body.inside in
      let no : closes ≡ ordinary = sym body.closed ∙ (ap mark_of is.label
      ∙ plain_mark is.edge.label (are g body.step.from is.state is.edge is.found is.inside)) in
      cc

  pub none_meant : (input : Input) → ApplyAsMeant input net none_apply
  none_meant input = record {
    level = no_level;
    levels = 1;
    nested = record {
      of_graphs = λ h word is. flat_run is.run;
      of_bodies = λ g o c word body. flat_run body.run;
      below = λ g o. omega arith;
    };
    exact = λ g x o i c opening. (
      λ never. absurd never,
      λ applied.
          let body = closed_by input net 1 g x o i c opening applied in
          no_body g o c body.0 body.1,
    );
    entered = λ h at end events derives. tt;
  }

-- so a walk through it is told that none applies
pub none_told : (setting : Setting) → ArePlain setting.net →
    ContextsTold setting all_asked none_apply
none_told setting are = record {
  asked = λ g edge i opening inside. tt;
  meant = none_meant setting.net are
      (applied_text setting.alphabet setting.tokens setting.tables);
}
