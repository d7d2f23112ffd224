-- A text says one compiled grammar, or is refused for one reason.
use Rattle.std.proofs.Common.{arith, ◌≡◌, inl, inr, ℕ, ◌<◌, Bool, true, false, List, [], ◌∷◌, Option, Some, refl, sym, ap, ◌∙◌, subst, length}
use Rattle.std.specs.List.{AllZip}
use Rattle.std.proofs.lemmas.Bool.{cases_order}
use Rattle.std.proofs.lemmas.Option.{same_Some, slice_get_within}
use Rattle.ux_grf.specs.declared.item.Piece.{Piece}
use Rattle.ux_net.specs.declared.label.Label.{Label}
use Rattle.ux_net.specs.declared.state.Edge.{Edge}
use Rattle.ux_net.specs.declared.state.State.{State}
use Rattle.ux_net.specs.declared.state_graph.StateGraph.{StateGraph}
use Rattle.ux_fst2_file.specs.Files.{Says}
use Rattle.ux_fst2_file.specs.Labels.{StopsAtLabel}
use Rattle.ux_fst2_file.specs.declared.error.Fst2Error as lines
use Rattle.ux_fst2_file.specs.declared.error.Fst2Error.TheVariants as line_error
use Rattle.ux_fst2_file.specs.declared.file.Fst2Label.{Fst2Label}
use Rattle.ux_fst2_file.specs.declared.file.Fst2Label.TheVariants.{Tag, Call}
use Rattle.ux_fst2_file.specs.declared.file.Fst2Edge.{Fst2Edge}
use Rattle.ux_fst2_file.specs.declared.file.Fst2State.{Fst2State}
use Rattle.ux_fst2_file.specs.declared.file.Fst2Graph.{Fst2Graph}
use Rattle.ux_fst2_file.specs.declared.file.Fst2File.{Fst2File}
use Rattle.ux_fst2_file.proofs.FileLaws.{file_once}
use Rattle.ux_fst2_file.proofs.LabelLaws.{bad_label_once, labels_fit_or_stop}
use Rattle.ux_fst2_file.proofs.RefusalLaws as file
use Rattle.ux_fst2.specs.Files.{IsEdgeBy, IsGraphBy, IsStateBy}
use Rattle.ux_fst2.specs.Reading.{AreTagsWhole, HasBadLabel, HasBadTag, IsBadTag, IsSaidBy, Refuses, SaysGraphs, StopsAtTag}
use Rattle.ux_fst2.specs.Tags.{IsTag}
use Rattle.ux_fst2.proofs.TagLaws.{tag_once}
use Rattle.ux_fst2.specs.declared.error.Fst2Error.{Fst2Error}
use Rattle.ux_fst2.specs.declared.error.Fst2Error.TheVariants.{BadCount, BadLine, BadTag, BadLabel, NoMemory}

-- lists of what each item of a list tells, where it tells one thing, are one
pub each_once : {A B : Type 0} (R : A → B → Type 0) →
    ((x : A) (y z : B) → R x y → R x z → y ≡ z) → (xs : List A) (ys zs : List B) →
    AllZip R xs ys → AllZip R xs zs → ys ≡ zs
each_once R one [] [] [] is also = refl
each_once R one [] [] (z ∷ zs) is also = absurd also
each_once R one [] (y ∷ ys) zs is also = absurd is
each_once R one (x ∷ xs) [] zs is also = absurd is
each_once R one (x ∷ xs) (y ∷ ys) [] is also = absurd also
each_once {A} {B} R one (x ∷ xs) (y ∷ ys) (z ∷ zs) is also =
    let first = one x y z is.0 also.0 in
    let later = each_once R one xs ys zs is.1 also.1 in
    ap (λ (b : B). b ∷ ys) first ∙ ap (λ (bs : List B). z ∷ bs) later

-- what makes an edge, a state and a graph
same_edge : (a b : Edge) → a.label ≡ b.label → a.output ≡ b.output → a.target ≡ b.target → a ≡ b
same_edge a b label output target =
    let E : Label → List Piece → ℕ → Edge =
    λ l o t. record { label = l; output = o; target = t } in
    ap (λ (l : Label). E l a.output a.target) label
    ∙ (ap (λ (o : List Piece). E b.label o a.target) output ∙ ap (E b.label b.output) target)

same_state : (a b : State) → a.is_final ≡ b.is_final → a.edges ≡ b.edges → a ≡ b
same_state a b final edges =
    let S : Bool → List Edge → State = λ f es. record { is_final = f; edges = es } in
    ap (λ (f : Bool). S f a.edges) final ∙ ap (S b.is_final) edges

pub same_graph : (a b : StateGraph) → a.name ≡ b.name → a.states ≡ b.states → a ≡ b
same_graph a b name states =
    let G : List ℕ → List State → StateGraph = λ n ss. record { name = n; states = ss } in
    ap (λ (n : List ℕ). G n a.states) name ∙ ap (G b.name) states

-- a number of a file says one label and one output, as a tag does
label_once : (tags : List (List ℕ)) (x : Fst2Label) (label other : Label)
    (output also : List Piece) → IsSaidBy tags x label output → IsSaidBy tags x other also →
    (label ≡ other) × (output ≡ also)
label_once tags (Tag n) label other output also is likewise =
    let same = same_Some is.0 likewise.0 (sym is.1 ∙ likewise.1) in
    tag_once likewise.0 label other output also
    (subst (λ (t : List ℕ). IsTag t label output) same is.2) likewise.2
label_once tags (Call g) label other output also is likewise =
    (is.0 ∙ sym likewise.0, is.1 ∙ sym likewise.1)

module _ (tags : List (List ℕ)) where
  edge_once : (x : Fst2Edge) (y z : Edge) → IsEdgeBy (IsSaidBy tags) x y →
      IsEdgeBy (IsSaidBy tags) x z → y ≡ z
  edge_once x y z is also =
      let both = label_once tags x.label y.label z.label y.output z.output is.label also.label in
      same_edge y z both.0 both.1 (sym is.target ∙ also.target)

  state_once : (x : Fst2State) (y z : State) → IsStateBy (IsSaidBy tags) x y →
      IsStateBy (IsSaidBy tags) x z → y ≡ z
  state_once x y z is also =
      same_state y z (sym is.ends ∙ also.ends)
      (each_once (IsEdgeBy (IsSaidBy tags)) edge_once x.edges y.edges z.edges is.edges also.edges)

  graph_once : (x : Fst2Graph) (y z : StateGraph) → IsGraphBy (IsSaidBy tags) x y →
      IsGraphBy (IsSaidBy tags) x z → y ≡ z
  graph_once x y z is also =
      same_graph y z (sym is.named ∙ also.named)
      (each_once (IsStateBy (IsSaidBy tags)) state_once x.states y.states z.states is.are also.are)

-- a text says one list of graphs
pub graphs_once : (text : List ℕ) (one other : List StateGraph) → SaysGraphs text one →
    SaysGraphs text other → one ≡ other
graphs_once text one other is also =
    let same = (file_once text is.file also.file true true is.says also.says).0 in
    each_once (IsGraphBy (IsSaidBy also.file.tags)) (graph_once also.file.tags) also.file.graphs one
    other
    (subst (λ (f : Fst2File). AllZip (IsGraphBy (IsSaidBy f.tags)) f.graphs one) same is.are)
    also.are

-- THE REASONS

-- where each tag is as it must be, none stops the reading
whole_or_stop : (tags : List (List ℕ)) (is_ended : Bool) (n : ℕ) → AreTagsWhole tags is_ended →
    StopsAtTag tags is_ended n → ⊥
whole_or_stop tags is_ended n whole stops = by stops.bad
  where
    by : IsBadTag tags is_ended n → ⊥
    by (inl bad) = bad.2 (whole.good n bad.0 (slice_get_within tags n bad.0 bad.1) bad.1)
    by (inr (same, inl none)) =
        let some = whole.some in
        omega (arith, some, same, none)
    by (inr (same, inr not_ended)) = let no : true ≡ false = sym whole.ended ∙ not_ended in cc

-- a bad tag isn't before the first
no_earlier : (tags : List (List ℕ)) (is_ended : Bool) (n m : ℕ) → n < m →
    StopsAtTag tags is_ended n → StopsAtTag tags is_ended m → ⊥
no_earlier tags is_ended n m low one other = by one.bad other.bad
  where
    inside : IsBadTag tags is_ended m → n ≡ length tags → ⊥
    inside (inl bad) same = omega (arith, low, same, slice_get_within tags m bad.0 bad.1)
    inside (inr (also, rest)) same = omega (arith, low, same, also)

    by : IsBadTag tags is_ended n → IsBadTag tags is_ended m → ⊥
    by (inl bad) other_bad = bad.2 (other.before n bad.0 low bad.1)
    by (inr (same, rest)) other_bad = inside other_bad same

-- so there is one first bad tag
tag_stop_once : (tags : List (List ℕ)) (is_ended : Bool) (n m : ℕ) → StopsAtTag tags is_ended n →
    StopsAtTag tags is_ended m → n ≡ m
tag_stop_once tags is_ended n m one other = elim (cases_order n m) [
  | inl same ↦ same
  | inr (inl low) ↦ absurd (no_earlier tags is_ended n m low one other)
  | inr (inr low) ↦ absurd (no_earlier tags is_ended m n low other one)
]

-- a text with a first bad tag says lines
bad_tag_once : (text : List ℕ) (n m : ℕ) → HasBadTag text n → HasBadTag text m → n ≡ m
bad_tag_once text n m one other =
    let same = file_once text one.file other.file one.is_ended other.is_ended one.says other.says in
    tag_stop_once other.file.tags other.is_ended n m
    (subst (λ (e : Bool). StopsAtTag other.file.tags e n) same.1
    (subst (λ (f : Fst2File). StopsAtTag f.tags one.is_ended n) same.0 one.stops)) other.stops

-- where tags are as they must be, none is bad
no_bad_tag : (text : List ℕ) (f : Fst2File) (n : ℕ) → Says text f true → AreTagsWhole f.tags true →
    HasBadTag text n → ⊥
no_bad_tag text f n says whole bad =
    let same = file_once text bad.file f bad.is_ended true bad.says says in
    whole_or_stop f.tags true n whole
    (subst (λ (e : Bool). StopsAtTag f.tags e n) same.1
    (subst (λ (g : Fst2File). StopsAtTag g.tags bad.is_ended n) same.0 bad.stops))

bad_label_of_text_once : (text : List ℕ) (n m : ℕ) → HasBadLabel text n → HasBadLabel text m → n ≡ m
bad_label_of_text_once text n m one other =
    let same = (file_once text one.file other.file true true one.says other.says).0 in
    bad_label_once other.file n m (subst (λ (f : Fst2File). StopsAtLabel f n) same one.stops)
    other.stops

-- the error of the lines alone, where it is one
abbrev line_error_of : Fst2Error → Option lines.Fst2Error
line_error_of BadCount = Some line_error.BadCount
line_error_of (BadLine line) = Some (line_error.BadLine line)
line_error_of other = Option.None

-- a text that says lines is refused for none of them
no_line_refusal : (text : List ℕ) (f : Fst2File) (is_ended : Bool) (line : ℕ) →
    Says text f is_ended → Refuses text (BadLine line) → ⊥
no_line_refusal text f is_ended line says refused =
    file.said_not_refused text f is_ended (line_error.BadLine line) says refused

no_count_refusal : (text : List ℕ) (f : Fst2File) (is_ended : Bool) → Says text f is_ended →
    Refuses text BadCount → ⊥
no_count_refusal text f is_ended says refused =
    file.said_not_refused text f is_ended line_error.BadCount says refused

-- a text that says graphs isn't refused
pub said_not_refused : (text : List ℕ) (graphs : List StateGraph) (error : Fst2Error) →
    SaysGraphs text graphs → Refuses text error → ⊥
said_not_refused text graphs BadCount is refused =
    no_count_refusal text is.file true is.says refused
said_not_refused text graphs (BadLine line) is refused =
    no_line_refusal text is.file true line is.says refused
said_not_refused text graphs (BadTag n) is refused =
    no_bad_tag text is.file n is.says is.tags refused
said_not_refused text graphs (BadLabel line) is refused =
    let same = (file_once text refused.file is.file true true refused.says is.says).0 in
    labels_fit_or_stop is.file line is.fit
    (subst (λ (f : Fst2File). StopsAtLabel f line) same refused.stops)
said_not_refused text graphs NoMemory is refused = refused

-- a text is refused for one reason
pub text_refused_once : (text : List ℕ) (one other : Fst2Error) → Refuses text one →
    Refuses text other → one ≡ other
text_refused_once text BadCount BadCount is also = refl
text_refused_once text BadCount (BadLine m) is also =
    let no = file.refused_once text line_error.BadCount (line_error.BadLine m) is also in cc
text_refused_once text BadCount (BadTag m) is also =
    absurd (no_count_refusal text also.file also.is_ended also.says is)
text_refused_once text BadCount (BadLabel m) is also =
    absurd (no_count_refusal text also.file true also.says is)
text_refused_once text BadCount NoMemory is also = absurd also
text_refused_once text (BadLine n) BadCount is also =
    let no = file.refused_once text line_error.BadCount (line_error.BadLine n) also is in cc
text_refused_once text (BadLine n) (BadLine m) is also =
    let same = file.refused_once text (line_error.BadLine n) (line_error.BadLine m) is also in
    let numbers : n ≡ m = cc in
    ap BadLine numbers
text_refused_once text (BadLine n) (BadTag m) is also =
    absurd (no_line_refusal text also.file also.is_ended n also.says is)
text_refused_once text (BadLine n) (BadLabel m) is also =
    absurd (no_line_refusal text also.file true n also.says is)
text_refused_once text (BadLine n) NoMemory is also = absurd also
text_refused_once text (BadTag n) BadCount is also =
    absurd (no_count_refusal text is.file is.is_ended is.says also)
text_refused_once text (BadTag n) (BadLine m) is also =
    absurd (no_line_refusal text is.file is.is_ended m is.says also)
text_refused_once text (BadTag n) (BadTag m) is also = ap BadTag (bad_tag_once text n m is also)
text_refused_once text (BadTag n) (BadLabel m) is also =
    absurd (no_bad_tag text also.file n also.says also.tags is)
text_refused_once text (BadTag n) NoMemory is also = absurd also
text_refused_once text (BadLabel n) BadCount is also =
    absurd (no_count_refusal text is.file true is.says also)
text_refused_once text (BadLabel n) (BadLine m) is also =
    absurd (no_line_refusal text is.file true m is.says also)
text_refused_once text (BadLabel n) (BadTag m) is also =
    absurd (no_bad_tag text is.file m is.says is.tags also)
text_refused_once text (BadLabel n) (BadLabel m) is also =
    ap BadLabel (bad_label_of_text_once text n m is also)
text_refused_once text (BadLabel n) NoMemory is also = absurd also
text_refused_once text NoMemory other is also = absurd is
