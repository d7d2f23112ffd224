-- A line says one thing.
use Rattle.std.proofs.Common.{arith, ◌≡◌, ◌<◌, ℕ, List, [], ◌∷◌, Bool, true, false, refl, sym, ◌∙◌, ap, subst, get_or}
use Rattle.std.specs.Str.Parse.{digits_value}
use Rattle.std.proofs.lemmas.Str.Parse.{digit_from_value}
use Rattle.ux_fst2_file.specs.Lines.{MINUS, sign_of, HasFields, IsCount, IsHead, IsLabel, AreEdges, no_edge, edge_then, IsState, IsEnd}
use Rattle.ux_fst2_file.specs.Fields.{MOST, IsNumber, from_space, without_spaces, without_end_spaces}
use Rattle.ux_fst2_file.specs.declared.file.Fst2Label.{Fst2Label}
use Rattle.ux_fst2_file.specs.declared.file.Fst2Label.TheVariants.{Tag, Call}
use Rattle.ux_fst2_file.specs.declared.file.Fst2Edge.{Fst2Edge}
use Rattle.ux_fst2_file.specs.declared.file.Fst2State.{Fst2State}
use Rattle.ux_fst2_file.proofs.FieldLemmas.{fields-byte}

abbrev pub behind : {X : Type 0} → List X → List X
behind [] = []
behind (x ∷ xs) = xs

-- a text is one number
pub number_once : (text : List ℕ) (one other : ℕ) → IsNumber text one → IsNumber text other →
    one ≡ other
number_once text one other is also = is.value ∙ sym also.value

-- a number that isn't the greatest is what its digits say
pub number_exact : (text : List ℕ) (number : ℕ) → IsNumber text number → number < MOST →
    number ≡ digits_value 10 text
number_exact text number is fits = omega (arith, is.value, fits)

pub number_of_equal : (text same : List ℕ) (one other : ℕ) → text ≡ same → IsNumber text one →
    IsNumber same other → one ≡ other
number_of_equal text same one other e is also =
    number_once same one other (subst (λ (t : List ℕ). IsNumber t one) e is) also

-- a line has one list of fields
pub fields_once : (line : List ℕ) (one other : List (List ℕ)) → HasFields line one →
    HasFields line other → one ≡ other
fields_once line one other has also = sym has.are ∙ also.are

pub count_once : (line : List ℕ) (one other : ℕ) → IsCount line one → IsCount line other →
    one ≡ other
count_once line one other is also =
    number_of_equal is.digits also.digits one other
    (ap (λ (f : List (List ℕ)). get_or f 0 []) (fields_once line _ _ is.fields also.fields))
    is.number also.number

pub head_once : (number : ℕ) (line one other : List ℕ) → IsHead number line one →
    IsHead number line other → one ≡ other
head_once number line one other is also =
    is.is_name
    ∙ (ap (λ (t : List ℕ). without_end_spaces (without_spaces (from_space t)))
    (ap behind (sym is.sign ∙ also.sign))
    ∙ sym also.is_name)

-- a call is no number
pub no_number : (digits : List ℕ) (number : ℕ) → IsNumber (MINUS ∷ digits) number → ⊥
no_number digits number is = omega (arith, digit_from_value MINUS is.numeral.1.0)

pub label_once : (text : List ℕ) (one other : Fst2Label) → IsLabel text one → IsLabel text other →
    one ≡ other
label_once text (Tag n) (Tag m) is also = ap Tag (number_once text n m is also)
label_once text (Tag n) (Call m) is also =
    absurd (no_number also.0 n (subst (λ (t : List ℕ). IsNumber t n) also.1 is))
label_once text (Call n) (Tag m) is also =
    absurd (no_number is.0 m (subst (λ (t : List ℕ). IsNumber t m) is.1 also))
label_once text (Call n) (Call m) is also =
    ap Call (number_of_equal is.0 also.0 n m (ap behind (sym is.1 ∙ also.1)) is.2 also.2)

abbrev pub edge_of : Fst2Label → ℕ → Fst2Edge
edge_of label target = record { label = label; target = target }

pub edges_once : (fields : List (List ℕ)) (one other : List Fst2Edge) → AreEdges fields one →
    AreEdges fields other → one ≡ other
edges_once fields one other no_edge no_edge = refl
edges_once fields one other (edge_then label target rest edge edges is_label is_target are)
    (edge_then _ _ _ second seconds also_label also_target also) =
    ap (λ (l : Fst2Label). edge_of l edge.target ∷ edges)
    (label_once label edge.label second.label is_label also_label)
    ∙ (ap (λ (n : ℕ). edge_of second.label n ∷ edges)
    (number_once target edge.target second.target is_target also_target)
    ∙ ap (λ (es : List Fst2Edge). second ∷ es) (edges_once rest edges seconds are also))

-- the first byte of a line's first field
abbrev sign_byte : List (List ℕ) → ℕ
sign_byte fields = get_or (get_or fields 0 []) 0 0

sign_once : (one other : Bool) → get_or (sign_of one) 0 0 ≡ get_or (sign_of other) 0 0 → one ≡ other
sign_once true true e = refl
sign_once true false e = absurd (omega (arith, e))
sign_once false true e = absurd (omega (arith, e))
sign_once false false e = refl

abbrev state_of : Bool → List Fst2Edge → Fst2State
state_of is_final edges = record { is_final = is_final; edges = edges }

pub state_once : (line : List ℕ) (one other : Fst2State) → IsState line one → IsState line other →
    one ≡ other
state_once line one other is also =
    let same = fields_once line _ _ is.has also.has in
    let edges = subst (λ (f : List (List ℕ)). AreEdges f one.edges) (ap behind same) is.edges in
    ap (λ (b : Bool). state_of b one.edges)
    (sign_once one.is_final other.is_final (ap sign_byte same))
    ∙ ap (λ (es : List Fst2Edge). state_of other.is_final es)
    (edges_once also.fields one.edges other.edges edges also.edges)

-- `f` is no state
not_end : (is_final : Bool) → 102 ≡ get_or (sign_of is_final) 0 0 → ⊥
not_end true e = omega (arith, e)
not_end false e = omega (arith, e)

pub end_no_state : (line : List ℕ) (state : Fst2State) → IsEnd line → IsState line state → ⊥
end_no_state line state is also =
    not_end state.is_final (ap sign_byte (fields_once line _ _ is also.has))

-- the line `f` begins with its letter, and so with no sign of a tag
pub end_first : (b : ℕ) (line : List ℕ) → IsEnd (b ∷ line) → b ≡ 102
end_first b line is = sym (fields-byte b line is.front) ∙ ap sign_byte is.are
