-- A block of plain bytes is cut byte by byte: a token goes on with a byte, or ends after it.
use Rattle.std.proofs.Common.{◌≡◌, ◌≢◌, ◌⊎◌, inl, inr, ℕ, zero, suc, ◌+◌, ◌-◌, ◌<◌, ◌≤◌, List, [], ◌∷◌, ◌++◌, get_or, set, length, take, drop, Some, false, refl, sym, ◌∙◌, ap, subst, arith}
use Rattle.std.specs.List.{slice_get}
use Rattle.std.specs.Str.{IsCharBoundary, IsUtf8}
use Rattle.std.proofs.lemmas.Bool.{cases_eq, false≢true}
use Rattle.std.proofs.lemmas.Option.{none-some, slice_get-get_or}
use Rattle.std.proofs.lemmas.Str.{IsCharBoundary-after_ascii, IsCharBoundary-from_rest, IsUtf8-drop, len_utf8_ascii}
use Rattle.std.proofs.lemmas.List.{drop-drop, drop_more, get_or-drop, get_or-take, length-drop, length_push, take-append-le, take_at, take-set, take_more_set}
use Rattle.ux_alphabet.specs.Letters.{Letters, IsLetter}
use Rattle.ux_tokens.specs.declared.kind.Kind.{Kind}
use Rattle.ux_tokens.specs.declared.kind.Kind.TheVariants.{Word, Space, Other, Sentence, Stop, Tag}
use Rattle.ux_tokens.specs.Tokens.{SPACE, IsPlain}
use Rattle.ux_tokens.specs.First.{BeginsWithNoLetter, IsFirstToken, IsFront}
use Rattle.ux_tokens.specs.Blocks.{IsClass, AreClasses, AreFronts, BeginsPlain, IsPlainByte, IsTokenAt, last_from}
use Rattle.ux_tokens.proofs.AsciiLemmas.{ascii_first, run_more_ascii, run_ends_ascii}
use Rattle.ux_tokens.proofs.CutLemmas.{slice_get-push_cases}
use Rattle.ux_tokens.proofs.FirstLemmas.{IsRun, run_start, run_first, other_first}
use Rattle.ux_tokens.proofs.MarksLemmas.{mark_begins, plain_front}

pub last_from-push : (start : ℕ) (ends : List ℕ) (end : ℕ) →
    last_from start (ends ++ end ∷ []) ≡ end
last_from-push start [] end = refl
last_from-push start (first ∷ ends) end = last_from-push first ends end

-- a space is no letter
space_is_none : (alphabet : Letters) → IsLetter alphabet SPACE → ⊥
space_is_none alphabet (inl upper) = false≢true (sym upper.0)
space_is_none alphabet (inr lower) = false≢true (sym lower.0)

-- a byte of another kind than a word's is no letter
no_letter_of : (alphabet : Letters) (byte : ℕ) (kind : Kind) → IsClass alphabet byte kind →
    kind ≢ Word → IsLetter alphabet byte → ⊥
no_letter_of alphabet byte Word class other letter = other refl
no_letter_of alphabet byte Space class other letter =
    space_is_none alphabet (subst (IsLetter alphabet) class letter)
no_letter_of alphabet byte Other class other letter = class.0 letter
no_letter_of alphabet byte Sentence class other letter = class
no_letter_of alphabet byte Stop class other letter = class
no_letter_of alphabet byte Tag class other letter = class

-- the kinds of one more byte
pub class_more : (alphabet : Letters) (kinds : List Kind) (kind : Kind) →
    ((byte : ℕ) (k : Kind) → slice_get kinds byte ≡ Some k → IsClass alphabet byte k) →
    IsClass alphabet (length kinds) kind →
    (byte : ℕ) (k : Kind) → slice_get (kinds ++ kind ∷ []) byte ≡ Some k → IsClass alphabet byte k
class_more alphabet kinds kind each class byte k at =
    by (slice_get-push_cases kinds kind byte k at)
  where
    by : ((byte < length kinds) × (slice_get kinds byte ≡ Some k)) ⊎
        ((byte ≡ length kinds) × (kind ≡ k)) → IsClass alphabet byte k
    by (inl old) = each byte k old.1
    by (inr new) =
        subst (λ (n : ℕ). IsClass alphabet n k) (sym new.0)
        (subst (IsClass alphabet (length kinds)) new.1 class)

pub class_at : (alphabet : Letters) (classes : List Kind) (byte : ℕ) → AreClasses alphabet classes →
    byte < 128 → IsClass alphabet byte (get_or classes byte Word)
class_at alphabet classes byte are ascii =
    let all = are.all in
    are.each byte (get_or classes byte Word)
    (slice_get-get_or classes byte Word (omega (arith, ascii, all)))

-- a byte of a plain front
pub plain_at : (text : List ℕ) (start len place : ℕ) → BeginsPlain (drop start text) len →
    start ≤ place → place < start + len → IsPlainByte (get_or text place 0)
plain_at text start len place plain in_order below =
    let same : start + (place - start) ≡ place = omega (arith, in_order) in
    subst IsPlainByte
    (get_or-drop start text (place - start) 0 ∙ ap (λ (n : ℕ). get_or text n 0) same)
    (plain (place - start) (omega (arith, in_order, below)))

-- it is enough to look at the first bytes
pub plain_only : (len : ℕ) (text : List ℕ) → BeginsPlain (take len text) len →
    BeginsPlain text len
plain_only len text plain = λ k below.
    subst IsPlainByte (get_or-take len text k 0 below) (plain k below)

module _ (alphabet : Letters) (text : List ℕ) where
  pub fronts_start : (start : ℕ) → AreFronts alphabet text start [] []
  fronts_start start = record {
    even = refl;
    each = λ i end kind at_end at_kind. absurd (none-some end at_end);
  }

  pub fronts_more : (start : ℕ) (ends : List ℕ) (kinds : List Kind) (end : ℕ) (kind : Kind) →
      AreFronts alphabet text start ends kinds →
      IsTokenAt alphabet text (last_from start ends) end kind →
      AreFronts alphabet text start (ends ++ end ∷ []) (kinds ++ kind ∷ [])
  fronts_more start ends kinds end kind fronts token = record {
    even =
        let longer : length (ends ++ end ∷ []) ≡ length ends + 1 = length_push ends end in
        let longer_kinds : length (kinds ++ kind ∷ []) ≡ length kinds + 1 =
        length_push kinds kind in
        let same = fronts.even in
        omega (arith, longer, longer_kinds, same);
    each = λ i e k at_end at_kind.
        each i e k (slice_get-push_cases ends end i e at_end)
        (slice_get-push_cases kinds kind i k at_kind);
  }
    where
      each : (i e : ℕ) (k : Kind) →
          ((i < length ends) × (slice_get ends i ≡ Some e)) ⊎ ((i ≡ length ends) × (end ≡ e)) →
          ((i < length kinds) × (slice_get kinds i ≡ Some k)) ⊎
          ((i ≡ length kinds) × (kind ≡ k)) →
          IsTokenAt alphabet text (last_from start (take i (ends ++ end ∷ []))) e k
      each i e k (inl old) (inl old_kind) =
          let within : i ≤ length ends = omega (arith, old.0) in
          rw take-append-le (fronts.each i e k old.1 old_kind.1)
      each i e k (inl old) (inr new_kind) =
          let same = fronts.even in absurd (omega (arith, old.0, new_kind.0, same))
      each i e k (inr new) (inl old_kind) =
          let same = fronts.even in absurd (omega (arith, new.0, old_kind.0, same))
      each i e k (inr new) (inr new_kind) =
          let at_end : length ends ≡ i = sym new.0 in
          rw (take_at ends (end ∷ []) i at_end)
          (subst (λ (n : ℕ). IsTokenAt alphabet text (last_from start ends) n k) new.1
          (subst (λ (l : Kind). IsTokenAt alphabet text (last_from start ends) end l) new_kind.1
          token))

  -- the token that begins where the ones before it end
  pub token_here : (start i from : ℕ) (ends : List ℕ) (kinds : List Kind) →
      AreFronts alphabet text start ends kinds → i < length ends →
      from ≡ last_from start (take i ends) →
      IsTokenAt alphabet text from (get_or ends i 0) (get_or kinds i Word)
  token_here start i from ends kinds fronts within is =
      let even = fronts.even in
      subst (λ (n : ℕ). IsTokenAt alphabet text n (get_or ends i 0) (get_or kinds i Word)) (sym is)
      (fronts.each i (get_or ends i 0) (get_or kinds i Word) (slice_get-get_or ends i 0 within)
      (slice_get-get_or kinds i Word (omega (arith, within, even))))

  -- a token begins at a place and holds the bytes before another one, where a byte of this kind is
  pub record IsOpen (from place : ℕ) (kind : Kind) : Type 0 where
    pub boundary : IsCharBoundary text from
    pub in_order : from ≤ place
    pub run : IsRun alphabet (drop from text) (place - from) (drop (place - from) (drop from text))
    pub word : from < place → kind ≡ Word

  module _ (utf8 : IsUtf8 text) where
    pub open_start : (place : ℕ) (kind : Kind) → IsCharBoundary text place →
        IsOpen place place kind
    open_start place kind boundary =
        let none : 0 ≡ place - place = omega arith in
        record {
          boundary = boundary;
          in_order = omega arith;
          run = subst
              (λ (n : ℕ). IsRun alphabet (drop place text) n (drop n (drop place text))) none
              (run_start alphabet (drop place text) (IsUtf8-drop text place utf8 boundary));
          word = λ later. absurd (omega (arith, later));
        }

    module _ (from place : ℕ) (kind : Kind) (begun : IsOpen from place kind)
        (within : place < length text) (plain : IsPlainByte (get_or text place 0)) where
      rest_utf8 : IsUtf8 (drop from text)
      rest_utf8 = IsUtf8-drop text from utf8 begun.boundary

      byte_is : get_or (drop from text) (place - from) 0 ≡ get_or text place 0
      byte_is =
          let in_order = begun.in_order in
          let same : from + (place - from) ≡ place = omega (arith, in_order) in
          get_or-drop from text (place - from) 0 ∙ ap (λ (n : ℕ). get_or text n 0) same

      run_more_here : IsLetter alphabet (get_or text place 0) →
          IsRun alphabet (drop from text) (place + 1 - from)
          (drop (place + 1 - from) (drop from text))
      run_more_here letter =
          let in_order = begun.in_order in
          let same : place - from + 1 ≡ place + 1 - from = omega (arith, in_order) in
          let left : length (drop from text) ≡ length text - from = length-drop from text in
          subst (λ (n : ℕ). IsRun alphabet (drop from text) n (drop n (drop from text))) same
          (run_more_ascii alphabet (drop from text) rest_utf8 (place - from) begun.run
          (omega (arith, left, within, in_order))
          (subst (λ (b : ℕ). b < 128) (sym byte_is) plain.0)
          (subst (IsLetter alphabet) (sym byte_is) letter))

      -- the byte is a letter, and the next one too
      pub open_more : IsLetter alphabet (get_or text place 0) → IsOpen from (place + 1) Word
      open_more letter = record {
        boundary = begun.boundary;
        in_order = (let in_order = begun.in_order in omega (arith, in_order));
        run = run_more_here letter;
        word = λ _. refl;
      }

      word_front : alphabet.single ≡ false → IsLetter alphabet (get_or text place 0) →
          BeginsWithNoLetter alphabet (drop (place + 1) text) →
          IsFront alphabet (drop from text) Word (place + 1 - from)
      word_front runs letter ends =
          let in_order = begun.in_order in
          let len = place + 1 - from in
          let rest = drop from text in
          let run = run_more_here letter in
          let some : 0 < len = omega (arith, in_order) in
          let behind : drop len rest ≡ drop (place + 1) text =
          drop-drop len from text
          ∙ ap (λ (n : ℕ). drop n text) (omega (arith, in_order)) in
          plain_front alphabet rest Word len run.cut some
          (run_first alphabet rest len rest_utf8 runs run.cut run.letters
          (subst (BeginsWithNoLetter alphabet) (sym behind) ends) some)
          tt (λ other. cc)

      here : IsCharBoundary text place
      here =
          let in_order = begun.in_order in
          let same : from + (place - from) ≡ place = omega (arith, in_order) in
          subst (IsCharBoundary text) same
          (IsCharBoundary-from_rest text from (place - from) begun.boundary.0 begun.run.cut)

      here_utf8 : IsUtf8 (drop place text)
      here_utf8 = IsUtf8-drop text place utf8 here

      here_some : 0 < length (drop place text)
      here_some =
          let left : length (drop place text) ≡ length text - place = length-drop place text in
          omega (arith, left, within)

      byte_here : get_or (drop place text) 0 0 ≡ get_or text place 0
      byte_here =
          let same : place + 0 ≡ place = omega arith in
          get_or-drop place text 0 0 ∙ ap (λ (n : ℕ). get_or text n 0) same

      here_ascii : get_or (drop place text) 0 0 < 128
      here_ascii = subst (λ (b : ℕ). b < 128) (sym byte_here) plain.0

      -- a byte that is a token
      one_front : (k : Kind) → IsFirstToken alphabet (drop place text) k 1 → IsPlain k →
          IsFront alphabet (drop place text) k 1
      one_front k first is_plain =
          plain_front alphabet (drop place text) k 1
          (IsCharBoundary-after_ascii (drop place text) 0 here_utf8 here_some here_ascii)
          (omega arith) first is_plain
          (λ other begins. plain.1 (sym byte_here ∙ mark_begins (drop place text) begins))

      space_front : get_or text place 0 ≡ SPACE → IsFront alphabet (drop place text) Space 1
      space_front is = one_front Space (record {
        is = ap (take 1) (drop_more text place 0 within) ∙ ap (λ (b : ℕ). b ∷ []) is;
        longest = λ runs word. cc;
      }) tt

      other_front : (IsLetter alphabet (get_or text place 0) → ⊥) → get_or text place 0 ≢ SPACE →
          IsFront alphabet (drop place text) Other 1
      other_front no_letter no_space =
          let begins : BeginsWithNoLetter alphabet (drop place text) =
          run_ends_ascii alphabet (drop place text) here_utf8 0
          (run_start alphabet (drop place text) here_utf8) here_some here_ascii
          (λ letter. no_letter (subst (IsLetter alphabet) byte_here letter)) in
          one_front Other
          (subst (IsFirstToken alphabet (drop place text) Other)
          (len_utf8_ascii (get_or text place 0) plain.0)
          (other_first alphabet (drop place text) (drop (place + 1) text) (get_or text place 0)
          here_utf8 (ascii_first text place within plain.0) begins no_space))
          tt

      -- a token that is no word began with the byte
      alone : (k : Kind) → kind ≡ k → k ≢ Word → IsFront alphabet (drop place text) k 1 →
          IsTokenAt alphabet text from (place + 1) k
      alone k is other front = elim (cases_eq from place) [
        | inl same ↦
            let one : 1 ≡ place + 1 - place = omega arith in
            subst (λ (n : ℕ). IsTokenAt alphabet text n (place + 1) k) (sym same)
            (omega arith, subst (IsFront alphabet (drop place text) k) one front)
        | inr differs ↦
            let in_order = begun.in_order in
            absurd (other (sym is ∙ begun.word (omega (arith, in_order, differs))))
      ]

      -- a token ends after the byte, if no letter stands after a word
      pub open_ends : alphabet.single ≡ false → IsClass alphabet (get_or text place 0) kind →
          (kind ≡ Word → BeginsWithNoLetter alphabet (drop (place + 1) text)) →
          IsTokenAt alphabet text from (place + 1) kind
      open_ends runs class ends = by kind refl class ends
        where
          by : (k : Kind) → kind ≡ k → IsClass alphabet (get_or text place 0) k →
              (k ≡ Word → BeginsWithNoLetter alphabet (drop (place + 1) text)) →
              IsTokenAt alphabet text from (place + 1) k
          by Word is letter ends =
              let in_order = begun.in_order in
              (omega (arith, in_order), word_front runs letter (ends refl))
          by Space is space ends = alone Space is (λ word. cc) (space_front space)
          by Other is other ends = alone Other is (λ word. cc) (other_front other.0 other.1)
          by Sentence is never ends = absurd never
          by Stop is never ends = absurd never
          by Tag is never ends = absurd never

    -- after a word stands no letter, where the next byte is of another kind
    no_letter_next : (place : ℕ) (next : Kind) → IsCharBoundary text place → place < length text →
        get_or text place 0 < 128 → IsClass alphabet (get_or text place 0) next → next ≢ Word →
        BeginsWithNoLetter alphabet (drop place text)
    no_letter_next place next boundary within ascii class other =
        let rest = drop place text in
        let rest_utf8 : IsUtf8 rest = IsUtf8-drop text place utf8 boundary in
        let same : place + 0 ≡ place = omega arith in
        let byte : get_or rest 0 0 ≡ get_or text place 0 =
        get_or-drop place text 0 0 ∙ ap (λ (n : ℕ). get_or text n 0) same in
        let left : length rest ≡ length text - place = length-drop place text in
        run_ends_ascii alphabet rest rest_utf8 0 (run_start alphabet rest rest_utf8)
        (omega (arith, left, within)) (subst (λ (b : ℕ). b < 128) (sym byte) ascii)
        (λ letter.
        no_letter_of alphabet (get_or text place 0) next class other
        (subst (IsLetter alphabet) byte letter))

  -- so far so many tokens are cut, and one is open at a place
  pub record IsBlock (start place count : ℕ) (ends : List ℕ) (kinds : List Kind) (kind : Kind) :
      Type 0 where
    pub fronts : AreFronts alphabet text start (take count ends) (take count kinds)
    pub begun : IsOpen (last_from start (take count ends)) place kind
    pub class : IsClass alphabet (get_or text place 0) kind

  pub block_start : IsUtf8 text → (start : ℕ) (ends : List ℕ) (kinds : List Kind) (kind : Kind) →
      IsCharBoundary text start → IsClass alphabet (get_or text start 0) kind →
      IsBlock start start 0 ends kinds kind
  block_start utf8 start ends kinds kind boundary class = record {
    fronts = fronts_start start;
    begun = open_start utf8 start kind boundary;
    class = class;
  }

  -- the next byte is put, and after the byte ends a token or none
  pub block_more : IsUtf8 text → alphabet.single ≡ false → (start place count bit : ℕ)
      (ends : List ℕ) (kinds : List Kind)
      (kind next : Kind) → IsBlock start place count ends kinds kind →
      place + 1 < length text → IsPlainByte (get_or text place 0) →
      IsPlainByte (get_or text (place + 1) 0) → IsClass alphabet (get_or text (place + 1) 0) next →
      count < length ends → length kinds ≡ length ends → bit ≤ 1 →
      (bit ≡ 1 → kind ≡ Word → next ≢ Word) → (bit ≡ 0 → kind ≡ Word) →
      (bit ≡ 0 → next ≡ Word) →
      IsBlock start (place + 1) (count + bit) (set ends count (place + 1)) (set kinds count kind)
      next
  block_more utf8 runs start place count zero ends kinds kind next block within plain plain_next
      class room even bit end inside word =
      let same : take count (set ends count (place + 1)) ≡ take count ends =
      take-set ends count (place + 1) in
      let same_kinds : take count (set kinds count kind) ≡ take count kinds =
      take-set kinds count kind in
      let from = last_from start (take count ends) in
      let none : count ≡ count + 0 = omega arith in
      subst (λ (n : ℕ).
      IsBlock start (place + 1) n (set ends count (place + 1)) (set kinds count kind) next) none
      (record {
        fronts = rw (same, same_kinds) block.fronts;
        begun = rw same
            (subst (IsOpen from (place + 1)) (sym (word refl))
            (open_more utf8 from place kind block.begun (omega (arith, within)) plain
            (subst (IsClass alphabet (get_or text place 0)) (inside refl) block.class)));
        class = class;
      })
  block_more utf8 runs start place count (suc zero) ends kinds kind next block within plain
      plain_next class room even bit end inside word =
      let more : take (count + 1) (set ends count (place + 1)) ≡ take count ends ++ (place + 1) ∷ []
      = take_more_set ends count (place + 1) room in
      let more_kinds : take (count + 1) (set kinds count kind) ≡ take count kinds ++ kind ∷ [] =
      take_more_set kinds count kind (omega (arith, room, even)) in
      let here : place < length text = omega (arith, within) in
      let boundary : IsCharBoundary text (place + 1) =
      IsCharBoundary-after_ascii text place utf8 here plain.0 in
      let from = last_from start (take count ends) in
      let token : IsTokenAt alphabet text from (place + 1) kind =
      open_ends utf8 from place kind block.begun here plain runs block.class
      (λ is. no_letter_next utf8 (place + 1) next boundary within plain_next.0 class
      (end refl is)) in
      record {
        fronts = rw (more, more_kinds)
            (fronts_more start (take count ends) (take count kinds) (place + 1) kind block.fronts
            token);
        begun = rw (more, last_from-push start (take count ends) (place + 1))
            (open_start utf8 (place + 1) next boundary);
        class = class;
      }
  block_more utf8 runs start place count (suc (suc n)) ends kinds kind next block within plain
      plain_next class room even bit end inside word = absurd (omega (arith, bit))
