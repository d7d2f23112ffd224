-- What small mask texts mean, and where others are refused.
use Rattle.std.proofs.Common.{arith, ◌≡◌, ℕ, List, [], ◌∷◌, ◌++◌, Bool, true, false, not, refl, None, Some, length}
use Rattle.std.specs.Prelude.{◌||◌, ◌&&◌, Contains, codes}
use Rattle.std.specs.Str.{chars, bytes_eq, IsUtf8}
use Rattle.std.proofs.lemmas.Bool.{both_ways, and_parts}
use Rattle.std.proofs.lemmas.List.Elements.{All-nil, All-cons, All-contains}
use Rattle.ux_dela.specs.Written.{Written, bare, protected, IsPart, is_end}
use Rattle.ux_masks.specs.declared.mask.Mask.TheVariants.{Lexical, NotDic}
use Rattle.ux_masks.specs.Signs.{is_sign}
use Rattle.ux_masks.specs.Pieces.{begun}
use Rattle.ux_masks.specs.Texts.{IsName, a_code, a_lemma, a_lemma_with, a_form, a_form_with, needed, IsNamed, refused_texts, plain, IsMaskText, named, not_dic, lexical, IsBadAt}
use Rattle.ux_masks.specs.Reading.{StopsLexical}
use Rattle.ux_masks.proofs.CountLemmas.{characters}
use Rattle.ux_masks.proofs.CodeNameLemmas.{code_name_back}
use Rattle.ux_masks.proofs.NamesLemmas.{meaning, names_mean}
use Rattle.ux_masks.proofs.BodyPiecesLemmas.{IsAsked}
use Rattle.ux_masks.proofs.DraftLemmas.{draft_begun}
use Rattle.ux_masks.proofs.StuckLemmas.{rest_stops}
use Rattle.ux_masks.proofs.LexicalLemmas.{stops_plain}
use Rattle.ux_masks.proofs.RefusedLemmas.{refuses_whole, refuses_there}

-- a text that isn't one of the names
no_name : (text : List ℕ) → meaning text ≡ None → IsNamed text → ⊥
no_name text none n =
    let told : meaning text ≡ Some n.0 = names_mean text n.0 n.1 in cc

-- a text that isn't refused whole
abbrev is_refusal : List ℕ → Bool
is_refusal text = bytes_eq text (codes "E") || bytes_eq text (codes "!E")
    || bytes_eq text (codes "!CDIC") || bytes_eq text (codes "!TDIC")
    || bytes_eq text (codes "!NB") || bytes_eq text (codes "!TOKEN")

abbrev IsRefusal : List ℕ → Type 0
IsRefusal text = is_refusal text ≡ true

no_refusal : (text : List ℕ) → is_refusal text ≡ false → Contains refused_texts text → ⊥
no_refusal text other among =
    both_ways (is_refusal text) other
    (All-contains IsRefusal refused_texts text
    (All-cons IsRefusal (codes "E") (codes "!E" ∷ codes "!CDIC" ∷ codes "!TDIC" ∷ codes "!NB" ∷ codes "!TOKEN" ∷ []) refl
    (All-cons IsRefusal (codes "!E") (codes "!CDIC" ∷ codes "!TDIC" ∷ codes "!NB" ∷ codes "!TOKEN" ∷ []) refl
    (All-cons IsRefusal (codes "!CDIC") (codes "!TDIC" ∷ codes "!NB" ∷ codes "!TOKEN" ∷ []) refl
    (All-cons IsRefusal (codes "!TDIC") (codes "!NB" ∷ codes "!TOKEN" ∷ []) refl
    (All-cons IsRefusal (codes "!NB") (codes "!TOKEN" ∷ []) refl
    (All-cons IsRefusal (codes "!TOKEN") [] refl
    (All-nil IsRefusal))))))) among)

-- characters, each of them bare
abbrev bares : List ℕ → List Written
bares [] = []
bares (b ∷ text) = bare b ∷ bares text

abbrev is_plain : List ℕ → Bool
is_plain [] = true
is_plain (b ∷ text) = not (is_end is_sign b) && is_plain text

not_true : (b : Bool) → not b ≡ true → b ≡ false
not_true true e = absurd (let other : false ≡ true = e in cc)
not_true false e = refl

plain_part : (text : List ℕ) → is_plain text ≡ true → IsPart is_sign (bares text)
plain_part [] is = tt
plain_part (b ∷ text) is =
    let both = and_parts (not (is_end is_sign b)) (is_plain text) is in
    (not_true (is_end is_sign b) both.0, plain_part text both.1)

plain_name : (b : ℕ) (text : List ℕ) → is_plain (b ∷ text) ≡ true → IsName (bares (b ∷ text))
plain_name b text is = record { some = λ e. cc; part = plain_part (b ∷ text) is }

-- `be.V:P3s`: the lemma, a code and one alternative
be : IsMaskText (codes "be.V:P3s") (Lexical (record {
  form = None;
  lemma = Some (codes "be");
  need = codes "V" ∷ [];
  forbid = [];
  infl = codes "P3s" ∷ [];
}))
be =
    lexical (no_name (codes "be.V:P3s") refl) (no_refusal (codes "be.V:P3s") refl)
    (plain (record {
      target = a_lemma_with (bares (codes "be")) (Some (bares (codes "V")));
      asked = [];
      alternatives = bares (codes "P3s") ∷ [];
    }) (record {
      target = (plain_name 98 (codes "e") refl, plain_name 86 [] refl);
      asked = All-nil IsAsked;
      alternatives = All-cons IsName (bares (codes "P3s")) [] (plain_name 80 (codes "3s") refl)
          (All-nil IsName);
    }) refl)

-- `N`: a code, by its spelling
code : IsMaskText (codes "N") (Lexical (record {
  form = None;
  lemma = None;
  need = codes "N" ∷ [];
  forbid = [];
  infl = [];
}))
code =
    lexical (no_name (codes "N") refl) (no_refusal (codes "N") refl)
    (plain (record { target = a_code (bares (codes "N")); asked = []; alternatives = [] }) (record {
      target = (plain_name 78 [] refl, code_name_back (bares (codes "N")) refl);
      asked = All-nil IsAsked;
      alternatives = All-nil IsName;
    }) refl)

-- `!DIC`: a name, negated
no_entry : IsMaskText (codes "!DIC") NotDic
no_entry = named not_dic

-- `IBM.`: a lemma, though its spelling is a code's
company : IsMaskText (codes "IBM.") (Lexical (record {
  form = None;
  lemma = Some (codes "IBM");
  need = [];
  forbid = [];
  infl = [];
}))
company =
    lexical (no_name (codes "IBM.") refl) (no_refusal (codes "IBM.") refl)
    (plain (record {
      target = a_lemma_with (bares (codes "IBM")) None;
      asked = [];
      alternatives = [];
    }) (record {
      target = (plain_name 73 (codes "BM") refl, tt);
      asked = All-nil IsAsked;
      alternatives = All-nil IsName;
    }) refl)

-- `\WORD`: the lemma, since names are compared as they are written
word_itself : IsMaskText (92 ∷ codes "WORD") (Lexical (record {
  form = None;
  lemma = Some (codes "WORD");
  need = [];
  forbid = [];
  infl = [];
}))
word_itself =
    lexical (no_name (92 ∷ codes "WORD") refl) (no_refusal (92 ∷ codes "WORD") refl)
    (plain (record {
      target = a_lemma (protected 87 ∷ bares (codes "ORD"));
      asked = [];
      alternatives = [];
    }) (record {
      target = (
        record { some = λ e. cc; part = plain_part (codes "ORD") refl },
        λ is. is,
      );
      asked = All-nil IsAsked;
      alternatives = All-nil IsName;
    }) refl)

-- `WORD+x`: two codes
word_and_code : IsMaskText (codes "WORD+x") (Lexical (record {
  form = None;
  lemma = None;
  need = codes "WORD" ∷ codes "x" ∷ [];
  forbid = [];
  infl = [];
}))
word_and_code =
    lexical (no_name (codes "WORD+x") refl) (no_refusal (codes "WORD+x") refl)
    (plain (record {
      target = a_code (bares (codes "WORD"));
      asked = needed (bares (codes "x")) ∷ [];
      alternatives = [];
    }) (record {
      target = (plain_name 87 (codes "ORD") refl, code_name_back (bares (codes "WORD")) refl);
      asked = All-cons IsAsked (needed (bares (codes "x"))) [] (plain_name 120 [] refl)
          (All-nil IsAsked);
      alternatives = All-nil IsName;
    }) refl)

-- `cats,cat.N`: form, lemma and code
cats : IsMaskText (codes "cats,cat.N") (Lexical (record {
  form = Some (codes "cats");
  lemma = Some (codes "cat");
  need = codes "N" ∷ [];
  forbid = [];
  infl = [];
}))
cats =
    lexical (no_name (codes "cats,cat.N") refl) (no_refusal (codes "cats,cat.N") refl)
    (plain (record {
      target = a_form_with (bares (codes "cats")) (Some (bares (codes "cat")))
          (Some (bares (codes "N")));
      asked = [];
      alternatives = [];
    }) (record {
      target = (
        plain_name 99 (codes "ats") refl,
        plain_name 99 (codes "at") refl,
        plain_name 78 [] refl,
      );
      asked = All-nil IsAsked;
      alternatives = All-nil IsName;
    }) refl)

-- `form,`: an empty lemma means the form
form_itself : IsMaskText (codes "form,") (Lexical (record {
  form = Some (codes "form");
  lemma = Some (codes "form");
  need = [];
  forbid = [];
  infl = [];
}))
form_itself =
    lexical (no_name (codes "form,") refl) (no_refusal (codes "form,") refl)
    (plain (record {
      target = a_form (bares (codes "form")) None;
      asked = [];
      alternatives = [];
    }) (record {
      target = (plain_name 102 (codes "orm") refl, tt);
      asked = All-nil IsAsked;
      alternatives = All-nil IsName;
    }) refl)

-- `E` and `!CDIC` are refused whole, behind their last character
empty_text : IsUtf8 (codes "E")
unfolding lib.Utf8.encode
empty_text = (codes "E", (refl, refl))

empty_word : IsBadAt (codes "E") 1
unfolding chars
empty_word =
    refuses_whole (codes "E") 1 empty_text (no_name (codes "E") refl) (0, omega arith, refl) refl

compound_text : IsUtf8 (codes "!CDIC")
unfolding lib.Utf8.encode
compound_text = (codes "!CDIC", (refl, refl))

not_compound : IsBadAt (codes "!CDIC") 5
unfolding chars
not_compound =
    refuses_whole (codes "!CDIC") 5 compound_text (no_name (codes "!CDIC") refl)
    (2, omega arith, refl) refl

-- `be!V`: an exclamation mark stands in no name
mark_text : IsUtf8 (codes "be!V")
unfolding lib.Utf8.encode
mark_text = (codes "be!V", (refl, refl))

left_text : IsUtf8 (codes "!V")
unfolding lib.Utf8.encode
left_text = (codes "!V", (refl, refl))

mark_stops : StopsLexical (codes "be!V") (codes "!V")
mark_stops =
    let text = codes "be!V" in
    let draft = draft_begun text (codes "be") (codes "!V") (begun (bares (codes "be")) None)
    (record { whole = refl; part = plain_part (codes "be") refl; ends = refl }) (omega arith) refl in
    stops_plain text (codes "!V") (λ rest e. cc)
    (rest_stops text (codes "!V") None (begun (bares (codes "be")) None) draft (omega arith)
    (λ sign is. absurd (let other : None ≡ Some sign = is in cc)))

mark_place : (front : List ℕ) → codes "be!V" ≡ front ++ codes "!V" → 2 ≡ length (chars front)
unfolding chars
mark_place front e =
    let both = characters (codes "be!V") front (codes "!V") mark_text left_text e in
    let four : length (chars (codes "be!V")) ≡ 4 = refl in
    let two : length (chars (codes "!V")) ≡ 2 = refl in
    omega (arith, both, four, two)

mark_within : IsBadAt (codes "be!V") 2
mark_within =
    refuses_there (codes "be!V") (codes "!V") 2 mark_text (no_name (codes "be!V") refl) mark_stops
    (mark_place mark_stops.front mark_stops.whole)
