-- The masks of the graphs that are made up are read: each is a code.
use Rattle.std.proofs.Common.{◌≡◌, ℕ, false, List, [], ◌∷◌, None, Some, ap, append-nil, refl, sym}
use Rattle.std.specs.Prelude.{Contains, codes}
use Rattle.std.specs.List.{list_any}
use Rattle.std.specs.Str.{bytes_eq}
use Rattle.std.proofs.lemmas.Bool.{both_ways}
use Rattle.std.proofs.lemmas.List.Elements.{All-nil}
use Rattle.std.proofs.lemmas.Map.Views.{list_any-from_Contains}
use Rattle.std.proofs.lemmas.Slice.Eq.{bytes_eq-Decides}
use Rattle.ux_dela.specs.Written.{Written, bare, written}
use Rattle.ux_masks.specs.Equal.{IsEquivalence-decided}
use Rattle.ux_masks.specs.Texts.{IsCodeName, IsName, IsNamed, a_code, lexical, plain, refused_texts}
use Rattle.ux_boxes.specs.MaskTexts.{IsMask}
use Rattle.ux_masks.proofs.CodeNameLemmas.{code_name_back}
use Rattle.ux_masks.proofs.NamesLemmas.{meaning, names_mean}

-- a text that isn't one of the names
no_name : (text : List ℕ) → meaning text ≡ None → IsNamed text → ⊥
no_name text none named =
    let told : meaning text ≡ Some named.0 = names_mean text named.0 named.1 in cc

-- a text that isn't refused whole
not_whole : (text : List ℕ) → list_any (bytes_eq text) refused_texts ≡ false →
    Contains refused_texts text → ⊥
not_whole text missed has =
    both_ways (list_any (bytes_eq text) refused_texts) missed
    (list_any-from_Contains (IsEquivalence-decided bytes_eq-Decides) text refused_texts has)

-- the mask of a code
code_mask : (code : List Written) → IsName code → IsCodeName code →
    meaning (written code) ≡ None → list_any (bytes_eq (written code)) refused_texts ≡ false →
    IsMask (written code)
code_mask code name spelled none missed = (
  _,
  lexical (no_name (written code) none) (not_whole (written code) missed)
      (plain (record { target = a_code code; asked = []; alternatives = [] })
      (record { target = (name, spelled); asked = All-nil _; alternatives = All-nil _ })
      (ap written (sym (append-nil code)))),
)

-- `DET`, `N` and `A`
abbrev determiner : List Written
determiner = bare 68 ∷ bare 69 ∷ bare 84 ∷ []

pub determiner_mask : IsMask (codes "DET")
determiner_mask =
    code_mask determiner (record { some = λ e. cc; part = (refl, (refl, (refl, tt))) })
    (code_name_back determiner refl) refl refl

abbrev noun : List Written
noun = bare 78 ∷ []

pub noun_mask : IsMask (codes "N")
noun_mask =
    code_mask noun (record { some = λ e. cc; part = (refl, tt) }) (code_name_back noun refl) refl
    refl

abbrev adjective : List Written
adjective = bare 65 ∷ []

pub adjective_mask : IsMask (codes "A")
adjective_mask =
    code_mask adjective (record { some = λ e. cc; part = (refl, tt) })
    (code_name_back adjective refl) refl refl
