-- A run of letters at the front of a text grows by one ASCII letter, or by a run of characters.
use Rattle.std.proofs.Common.{◌≡◌, ℕ, ◌+◌, ◌<◌, List, [], ◌++◌, All, length, get_or, take, drop, encode_utf8, sym, ◌∙◌, ap, subst, arith}
use Rattle.std.specs.Str.{IsUtf8, chars}
use Rattle.std.proofs.lemmas.Str.{encode_ascii, len_utf8_ascii, IsUtf8-take, chars-append, chars-nil}
use Rattle.std.proofs.lemmas.List.{drop_more, drop_all}
use Rattle.std.proofs.lemmas.List.Elements.{All-append, All-same}
use Rattle.std.proofs.Math.Seq.{take-add}
use Rattle.ux_alphabet.specs.Letters.{Letters, IsLetter}
use Rattle.ux_tokens.specs.First.{BeginsWithNoLetter}
use Rattle.ux_tokens.proofs.FirstLemmas.{IsRun, run_more, run_ends}

-- nothing is after the whole text
pub no_letter_behind : (alphabet : Letters) (text : List ℕ) →
    BeginsWithNoLetter alphabet (drop (length text) text)
no_letter_behind alphabet text d more is letter =
    let nothing : chars (drop (length text) text) ≡ [] =
    ap chars (drop_all (length text) text (omega arith)) ∙ chars-nil in
    cc

-- an ASCII byte is a character
pub ascii_first : (text : List ℕ) (place : ℕ) → place < length text →
    get_or text place 0 < 128 →
    drop place text ≡ encode_utf8 (get_or text place 0) ++ drop (place + 1) text
ascii_first text place within ascii =
    drop_more text place 0 within
    ∙ ap (λ (l : List ℕ). l ++ drop (place + 1) text) (sym (encode_ascii _ ascii))

module _ (alphabet : Letters) (text : List ℕ) (utf8 : IsUtf8 text) (place : ℕ)
    (run : IsRun alphabet text place (drop place text)) where
  pub run_more_ascii : place < length text → get_or text place 0 < 128 →
      IsLetter alphabet (get_or text place 0) →
      IsRun alphabet text (place + 1) (drop (place + 1) text)
  run_more_ascii within ascii letter =
      subst (λ (n : ℕ). IsRun alphabet text (place + n) (drop (place + 1) text))
      (len_utf8_ascii _ ascii)
      (run_more alphabet text utf8 place _ _ _ run (ascii_first text place within ascii) letter)

  pub run_ends_ascii : place < length text → get_or text place 0 < 128 →
      (IsLetter alphabet (get_or text place 0) → ⊥) → BeginsWithNoLetter alphabet (drop place text)
  run_ends_ascii within ascii other =
      run_ends alphabet text utf8 place _ _ _ run (ascii_first text place within ascii) other

  -- the letters of the rest's front are letters of the text's
  pub run_joined : (len : ℕ) → All (IsLetter alphabet) (chars (take len (drop place text))) →
      All (IsLetter alphabet) (chars (take (place + len) text))
  run_joined len letters =
      All-same (IsLetter alphabet) _ _
      (ap chars (take-add place len text)
      ∙ chars-append (take place text) _ (IsUtf8-take text place utf8 run.cut))
      (All-append (IsLetter alphabet) _ _ run.letters letters)
