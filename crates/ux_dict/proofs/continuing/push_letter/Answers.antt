use Rattle.std.proofs.Common.{◌≡◌, List, ℕ, [], ◌∷◌, sym, ◌∙◌, subst}
use Rattle.std.proofs.lemmas.List.{append-nil}
use Rattle.std.proofs.lemmas.Result.{on_ok_weaker}
use Rattle.std.proofs.lemmas.Str.{chars_from_encodes}
use Rattle.std.specs.Str.{chars}
use lib.Utf8.{encode}
use Rattle.ux_dict.specs.Parts.{IsFollowed, IsPart}
use Rattle.ux_dict.proofs.PartLemmas.{IsContinued-one}
use Rattle.ux_dict.proofs.continuing.push_letter.Goals as goal

pub returns : goal.returns
returns c =
    let letter = c.args.letter in
    let text = c.encode_utf8.result.now in
    let part = c.args.part.now in
    let old = c.args.parts.now.items in
    let new = c.push_going_on.new.parts.items in
    let spelled : letter ∷ [] ≡ chars text =
    chars_from_encodes (letter ∷ []) text c.encode_utf8.utf8
    (append-nil (encode letter) ∙ sym c.encode_utf8.ensures.value) in
    on_ok_weaker c.push_going_on.result
    (λ (follows : (front : List ℕ) → IsPart front part →
    IsFollowed front (chars text) part old new) (front : List ℕ) (is : IsPart front part). IsContinued-one front letter part old new
    (subst (λ (l : List ℕ). IsFollowed front l part old new) (sym spelled) (follows front is)))
    c.push_going_on.ensures
