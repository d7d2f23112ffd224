use Rattle.std.proofs.Common.{◌≡◌, ℕ, List, Bor, Some, map, sym, ◌∙◌, ap, subst}
use Rattle.std.specs.Prelude.{slice_get}
use Rattle.std.specs.Option.{option_map}
use Rattle.std.specs.Cmp.Lexicographic.{same_text}
use Rattle.std.proofs.lemmas.Option.{slice_get-map}
use Rattle.ux_base.specs.Distinct.{with_text}
use Rattle.ux_base.proofs.DistinctLemmas.{with_text-keeps}
use Rattle.ux_tokens.specs.Numbers.{texts_in}
use Rattle.ux_tokens.proofs.NumbersLemmas.{texts-insert}
use Rattle.ux_walk.proofs.texts.Texts.place.Goals as goal

pub returns : goal.returns
returns c =
    let old = texts_in c.args.self.now.texts in
    let new = texts_in c.insert_full.new.self in
    let stored = c.in_ok-place.ensures.stored in
    let more : new ≡ with_text old c.args.text.now =
    ap (λ (keys : List (Bor (List ℕ))). map (λ (s : Bor (List ℕ)). s.now) keys)
    c.in_ok-place.ensures.keys
    ∙ texts-insert c.args.self.now.texts.keys c.args.text in
    record {
      at = slice_get-map (λ (s : Bor (List ℕ)). s.now) c.insert_full.new.self.keys
          c.in_ok-place.place
          ∙ ap (option_map (λ (s : Bor (List ℕ)). s.now)) stored.1
          ∙ ap Some (sym (same_text c.args.text.now stored.0.now (sym stored.2)));
      kept = λ place text at. subst (λ (l : List (List ℕ)). slice_get l place ≡ Some text)
          (sym more) (with_text-keeps old c.args.text.now place text at);
    }
