use Rattle.std.proofs.Common.{ℕ, List, Bor, Some, map, sym, ◌∙◌, ap}
use Rattle.std.specs.Option.{option_map}
use Rattle.std.specs.Cmp.Lexicographic.{same_text}
use Rattle.std.proofs.lemmas.Option.{slice_get-map}
use Rattle.ux_tokens.proofs.NumbersLemmas.{texts-insert}
use Rattle.ux_tokens.proofs.numbering.number_of.Goals as goal

pub returns-clause-texts : goal.returns-clause-texts
returns-clause-texts c =
    ap (λ (keys : List (Bor (List ℕ))). map (λ (s : Bor (List ℕ)). s.now) keys)
    c.in_ok-number.ensures.keys
    ∙ texts-insert c.args.numbers.now.keys c.args.token

pub returns-clause-place : goal.returns-clause-place
returns-clause-place c =
    let stored = c.in_ok-number.ensures.stored in
    slice_get-map (λ (s : Bor (List ℕ)). s.now) c.insert_full.new.self.keys c.in_ok-number.number
    ∙ ap (option_map (λ (s : Bor (List ℕ)). s.now)) stored.1
    ∙ ap Some (sym (same_text c.args.token.now stored.0.now (sym stored.2)))
