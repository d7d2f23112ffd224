use Rattle.std.proofs.Common.{ℕ, List, Bor, Some, map, sym, ◌∙◌, ap}
use Rattle.std.specs.Option.{option_map}
use Rattle.std.specs.Cmp.Lexicographic.{same_text}
use Rattle.std.proofs.lemmas.Option.{slice_get-map}
use Rattle.ux_tokens.proofs.NumbersLemmas.{texts-insert}
use Rattle.ux_cmd_inflect.proofs.classes.number_of.Goals as goal

pub returns-clause-names : goal.returns-clause-names
returns-clause-names c =
    ap (λ (keys : List (Bor (List ℕ))). map (λ (s : Bor (List ℕ)). s.now) keys)
    c.in_ok-number.ensures.keys
    ∙ texts-insert c.args.names.now.keys c.args.class

pub returns-clause-number : goal.returns-clause-number
returns-clause-number c =
    let stored = c.in_ok-number.ensures.stored in
    slice_get-map (λ (s : Bor (List ℕ)). s.now) c.insert_full.new.self.keys c.in_ok-number.number
    ∙ ap (option_map (λ (s : Bor (List ℕ)). s.now)) stored.1
    ∙ ap Some (sym (same_text c.args.class.now stored.0.now (sym stored.2)))
