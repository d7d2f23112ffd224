use Rattle.std.proofs.Common.{ℕ, List, Bor, [], ◌∷◌, map, sym, ◌∙◌, ap, subst}
use Rattle.ux_base.specs.Distinct.{GrowsBy}
use Rattle.ux_base.proofs.FirstTextsLemmas.{with_text-GrowsBy}
use Rattle.ux_grf.specs.Needs.{names_in}
use Rattle.ux_grf.proofs.CallsLemmas.{names-insert}
use Rattle.ux_grf.proofs.calls.note_name.Goals as goal

pub returns : goal.returns
returns c =
    let old = names_in c.args.names.now in
    subst (GrowsBy (c.args.name.now ∷ []) old)
    (sym (ap (λ (keys : List (Bor (List ℕ))). map (λ (s : Bor (List ℕ)). s.now) keys)
    c.in_ok-insert_full.ensures.keys
    ∙ names-insert c.args.names.now.keys c.args.name))
    (with_text-GrowsBy old c.args.name.now)
