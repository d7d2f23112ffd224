use Rattle.std.proofs.Common.{◌≡◌}
use lib.Pointwise.{bytes_decides}
use Rattle.std.proofs.lemmas.Bool.{eqb-true, eq-eqb}
use Rattle.ux_subsets.proofs.PlacingLemmas.{has_number, both_true, true_both}
use Rattle.ux_subsets.proofs.numbering.place_of.Goals as goal

pub returns : goal.returns
returns c =
    let s = c.in_ok-place.ensures.stored in
    has_number _ c.args.sets.now.keys c.insert_full.new.self.keys c.args.set c.in_ok-place.place s.0
    c.in_ok-place.ensures.keys s.1 s.2
    (λ a b h.
    let e = both_true _ _ h in
    let f = both_true _ _ e.1 in
    let first = eqb-true a.first b.first e.0 in
    let others = (bytes_decides a.others.items b.others.items).0 f.0 in
    (cc, eqb-true a.seen b.seen f.1))
    (λ a b e f.
    let first : a.first ≡ b.first = cc in
    let others : a.others.items ≡ b.others.items = cc in
    true_both _ _ (eq-eqb a.first b.first first)
    (true_both _ _ ((bytes_decides a.others.items b.others.items).1 others) (eq-eqb a.seen b.seen f)))
