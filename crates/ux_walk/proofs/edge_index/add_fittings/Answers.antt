use Rattle.std.proofs.Common.{◌≡◌, ℕ, List, get_or, subst, sym}
use Rattle.ux_walk.specs.declared.edge_index.Fitting.{Fitting}
use Rattle.ux_walk.specs.EdgeIndexes.{fits_at}
use Rattle.ux_walk.specs.Literals.{IsFitted}
use Rattle.ux_walk.specs.Noting.{Includes}
use Rattle.ux_walk.proofs.Collecting.{Among, includes_all, includes_alike, includes_more, includes_pushed, item_at}
use Rattle.ux_walk.proofs.edge_index.add_fittings.Goals as goal

pub loop-number-preserved : goal.loop-number-preserved
loop-number-preserved c =
    let numbers = c.deref-number-items.result.now in
    let i = c.loop-number.number-index in
    let number = get_or numbers i 0 in
    let now = c.loop-number.fittings.items in
    includes_more (λ (n : ℕ) (fitting : Fitting). fitting ≡ fits_at n c.args.place)
    c.args.fittings.now.items now c.push.new.self.items numbers i number
    (λ fitting. fitting ≡ fits_at number c.args.place) c.loop-number-test.true
    (item_at numbers i 0 c.loop-number-test.true) c.loop-number.invariant
    (subst (λ (l : List Fitting). Includes (λ fitting. fitting ≡ fits_at number c.args.place) now l)
    (sym c.in_ok-push.ensures.items) (includes_pushed now (fits_at number c.args.place)))
    (λ fitting is. is) (λ fitting is. is)

pub returns : goal.returns
returns c texts ready =
    let place = c.args.place in
    let fitted = c.in_ok-numbers.ensures texts ready in
    let all = includes_all (λ (n : ℕ) (fitting : Fitting). fitting ≡ fits_at n place)
    c.args.fittings.now.items c.loop-number.fittings.items c.deref-number-items.result.now
    c.loop-number.number-index c.loop-number-test.false c.loop-number.invariant in
    let listed = subst (λ (l : List ℕ). Includes
    (Among (λ (n : ℕ) (fitting : Fitting). fitting ≡ fits_at n place) l) c.args.fittings.now.items
    c.loop-number.fittings.items) c.deref-number-items.ensures.value all in
    includes_alike (Among (λ (n : ℕ) (fitting : Fitting). fitting ≡ fits_at n place)
    c.in_ok-numbers.numbers.items)
    (λ fitting. (n : ℕ) × IsFitted c.args.alphabet.now texts c.args.label.now n
    × (fitting ≡ fits_at n place)) c.args.fittings.now.items c.loop-number.fittings.items listed
    (λ fitting (n, inside, is). (n, (fitted n).0 inside, is))
    (λ fitting (n, fits, is). (n, (fitted n).1 fits, is))
