use Rattle.std.proofs.Common.{◌≡◌, ◌↔◌, ℕ, List, ap, get_or, subst, sym}
use Rattle.std.specs.Prelude.{Contains}
use Rattle.ux_tokens.specs.Numbers.{different_texts}
use Rattle.ux_walk.specs.Literals.{IsFitted}
use Rattle.ux_automaton.specs.declared.front_index.Fitting.{Fitting}
use Rattle.ux_automaton.proofs.AddingLemmas.{adds_all, adds_first, adds_next, item_at, pushed}
use Rattle.ux_automaton.proofs.CacheLemmas.{either, through}
use Rattle.ux_automaton.proofs.front_index.add_edge.Goals as goal

pub loop-number-init : goal.loop-number-init
loop-number-init c = adds_first
    (λ (number : ℕ) (fitting : Fitting). fitting ≡ record { number = number; stand = c.args.stand })
    (Contains c.args.fittings.now.items) c.deref-number-items.result.now

pub loop-number-preserved : goal.loop-number-preserved
loop-number-preserved c =
    let numbers = c.deref-number-items.result.now in
    let i = c.loop-number.number-index in
    let number = get_or numbers i 0 in
    adds_next
    (λ (n : ℕ) (fitting : Fitting). fitting ≡ record { number = n; stand = c.args.stand })
    (Contains c.args.fittings.now.items) (Contains c.loop-number.fittings.items)
    (Contains c.push.new.self.items) numbers i number c.loop-number-test.true
    (item_at numbers i 0 c.loop-number-test.true) c.loop-number.invariant
    (pushed c.loop-number.fittings.items c.push.new.self.items
    (record { number = number; stand = c.args.stand }) c.in_ok-push.ensures.items)

pub returns : goal.returns
returns c = λ fitting.
    let texts = different_texts c.args.masked.now.text.now in
    let fitted = c.in_ok-numbers.ensures texts c.requires in
    let all = adds_all
    (λ (n : ℕ) (f : Fitting). f ≡ record { number = n; stand = c.args.stand })
    (Contains c.args.fittings.now.items) (Contains c.loop-number.fittings.items)
    c.deref-number-items.result.now c.loop-number.number-index c.loop-number-test.false
    c.loop-number.invariant fitting in
    let listed = subst (λ (l : List ℕ). (n : ℕ) → Contains l n
    ↔ IsFitted c.args.masked.now.alphabet.now texts c.args.label.now n)
    (sym c.deref-number-items.ensures.value) fitted in
    through all (either (
      λ (n, inside, is). (
        subst (IsFitted c.args.masked.now.alphabet.now texts c.args.label.now)
            (sym (ap (λ (f : Fitting). f.number) is)) ((listed n).0 inside),
        ap (λ (f : Fitting). f.stand) is,
      ),
      λ (fits, is). (
        fitting.number,
        (listed fitting.number).1 fits,
        ap (λ s. record { number = fitting.number; stand = s }) is,
      ),
    ))
