use Rattle.std.proofs.Common.{◌↔◌, ◌≡◌, ◌+◌, ◌++◌, ◌∷◌, [], ℕ, List, Some, Contains, get_or, subst, sym, true}
use Rattle.ux_tokens.specs.Numbers.{texts_in}
use Rattle.ux_walk.specs.Literals.{AreCounted, IsFitted}
use Rattle.ux_walk.proofs.RaisedLemmas.{AreListed, first_found, first_none, listed_all, listed_more, listed_none, listed_not}
use Rattle.ux_walk.proofs.FittedLemmas.{all_fitted}
use Rattle.ux_walk.proofs.words.Words.numbers.Goals as goal
use Rattle.ux_walk.proofs.words.Words.numbers.Goals.{in-Some+in_ok-push, in_default, then-is_fitted+in_ok-push-2, else-is_fitted}

pub loop-number-preserved : goal.loop-number-preserved
loop-number-preserved c = λ texts ready.
    let counted = subst (λ (l : List (List ℕ)). AreCounted l c.args.self.now.counts.items)
    (sym ready.texts_are) ready.counted in
    let fitted = IsFitted c.args.alphabet.now (texts_in c.args.self.now.texts) c.args.label.now in
    let first : List ℕ = c.match-number_by.numbers.items in
    let items = c.deref-number-items.result.now in
    let i = c.loop-number.number-index in
    let numbers : List ℕ = c.loop-number.numbers.items in
    elim c.if-is_fitted.branch [
      | then-is_fitted+in_ok-push-2 w ↦
          let grown : c.if-is_fitted.numbers.items ≡ numbers ++ get_or items i 0 ∷ [] =
          cc (w.in_ok-push-2.ensures.items) in
          subst (AreListed fitted first items (i + 1)) (sym {A = List ℕ} grown)
          (listed_more fitted first items i numbers c.loop-number-test.true
          (c.loop-number.invariant texts ready) (c.is_fitted.ensures.fits w.if-is_fitted.true))
      | else-is_fitted w ↦
          let same : c.if-is_fitted.numbers.items ≡ numbers = cc in
          subst (AreListed fitted first items (i + 1)) (sym {A = List ℕ} same)
          (listed_not fitted first items i numbers c.loop-number-test.true
          (c.loop-number.invariant texts ready)
          (λ is. let yes : c.is_fitted.result ≡ true =
          c.is_fitted.ensures.all counted c.count_of-count.ensures is in cc))
    ]

pub returns : goal.returns
returns c texts ready =
    let fitted = IsFitted c.args.alphabet.now (texts_in c.args.self.now.texts) c.args.label.now in
    let first : List ℕ = c.match-number_by.numbers.items in
    let items = c.deref-number-items.result.now in
    let found = c.number_by.result in
    let firsts : (n : ℕ) → Contains first n ↔ (found ≡ Some n) = elim c.match-number_by.branch [
      | in-Some+in_ok-push w ↦
          let more : first ≡ c.new-numbers.result.items ++ w.in-Some.number ∷ [] =
          cc (w.in_ok-push.ensures.items) in
          first_found found w.in-Some.number c.new-numbers.result.items first w.in-Some.is
          c.new-numbers.ensures.items more
      | in_default w ↦
          let none : first ≡ [] = cc (c.new-numbers.ensures.items) in
          first_none found first w.in_default.not-Some none
    ] in
    all_fitted c.args.alphabet.now texts c.args.self.now ready c.args.label.now
    c.number_by.ensures.utf8 found first items c.loop-number.numbers.items
    c.number_by.ensures.number firsts c.deref-number-items.ensures.value
    (listed_all fitted first items c.loop-number.number-index c.loop-number.numbers.items
    c.loop-number-test.false (c.loop-number.invariant texts ready))

pub loop-number-init : goal.loop-number-init
loop-number-init c = λ texts ready.
    listed_none (IsFitted c.args.alphabet.now (texts_in c.args.self.now.texts) c.args.label.now)
    c.match-number_by.numbers.items c.deref-number-items.result.now
