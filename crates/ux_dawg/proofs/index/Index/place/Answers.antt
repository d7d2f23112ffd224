use Rattle.std.proofs.Common.{arith, ◌≡◌, ◌≢◌, ◌-◌, ◌<◌, ◌≤◌, suc, get_or, ap, sym, ◌∙◌, true≢false}
use Rattle.ux_dawg.specs.Building.{bare}
use Rattle.ux_dawg.specs.Flat.{state_of}
use Rattle.ux_dawg.specs.Indexed.{held, state_at}
use Rattle.ux_dawg.proofs.MarksLemmas.{hash_at, number_read, older_at}
use Rattle.ux_dawg.proofs.SearchLemmas.{link-le, other_hash, searched_first, searched_next}
use Rattle.ux_dawg.proofs.index.Index.place.Goals as goal
use Rattle.ux_dawg.proofs.index.Index.place.Goals.{else-link-hash-via-then-link-hash+else-is_state, else-link-hash-via-else-link-hash}

pub loop-mark-init : goal.loop-mark-init
loop-mark-init c =
    let index = c.args.self.now in
    searched_first index.newest.items index.links.items c.args.hash c.args.states.now (held index)
    c.requires.indexed.linked c.requires.indexed.hashes (state_of c.args.code c.args.edges.now)
    c.requires.hash c.bucket_of-bucket.result c.index-mark.result.now
    c.bucket_of-bucket.ensures.bucket c.bucket_of-bucket.ensures.within c.index-mark.ensures

pub loop-mark-smaller : goal.loop-mark-smaller
loop-mark-smaller c =
    let index = c.args.self.now in
    let most = c.loop-mark.invariant.most in
    let some = c.loop-mark-test.true in
    let item = c.loop-mark.mark - 1 in
    let within : item < held index = omega (arith, most, some) in
    let older = c.index-link.result.now.older in
    let low : older ≤ item =
    link-le index.newest.items index.links.items c.args.hash c.args.states.now (held index)
    c.requires.indexed.linked c.requires.indexed.hashes (state_of c.args.code c.args.edges.now)
    c.requires.hash item older within
    (older_at index.links.items item c.index-link.result.now within c.index-link.ensures) in
    omega (arith, low, some)

pub loop-mark-preserved : goal.loop-mark-preserved
loop-mark-preserved c =
    let index = c.args.self.now in
    let state = state_of c.args.code c.args.edges.now in
    let most = c.loop-mark.invariant.most in
    let some = c.loop-mark-test.true in
    let item = c.loop-mark.mark - 1 in
    let within : item < held index = omega (arith, most, some) in
    let is : c.loop-mark.mark ≡ suc item = omega (arith, some) in
    let read = number_read index.links.items item c.index-link.result.now within
    c.index-link.ensures in
    let other : state_at c.args.states.now index.links.items item ≢ state =
    elim c.else-link-hash.branch [
      | else-link-hash-via-then-link-hash+else-is_state w ↦
          λ same. true≢false
          (sym (w.is_state.ensures.1
          (ap (λ k. get_or c.args.states.now k bare) read ∙ same))
          ∙ w.if-is_state.false)
      | else-link-hash-via-else-link-hash w ↦
          other_hash index.newest.items index.links.items c.args.hash c.args.states.now (held index)
          c.requires.indexed.linked c.requires.indexed.hashes state c.requires.hash item within
          (λ same. w.if-link-hash.false
          (hash_at index.links.items item c.index-link.result.now within c.index-link.ensures
          ∙ same))
    ] in
    searched_next index.newest.items index.links.items c.args.hash c.args.states.now (held index)
    c.requires.indexed.linked c.requires.indexed.hashes state c.requires.hash
    c.loop-mark.mark item c.index-link.result.now.older c.loop-mark.invariant is other
    (older_at index.links.items item c.index-link.result.now within c.index-link.ensures)

pub returns-then-is_state : goal.returns-then-is_state
returns-then-is_state c =
    let index = c.args.self.now in
    let most = c.loop-mark.invariant.most in
    let some = c.loop-mark-test.true in
    let item = c.loop-mark.mark - 1 in
    let within : item < held index = omega (arith, most, some) in
    let read = number_read index.links.items item c.index-link.result.now within
    c.index-link.ensures in
    ((item, within, sym read), c.is_state.ensures.0 c.if-is_state.true)
