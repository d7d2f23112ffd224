use Rattle.std.proofs.Common.{arith, ◌≡◌, ◌<◌, ℕ, List, [], ◌∷◌, get_or, length, slice_set, sym, ◌∙◌, subst}
use Rattle.std.proofs.lemmas.List.{get_or_default}
use Rattle.ux_base.specs.Distinct.{GrowsBy}
use Rattle.ux_grf.specs.Boxes.{Stamped}
use Rattle.ux_grf.proofs.TargetsLemmas.{known_target, new_target, stamped_more}
use Rattle.ux_grf.proofs.targets.keep.Goals as goal

-- the stamp that was read is the target's
read_is : (stamps : List ℕ) (target read : ℕ) → target < length stamps →
    read ≡ get_or stamps target read → read ≡ get_or stamps target 0
read_is stamps target read inside is = is ∙ get_or_default stamps target read 0 inside

pub returns-then-index-stamp-clause-kept : goal.returns-then-index-stamp-clause-kept
returns-then-index-stamp-clause-kept c =
    let stamps = c.args.stamps.now.items in
    let read = read_is stamps c.args.target c.index.result.now c.requires.inside c.index.ensures in
    known_target (length stamps) c.args.stamp stamps c.args.kept.now.items c.requires.stamped
    c.args.target c.requires.inside (omega (arith, read, c.if-index-stamp.true))

pub returns-clause-stamped : goal.returns-clause-stamped
returns-clause-stamped c =
    let stamps = c.args.stamps.now.items in
    let read = read_is stamps c.args.target c.index.result.now c.requires.inside c.index.ensures in
    subst (λ (kept : List ℕ). Stamped (length stamps) c.args.stamp
    (slice_set stamps c.args.target c.args.stamp) kept) (sym c.in_ok-push.ensures.items)
    (stamped_more (length stamps) c.args.stamp stamps c.args.kept.now.items c.requires.stamped
    c.args.target c.requires.inside
    (λ same. c.if-index-stamp.false (omega (arith, read, same))))

pub returns-clause-kept : goal.returns-clause-kept
returns-clause-kept c =
    let stamps = c.args.stamps.now.items in
    let read = read_is stamps c.args.target c.index.result.now c.requires.inside c.index.ensures in
    subst (λ (kept : List ℕ). GrowsBy (c.args.target ∷ []) c.args.kept.now.items kept)
    (sym c.in_ok-push.ensures.items)
    (new_target (length stamps) c.args.stamp stamps c.args.kept.now.items c.requires.stamped
    c.args.target c.requires.inside
    (λ same. c.if-index-stamp.false (omega (arith, read, same))))
