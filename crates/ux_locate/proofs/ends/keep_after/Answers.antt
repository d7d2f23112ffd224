use Rattle.std.proofs.Common.{ltb, rules, subst, sym}
use Rattle.std.specs.List.Sorted.{IsStrictlyIncreasing}
use Rattle.std.proofs.lemmas.Fn.{filter_same}
use Rattle.std.proofs.lemmas.List.Kept.{IsStrictlyIncreasing-filter}
use Rattle.ux_locate.proofs.AfterLemmas.{after_exactly}
use Rattle.ux_locate.proofs.ends.keep_after.Goals as goal

pub returns-clause-exactly : goal.returns-clause-exactly
returns-clause-exactly c =
    after_exactly c.args.start c.args.positions.now.items c.retain.new.self.items
    (filter_same _ (λ n. ltb c.args.start n) _ (λ n b f called. search rules)
    c.args.positions.now.items c.retain.new.self.items c.retain.ensures.filtered)

pub returns-clause-ascending : goal.returns-clause-ascending
returns-clause-ascending c ascending =
    subst IsStrictlyIncreasing
    (sym (filter_same _ (λ n. ltb c.args.start n) _ (λ n b f called. search rules)
    c.args.positions.now.items c.retain.new.self.items c.retain.ensures.filtered))
    (IsStrictlyIncreasing-filter (λ n. ltb c.args.start n) c.args.positions.now.items ascending)
