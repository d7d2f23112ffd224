use Rattle.std.proofs.Common.{◌≡◌, ◌++◌, cond, string_bytes, take}
use Rattle.std.specs.List.{flat_map}
use Rattle.ux_paradigm.proofs.printing.put_tails.Given as goal

-- the lines so far were put
abbrev pub invariant-loop-tail : goal.invariant-loop-tail
invariant-loop-tail l = string_bytes l.lines ≡ string_bytes l.fn.lines
    ++ flat_map (λ tail. l.front ++ (tail.form ++ (cond tail.is_lemma l.same l.apart ++ tail.codes)))
    (take l.tail-index l.tails)
