use Rattle.std.proofs.Common.{arith, ◌≡◌, ◌+◌, ◌∙◌, [], ◌∷◌, ◌++◌, length, length-append, Some, ap, refl}
use Rattle.std.specs.Prelude.{slice_get}
use Rattle.std.proofs.lemmas.List.{map-append}
use Rattle.std.proofs.lemmas.Option.{slice_get_read}
use Rattle.std.proofs.lemmas.Result.{err_from_is_err_and}
use Rattle.ux_plan.specs.Plans.{each}
use Rattle.ux_plan.proofs.Growing.{each_ends, each_more, each_stops}
use Rattle.ux_plan.proofs.PlanLaws.{later_both}
use Rattle.ux_plan.proofs.PlanSteps.{halts_memory}
use Rattle.ux_dictionaries.specs.Dictionaries.{contents_of, dictionary_format, seen_as}
use Rattle.ux_dictionaries.proofs.dictionaries.read_dictionaries.Goals as goal

-- this dictionary stops the reading
pub returns-in_err-dic-clause-err : goal.returns-in_err-dic-clause-err
returns-in_err-dic-clause-err g c =
    let p = err_from_is_err_and c.from_residual.result c.from_residual.ensures.1 in
    let seen = g.F.Folder.seen in
    let format = dictionary_format in
    let l = c.loop-name in
    let names = c.args.names.now in
    let stops = rw c.as_str.ensures at c.in_err-dic.ensures.err in
    let at : slice_get names (length (contents_of l.dics.items)) ≡ Some c.name-item.result =
    rw l.invariant.count (slice_get_read names (length names) l.name-index c.name-item.result refl
    c.loop-name-test.true c.name-item.is) in
    rw (p.1, p.2) (each_stops format names (seen c.args.folder.now) (seen l.folder)
    l.invariant.later (contents_of l.dics.items) l.invariant.rest c.name-item.result at
    (seen c.read_dictionary.new.folder) c.in_err-dic.field-0.0 stops)

-- memory ran out for it
pub returns-in_err-push-clause-err : goal.returns-in_err-push-clause-err
returns-in_err-push-clause-err g c =
    let r = c.from_residual-in_err-push in
    let p = err_from_is_err_and r.result r.ensures.1 in
    let seen = g.F.Folder.seen in
    let format = dictionary_format in
    rw (p.1, p.2) (halts_memory (each format c.args.names.now) (seen c.args.folder.now)
    (seen c.read_dictionary.new.folder))

-- this dictionary was read
pub loop-name-preserved : goal.loop-name-preserved
loop-name-preserved g c =
    let seen = g.F.Folder.seen in
    let format = dictionary_format in
    let l = c.loop-name in
    let names = c.args.names.now in
    let read = c.in_ok-dic.ensures in
    let has = rw c.as_str.ensures at read.ok in
    let dic = seen_as c.in_ok-dic.dic in
    let before = contents_of l.dics.items in
    let after = contents_of c.push.new.self.items in
    let grown : after ≡ before ++ dic ∷ [] = ap contents_of c.in_ok-push.ensures.items
    ∙ map-append seen_as l.dics.items (c.in_ok-dic.dic ∷ []) in
    let at : slice_get names (length before) ≡ Some c.name-item.result =
    rw l.invariant.count (slice_get_read names (length names) l.name-index c.name-item.result refl
    c.loop-name-test.true c.name-item.is) in
    record {
      later = later_both (seen c.args.folder.now) (seen l.folder)
          (seen c.read_dictionary.new.folder) l.invariant.later read.later;
      count = ap length grown ∙ (length-append before (dic ∷ []) ∙ ap (λ n. n + 1) l.invariant.count);
      rest = each_more format names (seen c.args.folder.now) (seen l.folder) l.invariant.later
          before l.invariant.rest c.name-item.result at dic after grown has;
    }

-- all were read
pub returns-clause-ok : goal.returns-clause-ok
returns-clause-ok g c =
    let format = dictionary_format in
    let l = c.loop-name in
    let read = contents_of l.dics.items in
    let all : length read ≡ length c.args.names.now =
    omega (arith, l.invariant.count, c.loop-name-test.false, l.auto.name-index-end) in
    each_ends format c.args.names.now (g.F.Folder.seen c.args.folder.now).files read all l.invariant.rest
