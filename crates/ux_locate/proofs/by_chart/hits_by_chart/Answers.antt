use Rattle.ux_tokens.specs.Numbers.{different_texts}
use Rattle.ux_locate.proofs.by_chart.hits_by_chart.Goals as goal

pub hits_from_all-requires-clause-kept : goal.hits_from_all-requires-clause-kept
hits_from_all-requires-clause-kept c =
    let search = c.args.search.now in
    c.new-look_ups.ensures search.masked.now.alphabet.now search.masked.now.net.now (different_texts search.masked.now.text.now)
