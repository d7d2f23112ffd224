use Rattle.ux_tokens.specs.Numbers.{different_texts}
use Rattle.ux_locate.proofs.by_start.hits_by_ends.Goals as goal

pub hits_from_starts-requires-clause-kept : goal.hits_from_starts-requires-clause-kept
hits_from_starts-requires-clause-kept g c =
    let search = c.args.search.now in
    c.new-look_ups.ensures search.masked.now.alphabet.now search.masked.now.net.now (different_texts search.masked.now.text.now)
