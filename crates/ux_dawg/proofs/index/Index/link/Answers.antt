use Rattle.std.proofs.Common.{◌+◌, ◌∙◌}
use Rattle.std.proofs.lemmas.List.{get_or_default, length-set}
use Rattle.ux_dawg.specs.declared.index.Link.{Link}
use Rattle.ux_dawg.proofs.MarksLemmas.{hash_at, hashes-link, marks-link, number_read, numbers-link}
use Rattle.ux_dawg.proofs.index.Index.link.Goals as goal

pub returns-clause-linked : goal.returns-clause-linked
returns-clause-linked c =
    let newest = c.args.self.now.newest.items in
    let bucket = c.bucket_of-bucket.result in
    let inside = c.bucket_of-bucket.ensures.within in
    let older = c.index-older.result.now in
    let link = c.index-link.result.now in
    marks-link newest c.args.self.now.links.items c.args.item c.requires.linked
    c.requires.within bucket inside
    (record { older = older; hash = link.hash; number = link.number })
    (hash_at c.args.self.now.links.items c.args.item link c.requires.within c.index-link.ensures)
    c.bucket_of-bucket.ensures.bucket
    (c.index-older.ensures ∙ get_or_default newest bucket older 0 inside)

pub returns-clause-same : goal.returns-clause-same
returns-clause-same c =
    let link = c.index-link.result.now in
    let links = c.args.self.now.links.items in
    let item = c.args.item in
    let put : Link =
    record { older = c.index-older.result.now; hash = link.hash; number = link.number } in
    record {
      hashes = hashes-link item links put
          (hash_at links item link c.requires.within c.index-link.ensures);
      numbers = numbers-link item links put
          (number_read links item link c.requires.within c.index-link.ensures);
      many = length-set c.args.self.now.newest.items c.bucket_of-bucket.result (item + 1);
    }
