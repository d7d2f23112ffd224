use Rattle.std.proofs.Common.{arith, ◌≡◌, List, ℕ, subst, sym}
use Rattle.std.specs.List.{AllZip}
use Rattle.std.specs.Prelude.{IfSome, Some, slice_get}
use Rattle.ux_dela.specs.declared.entry.Codes.{Codes}
use Rattle.ux_reading_table.specs.Liking.{AreLikes, HasCodesOf}
use Rattle.ux_reading_table.specs.Noting.{IsNumbered, spellings}
use Rattle.ux_reading_table.proofs.LikesLemmas.{codes_numbered, likes_still}
use Rattle.ux_reading_table.proofs.NotingLemmas.{noted_reading, notes_known, notes_new, numbered_more}
use Rattle.ux_reading_table.proofs.noting.note.Goals as goal

-- a known text has a number
pub index-requires : goal.index-requires
index-requires c =
    let (there, same) = rw c.if-not-is_new.true at c.in_ok-place.ensures.added in
    let at = subst (λ (s : List (List ℕ)). slice_get s c.in_ok-place.place ≡ Some c.args.text.now)
    same c.in_ok-place.ensures.placed in
    let found = noted_reading c.args.noted.now.printed.keys (spellings c.args.noted.now.spelled)
    c.args.noted.now.numbers.items c.in_ok-place.place c.args.text.now 0 c.requires.numbered at in
    omega (arith, found.0, c.args.noted.now.numbers.ok.0)

pub returns-then-not-is_new-clause-noted : goal.returns-then-not-is_new-clause-noted
returns-then-not-is_new-clause-noted c =
    let (there, same) = rw c.if-not-is_new.true at c.in_ok-place.ensures.added in
    record {
      numbered = subst (λ (s : List (List ℕ)). AllZip (IsNumbered c.args.noted.now.printed.keys) s
          c.args.noted.now.numbers.items) (sym same) c.requires.numbered;
      different = c.requires.different;
      few = c.requires.few;
      known = c.requires.known;
      likes = c.requires.likes;
    }

pub returns-then-not-is_new-clause-says : goal.returns-then-not-is_new-clause-says
returns-then-not-is_new-clause-says c =
    let (there, same) = rw c.if-not-is_new.true at c.in_ok-place.ensures.added in
    notes_known c.args.noted.now.printed.keys (spellings c.args.noted.now.spelled)
    (spellings c.spell.new.set) c.args.noted.now.numbers.items c.in_ok-place.place c.args.text.now
    c.index.result.now c.requires.numbered same c.in_ok-place.ensures.placed c.index.ensures

pub returns-clause-noted : goal.returns-clause-noted
returns-clause-noted c =
    let printed = c.in-Some.printed in
    let is = rw c.in-Some.is at c.in_ok-printed.ensures.printed in
    let has = rw c.in-Some.is at c.in_ok-printed.ensures.codes in
    let more = rw c.if-not-is_new.false at c.in_ok-place.ensures.added in
    let old = c.args.noted.now in
    record {
      numbered = numbered_more old.printed.keys c.number_of.new.texts.keys
          (spellings old.spelled) (spellings c.spell.new.set)
          old.numbers.items c.push-2.new.self.items c.args.text.now printed.text
          c.in_ok-number.number c.requires.numbered c.in_ok-number.ensures.kept is
          c.in_ok-number.ensures.number more c.in_ok-push-2.ensures.items;
      different = c.in_ok-number.ensures.different;
      few = c.in_ok-number.ensures.few;
      known = c.in_ok-printed.ensures.known;
      likes =
          let known = c.printed_by.new.known.codes.items in
          let texts = c.number_of.new.texts.keys in
          let noted = subst (λ (codes : List Codes). AreLikes texts codes old.likes →
          IfSome printed.codes (λ place. HasCodesOf texts codes place c.in_ok-number.number) →
          AreLikes texts codes c.note_like.new.likes) c.as_slice.ensures.value
          (c.in_ok-note_like.ensures texts) in
          noted
          (likes_still old.printed.keys texts old.codes.codes.items known old.likes
          c.in_ok-number.ensures.kept c.in_ok-printed.ensures.kept c.requires.likes)
          (codes_numbered texts known printed.text c.in_ok-number.number printed.codes
          c.in_ok-number.ensures.number has);
    }

pub returns-clause-says : goal.returns-clause-says
returns-clause-says c =
    let is = rw c.in-Some.is at c.in_ok-printed.ensures.printed in
    notes_new c.args.noted.now.printed.keys c.number_of.new.texts.keys c.args.text.now
    c.in-Some.printed.text c.in_ok-number.number is c.in_ok-number.ensures.added
    c.in_ok-number.ensures.number
