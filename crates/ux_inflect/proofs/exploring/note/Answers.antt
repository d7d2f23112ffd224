use Rattle.std.proofs.Common.{rules}
use denote.Enum.Bare.{same_true}
use lib.Pointwise.{bytes_decides}
use Rattle.ux_inflect.specs.contracts.codes.CodeState.{the_type}
use Rattle.ux_inflect.specs.contracts.config.ConfigPartialEq.TheImpl.{ghosts}
use Rattle.ux_inflect.proofs.NumberLemmas.{numbered, both, same_frame, same_frames, same_forms, same_cursor, same_config}
use Rattle.ux_inflect.proofs.exploring.note.Goals as goal

pub returns-clause-number : goal.returns-clause-number
returns-clause-number c =
    let s = c.in_ok-to.ensures.stored in
    let a = c.args.successor.config in
    let b = s.0 in
    let e = both _ _ s.2 in
    let f = both _ _ e.1 in
    let k = both _ _ f.1 in
    numbered ghosts.eq c.args.configs.now.keys c.insert_full.new.self.keys a c.in_ok-to.to b
    c.in_ok-to.ensures.keys s.1
    (same_config a b
    (same_frames _ (λ x y t. same_frame x y t) a.frames.items b.frames.items e.0)
    (same_forms _ (λ x y t.
    let g = both _ _ t in
    same_cursor x y ((bytes_decides x.left.items y.left.items).0 g.0)
    ((bytes_decides x.right.items y.right.items).0 g.1)) a.form b.form f.0)
    ((bytes_decides _ _).0 k.0)
    (same_true the_type (search rules) _ _ k.1))
