-- Indexes at small values.
use Rattle.std.proofs.Common.{◌≡◌, [], ◌∷◌, codes, refl}
use Rattle.std.specs.Fmt.{digits}
use Rattle.ux_base.specs.declared.settings.Mode.TheVariants.{Ignore, Merge, Replace}
use Rattle.ux_locate.specs.Index.{index_of}

no_hits : index_of Ignore [] ≡ codes "#I\n"
no_hits = refl

-- a hit of three tokens and one of the last of them
two_hits :
    index_of Ignore (record { first = 0; last = 2; text = codes "the cat" }
    ∷ record { first = 2; last = 2; text = codes "cat" } ∷ [])
    ≡ codes "#I\n0 2 the cat\n2 2 cat\n"
unfolding digits
two_hits = refl

-- two hits of the same tokens
two_texts :
    index_of Merge (record { first = 0; last = 0; text = codes "cat[A]" }
    ∷ record { first = 0; last = 0; text = codes "cat[N]" } ∷ [])
    ≡ codes "#M\n0 0 cat[A]\n0 0 cat[N]\n"
unfolding digits
two_texts = refl

-- a hit with nothing in place of its tokens
no_text :
    index_of Replace (record { first = 0; last = 0; text = [] } ∷ []) ≡ codes "#R\n0 0 \n"
unfolding digits
no_text = refl
