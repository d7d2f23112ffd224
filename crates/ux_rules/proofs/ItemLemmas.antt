-- The sign of an item is the only one.
use Rattle.std.proofs.Common.{◌≡◌, ℕ, List, [], ◌∷◌, refl, sym, ap, ◌∙◌, subst, Some, None}
use Rattle.std.specs.Prelude.{Option}
use Rattle.std.proofs.lemmas.Option.{same_Some}
use Rattle.ux_grf.specs.declared.item.Item.TheVariants as item
use Rattle.ux_masks.specs.declared.mask.Mask.{Mask}
use Rattle.ux_masks.specs.declared.mask.Mask.TheVariants as mask
use Rattle.ux_masks.specs.Texts.{IsMaskText}
use Rattle.ux_masks.proofs.UniqueLaws.{one_mask}
use Rattle.ux_rules.specs.declared.step.Sign.{Sign}
use Rattle.ux_rules.specs.declared.step.Sign.TheVariants.{Read}
use Rattle.ux_rules.specs.declared.test.Test.{Test}
use Rattle.ux_rules.specs.declared.test.Test.TheVariants.{Lexical, Known, Unknown, Any}
use Rattle.ux_rules.specs.Drafts.{test_in, SaysMask, SaysItem}
use Rattle.ux_rules.specs.Words.{test_of, IsSaid}

none_some : {A : Type 0} {P : Type 0} (x : A) → None ≡ Some x → P
none_some x e = cc

-- the sign of a mask is that of its test
sign_test : (m : Mask) (test : Test) → test_of m ≡ Some test → test_in m ≡ Some (Read test)
sign_test (mask.Lexical parts) test e = ap (λ t. Some (Read t)) (same_Some _ test e)
sign_test (mask.NotLexical parts) test e = ap (λ t. Some (Read t)) (same_Some _ test e)
sign_test mask.Dic test e = ap (λ t. Some (Read t)) (same_Some Known test e)
sign_test mask.NotDic test e = ap (λ t. Some (Read t)) (same_Some Unknown test e)
sign_test mask.Token test e = ap (λ t. Some (Read t)) (same_Some Any test e)
sign_test mask.Word test e = none_some test e
sign_test mask.NotWord test e = none_some test e
sign_test mask.Lower test e = none_some test e
sign_test mask.NotLower test e = none_some test e
sign_test mask.Upper test e = none_some test e
sign_test mask.NotUpper test e = none_some test e
sign_test mask.First test e = none_some test e
sign_test mask.NotFirst test e = none_some test e
sign_test mask.SDic test e = none_some test e
sign_test mask.NotSDic test e = none_some test e
sign_test mask.CDic test e = none_some test e
sign_test mask.TDic test e = none_some test e
sign_test mask.Nb test e = none_some test e

abbrev HasTest : Mask → Sign → Type 0
HasTest m sign = (test : Test) × (test_of m ≡ Some test) × (Read test ≡ sign)

test_sign : (m : Mask) (sign : Sign) → test_in m ≡ Some sign → HasTest m sign
test_sign (mask.Lexical parts) sign e = (Lexical (mask.Lexical parts), refl, same_Some _ sign e)
test_sign (mask.NotLexical parts) sign e =
    (Lexical (mask.NotLexical parts), refl, same_Some _ sign e)
test_sign mask.Dic sign e = (Known, refl, same_Some (Read Known) sign e)
test_sign mask.NotDic sign e = (Unknown, refl, same_Some (Read Unknown) sign e)
test_sign mask.Token sign e = (Any, refl, same_Some (Read Any) sign e)
test_sign mask.Word sign e = none_some sign e
test_sign mask.NotWord sign e = none_some sign e
test_sign mask.Lower sign e = none_some sign e
test_sign mask.NotLower sign e = none_some sign e
test_sign mask.Upper sign e = none_some sign e
test_sign mask.NotUpper sign e = none_some sign e
test_sign mask.First sign e = none_some sign e
test_sign mask.NotFirst sign e = none_some sign e
test_sign mask.SDic sign e = none_some sign e
test_sign mask.NotSDic sign e = none_some sign e
test_sign mask.CDic sign e = none_some sign e
test_sign mask.TDic sign e = none_some sign e
test_sign mask.Nb sign e = none_some sign e

-- a text is of one mask at most
pub says_mask : (text : List ℕ) (m : Mask) (sign : Option Sign) → IsMaskText text m →
    sign ≡ test_in m → SaysMask text sign
says_mask text m None is e =
    λ other of. subst (λ (x : Mask). test_in x ≡ None) (one_mask text m other is of) (sym e)
says_mask text m (Some sign) is e = (m, is, sym e)

-- a text that is no mask says nothing
pub says_none : (text : List ℕ) → ((m : Mask) → IsMaskText text m → ⊥) → SaysMask text None
says_none text none = λ m is. absurd (none m is)

only_read : (text : List ℕ) (m : Mask) (test : Test) → IsMaskText text m →
    test_of m ≡ Some test → (signs : List Sign) → IsSaid (item.Mask text) signs →
    signs ≡ Read test ∷ []
only_read text m test is e signs (other, (n, is_n, e_n), says) =
    let same : other ≡ test =
    same_Some other test (sym e_n ∙ ap test_of (one_mask text n m is_n is) ∙ e) in
    says ∙ ap (λ t. Read t ∷ []) same

-- what a mask text says is what its item says
pub mask_says : (text : List ℕ) (sign : Option Sign) → SaysMask text sign →
    SaysItem (item.Mask text) sign
mask_says text None says = λ signs said.
    none_some (Read said.0) (sym (says said.1.0 said.1.1) ∙ sign_test said.1.0 said.0 said.1.2)
mask_says text (Some sign) (m, is, e) =
    let has = test_sign m sign e in
    subst (λ (s : Sign). SaysItem (item.Mask text) (Some s)) has.2
    ((has.0, (m, is, has.1), refl), only_read text m has.0 is has.1)
