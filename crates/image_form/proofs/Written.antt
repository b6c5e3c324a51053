-- What is written of an image.
use Rattle.std.proofs.Common.{◌≡◌, ℕ, Result, Ok, Err, sym, ap, ◌∙◌}
use Rattle.std.specs.Prelude.{IfOk}
use Rattle.std.specs.Global.{Vec}
use Rattle.wedge_base.specs.Images.{Image}
use Rattle.image_form.specs.Encoding.{encoding}
use Rattle.image_form.specs.Rules.{IsImage, Encodes}
use Rattle.image_form.specs.Reading.{reading}
use Rattle.image_form.proofs.Form.{ok_is}
use Rattle.image_form.proofs.ImageForm.{is_read}

-- an image has one encoding, and an encoding one image
pub one_image : (i j : Image) → IsImage i → IsImage j → encoding i ≡ encoding j → i ≡ j
one_image i j is other e = ok_is i j (sym (is_read i is) ∙ ap reading e ∙ is_read j other)

module _ {E : Type 0} (lent i : Image) (same : lent ≡ i) (is : IsImage i) where
  pub read_again : (r : Result (Vec ℕ) E) → IfOk r (λ v. v.items ≡ encoding lent) → IfOk r (λ v. reading v.items ≡ Ok i)
  read_again (Ok v) h = ap reading (h ∙ ap encoding same) ∙ is_read i is
  read_again (Err e) h = tt

  pub encodes_alone : (j : Image) (r : Result (Vec ℕ) E) → IfOk r (λ v. v.items ≡ encoding lent) → IfOk r (λ v. Encodes j v.items → j ≡ i)
  encodes_alone j (Ok v) h = λ encodes. one_image j i encodes.valid is (sym encodes.encoded ∙ h ∙ ap encoding same)
  encodes_alone j (Err e) h = tt
