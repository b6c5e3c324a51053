-- Parts are checked by their encoding.
use Rattle.std.proofs.Common.{◌≡◌, ℕ, ◌≤◌, false, leb, List, length, Ok, refl, sym, subst, ◌∙◌, arith}
use Rattle.std.proofs.lemmas.Bool.Decides.{nat_tests}
use Rattle.wedge_base.specs.Images.{Image}
use Rattle.image_form.specs.declared.fault.ImageError.{ImageError}
use Rattle.image_form.specs.declared.fault.Why.TheVariants.{Limit}
use Rattle.image_form.specs.Encoding.{most_bytes, encoding}
use Rattle.image_form.specs.Fitting.{PartsFit}
use Rattle.image_form.specs.Rules.{IsImage, Encodes}
use Rattle.image_form.specs.Reading.{refuse, IsImageError, reading}
use Rattle.image_form.proofs.ImageForm.{is_read}
use Rattle.image_form.proofs.Unique.{same_encoding}

pub too_long : (bytes : List ℕ) → (length bytes ≤ most_bytes → ⊥) → reading bytes ≡ refuse most_bytes Limit
unfolding reading
too_long bytes long =
    let no : leb (length bytes) most_bytes ≡ false = grind (arith, nat_tests, long) in
    rw no refl

-- where the encoding of parts that fit is one of an image, they are that image
pub parts_obey : (p r : Image) (bytes : List ℕ) → PartsFit p → bytes ≡ encoding p → Encodes r bytes → IsImage p
parts_obey p r bytes fit e encodes = subst IsImage (sym (same_encoding p r fit encodes.valid (sym e ∙ encodes.encoded))) encodes.valid

pub no_fault : (p : Image) (e : ImageError) → IsImageError e (reading (encoding p)) → IsImage p → IsImageError {Y = Image} e (Ok p)
no_fault p e h is = subst (IsImageError e) (is_read p is) h
