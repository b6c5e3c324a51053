use Rattle.std.proofs.Common.{◌≡◌, Result, Ok, Err, refl, sym, subst, ◌∙◌}
use Rattle.wedge_base.specs.Images.{Image}
use Rattle.image_form.specs.declared.fault.Fault.{Fault}
use Rattle.image_form.specs.declared.fault.ImageError.{ImageError}
use Rattle.image_form.specs.Rules.{IsImage}
use Rattle.image_form.specs.Reading.{IsImageError}
use Rattle.image_form.specs.View.{image_of}
use Rattle.workload.proofs.Valid.{is_image}
use Rattle.workload.proofs.generating.generate.Goals as goal

-- no image is a fault
not_fault : (i : Image) (f : Fault) (r : Result Image Fault) → r ≡ Ok i → r ≡ Err f → ⊥
not_fault i f r is e = cc

pub unreachable-requires : goal.unreachable-requires
unreachable-requires c =
    let image : Image = image_of c.in_ok-parts.field-0 in
    let valid : IsImage image = subst IsImage (sym c.in_ok-parts.ensures) (is_image c.args.workers c.requires.few) in
    not_fault image c.in-Err-Fault.field-0-0 (Ok image) refl
    (subst (λ (e : ImageError). IsImageError {Y = Image} e (Ok image)) c.in-Err-Fault.field-0-is (c.in-Err-Fault.ensures.only valid))

pub returns-in-Ok : goal.returns-in-Ok
returns-in-Ok c = c.in-Ok.ensures.same ∙ c.in_ok-parts.ensures
