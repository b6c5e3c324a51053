use Rattle.std.proofs.Common.{arith}
use Rattle.image_form.specs.View.{image_of}
use Rattle.image_form.proofs.ImageForm.{is_given, is_only}
use Rattle.image_form.proofs.reading.image_parts.Goals as goal

pub returns-clause-found : goal.returns-clause-found
returns-clause-found c = is_given image_of c.args.bytes.now c.all_parts.result (λ i. omega (arith, c.type_inv.bytes i)) c.all_parts.ensures

pub returns-clause-only : goal.returns-clause-only
returns-clause-only c = λ i encodes. is_only image_of c.args.bytes.now c.all_parts.result c.all_parts.ensures i encodes
