use Rattle.image_form.specs.View.{image_of}
use Rattle.image_form.proofs.Finished.{no_fault}
use Rattle.image_form.proofs.finishing.finish_image.Goals as goal

pub returns-in-Err-clause-only : goal.returns-in-Err-clause-only
returns-in-Err-clause-only c = no_fault (image_of c.args.parts) c.in-Err.error c.in-Err.ensures.exact
