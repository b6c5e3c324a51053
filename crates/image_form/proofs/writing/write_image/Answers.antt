use Rattle.image_form.specs.View.{lent_image}
use Rattle.image_form.proofs.Written.{read_again, encodes_alone}
use Rattle.image_form.proofs.writing.write_image.Goals as goal

pub returns-clause-again : goal.returns-clause-again
returns-clause-again c = read_again (lent_image c.lend.result) c.args.image.now c.lend.ensures.is c.lend.ensures.valid c.encoding.result c.encoding.ensures

pub returns-clause-alone : goal.returns-clause-alone
returns-clause-alone c = λ i. encodes_alone (lent_image c.lend.result) c.args.image.now c.lend.ensures.is c.lend.ensures.valid i c.encoding.result c.encoding.ensures
