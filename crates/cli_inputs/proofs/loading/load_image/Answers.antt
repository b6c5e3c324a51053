use Rattle.std.proofs.lemmas.Result.{err_from_is_err_and}
use Rattle.cli_inputs.specs.Loading.{image_from_bytes}
use Rattle.cli_inputs.specs.declared.loading.FileKind.TheVariants as kind
use Rattle.cli_inputs.proofs.TooLong.{unread_by, long_image, no_image, no_image_trace, no_image_elf}
use Rattle.cli_inputs.proofs.loading.load_image.Goals as goal

pub returns-in_err-bytes-clause-refused : goal.returns-in_err-bytes-clause-refused
returns-in_err-bytes-clause-refused g c =
    let p = err_from_is_err_and c.from_residual.result c.from_residual.ensures.1 in
    rw (p.1, p.2) (unread_by image_from_bytes kind.Image c.args.name.now _ _ _ c.in_err-bytes.field-0.0 long_image no_image no_image_trace no_image_elf c.in_err-bytes.ensures.refused)
