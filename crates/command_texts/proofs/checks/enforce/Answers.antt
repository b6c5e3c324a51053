use Rattle.std.proofs.Common.{◌≤◌, ◌∙◌, length, arith}
use Rattle.std.proofs.lemmas.Result.{err_from_is_err_and}
use Rattle.cli_inputs.specs.declared.loading.FileKind.TheVariants as kind
use Rattle.cli_inputs.specs.Loading.{most_of}
use Rattle.cli_inputs.specs.Enforcing.{enforced}
use Rattle.command_texts.proofs.CheckCauses.{three_enforced, unread_enforced}
use Rattle.command_texts.proofs.checks.enforce.Goals as goal

pub returns-in_err-read-clause-refused : goal.returns-in_err-read-clause-refused
returns-in_err-read-clause-refused g c =
    let p = err_from_is_err_and c.from_residual.result c.from_residual.ensures.1 in
    rw (p.1, p.2) (unread_enforced c.args.image.now c.args.schedule.now c.args.trace.now (g.F.Files.content c.args.files.now) (g.F.Files.faults c.args.files.now)
    (g.F.Files.faults c.read_three.new.files) c.in_err-read.field-0.0 (c.in_err-read.ensures.refused enforced))

pub returns-in_err-text-clause-refused : goal.returns-in_err-text-clause-refused
returns-in_err-text-clause-refused g c =
    let p = err_from_is_err_and c.from_residual-in_err-text.result c.from_residual-in_err-text.ensures.1 in
    let within : length c.as_slice.result.now ≤ most_of kind.Image = omega (arith, c.as_slice.ensures.len, c.in_ok-read.ensures.within.0) in
    let within_names : length c.as_slice-2.result.now ≤ most_of kind.Schedule = omega (arith, c.as_slice-2.ensures.len, c.in_ok-read.ensures.within.1) in
    let within_records : length c.as_slice-3.result.now ≤ most_of kind.Trace = omega (arith, c.as_slice-3.ensures.len, c.in_ok-read.ensures.within.2) in
    rw (p.1, p.2) (three_enforced c.args.image.now c.args.schedule.now c.args.trace.now (g.F.Files.content c.args.files.now) (g.F.Files.faults c.args.files.now)
    (g.F.Files.faults c.read_three.new.files) c.as_slice.result.now (λ b exposed. c.as_slice.ensures.value ∙ c.in_ok-read.ensures.image b exposed) within
    c.as_slice-2.result.now (λ b exposed. c.as_slice-2.ensures.value ∙ c.in_ok-read.ensures.schedule b exposed) within_names
    c.as_slice-3.result.now (λ b exposed. c.as_slice-3.ensures.value ∙ c.in_ok-read.ensures.trace b exposed) within_records
    c.in_err-text.field-0.0 c.in_err-text.ensures.rejected)
