use Rattle.std.proofs.Common.{◌≡◌, ◌≤◌, ◌∙◌, length, subst, arith}
use Rattle.std.proofs.lemmas.Result.{err_from_is_err_and}
use Rattle.cli_inputs.specs.declared.loading.FileKind.TheVariants as kind
use Rattle.cli_inputs.specs.Loading.{most_of, IsUnread}
use Rattle.cli_inputs.specs.Replaying.{trace_made}
use Rattle.command_texts.proofs.Replays.{first_unread, second_unread, both_read}
use Rattle.command_texts.proofs.texts.log.Goals as goal

pub returns-in_err-bytes-clause-refused : goal.returns-in_err-bytes-clause-refused
returns-in_err-bytes-clause-refused g c =
    let p = err_from_is_err_and c.from_residual.result c.from_residual.ensures.1 in
    rw (p.1, p.2) (first_unread trace_made c.args.image.now c.args.schedule.now (g.F.Files.content c.args.files.now) (g.F.Files.faults c.args.files.now)
    (g.F.Files.faults c.read_file.new.files) c.in_err-bytes.field-0.0 c.in_err-bytes.ensures.refused)

pub returns-in_err-names-clause-refused : goal.returns-in_err-names-clause-refused
returns-in_err-names-clause-refused g c =
    let p = err_from_is_err_and c.from_residual-in_err-names.result c.from_residual-in_err-names.ensures.1 in
    let long : c.in_ok-bytes.bytes.len ≡ length c.in_ok-bytes.bytes.items = c.in_ok-bytes.bytes.ok.0 in
    let within : length c.in_ok-bytes.bytes.items ≤ most_of kind.Image = omega (arith, c.in_ok-bytes.ensures.within) in
    let unread = subst (λ x. IsUnread kind.Schedule c.args.schedule.now x (g.F.Files.faults c.read_file.new.files c.args.schedule.now)
    (g.F.Files.faults c.read_file-2.new.files c.args.schedule.now) c.in_err-names.field-0.0) (c.in_ok-bytes.ensures.content c.args.schedule.now) c.in_err-names.ensures.refused in
    rw (p.1, p.2) (second_unread trace_made c.args.image.now c.args.schedule.now (g.F.Files.content c.args.files.now) (g.F.Files.faults c.args.files.now)
    (g.F.Files.faults c.read_file-2.new.files) (g.F.Files.faults c.read_file.new.files c.args.schedule.now) c.in_ok-bytes.bytes.items c.in_err-names.field-0.0
    (c.in_ok-bytes.ensures.rises c.args.schedule.now) c.in_ok-bytes.ensures.bytes within unread)

pub returns-in_err-text-clause-refused : goal.returns-in_err-text-clause-refused
returns-in_err-text-clause-refused g c =
    let p = err_from_is_err_and c.from_residual-in_err-text.result c.from_residual-in_err-text.ensures.1 in
    let within : length c.as_slice.result.now ≤ most_of kind.Image = omega (arith, c.as_slice.ensures.len, c.in_ok-bytes.ensures.within) in
    let within_names : length c.as_slice-2.result.now ≤ most_of kind.Schedule = omega (arith, c.as_slice-2.ensures.len, c.in_ok-names.ensures.within) in
    rw (p.1, p.2) (both_read trace_made c.args.image.now c.args.schedule.now (g.F.Files.content c.args.files.now) (g.F.Files.faults c.args.files.now)
    (g.F.Files.faults c.read_file-2.new.files) c.as_slice.result.now c.as_slice-2.result.now c.in_err-text.field-0.0
    (λ b exposed. c.as_slice.ensures.value ∙ c.in_ok-bytes.ensures.bytes b exposed)
    (λ b exposed. c.as_slice-2.ensures.value ∙ c.in_ok-names.ensures.bytes b (c.in_ok-bytes.ensures.content c.args.schedule.now ∙ exposed))
    within within_names c.in_err-text.ensures.rejected)
