use Rattle.std.proofs.Common.{◌≡◌, ◌≤◌, ◌∙◌, length, subst, arith}
use Rattle.std.proofs.lemmas.Result.{err_from_is_err_and}
use Rattle.cli_inputs.specs.declared.loading.FileKind.TheVariants as kind
use Rattle.cli_inputs.specs.Loading.{most_of, IsUnread}
use Rattle.command_texts.proofs.CheckCauses.{first_unread, second_unread, third_unread}
use Rattle.command_texts.proofs.checks.read_three.Goals as goal

pub returns-in_err-image-clause-refused : goal.returns-in_err-image-clause-refused
returns-in_err-image-clause-refused g c =
    let p = err_from_is_err_and c.from_residual.result c.from_residual.ensures.1 in
    rw (p.1, p.2) (first_unread c.args.image.now c.args.schedule.now c.args.trace.now (g.F.Files.content c.args.files.now) (g.F.Files.faults c.args.files.now)
    (g.F.Files.faults c.read_file.new.files) c.in_err-image.field-0.0 c.in_err-image.ensures.refused)

pub returns-in_err-schedule-clause-refused : goal.returns-in_err-schedule-clause-refused
returns-in_err-schedule-clause-refused g c =
    let p = err_from_is_err_and c.from_residual-in_err-schedule.result c.from_residual-in_err-schedule.ensures.1 in
    let long : c.in_ok-image.image.len ≡ length c.in_ok-image.image.items = c.in_ok-image.image.ok.0 in
    let within : length c.in_ok-image.image.items ≤ most_of kind.Image = omega (arith, c.in_ok-image.ensures.within) in
    let unread = subst (λ x. IsUnread kind.Schedule c.args.schedule.now x (g.F.Files.faults c.read_file.new.files c.args.schedule.now)
    (g.F.Files.faults c.read_file-2.new.files c.args.schedule.now) c.in_err-schedule.field-0.0) (c.in_ok-image.ensures.content c.args.schedule.now)
    c.in_err-schedule.ensures.refused in
    rw (p.1, p.2) (second_unread c.args.image.now c.args.schedule.now c.args.trace.now (g.F.Files.content c.args.files.now) (g.F.Files.faults c.args.files.now)
    (g.F.Files.faults c.read_file-2.new.files) c.in_ok-image.image.items c.in_ok-image.ensures.bytes within
    (g.F.Files.faults c.read_file.new.files c.args.schedule.now) c.in_err-schedule.field-0.0 (c.in_ok-image.ensures.rises c.args.schedule.now) unread)

pub returns-in_err-trace-clause-refused : goal.returns-in_err-trace-clause-refused
returns-in_err-trace-clause-refused g c =
    let p = err_from_is_err_and c.from_residual-in_err-trace.result c.from_residual-in_err-trace.ensures.1 in
    let long : c.in_ok-image.image.len ≡ length c.in_ok-image.image.items = c.in_ok-image.image.ok.0 in
    let within : length c.in_ok-image.image.items ≤ most_of kind.Image = omega (arith, c.in_ok-image.ensures.within) in
    let long_names : c.in_ok-schedule.schedule.len ≡ length c.in_ok-schedule.schedule.items = c.in_ok-schedule.schedule.ok.0 in
    let within_names : length c.in_ok-schedule.schedule.items ≤ most_of kind.Schedule = omega (arith, c.in_ok-schedule.ensures.within) in
    let unread = subst (λ x. IsUnread kind.Trace c.args.trace.now x (g.F.Files.faults c.read_file-2.new.files c.args.trace.now)
    (g.F.Files.faults c.read_file-3.new.files c.args.trace.now) c.in_err-trace.field-0.0)
    (c.in_ok-schedule.ensures.content c.args.trace.now ∙ c.in_ok-image.ensures.content c.args.trace.now) c.in_err-trace.ensures.refused in
    let rose = c.in_ok-image.ensures.rises c.args.trace.now in
    let rose_on = c.in_ok-schedule.ensures.rises c.args.trace.now in
    rw (p.1, p.2) (third_unread c.args.image.now c.args.schedule.now c.args.trace.now (g.F.Files.content c.args.files.now) (g.F.Files.faults c.args.files.now)
    (g.F.Files.faults c.read_file-3.new.files) c.in_ok-image.image.items c.in_ok-image.ensures.bytes within c.in_ok-schedule.schedule.items
    (λ b exposed. c.in_ok-schedule.ensures.bytes b (c.in_ok-image.ensures.content c.args.schedule.now ∙ exposed)) within_names
    (g.F.Files.faults c.read_file-2.new.files c.args.trace.now) c.in_err-trace.field-0.0 (omega (arith, rose, rose_on)) unread)
