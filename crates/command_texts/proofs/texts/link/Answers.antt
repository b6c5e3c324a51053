use Rattle.std.proofs.Common.{◌≡◌, ◌≤◌, ◌∙◌, length, arith}
use Rattle.std.proofs.lemmas.Result.{err_from_is_err_and}
use Rattle.cli_inputs.specs.declared.loading.FileKind.TheVariants as kind
use Rattle.cli_inputs.specs.Loading.{most_of}
use Rattle.command_texts.proofs.Links.{elf_unread, part_unread, elf_rejected, part_long, part_rejected, linked_text}
use Rattle.command_texts.proofs.texts.link.Goals as goal

pub returns-in_err-elf-clause-refused : goal.returns-in_err-elf-clause-refused
returns-in_err-elf-clause-refused g c =
    let p = err_from_is_err_and c.from_residual.result c.from_residual.ensures.1 in
    rw (p.1, p.2) (elf_unread c.args.elf.now c.args.part.now (g.F.Files.content c.args.files.now) (g.F.Files.faults c.args.files.now)
    (g.F.Files.faults c.read_file.new.files) c.in_err-elf.field-0.0 c.in_err-elf.ensures.refused)

pub returns-in_err-bytes-clause-refused : goal.returns-in_err-bytes-clause-refused
returns-in_err-bytes-clause-refused g c =
    let p = err_from_is_err_and c.from_residual-in_err-bytes.result c.from_residual-in_err-bytes.ensures.1 in
    let long : c.in_ok-elf.elf.len ≡ length c.in_ok-elf.elf.items = c.in_ok-elf.elf.ok.0 in
    let within : length c.in_ok-elf.elf.items ≤ most_of kind.Elf = omega (arith, c.in_ok-elf.ensures.within) in
    rw (p.1, p.2) (part_unread c.args.elf.now c.args.part.now (g.F.Files.content c.args.files.now) (g.F.Files.faults c.args.files.now)
    (g.F.Files.faults c.read_partition_file.new.files) (g.F.Files.faults c.read_file.new.files c.args.part.now) c.in_ok-elf.elf.items c.in_err-bytes.field-0.0
    (c.in_ok-elf.ensures.rises c.args.part.now) c.in_ok-elf.ensures.bytes within c.in_err-bytes.ensures.refused)

pub returns-in_err-program-clause-refused : goal.returns-in_err-program-clause-refused
returns-in_err-program-clause-refused g c =
    let p = err_from_is_err_and c.from_residual-in_err-program.result c.from_residual-in_err-program.ensures.1 in
    rw (p.1, p.2) (elf_rejected c.args.elf.now c.args.part.now (g.F.Files.content c.args.files.now) (g.F.Files.faults c.args.files.now)
    (g.F.Files.faults c.read_partition_file.new.files) c.as_slice.result.now c.in_err-program.field-0.0
    (λ b exposed. c.as_slice.ensures.value ∙ c.in_ok-elf.ensures.bytes b exposed) c.in_err-program.ensures.rejected)

pub returns-in_default-clause-refused : goal.returns-in_default-clause-refused
returns-in_default-clause-refused g c =
    let longer = rw c.in_default.is at c.in_ok-bytes.ensures.bytes in
    part_long c.args.elf.now c.args.part.now (g.F.Files.content c.args.files.now) (g.F.Files.faults c.args.files.now)
    (g.F.Files.faults c.read_partition_file.new.files) c.as_slice.result.now c.in_ok-program.program
    (λ b exposed. c.as_slice.ensures.value ∙ c.in_ok-elf.ensures.bytes b exposed) c.in_ok-program.ensures.accepted
    (λ b exposed. longer b (c.in_ok-elf.ensures.content c.args.part.now ∙ exposed))

pub returns-in_err-text-clause-refused : goal.returns-in_err-text-clause-refused
returns-in_err-text-clause-refused g c =
    let p = err_from_is_err_and c.from_residual-in_err-text.result c.from_residual-in_err-text.ensures.1 in
    let read = rw c.in-Some.is at c.in_ok-bytes.ensures.bytes in
    rw (p.1, p.2) (part_rejected c.args.elf.now c.args.part.now (g.F.Files.content c.args.files.now) (g.F.Files.faults c.args.files.now)
    (g.F.Files.faults c.read_partition_file.new.files) c.as_slice.result.now c.in_ok-program.program
    (λ b exposed. c.as_slice.ensures.value ∙ c.in_ok-elf.ensures.bytes b exposed) c.in_ok-program.ensures.accepted
    c.as_slice-2.result.now c.in_err-text.field-0.0
    (λ b exposed. c.as_slice-2.ensures.value ∙ read b (c.in_ok-elf.ensures.content c.args.part.now ∙ exposed)) c.in_err-text.ensures.rejected)

pub returns-clause-made : goal.returns-clause-made
returns-clause-made g c =
    let read = rw c.in-Some.is at c.in_ok-bytes.ensures.bytes in
    record {
      answer = record {
        first = c.as_slice.result.now;
        second = c.as_slice-2.result.now;
        first_is = λ b exposed. c.as_slice.ensures.value ∙ c.in_ok-elf.ensures.bytes b exposed;
        second_is = λ b exposed. c.as_slice-2.ensures.value ∙ read b (c.in_ok-elf.ensures.content c.args.part.now ∙ exposed);
        meant = linked_text c.as_slice.result.now c.as_slice-2.result.now c.in_ok-text.text.items c.in_ok-program.program c.in_ok-program.ensures.accepted c.in_ok-text.ensures.text;
      };
      image = record {
        program = c.in_ok-program.program;
        accepted = c.in_ok-program.ensures.accepted;
        keeps = c.in_ok-program.ensures.keeps;
        joined = c.in_ok-text.ensures.image;
      };
    }
