use Rattle.std.proofs.Common.{sym, subst}
use Rattle.elf_in.specs.Reading.{elf_program}
use Rattle.cli_inputs.specs.Linking.{program_by}
use Rattle.cli_inputs.specs.Replaying.{IsRefusalIn}
use Rattle.cli_inputs.proofs.Joined.{rejected_by}
use Rattle.cli_inputs.proofs.linking.program_of.Goals as goal

pub returns-in-Err-clause-rejected : goal.returns-in-Err-clause-rejected
returns-in-Err-clause-rejected c =
    let meant = rejected_by (elf_program c.args.elf.now) c.in-Err.error c.in-Err.ensures.exact in
    subst (λ r. IsRefusalIn (program_by (elf_program c.args.elf.now)) r) (sym c.refused_elf.ensures) meant
