use Rattle.std.proofs.Common.{ap, sym, subst, ◌∙◌, arith}
use Rattle.std.specs.Prelude.{Option, IfSome, option_map}
use Rattle.rv_isa.specs.Table.{decode, HasRegisters}
use Rattle.rv_isa.specs.declared.Instr.{Instr}
use Rattle.wedge_base.specs.Images as images
use Rattle.image_form.specs.Rules.{IsImage}
use Rattle.ready_text.proofs.Fetching.{at_offset, fetch_registers}
use Rattle.ready_text.proofs.program.Program.fetch.Goals as goal

pub returns-clause-is : goal.returns-clause-is
returns-clause-is c =
    let v = c.self.invariant in
    let i = c.self.inside.image.now in
    let here = at_offset i c.args.pc c.self.inside.base c.self.inside.last c.self.inside.code.items _ v.valid c.ranges.pc.fits v.base v.last v.code c.if-offset-self.false in
    rw c.index.ensures (here ∙ ap (λ j. option_map decode (images.fetch j c.args.pc)) c.self.view_is)

pub returns-clause-registers : goal.returns-clause-registers
returns-clause-registers c =
    let law = c.instructions_are_those_in_range.ensures.registers in
    let image = subst IsImage c.self.view_is c.self.invariant.valid in
    subst (λ (o : Option (Option Instr)). IfSome o (λ f. IfSome f HasRegisters)) (sym (returns-clause-is c)) (fetch_registers c.args.self.now c.args.pc law image)
