use Rattle.std.proofs.Common.{◌≡◌, ◌+◌, ◌≤◌, length, drop, subst, arith}
use Rattle.elf_in.specs.Program.{size_of}
use Rattle.elf_in.proofs.LoadBytes.{length-text}
use Rattle.elf_in.proofs.Sizes.{range_bytes, size_is, range_bytes-next, range_bytes-end, none_left}
use Rattle.elf_in.proofs.program.ElfProgram.room_left.Goals as goal

pub returns-in_err-left : goal.returns-in_err-left
returns-in_err-left c =
    none_left c.args.room (size_of c.args.self.now) c.from_residual.result c.from_residual.ensures
    (omega (arith, c.in_err-left.ensures, c.memory_len.ensures, length-text c.self.inside.file.now c.self.inside.text, size_is c.args.self.now c.self.inside c.self.view_is))

pub loop-header-init : goal.loop-header-init
loop-header-init c =
    omega (arith, c.in_ok-left.ensures, c.memory_len.ensures, length-text c.self.inside.file.now c.self.inside.text, size_is c.args.self.now c.self.inside c.self.view_is)

pub loop-header-preserved : goal.loop-header-preserved
loop-header-preserved c =
    let file = c.self.inside.file.now in
    let hs = c.self.inside.data.items in
    let i = c.loop-header.header-index in
    let more : range_bytes file (drop i hs) ≡ c.range_len.result + range_bytes file (drop (i + 1) hs) = range_bytes-next file hs _ i _ c.range_len.result c.deref-header-items.ensures.value c.loop-header-test.true c.range_len.ensures in
    omega (arith, more, c.loop-header.invariant, c.in_ok-left-2.ensures)

pub returns-in_err-left-2 : goal.returns-in_err-left-2
returns-in_err-left-2 c =
    let file = c.self.inside.file.now in
    let hs = c.self.inside.data.items in
    let i = c.loop-header.header-index in
    let more : range_bytes file (drop i hs) ≡ c.range_len.result + range_bytes file (drop (i + 1) hs) = range_bytes-next file hs _ i _ c.range_len.result c.deref-header-items.ensures.value c.loop-header-test.true c.range_len.ensures in
    none_left c.args.room (size_of c.args.self.now) c.from_residual-in_err-left-2.result c.from_residual-in_err-left-2.ensures
    (omega (arith, more, c.loop-header.invariant, c.in_err-left-2.ensures))

pub returns : goal.returns
returns c =
    let hs = c.self.inside.data.items in
    let i = c.loop-header.header-index in
    let over : length hs ≤ i = subst (λ xs. length xs ≤ i) c.deref-header-items.ensures.value c.loop-header-test.false in
    omega (arith, c.loop-header.invariant, range_bytes-end c.self.inside.file.now hs i over)
