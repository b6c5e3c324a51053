use Rattle.std.proofs.Common.{◌≡◌, take, filter}
use Rattle.elf_in.specs.Headers.{is_data}
use Rattle.elf_in.proofs.loads.unsorted_data.Given as goal

abbrev pub invariant-loop-header : goal.invariant-loop-header
invariant-loop-header l = l.data.items ≡ filter is_data (take l.header-index l.headers)
