-- Buffers that are read, and the paths in them, in the two words for each.
use Rattle.std.proofs.Common.{◌≡◌, ℕ, Bool, true, false, [], refl, ap, ◌∙◌}
use Rattle.std.specs.Prelude.{Option, Some, None, is_some, option_and_then, not, ◌&&◌, ◌||◌, ◌==◌, nat_le, if◌then◌else◌}
use Rattle.wedge_base.specs.Images.{Image, in_text}
use Rattle.wedge_base.specs.Memory.{range_at}
use Rattle.wedge_base.specs.Paths.{resolve}
use Rattle.wedge_base.specs.declared.image.MemoryRange.{MemoryRange}
use Rattle.machine.specs.Actors.{ActorState}
use Rattle.machine.specs.Calls.{path_in}
use Rattle.machine.specs.Accesses.{fits_read, buffer, buffer_in}
use Rattle.run_laws.specs.Requests.{bytes_in_range, buffer_bytes, path_at}

by_range : (i : Image) (pointer n : ℕ) (t u : Bool) (r : Option MemoryRange)
    → (if not t then None else if u then Some [] else bytes_in_range i pointer n r) ≡ (if t && (u || is_some r || in_text i pointer n) then Some (if u then [] else buffer_in i pointer n r) else None)
by_range i pointer n false u r = refl
by_range i pointer n true true r = refl
by_range i pointer n true false (Some r) = refl
by_range i pointer n true false None = refl

pub buffer_is : (i : Image) (a : ActorState) (pointer n : ℕ) → buffer_bytes i a pointer n ≡ (if fits_read i a pointer n then Some (buffer i a pointer n) else None)
buffer_is i a pointer n = by_range i pointer n (nat_le n 256) (n == 0) (range_at a.memory.ranges pointer n)

pub path_is : (i : Image) (a : ActorState) (pointer n : ℕ) → path_at i a pointer n ≡ path_in i a pointer n
path_is i a pointer n = ap (option_and_then (resolve a.sheet.root)) (buffer_is i a pointer n) ∙ by_test (fits_read i a pointer n)
  where
    by_test : (t : Bool) → option_and_then (resolve a.sheet.root) (if t then Some (buffer i a pointer n) else None) ≡ (if t then resolve a.sheet.root (buffer i a pointer n) else None)
    by_test true = refl
    by_test false = refl
