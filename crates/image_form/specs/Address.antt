-- What an image has at an address.
use Rattle.std.specs.Prelude.{ℕ, List, [], ◌∷◌, Option, Some, None, nat_le, max, if◌then◌else◌}
use Rattle.wedge_base.specs.Images.{Image, begins_at}
use Rattle.image_form.specs.Rules.{addresses}

-- the address, if a procedure begins there
abbrev pub proc_at : Image → ℕ → Option ℕ
proc_at i address = if begins_at i.procedures address then Some address else None

-- the greater of two numbers, if the second is not above an address, and else the first
abbrev pub better : ℕ → ℕ → ℕ → ℕ
better best address a = if nat_le a address then max best a else best

-- the greatest of a number and of those numbers that are not above an address
abbrev pub greatest_from : ℕ → ℕ → List ℕ → ℕ
greatest_from best address [] = best
greatest_from best address (a ∷ rest) = greatest_from (better best address a) address rest

-- the greatest address of a procedure that is not above an address
abbrev pub proc_of : Image → ℕ → ℕ
proc_of i address = greatest_from 0 address (addresses i.procedures)
