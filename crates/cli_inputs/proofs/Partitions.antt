-- From the answer of reading a partition to what is meant by its bytes.
use Rattle.std.proofs.Common.{◌≡◌, ℕ, ◌≤◌, Bool, true, false, List, length, refl, ap}
use Rattle.std.specs.Prelude.{Some, None, Result, Ok, Err, nat_lt}
use Rattle.std.specs.Str.{IsUtf8, is_utf8}
use Rattle.std.proofs.lemmas.Str.{IsUtf8-from_is_utf8, is_utf8-from_IsUtf8}
use Rattle.std.proofs.lemmas.Bool.{le-ltb}
use Rattle.wedge_base.specs.Images.{Image}
use Rattle.part_toml.specs.declared.fault.PartFault.{PartFault}
use Rattle.part_toml.specs.declared.fault.PartFault.TheVariants as fault
use Rattle.part_toml.specs.Faults.{Refusal as Meant}
use Rattle.part_toml.specs.Faults as meant
use Rattle.part_toml.specs.Partition.{partition, Reports, refusal_in}
use Rattle.cli_inputs.specs.declared.refusal.Refusal.TheVariants as refusal
use Rattle.cli_inputs.specs.declared.refusal.PartRefusal.TheVariants as part
use Rattle.cli_inputs.specs.Refusals.{as_refused, part_refusal_of}
use Rattle.cli_inputs.specs.Loading.{built_of, by_partition, most_partition, IsRefusalOf}

pub not_utf8 : (bytes : List ℕ) (t : Bool) → is_utf8 bytes ≡ t → (IsUtf8 bytes → ⊥) → is_utf8 bytes ≡ false
not_utf8 bytes true e h = absurd (h (IsUtf8-from_is_utf8 bytes e))
not_utf8 bytes false e h = e

-- bytes that are no UTF-8 are no TOML document
pub built_not_utf8 : (bytes : List ℕ) → length bytes ≤ most_partition → (IsUtf8 bytes → ⊥) → built_of bytes ≡ Err (refusal.Partition part.Toml)
unfolding built_of
built_not_utf8 bytes le h =
    let short : nat_lt most_partition (length bytes) ≡ false = le-ltb most_partition (length bytes) le in
    rw (short, not_utf8 bytes _ refl h) refl

-- and of those that are, what the partition is decides
pub built_utf8 : (bytes : List ℕ) → length bytes ≤ most_partition → IsUtf8 bytes → built_of bytes ≡ by_partition (partition bytes)
unfolding built_of
built_utf8 bytes le h =
    let short : nat_lt most_partition (length bytes) ≡ false = le-ltb most_partition (length bytes) le in
    rw (short, is_utf8-from_IsUtf8 bytes h) refl

some_err : (m : Result Image Meant) (r : Meant) → refusal_in m ≡ Some r → by_partition m ≡ Err (refusal.Partition (as_refused r))
some_err (Ok i) r e = let f : None ≡ Some r = e in absurd cc
some_err (Err q) r e = let is : q ≡ r = let f : Some q ≡ Some r = e in cc in ap (λ x. Err (refusal.Partition (as_refused x))) is

-- a fault that tells what is refused
pub exposed_by : (m : Result Image Meant) (f : PartFault) → Reports f (refusal_in m) → IsRefusalOf (by_partition m) (part_refusal_of f)
exposed_by m fault.NoMemory h = tt
exposed_by m fault.Toml h = some_err m meant.Toml h
exposed_by m (fault.Key name) h = some_err m (meant.Key name) h
exposed_by m (fault.Kind name) h = some_err m (meant.Kind name) h
exposed_by m (fault.Asm line why) h = some_err m (meant.Asm line why) h
exposed_by m (fault.Image at why) h = some_err m (meant.Image at why) h
