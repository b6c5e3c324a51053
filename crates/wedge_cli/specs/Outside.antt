-- What lies outside the program: files that are read, and two sinks that are written.
use Rattle.std.specs.Prelude.{◌≡◌, ℕ, ◌<◌, ◌⊎◌, List, length, take, Option}
use Rattle.host_io.specs.Exposed.{grown_by}

-- a sink: the bytes that it has taken, where they are exposed, and its count of faults
pub record Device : Type 0 where
  pub written : Option (List ℕ)
  pub faults : ℕ

-- the output and the error stream
pub record Sinks : Type 0 where
  pub out : Device
  pub err : Device

-- the exposed bytes of the file of a name, the count of failed reads of a name, and the sinks
pub record Outside : Type 0 where
  pub files : List ℕ → Option (List ℕ)
  pub reads : List ℕ → ℕ
  pub sinks : Sinks

abbrev pub device : Option (List ℕ) → ℕ → Device
device written faults = record { written = written; faults = faults }

abbrev pub sinks : Option (List ℕ) → ℕ → Option (List ℕ) → ℕ → Sinks
sinks out out_faults err err_faults = record { out = device out out_faults; err = device err err_faults }

abbrev pub outside : (List ℕ → Option (List ℕ)) → (List ℕ → ℕ) → Sinks → Outside
outside files reads sinks = record { files = files; reads = reads; sinks = sinks }

-- a sink took these bytes without a fault
abbrev pub Takes : List ℕ → Device → Device → Type 0
Takes bytes before after = (after.written ≡ grown_by before.written bytes) × (after.faults ≡ before.faults)

-- its count of faults rose
abbrev pub Rises : Device → Device → Type 0
Rises before after = before.faults < after.faults

-- it took a prefix of these bytes, not all of them, and failed
pub record IsFailedWrite (bytes : List ℕ) (before after : Device) : Type 0 where
  pub rises : Rises before after
  pub part : (n : ℕ) × (n < length bytes) × (after.written ≡ grown_by before.written (take n bytes))

-- it was given these bytes once, and took them or failed
abbrev pub Tried : List ℕ → Device → Device → Type 0
Tried bytes before after = Takes bytes before after ⊎ IsFailedWrite bytes before after
