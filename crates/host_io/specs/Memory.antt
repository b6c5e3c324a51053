-- Files and a sink that lie in memory.
use Rattle.std.specs.Prelude.{◌≡◌, ℕ, ◌+◌, ◌-◌, ◌^◌, ◌≤◌, ◌<◌, ◌==◌, nat_lt, min, Bool, true, ◌&&◌, if◌then◌else◌, List, [], ◌∷◌, ◌++◌, length, take, find, Option, Some, option_map, is_none, Result, Ok, Err}
use Rattle.std.specs.List.{list_any}
use Rattle.std.specs.Str.{bytes_eq}
use Rattle.std.specs.String.{string_bytes}
use Rattle.host_io.specs.declared.errors.Failed.{Failed}
use Rattle.host_io.specs.declared.mem_file.MemFile.{MemFile}

-- what is known of files in memory: the files, the numbers of the calls that are to fail, from 1,
-- how many calls there have been, and how many of them have failed
pub record MemoryFiles : Type 0 where
  pub files : List MemFile
  pub fails : List ℕ
  pub calls : ℕ
  pub faults : ℕ

-- the bytes of the file of a name, if one has it
abbrev pub bytes_named : List MemFile → List ℕ → Option (List ℕ)
bytes_named files name = option_map (λ f. f.bytes.items) (find (λ f. bytes_eq (string_bytes f.name) name) files)

-- calls are numbered up to 2^64 - 1; none after that is to fail
abbrev pub last_call : ℕ
last_call = 2 ^ 64 - 1

-- whether the call after so many is to fail
abbrev pub is_due : List ℕ → ℕ → Bool
is_due fails calls = nat_lt calls last_call && list_any (λ number. number == calls + 1) fails

-- whether no two files have one name
abbrev pub names_differ : List MemFile → Bool
names_differ [] = true
names_differ (f ∷ fs) = is_none (bytes_named fs (string_bytes f.name)) && names_differ fs

-- the file exposes its bytes
abbrev pub IsExposed : List MemFile → MemFile → Type 0
IsExposed files f = bytes_named files (string_bytes f.name) ≡ Some f.bytes.items

-- files in memory after a call
abbrev pub after_read : MemoryFiles → Bool → MemoryFiles
after_read m failed = record m { calls = min (m.calls + 1) last_call; faults = if failed then m.faults + 1 else m.faults }

-- what is known of a sink in memory: the bytes that it has taken, for how many it has room in all,
-- and of its calls the same as of files
pub record MemorySink : Type 0 where
  pub bytes : List ℕ
  pub room : ℕ
  pub fails : List ℕ
  pub calls : ℕ
  pub faults : ℕ

-- how many bytes of a piece fit
abbrev pub fitting : MemorySink → List ℕ → ℕ
fitting s piece = min (length piece) (s.room - length s.bytes)

-- whether no more bytes fit, and some are to be taken
abbrev pub IsFull : MemorySink → List ℕ → Type 0
IsFull s piece = (s.room ≤ length s.bytes) × (0 < length piece)

-- a sink in memory after a call: it took the bytes that fit, or failed
abbrev pub after_write : MemorySink → List ℕ → Result ℕ Failed → MemorySink
after_write s piece (Ok n) = record s { bytes = s.bytes ++ take (fitting s piece) piece; calls = min (s.calls + 1) last_call }
after_write s piece (Err e) = record s { calls = min (s.calls + 1) last_call; faults = s.faults + 1 }
