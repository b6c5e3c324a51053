-- Why a command that runs nothing makes no text.
use Rattle.std.specs.Prelude.{◌≡◌, ℕ, ◌⊎◌, ◌≤◌, List, length, Option, Some, Result, Err}
use Rattle.host_io.specs.Exposed.{WhereExposed}
use Rattle.cli_inputs.specs.declared.refusal.Refusal.{Refusal}
use Rattle.cli_inputs.specs.declared.refusal.Refusal.TheVariants as refusal
use Rattle.cli_inputs.specs.declared.loading.FileKind.TheVariants as kind
use Rattle.cli_inputs.specs.Loading.{image_from_bytes, built_of, most_of, IsReadFault, IsRefusedBy}
use Rattle.cli_inputs.specs.Replaying.{Making, report_made, trace_made, text_of_replay}
use Rattle.cli_inputs.specs.Enforcing.{Check, emulated, enforced, text_of_check}
use Rattle.cli_inputs.specs.Linking.{link_text}
use Rattle.cli_inputs.specs.Traces.{IsTraceRefused, IsQueryRefused}
use Rattle.cli_inputs.specs.Words.{Asked, Run, Show, Build, Link, Replay, Log, Emulate, Enforce, Derive, Analyze, Gen}
use Rattle.elf_in.specs.declared.fault.Fault.{Fault as ElfFault}
use Rattle.elf_in.specs.Reading.{elf_program as elf_reading}

-- a read of one of the two files failed; where it is the second, the first is not too long
abbrev pub IsReplayFault : List ℕ → List ℕ → (List ℕ → Option (List ℕ)) → (List ℕ → ℕ) → (List ℕ → ℕ) → List ℕ → Type 0
IsReplayFault image schedule files before after file =
    IsReadFault image (before image) (after image) file
    ⊎ (IsReadFault schedule (before schedule) (after schedule) file
    × WhereExposed (files image) (λ bytes. length bytes ≤ most_of kind.Image))

-- where both files are exposed, that is the answer
abbrev pub IsReplayAnswer : Making → List ℕ → List ℕ → (List ℕ → Option (List ℕ)) → Result (List ℕ) Refusal → Type 0
IsReplayAnswer make image schedule files answer =
    (bytes names : List ℕ) → files image ≡ Some bytes → files schedule ≡ Some names → text_of_replay make bytes names ≡ answer

-- why there is no replay
abbrev pub IsReplayRefused : Making → List ℕ → List ℕ → (List ℕ → Option (List ℕ)) → (List ℕ → ℕ) → (List ℕ → ℕ) → Refusal → Type 0
IsReplayRefused make image schedule files before after refusal.NoMemory = Unit {0}
IsReplayRefused make image schedule files before after (refusal.Read file) = IsReplayFault image schedule files before after file
IsReplayRefused make image schedule files before after (refusal.Image fault) =
    IsReplayAnswer make image schedule files (Err (refusal.Image fault)) × WhereExposed (files image) (λ bytes. image_from_bytes bytes ≡ Err (refusal.Image fault))
IsReplayRefused make image schedule files before after (refusal.Partition p) = ⊥
IsReplayRefused make image schedule files before after (refusal.Schedule s) = IsReplayAnswer make image schedule files (Err (refusal.Schedule s))
IsReplayRefused make image schedule files before after (refusal.Trace fault) = ⊥
IsReplayRefused make image schedule files before after (refusal.Elf fault) = ⊥
IsReplayRefused make image schedule files before after (refusal.NoSuchName item) = ⊥
IsReplayRefused make image schedule files before after (refusal.Violation v) = ⊥

-- a read of one of the two files failed; where it is the second, the first is not too long
abbrev pub IsLinkFault : List ℕ → List ℕ → (List ℕ → Option (List ℕ)) → (List ℕ → ℕ) → (List ℕ → ℕ) → List ℕ → Type 0
IsLinkFault elf part files before after file =
    IsReadFault elf (before elf) (after elf) file
    ⊎ (IsReadFault part (before part) (after part) file × WhereExposed (files elf) (λ bytes. length bytes ≤ most_of kind.Elf))

-- where both files are exposed, that is the answer
abbrev pub IsLinkAnswer : List ℕ → List ℕ → (List ℕ → Option (List ℕ)) → Result (List ℕ) Refusal → Type 0
IsLinkAnswer elf part files answer =
    (bytes text : List ℕ) → files elf ≡ Some bytes → files part ≡ Some text → link_text bytes text ≡ answer

-- the ELF file has this fault first
abbrev pub IsElfFault : Option (List ℕ) → ElfFault → Type 0
IsElfFault content fault = WhereExposed content (λ bytes. elf_reading bytes ≡ Err fault)

-- why there is no image of an ELF file and a partition
abbrev pub IsLinkRefused : List ℕ → List ℕ → (List ℕ → Option (List ℕ)) → (List ℕ → ℕ) → (List ℕ → ℕ) → Refusal → Type 0
IsLinkRefused elf part files before after refusal.NoMemory = Unit {0}
IsLinkRefused elf part files before after (refusal.Read file) = IsLinkFault elf part files before after file
IsLinkRefused elf part files before after (refusal.Image fault) = IsLinkAnswer elf part files (Err (refusal.Image fault))
IsLinkRefused elf part files before after (refusal.Partition p) = IsLinkAnswer elf part files (Err (refusal.Partition p))
IsLinkRefused elf part files before after (refusal.Schedule s) = ⊥
IsLinkRefused elf part files before after (refusal.Trace fault) = ⊥
IsLinkRefused elf part files before after (refusal.Elf fault) =
    IsLinkAnswer elf part files (Err (refusal.Elf fault)) × IsElfFault (files elf) fault
IsLinkRefused elf part files before after (refusal.NoSuchName item) = ⊥
IsLinkRefused elf part files before after (refusal.Violation v) = ⊥

-- a read of one of three files failed; those before it are not too long
abbrev pub IsThirdFault :
    List ℕ → List ℕ → List ℕ → (List ℕ → Option (List ℕ)) → (List ℕ → ℕ) → (List ℕ → ℕ) → List ℕ → Type 0
IsThirdFault image schedule trace files before after file =
    IsReadFault trace (before trace) (after trace) file
    × WhereExposed (files image) (λ bytes. length bytes ≤ most_of kind.Image)
    × WhereExposed (files schedule) (λ bytes. length bytes ≤ most_of kind.Schedule)

abbrev pub IsThreeFault :
    List ℕ → List ℕ → List ℕ → (List ℕ → Option (List ℕ)) → (List ℕ → ℕ) → (List ℕ → ℕ) → List ℕ → Type 0
IsThreeFault image schedule trace files before after file =
    IsReplayFault image schedule files before after file
    ⊎ IsThirdFault image schedule trace files before after file

-- where the three files are exposed, that is the answer
abbrev pub IsCheckAnswer :
    Check → List ℕ → List ℕ → List ℕ → (List ℕ → Option (List ℕ)) → Result (List ℕ) Refusal → Type 0
IsCheckAnswer check image schedule trace files answer =
    (bytes names records : List ℕ) → files image ≡ Some bytes → files schedule ≡ Some names
    → files trace ≡ Some records → text_of_check check bytes names records ≡ answer

-- why there is no replay that is checked
abbrev pub IsCheckRefused :
    Check → List ℕ → List ℕ → List ℕ → (List ℕ → Option (List ℕ)) → (List ℕ → ℕ) → (List ℕ → ℕ) → Refusal → Type 0
IsCheckRefused check image schedule trace files before after refusal.NoMemory = Unit {0}
IsCheckRefused check image schedule trace files before after (refusal.Read file) =
    IsThreeFault image schedule trace files before after file
IsCheckRefused check image schedule trace files before after (refusal.Image fault) =
    IsCheckAnswer check image schedule trace files (Err (refusal.Image fault))
    × WhereExposed (files image) (λ bytes. image_from_bytes bytes ≡ Err (refusal.Image fault))
IsCheckRefused check image schedule trace files before after (refusal.Partition p) = ⊥
IsCheckRefused check image schedule trace files before after (refusal.Schedule s) =
    IsCheckAnswer check image schedule trace files (Err (refusal.Schedule s))
IsCheckRefused check image schedule trace files before after (refusal.Trace fault) =
    IsCheckAnswer check image schedule trace files (Err (refusal.Trace fault))
IsCheckRefused check image schedule trace files before after (refusal.Elf fault) = ⊥
IsCheckRefused check image schedule trace files before after (refusal.NoSuchName item) = ⊥
IsCheckRefused check image schedule trace files before after (refusal.Violation v) = ⊥

-- and none that is enforced
abbrev pub IsEnforceRefused :
    List ℕ → List ℕ → List ℕ → (List ℕ → Option (List ℕ)) → (List ℕ → ℕ) → (List ℕ → ℕ) → Refusal → Type 0
IsEnforceRefused image schedule trace files before after (refusal.Violation v) =
    IsCheckAnswer enforced image schedule trace files (Err (refusal.Violation v))
IsEnforceRefused image schedule trace files before after other =
    IsCheckRefused enforced image schedule trace files before after other

-- why there is no text of a command, of the files and of their counts of failed reads before and after
abbrev pub IsTextRefused :
    Asked → (List ℕ → Option (List ℕ)) → (List ℕ → ℕ) → (List ℕ → ℕ) → Refusal → Type 0
IsTextRefused (Run image flag) files before after = λ why. ⊥
IsTextRefused (Show image) files before after =
    IsRefusedBy image_from_bytes image (files image) (before image) (after image)
IsTextRefused (Build part) files before after =
    IsRefusedBy built_of part (files part) (before part) (after part)
IsTextRefused (Link elf part) files before after = IsLinkRefused elf part files before after
IsTextRefused (Replay image schedule) files before after =
    IsReplayRefused report_made image schedule files before after
IsTextRefused (Log image schedule) files before after =
    IsReplayRefused trace_made image schedule files before after
IsTextRefused (Emulate image schedule trace) files before after =
    IsCheckRefused emulated image schedule trace files before after
IsTextRefused (Enforce image schedule trace) files before after =
    IsEnforceRefused image schedule trace files before after
IsTextRefused (Derive trace) files before after =
    IsTraceRefused trace (files trace) (before trace) (after trace)
IsTextRefused (Analyze trace query name) files before after =
    IsQueryRefused query name trace (files trace) (before trace) (after trace)
IsTextRefused (Gen workers) files before after = λ why. ⊥
