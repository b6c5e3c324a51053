-- What the commands that run nothing make of their files.
use Rattle.std.specs.Prelude.{◌≡◌, ℕ, List, Option, Result, Ok}
use Rattle.wedge_base.specs.Images.{Image}
use Rattle.image_form.specs.Rules.{Encodes}
use Rattle.part_toml.specs.Partition.{partition}
use Rattle.host_io.specs.Exposed.{WhereExposed}
use Rattle.cli_inputs.specs.declared.refusal.Refusal.{Refusal}
use Rattle.cli_inputs.specs.Listing.{listing}
use Rattle.cli_inputs.specs.Loading.{image_from_bytes, built_of}
use Rattle.cli_inputs.specs.Linking.{link_text, IsLinkedImage}
use Rattle.cli_inputs.specs.Replaying.{replay_text, log_text}
use Rattle.cli_inputs.specs.Enforcing.{emulate_text, enforce_text}
use Rattle.cli_inputs.specs.Traces.{derive_text, analyze_text}
use Rattle.cli_inputs.specs.Words.{Asked, Run, Show, Build, Link, Replay, Log, Emulate, Enforce, Derive, Analyze, Gen}

-- a file is an image, and this is its listing
pub record IsShown (content : Option (List ℕ)) (text : List ℕ) : Type 0 where
  pub image : Image
  pub encoded : WhereExposed content (λ bytes. Encodes image bytes)
  pub accepted : WhereExposed content (λ bytes. image_from_bytes bytes ≡ Ok image)
  pub is : text ≡ listing image

-- a file is a partition, and these are the bytes of its image
pub record IsBuilt (content : Option (List ℕ)) (text : List ℕ) : Type 0 where
  pub image : Image
  pub meant : WhereExposed content (λ bytes. partition bytes ≡ Ok image)
  pub accepted : WhereExposed content (λ bytes. built_of bytes ≡ Ok image)
  pub encoded : Encodes image text

-- two files are answered: what was read of each is its bytes, where they are exposed, and the text
-- is what is meant by both
pub record IsPairAnswer (meaning : List ℕ → List ℕ → Result (List ℕ) Refusal)
    (one other : Option (List ℕ)) (text : List ℕ) : Type 0 where
  pub first : List ℕ
  pub second : List ℕ
  pub first_is : WhereExposed one (λ exposed. first ≡ exposed)
  pub second_is : WhereExposed other (λ exposed. second ≡ exposed)
  pub meant : meaning first second ≡ Ok text

-- three files are answered
pub record IsTripleAnswer (meaning : List ℕ → List ℕ → List ℕ → Result (List ℕ) Refusal)
    (one other third : Option (List ℕ)) (text : List ℕ) : Type 0 where
  pub first : List ℕ
  pub second : List ℕ
  pub last : List ℕ
  pub first_is : WhereExposed one (λ exposed. first ≡ exposed)
  pub second_is : WhereExposed other (λ exposed. second ≡ exposed)
  pub last_is : WhereExposed third (λ exposed. last ≡ exposed)
  pub meant : meaning first second last ≡ Ok text

-- an ELF file is linked with a partition
pub record IsLinked (elf part : Option (List ℕ)) (text : List ℕ) : Type 0 where
  pub answer : IsPairAnswer link_text elf part text
  pub image : IsLinkedImage answer.first text

-- a trace's file is answered: what was read of it is its bytes, where they are exposed, and the
-- text is what is meant by them
pub record IsTraceAnswer (meaning : List ℕ → Result (List ℕ) Refusal) (trace : Option (List ℕ))
    (text : List ℕ) : Type 0 where
  pub bytes : List ℕ
  pub bytes_are : WhereExposed trace (λ exposed. bytes ≡ exposed)
  pub meant : meaning bytes ≡ Ok text

-- the text of a command
abbrev pub IsTextOf : Asked → (List ℕ → Option (List ℕ)) → List ℕ → Type 0
IsTextOf (Run image flag) files text = ⊥
IsTextOf (Show image) files text = IsShown (files image) text
IsTextOf (Build part) files text = IsBuilt (files part) text
IsTextOf (Link elf part) files text = IsLinked (files elf) (files part) text
IsTextOf (Replay image schedule) files text =
    IsPairAnswer replay_text (files image) (files schedule) text
IsTextOf (Log image schedule) files text =
    IsPairAnswer log_text (files image) (files schedule) text
IsTextOf (Emulate image schedule trace) files text =
    IsTripleAnswer emulate_text (files image) (files schedule) (files trace) text
IsTextOf (Enforce image schedule trace) files text =
    IsTripleAnswer enforce_text (files image) (files schedule) (files trace) text
IsTextOf (Derive trace) files text = IsTraceAnswer derive_text (files trace) text
IsTextOf (Analyze trace query name) files text =
    IsTraceAnswer (analyze_text query name) (files trace) text
IsTextOf (Gen workers) files text = ⊥

-- a command runs nothing on threads
abbrev pub RunsNothing : Asked → Type 0
RunsNothing (Run image flag) = ⊥
RunsNothing (Gen workers) = ⊥
RunsNothing other = Unit {0}
