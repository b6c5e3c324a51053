-- What a partition means: its image, or the first fault.
use Rattle.std.specs.Prelude.{◌≡◌, ℕ, List, map, Option, Some, None, Result, Ok, Err}
use Rattle.toml.specs.Data.{Members}
use Rattle.toml.specs.Parse.{parse_document}
use Rattle.wedge_base.specs.Images.{Image}
use Rattle.image_form.specs.Reading.{reading}
use Rattle.image_form.specs.Encoding.{encoding}
use Rattle.image_form.specs.declared.fault.Fault.{Fault as ImageFault}
use Rattle.rv_asm.specs.Assembly as asm
use Rattle.rv_asm.specs.declared.assembled.Assembled.{Assembled}
use Rattle.rv_asm.specs.declared.fault.Fault.{Fault as AsmFault}
use Rattle.rv_asm.specs.declared.fault.Why.TheVariants as why
use Rattle.part_toml.specs.declared.fault.PartFault.{PartFault}
use Rattle.part_toml.specs.declared.fault.PartFault.TheVariants as fault
use Rattle.part_toml.specs.declared.keys.Key.TheVariants as key
use Rattle.part_toml.specs.declared.keys.Part.TheVariants as part
use Rattle.part_toml.specs.Values.{number_at_key, text_at}
use Rattle.part_toml.specs.Faults.{Refusal, Toml, Key, Kind, Asm, document_fault}
use Rattle.part_toml.specs.Faults.{Image as ImageRefusal}
use Rattle.stable_sort.specs.Sorting.{sorted}
use Rattle.stable_sort.specs.ByName.{procedure_before}
use Rattle.part_toml.specs.Parts.{declared_ranges, tags, fds, files, equates, procedure_address}

-- ---- the steps

infixl 10 ◌>>=◌
abbrev pub ◌>>=◌ : {X Y : Type 0} → Result X Refusal → (X → Result Y Refusal) → Result Y Refusal
(Ok x) >>= next = next x
(Err e) >>= next = Err e

-- what follows, if nothing is wrong
abbrev pub unless : {X : Type 0} → Option Refusal → Result X Refusal → Result X Refusal
unless (Some r) next = Err r
unless None next = next

abbrev pub by_assembler : Result Assembled AsmFault → Result Assembled Refusal
by_assembler (Ok a) = Ok a
by_assembler (Err f) = Err (Asm f.line f.why)

abbrev pub by_image : Result Image ImageFault → Result Image Refusal
by_image (Ok i) = Ok i
by_image (Err f) = Err (ImageRefusal f.at f.why)

-- the address of the entry; where there is none, the fault is at line 0: no line of the text has it
abbrev pub or_no_label : Option ℕ → Result ℕ Refusal
or_no_label (Some address) = Ok address
or_no_label None = Err (Asm 0 why.Label)

-- ---- the whole

-- the address of the first word: 65536 where the partition gives none
abbrev pub base_at : Members → ℕ
base_at ms = number_at_key key.Base 65536 ms

-- the assembled text, or the assembler's fault
unfoldable pub assembled_text : Members → Result Assembled Refusal
assembled_text ms = by_assembler (asm.assembled (text_at key.Text ms) (base_at ms) (equates (tags ms) (fds ms) (declared_ranges ms)))

-- the image whose text and entry are given
unfoldable pub image_of_tables : Members → Assembled → ℕ → Image
image_of_tables ms a entry = record {
  fuel = number_at_key key.Fuel 0 ms;
  base = base_at ms;
  words = a.words;
  procedures = sorted procedure_before a.procedures;
  entry = entry;
  ranges = map (λ r. r.range) (declared_ranges ms);
  tags = tags ms;
  fds = fds ms;
  files = files ms;
  user = number_at_key key.User 0 ms;
  root = text_at key.Root ms;
}

unfoldable pub partition_of : Members → Result Image Refusal
partition_of ms =
    unless (document_fault part.Top ms) (
    assembled_text ms >>= λ a.
    or_no_label (procedure_address (text_at key.Entry ms) a.procedures) >>= λ entry.
    by_image (reading (encoding (image_of_tables ms a entry))))

abbrev pub or_no_toml : Option Members → Result Image Refusal
or_no_toml (Some ms) = partition_of ms
or_no_toml None = Err Toml

unfoldable pub partition : List ℕ → Result Image Refusal
partition text = or_no_toml (parse_document text)

-- ---- answers

-- an error of the code reports the fault that is found, unless memory ran out
abbrev pub Reports : PartFault → Option Refusal → Type 0
Reports fault.NoMemory found = Unit {0}
Reports fault.Toml found = found ≡ Some Toml
Reports (fault.Key name) found = found ≡ Some (Key name)
Reports (fault.Kind name) found = found ≡ Some (Kind name)
Reports (fault.Asm line w) found = found ≡ Some (Asm line w)
Reports (fault.Image at w) found = found ≡ Some (ImageRefusal at w)

abbrev pub refusal_in : {X : Type 0} → Result X Refusal → Option Refusal
refusal_in (Ok x) = None
refusal_in (Err r) = Some r

-- what the code answers is what is meant, unless memory ran out
abbrev pub IsPartitionAnswer : {X : Type 0} → Result X PartFault → Result X Refusal → Type 0
IsPartitionAnswer (Ok x) meant = meant ≡ Ok x
IsPartitionAnswer (Err e) meant = Reports e (refusal_in meant)

-- the code finds nothing wrong, or what is wrong first
abbrev pub Finds : {X : Type 0} → Result X PartFault → Option Refusal → Type 0
Finds (Ok x) found = found ≡ None
Finds (Err e) found = Reports e found
