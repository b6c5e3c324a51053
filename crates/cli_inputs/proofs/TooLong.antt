-- Why the image of a file is not had, from why its bytes were not read or not accepted.
use Rattle.std.proofs.Common.{◌≡◌, ℕ, ◌<◌, true, false, List, length, refl, sym, ap, ◌∙◌}
use Rattle.std.specs.Prelude.{Option, Result, Ok, Err, IfErr, nat_le, nat_lt}
use Rattle.std.proofs.lemmas.Bool.{lt-leb, lt-ltb}
use Rattle.host_io.specs.Exposed.{WhereExposed}
use Rattle.wedge_base.specs.Images.{Image}
use Rattle.image_form.specs.Encoding.{most_bytes}
use Rattle.image_form.specs.Reading.{reading}
use Rattle.trace_form.specs.declared.fault.TraceFault.{TraceFault}
use Rattle.elf_in.specs.declared.fault.Fault.{Fault as ElfFault}
use Rattle.cli_inputs.specs.declared.loading.FileKind.{FileKind}
use Rattle.cli_inputs.specs.declared.loading.FileKind.TheVariants as kind
use Rattle.cli_inputs.specs.declared.refusal.ScheduleRefusal.{ScheduleRefusal}
use Rattle.cli_inputs.specs.declared.refusal.Refusal.{Refusal}
use Rattle.cli_inputs.specs.declared.refusal.Refusal.TheVariants as refusal
use Rattle.cli_inputs.specs.Loading.{image_from_bytes, built_of, most_of, most_partition, too_long, IsRefusalOf, IsUnread, IsRefusedBy}

-- files of too many bytes are refused
pub long_image : (bytes : List ℕ) → most_of kind.Image < length bytes → image_from_bytes bytes ≡ Err (too_long kind.Image)
unfolding reading
long_image bytes lt = let long : nat_le (length bytes) most_bytes ≡ false = lt-leb (length bytes) most_bytes lt in rw long refl

pub long_built : (bytes : List ℕ) → most_of kind.Partition < length bytes → built_of bytes ≡ Err (too_long kind.Partition)
unfolding built_of
long_built bytes lt = let long : nat_lt most_partition (length bytes) ≡ true = lt-ltb most_partition (length bytes) lt in rw long refl

-- no image and no partition is refused as a schedule
pub no_image : (s : ScheduleRefusal) → refusal.Schedule s ≡ too_long kind.Image → ⊥
no_image s e = absurd cc

pub no_partition : (s : ScheduleRefusal) → refusal.Schedule s ≡ too_long kind.Partition → ⊥
no_partition s e = absurd cc

-- nor as a trace
pub no_image_trace : (f : TraceFault) → refusal.Trace f ≡ too_long kind.Image → ⊥
no_image_trace f e = absurd cc

pub no_partition_trace : (f : TraceFault) → refusal.Trace f ≡ too_long kind.Partition → ⊥
no_partition_trace f e = absurd cc

-- nor as an ELF file
pub no_image_elf : (f : ElfFault) → refusal.Elf f ≡ too_long kind.Image → ⊥
no_image_elf f e = absurd cc

pub no_partition_elf : (f : ElfFault) → refusal.Elf f ≡ too_long kind.Partition → ⊥
no_partition_elf f e = absurd cc

-- a file whose bytes were not read
pub unread_by : (meant : List ℕ → Result Image Refusal) (k : FileKind) (name : List ℕ) (content : Option (List ℕ)) (before after : ℕ) (r : Refusal)
    → ((bytes : List ℕ) → most_of k < length bytes → meant bytes ≡ Err (too_long k))
    → ((s : ScheduleRefusal) → refusal.Schedule s ≡ too_long k → ⊥) → ((f : TraceFault) → refusal.Trace f ≡ too_long k → ⊥) → ((f : ElfFault) → refusal.Elf f ≡ too_long k → ⊥)
    → IsUnread k name content before after r → IsRefusedBy meant name content before after r
unread_by meant k name content before after refusal.NoMemory long unlike no_trace no_elf h = tt
unread_by meant k name content before after (refusal.Read file) long unlike no_trace no_elf h = h
unread_by meant k name content before after (refusal.Image fault) long unlike no_trace no_elf h = λ bytes exposed. long bytes (h.longer bytes exposed) ∙ ap (λ r. Err r) (sym h.is)
unread_by meant k name content before after (refusal.Partition p) long unlike no_trace no_elf h = λ bytes exposed. long bytes (h.longer bytes exposed) ∙ ap (λ r. Err r) (sym h.is)
unread_by meant k name content before after (refusal.Schedule s) long unlike no_trace no_elf h = unlike s h.is
unread_by meant k name content before after (refusal.Trace fault) long unlike no_trace no_elf h = no_trace fault h.is
unread_by meant k name content before after (refusal.Elf fault) long unlike no_trace no_elf h = no_elf fault h.is
unread_by meant k name content before after (refusal.NoSuchName item) long unlike no_trace no_elf h = absurd h
unread_by meant k name content before after (refusal.Violation v) long unlike no_trace no_elf h = absurd h

-- a file whose bytes were read and are refused
refused_by : (meant : List ℕ → Result Image Refusal) (name : List ℕ) (content : Option (List ℕ)) (before after : ℕ) (bytes : List ℕ) (r : Refusal)
    → WhereExposed content (λ b. bytes ≡ b) → IsRefusalOf (meant bytes) r → IsRefusedBy meant name content before after r
refused_by meant name content before after bytes refusal.NoMemory same h = tt
refused_by meant name content before after bytes (refusal.Read file) same h = absurd h
refused_by meant name content before after bytes (refusal.Image fault) same h = λ b exposed. ap meant (sym (same b exposed)) ∙ h
refused_by meant name content before after bytes (refusal.Partition p) same h = λ b exposed. ap meant (sym (same b exposed)) ∙ h
refused_by meant name content before after bytes (refusal.Schedule s) same h = absurd h
refused_by meant name content before after bytes (refusal.Trace fault) same h = absurd h
refused_by meant name content before after bytes (refusal.Elf fault) same h = absurd h
refused_by meant name content before after bytes (refusal.NoSuchName item) same h = absurd h
refused_by meant name content before after bytes (refusal.Violation v) same h = absurd h

pub answer_by : (meant : List ℕ → Result Image Refusal) (name : List ℕ) (content : Option (List ℕ)) (before after : ℕ) (bytes : List ℕ) (result : Result Image Refusal)
    → WhereExposed content (λ b. bytes ≡ b) → IfErr result (IsRefusalOf (meant bytes)) → IfErr result (IsRefusedBy meant name content before after)
answer_by meant name content before after bytes (Ok i) same h = tt
answer_by meant name content before after bytes (Err r) same h = refused_by meant name content before after bytes r same h
