-- The answer of a link, from what was read and done.
use Rattle.std.proofs.Common.{◌≡◌, inl, inr, ℕ, ◌<◌, ◌≤◌, Bool, true, false, cond, List, length, sym, ap, subst, ◌∙◌, arith}
use Rattle.std.specs.Prelude.{Option, Some, Result, Ok, Err, nat_lt}
use Rattle.std.specs.Str.{is_utf8}
use Rattle.host_io.specs.Exposed.{WhereExposed}
use Rattle.wedge_base.specs.Images.{Image}
use Rattle.elf_in.specs.declared.fault.Fault.{Fault as ElfFault}
use Rattle.elf_in.specs.Program.{Program}
use Rattle.elf_in.specs.Reading.{elf_program}
use Rattle.part_toml.specs.Faults.{Refusal as Meant}
use Rattle.part_toml.specs.Faults as meant
use Rattle.part_toml.specs.Joining.{partition_with}
use Rattle.cli_inputs.specs.declared.loading.FileKind.TheVariants as kind
use Rattle.cli_inputs.specs.declared.refusal.Refusal.{Refusal}
use Rattle.cli_inputs.specs.declared.refusal.Refusal.TheVariants as refusal
use Rattle.cli_inputs.specs.declared.refusal.PartRefusal.TheVariants as part
use Rattle.cli_inputs.specs.Refusals.{as_unjoined}
use Rattle.cli_inputs.specs.Loading.{most_of, most_partition, long_elf, IsUnread, IsPartitionUnread}
use Rattle.cli_inputs.specs.Replaying.{IsRefusalIn}
use Rattle.cli_inputs.specs.Linking.{program_by, by_joining, joined_of, encoding_by, link_with, link_text}
use Rattle.command_texts.specs.Causes.{IsLinkAnswer, IsLinkRefused}
use Rattle.cli_inputs.proofs.Joined.{long_file, joined_long}

-- what is wrong is of the partition, or of the image
abbrev IsOfPart : Refusal → Type 0
IsOfPart (refusal.Image fault) = Unit {0}
IsOfPart (refusal.Partition p) = Unit {0}
IsOfPart other = ⊥

of_part : (m : Meant) → IsOfPart (as_unjoined m)
of_part meant.Toml = tt
of_part (meant.Key name) = tt
of_part (meant.Kind name) = tt
of_part (meant.Asm line why) = tt
of_part (meant.Image at why) = tt

of_joining : (m : Result Image Meant) (s : Refusal) → by_joining m ≡ Err s → IsOfPart s
of_joining (Ok i) s e = absurd cc
of_joining (Err r) s e = let is : as_unjoined r ≡ s = cc in subst IsOfPart is (of_part r)

of_cases : (long text : Bool) (m : Result Image Meant) (s : Refusal)
    → cond {A = Result Image Refusal} long (Err (refusal.Partition part.Limit)) (cond text (by_joining m) (Err (refusal.Partition part.Toml))) ≡ Err s → IsOfPart s
of_cases true text m s e = let is : refusal.Partition part.Limit ≡ s = cc in subst IsOfPart is tt
of_cases false true m s e = of_joining m s e
of_cases false false m s e = let is : refusal.Partition part.Toml ≡ s = cc in subst IsOfPart is tt

of_joined : (p : Program) (text : List ℕ) (s : Refusal) → joined_of p text ≡ Err s → IsOfPart s
unfolding joined_of
of_joined p text s e = of_cases (nat_lt most_partition (length text)) (is_utf8 text) (partition_with p text) s e

-- ---- both

-- of an ELF file that is accepted
linked_by : (elf text : List ℕ) (p : Program) (answer : Result Image Refusal) → elf_program elf ≡ Ok p → joined_of p text ≡ answer → link_text elf text ≡ encoding_by answer
linked_by elf text p answer accepted joined = ap (λ m. link_with (program_by m) text) accepted ∙ ap encoding_by joined

pub linked_text : (elf text bytes : List ℕ) (p : Program) → elf_program elf ≡ Ok p → encoding_by (joined_of p text) ≡ Ok bytes → link_text elf text ≡ Ok bytes
linked_text elf text bytes p accepted joined = ap (λ m. link_with (program_by m) text) accepted ∙ joined

-- of one that is not
rejected_with : (elf text : List ℕ) (f : ElfFault) → elf_program elf ≡ Err f → link_text elf text ≡ Err (refusal.Elf f)
rejected_with elf text f e = ap (λ m. link_with (program_by m) text) e

fault_by : (m : Result Program ElfFault) (f : ElfFault) → program_by m ≡ Err (refusal.Elf f) → m ≡ Err f
fault_by (Ok p) f e = absurd cc
fault_by (Err g) f e = let is : g ≡ f = cc in ap (λ x. Err x) is

no_image_by : (m : Result Program ElfFault) (r : Refusal) → ((f : ElfFault) → r ≡ refusal.Elf f → ⊥) → program_by m ≡ Err r → ⊥
no_image_by (Ok p) r unlike e = cc
no_image_by (Err f) r unlike e = unlike f (let is : refusal.Elf f ≡ r = cc in sym is)

-- ---- why there is no image

module _ (elf part_name : List ℕ) (files : List ℕ → Option (List ℕ)) (before after : List ℕ → ℕ) where
  -- the ELF file was not read
  pub elf_unread : (r : Refusal) → IsUnread kind.Elf elf (files elf) (before elf) (after elf) r → IsLinkRefused elf part_name files before after r
  elf_unread refusal.NoMemory h = tt
  elf_unread (refusal.Read file) h = inl h
  elf_unread (refusal.Image fault) h = let e = h.is in absurd cc
  elf_unread (refusal.Partition p) h = let e = h.is in absurd cc
  elf_unread (refusal.Schedule s) h = let e = h.is in absurd cc
  elf_unread (refusal.Trace fault) h = let e = h.is in absurd cc
  elf_unread (refusal.Elf f) h =
      let is : f ≡ long_elf = let e = h.is in cc in (
        λ bytes text elf_is part_is. rejected_with bytes text long_elf (long_file bytes (h.longer bytes elf_is)) ∙ ap (λ g. Err (refusal.Elf g)) (sym is),
        λ bytes elf_is. long_file bytes (h.longer bytes elf_is) ∙ ap (λ g. Err g) (sym is),
      )
  elf_unread (refusal.NoSuchName item) h = absurd h
  elf_unread (refusal.Violation v) h = absurd h

  -- the partition's was not, after the ELF file
  pub part_unread : (middle : ℕ) (read : List ℕ) (r : Refusal) → before part_name ≤ middle → WhereExposed (files elf) (λ b. read ≡ b) → length read ≤ most_of kind.Elf
      → IsPartitionUnread part_name middle (after part_name) r → IsLinkRefused elf part_name files before after r
  part_unread middle read refusal.NoMemory low same within h = tt
  part_unread middle read (refusal.Read file) low same within h =
      let rose = h.rose in
      inr (record { named = h.named; rose = omega arith }, λ b exposed. subst (λ x. length x ≤ most_of kind.Elf) (same b exposed) within)
  part_unread middle read (refusal.Image fault) low same within h = absurd h
  part_unread middle read (refusal.Partition p) low same within h = absurd h
  part_unread middle read (refusal.Schedule s) low same within h = absurd h
  part_unread middle read (refusal.Trace fault) low same within h = absurd h
  part_unread middle read (refusal.Elf f) low same within h = absurd h
  part_unread middle read (refusal.NoSuchName item) low same within h = absurd h
  part_unread middle read (refusal.Violation v) low same within h = absurd h

  -- the ELF file was rejected
  pub elf_rejected : (read : List ℕ) (r : Refusal) → WhereExposed (files elf) (λ b. read ≡ b) → IsRefusalIn (program_by (elf_program read)) r → IsLinkRefused elf part_name files before after r
  elf_rejected read refusal.NoMemory same h = tt
  elf_rejected read (refusal.Read file) same h = absurd h
  elf_rejected read (refusal.Image fault) same h = absurd (no_image_by (elf_program read) (refusal.Image fault) (λ f e. cc) h)
  elf_rejected read (refusal.Partition p) same h = absurd (no_image_by (elf_program read) (refusal.Partition p) (λ f e. cc) h)
  elf_rejected read (refusal.Schedule s) same h = absurd (no_image_by (elf_program read) (refusal.Schedule s) (λ f e. cc) h)
  elf_rejected read (refusal.Trace fault) same h = absurd h
  elf_rejected read (refusal.Elf f) same h =
      let is : elf_program read ≡ Err f = fault_by (elf_program read) f h in (
        λ bytes text elf_is part_is. rejected_with bytes text f (ap elf_program (sym (same bytes elf_is)) ∙ is),
        λ bytes elf_is. ap elf_program (sym (same bytes elf_is)) ∙ is,
      )
  elf_rejected read (refusal.NoSuchName item) same h = absurd h
  elf_rejected read (refusal.Violation v) same h = absurd h

  module _ (read : List ℕ) (p : Program) (same : WhereExposed (files elf) (λ b. read ≡ b)) (accepted : elf_program read ≡ Ok p) where
    accepted_at : (bytes : List ℕ) → files elf ≡ Some bytes → elf_program bytes ≡ Ok p
    accepted_at bytes elf_is = ap elf_program (sym (same bytes elf_is)) ∙ accepted

    -- it was accepted, and the partition is too long
    pub part_long : WhereExposed (files part_name) (λ b. most_partition < length b) → IsLinkRefused elf part_name files before after (refusal.Partition part.Limit)
    part_long longer = λ bytes text elf_is part_is.
        linked_by bytes text p (Err (refusal.Partition part.Limit)) (accepted_at bytes elf_is) (joined_long p text (longer text part_is))

    joined_at : (given : List ℕ) (r : Refusal) → WhereExposed (files part_name) (λ b. given ≡ b) → joined_of p given ≡ Err r → IsLinkAnswer elf part_name files (Err r)
    joined_at given r same_part h = λ bytes text elf_is part_is.
        linked_by bytes text p (Err r) (accepted_at bytes elf_is) (ap (joined_of p) (sym (same_part text part_is)) ∙ h)

    -- it was accepted, and the partition or the image of both is rejected
    pub part_rejected : (given : List ℕ) (r : Refusal) → WhereExposed (files part_name) (λ b. given ≡ b)
        → IsRefusalIn (joined_of p given) r → IsLinkRefused elf part_name files before after r
    part_rejected given refusal.NoMemory same_part h = tt
    part_rejected given (refusal.Read file) same_part h = absurd h
    part_rejected given (refusal.Image fault) same_part h = joined_at given (refusal.Image fault) same_part h
    part_rejected given (refusal.Partition q) same_part h = joined_at given (refusal.Partition q) same_part h
    part_rejected given (refusal.Schedule s) same_part h = absurd (of_joined p given (refusal.Schedule s) h)
    part_rejected given (refusal.Trace fault) same_part h = absurd h
    part_rejected given (refusal.Elf f) same_part h = absurd (of_joined p given (refusal.Elf f) h)
    part_rejected given (refusal.NoSuchName item) same_part h = absurd h
    part_rejected given (refusal.Violation v) same_part h = absurd h
