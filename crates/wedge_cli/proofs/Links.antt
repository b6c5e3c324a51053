-- What the refusal of a link says of its files.
use Rattle.std.proofs.Common.{◌≡◌, ◌⊎◌, inl, inr, ℕ, List, refl, sym}
use Rattle.std.specs.Prelude.{Option, Some, Result, Ok, Err}
use Rattle.wedge_base.specs.Images.{Image}
use Rattle.elf_in.specs.declared.fault.Fault.{Fault as ElfFault}
use Rattle.elf_in.specs.Program.{Program}
use Rattle.elf_in.specs.Reading.{elf_program}
use Rattle.cli_inputs.specs.declared.refusal.Refusal.{Refusal}
use Rattle.cli_inputs.specs.declared.refusal.Refusal.TheVariants as refusal
use Rattle.refusal_lines.specs.Lines.{status_of}
use Rattle.cli_inputs.specs.Linking.{program_by, joined_of, encoding_by, link_with, link_text, IsUnjoined}
use Rattle.command_texts.specs.Causes.{IsLinkRefused}
use Rattle.wedge_cli.specs.Ended.{IsCutShort}

-- ---- images of a link that is refused

unjoined_of : (elf text : List ℕ) (p : Program) (j : Result Image Refusal) (r : Refusal) → elf_program elf ≡ Ok p → joined_of p text ≡ j → encoding_by j ≡ Err r → IsUnjoined elf text
unjoined_of elf text p (Ok i) r is joined e = absurd cc
unjoined_of elf text p (Err why) r is joined e = record { program = p; accepted = is; why = why; rejected = joined }

unjoined_at : (elf text : List ℕ) (m : Result Program ElfFault) (r : Refusal) → ((f : ElfFault) → r ≡ refusal.Elf f → ⊥)
    → elf_program elf ≡ m → link_with (program_by m) text ≡ Err r → IsUnjoined elf text
unjoined_at elf text (Err f) r unlike is e = absurd (unlike f (let same : refusal.Elf f ≡ r = cc in sym same))
unjoined_at elf text (Ok p) r unlike is e = unjoined_of elf text p (joined_of p text) r is refl e

-- a link that is refused with another status than 10 has an ELF file that is accepted
pub unjoined : (elf text : List ℕ) (r : Refusal) → ((f : ElfFault) → r ≡ refusal.Elf f → ⊥) → link_text elf text ≡ Err r → IsUnjoined elf text
unjoined elf text r unlike e = unjoined_at elf text (elf_program elf) r unlike refl e

module _ (elf part_name : List ℕ) (files : List ℕ → Option (List ℕ)) (before after : List ℕ → ℕ) where
  -- the answer of both files is this refusal, or memory ran out, or a read failed
  pub link_refusal : (bytes text : List ℕ) (r : Refusal) → IsLinkRefused elf part_name files before after r → files elf ≡ Some bytes → files part_name ≡ Some text
      → IsCutShort (status_of r) ⊎ (link_text bytes text ≡ Err r)
  link_refusal bytes text refusal.NoMemory h elf_is part_is = inl (inr (inr refl))
  link_refusal bytes text (refusal.Read file) h elf_is part_is = inl (inl refl)
  link_refusal bytes text (refusal.Image fault) h elf_is part_is = inr (h bytes text elf_is part_is)
  link_refusal bytes text (refusal.Partition p) h elf_is part_is = inr (h bytes text elf_is part_is)
  link_refusal bytes text (refusal.Schedule s) h elf_is part_is = absurd h
  link_refusal bytes text (refusal.Trace fault) h elf_is part_is = absurd h
  link_refusal bytes text (refusal.Elf f) h elf_is part_is = inr (h.0 bytes text elf_is part_is)
  link_refusal bytes text (refusal.NoSuchName item) h elf_is part_is = absurd h
  link_refusal bytes text (refusal.Violation v) h elf_is part_is = absurd h
