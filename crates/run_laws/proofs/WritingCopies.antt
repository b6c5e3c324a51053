-- Bytes written into a private copy are read there, and each other byte of each copy stays.
use Rattle.std.proofs.Common.{◌≡◌, ◌⊎◌, ℕ, ◌+◌, ◌<◌, ◌≤◌, true, List, length, refl, sym, ap, ◌∙◌, arith}
use Rattle.std.proofs.lemmas.Bool.Decides.{nat_tests}
use Rattle.std.specs.Prelude.{Some, None, option_and_then, slice_get, slice_range, nat_le, if◌then◌else◌}
use Rattle.cow_pages.specs.Copies.{Copies, copy_at, with_copy, holds_copy, read_copy}
use Rattle.wedge_base.specs.Bytes.{overwrite}
use Rattle.wedge_base.specs.declared.address.Place.{Place}
use Rattle.run_laws.specs.Remembering.{copied_byte, copied_bytes, AreCopied}
use Rattle.machine.proofs.ByNumber.{found_there, found_beside}
use Rattle.run_laws.proofs.WritingRanges.{length-written, read-written, get-written}

inside : (offset : ℕ) (new bytes : List ℕ) → holds_copy offset (length new) bytes ≡ true → offset + length new ≤ length bytes
inside offset new bytes e = grind (arith, nat_tests, e)

read_after : (cs : Copies) (p : Place) (bytes new : List ℕ) → holds_copy p.offset (length new) bytes ≡ true
    → copied_bytes (with_copy cs p.slot (overwrite bytes p.offset new)) (length new) (Some p) ≡ Some new
read_after cs p bytes new holds =
    let fits = inside p.offset new bytes holds in
    let size = length-written bytes p.offset new fits in
    ap (option_and_then (read_copy p.offset (length new))) (found_there cs p.slot (overwrite bytes p.offset new))
    ∙ ap (λ t. if t then Some (slice_range (overwrite bytes p.offset new) p.offset (p.offset + length new)) else None) (ap (λ n. nat_le (p.offset + length new) n) size ∙ holds)
    ∙ ap (λ b. Some b) (read-written bytes p.offset (length new) new refl fits)

others_after : (cs : Copies) (p : Place) (bytes new : List ℕ) (x : ℕ) → copy_at cs p.slot ≡ Some bytes → holds_copy p.offset (length new) bytes ≡ true
    → (x < p.offset) ⊎ (p.offset + length new ≤ x) → copied_byte (with_copy cs p.slot (overwrite bytes p.offset new)) p.slot x ≡ copied_byte cs p.slot x
others_after cs p bytes new x there holds off =
    ap (option_and_then (λ b. slice_get b x)) (found_there cs p.slot (overwrite bytes p.offset new))
    ∙ (get-written bytes p.offset new x (inside p.offset new bytes holds) off ∙ sym (ap (option_and_then (λ b. slice_get b x)) there))

-- bytes that are written where they lie in a copy
pub copied_there : (cs : Copies) (p : Place) (bytes new : List ℕ) → copy_at cs p.slot ≡ Some bytes → holds_copy p.offset (length new) bytes ≡ true
    → AreCopied cs (with_copy cs p.slot (overwrite bytes p.offset new)) p new
copied_there cs p bytes new there holds = record {
  read = read_after cs p bytes new holds;
  others = λ x. others_after cs p bytes new x there holds;
  beside = λ slot. found_beside cs p.slot (overwrite bytes p.offset new) slot;
}
