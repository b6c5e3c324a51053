-- A range that is the front of its pages.
use Rattle.std.proofs.Common.{◌≡◌, ℕ, ◌+◌, ◌-◌, ◌≤◌, IsTrue, List, length, take, drop, sym, ap, ◌∙◌, subst, arith, slice_range, leb}
use Rattle.std.proofs.lemmas.List.{length-take, take-append-drop, take_at}
use Rattle.std.proofs.lemmas.Bool.{and_parts, leb-true}
use Rattle.wedge_base.specs.Bytes.{overwrite}
use Rattle.wedge_base.specs.Memory.{lies_in, read_range, write_range}
use Rattle.wedge_base.specs.declared.image.MemoryRange.{MemoryRange}
use Rattle.cow_pages.proofs.PageOffsets.{part_of_first, written_first, length-written}

-- what is read in the front
pub read_front : (xs : List ℕ) (size a n : ℕ) → size ≤ length xs → a + n ≤ size → slice_range xs a (a + n) ≡ slice_range (take size xs) a (a + n)
read_front xs size a n h l =
    let few : a + n - a ≡ n = omega arith in
    let front = length-take size xs in
    rw few (ap (λ (z : List ℕ). take n (drop a z)) (sym (take-append-drop size xs)) ∙ part_of_first (take size xs) (drop size xs) a n (omega arith))

-- what is written in the front
pub write_front : (xs : List ℕ) (size a : ℕ) (new : List ℕ) → size ≤ length xs → a + length new ≤ size → take size (overwrite xs a new) ≡ overwrite (take size xs) a new
write_front xs size a new h l =
    let front = length-take size xs in
    let fits : a + length new ≤ length (take size xs) = omega arith in
    let kept : length (overwrite (take size xs) a new) ≡ size = length-written (take size xs) a new fits ∙ omega arith in
    ap (λ (z : List ℕ). take size (overwrite z a new)) (sym (take-append-drop size xs))
    ∙ ap (take size) (written_first (take size xs) (drop size xs) a new fits)
    ∙ take_at (overwrite (take size xs) a new) (drop size xs) size kept

pub lies_parts : (address n : ℕ) (r : MemoryRange) → IsTrue (lies_in address n r) → (r.base ≤ address) × (address + n ≤ r.base + length r.bytes)
lies_parts address n r h =
    let both = and_parts (leb r.base address) (leb (address + n) (r.base + length r.bytes)) h in
    (leb-true r.base address both.0, leb-true (address + n) (r.base + length r.bytes) both.1)

abbrev front : ℕ → ℕ → List ℕ → MemoryRange
front base size xs = record { base = base; bytes = take size xs }

-- an access that lies in the front is inside it
pub lies_inside : (base size : ℕ) (xs : List ℕ) (address n : ℕ) (r : MemoryRange) → front base size xs ≡ r → size ≤ length xs → IsTrue (lies_in address n r) → address - base + n ≤ size
lies_inside base size xs address n r e l h =
    let parts = lies_parts address n (front base size xs) (subst (λ (q : MemoryRange). IsTrue (lies_in address n q)) (sym e) h) in
    let cut = length-take size xs in
    omega (arith, parts.0, parts.1)

pub read_range_front : (base size : ℕ) (xs : List ℕ) (address n : ℕ) (r : MemoryRange) → front base size xs ≡ r → size ≤ length xs → IsTrue (lies_in address n r) → slice_range xs (address - base) (address - base + n) ≡ read_range r address n
read_range_front base size xs address n r e l h =
    read_front xs size (address - base) n l (lies_inside base size xs address n r e l h) ∙ ap (λ (q : MemoryRange). read_range q address n) e

pub write_range_front : (base size : ℕ) (xs : List ℕ) (address : ℕ) (new after : List ℕ) (r : MemoryRange) → front base size xs ≡ r → size ≤ length xs → IsTrue (lies_in address (length new) r) → after ≡ overwrite xs (address - base) new → front base size after ≡ write_range address new r
write_range_front base size xs address new after r e l h w =
    ap (front base size) w
    ∙ ap (λ (b : List ℕ). record { base = base; bytes = b }) (write_front xs size (address - base) new l (lies_inside base size xs address (length new) r e l h))
    ∙ ap (write_range address new) e
