-- Files found by their names.
use Rattle.std.proofs.Common.{◌≡◌, ℕ, zero, suc, ◌<◌, Bool, true, false, ◌&&◌, List, [], ◌∷◌, length, get_or, Some, IsTrue, is_none, refl, ◌∙◌, arith, inl, inr}
use Rattle.std.proofs.lemmas.Bool.{cases_Bool}
use Rattle.std.proofs.lemmas.Slice.Eq.{bytes_eq-Decides}
use Rattle.std.specs.Str.{bytes_eq}
use Rattle.std.specs.String.{string_bytes}
use Rattle.host_io.specs.Memory.{bytes_named, names_differ, IsExposed}
use Rattle.host_io.specs.declared.mem_file.MemFile.{MemFile}

both : (a b : Bool) → (a && b) ≡ true → (a ≡ true) × (b ≡ true)
both true b h = (refl, h)
both false b h = absurd (cc)

-- the first file of the name, and the files after it
at_head : (f : MemFile) (fs : List MemFile) (name : List ℕ) → string_bytes f.name ≡ name → bytes_named (f ∷ fs) name ≡ Some f.bytes.items
at_head f fs name same = rw ((bytes_eq-Decides (string_bytes f.name) name).1 same)

in_tail : (f : MemFile) (fs : List MemFile) (name : List ℕ) → bytes_eq (string_bytes f.name) name ≡ false → bytes_named (f ∷ fs) name ≡ bytes_named fs name
in_tail f fs name other = rw other

-- what is found among the later files has another name than the first
tail_of : (f : MemFile) (fs : List MemFile) (name bytes : List ℕ) → is_none (bytes_named fs (string_bytes f.name)) ≡ true → bytes_named fs name ≡ Some bytes → bytes_named (f ∷ fs) name ≡ Some bytes
tail_of f fs name bytes none found =
    elim (cases_Bool (bytes_eq (string_bytes f.name) name)) [
      | inl same ↦ let e = (bytes_eq-Decides (string_bytes f.name) name).0 same in let clash : false ≡ true = rw (e, found) at none in absurd (cc)
      | inr other ↦ in_tail f fs name other ∙ found
    ]

-- of files whose names differ each exposes its bytes
pub exposed_of_differ : (files : List MemFile) → IsTrue (names_differ files) → (k : ℕ) (d : MemFile) → k < length files → IsExposed files (get_or files k d)
exposed_of_differ [] h k d in_range = absurd (omega arith)
exposed_of_differ (f ∷ fs) h zero d in_range = at_head f fs (string_bytes f.name) refl
exposed_of_differ (f ∷ fs) h (suc k) d in_range =
    let parts = both _ _ h in
    tail_of f fs (string_bytes (get_or fs k d).name) (get_or fs k d).bytes.items parts.0 (exposed_of_differ fs parts.1 k d (omega arith))
