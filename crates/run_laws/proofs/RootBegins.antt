-- The root begins as the image declares it.
use Rattle.std.proofs.Common.{◌≡◌, ℕ, zero, suc, ◌+◌, ◌<◌, ◌≤◌, Bool, true, false, List, [], ◌∷◌, refl, sym, ap, ◌∙◌, arith}
use Rattle.std.specs.Prelude.{Option, Some, None, slice_get, if◌then◌else◌}
use Rattle.cow_pages.specs.Copies.{Copies, copy_at, with_copy}
use Rattle.wedge_base.specs.Images.{Image}
use Rattle.wedge_base.specs.declared.image.TagEntry.{TagEntry}
use Rattle.wedge_base.specs.declared.rights.Right.{Right}
use Rattle.wedge_base.specs.declared.rights.Right.TheVariants as right
use Rattle.wedge_events.specs.Slots.{declared_segment}
use Rattle.cow_pages.specs.PrivateMemory.{PrivateMemory}
use Rattle.machine.specs.Actors.{root, root_memory}
use Rattle.machine.specs.CopyGrant.{is_copy_alone}
use Rattle.grant_sheet.proofs.RootSheets.{root_declared}
use Rattle.machine.specs.Preparation.{with_declared}
use Rattle.machine.proofs.ByNumber.{found_there, found_beside}
use Rattle.run_laws.specs.RootBegins.{copied_under, declared_copy, RootBegins}

-- copies with one more, where the right is that to a copy alone
abbrev with_one : Copies → ℕ → Option Right → List ℕ → Copies
with_one copies n r bytes = if is_copy_alone r then with_copy copies n bytes else copies

one_there : (copies : Copies) (n : ℕ) (r : Option Right) (bytes : List ℕ) → copy_at copies n ≡ None → copy_at (with_one copies n r bytes) n ≡ copied_under r bytes
one_there copies n None bytes none = none
one_there copies n (Some right.Cow) bytes none = found_there copies n bytes
one_there copies n (Some right.Read) bytes none = none
one_there copies n (Some right.ReadWrite) bytes none = none

one_beside : (copies : Copies) (n : ℕ) (r : Option Right) (bytes : List ℕ) (m : ℕ) → (m ≡ n → ⊥) → copy_at (with_one copies n r bytes) m ≡ copy_at copies m
one_beside copies n r bytes m apart = by_test (is_copy_alone r)
  where
    by_test : (t : Bool) → copy_at (if t then with_copy copies n bytes else copies) m ≡ copy_at copies m
    by_test true = found_beside copies n bytes m apart
    by_test false = refl

-- those of further tags leave the copies below them
below_stays : (copies : Copies) (n : ℕ) (ts : List TagEntry) (m : ℕ) → m < n → copy_at (with_declared copies n ts) m ≡ copy_at copies m
below_stays copies n [] m less = refl
below_stays copies n (t ∷ ts) m less =
    below_stays (with_one copies n t.right (declared_segment n t).bytes) (n + 1) ts m (omega (arith, less))
    ∙ one_beside copies n t.right (declared_segment n t).bytes m (λ is. omega (arith, less, is))

copy_of_tag : (copies : Copies) (n : ℕ) (ts : List TagEntry) (k : ℕ) → ((m : ℕ) → n ≤ m → copy_at copies m ≡ None) → copy_at (with_declared copies n ts) (n + k) ≡ declared_copy (slice_get ts k)
copy_of_tag copies n [] k none = none (n + k) (omega arith)
copy_of_tag copies n (t ∷ ts) zero none =
    let bytes = (declared_segment n t).bytes in
    let here : n + 0 ≡ n = omega arith in
    ap (copy_at (with_declared (with_one copies n t.right bytes) (n + 1) ts)) here
    ∙ (below_stays (with_one copies n t.right bytes) (n + 1) ts n (omega arith) ∙ one_there copies n t.right bytes (none n (omega arith)))
copy_of_tag copies n (t ∷ ts) (suc k) none =
    let bytes = (declared_segment n t).bytes in
    let next : n + suc k ≡ n + 1 + k = omega arith in
    ap (copy_at (with_declared (with_one copies n t.right bytes) (n + 1) ts)) next
    ∙ copy_of_tag (with_one copies n t.right bytes) (n + 1) ts k (λ m above. one_beside copies n t.right bytes m (λ is. omega (arith, above, is)) ∙ none m (omega (arith, above)))

has_memory : (i : Image) → (root i).memory ≡ root_memory i
has_memory i = unfold root in refl

root_copies : (i : Image) (slot : ℕ) → copy_at (root i).memory.copies slot ≡ declared_copy (slice_get i.tags slot)
root_copies i slot =
    let from : 0 + slot ≡ slot = omega arith in
    ap (λ (m : PrivateMemory). copy_at m.copies slot) (has_memory i) ∙ (ap (copy_at (with_declared [] 0 i.tags)) (sym from) ∙ copy_of_tag [] 0 i.tags slot (λ m above. refl))

pub root_begins : RootBegins
unfolding root
root_begins i = (
  refl,
  (
    root i,
    refl,
    record {
      name = refl;
      compartment = refl;
      own = refl;
      hart = refl;
      ranges = refl;
      copies = root_copies i;
      sheet = root_declared i.tags i.fds i.user i.root;
      fuel = refl;
      gates = refl;
      fresh = (refl, refl, refl, refl, refl, refl, refl);
    },
  ),
)
