-- The bytes of one word more; and the parts of the workload, made one by one.
use Rattle.std.proofs.Common.{◌≡◌, ℕ, zero, suc, ◌+◌, List, [], ◌∷◌, ◌++◌, ap, ◌∙◌, arith, append-nil}
use Rattle.std.specs.List.{flat_map, range_with_len}
use Rattle.std.proofs.lemmas.Grind.{flat_map-append}
use Rattle.wedge_base.specs.Images.{Image}
use Rattle.wedge_base.specs.declared.image.Procedure.{Procedure}
use Rattle.wedge_base.specs.declared.image.MemoryRange.{MemoryRange}
use Rattle.wedge_base.specs.declared.image.TagEntry.{TagEntry}
use Rattle.wedge_base.specs.declared.image.FdEntry.{FdEntry}
use Rattle.wedge_base.specs.declared.image.FileEntry.{FileEntry}
use Rattle.std.specs.Prelude.{codes}
use Rattle.workload.specs.Workload.{root_address, program_words, two_procedures, input_tag, out_stream, fuel_for, workload}

range_more : (a n : ℕ) → range_with_len a (suc n) ≡ range_with_len a n ++ (a + n) ∷ []
range_more a zero = let same : a ≡ a + 0 = omega arith in ap (λ (k : ℕ). k ∷ []) same
range_more a (suc n) =
    let same : a + 1 + n ≡ a + suc n = omega arith in
    ap (λ l. a ∷ l) (range_more (a + 1) n ∙ ap (λ (k : ℕ). range_with_len (a + 1) n ++ k ∷ []) same)

-- one number more adds its bytes at the end
pub bytes_more : (f : ℕ → List ℕ) (i : ℕ) → flat_map f (range_with_len 0 (i + 1)) ≡ flat_map f (range_with_len 0 i) ++ f i
bytes_more f i =
    let one : i + 1 ≡ suc i = omega arith in
    let last : 0 + i ≡ i = omega arith in
    ap (λ k. flat_map f (range_with_len 0 k)) one
    ∙ ap (flat_map f) (range_more 0 i ∙ ap (λ (k : ℕ). range_with_len 0 i ++ k ∷ []) last)
    ∙ flat_map-append f (range_with_len 0 i) (i ∷ [])
    ∙ ap (λ l. flat_map f (range_with_len 0 i) ++ l) (append-nil (f i))

abbrev made : ℕ → List ℕ → List Procedure → List MemoryRange → List TagEntry → List FdEntry → List FileEntry → List ℕ → Image
made n ws ps rs ts ds fs root = record {
  fuel = fuel_for n;
  base = root_address;
  words = ws;
  procedures = ps;
  entry = root_address;
  ranges = rs;
  tags = ts;
  fds = ds;
  files = fs;
  user = 0;
  root = root;
}

pub made_is : (n : ℕ) (ws : List ℕ) (ps : List Procedure) (rs : List MemoryRange) (ts : List TagEntry) (ds : List FdEntry) (fs : List FileEntry) (root : List ℕ)
    → ws ≡ program_words n → ps ≡ two_procedures → rs ≡ [] → ts ≡ input_tag n ∷ [] → ds ≡ out_stream ∷ [] → fs ≡ [] → root ≡ codes "/"
    → made n ws ps rs ts ds fs root ≡ workload n
made_is n ws ps rs ts ds fs root e1 e2 e3 e4 e5 e6 e7 =
    ap (λ x. made n x ps rs ts ds fs root) e1
    ∙ ap (λ x. made n (program_words n) x rs ts ds fs root) e2
    ∙ ap (λ x. made n (program_words n) two_procedures x ts ds fs root) e3
    ∙ ap (λ x. made n (program_words n) two_procedures [] x ds fs root) e4
    ∙ ap (λ x. made n (program_words n) two_procedures [] (input_tag n ∷ []) x fs root) e5
    ∙ ap (λ x. made n (program_words n) two_procedures [] (input_tag n ∷ []) (out_stream ∷ []) x root) e6
    ∙ ap (λ x. made n (program_words n) two_procedures [] (input_tag n ∷ []) (out_stream ∷ []) [] x) e7
