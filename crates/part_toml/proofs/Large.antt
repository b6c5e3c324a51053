-- An image is not smaller than its text and its data.
use Rattle.std.proofs.Common.{◌≡◌, ◌+◌, ◌*◌, ◌≤◌, List, [], ◌∷◌, length, Some, None, ap, ◌∙◌, length-append, arith}
use Rattle.std.specs.List.{flat_map, sum_by}
use Rattle.std.proofs.lemmas.List.Concat.{flat_map-cons}
use Rattle.std.proofs.lemmas.List.Sums.{sum_by-cons}
use Rattle.toml.specs.Data.{Members}
use Rattle.wedge_base.specs.Images.{Image}
use Rattle.wedge_base.specs.declared.image.MemoryRange.{MemoryRange}
use Rattle.image_form.specs.Encoding.{most_bytes, encode_range, encode_content, encoding}
use Rattle.image_form.specs.Reading.{reading, refuse}
use Rattle.image_form.specs.declared.fault.Why.TheVariants.{Limit}
use Rattle.image_form.proofs.Measures.{words_long}
use Rattle.image_form.proofs.Finished.{too_long}
use Rattle.elf_in.specs.Program.{Program, size_of}
use Rattle.part_toml.specs.declared.keys.Part.TheVariants as part
use Rattle.part_toml.specs.Faults.{document_fault}
use Rattle.part_toml.specs.Faults.{Image as ImageRefusal}
use Rattle.part_toml.specs.Partition.{unless, by_image, refusal_in}
use Rattle.part_toml.specs.Joining.{image_with, document_with, Joins}

range_long : (r : MemoryRange) → length r.bytes ≤ length (encode_range r)
unfolding encode_content
range_long r = simp length-append (omega arith)

ranges_long : (rs : List MemoryRange) → sum_by (λ r. length r.bytes) rs ≤ length (flat_map encode_range rs)
ranges_long [] = omega arith
ranges_long (r ∷ rs) = omega (arith, range_long r, ranges_long rs, sum_by-cons (λ q. length q.bytes) r rs, ap length (flat_map-cons encode_range r rs), length-append (encode_range r) (flat_map encode_range rs))

-- the text and the data are among the bytes of an encoding
pub encoding_long : (i : Image) → 4 * length i.words + sum_by (λ r. length r.bytes) i.ranges ≤ length (encoding i)
unfolding encoding
encoding_long i = simp length-append (omega (arith, words_long i.words, ranges_long i.ranges))

-- so that an image with more text and data than an image may have is too long
pub too_large : (p : Program) (ms : Members) → (size_of p ≤ most_bytes → ⊥) → reading (encoding (image_with p ms)) ≡ refuse most_bytes Limit
unfolding image_with
too_large p ms large = too_long (encoding (image_with p ms)) (λ small. large (omega (arith, small, encoding_long (image_with p ms))))

-- ---- what a partition and a program are read as

-- there is no image where both are too large
pub large_refused : (p : Program) (ms : Members) → document_fault part.Joined ms ≡ None → (size_of p ≤ most_bytes → ⊥)
    → refusal_in (document_with p ms) ≡ Some (ImageRefusal most_bytes Limit)
unfolding document_with
large_refused p ms fine large =
    ap (λ o. refusal_in (unless o (by_image (reading (encoding (image_with p ms)))))) fine
    ∙ ap (λ m. refusal_in (by_image m)) (too_large p ms large)

-- an image of both has what the program gives
pub image_joins : (p : Program) (ms : Members) (i : Image) → i ≡ image_with p ms → Joins p i
unfolding image_with
image_joins p ms i is = record {
  base = ap (λ j. j.base) is;
  words = ap (λ j. j.words) is;
  procedures = ap (λ j. j.procedures) is;
  entry = ap (λ j. j.entry) is;
  ranges = ap (λ j. j.ranges) is;
}
