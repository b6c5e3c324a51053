-- The bytes of loads, one by one.
use Rattle.std.proofs.Common.{◌≡◌, ℕ, zero, suc, ◌+◌, ◌-◌, ◌*◌, ◌/◌, ◌%◌, ◌<◌, ◌≤◌, Bool, true, false, cond, List, [], ◌∷◌, ◌++◌, length, get_or, take, drop, replicate, refl, sym, ap, ◌∙◌, nat_lt, zero-add, add-zero, arith}
use Rattle.std.specs.Prelude.{slice_index, slice_range}
use Rattle.std.specs.Int.{w32, from_le_bytes}
use Rattle.std.proofs.lemmas.List.{get_or-take, get_or-drop, get_or-append-add, get_or_append_left, length-append, length-take, length-drop, length-replicate}
use Rattle.std.proofs.lemmas.Bool.Decides.{nat_tests}
use Rattle.std.proofs.Math.Nat.{mul-suc}
use Rattle.wedge_base.specs.Bytes.{zeros, padded_to_words}
use Rattle.elf_in.specs.declared.headers.ProgramHeader.{ProgramHeader}
use Rattle.elf_in.specs.Fields.{word_at, table}
use Rattle.elf_in.specs.Loads.{bytes_of_load, words_of, text_words, range_of}
use Rattle.elf_in.specs.Laws.{load_byte, IsTextOfLoad, IsData}

-- ---- zeros

all_zero : (n i : ℕ) → get_or {A = ℕ} (replicate n 0) i 0 ≡ 0
all_zero zero i = refl
all_zero (suc n) zero = refl
all_zero (suc n) (suc i) = all_zero n i

zeros_after : (xs : List ℕ) (n i : ℕ) → get_or (xs ++ zeros n) i 0 ≡ get_or xs i 0
unfolding zeros
zeros_after [] n i = all_zero n i
zeros_after (x ∷ xs) n zero = refl
zeros_after (x ∷ xs) n (suc i) = zeros_after xs n i

zeros_before : (n : ℕ) (xs : List ℕ) (k : ℕ) → get_or (zeros n ++ xs) (n + k) 0 ≡ get_or xs k 0
unfolding zeros
zeros_before n xs k = ap (λ m. get_or (replicate n 0 ++ xs) (m + k) 0) (sym (length-replicate {A = ℕ} n 0)) ∙ get_or-append-add (replicate n 0) xs k 0

zeros_first : (n : ℕ) (xs : List ℕ) (i : ℕ) → i < n → get_or (zeros n ++ xs) i 0 ≡ 0
unfolding zeros
zeros_first n xs i lt = get_or_append_left (replicate n 0) xs 0 i (omega (arith, length-replicate {A = ℕ} n 0)) ∙ all_zero n i

length-zeros : (n : ℕ) → length (zeros n) ≡ n
unfolding zeros
length-zeros n = length-replicate {A = ℕ} n 0

past_end : (xs : List ℕ) (i : ℕ) → length xs ≤ i → get_or xs i 0 ≡ 0
past_end [] i h = refl
past_end (x ∷ xs) zero h = absurd (omega arith)
past_end (x ∷ xs) (suc i) h = past_end xs i (omega arith)

-- ---- a load

part_at : (file : List ℕ) (o s k : ℕ) (b : Bool) → nat_lt k s ≡ b → get_or (take s (drop o file)) k 0 ≡ cond b (get_or file (o + k) 0) 0
part_at file o s k true h =
    let lt : k < s = grind (arith, nat_tests) in
    get_or-take s (drop o file) k 0 lt ∙ get_or-drop o file k 0
part_at file o s k false h =
    let le : s ≤ k = grind (arith, nat_tests) in
    past_end (take s (drop o file)) k (omega (arith, length-take s (drop o file)))

size_of_range : (o s : ℕ) → (o + s) - o ≡ s
size_of_range o s = omega arith

loaded_at : (file : List ℕ) (h : ProgramHeader) (k : ℕ) → get_or (bytes_of_load file h) k 0 ≡ load_byte file h k
unfolding bytes_of_load
loaded_at file h k =
    zeros_after (slice_range file h.offset (h.offset + h.file_size)) (h.memory_size - h.file_size) k
    ∙ ap (λ n. get_or (take n (drop h.offset file)) k 0) (size_of_range h.offset h.file_size)
    ∙ part_at file h.offset h.file_size k (nat_lt k h.file_size) refl

length-loaded : (file : List ℕ) (h : ProgramHeader) → h.file_size ≤ h.memory_size → h.offset + h.file_size ≤ length file → length (bytes_of_load file h) ≡ h.memory_size
unfolding bytes_of_load
length-loaded file h fits inside =
    let cut : length (take ((h.offset + h.file_size) - h.offset) (drop h.offset file)) ≡ h.file_size = omega (arith, length-take ((h.offset + h.file_size) - h.offset) (drop h.offset file), length-drop h.offset file) in
    length-append (slice_range file h.offset (h.offset + h.file_size)) (zeros (h.memory_size - h.file_size)) ∙ omega (arith, cut, length-zeros (h.memory_size - h.file_size))

-- ---- padded to words

padded_at : (xs : List ℕ) (i : ℕ) → get_or (padded_to_words xs) i 0 ≡ get_or xs i 0
padded_at xs i = zeros_after xs ((4 - length xs % 4) % 4) i

length-padded : (xs : List ℕ) → length (padded_to_words xs) ≡ length xs + (4 - length xs % 4) % 4
length-padded xs = length-append xs (zeros ((4 - length xs % 4) % 4)) ∙ ap (λ n. length xs + n) (length-zeros ((4 - length xs % 4) % 4))

whole_words : (n : ℕ) → (n + (4 - n % 4) % 4) % 4 ≡ 0
whole_words n = omega arith

-- ---- data

pub data_law : (file : List ℕ) (h : ProgramHeader) → h.file_size ≤ h.memory_size → h.offset + h.file_size ≤ length file → IsData file h (range_of file h).base (range_of file h).bytes
unfolding range_of
data_law file h fits inside =
    let r = h.address % 4 in
    let all = zeros r ++ bytes_of_load file h in
    let long : length all ≡ r + h.memory_size = length-append (zeros r) (bytes_of_load file h) ∙ omega (arith, length-zeros r, length-loaded file h fits inside) in
    record {
      begins = omega arith;
      whole = ap (λ n. n % 4) (length-padded all) ∙ whole_words (length all);
      long = omega (arith, length-padded all, long);
      short = omega (arith, length-padded all, long);
      before = λ i lt. padded_at all i ∙ zeros_first r (bytes_of_load file h) i lt;
      each = λ k. padded_at all (r + k) ∙ zeros_before r (bytes_of_load file h) k ∙ loaded_at file h k;
    }

-- ---- text

table_at : (entry : ℕ → ℕ) (size n at j : ℕ) → j < n → get_or (table entry size n at) j 0 ≡ entry (at + size * j)
unfolding table
table_at entry size zero at j lt = absurd (omega arith)
table_at entry size (suc n) at zero lt = ap entry (omega arith)
table_at entry size (suc n) at (suc j) lt = table_at entry size n (at + size) j (omega arith) ∙ ap entry (omega (arith, mul-suc size j))

length-table : (entry : ℕ → ℕ) (size n at : ℕ) → length (table entry size n at) ≡ n
unfolding table
length-table entry size zero at = refl
length-table entry size (suc n) at = ap suc (length-table entry size n (at + size))

four_at : (bytes : List ℕ) (at i : ℕ) → i < 4 → get_or (slice_range bytes at (at + 4)) i 0 ≡ get_or bytes (at + i) 0
four_at bytes at i lt = get_or-take ((at + 4) - at) (drop at bytes) i 0 (omega arith) ∙ get_or-drop at bytes i 0

word_of : (bytes : List ℕ) (at a b c d : ℕ) → get_or bytes (at + 0) 0 ≡ a → get_or bytes (at + 1) 0 ≡ b → get_or bytes (at + 2) 0 ≡ c → get_or bytes (at + 3) 0 ≡ d
    → word_at bytes at ≡ from_le_bytes w32 (a ∷ b ∷ c ∷ d ∷ [])
unfolding word_at
word_of bytes at a b c d p q r s =
    let e0 : slice_index (slice_range bytes at (at + 4)) 0 ≡ a = four_at bytes at 0 (omega arith) ∙ p in
    let e1 : slice_index (slice_range bytes at (at + 4)) 1 ≡ b = four_at bytes at 1 (omega arith) ∙ q in
    let e2 : slice_index (slice_range bytes at (at + 4)) 2 ≡ c = four_at bytes at 2 (omega arith) ∙ r in
    let e3 : slice_index (slice_range bytes at (at + 4)) 3 ≡ d = four_at bytes at 3 (omega arith) ∙ s in
    λ i. e0 i + e1 i * 256 + e2 i * 65536 + e3 i * 16777216

padded_load_at : (file : List ℕ) (h : ProgramHeader) (k : ℕ) → get_or (padded_to_words (bytes_of_load file h)) k 0 ≡ load_byte file h k
padded_load_at file h k = padded_at (bytes_of_load file h) k ∙ loaded_at file h k

pub text_law : (file : List ℕ) (h : ProgramHeader) → h.file_size ≤ h.memory_size → h.offset + h.file_size ≤ length file → IsTextOfLoad file h (text_words file h)
unfolding text_words words_of
text_law file h fits inside =
    let bytes = padded_to_words (bytes_of_load file h) in
    let size : length (bytes_of_load file h) ≡ h.memory_size = length-loaded file h fits inside in
    let long : length bytes ≡ length (bytes_of_load file h) + (4 - length (bytes_of_load file h) % 4) % 4 = length-padded (bytes_of_load file h) in
    let count : length (table (word_at bytes) 4 (length bytes / 4) 0) ≡ length bytes / 4 = length-table (word_at bytes) 4 (length bytes / 4) 0 in
    record {
      long = omega (arith, size, long, count);
      short = omega (arith, size, long, count);
      each = λ j lt.
          table_at (word_at bytes) 4 (length bytes / 4) 0 j (omega (arith, lt, count))
          ∙ ap (word_at bytes) (zero-add (4 * j))
          ∙ word_of bytes (4 * j) _ _ _ _ (ap (λ n. get_or bytes n 0) (add-zero (4 * j)) ∙ padded_load_at file h (4 * j)) (padded_load_at file h (4 * j + 1)) (padded_load_at file h (4 * j + 2)) (padded_load_at file h (4 * j + 3));
    }

-- the bytes of the text are four for each of its words
pub length-text : (file : List ℕ) (h : ProgramHeader) → length (padded_to_words (zeros 0 ++ bytes_of_load file h)) ≡ 4 * length (text_words file h)
unfolding zeros text_words words_of
length-text file h =
    let bytes = padded_to_words (bytes_of_load file h) in
    omega (arith, length-padded (bytes_of_load file h), length-table (word_at bytes) 4 (length bytes / 4) 0)
