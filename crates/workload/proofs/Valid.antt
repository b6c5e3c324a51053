-- The workload of up to 200 workers is an image.
use Rattle.std.proofs.Common.{◌≡◌, ℕ, ◌^◌, ◌<◌, ◌≤◌, true, false, List, [], ◌∷◌, ◌++◌, length, map, refl, arith, lit<, lit≤, ltb}
use Rattle.std.specs.Prelude.{IsTrue, codes, nat_lt}
use Rattle.std.specs.List.{AllByRecursion, list_all}
use Rattle.std.proofs.lemmas.Bool.{ltb-true}
use Rattle.rv_isa.specs.Encoding.{encoded}
use Rattle.wedge_base.specs.Texts.{is_name}
use Rattle.wedge_base.specs.Paths.{is_canonical}
use Rattle.image_form.specs.Rules.{IsImage}
use Rattle.image_form.specs.Forms.{is_root, is_below, ascend}
use Rattle.image_form.specs.Encoding.{encoding, encode_number, encode_string, encode_content, most_bytes}
use Rattle.workload.specs.Mnemonics.{li, s1}
use Rattle.workload.specs.Workload.{draft_text, creating_text, joining_text, worker_text, program_words, input_bytes, workload}

-- words that are below 2^32 by a test
below : (ws : List ℕ) → list_all (λ w. nat_lt w 4294967296) ws ≡ true → AllByRecursion (λ w. w < 2 ^ 32) ws
below [] h = tt
below (w ∷ ws) h = (elim (ltb w 4294967296) as (λ b. ltb w 4294967296 ≡ b → AllByRecursion (λ w. w < 2 ^ 32) (w ∷ ws)) [
  | true ↦ λ is. (ltb-true w 4294967296 is, below ws (rw is at h))
  | false ↦ λ is. let no = rw is at h in cc
]) refl

-- and those of two lists
below_both : (xs ys : List ℕ) → AllByRecursion (λ w. w < 2 ^ 32) xs → AllByRecursion (λ w. w < 2 ^ 32) ys → AllByRecursion (λ w. w < 2 ^ 32) (xs ++ ys)
below_both [] ys hx hy = hy
below_both (x ∷ xs) ys hx hy = (hx.0, below_both xs ys hx.1 hy)

-- so is the word that sets s1
count_below : (n : ℕ) → encoded (li s1 n) < 2 ^ 32
count_below n = omega arith

words_fit : (n : ℕ) → AllByRecursion (λ w. w < 2 ^ 32) (program_words n)
words_fit n =
    below_both (map encoded draft_text) (encoded (li s1 n) ∷ (map encoded creating_text ++ (encoded (li s1 n) ∷ map encoded (joining_text ++ worker_text)))) (below (map encoded draft_text) refl) (
      count_below n,
      below_both (map encoded creating_text) (encoded (li s1 n) ∷ map encoded (joining_text ++ worker_text)) (below (map encoded creating_text) refl)
          (count_below n, below (map encoded (joining_text ++ worker_text)) refl),
    )

named : (IsTrue (is_name (codes "main"))) × (IsTrue (is_name (codes "work"))) × (IsTrue (is_name (codes "input"))) × IsTrue (is_name (codes "out"))
unfolding is_name
named = (refl, refl, refl, refl)

ascending : IsTrue (ascend (codes "main" ∷ codes "work" ∷ [])) × IsTrue (ascend (codes "input" ∷ [])) × IsTrue (ascend (codes "out" ∷ []))
unfolding is_below
ascending = (refl, refl, refl)

rooted : IsTrue (is_root (codes "/"))
unfolding is_root is_canonical
rooted = refl

input_length : (n : ℕ) → length (input_bytes n) ≡ 256
input_length n = refl

encoding_length : (n : ℕ) → length (encoding (workload n)) ≤ most_bytes
unfolding encoding encode_number encode_string encode_content
encoding_length n = lit≤ tt

pub is_image : (n : ℕ) → n ≤ 200 → IsImage (workload n)
is_image n few = record {
  fuel_small = omega arith;
  text = record {
    base_aligned = refl;
    base_low = lit≤ tt;
    base_high = lit< tt;
    some_word = lit≤ tt;
    end_high = lit≤ tt;
    words_fit = words_fit n;
  };
  procedures = record {
    not_too_many = lit≤ tt;
    each = (record { named = named.0; aligned = refl; above = lit≤ tt; below = lit< tt }, (record { named = named.1; aligned = refl; above = lit≤ tt; below = lit< tt }, tt));
    names_ascend = ascending.0;
    addresses_differ = refl;
    one_at_base = refl;
  };
  entry_is_procedure = refl;
  ranges = record { not_too_many = lit≤ tt; each = tt; bytes_in_all = lit≤ tt; apart = refl };
  tags = record {
    not_too_many = lit≤ tt;
    each = (record { named = named.2; some_page = lit≤ tt; not_too_many_pages = lit≤ tt; content_fits = rw (input_length n) (lit≤ tt) }, tt);
    names_ascend = ascending.1;
  };
  fds = record {
    not_too_many = lit≤ tt;
    each = (record { named = named.3; content_suits = refl; length_fits = lit< tt }, tt);
    names_ascend = ascending.2;
  };
  files = record { not_too_many = lit≤ tt; each = tt; paths_ascend = refl };
  user_fits = lit< tt;
  root_canonical = rooted;
  small = encoding_length n;
}
