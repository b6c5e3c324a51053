-- The forms of single fields.
use Rattle.std.proofs.Common.{◌≡◌, ℕ, ◌^◌, ◌<◌, ◌≤◌, Bool, true, leb, List, ◌++◌, length, take, drop, Ok, refl, sym, ap, subst, ◌∙◌, length-append, arith}
use Rattle.std.specs.Prelude.{min}
use Rattle.std.specs.Int.{Width, w16, w32, byte_len, from_le_bytes, to_le_bytes}
use Rattle.std.proofs.lemmas.Bool.{leb-true}
use Rattle.std.proofs.lemmas.Bool.Decides.{nat_tests}
use Rattle.std.proofs.lemmas.List.{length-take, take-append-drop, take_at, drop_at}
use Rattle.std.proofs.lemmas.Nat.{le_bytes_2, le_bytes_4, from_le_bytes-to_le_bytes_2, from_le_bytes-to_le_bytes_4}
use Rattle.image_form.specs.declared.fault.Why.{Why}
use Rattle.image_form.specs.declared.fault.Why.TheVariants.{Truncated, Range, Order}
use Rattle.image_form.specs.Encoding.{encode_number, encode_string, encode_content}
use Rattle.image_form.specs.Forms.{is_below}
use Rattle.image_form.specs.Reading.{◌>>=◌, Read, place, bytes_at, number_at, short_at, checked_at, string_at, formed_at, key_at, content_at}
use Rattle.image_form.proofs.Form.{IsBytes, IsBytes-drop, IsBytes-take, bind_ok, ok_is, demand_ok, Takes, IsForm, seq, reworded, tested}

taken : (total n : ℕ) (bytes t rest : List ℕ) → IsBytes bytes → bytes_at total n bytes ≡ Ok (t, rest) → (n ≤ length bytes) × (take n bytes ≡ t) × (drop n bytes ≡ rest)
unfolding bytes_at
taken total n bytes t rest fits e =
    let d = demand_ok (leb n (length bytes)) (place total bytes) Truncated (Ok (take n bytes, drop n bytes)) (t, rest) e in
    let p = ok_is (take n bytes, drop n bytes) (t, rest) d.1 in
    (leb-true n (length bytes) d.0, ap (λ (q : List ℕ × List ℕ). q.0) p, ap (λ (q : List ℕ × List ℕ). q.1) p)

taken_again : (total n : ℕ) (t rest : List ℕ) → length t ≡ n → bytes_at total n (t ++ rest) ≡ Ok (t, rest)
unfolding bytes_at
taken_again total n t rest long =
    let enough : leb n (length (t ++ rest)) ≡ true = grind (arith, nat_tests, length-append t rest) in
    rw (enough, take_at t rest n long, drop_at t rest n long) refl

pub bytes_form : (total n : ℕ) → IsForm (bytes_at total n) (λ t. t) (λ t. length t ≡ n)
bytes_form total n = record {
  takes = λ bytes t rest fits e.
      let k = taken total n bytes t rest fits e in (
        record { parts = sym (take-append-drop n bytes) ∙ ap (λ x. x ++ drop n bytes) k.1 ∙ ap (λ x. t ++ x) k.2; rest_fits = subst IsBytes k.2 (IsBytes-drop n bytes fits) },
        omega (arith, length-take n bytes, ap length k.1, k.0),
      );
  again = λ t rest long. taken_again total n t rest long;
}

-- ---- numbers

record IsWide (w : Width) (limit : ℕ) : Type 0 where
  len : (n : ℕ) → length (to_le_bytes w n) ≡ byte_len w
  back : (bytes : List ℕ) → length bytes ≡ byte_len w → IsBytes bytes → to_le_bytes w (from_le_bytes w bytes) ≡ bytes
  again : (n : ℕ) → n < limit → from_le_bytes w (to_le_bytes w n) ≡ n
  below : (bytes : List ℕ) → IsBytes bytes → from_le_bytes w bytes < limit

wide32 : IsWide w32 (2 ^ 32)
wide32 = record {
  len = λ n. refl;
  back = λ bytes len fits. le_bytes_4 bytes _ len fits refl;
  again = λ n lt. from_le_bytes-to_le_bytes_4 n lt;
  below = λ bytes fits. omega (arith, fits 0, fits 1, fits 2, fits 3);
}

wide16 : IsWide w16 (2 ^ 16)
wide16 = record {
  len = λ n. refl;
  back = λ bytes len fits. le_bytes_2 bytes _ len fits refl;
  again = λ n lt. from_le_bytes-to_le_bytes_2 n lt;
  below = λ bytes fits. omega (arith, fits 0, fits 1);
}

abbrev decoded : Width → List ℕ → List ℕ → Read ℕ
decoded w front rest = Ok (from_le_bytes w front, rest)

wide_form : (w : Width) (limit : ℕ) → IsWide w limit → (total : ℕ) → IsForm (λ bytes. bytes_at total (byte_len w) bytes >>= decoded w) (to_le_bytes w) (λ n. n < limit)
wide_form w limit wide total = record { takes = took; again = repeated }
  where
    took : (bytes : List ℕ) (n : ℕ) (rest : List ℕ) → IsBytes bytes → (bytes_at total (byte_len w) bytes >>= decoded w) ≡ Ok (n, rest) → Takes bytes (to_le_bytes w n) rest × (n < limit)
    took bytes n rest fits e =
        let b = bind_ok (bytes_at total (byte_len w) bytes) (decoded w) (n, rest) e in
        let t = (bytes_form total (byte_len w)).takes bytes b.0.0 b.0.1 fits b.1 in
        let k = taken total (byte_len w) bytes b.0.0 b.0.1 fits b.1 in
        let front_fits : IsBytes b.0.0 = subst IsBytes k.1 (IsBytes-take (byte_len w) bytes fits) in
        let p = ok_is (from_le_bytes w b.0.0, b.0.1) (n, rest) b.2 in
        let n-is : from_le_bytes w b.0.0 ≡ n = ap (λ (q : ℕ × List ℕ). q.0) p in
        let rest-is : b.0.1 ≡ rest = ap (λ (q : ℕ × List ℕ). q.1) p in
        let encoded : b.0.0 ≡ to_le_bytes w n = sym (wide.back b.0.0 t.1 front_fits) ∙ ap (to_le_bytes w) n-is in
        (subst (λ x. Takes bytes x rest) encoded (subst (λ r. Takes bytes b.0.0 r) rest-is t.0), rw (← n-is) (wide.below b.0.0 front_fits))

    repeated : (n : ℕ) (rest : List ℕ) → n < limit → (bytes_at total (byte_len w) (to_le_bytes w n ++ rest) >>= decoded w) ≡ Ok (n, rest)
    repeated n rest lt =
        ap (λ r. r >>= decoded w) (taken_again total (byte_len w) (to_le_bytes w n) rest (wide.len n))
        ∙ ap (λ m. Ok (m, rest)) (wide.again n lt)

pub number_form : (total : ℕ) → IsForm (number_at total) encode_number (λ n. n < 2 ^ 32)
unfolding number_at encode_number
number_form total = wide_form w32 (2 ^ 32) wide32 total

pub short_form : (total : ℕ) → IsForm (short_at total) (to_le_bytes w16) (λ n. n < 2 ^ 16)
unfolding short_at
short_form total = wide_form w16 (2 ^ 16) wide16 total

-- a number that passes a test
pub checked_form : (test : ℕ → Bool) (why : Why) (total : ℕ) → IsForm (checked_at test why total) encode_number (λ n. (test n ≡ true) × (n < 2 ^ 32))
unfolding checked_at
checked_form test why total = tested test why total (number_form total)

-- ---- texts

string_form : (total : ℕ) → IsForm (string_at total) encode_string (λ t. length t < 2 ^ 16)
unfolding string_at encode_string
string_form total =
    reworded encode_string (λ t. length t < 2 ^ 16)
    (seq _ _ _ (λ t. length t) (short_form total) (λ n small. bytes_form total n) (λ n t small long. long))
    (λ t good. let short : length t ≡ min (length t) 65535 = omega (arith, good.0) in (ap (λ n. to_le_bytes w16 n ++ t) short, good.0))
    (λ t small. (small, refl))

pub formed_form : (form : List ℕ → Bool) (total : ℕ) → IsForm (formed_at form total) encode_string (λ t. (form t ≡ true) × (length t < 2 ^ 16))
unfolding formed_at
formed_form form total = tested form Range total (string_form total)

pub key_form : (form : List ℕ → Bool) (before : List ℕ) (total : ℕ) → IsForm (key_at form before total) encode_string (λ t. (is_below before t ≡ true) × ((form t ≡ true) × (length t < 2 ^ 16)))
unfolding key_at
key_form form before total = tested (is_below before) Order total (formed_form form total)

-- bytes after a length that passes a test
pub content_form : (test : ℕ → Bool) (total : ℕ) → IsForm (content_at test total) encode_content (λ t. (test (length t) ≡ true) × (length t < 2 ^ 32))
unfolding content_at encode_content
content_form test total =
    reworded encode_content (λ t. (test (length t) ≡ true) × (length t < 2 ^ 32))
    (seq _ _ _ (λ t. length t) (checked_form test Range total) (λ n good. bytes_form total n) (λ n t good long. long))
    (λ t good. (refl, good.0))
    (λ t rule. (rule, refl))
