-- The number of workers that an argument is.
use Rattle.std.proofs.Common.{◌≡◌, ℕ, ◌^◌, ◌<◌, ◌≤◌, ◌&&◌, true, false, List, [], ◌∷◌, length, get_or, Some, None, Result, Ok, Err, inl, inr, refl, ap, sym, ◌∙◌, subst, arith}
use Rattle.std.specs.Prelude.{nat_le}
use Rattle.std.specs.Fmt.{decimal}
use Rattle.std.specs.Result.{result_ok, OkIff}
use Rattle.std.specs.Str.{bytes_eq}
use Rattle.std.specs.Str.Parse.{AllDigits, digits_value, ParsesUnsigned}
use Rattle.std.specs.Cmp.Lexicographic.{bytes_decides}
use Rattle.std.proofs.lemmas.Bool.{cases_lt, leb-true, le-leb, and_parts, and_from, false_from_ne_true}
use Rattle.std.proofs.lemmas.Fmt.{decimal_is_IsNumeral, decimal-digits_value, first_decimal, decimal_digit}
use Rattle.std.proofs.lemmas.Str.Parse.{IsNumeralModel, numerals_by_value, tells_digits, digit_from_value, parse_plain}
use Rattle.cli_inputs.specs.Words.{is_workers, workers_in, begins_with_nonzero_digit}

own : IsNumeralModel (AllDigits 10) (digits_value 10)
own = numerals_by_value (AllDigits 10) tells_digits

-- bytes that are the decimal form of no number from 1 to 200
none_in : (bytes : List ℕ) → (1 ≤ digits_value 10 bytes → digits_value 10 bytes ≤ 200 → decimal (digits_value 10 bytes) ≡ bytes → ⊥) → workers_in bytes ≡ None
unfolding workers_in
none_in bytes h =
    let k = digits_value 10 bytes in
    let other : is_workers k bytes ≡ false = false_from_ne_true _ (λ e.
    let text = and_parts (nat_le 1 k && nat_le k 200) (bytes_eq (decimal k) bytes) e in
    let limits = and_parts (nat_le 1 k) (nat_le k 200) text.0 in
    h (leb-true _ _ limits.0) (leb-true _ _ limits.1) ((bytes_decides (decimal k) bytes).0 text.1)) in
    rw other refl

-- the decimal form of one from 1 to 200 begins so, and has digits alone
first_of : (ds : List ℕ) → 0 < length ds → 48 < get_or ds 0 0 → AllDigits 10 ds → begins_with_nonzero_digit ds ≡ true
first_of [] some first all = absurd (omega arith)
first_of (d ∷ ds) some first all =
    let digit = digit_from_value d all.0 in
    and_from _ _ (le-leb 49 d (omega arith)) (le-leb d 57 (grind arith))

begins : (k : ℕ) → 1 ≤ k → k ≤ 200 → begins_with_nonzero_digit (decimal k) ≡ true
begins k some few =
    let numeral = decimal_is_IsNumeral k (omega arith) in
    first_of (decimal k) numeral.0.0 (first_decimal k (omega arith) (omega arith)) numeral.0.1

-- bytes that begin otherwise
pub none_behind : (bytes : List ℕ) → begins_with_nonzero_digit bytes ≡ false → workers_in bytes ≡ None
none_behind bytes other = none_in bytes (λ some few e.
    let leads : begins_with_nonzero_digit bytes ≡ true = subst (λ ds. begins_with_nonzero_digit ds ≡ true) e (begins (digits_value 10 bytes) some few) in
    let both = sym other ∙ leads in
    cc)

no_plus : (bytes : List ℕ) → begins_with_nonzero_digit bytes ≡ true → get_or bytes 0 0 ≡ 43 → ⊥
no_plus [] leads plus = cc
no_plus (c ∷ cs) leads plus = omega (arith, leb-true 49 c (and_parts (nat_le 49 c) (nat_le c 57) leads).0, plus)

no_zero : (bytes : List ℕ) → begins_with_nonzero_digit bytes ≡ true → get_or bytes 0 0 ≡ 48 → ⊥
no_zero [] leads zero = cc
no_zero (c ∷ cs) leads zero = omega (arith, leb-true 49 c (and_parts (nat_le 49 c) (nat_le c 57) leads).0, zero)

-- what is parsed
plain : {E : Type 0} (bytes : List ℕ) (r : Result ℕ E) → ParsesUnsigned 32 10 bytes r → begins_with_nonzero_digit bytes ≡ true
    → OkIff r (AllDigits 10 bytes × (0 < length bytes) × (digits_value 10 bytes < 2 ^ 32)) (digits_value 10 bytes)
plain bytes r parses leads = parse_plain own 32 bytes r parses (no_plus bytes leads)

-- nothing was parsed
pub none_unparsed : {E : Type 0} (bytes : List ℕ) (r : Result ℕ E) → ParsesUnsigned 32 10 bytes r → begins_with_nonzero_digit bytes ≡ true → result_ok r ≡ None → workers_in bytes ≡ None
none_unparsed bytes (Ok n) parses leads none = cc
none_unparsed bytes (Err e) parses leads none = none_in bytes (λ some few same.
    let numeral = decimal_is_IsNumeral (digits_value 10 bytes) (omega arith) in
    plain bytes (Err e) parses leads (subst (AllDigits 10) same numeral.0.1, subst (λ ds. 0 < length ds) same numeral.0.0, omega arith))

-- a number was parsed
parsed : {E : Type 0} (bytes : List ℕ) (r : Result ℕ E) (n : ℕ) → ParsesUnsigned 32 10 bytes r → begins_with_nonzero_digit bytes ≡ true → result_ok r ≡ Some n
    → (digits_value 10 bytes ≡ n) × (decimal (digits_value 10 bytes) ≡ bytes)
parsed bytes (Err e) n parses leads is = cc
parsed {E} bytes (Ok m) n parses leads is =
    let h = plain {E = E} bytes (Ok m) parses leads in
    let same : m ≡ n = cc in
    (sym h.1 ∙ same, decimal-digits_value own bytes h.0.0 h.0.1 (λ zero. absurd (no_zero bytes leads zero)) (omega (arith, h.0.2)))

pub none_past : {E : Type 0} (bytes : List ℕ) (r : Result ℕ E) (n : ℕ) → ParsesUnsigned 32 10 bytes r → begins_with_nonzero_digit bytes ≡ true → result_ok r ≡ Some n
    → 200 < n → workers_in bytes ≡ None
none_past bytes r n parses leads is past =
    none_in bytes (λ some few same. omega (arith, (parsed bytes r n parses leads is).0))

pub workers_are : {E : Type 0} (bytes : List ℕ) (r : Result ℕ E) (n : ℕ) → ParsesUnsigned 32 10 bytes r → begins_with_nonzero_digit bytes ≡ true → result_ok r ≡ Some n
    → n ≤ 200 → workers_in bytes ≡ Some n
unfolding workers_in
workers_are bytes r n parses leads is few =
    let k = digits_value 10 bytes in
    let h = parsed bytes r n parses leads is in
    let some : 1 ≤ k = elim (cases_lt 0 k) [
      | inl above ↦ omega arith
      | inr none ↦ absurd (no_zero bytes leads (ap (λ (ds : List ℕ). get_or ds 0 0) (sym h.1 ∙ decimal_digit k (omega arith)) ∙ omega (arith, none)))
    ] in
    let all : is_workers k bytes ≡ true =
    and_from _ _ (and_from _ _ (le-leb 1 k some) (le-leb k 200 (omega (arith, h.0)))) ((bytes_decides (decimal k) bytes).1 h.1) in
    (rw all refl) ∙ ap Some h.0
