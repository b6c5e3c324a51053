-- Decimal digits, and the number whose decimal form they are.
use Rattle.std.proofs.Common.{◌≡◌, ℕ, zero, suc, ◌+◌, ◌*◌, ◌^◌, ◌<◌, ◌≤◌, ◌==◌, ◌&&◌, true, false, ltb, List, [], ◌∷◌, length, take, get_or, Some, None, inl, inr, refl, ap, sym, ◌∙◌, subst, arith}
use Rattle.std.specs.Char.{digit_value}
use Rattle.std.specs.Fmt.{decimal}
use Rattle.std.specs.List.{All}
use Rattle.std.specs.Cmp.Lexicographic.{bytes_decides}
use Rattle.std.specs.Str.Parse.{AllDigits, digits_value}
use Rattle.std.proofs.lemmas.Bool.{cases_lt, lt-ltb, ltb-true, and_parts, and_from, ne_eqb, false_from_ne_true}
use Rattle.std.proofs.lemmas.Fmt.{decimal_is_IsNumeral, decimal-digits_value, first_decimal, decimal_digit, decimal_nonempty}
use Rattle.std.proofs.lemmas.Int.Digits.{digits_value_more}
use Rattle.std.proofs.lemmas.List.Elements.{All-nil, All-cons}
use Rattle.std.proofs.lemmas.Option.{cond_some}
use Rattle.std.proofs.lemmas.Str.Parse.{IsNumeralModel, numerals_by_value, tells_digits, digits_value-take-le}
use Rattle.wedge_base.specs.Names.{same}
use Rattle.report_text.specs.Schedules.{part_in, BeginsNoNumber}

own : IsNumeralModel (AllDigits 10) (digits_value 10)
own = numerals_by_value (AllDigits 10) tells_digits

-- the digits of a decimal form
pub digits_of_decimal : (k : ℕ) → k < 2 ^ 32 → AllDigits 10 (decimal k)
digits_of_decimal k small = (decimal_is_IsNumeral k (omega arith)).0.1

digit_there : (bytes : List ℕ) (i : ℕ) → AllDigits 10 bytes → i < length bytes → digit_value (get_or bytes i 0) < 10
digit_there [] i all there = absurd (omega arith)
digit_there (b ∷ bs) zero all there = all.0
digit_there (b ∷ bs) (suc i) all there = digit_there bs i all.1 (omega arith)

-- bytes that are the decimal form of no number below 2 ^ 32
no_part : (bytes : List ℕ) → (digits_value 10 bytes < 2 ^ 32 → decimal (digits_value 10 bytes) ≡ bytes → ⊥) → part_in bytes ≡ None
unfolding part_in
no_part bytes h =
    let k = digits_value 10 bytes in
    let no : (ltb k (2 ^ 32) && same (decimal k) bytes) ≡ false = false_from_ne_true _ (λ e. h (ltb-true _ _ (and_parts _ _ e).0) ((bytes_decides (decimal k) bytes).0 (and_parts _ _ e).1)) in
    rw no refl

-- digits without a leading zero
pub part_is : (bytes : List ℕ) → AllDigits 10 bytes → 0 < length bytes → (get_or bytes 0 0 ≡ 48 → length bytes ≡ 1) → digits_value 10 bytes < 2 ^ 32 → part_in bytes ≡ Some (digits_value 10 bytes)
unfolding part_in
part_is bytes all some first small =
    let k = digits_value 10 bytes in
    let e : decimal k ≡ bytes = decimal-digits_value own bytes all some first (omega arith) in
    let yes : (ltb k (2 ^ 32) && same (decimal k) bytes) ≡ true = and_from _ _ (lt-ltb _ _ small) ((bytes_decides (decimal k) bytes).1 e) in
    rw yes refl

-- what is read is the decimal form of what it is read as
pub part_text : (bytes : List ℕ) (k : ℕ) → part_in bytes ≡ Some k → decimal k ≡ bytes
unfolding part_in
part_text bytes k h =
    let n = digits_value 10 bytes in
    let found = cond_some (ltb n (2 ^ 32) && same (decimal n) bytes) n k h in
    ap decimal (sym found.1) ∙ (bytes_decides (decimal n) bytes).0 (and_parts _ _ found.0).1

-- a decimal form is read as its number
pub part_again : (k : ℕ) → k < 2 ^ 32 → part_in (decimal k) ≡ Some k
part_again k small =
    let numeral = decimal_is_IsNumeral k (omega arith) in
    let first : get_or (decimal k) 0 0 ≡ 48 → length (decimal k) ≡ 1 = λ e.
    elim (cases_lt 0 k) [
      | inl some ↦ absurd (omega (arith, first_decimal k some (omega arith)))
      | inr none ↦ ap length (decimal_digit k (omega arith))
    ] in
    part_is (decimal k) numeral.0.1 numeral.0.0 first (omega (arith, numeral.1)) ∙ ap Some numeral.1

-- bytes that begin as none
pub part_begins : (bytes : List ℕ) → BeginsNoNumber bytes → part_in bytes ≡ None
part_begins bytes h =
    let k = digits_value 10 bytes in
    no_part bytes (λ small e.
    elim h [
      | inl none ↦ absurd (omega (arith, decimal_nonempty k (omega arith), ap length e))
      | inr led ↦
          let first : get_or (decimal k) 0 0 ≡ 48 = ap (λ (ds : List ℕ). get_or ds 0 0) e ∙ led.0 in
          elim (cases_lt 0 k) [
            | inl some ↦ absurd (omega (arith, first_decimal k some (omega arith)))
            | inr none ↦ absurd (omega (arith, led.1, ap length e, ap length (decimal_digit k (omega arith))))
          ]
    ])

-- a byte that is no digit, or with which the number is 2 ^ 32 or more
pub part_stops : (bytes : List ℕ) (i : ℕ) → i < length bytes → (digit_value (get_or bytes i 0) < 10 → digits_value 10 (take i bytes) * 10 + digit_value (get_or bytes i 0) < 2 ^ 32 → ⊥) → part_in bytes ≡ None
part_stops bytes i there h = no_part bytes (λ small e.
    let k = digits_value 10 bytes in
    let all : AllDigits 10 bytes = subst (AllDigits 10) e (digits_of_decimal k small) in
    h (digit_there bytes i all there) (omega (arith, digits_value_more 10 bytes i there, digits_value-take-le 10 bytes (i + 1) (omega arith))))

-- digits are not a byte that is none
pub digits_without : (c : ℕ) (ds : List ℕ) → 10 ≤ digit_value c → AllDigits 10 ds → All (λ b. (b == c) ≡ false) ds
digits_without c [] other all = All-nil (λ b. (b == c) ≡ false)
digits_without c (d ∷ ds) other all = All-cons (λ b. (b == c) ≡ false) d ds (ne_eqb d c (λ e. absurd (omega (arith, ap digit_value e)))) (digits_without c ds other all.1)
