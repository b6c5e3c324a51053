-- The numbers that an instruction's text has, read back.
use Rattle.std.proofs.Common.{◌≡◌, ℕ, suc, ◌-◌, ◌^◌, ◌<◌, ◌≤◌, ◌==◌, min, leb, Bool, true, false, not, ◌&&◌, List, [], ◌∷◌, length, get_or, Some, ℤ, pos, negsuc, ◌-ℤ◌, ◌≤ℤ◌, inl, inr, refl, ap, ◌∙◌, arith}
use Rattle.std.specs.List.{All, list_all}
use Rattle.std.specs.Char.{digit_value}
use Rattle.std.specs.Fmt.{digits, signed_decimal}
use Rattle.std.specs.Str.Parse.{AllDigits, digits_value}
use Rattle.std.proofs.lemmas.Bool.{cases_lt, ne_eqb, lt-ltb}
use Rattle.std.proofs.lemmas.Bool.Decides.{nat_tests}
use Rattle.std.proofs.lemmas.Fmt.{decimal_is_IsNumeral, digits_is_IsNumeral, first_decimal, decimal_digit}
use Rattle.std.proofs.lemmas.Int.{ints}
use Rattle.std.proofs.lemmas.Str.Parse.{digit_from_value}
use Rattle.rv_asm.specs.Operands.{is_opening}
use Rattle.wedge_base.specs.Texts.{starts_name, is_name}
use Rattle.rv_asm.specs.Numbers.{past_all, is_digit, natural, decimal, magnitude, literal, Number, parse_number}
use Rattle.rv_asm.specs.Numbers as numbers
use Rattle.rv_asm.proofs.Plain.{is_plain, none_pass}
use Rattle.rv_asm.proofs.Pieces.{IsOperand, operand_plain}

-- a byte is not one that a function tells from it
told : (f : ℕ → ℕ) (limit c k : ℕ) → f c < limit → limit ≤ f k → (c == k) ≡ false
told f limit c k h l = ne_eqb c k (λ e. absurd (omega (arith, ap f e)))

digit_is_not : (c k : ℕ) → digit_value c < 16 → 16 ≤ digit_value k → (c == k) ≡ false
digit_is_not c k h l = told digit_value 16 c k h l

-- a digit is a byte of an operand
plain_digit : (c : ℕ) → digit_value c < 16 → is_plain c ≡ true
plain_digit c h =
    let space : (c == 32) ≡ false = digit_is_not c 32 h (omega arith) in
    let tab : (c == 9) ≡ false = digit_is_not c 9 h (omega arith) in
    let comma : (c == 44) ≡ false = digit_is_not c 44 h (omega arith) in
    let comment : (c == 35) ≡ false = digit_is_not c 35 h (omega arith) in
    let end : (c == 10) ≡ false = digit_is_not c 10 h (omega arith) in
    rw (space, tab, comma, comment, end) refl

-- and opens no bracket
abbrev pub is_closed : ℕ → Bool
is_closed c = not (is_opening c)

closed_digit : (c : ℕ) → digit_value c < 16 → is_closed c ≡ true
closed_digit c h = let bracket : (c == 40) ≡ false = digit_is_not c 40 h (omega arith) in rw bracket refl

each_digit : (p : ℕ → Bool) (radix : ℕ) (ds : List ℕ) → ((c : ℕ) → digit_value c < radix → p c ≡ true) → AllDigits radix ds → list_all p ds ≡ true
each_digit p radix [] each h = refl
each_digit p radix (c ∷ cs) each h = rw (each c h.0) (each_digit p radix cs each h.1)

natural_is : (radix : ℕ) (ds : List ℕ) (n : ℕ) → 0 < length ds → AllDigits radix ds → digits_value radix ds ≡ n → n < past_all → natural radix ds ≡ Some n
unfolding natural
natural_is radix [] n l h e small = absurd (omega arith)
natural_is radix (c ∷ cs) n l h e small =
    let all : list_all (is_digit radix) (c ∷ cs) ≡ true = each_digit (is_digit radix) radix (c ∷ cs) (λ x k. lt-ltb (digit_value x) radix k) h in
    let cut : min n past_all ≡ n = omega arith in
    rw (all, e, cut) refl

decimal_is : (ds : List ℕ) → (get_or ds 0 0 == 48) ≡ false → decimal ds ≡ natural 10 ds
unfolding decimal natural
decimal_is [] h = refl
decimal_is (c ∷ []) h = refl
decimal_is (c ∷ d ∷ ds) h = rw h refl

magnitude_is : (ds : List ℕ) → (get_or ds 0 0 == 48) ≡ false → magnitude ds ≡ decimal ds
unfolding magnitude decimal
magnitude_is [] h = refl
magnitude_is (c ∷ []) h = refl
magnitude_is (c ∷ d ∷ ds) h = rw h refl

nothing_read : magnitude (48 ∷ []) ≡ Some 0
unfolding magnitude decimal natural
nothing_read = refl

-- decimal digits, read back
magnitude_decimal : (n : ℕ) → n < past_all → magnitude (digits 10 false n) ≡ Some n
magnitude_decimal n small =
    elim (cases_lt n 1) [
      | inl none ↦
          let e : n ≡ 0 = omega arith in
          rw e (ap magnitude (decimal_digit 0 (omega arith)) ∙ nothing_read)
      | inr some ↦
          let m = decimal_is_IsNumeral n (omega arith) in
          let first : (get_or (digits 10 false n) 0 0 == 48) ≡ false = ne_eqb _ _ (λ e. absurd (omega (arith, first_decimal n (omega arith) (omega arith)))) in
          magnitude_is (digits 10 false n) first
          ∙ decimal_is (digits 10 false n) first
          ∙ natural_is 10 (digits 10 false n) n m.0.0 m.0.1 m.1 small
    ]

and_three : (a b d : Bool) → b ≡ false → (a && b && d) ≡ false
and_three true b d h = rw h refl
and_three false b d h = refl

no_name : (c : ℕ) (cs : List ℕ) → starts_name c ≡ false → is_name (c ∷ cs) ≡ false
unfolding is_name
no_name c cs h = and_three _ (starts_name c) _ h

digit_starts : (c : ℕ) → digit_value c < 10 → starts_name c ≡ false
digit_starts c h =
    let range = digit_from_value c h in
    let a : leb 65 c ≡ false = grind (arith, nat_tests, range) in
    let b : leb 97 c ≡ false = grind (arith, nat_tests, range) in
    let d : (c == 95) ≡ false = ne_eqb c 95 (λ e. absurd (omega (arith, range))) in
    rw (a, b, d) refl

number_digits : (ds : List ℕ) (n : ℕ) → 0 < length ds → AllDigits 10 ds → magnitude ds ≡ Some n → parse_number ds ≡ Some (numbers.Literal (pos n))
unfolding parse_number literal
number_digits [] n l h e = absurd (omega arith)
number_digits (c ∷ cs) n l h e =
    let minus : (c == 45) ≡ false = digit_is_not c 45 (omega (arith, h.0)) (omega arith) in
    rw (no_name c cs (digit_starts c h.0), minus, e) refl

number_minus : (ds : List ℕ) (n : ℕ) → magnitude ds ≡ Some (suc n) → parse_number (45 ∷ ds) ≡ Some (numbers.Literal (negsuc n))
unfolding parse_number literal
number_minus ds n e =
    let less : pos 0 -ℤ pos (suc n) ≡ negsuc n = omega (arith, ints) in
    rw (no_name 45 ds refl, e) (ap (λ z. Some (numbers.Literal z)) less)

-- a signed number, read back
pub number_signed : (z : ℤ) → negsuc (2 ^ 31 - 1) ≤ℤ z → z ≤ℤ pos (2 ^ 31 - 1) → parse_number (signed_decimal z) ≡ Some (numbers.Literal z)
number_signed (pos n) low high =
    let small : n < 2 ^ 31 = omega (arith, ints) in
    let m = decimal_is_IsNumeral n (omega arith) in
    number_digits (digits 10 false n) n m.0.0 m.0.1 (magnitude_decimal n (omega arith))
number_signed (negsuc n) low high =
    let small : n < 2 ^ 31 = omega (arith, ints) in
    number_minus (digits 10 false (suc n)) n (magnitude_decimal (suc n) (omega arith))

hex_read : (ds : List ℕ) (n : ℕ) → natural 16 ds ≡ Some n → parse_number (48 ∷ 120 ∷ ds) ≡ Some (numbers.Literal (pos n))
unfolding parse_number literal magnitude
hex_read ds n e = rw (no_name 48 (120 ∷ ds) refl, e) refl

-- hexadecimal digits, read back
pub number_hex : (n : ℕ) → n < 2 ^ 32 → parse_number (48 ∷ 120 ∷ digits 16 false n) ≡ Some (numbers.Literal (pos n))
number_hex n small =
    let m = digits_is_IsNumeral 16 false (omega arith) (omega arith) n (omega arith) in
    hex_read (digits 16 false n) n (natural_is 16 (digits 16 false n) n m.0.0 m.0.1 m.1 (omega arith))

-- what stands for a number is an operand

plain_decimal : (n : ℕ) → n < 2 ^ 64 → list_all is_plain (digits 10 false n) ≡ true
plain_decimal n small = each_digit is_plain 10 (digits 10 false n) (λ c h. plain_digit c (omega arith)) (decimal_is_IsNumeral n small).0.1

closed_decimal : (n : ℕ) → n < 2 ^ 64 → list_all is_closed (digits 10 false n) ≡ true
closed_decimal n small = each_digit is_closed 10 (digits 10 false n) (λ c h. closed_digit c (omega arith)) (decimal_is_IsNumeral n small).0.1

pub operand_signed : (z : ℤ) → negsuc (2 ^ 31 - 1) ≤ℤ z → z ≤ℤ pos (2 ^ 31 - 1) → IsOperand (signed_decimal z)
operand_signed (pos n) low high =
    let small : n < 2 ^ 31 = omega (arith, ints) in
    operand_plain (digits 10 false n) (decimal_is_IsNumeral n (omega arith)).0.0 (plain_decimal n (omega arith))
operand_signed (negsuc n) low high =
    let small : n < 2 ^ 31 = omega (arith, ints) in
    operand_plain (45 ∷ digits 10 false (suc n)) (omega arith) (plain_decimal (suc n) (omega arith))

no_opening : (w : List ℕ) → list_all is_closed w ≡ true → All (λ c. is_opening c ≡ false) w
no_opening w h = none_pass is_closed is_opening shut w h
  where
    shut_by : (b : Bool) → not b ≡ true → b ≡ false
    shut_by true k = absurd cc
    shut_by false k = refl

    shut : (c : ℕ) → is_closed c ≡ true → is_opening c ≡ false
    shut c k = shut_by (is_opening c) k

pub closed_signed : (z : ℤ) → negsuc (2 ^ 31 - 1) ≤ℤ z → z ≤ℤ pos (2 ^ 31 - 1) → All (λ c. is_opening c ≡ false) (signed_decimal z)
closed_signed (pos n) low high =
    let small : n < 2 ^ 31 = omega (arith, ints) in
    no_opening (digits 10 false n) (closed_decimal n (omega arith))
closed_signed (negsuc n) low high =
    let small : n < 2 ^ 31 = omega (arith, ints) in
    no_opening (45 ∷ digits 10 false (suc n)) (closed_decimal (suc n) (omega arith))

pub operand_hex : (n : ℕ) → n < 2 ^ 32 → IsOperand (48 ∷ 120 ∷ digits 16 false n)
operand_hex n small =
    let m = digits_is_IsNumeral 16 false (omega arith) (omega arith) n (omega arith) in
    operand_plain (48 ∷ 120 ∷ digits 16 false n) (omega arith) (each_digit is_plain 16 (digits 16 false n) (λ c h. plain_digit c h) m.0.1)
