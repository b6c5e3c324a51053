-- The numbers of the forms whose number is written as it is.
use Rattle.std.proofs.Common.{◌≡◌, ◌≢◌, ◌-◌, ◌^◌, ◌%◌, true, ℤ, pos, negsuc, ◌≤ℤ◌, int_le, refl, arith}
use Rattle.std.proofs.lemmas.Bool.{and_parts, eqb-true}
use Rattle.std.proofs.lemmas.Int.{ints}
use Rattle.rv_isa.specs.declared.Form.{Form}
use Rattle.rv_isa.specs.declared.Form.TheVariants as form
use Rattle.rv_isa.specs.Numbers.{word_of}
use Rattle.rv_isa.specs.Ranges.{Ranges, ranges}
use Rattle.rv_asm.specs.Assembly.{is_within, allowed, is_allowed, instr_immediate}

le_there : (a b : ℤ) → int_le a b ≡ true → a ≤ℤ b
le_there a b h = grind (arith, ints)

low_there : (r : Ranges) (z : ℤ) → is_allowed r z ≡ true → r.low ≤ℤ z
low_there r z h = le_there r.low z (and_parts (int_le r.low z) (int_le z r.high) (and_parts (is_within r.low r.high z) _ h).0).0

high_there : (r : Ranges) (z : ℤ) → is_allowed r z ≡ true → z ≤ℤ r.high
high_there r z h = le_there z r.high (and_parts (int_le r.low z) (int_le z r.high) (and_parts (is_within r.low r.high z) _ h).0).1

step_there : (r : Ranges) (z : ℤ) → is_allowed r z ≡ true → word_of z % r.step ≡ 0
step_there r z h = eqb-true _ _ (and_parts (is_within r.low r.high z) _ h).1

allowed_plain : (f : Form) → f ≢ form.Upper → allowed f ≡ ranges f
allowed_plain form.Upper h = absurd (h refl)
allowed_plain form.Jump h = refl
allowed_plain _ h = refl

pub placed_plain : (f : Form) (z : ℤ) → f ≢ form.Upper → instr_immediate f z ≡ z
placed_plain form.Upper z h = absurd (h refl)
placed_plain form.Jump z h = refl
placed_plain _ z h = refl

pub plain_low : (f : Form) (z : ℤ) → f ≢ form.Upper → is_allowed (allowed f) z ≡ true → (ranges f).low ≤ℤ z
plain_low f z h k = rw (allowed_plain f h) at (low_there (allowed f) z k)

pub plain_high : (f : Form) (z : ℤ) → f ≢ form.Upper → is_allowed (allowed f) z ≡ true → z ≤ℤ (ranges f).high
plain_high f z h k = rw (allowed_plain f h) at (high_there (allowed f) z k)

pub plain_step : (f : Form) (z : ℤ) → f ≢ form.Upper → is_allowed (allowed f) z ≡ true → word_of z % (ranges f).step ≡ 0
plain_step f z h k = rw (allowed_plain f h) at (step_there (allowed f) z k)

pub low_fits : (f : Form) → negsuc (2 ^ 31 - 1) ≤ℤ (ranges f).low
low_fits form.Upper = omega (arith, ints)
low_fits _ = omega (arith, ints)

pub high_fits : (f : Form) → (ranges f).high ≤ℤ pos (2 ^ 31 - 1)
high_fits form.Upper = omega (arith, ints)
high_fits _ = omega (arith, ints)

pub least : (f : Form) (z : ℤ) → f ≢ form.Upper → is_allowed (allowed f) z ≡ true → negsuc (2 ^ 31 - 1) ≤ℤ z
least f z h k = omega (arith, ints, low_fits f, plain_low f z h k)

pub greatest : (f : Form) (z : ℤ) → f ≢ form.Upper → is_allowed (allowed f) z ≡ true → z ≤ℤ pos (2 ^ 31 - 1)
greatest f z h k = omega (arith, ints, high_fits f, plain_high f z h k)
