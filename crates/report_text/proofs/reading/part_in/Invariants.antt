use Rattle.std.proofs.Common.{◌≡◌, ◌^◌, ◌<◌, take}
use Rattle.std.specs.Str.Parse.{AllDigits, digits_value}
use Rattle.report_text.proofs.reading.part_in.Given as goal

-- The bytes so far are digits, and the number is theirs, and below 2 ^ 32.
abbrev pub invariant-loop-byte : goal.invariant-loop-byte
invariant-loop-byte l = record {
  digits : AllDigits 10 (take l.byte-index l.bytes);
  small : l.number < 2 ^ 32;
  value : l.number ≡ digits_value 10 (take l.byte-index l.bytes);
}
