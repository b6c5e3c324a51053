-- The forms of words, procedures and data ranges.
use Rattle.std.proofs.Common.{◌≡◌, ℕ, ◌+◌, ◌*◌, ◌^◌, ◌<◌, ◌≤◌, true, ◌&&◌, not, leb, List, [], ◌++◌, length, Ok, refl, ap, arith}
use Rattle.std.specs.List.{sum_by, AllByRecursion}
use Rattle.std.proofs.lemmas.List.{append-nil}
use Rattle.wedge_base.specs.declared.image.Procedure.{Procedure}
use Rattle.wedge_base.specs.declared.image.MemoryRange.{MemoryRange}
use Rattle.image_form.specs.declared.fault.Why.TheVariants.{Range, Overlap, Limit}
use Rattle.wedge_base.specs.Texts.{is_name}
use Rattle.image_form.specs.Forms.{is_below}
use Rattle.image_form.specs.Encoding.{encode_number, encode_string, encode_content, encode_table, encode_procedure, encode_range}
use Rattle.wedge_base.specs.Images.{begins_at, is_text_address}
use Rattle.wedge_base.specs.Maps.{is_among}
use Rattle.image_form.specs.Rules.{high_end, most_procedures, most_ranges, most_range_bytes, addresses, range_end, is_off_text, IsProcedure, AreProcedures, IsRange, AreRanges}
use Rattle.image_form.specs.Reading.{◌>>=◌, demand, last_of, bytes_at, number_at, checked_at, is_base, is_word_count, words_at, address_at, procedure_at, procedures_at, is_range_length, range_length_at, range_entry_at, ranges_at}
use Rattle.image_form.proofs.Form.{IsForm, seq, ended, demanded, placed, tested, reworded}
use Rattle.image_form.proofs.FieldForms.{bytes_form, number_form, checked_form, key_form}
use Rattle.image_form.proofs.TableForms.{table_form, list_form, scan_there, scan_back, plain_there, plain_back}
use Rattle.image_form.proofs.Scans.{names_scan, addresses_scan, ranges_scan, size_of, sum_there, sum_back, base_there, base_back, word_count_there, word_count_back, address_there, address_back, range_length_there, range_length_back, name_short}

-- ---- words

pub record AreWords (base : ℕ) (words : List ℕ) : Type 0 where
  pub some : 1 ≤ length words
  pub inside : base + 4 * length words ≤ high_end
  pub fit : AllByRecursion (λ w. w < 2 ^ 32) words

pub words_form : (base total : ℕ) → IsForm (words_at base total) (encode_table encode_number) (AreWords base)
unfolding words_at
words_form base total =
    reworded (encode_table encode_number) (AreWords base)
    (seq _ _ _ (λ ws. length ws) (checked_form (is_word_count base) Range total)
    (λ n good. list_form (λ _. number_at total) encode_number (λ _ w. w < 2 ^ 32) (λ _. number_form total) n)
    (λ n ws good r. r.0))
    (λ ws good.
    let count = word_count_there base (length ws) good.0.0 in
    (refl, record { some = count.0; inside = count.1; fit = plain_there (λ w. w < 2 ^ 32) [] ws good.1.1 }))
    (λ ws rule. ((word_count_back base (length ws) rule.some rule.inside, omega (arith, rule.inside)), (refl, plain_back (λ w. w < 2 ^ 32) [] ws rule.fit)))

-- ---- procedures

abbrev IsNew : List Procedure → Procedure → Type 0
IsNew front p = not (is_among (addresses front) p.address) ≡ true

abbrev IsNext : ℕ → ℕ → List Procedure → Procedure → Type 0
IsNext base count front p = (is_below (last_of (λ x. x.name) [] front) p.name ≡ true) × (IsNew front p × IsProcedure base count p)

address_form : (base count : ℕ) (front : List Procedure) (total : ℕ) → IsForm (address_at base count front total) encode_number (λ n. (not (is_among (addresses front) n) ≡ true) × ((is_text_address base count n ≡ true) × (n < 2 ^ 32)))
unfolding address_at
address_form base count front total = tested (λ n. not (is_among (addresses front) n)) Overlap total (checked_form (is_text_address base count) Range total)

procedure_form : (base count total : ℕ) → base + 4 * count ≤ high_end → (front : List Procedure) → IsForm (procedure_at base count total front) encode_procedure (IsNext base count front)
unfolding procedure_at
procedure_form base count total inside front =
    reworded encode_procedure (IsNext base count front)
    (seq _ _ _ (λ p. p.name) (key_form is_name (last_of (λ x. x.name) [] front) total)
    (λ name g. seq _ _ _ (λ p. p.address) (address_form base count front total)
    (λ address h. ended (record { name = name; address = address }))
    (λ address p h e. ap (λ x. x.address) e))
    (λ name p g r. ap (λ x. x.name) r.1))
    (λ p good.
    let a = address_there base count p.address good.1.0.1.0 in (
      ap (λ x. encode_string p.name ++ x) (append-nil (encode_number p.address)),
      (good.0.0, (good.1.0.0, record { named = good.0.1.0; aligned = a.0; above = a.1; below = a.2 })),
    ))
    (λ p rule.
    let is = rule.1.1 in (
      (rule.0, (is.named, omega (arith, name_short p.name is.named))),
      ((rule.1.0, (address_back base count p.address is.aligned is.above is.below, omega (arith, is.below, inside))), refl),
    ))

pub procedures_form : (base count total : ℕ) → base + 4 * count ≤ high_end → IsForm (procedures_at base count total) (encode_table encode_procedure) (AreProcedures base count)
unfolding procedures_at
procedures_form base count total inside =
    let names = names_scan (λ (p : Procedure). p.name) in
    reworded (encode_table encode_procedure) (AreProcedures base count)
    (tested (λ ps. begins_at ps base) Range total (table_form (procedure_at base count total) encode_procedure (IsNext base count) (procedure_form base count total inside) most_procedures total (omega arith)))
    (λ ps good.
    let named = scan_there names (λ f p. IsNew f p × IsProcedure base count p) [] ps good.1.1 in
    let placed = scan_there addresses_scan (λ f p. IsProcedure base count p) [] ps named.1 in (
      refl,
      record {
        not_too_many = good.1.0;
        each = plain_there (IsProcedure base count) [] ps placed.1;
        names_ascend = named.0;
        addresses_differ = placed.0;
        one_at_base = good.0;
      },
    ))
    (λ ps rule.
    let placed = scan_back addresses_scan (λ f p. IsProcedure base count p) [] ps rule.addresses_differ (plain_back (IsProcedure base count) [] ps rule.each) in
    (rule.one_at_base, (rule.not_too_many, scan_back names (λ f p. IsNew f p × IsProcedure base count p) [] ps rule.names_ascend placed)))

-- ---- data ranges

abbrev IsWithin : List MemoryRange → MemoryRange → Type 0
IsWithin front r = leb (sum_by size_of front + size_of r) most_range_bytes ≡ true

abbrev IsApart : ℕ → ℕ → List MemoryRange → MemoryRange → Type 0
IsApart base count front r = (leb (last_of range_end 0 front) r.base && is_off_text base count r.base (length r.bytes)) ≡ true

abbrev IsNextRange : ℕ → ℕ → List MemoryRange → MemoryRange → Type 0
IsNextRange base count front r = IsApart base count front r × (IsWithin front r × IsRange r)

length_form : (base : ℕ) (front : List MemoryRange) (total : ℕ) → IsForm (range_length_at base front total) encode_number (λ n. (leb (sum_by size_of front + n) most_range_bytes ≡ true) × ((is_range_length base n ≡ true) × (n < 2 ^ 32)))
unfolding range_length_at
length_form base front total = tested (λ n. leb (sum_by size_of front + n) most_range_bytes) Limit total (checked_form (is_range_length base) Range total)

range_form : (base count total : ℕ) (front : List MemoryRange) → IsForm (range_entry_at base count total front) encode_range (IsNextRange base count front)
unfolding range_entry_at encode_content
range_form base count total front =
    reworded encode_range (IsNextRange base count front)
    (placed (λ at bytes.
    checked_at is_base Range total bytes >>= λ start rest.
    range_length_at start front total rest >>= λ n rest.
    demand (leb (last_of range_end 0 front) start && is_off_text base count start n) at Overlap (
    bytes_at total n rest >>= λ content rest.
    Ok (record { base = start; bytes = content }, rest))) total (λ at.
    seq _ _ _ (λ r. r.base) (checked_form is_base Range total)
    (λ start g. seq _ _ _ (λ r. length r.bytes) (length_form start front total)
    (λ n h. demanded (leb (last_of range_end 0 front) start && is_off_text base count start n) at Overlap (λ _.
    seq _ _ _ (λ r. r.bytes) (bytes_form total n)
    (λ content long. ended (record { base = start; bytes = content }))
    (λ content r long e. ap (λ x. x.bytes) e)))
    (λ n r h g. g.1.0))
    (λ start r g h. ap (λ x. x.base) h.1.1.1)))
    (λ r good.
    let b = base_there r.base good.0.0 in
    let n = range_length_there r.base (length r.bytes) good.1.0.1.0 in (
      ap (λ x. encode_number r.base ++ (encode_number (length r.bytes) ++ x)) (append-nil r.bytes),
      (good.1.1.0, (good.1.0.0, record { base_aligned = b.0; base_low = b.1; length_aligned = n.0; some_byte = n.1; end_high = n.2 })),
    ))
    (λ r rule.
    let is = rule.1.1 in (
      (base_back r.base is.base_aligned is.base_low (omega (arith, is.some_byte, is.end_high)), omega (arith, is.end_high)),
      (
        (rule.1.0, (range_length_back r.base (length r.bytes) is.length_aligned is.some_byte is.end_high, omega (arith, is.end_high))),
        (rule.0, (refl, refl)),
      ),
    ))

pub ranges_form : (base count total : ℕ) → IsForm (ranges_at base count total) (encode_table encode_range) (AreRanges base count)
unfolding ranges_at
ranges_form base count total =
    let apart = ranges_scan base count in
    reworded (encode_table encode_range) (AreRanges base count)
    (table_form (range_entry_at base count total) encode_range (IsNextRange base count) (range_form base count total) most_ranges total (omega arith))
    (λ rs good.
    let a = scan_there apart (λ f r. IsWithin f r × IsRange r) [] rs good.1 in
    let s = sum_there (λ f r. IsRange r) [] rs a.1 (omega arith) in
    (refl, record { not_too_many = good.0; each = plain_there IsRange [] rs s.1; bytes_in_all = omega (arith, s.0); apart = a.0 }))
    (λ rs rule.
    let s = sum_back (λ f r. IsRange r) [] rs (omega (arith, rule.bytes_in_all)) (plain_back IsRange [] rs rule.each) in
    (rule.not_too_many, scan_back apart (λ f r. IsWithin f r × IsRange r) [] rs rule.apart s))
