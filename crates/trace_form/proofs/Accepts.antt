-- The text of records is read as these records.
use Rattle.std.proofs.Common.{◌≡◌, ℕ, ◌+◌, ◌^◌, ◌<◌, ◌≤◌, ◌==◌, Bool, true, false, List, [], ◌∷◌, ◌++◌, length, Some, None, refl, ap, sym, subst, ◌∙◌, append_assoc, length-append, arith}
use Rattle.std.specs.Prelude.{codes}
use Rattle.std.specs.List.{All, flat_map, AllByRecursion}
use Rattle.std.specs.Fmt.{decimal}
use Rattle.std.proofs.lemmas.Bool.{and_parts, ne_eqb, ltb-true}
use Rattle.std.proofs.lemmas.List.Elements.{All-nil, All-cons, All-append}
use Rattle.std.proofs.lemmas.List.Splits.{slice_split_none, slice_split_at}
use Rattle.std.proofs.lemmas.Slice.Eq.{bytes_eq-Decides}
use Rattle.trace_form.specs.declared.words.Kind.{Kind}
use Rattle.trace_form.specs.declared.words.Kind.TheVariants as kind
use Rattle.trace_form.specs.declared.words.Mode.{Mode}
use Rattle.trace_form.specs.declared.words.Mode.TheVariants as mode
use Rattle.trace_form.specs.Grammar.{TraceRecord, fields, line_pieces, space, line_feed, fields_of, first_line, record_line, end_line, with_end, lines_text, trace_text, IsRecord, IsTraceOf}
use Rattle.trace_form.specs.Words.{kind_word, kind_of, mode_word, mode_of}
use Rattle.trace_form.specs.Numbers.{is_decimal_of}
use Rattle.trace_form.specs.Line.{record_with, record_of, record_at, option_fault, line_fault, count_of, count_at, IsReadAgain}
use Rattle.trace_form.specs.FirstFault.{lines_fault, pieces_fault, first_fault}
use Rattle.trace_form.specs.Records.{records_from, records_after_first, records_of}
use Rattle.trace_form.proofs.RecordFaults.{no_fault}
use Rattle.trace_form.proofs.AboveSpace.{is_above_space, above_space, kind_above, mode_above, IsAboveSpace, record_above, decimal_above}
use Rattle.trace_form.proofs.LineForms.{some_line}

none_pass : (q : ℕ → Bool) → ((c : ℕ) → is_above_space c ≡ true → q c ≡ false) → (text : List ℕ) → above_space text ≡ true → All (λ c. q c ≡ false) text
none_pass q apart [] h = All-nil (λ c. q c ≡ false)
none_pass q apart (c ∷ cs) h =
    let b = and_parts (is_above_space c) (above_space cs) h in
    All-cons (λ x. q x ≡ false) c cs (apart c b.0) (none_pass q apart cs b.1)

low : (d c : ℕ) → d ≤ 32 → is_above_space c ≡ true → (c == d) ≡ false
low d c h k = let over : 32 < c = ltb-true 32 c k in ne_eqb c d (λ e. omega arith)

no_space : (text : List ℕ) → above_space text ≡ true → All (λ c. (c == space) ≡ false) text
no_space text h = none_pass (λ c. c == space) (λ c k. low space c (omega arith) k) text h

no_feed : (text : List ℕ) → above_space text ≡ true → All (λ c. (c == line_feed) ≡ false) text
no_feed text h = none_pass (λ c. c == line_feed) (λ c k. low line_feed c (omega arith) k) text h

cut_field : (field text : List ℕ) → above_space field ≡ true → fields (field ++ space ∷ text) ≡ field ∷ fields text
cut_field field text h = slice_split_at (λ b. b == space) field space text (no_space field h) refl

last_field : (field : List ℕ) → above_space field ≡ true → fields field ≡ field ∷ []
last_field field h = slice_split_none (λ b. b == space) field (no_space field h)

joined : (field text : List ℕ) → above_space field ≡ true → All (λ c. (c == line_feed) ≡ false) text → All (λ c. (c == line_feed) ≡ false) (field ++ space ∷ text)
joined field text h k = All-append (λ c. (c == line_feed) ≡ false) field (space ∷ text) (no_feed field h) (All-cons (λ c. (c == line_feed) ≡ false) space text refl k)

-- the fields of a record's line
record_fields : (r : TraceRecord) → IsAboveSpace r → fields (record_line r) ≡ fields_of r
unfolding record_line
record_fields r b =
    let k = kind_word r.kind in
    let m = mode_word r.mode in
    cut_field k (m ++ space ∷ (r.comp ++ space ∷ (r.chain ++ space ∷ r.item))) (kind_above r.kind)
    ∙ ap (λ (fs : List (List ℕ)). k ∷ fs) (cut_field m (r.comp ++ space ∷ (r.chain ++ space ∷ r.item)) (mode_above r.mode)
    ∙ ap (λ (fs : List (List ℕ)). m ∷ fs) (cut_field r.comp (r.chain ++ space ∷ r.item) b.comp
    ∙ ap (λ (fs : List (List ℕ)). r.comp ∷ fs) (cut_field r.chain r.item b.chain
    ∙ ap (λ (fs : List (List ℕ)). r.chain ∷ fs) (last_field r.item b.item))))

record_feed : (r : TraceRecord) → IsAboveSpace r → All (λ c. (c == line_feed) ≡ false) (record_line r)
unfolding record_line
record_feed r b =
    let k = kind_word r.kind in
    let m = mode_word r.mode in
    joined k (m ++ space ∷ (r.comp ++ space ∷ (r.chain ++ space ∷ r.item))) (kind_above r.kind)
    (joined m (r.comp ++ space ∷ (r.chain ++ space ∷ r.item)) (mode_above r.mode)
    (joined r.comp (r.chain ++ space ∷ r.item) b.comp
    (joined r.chain r.item b.chain (no_feed r.item b.item))))

kind_again : (k : Kind) → kind_of (kind_word k) ≡ Some k
kind_again kind.Load = refl
kind_again kind.Store = refl
kind_again kind.Read = refl
kind_again kind.Append = refl
kind_again kind.Call = refl

mode_again : (m : Mode) → mode_of (mode_word m) ≡ Some m
mode_again mode.Shared = refl
mode_again mode.Private = refl

record_again : (r : TraceRecord) → IsAboveSpace r → record_at (record_line r) ≡ Some r
unfolding record_at
record_again r b =
    ap record_of (record_fields r b)
    ∙ ap (λ o. record_with o (mode_of (mode_word r.mode)) r.comp r.chain r.item) (kind_again r.kind)
    ∙ ap (λ o. record_with (Some r.kind) o r.comp r.chain r.item) (mode_again r.mode)

record_apart : (r : TraceRecord) → IsAboveSpace r → count_at (record_line r) ≡ None
unfolding count_at
record_apart r b = ap count_of (record_fields r b)

record_sound : (r : TraceRecord) → IsRecord r → IsAboveSpace r → line_fault (record_line r) ≡ None
unfolding line_fault
record_sound r h b = ap option_fault (record_again r b) ∙ no_fault r h

-- the line of a record of the grammar is read as this record
pub read_again : (r : TraceRecord) → IsRecord r → IsReadAgain r
read_again r h =
    let b = record_above r h in
    record { no_fault = record_sound r h b; read = record_again r b }

end_fields : (n : ℕ) → n < 2 ^ 64 → fields (end_line n) ≡ codes "end" ∷ decimal n ∷ []
unfolding end_line
end_fields n small = cut_field (codes "end") (decimal n) refl ∙ ap (λ (fs : List (List ℕ)). codes "end" ∷ fs) (last_field (decimal n) (decimal_above n small))

end_feed : (n : ℕ) → n < 2 ^ 64 → All (λ c. (c == line_feed) ≡ false) (end_line n)
unfolding end_line
end_feed n small = joined (codes "end") (decimal n) refl (no_feed (decimal n) (decimal_above n small))

end_again : (n : ℕ) → n < 2 ^ 64 → count_at (end_line n) ≡ Some (decimal n)
unfolding count_at
end_again n small = ap count_of (end_fields n small)

end_apart : (n : ℕ) → n < 2 ^ 64 → record_at (end_line n) ≡ None
unfolding record_at
end_apart n small = ap record_of (end_fields n small)

same_decimal : (n : ℕ) → is_decimal_of n (decimal n) ≡ true
unfolding is_decimal_of
same_decimal n = (bytes_eq-Decides (decimal n) (decimal n)).1 refl

cut_line : (line rest : List ℕ) → All (λ c. (c == line_feed) ≡ false) line → line_pieces (with_end line ++ rest) ≡ line ∷ line_pieces rest
cut_line line rest h = ap line_pieces (append_assoc line (line_feed ∷ []) rest) ∙ slice_split_at (λ b. b == line_feed) line line_feed rest h refl

one_line : (line : List ℕ) → All (λ c. (c == line_feed) ≡ false) line → line_pieces (with_end line) ≡ line ∷ [] ∷ []
one_line line h = slice_split_at (λ b. b == line_feed) line line_feed [] h refl

-- lines are read as records, with no fault
record Again (at count : ℕ) (rs : List TraceRecord) (ps : List (List ℕ)) : Type 0 where
  sound : lines_fault at count ps ≡ None
  read : records_from ps ≡ rs

ends_again : (at count : ℕ) → count < 2 ^ 64 → Again at count [] (end_line count ∷ [] ∷ [])
ends_again at count small = record { sound = rw (end_again count small, same_decimal count) refl; read = rw (end_apart count small) refl }

more_again : (at count : ℕ) (r : TraceRecord) (rs : List TraceRecord) (q : List ℕ) (qs : List (List ℕ)) → IsRecord r → IsAboveSpace r → Again (at + 1) (count + 1) rs (q ∷ qs) → Again at count (r ∷ rs) (record_line r ∷ q ∷ qs)
more_again at count r rs q qs h b later = record {
  sound = rw (record_apart r b, record_sound r h b) later.sound;
  read = rw (record_again r b) (ap (λ (l : List TraceRecord). r ∷ l) later.read);
}

lines_again : (at count total : ℕ) (rs : List TraceRecord) → AllByRecursion IsRecord rs → total ≡ count + length rs → total < 2 ^ 64 → Again at count rs (line_pieces (lines_text total rs))
lines_again at count total [] h e small =
    let P : List (List ℕ) → Type 0 = λ ps. Again at count [] ps in
    let same : count ≡ total = omega arith in
    let ends : end_line count ∷ [] ∷ [] ≡ line_pieces (lines_text total []) = ap (λ n. end_line n ∷ [] ∷ []) same ∙ sym (one_line (end_line total) (end_feed total small)) in
    subst P ends (ends_again at count (omega arith))
lines_again at count total (r ∷ rs) h e small =
    let b = record_above r h.0 in
    let later = lines_again (at + 1) (count + 1) total rs h.1 (omega arith) small in
    let s = some_line (lines_text total rs) in
    let Q : List (List ℕ) → Type 0 = λ ps. Again (at + 1) (count + 1) rs ps in
    let P : List (List ℕ) → Type 0 = λ ps. Again at count (r ∷ rs) ps in
    let cut : line_pieces (lines_text total (r ∷ rs)) ≡ record_line r ∷ s.0 ∷ s.1 =
    ap line_pieces (append_assoc (with_end (record_line r)) (flat_map (λ r. with_end (record_line r)) rs) (with_end (end_line total)))
    ∙ cut_line (record_line r) (lines_text total rs) (record_feed r b) ∙ ap (λ (ps : List (List ℕ)). record_line r ∷ ps) s.2 in
    subst P (sym cut) (more_again at count r rs s.0 s.1 h.0 b (subst Q s.2 later))

first_feed : All (λ c. (c == line_feed) ≡ false) first_line
first_feed = joined (codes "wedge-trace") (codes "1") refl (no_feed (codes "1") refl)

text_pieces : (rs : List TraceRecord) → line_pieces (trace_text rs) ≡ first_line ∷ line_pieces (lines_text (length rs) rs)
unfolding trace_text
text_pieces rs = cut_line first_line (lines_text (length rs) rs) first_feed

-- the text of records of the grammar has no fault
pub text_sound : (rs : List TraceRecord) → AllByRecursion IsRecord rs → length rs < 2 ^ 64 → first_fault (trace_text rs) ≡ None
unfolding first_fault
text_sound rs h small =
    let s = some_line (lines_text (length rs) rs) in
    let a = lines_again 2 0 (length rs) rs h (omega arith) small in
    ap pieces_fault (text_pieces rs ∙ ap (λ (ps : List (List ℕ)). first_line ∷ ps) s.2) ∙ ap (lines_fault 2 0) (sym s.2) ∙ a.sound

-- and is read as these records
pub text_read : (rs : List TraceRecord) → AllByRecursion IsRecord rs → length rs < 2 ^ 64 → records_of (trace_text rs) ≡ rs
unfolding records_of
text_read rs h small =
    let a = lines_again 2 0 (length rs) rs h (omega arith) small in
    ap records_after_first (text_pieces rs) ∙ a.read

some_byte : (line : List ℕ) → 0 < length (with_end line)
some_byte line = omega (arith, length-append line (line_feed ∷ []))

few : (total : ℕ) (rs : List TraceRecord) → length rs ≤ length (lines_text total rs)
few total [] = omega arith
few total (r ∷ rs) =
    let whole = append_assoc (with_end (record_line r)) (flat_map (λ r. with_end (record_line r)) rs) (with_end (end_line total)) in
    omega (arith, few total rs, ap length whole, length-append (with_end (record_line r)) (lines_text total rs), some_byte (record_line r))

-- a trace has no more records than bytes
pub few_records : (rs : List TraceRecord) → length rs ≤ length (trace_text rs)
unfolding trace_text
few_records rs = omega (arith, few (length rs) rs, length-append (with_end first_line) (lines_text (length rs) rs))

-- bytes that are a trace of records have no fault, and are read as these records
pub trace_sound : (bytes : List ℕ) (rs : List TraceRecord) → IsTraceOf bytes rs → length bytes < 2 ^ 64 → first_fault bytes ≡ None
trace_sound bytes rs t small = ap first_fault t.text ∙ text_sound rs t.records (omega (arith, few_records rs, ap length t.text))

pub trace_read : (bytes : List ℕ) (rs : List TraceRecord) → IsTraceOf bytes rs → length bytes < 2 ^ 64 → records_of bytes ≡ rs
trace_read bytes rs t small = ap records_of t.text ∙ text_read rs t.records (omega (arith, few_records rs, ap length t.text))
