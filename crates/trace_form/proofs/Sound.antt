-- A trace without a fault is the text of its records.
use Rattle.std.proofs.Common.{◌≡◌, ℕ, ◌+◌, Bool, true, false, cond, List, [], ◌∷◌, ◌++◌, length, find, Option, Some, None, refl, ap, sym, subst, ◌∙◌, append_assoc, arith}
use Rattle.std.specs.Prelude.{codes}
use Rattle.std.specs.List.{flat_map, join_with_byte, AllByRecursion}
use Rattle.std.specs.Fmt.{decimal}
use Rattle.std.specs.Str.{bytes_eq}
use Rattle.std.proofs.lemmas.List.Splits.{join_with_byte-slice_split}
use Rattle.std.proofs.lemmas.Slice.Eq.{bytes_eq-Decides}
use Rattle.trace_form.specs.declared.words.Kind.{Kind}
use Rattle.trace_form.specs.declared.words.Mode.{Mode}
use Rattle.trace_form.specs.declared.fault.Why.{Why}
use Rattle.trace_form.specs.declared.fault.Why.TheVariants as why
use Rattle.trace_form.specs.Words.{kind_word, kinds, kind_of, mode_word, modes, mode_of}
use Rattle.trace_form.specs.Grammar.{TraceRecord, fields, line_pieces, space, line_feed, fields_of, first_line, record_line, end_line, with_end, lines_text, trace_text, IsRecord, IsTraceOf}
use Rattle.trace_form.specs.Fault.{fault_at}
use Rattle.trace_form.specs.Numbers.{is_decimal_of}
use Rattle.trace_form.specs.Line.{record_with, record_of, record_at, option_fault, line_fault, count_of, count_at}
use Rattle.trace_form.specs.FirstFault.{nothing_follows, fault_on, lines_fault, pieces_fault, first_fault}
use Rattle.trace_form.specs.Records.{with_first, records_from, records_after_first, records_of}
use Rattle.trace_form.proofs.RecordFaults.{is_record}

-- what a search finds passes its test
find_passes : {X : Type 0} (p : X → Bool) (xs : List X) (x : X) → find p xs ≡ Some x → p x ≡ true
find_passes p [] x h = absurd cc
find_passes {X = X} p (y ∷ ys) x h = by_first (p y) refl h (find_passes p ys x)
  where
    by_first : (b : Bool) → p y ≡ b → cond b (Some y) (find p ys) ≡ Some x → (find p ys ≡ Some x → p x ≡ true) → p x ≡ true
    by_first true e found later = let same : y ≡ x = cc in ap p (sym same) ∙ e
    by_first false e found later = later found

same_text : (xs ys : List ℕ) → bytes_eq xs ys ≡ true → xs ≡ ys
same_text xs ys h = (bytes_eq-Decides xs ys).0 h

kind_is_text : (word : List ℕ) (k : Kind) → kind_of word ≡ Some k → word ≡ kind_word k
kind_is_text word k h = same_text word (kind_word k) (find_passes (λ k. bytes_eq word (kind_word k)) kinds k h)

mode_is_text : (word : List ℕ) (m : Mode) → mode_of word ≡ Some m → word ≡ mode_word m
mode_is_text word m h = same_text word (mode_word m) (find_passes (λ m. bytes_eq word (mode_word m)) modes m h)

record_with_fields : (k m c h i : List ℕ) (ko : Option Kind) (mo : Option Mode) (r : TraceRecord) → kind_of k ≡ ko → mode_of m ≡ mo → record_with ko mo c h i ≡ Some r → k ∷ m ∷ c ∷ h ∷ i ∷ [] ≡ fields_of r
record_with_fields k m c h i None mo r e f is = absurd cc
record_with_fields k m c h i (Some kind) None r e f is = absurd cc
record_with_fields k m c h i (Some kind) (Some mode) r e f is =
    let made : TraceRecord = record { kind = kind; mode = mode; comp = c; chain = h; item = i } in
    let same : made ≡ r = cc in
    ap (λ (w : List ℕ). w ∷ m ∷ c ∷ h ∷ i ∷ []) (kind_is_text k kind e)
    ∙ ap (λ (w : List ℕ). kind_word kind ∷ w ∷ c ∷ h ∷ i ∷ []) (mode_is_text m mode f)
    ∙ ap fields_of same

record_fields : (fs : List (List ℕ)) (r : TraceRecord) → record_of fs ≡ Some r → fs ≡ fields_of r
record_fields [] r h = absurd cc
record_fields (a ∷ []) r h = absurd cc
record_fields (a ∷ b ∷ []) r h = absurd cc
record_fields (a ∷ b ∷ c ∷ []) r h = absurd cc
record_fields (a ∷ b ∷ c ∷ d ∷ []) r h = absurd cc
record_fields (a ∷ b ∷ c ∷ d ∷ e ∷ []) r h = record_with_fields a b c d e (kind_of a) (mode_of b) r refl refl h
record_fields (a ∷ b ∷ c ∷ d ∷ e ∷ f ∷ fs) r h = absurd cc

-- the line of a record is its fields, with a space between each two
pub record_is_text : (line : List ℕ) (r : TraceRecord) → record_at line ≡ Some r → line ≡ record_line r
unfolding record_at record_line
record_is_text line r h = sym (join_with_byte-slice_split space line) ∙ ap (join_with_byte space) (record_fields (fields line) r h)

count_fields : (fs : List (List ℕ)) (text : List ℕ) → count_of fs ≡ Some text → fs ≡ codes "end" ∷ text ∷ []
count_fields [] text h = absurd cc
count_fields (a ∷ []) text h = absurd cc
count_fields (a ∷ b ∷ []) text h = by_word (bytes_eq a (codes "end")) refl h
  where
    by_word : (t : Bool) → bytes_eq a (codes "end") ≡ t → cond t (Some b) None ≡ Some text → a ∷ b ∷ [] ≡ codes "end" ∷ text ∷ []
    by_word true e is = let same : b ≡ text = cc in ap (λ (w : List ℕ). w ∷ b ∷ []) (same_text a (codes "end") e) ∙ ap (λ (w : List ℕ). codes "end" ∷ w ∷ []) same
    by_word false e is = absurd cc
count_fields (a ∷ b ∷ c ∷ fs) text h = absurd cc

pub count_is_text : (line text : List ℕ) → count_at line ≡ Some text → line ≡ join_with_byte space (codes "end" ∷ text ∷ [])
unfolding count_at
count_is_text line text h = sym (join_with_byte-slice_split space line) ∙ ap (join_with_byte space) (count_fields (fields line) text h)

-- a line with a count is no record
pub count_apart : (line text : List ℕ) → count_at line ≡ Some text → record_at line ≡ None
unfolding count_at record_at
count_apart line text h = ap record_of (count_fields (fields line) text h)

past_shape : (ps : List (List ℕ)) → nothing_follows ps ≡ true → ps ≡ [] ∷ []
past_shape [] h = absurd cc
past_shape ([] ∷ []) h = refl
past_shape ([] ∷ q ∷ ps) h = absurd cc
past_shape ((c ∷ cs) ∷ ps) h = absurd cc

-- the lines from one on are the text of their records, after so many others
record IsText (count : ℕ) (ps : List (List ℕ)) : Type 0 where
  sound : AllByRecursion IsRecord (records_from ps)
  text : join_with_byte line_feed ps ≡ lines_text (count + length (records_from ps)) (records_from ps)

decimal_text : (text : List ℕ) (n : ℕ) → is_decimal_of n text ≡ true → text ≡ decimal n
unfolding is_decimal_of
decimal_text text n h = same_text text (decimal n) h

end_is_text : (line text : List ℕ) (count : ℕ) → count_at line ≡ Some text → is_decimal_of count text ≡ true → line ≡ end_line count
unfolding end_line
end_is_text line text count h d = count_is_text line text h ∙ ap (λ t. join_with_byte space (codes "end" ∷ t ∷ [])) (decimal_text text count d)

last_line : (count : ℕ) (line text : List ℕ) → count_at line ≡ Some text → is_decimal_of count text ≡ true → IsText count (line ∷ [] ∷ [])
last_line count line text h d =
    let none : records_from (line ∷ [] ∷ []) ≡ [] = ap (λ o. with_first o []) (count_apart line text h) in
    let ends : line ≡ end_line (count + 0) = end_is_text line text count h d ∙ ap end_line (omega arith) in
    record {
      sound = subst (λ rs. AllByRecursion IsRecord rs) (sym none) tt;
      text = ap with_end ends ∙ ap (λ (rs : List TraceRecord). lines_text (count + length rs) rs) (sym none);
    }

one_record : (count : ℕ) (line next : List ℕ) (rest : List (List ℕ)) (o : Option TraceRecord) → record_at line ≡ o → option_fault o ≡ None → IsText (count + 1) (next ∷ rest) → IsText count (line ∷ next ∷ rest)
one_record count line next rest None e h later = absurd cc
one_record count line next rest (Some r) e h later =
    let rs = records_from (next ∷ rest) in
    let some : records_from (line ∷ next ∷ rest) ≡ r ∷ rs = ap (λ o. with_first o rs) e in
    let total : count + 1 + length rs ≡ count + length (r ∷ rs) = omega arith in
    let sound : IsRecord r = is_record r h in
    record {
      sound = subst (λ rs. AllByRecursion IsRecord rs) (sym some) (sound, later.sound);
      text =
          ap (λ (l : List ℕ). l ++ line_feed ∷ join_with_byte line_feed (next ∷ rest)) (record_is_text line r e)
          ∙ ap (λ (t : List ℕ). record_line r ++ line_feed ∷ t) (later.text ∙ ap (λ n. lines_text n rs) total)
          ∙ sym (append_assoc (record_line r) (line_feed ∷ []) (lines_text (count + length (r ∷ rs)) rs))
          ∙ sym (append_assoc (with_end (record_line r)) (flat_map (λ r. with_end (record_line r)) rs) (with_end (end_line (count + length (r ∷ rs)))))
          ∙ ap (λ (qs : List TraceRecord). lines_text (count + length qs) qs) (sym some);
    }

line_shape : (line : List ℕ) → line_fault line ≡ option_fault (record_at line)
unfolding line_fault
line_shape line = refl

lines_is_text : (at count : ℕ) (ps : List (List ℕ)) → lines_fault at count ps ≡ None → IsText count ps
lines_is_text at count [] h = absurd cc
lines_is_text at count ([] ∷ []) h = absurd cc
lines_is_text at count ((c ∷ cs) ∷ []) h = absurd cc
lines_is_text at count (line ∷ next ∷ rest) h = by_line (count_at line) (line_fault line) refl refl h (lines_is_text (at + 1) (count + 1) (next ∷ rest))
  where
    by_line : (o : Option (List ℕ)) (w : Option Why) → count_at line ≡ o → line_fault line ≡ w → fault_on at count o w (next ∷ rest) (lines_fault (at + 1) (count + 1) (next ∷ rest)) ≡ None → (lines_fault (at + 1) (count + 1) (next ∷ rest) ≡ None → IsText (count + 1) (next ∷ rest)) → IsText count (line ∷ next ∷ rest)
    by_line (Some text) w e f is later = ended (is_decimal_of count text) (nothing_follows (next ∷ rest)) refl refl is
      where
        ended : (d p : Bool) → is_decimal_of count text ≡ d → nothing_follows (next ∷ rest) ≡ p → cond d (cond p None (fault_at (at + 1) why.Line)) (fault_at at why.Number) ≡ None → IsText count (line ∷ next ∷ rest)
        ended true true g k js = subst (λ ps. IsText count (line ∷ ps)) (sym (past_shape (next ∷ rest) k)) (last_line count line text e g)
        ended true false g k js = absurd cc
        ended false p g k js = absurd cc
    by_line None (Some w) e f is later = absurd cc
    by_line None None e f is later = one_record count line next rest (record_at line) refl (sym (line_shape line) ∙ f) (later is)

text_by : (bytes : List ℕ) (ps : List (List ℕ)) → line_pieces bytes ≡ ps → pieces_fault ps ≡ None → AllByRecursion IsRecord (records_after_first ps) × (bytes ≡ with_end first_line ++ lines_text (length (records_after_first ps)) (records_after_first ps))
text_by bytes [] e h = absurd cc
text_by bytes ([] ∷ []) e h = absurd cc
text_by bytes ((c ∷ cs) ∷ []) e h = absurd cc
text_by bytes (line ∷ next ∷ rest) e h = by_first (bytes_eq line first_line) refl h
  where
    by_first : (b : Bool) → bytes_eq line first_line ≡ b → cond b (lines_fault 2 0 (next ∷ rest)) (fault_at 1 why.Line) ≡ None → AllByRecursion IsRecord (records_from (next ∷ rest)) × (bytes ≡ with_end first_line ++ lines_text (length (records_from (next ∷ rest))) (records_from (next ∷ rest)))
    by_first true f is =
        let s = lines_is_text 2 0 (next ∷ rest) is in
        let rs = records_from (next ∷ rest) in
        let whole : line ++ line_feed ∷ join_with_byte line_feed (next ∷ rest) ≡ bytes = ap (join_with_byte line_feed) (sym e) ∙ join_with_byte-slice_split line_feed bytes in
        let total : 0 + length rs ≡ length rs = omega arith in (
          s.sound,
          sym whole ∙ ap (λ (l : List ℕ). l ++ line_feed ∷ join_with_byte line_feed (next ∷ rest)) (same_text line first_line f)
              ∙ ap (λ (t : List ℕ). first_line ++ line_feed ∷ t) (s.text ∙ ap (λ n. lines_text n rs) total),
        )
    by_first false f is = absurd cc

-- a trace with no fault is the text of its records
pub trace_is_text : (bytes : List ℕ) → first_fault bytes ≡ None → IsTraceOf bytes (records_of bytes)
unfolding first_fault records_of trace_text
trace_is_text bytes h = let s = text_by bytes (line_pieces bytes) refl h in record { records = s.0; text = s.1 }
