-- The trace of a schedule is in the grammar of traces.
use Rattle.std.proofs.Common.{◌≡◌, inl, inr, ℕ, ◌<◌, ◌≤◌, Bool, true, false, List, [], ◌∷◌, ◌++◌, length, map, refl, sym, ap, subst, ◌∙◌, arith}
use Rattle.std.proofs.lemmas.Bool.{and_parts, eqb-true}
use Rattle.std.proofs.lemmas.List.{length-map}
use Rattle.std.proofs.lemmas.List.Elements.{All-nil, All-cons}
use Rattle.std.proofs.lemmas.List.Splits.{slice_split_none, slice_split_at}
use Rattle.std.specs.Prelude.{nat_le, ◌&&◌, ◌||◌, ◌==◌}
use Rattle.std.specs.List.{All, AllByRecursion, list_all, join_with_byte}
use Rattle.wedge_base.specs.Images.{Image, begins_at, procedure_name}
use Rattle.wedge_base.specs.Texts.{starts_name, continues_name, is_name}
use Rattle.image_form.specs.Rules.{IsImage}
use Rattle.image_form.proofs.Addresses.{greatest_begins, base_not_above}
use Rattle.report_text.specs.Reports.{address_text}
use Rattle.trace_form.specs.declared.words.Kind.{Kind}
use Rattle.trace_form.specs.declared.words.Kind.TheVariants as kind
use Rattle.trace_form.specs.Grammar.{semicolon, at_sign, frames, most_frames, IsMemoryItem, IsStreamItem, IsGateItem, IsItem, IsRecord, IsTraceOf}
use Rattle.run_notes.specs.declared.items.NoteItem.{NoteItem}
use Rattle.run_notes.specs.declared.items.NoteItem.TheVariants as item
use Rattle.run_notes.specs.declared.note.Note.{Note}
use Rattle.run_log.specs.ChainLaws.{IsProcedureIn, IsFramed, IsNoteFramed}
use Rattle.run_log.specs.Logging.{log_of}
use Rattle.run_log.specs.NamedNotes.{IsTagNamed, IsStreamNamed, IsGateNamed, IsItemNamed, IsNamed}
use Rattle.run_log.proofs.FramedLogs.{chains_well_formed}
use Rattle.run_log.proofs.NamedLogs.{notes_named}
use Rattle.cb_log.specs.Logs.{records_of, trace_of}
use Rattle.cb_log.specs.Texts.{item_text, chain_text, record_of}
use Rattle.cb_log.proofs.Named.{name_of_procedure, name_of_tag, name_of_fd, path_of_file, address_is}

-- ---- chains: the names of procedures have no `;`

apart : (c : ℕ) → continues_name c ≡ true → (c == semicolon) ≡ false
apart c e = by_test (c == semicolon) refl
  where
    by_test : (t : Bool) → (c == semicolon) ≡ t → t ≡ false
    by_test false h = refl
    by_test true h = absurd (let f : continues_name semicolon ≡ true = subst (λ n. continues_name n ≡ true) (eqb-true c semicolon h) e in cc)

none_among : (cs : List ℕ) → list_all continues_name cs ≡ true → All (λ c. (c == semicolon) ≡ false) cs
none_among [] e = All-nil (λ c. (c == semicolon) ≡ false)
none_among (c ∷ cs) e =
    let b = and_parts (continues_name c) (list_all continues_name cs) e in
    All-cons (λ x. (x == semicolon) ≡ false) c cs (apart c b.0) (none_among cs b.1)

none_in : (name : List ℕ) → is_name name ≡ true → All (λ c. (c == semicolon) ≡ false) name
unfolding is_name
none_in [] e = absurd cc
none_in (c ∷ cs) e =
    let b = and_parts (nat_le (length cs) 63 && starts_name c) (list_all continues_name cs) e in
    let first = (and_parts (nat_le (length cs) 63) (starts_name c) b.0).1 in
    All-cons (λ x. (x == semicolon) ≡ false) c cs (apart c (ap (λ t. t || (nat_le 48 c && nat_le c 57) || c == 46) first)) (none_among cs b.1)

frames_again : (name : List ℕ) (names : List (List ℕ)) → list_all is_name (name ∷ names) ≡ true → frames (join_with_byte semicolon (name ∷ names)) ≡ name ∷ names
frames_again name [] e = slice_split_none (λ b. b == semicolon) name (none_in name (and_parts (is_name name) true e).0)
frames_again name (next ∷ names) e =
    let b = and_parts (is_name name) (list_all is_name (next ∷ names)) e in
    slice_split_at (λ c. c == semicolon) name semicolon (join_with_byte semicolon (next ∷ names)) (none_in name b.0) refl ∙ ap (λ fs. name ∷ fs) (frames_again next names b.1)

-- each frame is a procedure
frame_begins : (i : Image) (f : ℕ) → IsImage i → IsProcedureIn i f → begins_at i.procedures f ≡ true
frame_begins i f valid is =
    let above : i.base ≤ is.0 = base_not_above i is.0 1 is.1 in
    let low = valid.text.base_low in
    let positive : 0 < i.base = omega (arith, low) in
    ap (begins_at i.procedures) is.2 ∙ greatest_begins i.procedures is.0 i.base valid.procedures.one_at_base positive above

names_are : (i : Image) (fs : List ℕ) → IsImage i → AllByRecursion (IsProcedureIn i) fs → list_all is_name (map (procedure_name i) fs) ≡ true
names_are i [] valid all = refl
names_are i (f ∷ fs) valid all = ap (λ t. t && list_all is_name (map (procedure_name i) fs)) (name_of_procedure i f valid (frame_begins i f valid all.0)) ∙ names_are i fs valid all.1

record IsChainText (i : Image) (chain : List ℕ) : Type 0 where
  few : length (frames (chain_text i chain)) ≤ most_frames
  named : list_all is_name (frames (chain_text i chain)) ≡ true

chain_is : (i : Image) (compartment : ℕ) (chain : List ℕ) → IsImage i → begins_at i.procedures compartment ≡ true → IsFramed i compartment chain → IsChainText i chain
unfolding chain_text
chain_is i compartment [] valid begins framed = absurd framed
chain_is i compartment (f ∷ fs) valid begins framed =
    let first : is_name (procedure_name i f) ≡ true = name_of_procedure i f valid (ap (begins_at i.procedures) framed.0 ∙ begins) in
    let all : list_all is_name (map (procedure_name i) (f ∷ fs)) ≡ true = ap (λ t. t && list_all is_name (map (procedure_name i) fs)) first ∙ names_are i fs valid framed.2 in
    let again : frames (join_with_byte semicolon (map (procedure_name i) (f ∷ fs))) ≡ map (procedure_name i) (f ∷ fs) = frames_again (procedure_name i f) (map (procedure_name i) fs) all in
    let count = ap length again ∙ length-map (f ∷ fs) (procedure_name i) in
    let few = framed.1 in
    record { few = omega (arith, count, few); named = ap (list_all is_name) again ∙ all }

-- ---- items

tag_is : (i : Image) (it : NoteItem) → IsImage i → IsTagNamed i it → IsMemoryItem (item_text i it)
unfolding item_text
tag_is i (item.Declared tag) valid named = inl (record { rest = _; bytes = refl; form = name_of_tag i tag valid named })
tag_is i (item.Made compartment pc) valid named =
    inr (record { rest = procedure_name i compartment ++ (at_sign ∷ address_text pc); bytes = refl; form = record { comp = procedure_name i compartment; address = address_text pc; bytes = refl; name = name_of_procedure i compartment valid named; digits = address_is pc } })
tag_is i (item.Fd number) valid named = absurd named
tag_is i (item.File path) valid named = absurd named
tag_is i (item.Gate entry) valid named = absurd named

stream_is : (i : Image) (it : NoteItem) → IsImage i → IsStreamNamed i it → IsStreamItem (item_text i it)
unfolding item_text
stream_is i (item.Fd number) valid named = inl (record { rest = _; bytes = refl; form = name_of_fd i number valid named })
stream_is i (item.File path) valid named = inr (record { rest = path; bytes = refl; form = path_of_file i path valid named })
stream_is i (item.Declared tag) valid named = absurd named
stream_is i (item.Made compartment pc) valid named = absurd named
stream_is i (item.Gate entry) valid named = absurd named

gate_is : (i : Image) (it : NoteItem) → IsImage i → IsGateNamed i it → IsGateItem (item_text i it)
unfolding item_text
gate_is i (item.Gate entry) valid named = record { rest = procedure_name i entry; bytes = refl; form = name_of_procedure i entry valid named }
gate_is i (item.Declared tag) valid named = absurd named
gate_is i (item.Made compartment pc) valid named = absurd named
gate_is i (item.Fd number) valid named = absurd named
gate_is i (item.File path) valid named = absurd named

item_is : (i : Image) (k : Kind) (it : NoteItem) → IsImage i → IsItemNamed i k it → IsItem k (item_text i it)
item_is i kind.Load it valid named = tag_is i it valid named
item_is i kind.Store it valid named = tag_is i it valid named
item_is i kind.Read it valid named = stream_is i it valid named
item_is i kind.Append it valid named = stream_is i it valid named
item_is i kind.Call it valid named = gate_is i it valid named

-- ---- records

record_is : (i : Image) (n : Note) → IsImage i → IsNamed i n → IsNoteFramed i n → IsRecord (record_of i n)
record_is i n valid named framed =
    let chain = chain_is i n.compartment n.chain valid named.compartment framed in
    record { mode = named.mode; comp = name_of_procedure i n.compartment valid named.compartment; few = chain.few; chain = chain.named; item = item_is i n.kind n.item valid named.item }

records_are : (i : Image) (notes : List Note) → IsImage i → AllByRecursion (IsNamed i) notes → AllByRecursion (IsNoteFramed i) notes → AllByRecursion IsRecord (map (record_of i) notes)
records_are i [] valid named framed = tt
records_are i (n ∷ ns) valid named framed = (record_is i n valid named.0 framed.0, records_are i ns valid named.1 framed.1)

pub in_grammar : (i : Image) (names : List (List ℕ)) → IsImage i → IsTraceOf (trace_of i names) (records_of i names)
in_grammar i names valid = record { records = records_are i (log_of i names).notes valid (notes_named i names valid) (chains_well_formed i names); text = refl }

-- so are the bytes that are the trace of a schedule
pub written_in_grammar : (i : Image) (names : List (List ℕ)) (bytes : List ℕ) → IsImage i → bytes ≡ trace_of i names → IsTraceOf bytes (records_of i names)
written_in_grammar i names bytes valid is = subst (λ (bs : List ℕ). IsTraceOf bs (records_of i names)) (sym is) (in_grammar i names valid)
