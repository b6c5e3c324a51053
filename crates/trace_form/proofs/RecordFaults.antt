-- A record has no fault exactly where the grammar has it.
use Rattle.std.proofs.Common.{◌≡◌, ℕ, ◌+◌, ◌<◌, ◌≤◌, ◌==◌, ◌&&◌, ◌⊎◌, inl, inr, Bool, true, false, cond, List, [], ◌∷◌, ◌++◌, length, Option, Some, None, ltb, leb, refl, ap, sym, ◌∙◌, arith}
use Rattle.std.specs.Prelude.{codes}
use Rattle.std.specs.List.{All, list_all, slice_split, join_with_byte, before_first, after_first, position_or_len}
use Rattle.std.proofs.Math.ListN.{drop_of_length-le}
use Rattle.std.proofs.lemmas.Bool.{and_parts, eqb-true, ltb-true, ltb-false, leb-false, lt-leb}
use Rattle.std.proofs.lemmas.List.Elements.{All-nil, All-cons}
use Rattle.std.proofs.lemmas.List.Splits.{slice_split_first, slice_split_at, join_with_byte-slice_split}
use Rattle.wedge_base.specs.Texts.{starts_name, continues_name, is_name}
use Rattle.trace_form.specs.declared.words.Kind.{Kind}
use Rattle.trace_form.specs.declared.words.Kind.TheVariants as kind
use Rattle.trace_form.specs.declared.fault.Why.{Why}
use Rattle.trace_form.specs.declared.fault.Why.TheVariants as why
use Rattle.trace_form.specs.Forms.{is_file_path, is_address}
use Rattle.trace_form.specs.Grammar.{TraceRecord, at_sign, frames, mode_fits, most_frames, IsName, IsFilePath, IsMade, IsPrefixed, IsMemoryItem, IsStreamItem, IsGateItem, IsItem, IsRecord}
use Rattle.trace_form.specs.Fault.{or_fault}
use Rattle.trace_form.specs.Items.{name_fault, path_fault, is_at, made_fault, after_prefix, fault_after, memory_fault, stream_fault, gate_fault, item_fault}
use Rattle.trace_form.specs.Chains.{frames_fault}
use Rattle.trace_form.specs.Line.{record_fault}
use Rattle.trace_form.proofs.Splits.{some_piece, split_alone}

none_none : {X : Type 0} (b : Bool) (x : X) → cond b None (Some x) ≡ None → b ≡ true
none_none true x h = refl
none_none false x h = absurd cc

-- ---- a compartment, `@` and an address

-- a text around a separator
around : (c : ℕ) (text a b : List ℕ) → slice_split (λ x. x == c) text ≡ a ∷ slice_split (λ x. x == c) b → text ≡ a ++ c ∷ b
around c text a b h =
    let s = some_piece (λ x. x == c) b in
    let whole : a ++ c ∷ join_with_byte c (s.0 ∷ s.1) ≡ text = ap (λ (ps : List (List ℕ)). join_with_byte c (a ∷ ps)) (sym s.2) ∙ ap (join_with_byte c) (sym h) ∙ join_with_byte-slice_split c text in
    sym whole ∙ ap (λ (t : List ℕ). a ++ c ∷ t) (ap (join_with_byte c) (sym s.2) ∙ join_with_byte-slice_split c b)

no_address : is_address [] ≡ false
unfolding is_address
no_address = refl

around_at : (text : List ℕ) (b : Bool) → ltb (position_or_len is_at text) (length text) ≡ b → is_address (after_first is_at text) ≡ true → text ≡ before_first is_at text ++ at_sign ∷ after_first is_at text
around_at text true e h = around at_sign text (before_first is_at text) (after_first is_at text) (slice_split_first is_at text 0 (ltb-true _ _ e))
around_at text false e h =
    let past : length text ≤ position_or_len is_at text = ltb-false _ _ e in
    let empty : after_first is_at text ≡ [] = drop_of_length-le text (omega arith) in
    let bad : is_address (after_first is_at text) ≡ false = ap is_address empty ∙ no_address in
    absurd cc

is_made_by : (text : List ℕ) (n h : Bool) → is_name (before_first is_at text) ≡ n → is_address (after_first is_at text) ≡ h → cond n (cond h None (Some why.Number)) (Some why.Name) ≡ None → IsMade text
is_made_by text true true e f is = record {
  comp = before_first is_at text;
  address = after_first is_at text;
  bytes = around_at text (ltb (position_or_len is_at text) (length text)) refl f;
  name = e;
  digits = f;
}
is_made_by text true false e f is = absurd cc
is_made_by text false h e f is = absurd cc

is_made : (text : List ℕ) → made_fault text ≡ None → IsMade text
unfolding made_fault
is_made text h = is_made_by text (is_name (before_first is_at text)) (is_address (after_first is_at text)) refl refl h

-- no byte of a name is `@`
not_at : (c : ℕ) → continues_name c ≡ true → is_at c ≡ false
not_at c h = by_test (c == at_sign) refl
  where
    by_test : (b : Bool) → (c == at_sign) ≡ b → b ≡ false
    by_test true e =
        let same : c ≡ 64 = eqb-true c 64 e in
        let bad : continues_name c ≡ false = ap continues_name same in
        absurd cc
    by_test false e = refl

starts_not_at : (c : ℕ) → starts_name c ≡ true → is_at c ≡ false
starts_not_at c h = by_test (c == at_sign) refl
  where
    by_test : (b : Bool) → (c == at_sign) ≡ b → b ≡ false
    by_test true e =
        let same : c ≡ 64 = eqb-true c 64 e in
        let bad : starts_name c ≡ false = ap starts_name same in
        absurd cc
    by_test false e = refl

none_at : (cs : List ℕ) → list_all continues_name cs ≡ true → All (λ c. is_at c ≡ false) cs
none_at [] h = All-nil (λ c. is_at c ≡ false)
none_at (c ∷ cs) h =
    let b = and_parts (continues_name c) (list_all continues_name cs) h in
    All-cons (λ x. is_at x ≡ false) c cs (not_at c b.0) (none_at cs b.1)

name_no_at : (text : List ℕ) → is_name text ≡ true → All (λ c. is_at c ≡ false) text
unfolding is_name
name_no_at [] h = absurd cc
name_no_at (c ∷ cs) h =
    let b = and_parts (leb (length cs) 63 && starts_name c) (list_all continues_name cs) h in
    let a = and_parts (leb (length cs) 63) (starts_name c) b.0 in
    All-cons (λ x. is_at x ≡ false) c cs (starts_not_at c a.1) (none_at cs b.1)

-- the two parts around the first `@`
record AtParts (text comp address : List ℕ) : Type 0 where
  front : before_first is_at text ≡ comp
  back : after_first is_at text ≡ address

at_parts : (text comp address : List ℕ) → slice_split is_at text ≡ comp ∷ slice_split is_at address → AtParts text comp address
at_parts text comp address h = by_there (ltb (position_or_len is_at text) (length text)) refl
  where
    by_there : (b : Bool) → ltb (position_or_len is_at text) (length text) ≡ b → AtParts text comp address
    by_there true e =
        let cut = slice_split_first is_at text 0 (ltb-true _ _ e) in
        let heads : before_first is_at text ≡ comp = cc in
        let tails : slice_split is_at (after_first is_at text) ≡ slice_split is_at address = cc in
        record {
          front = heads;
          back = sym (join_with_byte-slice_split at_sign (after_first is_at text)) ∙ ap (join_with_byte at_sign) tails ∙ join_with_byte-slice_split at_sign address;
        }
    by_there false e =
        let one = split_alone is_at text (ltb-false _ _ e) in
        let s = some_piece is_at address in
        let two : slice_split is_at text ≡ comp ∷ s.0 ∷ s.1 = h ∙ ap (λ (ps : List (List ℕ)). comp ∷ ps) s.2 in
        absurd cc

made_no_fault : (text : List ℕ) → IsMade text → made_fault text ≡ None
unfolding made_fault
made_no_fault text m =
    let p = at_parts text m.comp m.address (ap (slice_split is_at) m.bytes ∙ slice_split_at is_at m.comp at_sign m.address (name_no_at m.comp m.name) refl) in
    let n : is_name (before_first is_at text) ≡ true = ap is_name p.front ∙ m.name in
    let a : is_address (after_first is_at text) ≡ true = ap is_address p.back ∙ m.digits in
    rw (n, a) refl

-- ---- items

name_is : (text : List ℕ) → name_fault text ≡ None → IsName text
name_is text h = none_none (is_name text) why.Name h

path_is : (text : List ℕ) → path_fault text ≡ None → IsFilePath text
path_is text h = none_none (is_file_path text) why.Name h

name_no_fault : (text : List ℕ) → IsName text → name_fault text ≡ None
name_no_fault text h = ap (λ b. cond b None (Some why.Name)) h

path_no_fault : (text : List ℕ) → IsFilePath text → path_fault text ≡ None
path_no_fault text h = ap (λ b. cond b None (Some why.Name)) h

after_prefix_text : (p text rest : List ℕ) → after_prefix p text ≡ Some rest → text ≡ p ++ rest
after_prefix_text [] text rest h = cc
after_prefix_text (p ∷ ps) [] rest h = absurd cc
after_prefix_text (p ∷ ps) (c ∷ cs) rest h = by_first (p == c) refl h (after_prefix_text ps cs rest)
  where
    by_first : (b : Bool) → (p == c) ≡ b → cond b (after_prefix ps cs) None ≡ Some rest → (after_prefix ps cs ≡ Some rest → cs ≡ ps ++ rest) → c ∷ cs ≡ p ∷ ps ++ rest
    by_first true e is later = let same : p ≡ c = eqb-true p c e in ap (λ (x : ℕ). x ∷ cs) (sym same) ∙ ap (λ (t : List ℕ). p ∷ t) (later is)
    by_first false e is later = absurd cc

-- what follows a prefix has no fault and so is of its form, or else the other has none
by_prefix : (p : List ℕ) (Form : List ℕ → Type 0) (text : List ℕ) (f : List ℕ → Option Why) (other : Option Why) (o : Option (List ℕ)) → ((t : List ℕ) → f t ≡ None → Form t) → after_prefix p text ≡ o → fault_after f o other ≡ None → IsPrefixed p Form text ⊎ (other ≡ None)
by_prefix p Form text f other (Some rest) form e h = inl (record { rest = rest; bytes = after_prefix_text p text rest e; form = form rest h })
by_prefix p Form text f other None form e h = inr h

memory_is : (text : List ℕ) → memory_fault text ≡ None → IsMemoryItem text
unfolding memory_fault
memory_is text h =
    elim (by_prefix (codes "tag:") IsName text name_fault (fault_after made_fault (after_prefix (codes "made:") text) (Some why.Line)) (after_prefix (codes "tag:") text) name_is refl h) [
      | inl a ↦ inl a
      | inr b ↦ elim (by_prefix (codes "made:") IsMade text made_fault (Some why.Line) (after_prefix (codes "made:") text) is_made refl b) [ inl a ↦ inr a | inr d ↦ absurd cc ]
    ]

stream_is : (text : List ℕ) → stream_fault text ≡ None → IsStreamItem text
unfolding stream_fault
stream_is text h =
    elim (by_prefix (codes "fd:") IsName text name_fault (fault_after path_fault (after_prefix (codes "file:") text) (Some why.Line)) (after_prefix (codes "fd:") text) name_is refl h) [
      | inl a ↦ inl a
      | inr b ↦ elim (by_prefix (codes "file:") IsFilePath text path_fault (Some why.Line) (after_prefix (codes "file:") text) path_is refl b) [ inl a ↦ inr a | inr d ↦ absurd cc ]
    ]

gate_is : (text : List ℕ) → gate_fault text ≡ None → IsGateItem text
unfolding gate_fault
gate_is text h = elim (by_prefix (codes "gate:") IsName text name_fault (Some why.Line) (after_prefix (codes "gate:") text) name_is refl h) [ inl a ↦ a | inr d ↦ absurd cc ]

item_is : (k : Kind) (text : List ℕ) → item_fault k text ≡ None → IsItem k text
item_is kind.Load text h = memory_is text h
item_is kind.Store text h = memory_is text h
item_is kind.Read text h = stream_is text h
item_is kind.Append text h = stream_is text h
item_is kind.Call text h = gate_is text h

memory_no_fault : (text : List ℕ) → IsMemoryItem text → memory_fault text ≡ None
unfolding memory_fault
memory_no_fault text (inl a) = rw a.bytes (name_no_fault a.rest a.form)
memory_no_fault text (inr a) = rw a.bytes (made_no_fault a.rest a.form)

stream_no_fault : (text : List ℕ) → IsStreamItem text → stream_fault text ≡ None
unfolding stream_fault
stream_no_fault text (inl a) = rw a.bytes (name_no_fault a.rest a.form)
stream_no_fault text (inr a) = rw a.bytes (path_no_fault a.rest a.form)

gate_no_fault : (text : List ℕ) → IsGateItem text → gate_fault text ≡ None
unfolding gate_fault
gate_no_fault text a = rw a.bytes (name_no_fault a.rest a.form)

item_no_fault : (k : Kind) (text : List ℕ) → IsItem k text → item_fault k text ≡ None
item_no_fault kind.Load text h = memory_no_fault text h
item_no_fault kind.Store text h = memory_no_fault text h
item_no_fault kind.Read text h = stream_no_fault text h
item_no_fault kind.Append text h = stream_no_fault text h
item_no_fault kind.Call text h = gate_no_fault text h

-- ---- chains

-- the frames after so many others are few enough, and each is a name
record AreFrames (n : ℕ) (fs : List (List ℕ)) : Type 0 where
  few : n + length fs ≤ most_frames
  names : list_all is_name fs ≡ true

frames_by : (n : ℕ) (f : List ℕ) (fs : List (List ℕ)) (a b : Bool) → leb most_frames n ≡ a → is_name f ≡ b → cond a (Some why.Line) (cond b (frames_fault (n + 1) fs) (Some why.Name)) ≡ None → (n + 1 ≤ most_frames → frames_fault (n + 1) fs ≡ None → AreFrames (n + 1) fs) → AreFrames n (f ∷ fs)
frames_by n f fs true b e k h later = absurd cc
frames_by n f fs false true e k h later =
    let room : n < 64 = leb-false 64 n e in
    let rest = later (omega arith) h in
    record { few = omega (arith, rest.few); names = rw (k, rest.names) refl }
frames_by n f fs false false e k h later = absurd cc

frames_are : (n : ℕ) (fs : List (List ℕ)) → n ≤ most_frames → frames_fault n fs ≡ None → AreFrames n fs
frames_are n [] small h = record { few = omega arith; names = refl }
frames_are n (f ∷ fs) small h = frames_by n f fs (leb most_frames n) (is_name f) refl refl h (λ s k. frames_are (n + 1) fs s k)

frames_no_fault : (n : ℕ) (fs : List (List ℕ)) → AreFrames n fs → frames_fault n fs ≡ None
frames_no_fault n [] h = refl
frames_no_fault n (f ∷ fs) h =
    let b = and_parts (is_name f) (list_all is_name fs) h.names in
    let few : n + 1 + length fs ≤ 64 = omega (arith, h.few) in
    let room : leb 64 n ≡ false = lt-leb 64 n (omega (arith, h.few)) in
    rw (room, b.0) (frames_no_fault (n + 1) fs (record { few = few; names = b.1 }))

-- ---- records

is_record_by : (r : TraceRecord) (m : Bool) (c f i : Option Why) → mode_fits r.kind r.mode ≡ m → name_fault r.comp ≡ c → frames_fault 0 (frames r.chain) ≡ f → item_fault r.kind r.item ≡ i → cond m (or_fault c (or_fault f i)) (Some why.Line) ≡ None → IsRecord r
is_record_by r true None None None d e g k h =
    let fs = frames_are 0 (frames r.chain) (omega arith) g in
    record { mode = d; comp = name_is r.comp e; few = omega (arith, fs.few); chain = fs.names; item = item_is r.kind r.item k }
is_record_by r true None None (Some w) d e g k h = absurd cc
is_record_by r true None (Some w) i d e g k h = absurd cc
is_record_by r true (Some w) f i d e g k h = absurd cc
is_record_by r false c f i d e g k h = absurd cc

-- a record without a fault is one of the grammar
pub is_record : (r : TraceRecord) → record_fault r ≡ None → IsRecord r
unfolding record_fault
is_record r h = is_record_by r (mode_fits r.kind r.mode) (name_fault r.comp) (frames_fault 0 (frames r.chain)) (item_fault r.kind r.item) refl refl refl refl h

-- and a record of the grammar has no fault
pub no_fault : (r : TraceRecord) → IsRecord r → record_fault r ≡ None
unfolding record_fault
no_fault r h =
    let few : 0 + length (frames r.chain) ≤ 64 = omega (arith, h.few) in
    rw (h.mode, name_no_fault r.comp h.comp, frames_no_fault 0 (frames r.chain) (record { few = few; names = h.chain })) (item_no_fault r.kind r.item h.item)
