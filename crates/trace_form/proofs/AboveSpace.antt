-- The fields of a record have no space and no line feed in them.
use Rattle.std.proofs.Common.{◌≡◌, ℕ, ◌+◌, ◌%◌, ◌^◌, ◌<◌, ◌≤◌, ◌==◌, ◌&&◌, ◌||◌, ◌⊎◌, inl, inr, Bool, true, false, List, [], ◌∷◌, ◌++◌, length, leb, ltb, eqb, refl, ap, sym, ◌∙◌, arith}
use Rattle.std.specs.Prelude.{codes}
use Rattle.std.specs.List.{list_all, slice_split, join_with_byte}
use Rattle.std.specs.Fmt.{decimal}
use Rattle.std.proofs.lemmas.Bool.{and_parts, lt-ltb, leb-true, eqb-true}
use Rattle.std.proofs.lemmas.Fmt.{decimal_by_steps}
use Rattle.std.proofs.lemmas.List.Folds.{list_all-append}
use Rattle.std.proofs.lemmas.List.Splits.{join_with_byte-slice_split}
use Rattle.wedge_base.specs.Texts.{is_letter, starts_name, continues_name, is_name, is_printed}
use Rattle.wedge_base.specs.Paths.{is_part, is_canonical}
use Rattle.trace_form.specs.declared.words.Kind.{Kind}
use Rattle.trace_form.specs.declared.words.Kind.TheVariants as kind
use Rattle.trace_form.specs.declared.words.Mode.{Mode}
use Rattle.trace_form.specs.declared.words.Mode.TheVariants as mode
use Rattle.trace_form.specs.Words.{kind_word, mode_word}
use Rattle.trace_form.specs.Forms.{is_file_path, is_hex_digit, is_address}
use Rattle.trace_form.specs.Grammar.{TraceRecord, at_sign, semicolon, frames, IsName, IsMade, IsPrefixed, IsMemoryItem, IsStreamItem, IsItem, IsRecord}

-- a byte above the space
abbrev pub is_above_space : ℕ → Bool
is_above_space c = ltb 32 c

abbrev pub above_space : List ℕ → Bool
above_space text = list_all is_above_space text

pub above_append : (a b : List ℕ) → above_space a ≡ true → above_space b ≡ true → above_space (a ++ b) ≡ true
above_append a b h k = list_all-append is_above_space a b ∙ rw (h, k) refl

pub above_cons : (c : ℕ) (cs : List ℕ) → is_above_space c ≡ true → above_space cs ≡ true → above_space (c ∷ cs) ≡ true
above_cons c cs h k = rw (h, k) refl

either : (a b : Bool) → (a || b) ≡ true → (a ≡ true) ⊎ (b ≡ true)
either true b h = inl refl
either false b h = inr h

from_low : (low c : ℕ) → 32 < low → leb low c ≡ true → is_above_space c ≡ true
from_low low c over h = let least : low ≤ c = leb-true low c h in lt-ltb 32 c (omega arith)

from_both : (low high c : ℕ) → 32 < low → (leb low c && leb c high) ≡ true → is_above_space c ≡ true
from_both low high c over h = from_low low c over (and_parts (leb low c) (leb c high) h).0

from_one : (d c : ℕ) → 32 < d → eqb c d ≡ true → is_above_space c ≡ true
from_one d c over h = let same : c ≡ d = eqb-true c d h in lt-ltb 32 c (omega arith)

letter_above : (c : ℕ) → is_letter c ≡ true → is_above_space c ≡ true
letter_above c h = elim (either (leb 65 c && leb c 90) (leb 97 c && leb c 122) h) [
  | inl upper ↦ from_both 65 90 c (omega arith) upper
  | inr lower ↦ from_both 97 122 c (omega arith) lower
]

starts_above : (c : ℕ) → starts_name c ≡ true → is_above_space c ≡ true
starts_above c h = elim (either (is_letter c) (c == 95) h) [
  | inl letter ↦ letter_above c letter
  | inr other ↦ from_one 95 c (omega arith) other
]

continues_above : (c : ℕ) → continues_name c ≡ true → is_above_space c ≡ true
continues_above c h = elim (either (starts_name c || (leb 48 c && leb c 57)) (c == 46) h) [
  | inl more ↦ elim (either (starts_name c) (leb 48 c && leb c 57) more) [
    | inl start ↦ starts_above c start
    | inr digit ↦ from_both 48 57 c (omega arith) digit
  ]
  | inr dot ↦ from_one 46 c (omega arith) dot
]

each_above : (p : ℕ → Bool) → ((c : ℕ) → p c ≡ true → is_above_space c ≡ true) → (text : List ℕ) → list_all p text ≡ true → above_space text ≡ true
each_above p too [] h = refl
each_above p too (c ∷ cs) h =
    let b = and_parts (p c) (list_all p cs) h in
    above_cons c cs (too c b.0) (each_above p too cs b.1)

pub name_above : (text : List ℕ) → is_name text ≡ true → above_space text ≡ true
unfolding is_name
name_above [] h = absurd cc
name_above (c ∷ cs) h =
    let b = and_parts (leb (length cs) 63 && starts_name c) (list_all continues_name cs) h in
    let a = and_parts (leb (length cs) 63) (starts_name c) b.0 in
    above_cons c cs (starts_above c a.1) (each_above continues_name continues_above cs b.1)

canonical_above : (text : List ℕ) → is_canonical text ≡ true → above_space text ≡ true
unfolding is_canonical
canonical_above [] h = absurd cc
canonical_above (c ∷ []) h = above_cons c [] (from_one 47 c (omega arith) h) refl
canonical_above (c ∷ d ∷ cs) h =
    let e = and_parts (c == 47 && list_all is_printed (d ∷ cs)) (list_all is_part (slice_split (λ b. b == 47) (d ∷ cs))) h in
    let a = and_parts (c == 47) (list_all is_printed (d ∷ cs)) e.0 in
    above_cons c (d ∷ cs) (from_one 47 c (omega arith) a.0) (each_above is_printed (λ x k. from_both 0x21 0x7e x (omega arith) k) (d ∷ cs) a.1)

path_above : (text : List ℕ) → is_file_path text ≡ true → above_space text ≡ true
unfolding is_file_path
path_above text h = canonical_above text (and_parts (leb 2 (length text) && leb (length text) 255) (is_canonical text) h).1

hex_above : (c : ℕ) → is_hex_digit c ≡ true → is_above_space c ≡ true
hex_above c h = elim (either (leb 48 c && leb c 57) (leb 97 c && leb c 102) h) [
  | inl digit ↦ from_both 48 57 c (omega arith) digit
  | inr letter ↦ from_both 97 102 c (omega arith) letter
]

address_above : (text : List ℕ) → is_address text ≡ true → above_space text ≡ true
unfolding is_address
address_above text h = each_above is_hex_digit hex_above text (and_parts (length text == 8) (list_all is_hex_digit text) h).1

made_above : (text : List ℕ) → IsMade text → above_space text ≡ true
made_above text m =
    ap above_space m.bytes
    ∙ above_append m.comp (at_sign ∷ m.address) (name_above m.comp m.name) (above_cons at_sign m.address refl (address_above m.address m.digits))

prefixed_above : (p : List ℕ) (Form : List ℕ → Type 0) (text : List ℕ) → above_space p ≡ true → ((t : List ℕ) → Form t → above_space t ≡ true) → IsPrefixed p Form text → above_space text ≡ true
prefixed_above p Form text b form h = ap above_space h.bytes ∙ above_append p h.rest b (form h.rest h.form)

memory_above : (text : List ℕ) → IsMemoryItem text → above_space text ≡ true
memory_above text (inl a) = prefixed_above (codes "tag:") IsName text refl name_above a
memory_above text (inr a) = prefixed_above (codes "made:") IsMade text refl made_above a

stream_above : (text : List ℕ) → IsStreamItem text → above_space text ≡ true
stream_above text (inl a) = prefixed_above (codes "fd:") IsName text refl name_above a
stream_above text (inr a) = prefixed_above (codes "file:") (λ t. is_file_path t ≡ true) text refl path_above a

item_above : (k : Kind) (text : List ℕ) → IsItem k text → above_space text ≡ true
item_above kind.Load text h = memory_above text h
item_above kind.Store text h = memory_above text h
item_above kind.Read text h = stream_above text h
item_above kind.Append text h = stream_above text h
item_above kind.Call text h = prefixed_above (codes "gate:") IsName text refl name_above h

frames_above : (fs : List (List ℕ)) → list_all is_name fs ≡ true → above_space (join_with_byte semicolon fs) ≡ true
frames_above [] h = refl
frames_above (f ∷ []) h = name_above f (and_parts (is_name f) true h).0
frames_above (f ∷ g ∷ fs) h =
    let p = and_parts (is_name f) (list_all is_name (g ∷ fs)) h in
    above_append f (semicolon ∷ join_with_byte semicolon (g ∷ fs)) (name_above f p.0) (above_cons semicolon (join_with_byte semicolon (g ∷ fs)) refl (frames_above (g ∷ fs) p.1))

chain_above : (chain : List ℕ) → list_all is_name (frames chain) ≡ true → above_space chain ≡ true
chain_above chain h = ap above_space (sym (join_with_byte-slice_split semicolon chain)) ∙ frames_above (frames chain) h

pub kind_above : (k : Kind) → above_space (kind_word k) ≡ true
kind_above kind.Load = refl
kind_above kind.Store = refl
kind_above kind.Read = refl
kind_above kind.Append = refl
kind_above kind.Call = refl

pub mode_above : (m : Mode) → above_space (mode_word m) ≡ true
mode_above mode.Shared = refl
mode_above mode.Private = refl

pub record IsAboveSpace (r : TraceRecord) : Type 0 where
  pub comp : above_space r.comp ≡ true
  pub chain : above_space r.chain ≡ true
  pub item : above_space r.item ≡ true

pub record_above : (r : TraceRecord) → IsRecord r → IsAboveSpace r
record_above r h = record { comp = name_above r.comp h.comp; chain = chain_above r.chain h.chain; item = item_above r.kind r.item h.item }

pub decimal_above : (n : ℕ) → n < 2 ^ 64 → above_space (decimal n) ≡ true
decimal_above n small =
    decimal_by_steps (λ n ds. above_space ds ≡ true)
    (λ n h. above_cons (48 + n) [] (lt-ltb 32 (48 + n) (omega arith)) refl)
    (λ n ds h k. above_append ds ((48 + n % 10) ∷ []) k (above_cons (48 + n % 10) [] (lt-ltb 32 (48 + n % 10) (omega arith)) refl)) n small
