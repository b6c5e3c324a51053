-- The first fault, by the first line.
use Rattle.std.proofs.Common.{◌≡◌, ℕ, ◌+◌, ◌==◌, Bool, true, false, cond, List, [], ◌∷◌, length, Some, None, refl, sym, ◌∙◌, arith}
use Rattle.std.proofs.lemmas.Bool.{ne_eqb}
use Rattle.std.specs.List.{onto_first}
use Rattle.std.specs.Str.{bytes_eq}
use Rattle.trace_form.specs.declared.fault.Why.{Why}
use Rattle.trace_form.specs.declared.fault.Why.TheVariants as why
use Rattle.trace_form.specs.Grammar.{line_pieces, first_line, line_feed}
use Rattle.trace_form.specs.Fault.{fault_at}
use Rattle.trace_form.specs.Line.{count_at, line_fault}
use Rattle.trace_form.specs.FirstFault.{lines_fault, end_fault, piece_fault, first_fault, nothing_follows}
use Rattle.trace_form.proofs.LineForms.{some_line}

pub line_ends : (at count : ℕ) (bytes line rest text : List ℕ) → line_pieces bytes ≡ line ∷ line_pieces rest → count_at line ≡ Some text → lines_fault at count (line_pieces bytes) ≡ end_fault at count text (line_pieces rest)
line_ends at count bytes line rest text h k = let s = some_line rest in rw (h, s.2, k) refl

pub line_wrong : (at count : ℕ) (bytes line rest : List ℕ) (w : Why) → line_pieces bytes ≡ line ∷ line_pieces rest → count_at line ≡ None → line_fault line ≡ Some w → lines_fault at count (line_pieces bytes) ≡ fault_at at w
line_wrong at count bytes line rest w h k m = let s = some_line rest in rw (h, s.2, k, m) refl

pub line_right : (at count : ℕ) (bytes line rest : List ℕ) → line_pieces bytes ≡ line ∷ line_pieces rest → count_at line ≡ None → line_fault line ≡ None → lines_fault at count (line_pieces bytes) ≡ lines_fault (at + 1) (count + 1) (line_pieces rest)
line_right at count bytes line rest h k m = let s = some_line rest in rw (h, s.2, k, m) refl

pub line_alone : (at count : ℕ) (bytes : List ℕ) → line_pieces bytes ≡ bytes ∷ [] → lines_fault at count (line_pieces bytes) ≡ piece_fault at bytes
line_alone at count bytes h = rw h refl

pub first_alone : (bytes : List ℕ) → line_pieces bytes ≡ bytes ∷ [] → first_fault bytes ≡ piece_fault 1 bytes
unfolding first_fault
first_alone bytes h = rw h refl

pub first_wrong : (bytes line rest : List ℕ) → line_pieces bytes ≡ line ∷ line_pieces rest → bytes_eq line first_line ≡ false → first_fault bytes ≡ fault_at 1 why.Line
unfolding first_fault
first_wrong bytes line rest h k = let s = some_line rest in rw (h, s.2, k) refl

pub first_right : (bytes line rest : List ℕ) → line_pieces bytes ≡ line ∷ line_pieces rest → bytes_eq line first_line ≡ true → first_fault bytes ≡ lines_fault 2 0 (line_pieces rest)
unfolding first_fault
first_right bytes line rest h k = let s = some_line rest in rw (h, s.2, k) refl

-- no line follows exactly where no byte follows
follows_by : (c : ℕ) (cs q : List ℕ) (qs : List (List ℕ)) (b : Bool) → nothing_follows (cond b ([] ∷ q ∷ qs) (onto_first c (q ∷ qs))) ≡ false
follows_by c cs q qs true = refl
follows_by c cs q qs false = refl

follows_more : (c : ℕ) (cs : List ℕ) → nothing_follows (line_pieces (c ∷ cs)) ≡ false
follows_more c cs = let s = some_line cs in rw s.2 (follows_by c cs s.0 s.1 (c == line_feed))

not_empty : (c : ℕ) (cs : List ℕ) → (length (c ∷ cs) == 0) ≡ false
not_empty c cs = ne_eqb (length (c ∷ cs)) 0 (λ h. omega arith)

pub nothing_follows_is : (bytes : List ℕ) → nothing_follows (line_pieces bytes) ≡ (length bytes == 0)
nothing_follows_is [] = refl
nothing_follows_is (c ∷ cs) = follows_more c cs ∙ sym (not_empty c cs)
