-- Names and schedules, read back.
use Rattle.std.proofs.Common.{◌≡◌, ℕ, suc, ◌+◌, ◌^◌, ◌<◌, ◌≤◌, ◌==◌, true, false, cond, List, [], ◌∷◌, ◌++◌, length, map, get_or, Option, Some, None, Result, Ok, Err, refl, ap, sym, ◌∙◌, append_assoc, append-nil, lit≤, arith}
use Rattle.std.specs.Char.{digit_value}
use Rattle.std.specs.List.{All, slice_split, join_with_byte}
use Rattle.std.specs.Fmt.{decimal}
use Rattle.std.proofs.lemmas.Bool.{cond-true, ne_eqb}
use Rattle.std.proofs.lemmas.List.{map-append}
use Rattle.std.proofs.lemmas.List.Concat.{flat_map-append}
use Rattle.std.proofs.lemmas.List.Elements.{All-nil, All-cons, All-append}
use Rattle.std.proofs.lemmas.List.Splits.{slice_split_none, slice_split_at, join_with_byte-slice_split}
use Rattle.std.proofs.lemmas.Option.{cond_some}
use Rattle.wedge_base.specs.Names.{is_actor_name}
use Rattle.report_text.specs.Reports.{dot, name_text}
use Rattle.report_text.specs.Schedules.{part_in, name_from, name_in, names_from, names_in, name_line, schedule_of}
use Rattle.report_text.proofs.Cuts.{some_piece}
use Rattle.report_text.proofs.Digits.{digits_of_decimal, digits_without, part_text, part_again}

-- ---- one name

-- the name of a line whose next piece is this part, if it is one
abbrev after_part : List ℕ → List (List ℕ) → Option ℕ → Option (List ℕ)
after_part parts pieces None = None
after_part parts pieces (Some part) = name_from (parts ++ part ∷ []) pieces

-- a piece that is a part
pub name_next : (parts : List ℕ) (piece : List ℕ) (pieces : List (List ℕ)) (k : ℕ) → part_in piece ≡ Some k → name_from parts (piece ∷ pieces) ≡ name_from (parts ++ k ∷ []) pieces
name_next parts piece pieces k h = ap (after_part parts pieces) h

-- and one that is none
pub name_stops : (parts : List ℕ) (piece : List ℕ) (pieces : List (List ℕ)) → part_in piece ≡ None → name_from parts (piece ∷ pieces) ≡ None
name_stops parts piece pieces h = ap (after_part parts pieces) h

-- its last one
pub name_ends : (parts : List ℕ) (piece : List ℕ) (k : ℕ) → part_in piece ≡ Some k → name_from parts (piece ∷ []) ≡ cond (is_actor_name (parts ++ k ∷ [])) (Some (parts ++ k ∷ [])) None
name_ends parts piece k h = ap (after_part parts []) h

-- the pieces are the decimal forms of a name's other parts
pieces_of_name : (parts : List ℕ) (pieces : List (List ℕ)) (name : List ℕ) → name_from parts pieces ≡ Some name → map decimal name ≡ map decimal parts ++ pieces
pieces_of_name parts [] name h = ap (map decimal) (sym (cond_some (is_actor_name parts) parts name h).1) ∙ sym (append-nil (map decimal parts))
pieces_of_name parts (piece ∷ pieces) name h =
    elim (part_in piece) as (λ o. part_in piece ≡ o → map decimal name ≡ map decimal parts ++ piece ∷ pieces) [
      | None ↦ λ e. let k : None ≡ Some name = sym (name_stops parts piece pieces e) ∙ h in cc
      | Some k ↦ λ e.
          pieces_of_name (parts ++ k ∷ []) pieces name (sym (name_next parts piece pieces k e) ∙ h)
          ∙ ap (λ (texts : List (List ℕ)). texts ++ pieces) (map-append decimal parts (k ∷ []))
          ∙ append_assoc (map decimal parts) (decimal k ∷ []) pieces
          ∙ ap (λ (text : List ℕ). map decimal parts ++ text ∷ pieces) (part_text piece k e)
    ] refl

-- a line is the text of the name that it is read as
pub text_of_name : (line name : List ℕ) → name_in line ≡ Some name → name_text name ≡ line
unfolding name_in name_text
text_of_name line name h = ap (join_with_byte dot) (pieces_of_name [] (slice_split (λ b. b == dot) line) name h) ∙ join_with_byte-slice_split dot line

-- a name of an actor, with parts below 2 ^ 32
pub record IsName (name : List ℕ) : Type 0 where
  pub form : is_actor_name name ≡ true
  pub small : (i : ℕ) → get_or name i 0 < 2 ^ 32

-- each part is below 2 ^ 32
abbrev pub AreSmall : List ℕ → Type 0
AreSmall [] = Unit {0}
AreSmall (k ∷ ks) = (k < 2 ^ 32) × AreSmall ks

are_small : (name : List ℕ) → ((i : ℕ) → get_or name i 0 < 2 ^ 32) → AreSmall name
are_small [] h = tt
are_small (k ∷ ks) h = (h 0, are_small ks (λ i. h (suc i)))

-- a name's text has no byte that is neither a digit nor a dot
text_without : (c : ℕ) (name : List ℕ) → 10 ≤ digit_value c → (dot == c) ≡ false → AreSmall name → All (λ b. (b == c) ≡ false) (join_with_byte dot (map decimal name))
text_without c [] other dots small = All-nil (λ b. (b == c) ≡ false)
text_without c (k ∷ []) other dots small = digits_without c (decimal k) other (digits_of_decimal k small.0)
text_without c (k ∷ m ∷ ks) other dots small =
    All-append (λ b. (b == c) ≡ false) (decimal k) (dot ∷ join_with_byte dot (map decimal (m ∷ ks)))
    (digits_without c (decimal k) other (digits_of_decimal k small.0))
    (All-cons (λ b. (b == c) ≡ false) dot (join_with_byte dot (map decimal (m ∷ ks))) dots (text_without c (m ∷ ks) other dots small.1))

-- its pieces are the decimal forms of its parts
pieces_of_text : (k : ℕ) (ks : List ℕ) → AreSmall (k ∷ ks) → slice_split (λ b. b == dot) (join_with_byte dot (map decimal (k ∷ ks))) ≡ map decimal (k ∷ ks)
pieces_of_text k [] small = slice_split_none (λ b. b == dot) (decimal k) (digits_without dot (decimal k) (lit≤ tt) (digits_of_decimal k small.0))
pieces_of_text k (m ∷ ks) small =
    slice_split_at (λ b. b == dot) (decimal k) dot (join_with_byte dot (map decimal (m ∷ ks))) (digits_without dot (decimal k) (lit≤ tt) (digits_of_decimal k small.0)) refl
    ∙ ap (λ (texts : List (List ℕ)). decimal k ∷ texts) (pieces_of_text m ks small.1)

name_of_pieces : (parts ks : List ℕ) → AreSmall ks → name_from parts (map decimal ks) ≡ cond (is_actor_name (parts ++ ks)) (Some (parts ++ ks)) None
name_of_pieces parts [] small = ap (λ (name : List ℕ). cond (is_actor_name name) (Some name) None) (sym (append-nil parts))
name_of_pieces parts (k ∷ ks) small =
    name_next parts (decimal k) (map decimal ks) k (part_again k small.0)
    ∙ name_of_pieces (parts ++ k ∷ []) ks small.1
    ∙ ap (λ (name : List ℕ). cond (is_actor_name name) (Some name) None) (append_assoc parts (k ∷ []) ks)

-- a name's text is read as the name
pub name_again : (name : List ℕ) → IsName name → name_in (name_text name) ≡ Some name
unfolding name_in name_text
name_again [] is = let k : false ≡ true = is.form in cc
name_again (k ∷ ks) is =
    let small : AreSmall (k ∷ ks) = are_small (k ∷ ks) is.small in
    ap (name_from []) (pieces_of_text k ks small) ∙ name_of_pieces [] (k ∷ ks) small ∙ cond-true _ _ _ is.form

line_text : (line name : List ℕ) → name_in line ≡ Some name → name_line name ++ [] ≡ line ++ 10 ∷ []
unfolding name_line
line_text line name h = append-nil (name_text name ++ 10 ∷ []) ∙ ap (λ (text : List ℕ). text ++ 10 ∷ []) (text_of_name line name h)

-- ---- the names of a schedule

-- what is read where the next line is this name, if it is one
abbrev after_line : List (List ℕ) → List (List ℕ) → Option (List ℕ) → Result (List (List ℕ)) ℕ
after_line names lines None = Err (length names + 1)
after_line names lines (Some name) = names_from (names ++ name ∷ []) lines

-- a line that is a name's
pub line_next : (names : List (List ℕ)) (line rest : List ℕ) (name : List ℕ) → name_in line ≡ Some name → names_from names (line ∷ slice_split (λ b. b == 10) rest) ≡ names_from (names ++ name ∷ []) (slice_split (λ b. b == 10) rest)
line_next names line rest name h = let some = some_piece 10 rest in rw some.2 (ap (after_line names (some.0 ∷ some.1)) h)

-- and one that is not
pub line_stops : (names : List (List ℕ)) (line rest : List ℕ) → name_in line ≡ None → names_from names (line ∷ slice_split (λ b. b == 10) rest) ≡ Err (length names + 1)
line_stops names line rest h = let some = some_piece 10 rest in rw some.2 (ap (after_line names (some.0 ∷ some.1)) h)

lines_of_names : (names lines all : List (List ℕ)) → names_from names lines ≡ Ok all → schedule_of names ++ join_with_byte 10 lines ≡ schedule_of all
lines_of_names names [] all h = let e : names ≡ all = cc in append-nil (schedule_of names) ∙ ap schedule_of e
lines_of_names names ([] ∷ []) all h = let e : names ≡ all = cc in append-nil (schedule_of names) ∙ ap schedule_of e
lines_of_names names ((b ∷ bs) ∷ []) all h = let k : Err (length names + 1) ≡ Ok all = rw (ne_eqb (length (b ∷ bs)) 0 (λ e. omega arith)) at h in cc
lines_of_names names (line ∷ next ∷ lines) all h =
    elim (name_in line) as (λ o. name_in line ≡ o → schedule_of names ++ join_with_byte 10 (line ∷ next ∷ lines) ≡ schedule_of all) [
      | None ↦ λ e. let k : Err (length names + 1) ≡ Ok all = sym (ap (after_line names (next ∷ lines)) e) ∙ h in cc
      | Some name ↦ λ e.
          let k : names_from (names ++ name ∷ []) (next ∷ lines) ≡ Ok all = sym (ap (after_line names (next ∷ lines)) e) ∙ h in
          let added : schedule_of (names ++ name ∷ []) ≡ schedule_of names ++ (line ++ 10 ∷ []) = flat_map-append name_line names (name ∷ []) ∙ ap (λ (text : List ℕ). schedule_of names ++ text) (line_text line name e) in
          let regrouped : schedule_of names ++ (line ++ 10 ∷ join_with_byte 10 (next ∷ lines)) ≡ (schedule_of names ++ (line ++ 10 ∷ [])) ++ join_with_byte 10 (next ∷ lines) = simp append_assoc in
          regrouped ∙ ap (λ (text : List ℕ). text ++ join_with_byte 10 (next ∷ lines)) (sym added) ∙ lines_of_names (names ++ name ∷ []) (next ∷ lines) all k
    ] refl

-- what is read as names is their schedule
pub canonical : (text : List ℕ) (names : List (List ℕ)) → names_in text ≡ Ok names → schedule_of names ≡ text
unfolding names_in
canonical text names h = sym (lines_of_names [] (slice_split (λ b. b == 10) text) names h) ∙ join_with_byte-slice_split 10 text

-- names of actors, with parts below 2 ^ 32
abbrev pub AreNames : List (List ℕ) → Type 0
AreNames [] = Unit {0}
AreNames (name ∷ names) = IsName name × AreNames names

pub are_names_push : (names : List (List ℕ)) (name : List ℕ) → AreNames names → IsName name → AreNames (names ++ name ∷ [])
are_names_push [] name all is = (is, tt)
are_names_push (n ∷ names) name all is = (all.0, are_names_push names name all.1 is)

lines_again : (before names : List (List ℕ)) → AreNames names → names_from before (slice_split (λ b. b == 10) (schedule_of names)) ≡ Ok (before ++ names)
unfolding name_line name_text
lines_again before [] all = ap Ok (sym (append-nil before))
lines_again before (name ∷ names) all =
    let text = name_text name in
    let plain : All (λ b. (b == 10) ≡ false) text = text_without 10 name (lit≤ tt) refl (are_small name all.0.small) in
    let shape : schedule_of (name ∷ names) ≡ text ++ 10 ∷ schedule_of names = append_assoc text (10 ∷ []) (schedule_of names) in
    let cut : slice_split (λ b. b == 10) (schedule_of (name ∷ names)) ≡ text ∷ slice_split (λ b. b == 10) (schedule_of names) = ap (slice_split (λ b. b == 10)) shape ∙ slice_split_at (λ b. b == 10) text 10 (schedule_of names) plain refl in
    ap (names_from before) cut
    ∙ line_next before text (schedule_of names) name (name_again name all.0)
    ∙ lines_again (before ++ name ∷ []) names all.1
    ∙ ap Ok (append_assoc before (name ∷ []) names)

-- the schedule of names is read as these names
pub schedule_again : (names : List (List ℕ)) → AreNames names → names_in (schedule_of names) ≡ Ok names
unfolding names_in
schedule_again names all = lines_again [] names all
