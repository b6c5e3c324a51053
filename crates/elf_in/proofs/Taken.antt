-- The addresses and names of the procedures that were taken, as sets.
use Rattle.std.proofs.Common.{◌≡◌, ℕ, Bool, true, false, cond, ◌||◌, eqb, refl, List, [], ◌∷◌, ◌++◌, length, get_or, take, fold, ◌+◌, ◌<◌, sym, ap, ◌∙◌, arith}
use Rattle.std.proofs.lemmas.Bool.Decides.{nat_tests}
use Rattle.std.proofs.lemmas.List.Folds.{list_any-append}
use Rattle.std.proofs.lemmas.List.{take_more}
use Rattle.std.proofs.lemmas.List.Sums.{fold-append}
use Rattle.std.proofs.lemmas.Map.Text.{is_eq-slice_cmp}
use Rattle.std.specs.Ordering.{nat_cmp, is_eq}
use Rattle.std.specs.Cmp.Lexicographic.{slice_cmp}
use Rattle.std.specs.Str.{bytes_eq}
use Rattle.std.specs.BTreeMap.{is_at}
use Rattle.wedge_base.specs.declared.image.Procedure.{Procedure}
use Rattle.elf_in.specs.declared.procedures.Candidate.{Candidate}
use Rattle.wedge_base.specs.Images.{begins_at}
use Rattle.elf_in.specs.Procedures.{has_name, with_candidate}

abbrev pub begun : List ℕ → ℕ → Procedure
begun name address = record { name = name; address = address }

one_address : (a q : ℕ) (old : Bool) → cond (is_at (nat_cmp a) q) true old ≡ (old || (eqb a q || false))
one_address a q old = grind (arith, nat_tests)

-- a set of addresses that has gained that of one more procedure
pub gains_address : (front : List Procedure) (p : Procedure) (q : ℕ) (old new : Bool) → old ≡ begins_at front q → new ≡ cond (is_at (nat_cmp p.address) q) true old → new ≡ begins_at (front ++ p ∷ []) q
gains_address front p q old new h u =
    u ∙ one_address p.address q old ∙ ap (λ b. b || (eqb p.address q || false)) h ∙ sym (list_any-append (λ x. eqb x.address q) front (p ∷ []))

or_last : (b old : Bool) → cond b true old ≡ (old || (b || false))
or_last true true = refl
or_last true false = refl
or_last false true = refl
or_last false false = refl

-- a set of names that has gained that of one more procedure
pub gains_name : (front : List Procedure) (p : Procedure) (q : List ℕ) (old new : Bool) → old ≡ has_name front q → new ≡ cond (is_eq (slice_cmp nat_cmp p.name q)) true old → new ≡ has_name (front ++ p ∷ []) q
gains_name front p q old new h u =
    u ∙ ap (λ b. cond b true old) (is_eq-slice_cmp p.name q) ∙ or_last (bytes_eq p.name q) old ∙ ap (λ b. b || (bytes_eq p.name q || false)) h ∙ sym (list_any-append (λ x. bytes_eq x.name q) front (p ∷ []))

-- ---- one more candidate

in_use : (ps : List Procedure) (c : Candidate) (a n used : Bool) → a ≡ begins_at ps c.address → n ≡ has_name ps c.name → used ≡ (a || n) → (begins_at ps c.address || has_name ps c.name) ≡ used
in_use ps c a n used p q u = sym (u ∙ (λ i. p i || q i))

-- a candidate that is passed over
pub passed_over : (ps : List Procedure) (c : Candidate) (a n used : Bool) → a ≡ begins_at ps c.address → n ≡ has_name ps c.name → used ≡ (a || n) → used ≡ true → with_candidate ps c ≡ ps
passed_over ps c a n used p q u there = ap (λ b. cond b ps (ps ++ record { name = c.name; address = c.address } ∷ [])) (in_use ps c a n used p q u ∙ there)

-- a candidate that is taken
pub taken_too : (ps : List Procedure) (c : Candidate) (a n used : Bool) → a ≡ begins_at ps c.address → n ≡ has_name ps c.name → used ≡ (a || n) → used ≡ false → with_candidate ps c ≡ ps ++ record { name = c.name; address = c.address } ∷ []
taken_too ps c a n used p q u away = ap (λ b. cond b ps (ps ++ record { name = c.name; address = c.address } ∷ [])) (in_use ps c a n used p q u ∙ away)

-- the candidates so far, with one more
pub one_more : (cs : List Candidate) (i : ℕ) (c : Candidate) (ps : List Procedure) → i < length cs → c ≡ get_or cs i c → ps ≡ fold with_candidate [] (take i cs)
    → with_candidate ps c ≡ fold with_candidate [] (take (i + 1) cs)
one_more cs i c ps lt e so_far =
    let more : take (i + 1) cs ≡ take i cs ++ c ∷ [] = take_more cs i c lt ∙ ap (λ y. take i cs ++ y ∷ []) (sym e) in
    ap (λ qs. with_candidate qs c) so_far ∙ sym (ap (fold with_candidate []) more ∙ fold-append with_candidate [] (take i cs) (c ∷ []))
