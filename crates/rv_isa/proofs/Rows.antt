-- A word that has the fixed fields of an operation is an instruction of that operation.
use Rattle.std.proofs.Common.{◌≡◌, ℕ, ◌^◌, ◌<◌, bit_and, Bool, true, false, cond, eqb, List, [], ◌∷◌, Option, None, Some, refl, ap, sym, ◌∙◌, lit<}
use Rattle.std.specs.List.{find, list_all}
use Rattle.std.proofs.lemmas.Nat.{and_assoc, and_comm}
use Rattle.std.proofs.lemmas.Bool.{and_parts, eqb-true, eq-eqb, false_from_ne_true}
use Rattle.rv_isa.specs.declared.Op.{Op}
use Rattle.rv_isa.specs.declared.Op.TheVariants as op
use Rattle.rv_isa.specs.declared.Instr.{Instr}
use Rattle.rv_isa.specs.Table.{Row, rows, row_of, row_for, has_fields, are_apart, each_apart, form_of, IsOfRow}
use Rattle.rv_isa.specs.Encoding.{encoded}
use Rattle.rv_isa.specs.Ranges.{IsInRange}
use Rattle.rv_isa.proofs.Words.{mask_of, mask_is, op_is, operands_op, IsWord, IsWord-decode}
use Rattle.rv_isa.proofs.Rebuilt.{rebuilt, IsRebuilt, operands_within}

-- the fixed bits of a row are a word of it: this computes, for each operation
pub own_row : (o : Op) → row_of (row_for o).value ≡ Some (row_for o)
unfolding row_of
own_row op.Lui = refl
own_row _ = refl

one_row : (w : ℕ) (r s : Row) → are_apart r s ≡ true → has_fields w r ≡ true → has_fields w s ≡ true → ⊥
one_row w r s apart h k =
    let rv : bit_and w r.mask ≡ r.value = eqb-true _ _ h in
    let sv : bit_and w s.mask ≡ s.value = eqb-true _ _ k in
    let left : bit_and r.value s.mask ≡ bit_and w (bit_and r.mask s.mask) = rw (← rv) (and_assoc s.mask w r.mask) in
    let right : bit_and s.value r.mask ≡ bit_and w (bit_and s.mask r.mask) = rw (← sv) (and_assoc r.mask w s.mask) in
    let same : bit_and r.value s.mask ≡ bit_and s.value r.mask = left ∙ ap (bit_and w) (and_comm r.mask s.mask) ∙ sym right in
    let test : eqb (bit_and r.value s.mask) (bit_and s.value r.mask) ≡ true = eq-eqb _ _ same in
    absurd (cc (rw test at apart))

found_at : (c p : Row → Bool) (x r : Row) (rs : List Row) (b : Bool) → p x ≡ b → cond b (Some x) (find p rs) ≡ Some r → c x ≡ true → (find p rs ≡ Some r → c r ≡ true) → c r ≡ true
found_at c p x r rs true is h first later = let e : x ≡ r = cc in rw (← e) first
found_at c p x r rs false is h first later = later h

-- what passes for each row passes for the one that is found
found_passes : (c p : Row → Bool) (rs : List Row) (r : Row) → list_all c rs ≡ true → find p rs ≡ Some r → c r ≡ true
found_passes c p [] r all h = absurd (cc)
found_passes c p (x ∷ rs) r all h =
    let both : (c x ≡ true) × (list_all c rs ≡ true) = and_parts (c x) (list_all c rs) all in
    found_at c p x r rs (p x) refl h both.0 (found_passes c p rs r both.1)

first_at : (w v : ℕ) (x r : Row) (rs : List Row) (b : Bool) → has_fields v x ≡ b → cond b (Some x) (find (has_fields v) rs) ≡ Some r → list_all (are_apart x) rs ≡ true → has_fields w r ≡ true → (find (has_fields v) rs ≡ Some r → find (has_fields w) rs ≡ Some r) → find (has_fields w) (x ∷ rs) ≡ Some r
first_at w v x r rs true is h apart fits later =
    let e : x ≡ r = cc in
    let fits' : has_fields w x ≡ true = rw e fits in
    rw fits' (ap Some e)
first_at w v x r rs false is h apart fits later =
    let away : are_apart x r ≡ true = found_passes (are_apart x) (has_fields v) rs r apart h in
    let not' : has_fields w x ≡ false = false_from_ne_true (has_fields w x) (λ fits'. one_row w x r away fits' fits) in
    rw not' (later h)

-- where rows are apart, a row that fits is the one that is found
first_by : (w v : ℕ) (rs : List Row) (r : Row) → each_apart rs ≡ true → find (has_fields v) rs ≡ Some r → has_fields w r ≡ true → find (has_fields w) rs ≡ Some r
first_by w v [] r apart h fits = absurd (cc)
first_by w v (x ∷ rs) r apart h fits =
    let both : (list_all (are_apart x) rs ≡ true) × (each_apart rs ≡ true) = and_parts (list_all (are_apart x) rs) (each_apart rs) apart in
    first_at w v x r rs (has_fields v x) refl h both.0 fits (λ rest. first_by w v rs r both.1 rest fits)

pub row_of-fixed : (o : Op) (w : ℕ) → has_fields w (row_for o) ≡ true → row_of w ≡ Some (row_for o)
unfolding row_of
row_of-fixed o w fits = first_by w (row_for o).value rows (row_for o) refl (own_row o) fits

-- the fixed bits of a row are within its mask, and are a word
plain : (o : Op) → bit_and (row_for o).value (mask_of (form_of o)) ≡ (row_for o).value
plain op.Lui = refl
plain _ = refl

small : (o : Op) → (row_for o).value < 2 ^ 32
small op.Lui = lit< tt
small _ = lit< tt

-- operands in range are those of a word
pub IsOfRow-in_range : (i : Instr) → IsInRange i → IsOfRow i
IsOfRow-in_range i r =
    let o : Op = i.op in
    let b : IsRebuilt (form_of o) (row_for o).value i (encoded i) = rebuilt (form_of o) (row_for o).value i (small o) (plain o) r in
    let fits : has_fields (encoded i) (row_for o) ≡ true = eq-eqb _ _ (rw (mask_is o) b.fixed) in
    let row : row_of (encoded i) ≡ Some (row_for o) = row_of-fixed o (encoded i) fits in
    record { word = encoded i; fits = b.small; is = rw (row, op_is o, b.is) refl }

-- the operands of an instruction of the table are in range
pub IsInRange-of_row : (i : Instr) → IsOfRow i → IsInRange i
IsInRange-of_row i h =
    let d : IsWord h.word i = IsWord-decode h.word i h.is in
    rw (d.is, operands_op (form_of d.op) d.op h.word) (operands_within (form_of d.op) d.op h.word h.fits)

row_in : Row → Option Row → Row
row_in d None = d
row_in d (Some r) = r

-- a word that has the fixed fields of two operations: they are one
pub one_operation : (w : ℕ) (o p : Op) → has_fields w (row_for o) ≡ true → has_fields w (row_for p) ≡ true → o ≡ p
unfolding row_in
one_operation w o p h k =
    let same : row_for o ≡ row_for p = ap (row_in (row_for o)) (sym (row_of-fixed o w h) ∙ row_of-fixed p w k) in
    sym (op_is o) ∙ ap (λ r. r.op) same ∙ op_is p
