-- A chain has the first 64 of the calls that have not returned.
use Rattle.std.proofs.Common.{◌≡◌, inl, inr, ℕ, zero, suc, ◌+◌, ◌-◌, ◌<◌, ◌≤◌, Bool, true, false, List, [], ◌∷◌, ◌++◌, length, take, refl, sym, ap, subst, ◌∙◌, arith}
use Rattle.std.specs.Prelude.{◌⊎◌, ◌==◌, ◌&&◌, nat_lt, pos, if◌then◌else◌}
use Rattle.std.proofs.lemmas.Bool.{eqb-true}
use Rattle.std.proofs.lemmas.Bool.Decides.{Decides-int_eq}
use Rattle.std.specs.Ordering.{int_eq}
use Rattle.wedge_base.specs.Images.{Image}
use Rattle.image_form.specs.Address.{proc_of}
use Rattle.rv_isa.specs.declared.Op.{Op}
use Rattle.rv_isa.specs.declared.Op.TheVariants as op
use Rattle.rv_isa.specs.declared.Instr.{Instr}
use Rattle.rv_hart.specs.declared.Need.TheVariants as need
use Rattle.run_notes.specs.Chains.{with_call, with_return, is_jalr, is_jump, is_call, is_return, with_target, chain_by}
use Rattle.run_notes.specs.declared.chain.CallChain.{CallChain}
use Rattle.run_log.specs.OpenCalls.{IsFirstOf, IsLink, IsReturn, AreOpenCalls, ChainsAreOpenCalls}

-- ---- lists

take_all : (n : ℕ) (xs : List ℕ) → length xs ≤ n → take n xs ≡ xs
take_all zero [] le = refl
take_all zero (x ∷ xs) le = absurd (omega (arith, le))
take_all (suc n) [] le = refl
take_all (suc n) (x ∷ xs) le = ap (λ ys. x ∷ ys) (take_all n xs (omega (arith, le)))

take_front : (n : ℕ) (xs ys : List ℕ) → n ≤ length xs → take n (xs ++ ys) ≡ take n xs
take_front zero xs ys le = refl
take_front (suc n) [] ys le = absurd (omega (arith, le))
take_front (suc n) (x ∷ xs) ys le = ap (λ zs. x ∷ zs) (take_front n xs ys (omega (arith, le)))

take_length : (n : ℕ) (xs : List ℕ) → n ≤ length xs → length (take n xs) ≡ n
take_length zero xs le = refl
take_length (suc n) [] le = absurd (omega (arith, le))
take_length (suc n) (x ∷ xs) le = (let more = take_length n xs (omega (arith, le)) in omega (arith, more))

length_push : (xs : List ℕ) (x : ℕ) → length (xs ++ x ∷ []) ≡ length xs + 1
length_push [] x = refl
length_push (y ∷ ys) x = (let more = length_push ys x in omega (arith, more))

take_back : (n : ℕ) (xs : List ℕ) (x : ℕ) → n ≡ length xs → take n (xs ++ x ∷ []) ≡ xs
take_back n xs x is = take_front n xs (x ∷ []) (omega (arith, is)) ∙ take_all n xs (omega (arith, is))

below : (a b : ℕ) → a < b → nat_lt a b ≡ true
below a b lt = grind arith

above : (a b : ℕ) → b ≤ a → nat_lt a b ≡ false
above a b le = grind arith

either : (a b : ℕ) → (a < b) ⊎ (b ≤ a)
either a b = grind arith

-- ---- a call and a return

call_first : (all : List ℕ) (f : ℕ) (c : CallChain) → IsFirstOf all c → IsFirstOf (all ++ f ∷ []) (with_call c f)
call_first all f c h = elim (either (length all) 64) [ inl lt ↦ by_room lt | inr le ↦ by_full le ]
  where
    chosen : (t : Bool) → nat_lt (length c.frames) 64 ≡ t → with_call c f ≡ (if t then record c { frames = c.frames ++ f ∷ [] } else record c { beyond = c.beyond + 1 })
    chosen t e = ap (λ (b : Bool). if b then record c { frames = c.frames ++ f ∷ [] } else record c { beyond = c.beyond + 1 }) e

    by_room : length all < 64 → IsFirstOf (all ++ f ∷ []) (with_call c f)
    by_room lt =
        let are : c.frames ≡ all = h.frames ∙ take_all 64 all (omega (arith, lt)) in
        let is = chosen true (ap (λ (fs : List ℕ). nat_lt (length fs) 64) are ∙ below (length all) 64 lt) in
        let more = length_push all f in
        let was = h.beyond in
        let same : c.beyond ≡ length (all ++ f ∷ []) - 64 = omega (arith, lt, more, was) in
        record {
          frames = ap (λ (x : CallChain). x.frames) is ∙ (ap (λ fs. fs ++ f ∷ []) are ∙ sym (take_all 64 (all ++ f ∷ []) (omega (arith, lt, more))));
          beyond = ap (λ (x : CallChain). x.beyond) is ∙ same;
        }

    by_full : 64 ≤ length all → IsFirstOf (all ++ f ∷ []) (with_call c f)
    by_full le =
        let count : length c.frames ≡ 64 = ap length h.frames ∙ take_length 64 all le in
        let is = chosen false (above (length c.frames) 64 (omega (arith, count))) in
        let more = length_push all f in
        let was = h.beyond in
        let same : c.beyond + 1 ≡ length (all ++ f ∷ []) - 64 = omega (arith, le, more, was) in
        record {
          frames = ap (λ (x : CallChain). x.frames) is ∙ (h.frames ∙ sym (take_front 64 all (f ∷ []) le));
          beyond = ap (λ (x : CallChain). x.beyond) is ∙ same;
        }

return_first : (all : List ℕ) (f : ℕ) (c : CallChain) → 0 < length all → IsFirstOf (all ++ f ∷ []) c → IsFirstOf all (with_return c)
return_first all f c some h = elim (either (length all) 64) [ inl lt ↦ by_room lt | inr le ↦ by_full le ]
  where
    chosen : (t u : Bool) → nat_lt 0 c.beyond ≡ t → nat_lt 1 (length c.frames) ≡ u
        → with_return c ≡ (if t then record c { beyond = c.beyond - 1 } else if u then record c { frames = take (length c.frames - 1) c.frames } else c)
    chosen t u e d =
        ap (λ (b : Bool). if b then record c { beyond = c.beyond - 1 } else if nat_lt 1 (length c.frames) then record c { frames = take (length c.frames - 1) c.frames } else c) e
        ∙ ap (λ (b : Bool). if t then record c { beyond = c.beyond - 1 } else if b then record c { frames = take (length c.frames - 1) c.frames } else c) d

    by_full : 64 ≤ length all → IsFirstOf all (with_return c)
    by_full le =
        let more = length_push all f in
        let was = h.beyond in
        let is = chosen true (nat_lt 1 (length c.frames)) (below 0 c.beyond (omega (arith, le, more, was))) refl in
        let same : c.beyond - 1 ≡ length all - 64 = omega (arith, le, more, was) in
        record {
          frames = ap (λ (x : CallChain). x.frames) is ∙ (h.frames ∙ take_front 64 all (f ∷ []) le);
          beyond = ap (λ (x : CallChain). x.beyond) is ∙ same;
        }

    by_room : length all < 64 → IsFirstOf all (with_return c)
    by_room lt =
        let more = length_push all f in
        let was = h.beyond in
        let are : c.frames ≡ all ++ f ∷ [] = h.frames ∙ take_all 64 (all ++ f ∷ []) (omega (arith, lt, more)) in
        let count : length c.frames ≡ length (all ++ f ∷ []) = ap length are in
        let is = chosen false true (above 0 c.beyond (omega (arith, lt, more, was))) (below 1 (length c.frames) (omega (arith, some, more, count))) in
        let same : c.beyond ≡ length all - 64 = omega (arith, lt, more, was) in
        let back : take (length (all ++ f ∷ []) - 1) (all ++ f ∷ []) ≡ all = take_back (length (all ++ f ∷ []) - 1) all f (omega (arith, more)) in
        record {
          frames = ap (λ (x : CallChain). x.frames) is ∙ (ap (λ (fs : List ℕ). take (length fs - 1) fs) are ∙ (back ∙ sym (take_all 64 all (omega (arith, lt)))));
          beyond = ap (λ (x : CallChain). x.beyond) is ∙ same;
        }

return_none : (p : ℕ) (c : CallChain) → IsFirstOf (p ∷ []) c → with_return c ≡ c
return_none p c h =
    ap (λ (b : Bool). if b then record c { beyond = c.beyond - 1 } else if nat_lt 1 (length c.frames) then record c { frames = take (length c.frames - 1) c.frames } else c)
    (ap (nat_lt 0) h.beyond)
    ∙ ap (λ (b : Bool). if b then record c { frames = take (length c.frames - 1) c.frames } else c) (ap (λ (fs : List ℕ). nat_lt 1 (length fs)) h.frames)

-- ---- an instruction

link_is : (ins : Instr) → IsLink ins → is_call ins ≡ true
link_is ins h = elim h.0 [
  | inl jal ↦ ap (λ o. is_jump o && (ins.rd == 1)) jal ∙ ap (λ n. n == 1) h.1
  | inr jalr ↦ ap (λ o. is_jump o && (ins.rd == 1)) jalr ∙ ap (λ n. n == 1) h.1
]

return_is : (ins : Instr) → IsReturn ins → (is_call ins ≡ false) × (is_return ins ≡ true)
return_is ins h = (
  ap (λ o. is_jump o && (ins.rd == 1)) h.0 ∙ ap (λ n. n == 1) h.1,
  ap (λ o. is_jalr o && ((ins.rd == 0) && ((ins.rs1 == 1) && int_eq ins.imm (pos 0)))) h.0
      ∙ (ap (λ n. (n == 0) && ((ins.rs1 == 1) && int_eq ins.imm (pos 0))) h.1
      ∙ (ap (λ n. (n == 1) && int_eq ins.imm (pos 0)) h.2 ∙ ap (λ z. int_eq z (pos 0)) h.3)),
)

jump_is : (o : Op) → is_jump o ≡ true → (o ≡ op.Jal) ⊎ (o ≡ op.Jalr)
jump_is op.Jal e = inl refl
jump_is op.Jalr e = inr refl
jump_is o e = absurd cc

jalr_is : (o : Op) → is_jalr o ≡ true → o ≡ op.Jalr
jalr_is op.Jalr e = refl
jalr_is o e = absurd cc

both_true : (a b : Bool) → (a && b) ≡ true → (a ≡ true) × (b ≡ true)
both_true true b e = (refl, e)
both_true false b e = absurd cc

is_link : (ins : Instr) → is_call ins ≡ true → IsLink ins
is_link ins e = (let h = both_true (is_jump ins.op) (ins.rd == 1) e in (jump_is ins.op h.0, eqb-true ins.rd 1 h.1))

is_ret : (ins : Instr) → is_return ins ≡ true → IsReturn ins
is_ret ins e =
    let h = both_true (is_jalr ins.op) ((ins.rd == 0) && ((ins.rs1 == 1) && int_eq ins.imm (pos 0))) e in
    let k = both_true (ins.rd == 0) ((ins.rs1 == 1) && int_eq ins.imm (pos 0)) h.1 in
    let m = both_true (ins.rs1 == 1) (int_eq ins.imm (pos 0)) k.1 in
    (jalr_is ins.op h.0, eqb-true ins.rd 0 k.0, eqb-true ins.rs1 1 m.0, (Decides-int_eq ins.imm (pos 0)).0 m.1)

instr_is : (i : Image) (ins : Instr) (target : ℕ) (c : CallChain) → AreOpenCalls i ins target c
instr_is i ins target c = record {
  calls = λ all link text h.
      subst (IsFirstOf (all ++ proc_of i target ∷ [])) (sym (by_call true (link_is ins link) ∙ ap (λ (b : Bool). if b then with_call c (proc_of i target) else c) text)) (call_first all (proc_of i target) c h);
  outside = λ link text. by_call true (link_is ins link) ∙ ap (λ (b : Bool). if b then with_call c (proc_of i target) else c) text;
  returns = λ all f ret some h. subst (IsFirstOf all) (sym (by_return ret)) (return_first all f c some h);
  first = λ p ret h. by_return ret ∙ return_none p c h;
  others = λ no_link no_return. by_tests no_link no_return (is_call ins) (is_return ins) refl refl;
}
  where
    by_call : (t : Bool) → is_call ins ≡ t → chain_by i ins need.Done target c ≡ (if t then with_target i target c else if is_return ins then with_return c else c)
    by_call t e = ap (λ (b : Bool). if b then with_target i target c else if is_return ins then with_return c else c) e

    by_tests : (IsLink ins → ⊥) → (IsReturn ins → ⊥) → (t u : Bool) → is_call ins ≡ t → is_return ins ≡ u → chain_by i ins need.Done target c ≡ c
    by_tests no_link no_return true u e d = absurd (no_link (is_link ins e))
    by_tests no_link no_return false true e d = absurd (no_return (is_ret ins d))
    by_tests no_link no_return false false e d = by_call false e ∙ ap (λ (b : Bool). if b then with_return c else c) d

    by_return : IsReturn ins → chain_by i ins need.Done target c ≡ with_return c
    by_return ret = (let is = return_is ins ret in by_call false is.0 ∙ ap (λ (b : Bool). if b then with_return c else c) is.1)

pub open_calls : ChainsAreOpenCalls
open_calls = record { begins = λ p. record { frames = refl; beyond = refl }; each = instr_is }
