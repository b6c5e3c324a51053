-- A call on drafts that is not refused is answered in its instruction, and changes nothing but its actor.
use Rattle.std.proofs.Common.{◌≡◌, ℕ, zero, suc, ◌-◌, Bool, true, false, true≢false, List, [], ◌∷◌, ◌++◌, refl, sym, ap, subst, ◌∙◌, arith}
use Rattle.std.proofs.lemmas.Bool.{eqb-true}
use Rattle.std.proofs.lemmas.Bool.Decides.{nat_tests}
use Rattle.std.specs.Prelude.{Option, Some, None, option_and_then, not, ◌||◌, ◌==◌, nat_lt, nat_le, length, slice_get, if◌then◌else◌}
use Rattle.wedge_base.specs.Images.{Image, fetch}
use Rattle.wedge_base.specs.Sheets.{Draft, empty_draft, takes_tag, takes_fd, takes_gate, with_tag, with_fd, with_gate}
use Rattle.wedge_base.specs.declared.rights.Code.TheVariants as code
use Rattle.wedge_base.specs.declared.rights.Right.TheVariants as right
use Rattle.rv_isa.specs.declared.Instr.{Instr}
use Rattle.rv_isa.specs.Table.{decode}
use Rattle.rv_hart.specs.declared.Hart.{Hart}
use Rattle.rv_hart.specs.declared.Need.{Need}
use Rattle.rv_hart.specs.declared.Need.TheVariants as need
use Rattle.rv_hart.specs.Local.{local}
use Rattle.machine.specs.declared.phase.Phase.TheVariants as phase
use Rattle.machine.specs.Actors.{ActorState, answers, refuses, spends}
use Rattle.machine.specs.Calls.{serves, exit, is_procedure, create, join, tag_new, tag_delete, smalloc, sfree, fd_read, fd_append, fd_close, draft_call, sc_new, sc_mem_add, sc_fd_add, sc_cgate_add, add_gate_to, with_draft, add_right, add_right_to, add_bits, add_bits_to, read_append_bits, a0, a1, a2, a7, set_user, sc_user, path_in, set_root, sc_root, file_open, cgate_make, cgate}
use Rattle.machine.specs.Local.{step_with_need, step_with_instr, step_with_fuel, step_with_word, step}
use Rattle.run_laws.specs.Allowed.{answered_hart}
use Rattle.run_laws.specs.Drafting.{right_of_number, bits_of_number, edited, with_new, drafts_by_call, is_draft_call, draft_value, AnswersNeed, AnswersInstr, AnswersWith, AnswersDrafts}
use Rattle.run_laws.specs.Refusals.{full, bad, right_refusal, bits_refusal, gate_refusal, fuel_short, user_refusal, root_refusal, draft_refusal}
use Rattle.machine.specs.Worlds.{WorldState, with_actor}
use Rattle.run_laws.proofs.Buffers.{path_is}
use Rattle.run_laws.proofs.DraftEdits.{picked, one_not_two}
use Rattle.run_laws.proofs.Named.{put_put}
use Rattle.machine.proofs.Resting.{not_below}

-- an actor that goes on at the next word, answered a value, with such drafts and some fuel
abbrev Answered : ActorState → ℕ → List Draft → ActorState → Type 0
Answered a value ds x = (fuel : ℕ) × (x ≡ record a { drafts = ds; fuel = fuel; hart = answered_hart a value 0; phase = phase.Running })

-- a refusal that is none
abbrev if_room : Bool → Option ℕ
if_room t = if t then None else Some full

not_full : {X : Type 0} (t : Bool) → t ≡ false → if_room t ≡ None → X
not_full t e none = let f : Some full ≡ None = sym (ap if_room e) ∙ none in absurd cc

-- ---- each call

new_answers : (a : ActorState) (n : ℕ) (t : Bool) → nat_lt n 64 ≡ not t → if_room (nat_lt n 64) ≡ None
    → Answered a n (with_new a.drafts (if_room (nat_lt n 64))) (if t then refuses a code.Full else answers (record a { drafts = a.drafts ++ empty_draft ∷ [] }) n)
new_answers a n true e none = not_full (nat_lt n 64) e none
new_answers a n false e none = (a.fuel, ap (λ r. answers (record a { drafts = with_new a.drafts r }) n) (sym none))

put_answers : (a : ActorState) (d new : Draft) (edit : Draft → Draft) (w : Bool) → edit d ≡ new → if_room w ≡ None
    → Answered a 0 (edited a.drafts (a0 a) (if_room w) edit (Some d)) (if w then answers (with_draft a (a0 a) new) 0 else refuses a code.Full)
put_answers a d new edit true is none = (a.fuel, ap (λ x. answers (with_draft a (a0 a) x) 0) (sym is))
put_answers a d new edit false is none = absurd cc

right_answers : (a : ActorState) (d : Draft) (t u v : Bool) → (if not (t || (u || v)) then Some bad else if_room (takes_tag d (a1 a))) ≡ None
    → Answered a 0 (edited a.drafts (a0 a) (if not (t || (u || v)) then Some bad else if_room (takes_tag d (a1 a))) (λ x. with_tag x (a1 a) (if t then right.Cow else if u then right.Read else right.ReadWrite)) (Some d))
    (add_right a d (if t then Some right.Cow else if u then Some right.Read else if v then Some right.ReadWrite else None))
right_answers a d true u v none = put_answers a d (with_tag d (a1 a) right.Cow) (λ x. with_tag x (a1 a) right.Cow) (takes_tag d (a1 a)) refl none
right_answers a d false true v none = put_answers a d (with_tag d (a1 a) right.Read) (λ x. with_tag x (a1 a) right.Read) (takes_tag d (a1 a)) refl none
right_answers a d false false true none = put_answers a d (with_tag d (a1 a) right.ReadWrite) (λ x. with_tag x (a1 a) right.ReadWrite) (takes_tag d (a1 a)) refl none
right_answers a d false false false none = absurd cc

right_to_answers : (a : ActorState) (d : Option Draft) → right_refusal (a1 a) (a2 a) d ≡ None
    → Answered a 0 (edited a.drafts (a0 a) (right_refusal (a1 a) (a2 a) d) (λ x. with_tag x (a1 a) (right_of_number (a2 a))) d) (add_right_to a d)
right_to_answers a None none = absurd cc
right_to_answers a (Some d) none = right_answers a d (a2 a == 1) (a2 a == 2) (a2 a == 3) none

bits_answers : (a : ActorState) (d : Draft) (t u v : Bool) → (t ≡ true → u ≡ false) → (if not (t || (u || v)) then Some bad else if_room (takes_fd d (a1 a))) ≡ None
    → Answered a 0 (edited a.drafts (a0 a) (if not (t || (u || v)) then Some bad else if_room (takes_fd d (a1 a)))
    (λ x. with_fd x (a1 a) (record { read = (if u then false else true); append = (if t then false else true) })) (Some d))
    (add_bits a d (if t then Some (read_append_bits true false) else if u then Some (read_append_bits false true) else if v then Some (read_append_bits true true) else None))
bits_answers a d true true v apart none = let both : true ≡ false = apart refl in absurd cc
bits_answers a d true false v apart none = put_answers a d (with_fd d (a1 a) (read_append_bits true false)) (λ x. with_fd x (a1 a) (read_append_bits true false)) (takes_fd d (a1 a)) refl none
bits_answers a d false true v apart none = put_answers a d (with_fd d (a1 a) (read_append_bits false true)) (λ x. with_fd x (a1 a) (read_append_bits false true)) (takes_fd d (a1 a)) refl none
bits_answers a d false false true apart none = put_answers a d (with_fd d (a1 a) (read_append_bits true true)) (λ x. with_fd x (a1 a) (read_append_bits true true)) (takes_fd d (a1 a)) refl none
bits_answers a d false false false apart none = absurd cc

bits_to_answers : (a : ActorState) (d : Option Draft) → bits_refusal (a1 a) (a2 a) d ≡ None
    → Answered a 0 (edited a.drafts (a0 a) (bits_refusal (a1 a) (a2 a) d) (λ x. with_fd x (a1 a) (bits_of_number (a2 a))) d) (add_bits_to a d)
bits_to_answers a None none = absurd cc
bits_to_answers a (Some d) none = bits_answers a d (a2 a == 1) (a2 a == 2) (a2 a == 3) (one_not_two (a2 a)) none

entry_answers : (a : ActorState) (d : Draft) (p : Bool) → (if not p then Some bad else if_room (takes_gate d (a1 a))) ≡ None
    → Answered a 0 (edited a.drafts (a0 a) (if not p then Some bad else if_room (takes_gate d (a1 a))) (λ x. with_gate x (a1 a)) (Some d))
    (if not p then refuses a code.Bad else if takes_gate d (a1 a) then answers (with_draft a (a0 a) (with_gate d (a1 a))) 0 else refuses a code.Full)
entry_answers a d false none = absurd cc
entry_answers a d true none = put_answers a d (with_gate d (a1 a)) (λ x. with_gate x (a1 a)) (takes_gate d (a1 a)) refl none

gate_answers : (i : Image) (a : ActorState) (d : Option Draft) → gate_refusal i (a1 a) d ≡ None
    → Answered a 0 (edited a.drafts (a0 a) (gate_refusal i (a1 a) d) (λ x. with_gate x (a1 a)) d) (add_gate_to i a d)
gate_answers i a None none = absurd cc
gate_answers i a (Some d) none = entry_answers a d (is_procedure i (a1 a)) none

user_answers : (a : ActorState) (d : Option Draft) → user_refusal d ≡ None → Answered a 0 (edited a.drafts (a0 a) (user_refusal d) (λ x. record x { user = Some (a1 a) }) d) (set_user a d)
user_answers a None none = absurd cc
user_answers a (Some d) none = (a.fuel, refl)

abbrev if_paid : Bool → Option ℕ
if_paid t = if t then None else Some fuel_short

path_answers : (a : ActorState) (d : Draft) (path : List ℕ) (t : Bool) → nat_le (a2 a) a.fuel ≡ not t → if_paid (nat_le (a2 a) a.fuel) ≡ None
    → Answered a 0 (edited a.drafts (a0 a) (if_paid (nat_le (a2 a) a.fuel)) (λ x. record x { root = Some path }) (Some d))
    (if t then refuses a code.FuelShort else answers (spends (with_draft a (a0 a) (record d { root = Some path })) (a2 a)) 0)
path_answers a d path true e none = let f : Some fuel_short ≡ None = sym (ap if_paid e) ∙ none in absurd cc
path_answers a d path false e none =
    (a.fuel - a2 a, ap (λ r. answers (record a { drafts = edited a.drafts (a0 a) r (λ x. record x { root = Some path }) (Some d); fuel = a.fuel - a2 a }) 0) (sym none))

root_answers : (a : ActorState) (path : Option (List ℕ)) (d : Option Draft) → root_refusal a (a2 a) path d ≡ None
    → Answered a 0 (edited a.drafts (a0 a) (root_refusal a (a2 a) path d) (λ x. record x { root = path }) d) (set_root a path d)
root_answers a path None none = absurd cc
root_answers a None (Some d) none = absurd cc
root_answers a (Some path) (Some d) none = path_answers a d path (nat_lt a.fuel (a2 a)) (not_below a.fuel (a2 a)) none

abbrev AnswersRoot : ActorState → Option (List ℕ) → Option (List ℕ) → Option Draft → Type 0
AnswersRoot a path told d = root_refusal a (a2 a) told d ≡ None → Answered a 0 (edited a.drafts (a0 a) (root_refusal a (a2 a) told d) (λ x. record x { root = told }) d) (set_root a path d)

-- ---- a call by its number

at_test : (a : ActorState) (t : Bool) (x y : ActorState) (ds es : List Draft) (r q : Option ℕ) (v u : ℕ) → (r ≡ None → Answered a v ds x) → (q ≡ None → Answered a u es y)
    → (if t then r else q) ≡ None → Answered a (if t then v else u) (if t then ds else es) (if t then x else y)
at_test a true x y ds es r q v u h k none = h none
at_test a false x y ds es r q v u h k none = k none

at_same : (a : ActorState) (t : Bool) (x y : ActorState) (ds es : List Draft) (r q : Option ℕ) → (r ≡ None → Answered a 0 ds x) → (q ≡ None → Answered a 0 es y)
    → (if t then r else q) ≡ None → Answered a 0 (if t then ds else es) (if t then x else y)
at_same a true x y ds es r q h k none = h none
at_same a false x y ds es r q h k none = k none

no_call : (a x : ActorState) (ds : List Draft) → Some bad ≡ None → Answered a 0 ds x
no_call a x ds none = absurd cc

draft_answers : (i : Image) (a : ActorState) (n : ℕ) → draft_refusal i a a.hart.regs n ≡ None → Answered a (draft_value a n) (drafts_by_call i a a.hart.regs n) (draft_call i a n)
draft_answers i a n =
    let found = slice_get a.drafts (a0 a) in
    at_test a (n == 7) (sc_new a) _ _ _ _ _ (length a.drafts) 0 (new_answers a (length a.drafts) (nat_le 64 (length a.drafts)) (not_over (length a.drafts)))
    (at_same a (n == 8) (sc_mem_add a) _ _ _ _ _ (right_to_answers a found)
    (at_same a (n == 9) (sc_fd_add a) _ _ _ _ _ (bits_to_answers a found)
    (at_same a (n == 10) (sc_cgate_add i a) _ _ _ _ _ (gate_answers i a found)
    (at_same a (n == 11) (sc_user a) _ _ _ _ _ (user_answers a found)
    (at_same a (n == 12) (sc_root i a) _ _ _ _ _ (subst (λ told. AnswersRoot a (path_in i a (a1 a) (a2 a)) told found) (sym (path_is i a (a1 a) (a2 a))) (root_answers a (path_in i a (a1 a) (a2 a)) found))
    (no_call a (refuses a code.Bad) a.drafts))))))
  where
    not_over : (n : ℕ) → nat_lt n 64 ≡ not (nat_le 64 n)
    not_over n = grind (arith, nat_tests)

-- a number of another call is none of these
other_call : {X : Type 0} (n k : ℕ) → (n == k) ≡ true → is_draft_call k ≡ false → is_draft_call n ≡ true → X
other_call n k e other is = absurd (true≢false (sym is ∙ (ap is_draft_call (eqb-true n k e) ∙ other)))

call_answers : (i : Image) (a : ActorState) (n : ℕ) → is_draft_call n ≡ true → draft_refusal i a a.hart.regs n ≡ None → Answered a (draft_value a n) (drafts_by_call i a a.hart.regs n) (serves i a n)
unfolding serves
call_answers i a n is none =
    picked (Answered a (draft_value a n) (drafts_by_call i a a.hart.regs n)) (n == 0) (exit a) _ (λ e. other_call n 0 e refl is)
    (λ _. picked (Answered a (draft_value a n) (drafts_by_call i a a.hart.regs n)) (n == 1) (create i a) _ (λ e. other_call n 1 e refl is)
    (λ _. picked (Answered a (draft_value a n) (drafts_by_call i a a.hart.regs n)) (n == 2) (join a) _ (λ e. other_call n 2 e refl is)
    (λ _. picked (Answered a (draft_value a n) (drafts_by_call i a a.hart.regs n)) (n == 3) (tag_new a) _ (λ e. other_call n 3 e refl is)
    (λ _. picked (Answered a (draft_value a n) (drafts_by_call i a a.hart.regs n)) (n == 4) (tag_delete a) _ (λ e. other_call n 4 e refl is)
    (λ _. picked (Answered a (draft_value a n) (drafts_by_call i a a.hart.regs n)) (n == 5) (smalloc a) _ (λ e. other_call n 5 e refl is)
    (λ _. picked (Answered a (draft_value a n) (drafts_by_call i a a.hart.regs n)) (n == 6) (sfree a) _ (λ e. other_call n 6 e refl is)
    (λ _. picked (Answered a (draft_value a n) (drafts_by_call i a a.hart.regs n)) (n == 13) (cgate_make i a) _ (λ e. other_call n 13 e refl is)
    (λ _. picked (Answered a (draft_value a n) (drafts_by_call i a a.hart.regs n)) (n == 14) (cgate a) _ (λ e. other_call n 14 e refl is)
    (λ _. picked (Answered a (draft_value a n) (drafts_by_call i a a.hart.regs n)) (n == 15) (fd_read a) _ (λ e. other_call n 15 e refl is)
    (λ _. picked (Answered a (draft_value a n) (drafts_by_call i a a.hart.regs n)) (n == 16) (fd_append i a) _ (λ e. other_call n 16 e refl is)
    (λ _. picked (Answered a (draft_value a n) (drafts_by_call i a a.hart.regs n)) (n == 17) (fd_close a) _ (λ e. other_call n 17 e refl is)
    (λ _. picked (Answered a (draft_value a n) (drafts_by_call i a a.hart.regs n)) (n == 18) (file_open i a) _ (λ e. other_call n 18 e refl is)
    (λ _. draft_answers i a n none)))))))))))))

-- ---- an instruction

-- an actor that is put in place of itself as it was
put_back : (w : WorldState) (b x : ActorState) → x.name ≡ b.name → with_actor w x ≡ with_actor (with_actor w b) x
put_back w b x name = ap (λ (as_ : List ActorState). record w { actors = as_ }) (sym (put_put w.actors b x name))

need_answers : (w : WorldState) (b : ActorState) (n : ℕ) (ins : Instr) (h : Hart) (k : Need) → AnswersNeed (with_actor w b) (record b { fuel = n }) k (with_actor w (step_with_need w.image ins (record b { fuel = n }) h k))
need_answers w b n ins h need.Done = tt
need_answers w b n ins h (need.Load address width s) = tt
need_answers w b n ins h (need.Store address width value) = tt
need_answers w b n ins h need.Break = tt
need_answers w b n ins h need.JumpMisaligned = tt
need_answers w b n ins h need.Call = λ is none.
    let p = record b { fuel = n } in
    let x = call_answers w.image p (a7 p) is none in
    (x.0, ap (with_actor w) x.1 ∙ put_back w b _ refl)

instr_answers : (w : WorldState) (b : ActorState) (n : ℕ) (ins : Option Instr) → AnswersInstr (with_actor w b) (record b { fuel = n }) ins (with_actor w (step_with_instr w.image (record b { fuel = n }) ins))
instr_answers w b n None = tt
instr_answers w b n (Some ins) = need_answers w b n ins (local ins b.hart).hart (local ins b.hart).need

word_answers : (w : WorldState) (b : ActorState) (o : Option ℕ) (n : ℕ) → b.fuel ≡ n → AnswersWith (with_actor w b) b (option_and_then decode o) n (with_actor w (step_with_word w.image b o))
word_answers w b None zero has = tt
word_answers w b None (suc n) has = tt
word_answers w b (Some word) zero has = tt
word_answers w b (Some word) (suc n) has =
    let left : n ≡ b.fuel - 1 = omega (arith, has) in
    let is : step_with_instr w.image (record b { fuel = n }) (decode word) ≡ step_with_fuel w.image b word b.fuel =
    ap (λ m. step_with_instr w.image (record b { fuel = m }) (decode word)) left ∙ ap (step_with_fuel w.image b word) (sym has) in
    subst (λ x. AnswersInstr (with_actor w b) (record b { fuel = n }) (decode word) (with_actor w x)) is (instr_answers w b n (decode word))

pub step_answers : (w : WorldState) (b : ActorState) → AnswersDrafts (with_actor w b) b None (with_actor w (step w.image b))
unfolding step
step_answers w b = word_answers w b (fetch w.image b.hart.pc) b.fuel refl
