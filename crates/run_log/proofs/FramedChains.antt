-- Chains of calls stay framed, call by call and instruction by instruction.
use Rattle.std.proofs.Common.{◌≡◌, ℕ, zero, suc, ◌+◌, ◌-◌, ◌<◌, ◌≤◌, Bool, true, false, List, [], ◌∷◌, ◌++◌, length, take, refl, sym, subst, arith, inl, inr, ◌⊎◌}
use Rattle.std.specs.Prelude.{Option, Some, None, nat_lt, option_map, if◌then◌else◌}
use Rattle.std.specs.List.{AllByRecursion}
use Rattle.wedge_base.specs.Images.{Image, in_text}
use Rattle.image_form.specs.Address.{proc_of}
use Rattle.rv_isa.specs.declared.Instr.{Instr}
use Rattle.rv_hart.specs.declared.Need.{Need}
use Rattle.rv_hart.specs.declared.Need.TheVariants as need
use Rattle.rv_hart.specs.Local.{local}
use Rattle.machine.specs.Actors.{ActorState}
use Rattle.machine.specs.Local.{step, is_running}
use Rattle.machine.proofs.Resting.{steps_step}
use Rattle.trace_form.specs.declared.words.Kind.{Kind}
use Rattle.trace_form.specs.declared.words.Mode.TheVariants as mode
use Rattle.run_notes.specs.Chains.{most_frames, opening_chain, with_call, with_return, is_call, is_return, with_target, chain_after, chain_by}
use Rattle.run_notes.specs.Doers.{doer_of}
use Rattle.run_notes.specs.Items.{copy_item}
use Rattle.run_notes.specs.Notes.{Noted, note_by, with_note, copy_note, copy_reached, note_of_need, noted_instr, instr_at, noted_step, noted_local, noted_rest}
use Rattle.run_notes.specs.declared.chain.CallChain.{CallChain}
use Rattle.run_notes.specs.declared.items.Makings.{Makings}
use Rattle.run_notes.specs.declared.items.NoteItem.{NoteItem}
use Rattle.run_notes.specs.declared.note.Note.{Note}
use Rattle.run_log.specs.ChainLaws.{IsProcedureIn, IsFramed, IsNoteFramed}

lt_of : (a b : ℕ) → nat_lt a b ≡ true → a < b
lt_of a b e = grind arith

le_of : (a b : ℕ) → nat_lt a b ≡ false → b ≤ a
le_of a b e = grind arith

pub all_push : {X : Type 0} (P : X → Type 0) (xs : List X) (x : X) → AllByRecursion P xs → P x → AllByRecursion P (xs ++ x ∷ [])
all_push P [] x all one = (one, tt)
all_push P (y ∷ ys) x all one = (all.0, all_push P ys x all.1 one)

all_take : {X : Type 0} (P : X → Type 0) (n : ℕ) (xs : List X) → AllByRecursion P xs → AllByRecursion P (take n xs)
all_take P zero xs all = tt
all_take P (suc n) [] all = tt
all_take P (suc n) (y ∷ ys) all = (all.0, all_take P n ys all.1)

length_push : (xs : List ℕ) (x : ℕ) → length (xs ++ x ∷ []) ≡ length xs + 1
length_push [] x = refl
length_push (y ∷ ys) x = (let h = length_push ys x in omega (arith, h))

length_take : (n : ℕ) (xs : List ℕ) → length (take n xs) ≤ length xs
length_take zero xs = omega arith
length_take (suc n) [] = omega arith
length_take (suc n) (y ∷ ys) = (let h = length_take n ys in omega (arith, h))

-- the chain of an actor of a compartment: calls are counted only where it is full
pub record IsChainOf (i : Image) (compartment : ℕ) (c : CallChain) : Type 0 where
  pub framed : IsFramed i compartment c.frames
  pub full : 0 < c.beyond → length c.frames ≡ most_frames

pub opening_framed : (i : Image) (compartment : ℕ) → IsChainOf i compartment (opening_chain compartment)
opening_framed i compartment = record { framed = (refl, omega arith, tt); full = λ some. absurd (omega (arith, some)) }

-- ---- a call and a return

call_framed : (i : Image) (p f beyond : ℕ) (frames : List ℕ) → IsProcedureIn i f → IsFramed i p frames → (0 < beyond → length frames ≡ most_frames) → IsChainOf i p (with_call (record { frames = frames; beyond = beyond }) f)
call_framed i p f beyond [] is framed full = absurd framed
call_framed i p f beyond (g ∷ gs) is framed full = by_room (nat_lt (length (g ∷ gs)) most_frames) refl
  where
    by_room : (t : Bool) → nat_lt (length (g ∷ gs)) most_frames ≡ t
        → IsChainOf i p (if t then record { frames = (g ∷ gs) ++ f ∷ []; beyond = beyond } else record { frames = g ∷ gs; beyond = beyond + 1 })
    by_room true e =
        let room : length (g ∷ gs) < most_frames = lt_of (length (g ∷ gs)) most_frames e in
        let more = length_push gs f in
        record { framed = (framed.0, omega (arith, room, more), all_push (IsProcedureIn i) gs f framed.2 is); full = λ some. (let was = full some in absurd (omega (arith, room, was))) }
    by_room false e =
        let none : most_frames ≤ length (g ∷ gs) = le_of (length (g ∷ gs)) most_frames e in
        let few = framed.1 in
        record { framed = framed; full = λ some. omega (arith, none, few) }

return_framed : (i : Image) (p beyond : ℕ) (frames : List ℕ) → IsFramed i p frames → (0 < beyond → length frames ≡ most_frames) → IsChainOf i p (with_return (record { frames = frames; beyond = beyond }))
return_framed i p beyond [] framed full = absurd framed
return_framed i p beyond (g ∷ gs) framed full = by_counted (nat_lt 0 beyond) refl
  where
    fewer : (n : ℕ) → n ≡ suc (length gs) - 1 → IsFramed i p (take n (g ∷ gs)) ⊎ (n ≡ 0)
    fewer zero is = inr refl
    fewer (suc m) is = inl (framed.0, (let few = length_take m gs in let was = framed.1 in omega (arith, few, was)), all_take (IsProcedureIn i) m gs framed.2)

    by_frames : (t : Bool) → nat_lt 1 (length (g ∷ gs)) ≡ t → nat_lt 0 beyond ≡ false
        → IsChainOf i p (if t then record { frames = take (length (g ∷ gs) - 1) (g ∷ gs); beyond = beyond } else record { frames = g ∷ gs; beyond = beyond })
    by_frames true e none =
        let some : 1 < length (g ∷ gs) = lt_of 1 (length (g ∷ gs)) e in
        let zero_one : beyond ≤ 0 = le_of 0 beyond none in
        record {
          framed = elim (fewer (length (g ∷ gs) - 1) refl) [ inl h ↦ h | inr z ↦ absurd (omega (arith, some, z)) ];
          full = λ more. absurd (omega (arith, zero_one, more));
        }
    by_frames false e none = record { framed = framed; full = full }

    by_counted : (t : Bool) → nat_lt 0 beyond ≡ t
        → IsChainOf i p (if t then record { frames = g ∷ gs; beyond = beyond - 1 }
        else if nat_lt 1 (length (g ∷ gs)) then record { frames = take (length (g ∷ gs) - 1) (g ∷ gs); beyond = beyond } else record { frames = g ∷ gs; beyond = beyond })
    by_counted true e = record { framed = framed; full = λ more. full (lt_of 0 beyond e) }
    by_counted false e = by_frames (nat_lt 1 (length (g ∷ gs))) refl e

-- ---- an instruction

target_framed : (i : Image) (p target : ℕ) (c : CallChain) → IsChainOf i p c → IsChainOf i p (with_target i target c)
target_framed i p target c was = by_text (in_text i target 1) refl
  where
    by_text : (t : Bool) → in_text i target 1 ≡ t → IsChainOf i p (if t then with_call c (proc_of i target) else c)
    by_text true e = call_framed i p (proc_of i target) c.beyond c.frames (target, e, refl) was.framed was.full
    by_text false e = was

after_framed : (i : Image) (p : ℕ) (ins : Instr) (target : ℕ) (c : CallChain) → IsChainOf i p c → IsChainOf i p (chain_after i ins target c)
after_framed i p ins target c was = by_call (is_call ins) (is_return ins)
  where
    by_call : (t u : Bool) → IsChainOf i p (if t then with_target i target c else if u then with_return c else c)
    by_call true u = target_framed i p target c was
    by_call false true = return_framed i p c.beyond c.frames was.framed was.full
    by_call false false = was

by_framed : (i : Image) (p : ℕ) (ins : Instr) (n : Need) (target : ℕ) (c : CallChain) → IsChainOf i p c → IsChainOf i p (chain_by i ins n target c)
by_framed i p ins need.Done target c was = after_framed i p ins target c was
by_framed i p ins (need.Load address width s) target c was = was
by_framed i p ins (need.Store address width v) target c was = was
by_framed i p ins need.Call target c was = was
by_framed i p ins need.Break target c was = was
by_framed i p ins need.JumpMisaligned target c was = was

-- ---- and its note

-- a note, if there is one, is framed
abbrev pub IsOptionFramed : Image → Option Note → Type 0
IsOptionFramed i None = Unit {0}
IsOptionFramed i (Some n) = IsNoteFramed i n

pub note_framed : (i : Image) (notes : List Note) (o : Option Note) → AllByRecursion (IsNoteFramed i) notes → IsOptionFramed i o → AllByRecursion (IsNoteFramed i) (with_note notes o)
note_framed i notes None all one = all
note_framed i notes (Some n) all one = all_push (IsNoteFramed i) notes n all one

copy_framed : (i : Image) (m : Makings) (a : ActorState) (c : CallChain) (k : Kind) (o : Option ℕ) → IsFramed i a.compartment c.frames → IsOptionFramed i (copy_note i m a c k o)
copy_framed i m a c k None framed = tt
copy_framed i m a c k (Some slot) framed = by_item (copy_item i m a.sheet slot)
  where
    by_item : (it : Option NoteItem) → IsOptionFramed i (option_map (note_by (doer_of a) c k mode.Private) it)
    by_item None = tt
    by_item (Some x) = framed

need_framed : (i : Image) (m : Makings) (a : ActorState) (c : CallChain) (n : Need) → IsFramed i a.compartment c.frames → IsOptionFramed i (note_of_need i m a c n)
need_framed i m a c need.Done framed = tt
need_framed i m a c (need.Load address width s) framed = copy_framed i m a c _ (copy_reached i a.memory address width) framed
need_framed i m a c (need.Store address width v) framed = copy_framed i m a c _ (copy_reached i a.memory address width) framed
need_framed i m a c need.Call framed = tt
need_framed i m a c need.Break framed = tt
need_framed i m a c need.JumpMisaligned framed = tt

-- what is kept of an actor's instructions is framed
pub record AreFramed (i : Image) (compartment : ℕ) (l : Noted) : Type 0 where
  pub chain : IsChainOf i compartment l.chain
  pub notes : AllByRecursion (IsNoteFramed i) l.notes

step_framed : (i : Image) (m : Makings) (a : ActorState) (l : Noted) → AreFramed i a.compartment l → AreFramed i a.compartment (noted_step i m a l)
step_framed i m a l was = by_instr (instr_at i a)
  where
    by_instr : (o : Option Instr) → AreFramed i a.compartment (noted_instr i m a l o)
    by_instr None = was
    by_instr (Some ins) =
        let b = local ins a.hart in
        record {
          chain = by_framed i a.compartment ins b.need b.hart.pc l.chain was.chain;
          notes = note_framed i l.notes (note_of_need i m a l.chain b.need) was.notes (need_framed i m a l.chain b.need was.chain.framed);
        }

local_framed : (i : Image) (m : Makings) (n : ℕ) (a : ActorState) (l : Noted) → AreFramed i a.compartment l → AreFramed i a.compartment (noted_local i m n a l)
unfolding noted_local
local_framed i m zero a l was = was
local_framed i m (suc n) a l was =
    by_running (is_running a.phase) (λ next. local_framed i m n (step i a) (noted_step i m a l) next)
  where
    by_running : (t : Bool) → (AreFramed i (step i a).compartment (noted_step i m a l) → AreFramed i (step i a).compartment (noted_local i m n (step i a) (noted_step i m a l)))
        → AreFramed i a.compartment (elim t [ true ↦ noted_local i m n (step i a) (noted_step i m a l) | false ↦ l ])
    by_running true more =
        let same = (steps_step i a).compartment in
        let next : AreFramed i (step i a).compartment (noted_step i m a l) = subst (λ p. AreFramed i p (noted_step i m a l)) (sym same) (step_framed i m a l was) in
        subst (λ p. AreFramed i p (noted_local i m n (step i a) (noted_step i m a l))) same (more next)
    by_running false more = was

pub rest_framed : (i : Image) (m : Makings) (a : ActorState) (l : Noted) → AreFramed i a.compartment l → AreFramed i a.compartment (noted_rest i m a l)
unfolding noted_rest
rest_framed i m a l was = local_framed i m (a.fuel + 1) a l was
