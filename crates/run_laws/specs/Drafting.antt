-- What each moment makes of its actor's drafts, read off the call's number and its arguments: a
-- second statement, beside the calls. A call that is refused leaves them as they are, and so does
-- everything else.
use Rattle.std.specs.Prelude.{◌≡◌, ℕ, zero, suc, ◌==◌, nat_le, ◌&&◌, Bool, true, false, length, option_and_then, List, [], ◌∷◌, ◌++◌, slice_get, slice_set, Option, Some, None, IsSomeAnd, if◌then◌else◌}
use Rattle.wedge_base.specs.Images.{Image, fetch}
use Rattle.wedge_base.specs.Sheets.{Draft, empty_draft, with_tag, with_fd, with_gate}
use Rattle.wedge_events.specs.declared.events.Event.{Event}
use Rattle.wedge_base.specs.declared.rights.FdBits.{FdBits}
use Rattle.wedge_base.specs.declared.rights.Right.{Right}
use Rattle.wedge_base.specs.declared.rights.Right.TheVariants as right
use Rattle.rv_isa.specs.declared.Instr.{Instr}
use Rattle.rv_isa.specs.Table.{decode}
use Rattle.rv_hart.specs.declared.Need.{Need}
use Rattle.rv_hart.specs.declared.Need.TheVariants as need
use Rattle.rv_hart.specs.Local.{local, reg}
use Rattle.machine.specs.Actors.{ActorState}
use Rattle.machine.specs.declared.phase.Phase.TheVariants as phase
use Rattle.run_laws.specs.Allowed.{answered_hart}
use Rattle.run_laws.specs.Refusals.{new_refusal, right_refusal, bits_refusal, gate_refusal, user_refusal, root_refusal, draft_refusal}
use Rattle.run_laws.specs.Requests.{path_at}
use Rattle.machine.specs.Worlds.{WorldState, actor_named, with_actor}

-- the right and the bits of an argument from 1 to 3
abbrev pub right_of_number : ℕ → Right
right_of_number n = if n == 1 then right.Cow else if n == 2 then right.Read else right.ReadWrite

abbrev pub bits_of_number : ℕ → FdBits
bits_of_number n = record { read = (if n == 2 then false else true); append = (if n == 1 then false else true) }

-- the drafts with the one of this number edited, unless the call is refused
abbrev pub edited : List Draft → ℕ → Option ℕ → (Draft → Draft) → Option Draft → List Draft
edited ds k (Some code) edit d = ds
edited ds k None edit None = ds
edited ds k None edit (Some d) = slice_set ds k (edit d)

abbrev pub with_new : List Draft → Option ℕ → List Draft
with_new ds (Some code) = ds
with_new ds None = ds ++ empty_draft ∷ []

-- sc_new, sc_mem_add, sc_fd_add, sc_cgate_add, sc_user and sc_root
abbrev pub drafts_by_call : Image → ActorState → List ℕ → ℕ → List Draft
drafts_by_call i a regs n =
    let ds = a.drafts in
    let found = slice_get a.drafts (reg regs 10) in
    let path = path_at i a (reg regs 11) (reg regs 12) in
    if n == 7 then with_new ds (new_refusal ds)
    else if n == 8 then edited ds (reg regs 10) (right_refusal (reg regs 11) (reg regs 12) found) (λ d. with_tag d (reg regs 11) (right_of_number (reg regs 12))) found
    else if n == 9 then edited ds (reg regs 10) (bits_refusal (reg regs 11) (reg regs 12) found) (λ d. with_fd d (reg regs 11) (bits_of_number (reg regs 12))) found
    else if n == 10 then edited ds (reg regs 10) (gate_refusal i (reg regs 11) found) (λ d. with_gate d (reg regs 11)) found
    else if n == 11 then edited ds (reg regs 10) (user_refusal found) (λ d. record d { user = Some (reg regs 11) }) found
    else if n == 12 then edited ds (reg regs 10) (root_refusal a (reg regs 12) path found) (λ d. record d { root = path }) found
    else ds

abbrev pub drafts_by_need : Image → ActorState → Need → List Draft
drafts_by_need i a need.Call = drafts_by_call i a a.hart.regs (reg a.hart.regs 17)
drafts_by_need i a n = a.drafts

abbrev pub drafts_by_instr : Image → ActorState → Option Instr → List Draft
drafts_by_instr i a None = a.drafts
drafts_by_instr i a (Some ins) = drafts_by_need i a (local ins a.hart).need

-- with so much fuel, of which the instruction takes a unit first
abbrev pub drafts_by_fuel : Image → ActorState → ℕ → ℕ → List Draft
drafts_by_fuel i a word zero = a.drafts
drafts_by_fuel i a word (suc n) = drafts_by_instr i (record a { fuel = n }) (decode word)

abbrev pub drafts_by_word : Image → ActorState → Option ℕ → List Draft
drafts_by_word i a None = a.drafts
drafts_by_word i a (Some word) = drafts_by_fuel i a word a.fuel

abbrev pub drafts_after : Image → ActorState → Option Event → List Draft
drafts_after i a None = drafts_by_word i a (fetch i a.hart.pc)
drafts_after i a (Some e) = a.drafts

-- ---- what such a call answers

-- whether a number is that of one of the six calls
abbrev pub is_draft_call : ℕ → Bool
is_draft_call n = nat_le 7 n && nat_le n 12

-- sc_new answers the number of the new draft, and each other call 0
abbrev pub draft_value : ActorState → ℕ → ℕ
draft_value a n = if n == 7 then length a.drafts else 0

-- A call on drafts that is not refused is answered in its instruction: its actor goes on at the
-- next word, with its drafts as the call made them and less fuel by what the call costs. It comes
-- to no event, and nothing else changes.
abbrev pub AnswersDraft : WorldState → ActorState → ℕ → WorldState → Type 0
AnswersDraft old a n new = is_draft_call n ≡ true → draft_refusal old.image a a.hart.regs n ≡ None
    → (fuel : ℕ) × (new ≡ with_actor old (record a { drafts = drafts_by_call old.image a a.hart.regs n; fuel = fuel; hart = answered_hart a (draft_value a n) 0; phase = phase.Running }))

abbrev pub AnswersNeed : WorldState → ActorState → Need → WorldState → Type 0
AnswersNeed old a need.Call new = AnswersDraft old a (reg a.hart.regs 17) new
AnswersNeed old a n new = Unit {0}

abbrev pub AnswersInstr : WorldState → ActorState → Option Instr → WorldState → Type 0
AnswersInstr old a None new = Unit {0}
AnswersInstr old a (Some ins) new = AnswersNeed old a (local ins a.hart).need new

-- with so much fuel, of which the instruction takes a unit first
abbrev pub AnswersWith : WorldState → ActorState → Option Instr → ℕ → WorldState → Type 0
AnswersWith old a ins zero new = Unit {0}
AnswersWith old a ins (suc n) new = AnswersInstr old (record a { fuel = n }) ins new

abbrev pub AnswersDrafts : WorldState → ActorState → Option Event → WorldState → Type 0
AnswersDrafts old a None new = AnswersWith old a (option_and_then decode (fetch old.image a.hart.pc)) a.fuel new
AnswersDrafts old a (Some e) new = Unit {0}

pub record EditsDrafts (old : WorldState) (a : ActorState) (e : Option Event) (new : WorldState) : Type 0 where
  pub drafts : IsSomeAnd (actor_named new.actors a.name) (λ b. b.drafts ≡ drafts_after old.image a e)
  pub answers : AnswersDrafts old a e new
