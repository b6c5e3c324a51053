-- The call that starts a child, whose draft is there and whose entry is a procedure.
use Rattle.std.proofs.Common.{◌≡◌, ℕ, ◌<◌, Bool, true, false, List, length, get_or, refl, sym, ap, ◌∙◌}
use Rattle.std.specs.Prelude.{Option, None, is_some, Result, Ok, Err, OnOk, Some, not, slice_get, if◌then◌else◌}
use Rattle.wedge_base.specs.Images.{Image}
use Rattle.wedge_base.specs.Sheets.{Draft, first_excess}
use Rattle.wedge_base.specs.declared.rights.Code.TheVariants as code
use Rattle.wedge_base.specs.declared.rights.Denial.{Denial}
use Rattle.wedge_events.specs.declared.events.Event.{Event}
use Rattle.wedge_events.specs.declared.events.Event.TheVariants as event
use Rattle.machine.specs.Actors.{ActorState, refuses}
use Rattle.machine.specs.Calls.{a0, a1, is_procedure, create_checked, create_with, create}
use Rattle.machine.specs.Take.{has_started, takes}
use Rattle.machine.proofs.PutBack.{get_at}

-- a procedure is there, since its address was found
pub begins_there : (t n : Bool) (x : ℕ) (o : Option ℕ) → o ≡ (if t then Some x else None) → is_some o ≡ not n → n ≡ false → t ≡ true
begins_there true n x o is some none = refl
begins_there false n x o is some none = let f : false ≡ true = sym (ap is_some is) ∙ some ∙ ap not none in absurd cc

-- what follows from the outcome of a call follows of its result
pub on_ok : {X E : Type 0} {A B : Type 0} (r : Result X E) → (A → B) → OnOk r A → OnOk r B
on_ok (Ok x) f h = f h
on_ok (Err e) f h = tt

pub creates : (i : Image) (a : ActorState) (n : ℕ) (d : Draft) (o : Option Denial) → n ≡ a0 a → n < length a.drafts → d ≡ get_or a.drafts n d → is_procedure i (a1 a) ≡ true → o ≡ first_excess a.sheet a.made d
    → create_checked a o ≡ create i a
creates i a n d o is inside there begins excess =
    ap (create_checked a) excess
    ∙ sym (ap (create_with i a) (ap (slice_get a.drafts) (sym is) ∙ get_at a.drafts n d inside there)
    ∙ ap (λ t. if not t then refuses a code.Bad else create_checked a (first_excess a.sheet a.made d)) begins)

-- what a start makes of its starter
pub starts_as : (i : Image) (a : ActorState) (e : Event) (child : List ℕ) → e ≡ event.Start child → takes i a e ≡ has_started a
unfolding takes
starts_as i a e child is = ap (takes i a) is
