-- An actor's pass has entered its entries on the slots of declared tags.
use Rattle.std.proofs.Common.{◌≡◌, ℕ, List, [], ◌∷◌, ◌++◌, Result, Ok, Err, OnOk, refl, sym, ap, subst, ◌∙◌}
use Rattle.wedge_base.specs.Images.{Image}
use Rattle.wedge_events.specs.declared.events.LogEntry.{LogEntry}
use Rattle.thread_laws.specs.declared.gathered.ActorEnd.{ActorEnd}
use Rattle.thread_laws.specs.ActorProgresses.{ActorProgress, after_entry, after_run}
use Rattle.tag_laws.specs.DeclaredTags.{entries_on_declared}
use Rattle.run_cells.specs.Entries.{IsOnNoSlot}
use Rattle.run_cells.proofs.OnDeclared.{none_more, one_more}
use Rattle.actor_task.specs.Tasks.{IsSame, IsBesideSlots, IsTracked}

-- after an entry that is on no slot
pub still_tracked : (n : ℕ) (entered : List LogEntry) (i : Image) (old new : ActorProgress) (e : LogEntry) → IsTracked n entered old → new ≡ after_entry i old e → IsOnNoSlot e → IsTracked n entered new
still_tracked n entered i old new e was is none = was ∙ (sym (none_more n old.entries e none) ∙ ap (λ (x : ActorProgress). entries_on_declared n x.entries) (sym is))

pub beside_after : (i : Image) (old new : ActorProgress) (e : LogEntry) → new ≡ after_entry i old e → IsOnNoSlot e → IsBesideSlots old new
beside_after i old new e is none = record {
  same = record { began = ap (λ (x : ActorProgress). x.began) is; low = ap (λ (x : ActorProgress). x.low) is };
  entries_ = λ n. ap (λ (x : ActorProgress). entries_on_declared n x.entries) is ∙ none_more n old.entries e none;
}

-- where nothing was on a slot
pub tracked_beside : (n : ℕ) (entered : List LogEntry) (old new : ActorProgress) → IsTracked n entered old → IsBesideSlots old new → IsTracked n entered new
tracked_beside n entered old new was h = was ∙ sym (h.entries_ n)

-- after an entry that the pass has more, if it is on these slots
pub tracked_more : (n : ℕ) (entered now_ : List LogEntry) (i : Image) (old new : ActorProgress) (e : LogEntry) → IsTracked n entered old → now_ ≡ entered ++ entries_on_declared n (e ∷ []) → new ≡ after_entry i old e → IsTracked n now_ new
tracked_more n entered now_ i old new e was more is = one_more n entered now_ old.entries e was more ∙ ap (λ (x : ActorProgress). entries_on_declared n x.entries) (sym is)

-- what follows from what a call did
pub if_done : {X E P Q : Type 0} (o : Result X E) → (P → Q) → OnOk o P → OnOk o Q
if_done (Ok x) f h = f h
if_done (Err e) f h = tt

-- after the run of a gate
pub beside_run : (old new : ActorProgress) (k : ℕ) (t : ActorEnd) → new ≡ after_run old k t → IsBesideSlots old new
beside_run old new k t is = record {
  same = record { began = ap (λ (x : ActorProgress). x.began) is; low = ap (λ (x : ActorProgress). x.low) is };
  entries_ = λ n. ap (λ (x : ActorProgress). entries_on_declared n x.entries) is;
}
