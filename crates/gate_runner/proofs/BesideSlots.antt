-- What an actor does with others is on no slot.
use Rattle.std.proofs.Common.{◌≡◌, ℕ, List, ap, sym, ◌∙◌}
use Rattle.wedge_events.specs.declared.events.LogEntry.{LogEntry}
use Rattle.thread_laws.specs.ActorProgresses.{ActorProgress}
use Rattle.tag_laws.specs.DeclaredTags.{entries_on_declared}
use Rattle.actor_task.specs.Tasks.{IsSame, IsBesideSlots, IsTracked}

-- where it did nothing, and one after another
pub beside_same : (old new : ActorProgress) → new ≡ old → IsBesideSlots old new
beside_same old new is = record {
  same = record { began = ap (λ (x : ActorProgress). x.began) is; low = ap (λ (x : ActorProgress). x.low) is };
  entries_ = λ n. ap (λ (x : ActorProgress). entries_on_declared n x.entries) is;
}

pub beside_then : (old mid new : ActorProgress) → IsBesideSlots old mid → IsBesideSlots mid new → IsBesideSlots old new
beside_then old mid new a b = record {
  same = record { began = b.same.began ∙ a.same.began; low = b.same.low ∙ a.same.low };
  entries_ = λ n. b.entries_ n ∙ a.entries_ n;
}

-- what its pass entered are still its entries on the slots of declared tags
pub tracked_beside : (n : ℕ) (entered : List LogEntry) (old new : ActorProgress) → IsTracked n entered old → IsBesideSlots old new → IsTracked n entered new
tracked_beside n entered old new was h = was ∙ sym (h.entries_ n)
