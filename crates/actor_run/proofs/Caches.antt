-- An actor's sheet never changes, so its cache keeps the rights of it.
use Rattle.std.proofs.Common.{◌≡◌, ℕ, ◌+◌, ◌<◌, ◌^◌, true, false, true≢false, List, length, Result, Ok, Err, OnOk, OnErr, refl, sym, ap, subst, ◌∙◌, arith}
use Rattle.std.specs.Prelude.{Option, Some, None, IfOk}
use Rattle.actor_step.specs.Reached.{reached}
use Rattle.actor_step.specs.declared.access.Access.{Access}
use Rattle.cow_pages.specs.PrivateMemory.{PrivateMemory, no_memory}
use Rattle.wedge_base.specs.Images.{Image}
use Rattle.wedge_base.specs.declared.rights.End.{End}
use Rattle.wedge_events.specs.declared.events.Event.{Event}
use Rattle.wedge_events.specs.declared.events.LogEntry.{LogEntry}
use Rattle.grant_cache.specs.Caches.{Cache, IsCacheOf}
use Rattle.grant_cache.specs.Hits.{IsAfter}
use Rattle.machine.specs.Actors.{ActorState, ActorRecord, whole}
use Rattle.machine.specs.Children.{without_child}
use Rattle.machine.specs.Local.{rest}
use Rattle.machine.specs.Take.{takes, has_joined}
use Rattle.run_laws.proofs.Between.{joined_is}
use Rattle.run_laws.proofs.Families.{takes_sheet}
use Rattle.run_laws.proofs.FamilyRuns.{kept_at_rest}
use Rattle.thread_laws.specs.LookUps.{tags_looked_up}
use Rattle.actor_run.specs.Runs.{KeepsCache}
use Rattle.actor_run.proofs.LookUps.{tags_few}

-- ---- the sheet stays

reached_sheet : (a : ActorState) (o : Option Access) → (reached a o).sheet ≡ a.sheet
reached_sheet a None = refl
reached_sheet a (Some x) = refl

sheet_at_rest : (i : Image) (old new : ActorRecord) (m n : PrivateMemory) (x o : Option Access) → reached (whole new n) o ≡ rest i (reached (whole old m) x) → new.sheet ≡ old.sheet
sheet_at_rest i old new m n x o is =
    sym (reached_sheet (whole new n) o)
    ∙ (ap (λ (y : ActorState). y.sheet) is ∙ ((kept_at_rest i (reached (whole old m) x) _ refl).sheet ∙ reached_sheet (whole old m) x))

sheet_taken : (i : Image) (old new : ActorRecord) (m n : PrivateMemory) (x : Option Access) (e : Event) → whole new n ≡ takes i (reached (whole old m) x) e → new.sheet ≡ old.sheet
sheet_taken i old new m n x e is = ap (λ (y : ActorState). y.sheet) is ∙ (takes_sheet i (reached (whole old m) x) e ∙ reached_sheet (whole old m) x)

joined_sheet : (a : ActorState) (k : ℕ) (how : End) (fuel : ℕ) → (has_joined a k how fuel).sheet ≡ a.sheet
joined_sheet a k how fuel = joined_is (λ (y : ActorState). y.sheet ≡ a.sheet) (record a { fuel = a.fuel + fuel; unjoined = without_child a.unjoined k }) a.phase how refl refl

-- ---- and so does what the cache keeps

module _ (old new : ActorRecord) (es : List LogEntry) (c : Cache) (k : KeepsCache old es c) where
  keeps_on : (new.stopped ≡ false → (old.stopped ≡ false) × (new.sheet ≡ old.sheet)) → KeepsCache new es c
  keeps_on goes = record {
    after = k.after;
    capacity = k.capacity;
    rights = λ going. subst (λ s. IsCacheOf s c) (sym (goes going).1) (k.rights (goes going).0);
  }

  -- of an actor that has stopped nothing more is kept
  pub keeps_stopped : new.stopped ≡ true → KeepsCache new es c
  keeps_stopped stopped = keeps_on (λ going. absurd (true≢false (sym stopped ∙ going)))

  pub keeps_at_rest : {E : Type 0} (i : Image) (m n : PrivateMemory) (x : Option Access) (r : Result (Option Access) E) → IfOk r (λ o. reached (whole new n) o ≡ rest i (reached (whole old m) x)) → OnOk r ((old.stopped ≡ false) × (new.stopped ≡ false))
      → OnErr r (new.stopped ≡ true) → KeepsCache new es c
  keeps_at_rest i m n x (Ok o) rests going stops = keeps_on (λ _. (going.0, sheet_at_rest i old new m n x o rests))
  keeps_at_rest i m n x (Err e) rests going stops = keeps_stopped stops

  pub keeps_taken : (i : Image) (m n : PrivateMemory) (x : Option Access) (e : Event) → whole new n ≡ takes i (reached (whole old m) x) e → (old.stopped ≡ false) × (new.stopped ≡ false) → KeepsCache new es c
  keeps_taken i m n x e is going = keeps_on (λ _. (going.0, sheet_taken i old new m n x e is))

  pub keeps_resumed : (number : ℕ) (how : End) (fuel : ℕ) → ((m : PrivateMemory) → whole new m ≡ has_joined (whole old m) number how fuel) → new.stopped ≡ old.stopped → KeepsCache new es c
  keeps_resumed number how fuel is same =
      keeps_on (λ going. (sym same ∙ going, ap (λ (x : ActorState). x.sheet) (is no_memory) ∙ joined_sheet (whole old no_memory) number how fuel))

-- one more look-up has room, where one more entry has
pub look_up_room : (es : List LogEntry) (c : Cache) → IsAfter (tags_looked_up es) c → length es + 1 < 2 ^ 64 → c.count.lookups + 1 < 2 ^ 64
look_up_room es c after room =
    let few = tags_few es in
    let all = after.lookups in
    omega arith
