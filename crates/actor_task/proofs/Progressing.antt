-- The progress of an actor goes on by what its thread does.
use Rattle.std.proofs.Common.{◌≡◌, ℕ, ◌+◌, ◌<◌, ◌≤◌, true, false, List, [], ◌∷◌, ◌++◌, length, refl, sym, ap, subst, ◌∙◌, arith, inl, inr}
use Rattle.std.proofs.lemmas.List.{length-append}
use Rattle.std.specs.Prelude.{◌⊎◌, Option, Some, None, IsSomeAnd, is_some, slice_get, Result, Ok, Err, IfOk, OnOk, OnErr, All}
use Rattle.wedge_base.specs.declared.errors.NoMemory.{NoMemory}
use Rattle.cow_pages.specs.PrivateMemory.{PrivateMemory}
use Rattle.wedge_base.specs.Images.{Image}
use Rattle.wedge_events.specs.declared.cells.GateAsk.TheVariants as gate_ask
use Rattle.wedge_events.specs.declared.cells.GateReply.TheVariants as gate_reply
use Rattle.wedge_events.specs.declared.events.Event.{Event}
use Rattle.wedge_events.specs.declared.events.Event.TheVariants as event
use Rattle.wedge_events.specs.declared.events.LogEntry.{LogEntry}
use Rattle.machine.specs.declared.phase.Phase.{Phase}
use Rattle.machine.specs.declared.phase.Phase.TheVariants as phase
use Rattle.machine.specs.Actors.{ActorState}
use Rattle.callgate.specs.declared.gate.Gate.{Gate}
use Rattle.machine.specs.Children.{Children, child_name, is_child, fuel_given}
use Rattle.machine.specs.Local.{rest, run_awaited}
use Rattle.machine.specs.Take.{next_start, takes, has_joined, actor_begun, child_of, run_at, run_by}
use Rattle.run_laws.specs.Walks.{IsEntryOf}
use Rattle.thread_laws.specs.declared.gathered.ActorLog.{ActorLog}
use Rattle.thread_laws.specs.declared.gathered.ActorEnd.{ActorEnd}
use Rattle.thread_laws.specs.ActorProgresses.{ActorProgress, at_creation, after_rest, after_entry, after_run, CreatedActor, created_actor, begun, rests, does, starts, learns, joins, resumes, IsLogLeft, KeepsAccount}
use Rattle.thread_laws.specs.Joining.{IsEndOf}
use Rattle.thread_laws.proofs.Accounts.{progress_keeps_account}
use Rattle.thread_laws.proofs.AwaitedRuns.{awaited, clocks_rise}
use Rattle.thread_laws.proofs.KnownGates.{rest_more, takes_more, joined_more}
use Rattle.actor_run.specs.Runs.{RunState, going}
use Rattle.run_cells.specs.RecycledGates.{GateCellsState}
use Rattle.run_cells.specs.Entries.{IsPlainEntry, IsCreatingEntry, IsNextActor}
use Rattle.thread_laws.specs.Replaying.{IsLegalHistory}
use Rattle.actor_task.specs.declared.created.Returned.{Returned}
use Rattle.tag_laws.specs.DeclaredTags.{entries_on_declared}
use Rattle.run_cells.specs.TagPasses.{all_entered}
use Rattle.run_cells.proofs.OnDeclared.{none_more, creating_on_no_slot}
use Rattle.thread_laws.specs.Joining.{all_logged}
use Rattle.actor_task.specs.Returning.{IsReturned}
use Rattle.run_cells.specs.RecycledGates.{HasCells}
use Rattle.actor_task.specs.Tasks.{HasFamilies, IsNew, IsPairOf, IsBesideSlots, IsTask, KeepsTask, TaskState, CreatingState, HasCreatedBy, HasCreated, HasLearned, HasLearnedOf, IsIndexed, IsJoinEntry}
use Rattle.actor_task.proofs.GateCellsKnown.{begun_gates, cells_more}
use Rattle.actor_task.proofs.CreatedLists.{there_last, set_last, there_set, below_there}

-- ---- each step

pub task_begins : (i : Image) (a : ActorState) (low : ℕ) (r : ActorProgress) (created : List CreatedActor) → IsNew a → r ≡ at_creation a low → created ≡ [] → IsTask i r created
task_begins i a low r created new_ is none = record { progress = begun a low r created is none; new_ = subst (λ (x : ActorProgress). IsNew x.began) (sym is) new_ }

pub task_rests : (i : Image) (old new : ActorProgress) (created : List CreatedActor) → IsTask i old created → new ≡ after_rest i old → IsTask i new created
task_rests i old new created h is = record { progress = rests old new created h.progress is; new_ = subst (λ (x : ActorProgress). IsNew x.began) (sym is) h.new_ }

pub task_does : (i : Image) (old new : ActorProgress) (created : List CreatedActor) (e : LogEntry) → IsTask i old created → IsPlainEntry i old e → new ≡ after_entry i old e → IsTask i new created
task_does i old new created e h p is = record {
  progress = does old new created e h.progress p.own p.stamp p.nameless p.no_join is;
  new_ = subst (λ (x : ActorProgress). IsNew x.began) (sym is) h.new_;
}

and_some : {X : Type 0} (P : X → Type 0) (o : Option X) (x : X) → o ≡ Some x → IsSomeAnd o P → P x
and_some P o x is h = subst (λ p. IsSomeAnd p P) is h

pub task_creates : (i : Image) (k : CreatingState) (progress : ActorProgress) (created more : List CreatedActor) (one : CreatedActor) → HasCreated i k → progress ≡ k.progress → created ≡ k.created
    → one ≡ created_actor k.born k.stamp None → more ≡ created ++ one ∷ [] → IsTask i progress more
task_creates i k progress created more one h now_ same is grown =
    let next : IsNextActor h.old.state k.born = and_some (IsNextActor h.old.state) (actor_begun i h.old.state h.entry.event) k.born h.made.begun h.made.creates.creates in
    let born : one.began ≡ k.born = ap (λ (x : CreatedActor). x.began) is in
    let begins : actor_begun i h.old.state h.entry.event ≡ Some one.began = h.made.begun ∙ ap Some (sym born) in
    record {
      progress = starts h.old progress k.created more one h.entry h.task.progress h.made.creates.own h.made.creates.stamp begins
          (ap (λ (x : ActorState). x.name) born ∙ next.name_) (subst (λ (x : ActorState). x.fuel ≤ h.old.state.fuel) (sym born) next.fuel_)
          (ap (λ (x : CreatedActor). x.stamp) is ∙ h.made.stamp_) (ap (λ (x : CreatedActor). x.learned) is) (now_ ∙ h.made.now_) (grown ∙ ap (λ xs. xs ++ one ∷ []) same);
      new_ = subst (λ (x : ActorProgress). IsNew x.began) (sym (now_ ∙ h.made.now_)) h.task.new_;
    }

pub task_learns : (i : Image) (r : ActorProgress) (old new : List CreatedActor) (index : ℕ) (t : ActorEnd) → IsTask i r old → HasLearned old new index t → IsTask i r new
task_learns i r old new index t h l = record { progress = learns r old new index l.one t h.progress l.there l.fits.was l.fits.fuel_ l.now_; new_ = h.new_ }

pub task_creates_ended : (i : Image) (k : CreatingState) (progress : ActorProgress) (created more : List CreatedActor) (t : ActorEnd) → HasCreated i k → progress ≡ k.progress → created ≡ k.created → t.fuel ≤ k.born.fuel
    → more ≡ created ++ created_actor k.born k.stamp (Some t) ∷ [] → IsTask i progress more
task_creates_ended i k progress created more t h now_ same within grown =
    let one = created_actor k.born k.stamp None in
    let before = task_creates i k progress created (created ++ one ∷ []) one h now_ same refl refl in
    record {
      progress = learns progress (created ++ one ∷ []) more (length created) one t before.progress (there_last created one []) (inl refl) within (grown ∙ sym (set_last created one (created_actor k.born k.stamp (Some t)) []));
      new_ = before.new_;
    }

-- ---- what holds of an actor on its thread

pub account : (i : Image) (r : ActorProgress) (created : List CreatedActor) → IsTask i r created → KeepsAccount r created
account i r created h = progress_keeps_account i r created h.new_.starts_ h.new_.unjoined_ h.progress

-- one that it has not joined is among those that it created, with the fuel that it was given
pub record IsUnjoined (unjoined : Children) (created : List CreatedActor) (number : ℕ) : Type 0 where
  pub index : ℕ
  pub number_ : number ≡ index + 1
  pub one : CreatedActor
  pub there : slice_get created index ≡ Some one
  pub below : index < length created
  pub given : fuel_given unjoined number ≡ Some one.began.fuel

pub unjoined_there : (i : Image) (r : ActorProgress) (created : List CreatedActor) (number : ℕ) → IsTask i r created → is_child r.state.unjoined number ≡ true → IsUnjoined r.state.unjoined created number
unjoined_there i r created number h child = by_given (fuel_given r.state.unjoined number) refl child
  where
    by_given : (o : Option ℕ) → fuel_given r.state.unjoined number ≡ o → is_some o ≡ true → IsUnjoined r.state.unjoined created number
    by_given None is e = absurd cc
    by_given (Some g) is e =
        let n = (account i r created h).created_ number g is in
        record { index = n.index; number_ = n.number_; one = n.one; there = n.there; below = below_there created n.index n.one n.there; given = is ∙ ap Some n.fuel_ }

pub child_indexed : (i : Image) (r : ActorProgress) (created : List CreatedActor) (number : ℕ) → IsTask i r created → is_child r.state.unjoined number ≡ true → IsIndexed (length created) number
child_indexed i r created number h child = let u = unjoined_there i r created number h child in record { index = u.index; number_ = u.number_; below = u.below }

same_there : (created : List CreatedActor) (m n : ℕ) (x y : CreatedActor) → m ≡ n → slice_get created m ≡ Some x → slice_get created n ≡ Some y → x ≡ y
same_there created m n x y same at at_ = let both : Some x ≡ Some y = sym at ∙ (ap (slice_get created) same ∙ at_) in cc

-- what was learned of it is at most what it was given
pub learned_within : (i : Image) (r : ActorProgress) (old new : List CreatedActor) (number index : ℕ) (t : ActorEnd) → IsTask i r old → is_child r.state.unjoined number ≡ true → number ≡ index + 1 → HasLearned old new index t
    → IsSomeAnd (fuel_given r.state.unjoined number) (λ given. t.fuel ≤ given)
learned_within i r old new number index t h child is l =
    let u = unjoined_there i r old number h child in
    let number_ = u.number_ in
    let one : l.one ≡ u.one = same_there old index u.index l.one u.one (omega (arith, is, number_)) l.there u.there in
    subst (λ o. IsSomeAnd o (λ given. t.fuel ≤ given)) (sym u.given) (subst (λ (x : CreatedActor). t.fuel ≤ x.began.fuel) one l.fits.fuel_)

-- one that was waited for is learned
pub learned_of_number : (old new : List CreatedActor) (number index : ℕ) (t : ActorEnd) → number ≡ index + 1 → HasLearned old new index t → HasLearnedOf new number t
learned_of_number old new number index t is l =
    let k = record l.one { learned = Some t } in
    record { index = index; number_ = is; one = k; there = ap (λ xs. slice_get xs index) l.now_ ∙ there_set old index l.one k l.there; learned_ = refl }

-- it joins a child
pub task_joins : (i : Image) (r now_ : ActorProgress) (created : List CreatedActor) (number : ℕ) (t : ActorEnd) (e : LogEntry) → IsTask i r created → is_child r.state.unjoined number ≡ true → HasLearnedOf created number t
    → IsEntryOf r.state r.clock e → IsJoinEntry r number t e → now_ ≡ after_entry i r e → IsTask i now_ created
task_joins i r now_ created number t e h child l own j after = record {
  progress = joins r now_ created e l.index l.one t h.progress own l.there l.learned_ (subst (λ n. is_child r.state.unjoined n ≡ true) l.number_ child)
      (subst (λ n. e.event ≡ event.Join n t.how t.fuel) l.number_ j.joins) j.stamp after;
  new_ = subst (λ (x : ActorProgress). IsNew x.began) (sym after) h.new_;
}

-- and brings back at most what it was given
pub joined_within : (i : Image) (r : ActorProgress) (created : List CreatedActor) (number : ℕ) (t : ActorEnd) → IsTask i r created → is_child r.state.unjoined number ≡ true → HasLearnedOf created number t
    → IsSomeAnd (fuel_given r.state.unjoined number) (λ given. t.fuel ≤ given)
joined_within i r created number t h child l =
    let u = unjoined_there i r created number h child in
    let number_ = u.number_ in
    let is = l.number_ in
    let one : l.one ≡ u.one = same_there created l.index u.index l.one u.one (omega (arith, is, number_)) l.there u.there in
    let le = (account i r created h).learned l.index l.one t l.there l.learned_ in
    subst (λ o. IsSomeAnd o (λ given. t.fuel ≤ given)) (sym u.given) (subst (λ (x : CreatedActor). t.fuel ≤ x.began.fuel) one le)

-- it waits for a run
pub waits_so : (p : Phase) (number : ℕ) → run_awaited p ≡ Some number → p ≡ phase.Waiting number
waits_so (phase.Waiting k) number is = let same : k ≡ number = cc in ap phase.Waiting same
waits_so phase.Running number is = absurd cc
waits_so (phase.Within q) number is = absurd cc
waits_so (phase.Starting x) number is = absurd cc
waits_so (phase.MakingGate x) number is = absurd cc
waits_so (phase.Opening slot tag) number is = absurd cc
waits_so (phase.Releasing slot) number is = absurd cc
waits_so (phase.OpeningFile o) number is = absurd cc
waits_so (phase.Entering x) number is = absurd cc
waits_so (phase.Ending e) number is = absurd cc
waits_so (phase.Ended e) number is = absurd cc

-- and goes on from it
pub task_resumes : (i : Image) (r now_ : ActorProgress) (old new : List CreatedActor) (number index : ℕ) (t : ActorEnd) → IsTask i r old → is_child r.state.unjoined number ≡ true → number ≡ index + 1 → HasLearned old new index t
    → r.state.phase ≡ phase.Waiting number → now_ ≡ after_run r number t → IsTask i now_ new
task_resumes i r now_ old new number index t h child is l waits after =
    let k = record l.one { learned = Some t } in
    let learned = task_learns i r old new index t h l in
    let here : slice_get new index ≡ Some k = ap (λ xs. slice_get xs index) l.now_ ∙ there_set old index l.one k l.there in
    let w = awaited i r old h.new_.starts_ h.new_.runs_ h.progress number waits in
    let number_ = w.number_ in
    let one : l.one ≡ w.one = same_there old index w.index l.one w.one (omega (arith, is, number_)) l.there w.there in
    let stamp_is : l.one.stamp ≡ r.clock = ap (λ (x : CreatedActor). x.stamp) one ∙ w.stamp_ in
    let later = l.fits.later in
    record {
      progress = resumes r now_ new index k t learned.progress (subst (λ n. r.state.phase ≡ phase.Waiting n) is waits) here refl (subst (λ n. is_child r.state.unjoined n ≡ true) is child)
          (omega (arith, stamp_is, later)) (subst (λ n. now_ ≡ after_run r n t) is after);
      new_ = subst (λ (x : ActorProgress). IsNew x.began) (sym after) h.new_;
    }

-- ---- what is returned

pub record IsWithin (a : ActorState) (low : ℕ) (t : ActorEnd) : Type 0 where
  pub fuel_ : t.fuel ≤ a.fuel
  pub later : low ≤ t.last

pub left_within : (i : Image) (a : ActorState) (low : ℕ) (way : ActorProgress) (its : List CreatedActor) (own : ActorLog) (t : ActorEnd) → IsTask i way its → IsLogLeft i (created_actor a low (Some t)) way own t → IsWithin a low t
left_within i a low way its own t h left =
    let kept = (account i way its h).fuel in
    let rises = clocks_rise i way its h.progress in
    let began : way.began.fuel ≡ a.fuel = ap (λ (x : ActorState). x.fuel) left.began in
    let end_fuel = left.end_.fuel in
    let how_fuel = left.fuel in
    let low_is = left.low in
    let last_is = left.clock in
    record { fuel_ = omega (arith, kept, began, end_fuel, how_fuel); later = omega (arith, rises, low_is, last_is) }

-- ---- an actor that is created is new

run_new : (b : ActorState) (run : List ℕ) (kept : Option PrivateMemory) (p : Phase) (c : ActorState) → run_at b run kept p ≡ Some c → IsNew c
run_new b run kept (phase.Entering x) c is = let one : run_by b run kept x ≡ c = cc in subst IsNew one (record { starts_ = refl; unjoined_ = refl; runs_ = refl })
run_new b run kept p c is = absurd cc

pub begun_new : (i : Image) (b : ActorState) (e : Event) (c : ActorState) → actor_begun i b e ≡ Some c → IsNew c
begun_new i b (event.Start child) c is = let one : child_of i b child ≡ c = cc in subst IsNew one (record { starts_ = refl; unjoined_ = refl; runs_ = refl })
begun_new i b (event.Enter run) c is = run_new b run None b.phase c is
begun_new i b (event.Gate id (gate_ask.Enter run first) (gate_reply.Entered memory)) c is = run_new b run (Some memory) b.phase c is
begun_new i b e c is = absurd cc

-- ---- with the cells of the gates that it knows

pub kept_begins : (i : Image) (a : ActorState) (low : ℕ) (r : ActorProgress) (created : List CreatedActor) (cells : GateCellsState) → IsNew a → HasCells cells a.gates → r ≡ at_creation a low → created ≡ [] → KeepsTask i r created cells
kept_begins i a low r created cells new_ has is none = record {
  task = task_begins i a low r created new_ is none;
  cells_ = subst (λ (x : ActorProgress). HasCells cells x.state.gates) (sym is) has;
}

pub kept_rests : (i : Image) (old new : ActorProgress) (created : List CreatedActor) (cells : GateCellsState) → KeepsTask i old created cells → new ≡ after_rest i old → KeepsTask i new created cells
kept_rests i old new created cells h is = record {
  task = task_rests i old new created h.task is;
  cells_ = subst (λ (x : ActorProgress). HasCells cells x.state.gates) (sym is) (cells_more cells old.state.gates (rest i old.state).gates h.cells_ (rest_more i old.state));
}

pub kept_does : (i : Image) (old new : ActorProgress) (created : List CreatedActor) (cells : GateCellsState) (e : LogEntry) → KeepsTask i old created cells → IsPlainEntry i old e → new ≡ after_entry i old e → KeepsTask i new created cells
kept_does i old new created cells e h p is = record {
  task = task_does i old new created e h.task p is;
  cells_ = subst (λ (x : ActorProgress). HasCells cells x.state.gates) (sym is) (cells_more cells old.state.gates (takes i old.state e.event).gates h.cells_ (takes_more i old.state e.event));
}

pub kept_creates : (i : Image) (k : CreatingState) (progress : ActorProgress) (created more : List CreatedActor) (one : CreatedActor) (cells : GateCellsState) → HasCreated i k → HasCells cells progress.state.gates → progress ≡ k.progress → created ≡ k.created
    → one ≡ created_actor k.born k.stamp None → more ≡ created ++ one ∷ [] → KeepsTask i progress more cells
kept_creates i k progress created more one cells h has now_ same is grown = record { task = task_creates i k progress created more one h now_ same is grown; cells_ = has }

pub kept_creates_ended : (i : Image) (k : CreatingState) (progress : ActorProgress) (created more : List CreatedActor) (t : ActorEnd) (cells : GateCellsState) → HasCreated i k → HasCells cells progress.state.gates → progress ≡ k.progress → created ≡ k.created → t.fuel ≤ k.born.fuel
    → more ≡ created ++ created_actor k.born k.stamp (Some t) ∷ [] → KeepsTask i progress more cells
kept_creates_ended i k progress created more t cells h has now_ same within grown = record { task = task_creates_ended i k progress created more t h now_ same within grown; cells_ = has }

-- whether the actor took its part of an event or not
pub kept_takes : {X : Type 0} (i : Image) (old new : RunState) (p : ActorProgress) (created : List CreatedActor) (cells : GateCellsState) (o : Result X NoMemory) → (old.stopped ≡ false → KeepsTask i old.progress created cells)
    → KeepsTask i p created cells → OnOk o (new ≡ going p) → OnErr o ((new ≡ old) ⊎ (new.stopped ≡ true)) → new.stopped ≡ false → KeepsTask i new.progress created cells
kept_takes i old new p created cells (Ok t) was next entered err still = subst (λ (r : RunState). KeepsTask i r.progress created cells) (sym entered) next
kept_takes i old new p created cells (Err n) was next entered (inl same) still = subst (λ (r : RunState). KeepsTask i r.progress created cells) (sym same) (was (ap (λ (r : RunState). r.stopped) (sym same) ∙ still))
kept_takes i old new p created cells (Err n) was next entered (inr stopped) still = let f : false ≡ true = sym still ∙ stopped in absurd cc

-- whether it was learned or not
pub kept_waits : (i : Image) (r : ActorProgress) (old new : List CreatedActor) (cells : GateCellsState) (index : ℕ) (o : Result ActorEnd NoMemory) → KeepsTask i r old cells
    → IfOk o (HasLearned old new index) → OnErr o (new ≡ old) → KeepsTask i r new cells
kept_waits i r old new cells index (Ok t) h l e = record { task = task_learns i r old new index t h.task l; cells_ = h.cells_ }
kept_waits i r old new cells index (Err n) h l e = subst (λ ks. KeepsTask i r ks cells) (sym e) h

pub kept_joins : (i : Image) (r now_ : ActorProgress) (created : List CreatedActor) (cells : GateCellsState) (number : ℕ) (t : ActorEnd) (e : LogEntry) → KeepsTask i r created cells → is_child r.state.unjoined number ≡ true → HasLearnedOf created number t
    → IsEntryOf r.state r.clock e → IsJoinEntry r number t e → now_ ≡ after_entry i r e → KeepsTask i now_ created cells
kept_joins i r now_ created cells number t e h child l own j after = record {
  task = task_joins i r now_ created number t e h.task child l own j after;
  cells_ = subst (λ (x : ActorProgress). HasCells cells x.state.gates) (sym after) (cells_more cells r.state.gates (takes i r.state e.event).gates h.cells_ (takes_more i r.state e.event));
}

pub kept_resumes : (i : Image) (r now_ : ActorProgress) (old new : List CreatedActor) (cells : GateCellsState) (number index : ℕ) (t : ActorEnd) → KeepsTask i r old cells → is_child r.state.unjoined number ≡ true → number ≡ index + 1 → HasLearned old new index t
    → r.state.phase ≡ phase.Waiting number → now_ ≡ after_run r number t → KeepsTask i now_ new cells
kept_resumes i r now_ old new cells number index t h child is l waits after = record {
  task = task_resumes i r now_ old new number index t h.task child is l waits after;
  cells_ = subst (λ (x : ActorProgress). HasCells cells x.state.gates) (sym after) (cells_more cells r.state.gates (has_joined r.state number t.how t.fuel).gates h.cells_ (joined_more r.state number t));
}

-- with more cells of the same gates
pub kept_cells : (i : Image) (r : ActorProgress) (created : List CreatedActor) (old new : GateCellsState) (gates : List Gate) → KeepsTask i r created old → gates ≡ r.state.gates → HasCells new gates → KeepsTask i r created new
kept_cells i r created old new gates h is has = record { task = h.task; cells_ = subst (HasCells new) is has }

-- ---- an actor that has just created another

some_of_and : {X : Type 0} (P : X → Type 0) (o : Option X) → IsSomeAnd o P → is_some o ≡ true
some_of_and P None h = absurd h
some_of_and P (Some x) h = refl

pub creates_some : (i : Image) (r : ActorProgress) (e : LogEntry) → IsCreatingEntry i r e → is_some (actor_begun i r.state e.event) ≡ true
creates_some i r e h = some_of_and (IsNextActor r.state) (actor_begun i r.state e.event) h.creates

pub has_created : (i : Image) (old : ActorProgress) (e : LogEntry) (created : List CreatedActor) (cells : GateCellsState) (progress : ActorProgress) (born : ActorState) → KeepsTask i old created cells → IsCreatingEntry i old e
    → actor_begun i old.state e.event ≡ Some born → progress ≡ after_entry i old e → HasCreated i (record { progress = progress; created = created; born = born; stamp = e.stamp })
has_created i old e created cells progress born h creates begun_ is = record { old = old; entry = e; task = h.task; made = record { creates = creates; begun = begun_; now_ = is; stamp_ = refl } }

pub created_cells : (i : Image) (old : ActorProgress) (e : LogEntry) (cells : GateCellsState) (progress : ActorProgress) → HasCells cells old.state.gates → progress ≡ after_entry i old e → HasCells cells progress.state.gates
created_cells i old e cells progress h is =
    subst (λ (x : ActorProgress). HasCells cells x.state.gates) (sym is) (cells_more cells old.state.gates (takes i old.state e.event).gates h (takes_more i old.state e.event))

pub born_cells : (i : Image) (a : ActorState) (e : Event) (born : ActorState) (cells : GateCellsState) → HasCells cells a.gates → actor_begun i a e ≡ Some born → HasCells cells born.gates
born_cells i a e born cells h is = subst (HasCells cells) (sym (begun_gates i a e born is)) h

longer_name : (name : List ℕ) (n : ℕ) → length (child_name name n) ≡ length name + 1
longer_name name n = length-append name (n ∷ [])

pub born_longer : (i : Image) (r : ActorProgress) (created : List CreatedActor) (cells : GateCellsState) (e : LogEntry) (born : ActorState) → KeepsTask i r created cells → IsCreatingEntry i r e → actor_begun i r.state e.event ≡ Some born
    → length born.name ≡ length r.began.name + 1
born_longer i r created cells e born h creates begun_ =
    let next : IsNextActor r.state born = and_some (IsNextActor r.state) (actor_begun i r.state e.event) born begun_ creates.creates in
    ap length next.name_ ∙ (longer_name r.state.name (next_start r.state) ∙ ap (λ name. length name + 1) (account i r created h.task).name)

pub pair_of : (i : Image) (r : ActorProgress) (created : List CreatedActor) (cells : GateCellsState) (e : LogEntry) (born : ActorState) (k : TaskState) (c : CreatingState) → KeepsTask i r created cells → IsCreatingEntry i r e → actor_begun i r.state e.event ≡ Some born
    → r ≡ k.progress → c.progress ≡ after_entry i r e → c.created ≡ k.created → c.born ≡ born → c.stamp ≡ e.stamp → IsPairOf i k c born e.stamp
pair_of i r created cells e born k c h creates begun_ same now_ created_is born_is stamp_is = record {
  entry = e;
  made = subst (λ (x : ActorProgress). HasCreatedBy i x e c) same (record { creates = creates; begun = begun_ ∙ ap Some (sym born_is); now_ = now_; stamp_ = stamp_is });
  created_ = created_is;
  beside = record {
    same = record { began = ap (λ (x : ActorProgress). x.began) now_ ∙ ap (λ (x : ActorProgress). x.began) same; low = ap (λ (x : ActorProgress). x.low) now_ ∙ ap (λ (x : ActorProgress). x.low) same };
    entries_ = λ n. ap (λ (x : ActorProgress). entries_on_declared n x.entries) now_ ∙ (none_more n r.entries e (creating_on_no_slot i r e creates) ∙ ap (λ (x : ActorProgress). entries_on_declared n x.entries) same);
  };
  born_ = born_is;
  stamp_ = stamp_is;
  longer = born_longer i r created cells e born h creates begun_ ∙ ap (λ (x : ActorProgress). length x.began.name + 1) same;
}

-- what holds of a result holds of it in other words
pub if_ok : {X E : Type 0} (P Q : X → Type 0) (o : Result X E) → ((x : X) → P x → Q x) → IfOk o P → IfOk o Q
if_ok P Q (Ok x) f h = f x h
if_ok P Q (Err e) f h = tt

-- ---- what an actor that has ended returns

pub returned_so : {I T : Type 0} (i : Image) (n : ℕ) (way : ActorProgress) (created : List CreatedActor) (r : Returned I T) → IsTask i way created → HasFamilies i way r.others.items → r.log.entries ≡ way.entries → IsEndOf way.state r.log
    → r.end ≡ record { how = r.log.end; fuel = r.log.fuel; last = way.clock } → All (IsLegalHistory i) r.gates.items → all_entered r.passes.items ≡ entries_on_declared n (all_logged (r.log ∷ r.others.items)) → IsReturned i n way.began way.low r
returned_so i n way created r h families entries log end_is kept entered =
    let left : IsLogLeft i (created_actor way.began way.low (Some r.end)) way r.log r.end = record {
      began = refl;
      low = refl;
      learned = refl;
      entries = entries;
      end_ = log;
      how = ap (λ (t : ActorEnd). t.how) (sym end_is);
      fuel = ap (λ (t : ActorEnd). t.fuel) (sym end_is);
      clock = ap (λ (t : ActorEnd). t.last) (sym end_is);
    } in
    let within = left_within i way.began way.low way created r.log r.end h left in
    record {
      family = record { way = way; its = families.its; progress = families.progress; left = left; others_ = families.families };
      fuel_ = within.fuel_;
      later = within.later;
      kept = kept;
      entered = entered;
    }
