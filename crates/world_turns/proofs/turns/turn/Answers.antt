use Rattle.std.proofs.Common.{◌≡◌, ◌-◌, ◌++◌, ◌∷◌, [], ◌∙◌, ap, sym, subst, false, length, take, rules}
use Rattle.wedge_events.specs.Journals.{turns_of}
use Rattle.run_laws.proofs.Mediating.{turn_lawful}
use Rattle.run_laws.proofs.Writing.{turn_appends_own, turn_writes_own}
use Rattle.world_turns.specs.Progress.{Progress, IsRunSoFar, IsTurn}
use Rattle.world_turns.proofs.Advancing.{run_is_ready, ended_turns_not, waiting_turns_not, waiting_ended_not, busy_turns_not, busy_ended_not, busy_waits_not, IsUndone, undone, stopped_run}
use Rattle.world_turns.proofs.turns.turn.Goals as goal

pub returns-in-Err-clause-ended : goal.returns-in-Err-clause-ended
returns-in-Err-clause-ended c = (λ h. cc, λ e. absurd (c.in-Err.ensures.lives e.1))

pub returns-in-Ok-Ended-clause-waiting : goal.returns-in-Ok-Ended-clause-waiting
returns-in-Ok-Ended-clause-waiting c = λ going waits. waiting_ended_not c.args.world.now.state c.args.name.now waits (c.in-Ok-Ended.ensures.ended c.in-Ok-Ended.field-0-is).0

pub returns-in-Ok-Waits-clause-ended : goal.returns-in-Ok-Waits-clause-ended
returns-in-Ok-Waits-clause-ended c = (λ h. cc, λ e. waiting_ended_not c.args.world.now.state c.args.name.now (c.in-Ok-Waits.ensures.waits c.in-Ok-Waits.field-0-is).0 e.1)

pub returns-in-Ok-clause-ended : goal.returns-in-Ok-clause-ended
returns-in-Ok-clause-ended c =
    let on = c.in-Ok-Took.ensures.took c.in-Ok-Took.field-0-is in
    (λ h. cc, λ e. ended_turns_not c.args.world.now.state c.args.name.now on.event c.advance.new.world.state e.1 on.turn)

pub returns-in-Ok-clause-waiting : goal.returns-in-Ok-clause-waiting
returns-in-Ok-clause-waiting c = λ going waits.
    let on = c.in-Ok-Took.ensures.took c.in-Ok-Took.field-0-is in
    waiting_turns_not c.args.world.now.state c.args.name.now on.event c.advance.new.world.state waits on.turn

pub returns-in-Err-last_event-clause-ended : goal.returns-in-Err-last_event-clause-ended
returns-in-Err-last_event-clause-ended c =
    let on = c.in-Ok-Took.ensures.took c.in-Ok-Took.field-0-is in
    (λ h. cc, λ e. ended_turns_not c.args.world.now.state c.args.name.now on.event c.advance.new.world.state e.1 on.turn)

-- a gate that it is to enter is busy
pub returns-in-Ok-Busy-clause-ended : goal.returns-in-Ok-Busy-clause-ended
returns-in-Ok-Busy-clause-ended c = (λ h. cc, λ e. busy_ended_not c.args.world.now.state c.args.name.now (c.in-Ok-Busy.ensures.busy c.in-Ok-Busy.field-0-is).0 e.1)

pub returns-in-Ok-Busy-clause-waiting : goal.returns-in-Ok-Busy-clause-waiting
returns-in-Ok-Busy-clause-waiting c = λ going waits. busy_waits_not c.args.world.now.state c.args.name.now (c.in-Ok-Busy.ensures.busy c.in-Ok-Busy.field-0-is).0 waits

pub returns-in-Ok-Waits-clause-being_busy : goal.returns-in-Ok-Waits-clause-being_busy
returns-in-Ok-Waits-clause-being_busy c = λ going busy. busy_waits_not c.args.world.now.state c.args.name.now busy (c.in-Ok-Waits.ensures.waits c.in-Ok-Waits.field-0-is).0

pub returns-in-Ok-Ended-clause-being_busy : goal.returns-in-Ok-Ended-clause-being_busy
returns-in-Ok-Ended-clause-being_busy c = λ going busy. busy_ended_not c.args.world.now.state c.args.name.now busy (c.in-Ok-Ended.ensures.ended c.in-Ok-Ended.field-0-is).0

pub returns-in-Ok-clause-being_busy : goal.returns-in-Ok-clause-being_busy
returns-in-Ok-clause-being_busy c = λ going busy.
    let on = c.in-Ok-Took.ensures.took c.in-Ok-Took.field-0-is in
    busy_turns_not c.args.world.now.state c.args.name.now on.event c.advance.new.world.state busy on.turn

-- what its event is, once it is noted
pub returns-in-Ok-clause-lawful : goal.returns-in-Ok-clause-lawful
returns-in-Ok-clause-lawful c =
    let old = c.args.world.now in
    let run : IsRunSoFar old = subst IsRunSoFar c.world.view_is c.world.invariant.run in
    let going : old.stopped ≡ false = search rules in
    let turn : IsTurn old.state c.args.name.now c.in-Ok.event c.advance.new.world.state = search rules in
    turn_lawful old.state (record { actor = c.args.name.now; event = c.in-Ok.event }) c.advance.new.world.state (run_is_ready old run going) turn

pub returns-in-Ok-clause-owned : goal.returns-in-Ok-clause-owned
returns-in-Ok-clause-owned c =
    let old = c.args.world.now in
    let run : IsRunSoFar old = subst IsRunSoFar c.world.view_is c.world.invariant.run in
    let going : old.stopped ≡ false = search rules in
    let turn : IsTurn old.state c.args.name.now c.in-Ok.event c.advance.new.world.state = search rules in
    turn_writes_own old.state (record { actor = c.args.name.now; event = c.in-Ok.event }) c.advance.new.world.state (run_is_ready old run going) turn

pub returns-in-Ok-clause-appended : goal.returns-in-Ok-clause-appended
returns-in-Ok-clause-appended c =
    let old = c.args.world.now in
    let run : IsRunSoFar old = subst IsRunSoFar c.world.view_is c.world.invariant.run in
    let going : old.stopped ≡ false = search rules in
    let turn : IsTurn old.state c.args.name.now c.in-Ok.event c.advance.new.world.state = search rules in
    turn_appends_own old.state (record { actor = c.args.name.now; event = c.in-Ok.event }) c.advance.new.world.state (run_is_ready old run going) turn

pub invariant_of-world : goal.invariant_of-world
invariant_of-world c =
    let was = c.world.inside in
    let more = c.world-2.inside in
    let popped = c.pop.new.self.items in
    let on = c.in-Ok-Took.ensures.took c.in-Ok-Took.field-0-is in
    let is : popped ≡ take (length more.entries.items - 1) more.entries.items = search rules in
    let noted = ap (λ (p : Progress). p.turns) c.world-2.view_is ∙ (on.noted ∙ ap (λ (p : Progress). p.turns ++ record { actor = c.args.name.now; event = on.event } ∷ []) (sym c.world.view_is)) in
    let back : IsUndone was.entries.items popped = undone was.entries.items more.entries.items popped (record { actor = c.args.name.now; event = on.event }) c.world-2.invariant.numbered noted is in
    let image : more.program ≡ was.program = ap (λ (p : Progress). p.state.image) c.world-2.view_is ∙ (c.advance.ensures.image ∙ ap (λ (p : Progress). p.state.image) (sym c.world.view_is)) in
    record {
      numbered = back.numbered;
      run = stopped_run was.program more.program c.world-2.inside.cells c.world-2.inside.residents (turns_of was.entries.items) (turns_of popped) c.world.invariant.run.last image back.turns c.world.invariant.run.run;
      family = λ e. absurd cc;
    }
