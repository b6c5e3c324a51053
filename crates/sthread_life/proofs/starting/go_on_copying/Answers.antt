use Rattle.std.specs.Arc.{arc_value}
use Rattle.std.proofs.Common.{map, option_map, ◌≡◌, sym, ap, subst, ◌∙◌}
use Rattle.machine.specs.declared.phase.Phase.TheVariants as phase
use Rattle.machine.specs.Actors.{ActorRecord, whole}
use Rattle.machine.specs.Calls.{a0, draft_at, continue_gate}
use Rattle.machine.specs.Take.{has_snapped}
use Rattle.machine.proofs.Creating.{on_ok}
use Rattle.machine.proofs.GatesMade.{making_at}
use Rattle.sthread_life.proofs.starting.go_on_copying.Goals as goal

pub returns-in_ok-go_on-in-MakingGate-clause-takes : goal.returns-in_ok-go_on-in-MakingGate-clause-takes
returns-in_ok-go_on-in-MakingGate-clause-takes c =
    let m = c.args.memory.now in
    let w = c.actor.inside in
    let was : ActorRecord = record {
      name = w.name;
      compartment = w.compartment;
      run_of = option_map arc_value w.run_of;
      sheet = w.sheet;
      made = w.made;
      gates = map arc_value w.gates.items;
      labels = w.labels;
      drafts = w.drafts.items;
      hart = w.hart;
      fuel = w.fuel;
      denials = w.denials;
      starts = w.starts;
      unjoined = w.unjoined;
      phase = w.phase;
      stopped = w.stopped;
    } in
    let a = whole was m in
    let d = draft_at a.drafts (a0 a) in
    let at : w.phase ≡ phase.MakingGate c.in-MakingGate.preparation = sym c.replace.ensures.value ∙ c.in-MakingGate.is in
    on_ok c.go_on_making.result
    (λ h. subst (λ (r : ActorRecord). whole c.go_on_making.new.actor m ≡ has_snapped (whole r m) r.phase c.args.slot c.args.pages) c.actor.view_is
    (h m ∙ (making_at a phase.Running d _ ∙ (ap (continue_gate a d) c.in_ok-go_on-in-MakingGate.ensures.is ∙ ap (λ p. has_snapped a p c.args.slot c.args.pages) (sym at)))))
    c.go_on_making.ensures.takes
