use Rattle.std.specs.Arc.{arc_value}
use Rattle.std.proofs.Common.{map, option_map, ◌≡◌, ◌<◌, true, length, sym, ap, subst, ◌∙◌, arith}
use Rattle.machine.specs.Actors.{ActorRecord, whole}
use Rattle.machine.specs.Calls.{is_procedure, create}
use Rattle.machine.proofs.Creating.{begins_there, on_ok, creates}
use Rattle.actor_step.proofs.starting.create.Goals as goal

pub returns : goal.returns
returns c =
    let w = c.actor.inside in
    let was : ActorRecord = record {
      name = w.name;
      compartment = w.compartment;
      run_of = option_map arc_value w.run_of;
      sheet = w.sheet;
      made = w.made;
      gates = map arc_value w.gates.items;
      labels = w.labels;
      drafts = w.drafts.items;
      hart = w.hart;
      fuel = w.fuel;
      denials = w.denials;
      starts = w.starts;
      unjoined = w.unjoined;
      phase = w.phase;
      stopped = w.stopped;
    } in
    let inside : c.reg-number.result < length c.actor.inside.drafts.items = omega (arith, c.if-number-len.false, c.len.ensures, c.actor.inside.drafts.ok) in
    let begins : is_procedure c.args.image.now c.reg.result ≡ true = begins_there _ c.is_none.result c.reg.result c.proc_at.result c.proc_at.ensures c.is_none.ensures c.if-is_none.false in
    on_ok c.create_checked.result
    (λ h m. h m ∙ subst (λ r. Rattle.machine.specs.Calls.create_checked (whole r m) c.first_excess-excess.result ≡ create c.args.image.now (whole r m)) c.actor.view_is
    (creates c.args.image.now (whole was m) c.reg-number.result c.index.result.now c.first_excess-excess.result c.reg-number.ensures inside c.index.ensures (ap (is_procedure c.args.image.now) (sym c.reg.ensures) ∙ begins) c.first_excess-excess.ensures.is))
    c.create_checked.ensures
