use Rattle.std.specs.Arc.{arc_value}
use Rattle.std.proofs.Common.{map, option_map, ◌≡◌, ◌<◌, length, sym, ap, subst, ◌∙◌, arith}
use Rattle.std.specs.Prelude.{Err}
use Rattle.wedge_base.specs.Sheets.{takes_tag}
use Rattle.machine.specs.Actors.{ActorRecord, whole}
use Rattle.machine.specs.Calls.{sc_mem_add, right_asked}
use Rattle.machine.proofs.PutBack.{right_full}
use Rattle.actor_step.proofs.drafting.sc_mem_add.Goals as goal

pub returns-in-Err-Full : goal.returns-in-Err-Full
returns-in-Err-Full c = λ m.
    let inside : c.reg-number.result < length c.actor.inside.drafts.items = omega (arith, c.if-number-len.false, c.len.ensures, c.actor.inside.drafts.ok) in
    let w = c.actor.inside in
    let was : ActorRecord = record {
      name = w.name;
      compartment = w.compartment;
      run_of = option_map arc_value w.run_of;
      sheet = w.sheet;
      made = w.made;
      gates = map arc_value w.gates.items;
      labels = w.labels;
      drafts = w.drafts.items;
      hart = w.hart;
      fuel = w.fuel;
      denials = w.denials;
      starts = w.starts;
      unjoined = w.unjoined;
      phase = w.phase;
      stopped = w.stopped;
    } in
    let draft = c.index_mut-draft.result.now in
    let full = c.in-Err-Full.ensures.full.0 (ap Err c.in-Err-Full.field-0-is) in
    subst (λ r. whole c.refuse-in-Err-Full.new.self m ≡ sc_mem_add (whole r m)) c.actor.view_is
    (ap (λ r. whole r m) c.refuse-in-Err-Full.ensures
    ∙ right_full (whole was m) c.reg-number.result draft c.put_tag.new.self c.in-Some.right c.reg-number.ensures inside c.index_mut-draft.ensures.value c.in-Err-Full.ensures.err
    (ap right_asked (sym c.reg.ensures) ∙ sym c.in-Some.ensures) (ap (takes_tag draft) (sym c.reg-2.ensures) ∙ full))
