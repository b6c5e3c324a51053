use Rattle.std.specs.Arc.{arc_value}
use Rattle.std.proofs.Common.{map, option_map, ◌≡◌, ◌<◌, true, length, sym, ap, subst, ◌∙◌, arith}
use Rattle.std.specs.Prelude.{Some, slice_get}
use Rattle.wedge_base.specs.Sheets.{first_excess}
use Rattle.machine.specs.Actors.{ActorRecord, whole}
use Rattle.machine.specs.Calls.{a0, draft_at, may_be_gate, make_checked, cgate_make}
use Rattle.machine.proofs.Creating.{on_ok}
use Rattle.machine.proofs.GatesMade.{drafted_at, no_gate, may_make, excess_of}
use Rattle.actor_step.proofs.making.cgate_make.Goals as goal

pub returns-then-not-may_be_gate : goal.returns-then-not-may_be_gate
returns-then-not-may_be_gate c =
    let m = c.args.memory.now in
    let i = c.args.program.now in
    let w = c.actor.inside in
    let was : ActorRecord = record {
      name = w.name;
      compartment = w.compartment;
      run_of = option_map arc_value w.run_of;
      sheet = w.sheet;
      made = w.made;
      gates = map arc_value w.gates.items;
      labels = w.labels;
      drafts = w.drafts.items;
      hart = w.hart;
      fuel = w.fuel;
      denials = w.denials;
      starts = w.starts;
      unjoined = w.unjoined;
      phase = w.phase;
      stopped = w.stopped;
    } in
    let inside : c.reg-number.result < length w.drafts.items = omega (arith, c.if-number-len.false, c.len.ensures, w.drafts.ok) in
    let there = drafted_at (whole was m) c.reg-number.result c.index.result.now c.reg-number.ensures inside c.index.ensures in
    let d = c.index.result.now in
    let now = c.args.actor.now in
    let found = subst (λ (r : ActorRecord). slice_get r.drafts (a0 (whole r m)) ≡ Some d) c.actor.view_is there in
    ap (λ r. whole r m) c.refuse-then-not-may_be_gate.ensures
    ∙ no_gate i (whole now m) d found (sym (c.may_be_gate.ensures m ∙ ap (λ x. may_be_gate x (whole now m) d) c.image.ensures) ∙ c.if-not-may_be_gate.true)

pub make_checked-requires-clause-excess : goal.make_checked-requires-clause-excess
make_checked-requires-clause-excess c =
    let m = c.args.memory.now in
    let w = c.actor.inside in
    let was : ActorRecord = record {
      name = w.name;
      compartment = w.compartment;
      run_of = option_map arc_value w.run_of;
      sheet = w.sheet;
      made = w.made;
      gates = map arc_value w.gates.items;
      labels = w.labels;
      drafts = w.drafts.items;
      hart = w.hart;
      fuel = w.fuel;
      denials = w.denials;
      starts = w.starts;
      unjoined = w.unjoined;
      phase = w.phase;
      stopped = w.stopped;
    } in
    let inside : c.reg-number.result < length w.drafts.items = omega (arith, c.if-number-len.false, c.len.ensures, w.drafts.ok) in
    let there = drafted_at (whole was m) c.reg-number.result c.index-2.result.now c.reg-number.ensures inside c.index-2.ensures in
    subst (λ (r : ActorRecord). c.first_excess-excess.result ≡ first_excess r.sheet r.made (draft_at r.drafts (a0 (whole r m)))) c.actor.view_is
    (excess_of (whole was m) c.index-2.result.now c.first_excess-excess.result there c.first_excess-excess.ensures.is)

pub returns : goal.returns
returns c =
    let m = c.args.memory.now in
    let i = c.args.program.now in
    let w = c.actor.inside in
    let was : ActorRecord = record {
      name = w.name;
      compartment = w.compartment;
      run_of = option_map arc_value w.run_of;
      sheet = w.sheet;
      made = w.made;
      gates = map arc_value w.gates.items;
      labels = w.labels;
      drafts = w.drafts.items;
      hart = w.hart;
      fuel = w.fuel;
      denials = w.denials;
      starts = w.starts;
      unjoined = w.unjoined;
      phase = w.phase;
      stopped = w.stopped;
    } in
    let o = c.first_excess-excess.result in
    let inside : c.reg-number.result < length w.drafts.items = omega (arith, c.if-number-len.false, c.len.ensures, w.drafts.ok) in
    let there = drafted_at (whole was m) c.reg-number.result c.index.result.now c.reg-number.ensures inside c.index.ensures in
    let again = drafted_at (whole was m) c.reg-number.result c.index-2.result.now c.reg-number.ensures inside c.index-2.ensures in
    on_ok c.make_checked.result
    (λ h. h ∙ subst (λ (r : ActorRecord). make_checked i (whole r m) (draft_at r.drafts (a0 (whole r m))) o ≡ cgate_make i (whole r m)) c.actor.view_is
    (may_make i (whole was m) c.index.result.now c.index-2.result.now o there again (subst (λ (r : ActorRecord). may_be_gate i (whole r m) c.index.result.now ≡ true) (sym c.actor.view_is) (sym (c.may_be_gate.ensures m ∙ ap (λ x. may_be_gate x (whole c.args.actor.now m) c.index.result.now) c.image.ensures) ∙ c.if-not-may_be_gate.false)) c.first_excess-excess.ensures.is))
    c.make_checked.ensures
