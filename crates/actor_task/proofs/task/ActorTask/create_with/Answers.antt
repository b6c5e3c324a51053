use Rattle.std.proofs.Common.{rules, ◌≡◌, false, refl, sym, ap, subst}
use Rattle.std.specs.Prelude.{Some}
use Rattle.machine.specs.Take.{actor_begun}
use Rattle.run_cells.specs.Entries.{IsCreatingEntry}
use Rattle.run_cells.specs.RecycledGates.{HasCells}
use Rattle.actor_task.proofs.Progressing.{begun_new, born_cells, created_cells, creates_some, has_created, pair_of}
use Rattle.actor_task.proofs.task.ActorTask.create_with.Goals as goal

pub take_creating-requires-clause-own : goal.take_creating-requires-clause-own
take_creating-requires-clause-own g c = (subst (λ k. IsCreatingEntry g.I.RunOf.image k.progress c.args.entry) (sym c.self.view_is) c.requires.creates).own

pub take_creating-requires-clause-fits : goal.take_creating-requires-clause-fits
take_creating-requires-clause-fits g c = (subst (λ k. IsCreatingEntry g.I.RunOf.image k.progress c.args.entry) (sym c.self.view_is) c.requires.creates).fits

pub take_creating-requires-clause-creates : goal.take_creating-requires-clause-creates
take_creating-requires-clause-creates g c =
    creates_some g.I.RunOf.image c.self.inside.run.progress c.args.entry (subst (λ k. IsCreatingEntry g.I.RunOf.image k.progress c.args.entry) (sym c.self.view_is) c.requires.creates)

pub invariant_of-new : goal.invariant_of-new
invariant_of-new g c =
    let i = g.I.RunOf.image in
    let r = c.self.inside.run.progress in
    let born = c.in_ok-resident.resident in
    let begun : actor_begun i r.state c.args.entry.event ≡ Some born = search rules in
    let cells : HasCells c.args.cells r.state.gates = subst (λ k. HasCells c.args.cells k.progress.state.gates) (sym c.self.view_is) c.requires.cells in
    record {
      of_run = c.unkept.ensures;
      begins = begun_new i r.state c.args.entry.event born begun;
      cells = born_cells i r.state c.args.entry.event born c.args.cells cells begun;
      few = search rules;
    }

pub invariant_of-creating : goal.invariant_of-creating
invariant_of-creating g c =
    let i = g.I.RunOf.image in
    let r = c.self.inside.run.progress in
    let born = c.of-born.result.value in
    let going = subst (λ k. k.stopped ≡ false) (sym c.self.view_is) c.requires.going in
    let creates = subst (λ k. IsCreatingEntry i k.progress c.args.entry) (sym c.self.view_is) c.requires.creates in
    record {
      going = search rules;
      created = has_created i r c.args.entry c.self.inside.created.items c.self.inside.gates c.take_creating.new.self.progress born (c.self.invariant going) creates (search rules) (search rules);
      cells = created_cells i r c.args.entry c.self.inside.gates c.take_creating.new.self.progress (c.self.invariant going).cells_ (search rules);
    }

pub returns-clause-pair : goal.returns-clause-pair
returns-clause-pair g c =
    let i = g.I.RunOf.image in
    let r = c.self.inside.run.progress in
    let born = c.in_ok-resident.resident in
    let going = subst (λ k. k.stopped ≡ false) (sym c.self.view_is) c.requires.going in
    let creates = subst (λ k. IsCreatingEntry i k.progress c.args.entry) (sym c.self.view_is) c.requires.creates in
    let begun : actor_begun i r.state c.args.entry.event ≡ Some born = search rules in
    pair_of i r c.self.inside.created.items c.self.inside.gates c.args.entry born c.args.self _ (c.self.invariant going) creates begun (ap (λ k. k.progress) c.self.view_is) (search rules) (ap (λ k. k.created) c.self.view_is) (search rules) refl
