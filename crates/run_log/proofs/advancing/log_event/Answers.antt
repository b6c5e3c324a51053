use Rattle.std.proofs.Common.{◌≡◌, ◌∙◌, ◌<◌, ◌++◌, ◌∷◌, [], length, get_or, sym, ap, subst, rules, arith}
use Rattle.std.specs.Prelude.{Some, slice_get}
use Rattle.machine.specs.Actors.{ActorState}
use Rattle.run_notes.specs.Chains.{opening_chain}
use Rattle.run_notes.specs.Items.{makings_after}
use Rattle.run_notes.specs.Notes.{with_note, event_note}
use Rattle.run_notes.specs.declared.chain.CallChain.{CallChain}
use Rattle.run_log.specs.Logs.{Log}
use Rattle.run_log.specs.Logging.{with_chain}
use Rattle.run_log.specs.LoggedParts.{IsEventNoted, log_noted}
use Rattle.world_cells.proofs.GateIndices.{get_at}
use Rattle.run_log.proofs.advancing.log_event.Goals as goal

pub returns : goal.returns
returns c =
    let i = c.args.program.now in
    let e = c.args.event.now in
    let d = c.args.doer.now in
    let actors = c.args.actors.now in
    let index = c.args.index in
    let chains = c.log.inside.chains.items in
    let l : Log = record { chains = chains; makings = c.log.inside.makings; notes = c.log.inside.notes.items } in
    let m : Log = record { chains = c.push.new.self.items; makings = c.add.new.self; notes = c.note_event.new.list.items } in
    let chain : CallChain = c.index.result.now in
    let a : ActorState = c.index-actors-index.result in
    let b : ActorState = c.in-Some.begun.now in
    let inside : index < length chains = subst (λ (x : Log). index < length x.chains) (sym c.log.view_is) c.requires.inside in
    let at : slice_get chains index ≡ Some chain = get_at chains index chain inside c.index.ensures in
    let there : slice_get actors index ≡ Some a = get_at actors index a c.requires.there c.index-actors-index.is in
    let got = c.in-Some.ensures.lookup in
    let count : c.len-count.result ≡ length chains = search rules in
    let below : length chains < length actors = grind (arith, got.0, count) in
    let last : b ≡ get_or actors (length chains) b = subst (λ k. b ≡ get_or actors k b) count got.1 in
    let begun : slice_get actors (length chains) ≡ Some b = get_at actors (length chains) b below last in
    let opened : c.in_ok-chain.chain ≡ opening_chain b.compartment = search rules in
    let more : c.push.new.self.items ≡ chains ++ opening_chain b.compartment ∷ [] = search (rules, opened) in
    let made : c.add.new.self ≡ makings_after l.makings d a.labels e = search rules in
    let noted : c.note_event.new.list.items ≡ with_note l.notes (event_note i l.makings d chain e) = search rules in
    let logged : m ≡ log_noted i e (slice_get actors (length chains)) d a.labels chain l =
    ap (λ cs. record m { chains = cs }) (more ∙ sym (ap (with_chain chains) begun)) ∙ (ap (λ ms. record (log_noted i e (slice_get actors (length chains)) d a.labels chain l) { makings = ms; notes = m.notes }) made
    ∙ ap (λ ns. record (log_noted i e (slice_get actors (length chains)) d a.labels chain l) { notes = ns }) noted) in
    subst (λ x. IsEventNoted i e actors index d x m) c.log.view_is (record { chain = chain; at = at; actor = a; there = there; logged = logged })
