use Rattle.std.proofs.Common.{◌≡◌, ◌∙◌, ◌<◌, List, length, sym, ap, subst}
use Rattle.std.specs.Prelude.{Some, slice_get, slice_set}
use Rattle.machine.specs.Actors.{ActorState, whole}
use Rattle.machine.specs.Local.{rest}
use Rattle.machine.proofs.Resting.{rest-name}
use Rattle.run_notes.specs.Notes.{Noted, noted_rest}
use Rattle.run_log.specs.Logs.{Log}
use Rattle.run_log.specs.Logging.{with_noted, log_rest_by, log_rest}
use Rattle.run_log.specs.LoggedParts.{IsNotedAt}
use Rattle.world_turns.proofs.Indexing.{name_map_put_back}
use Rattle.world_cells.proofs.GateIndices.{get_at}
use Rattle.run_notes.specs.declared.chain.CallChain.{CallChain}
use Rattle.run_notes.specs.declared.note.Note.{Note}
use Rattle.run_log.proofs.advancing.note_at.Goals as goal
use Rattle.run_log.proofs.advancing.note_at.Goals.{in-Ok, in-Err}

pub invariant_of-residents : goal.invariant_of-residents
invariant_of-residents c =
    let i = c.args.program.now in
    let items = c.residents.inside.list.items in
    let index = c.args.index in
    let a : ActorState = c.index_mut-resident.result.now in
    let new : ActorState = whole c.note_rest.new.actor c.note_rest.new.memory in
    let inside : index < length items = subst (λ (as_ : List ActorState). index < length as_) (sym c.residents.view_is) c.requires.inside in
    let there : slice_get items index ≡ Some a = get_at items index a inside c.index_mut-resident.ensures.value in
    let rests : new ≡ rest i a = c.in-Ok.ensures.rests ∙ ap (rest i) c.resident.view_is in
    name_map_put_back c.residents.inside.by_name items index a new there (ap (λ (x : ActorState). x.name) rests ∙ rest-name i a) c.residents.invariant

abbrev the_noted : CallChain → List Note → Noted
the_noted chain notes = record { chain = chain; notes = notes }

-- the actor at the index has come to rest, noted
noted : (c : goal.Joined-note_rest) → whole c.note_rest.new.actor c.note_rest.new.memory ≡ rest c.args.program.now (whole c.resident.inside.actor c.resident.inside.memory)
    → the_noted c.note_rest.new.chain c.note_rest.new.list.items ≡ noted_rest c.args.program.now c.log.inside.makings (whole c.resident.inside.actor c.resident.inside.memory) (the_noted c.index_mut.result.now c.log.inside.notes.items)
    → IsNotedAt c.args.program.now c.args.residents.now c.args.log.now c.args.index (slice_set c.residents.inside.list.items c.args.index (whole c.note_rest.new.actor c.note_rest.new.memory))
    (record { chains = slice_set c.log.inside.chains.items c.args.index c.note_rest.new.chain; makings = c.log.inside.makings; notes = c.note_rest.new.list.items })
noted c rested ended =
    let i = c.args.program.now in
    let items = c.residents.inside.list.items in
    let actors = c.args.residents.now in
    let index = c.args.index in
    let l : Log = record { chains = c.log.inside.chains.items; makings = c.log.inside.makings; notes = c.log.inside.notes.items } in
    let a : ActorState = c.index_mut-resident.result.now in
    let new : ActorState = whole c.note_rest.new.actor c.note_rest.new.memory in
    let inside : index < length items = subst (λ (as_ : List ActorState). index < length as_) (sym c.residents.view_is) c.requires.inside in
    let there : slice_get items index ≡ Some a = get_at items index a inside c.index_mut-resident.ensures.value in
    let rests : new ≡ rest i a = rested ∙ ap (rest i) c.resident.view_is in
    let chain = c.index_mut.result.now in
    let same_length : length l.chains ≡ length actors = ap (λ (x : Log). length x.chains) c.log.view_is ∙ c.requires.in_step in
    let below : index < length l.chains = subst (λ n. index < n) (sym same_length) c.requires.inside in
    let at : slice_get l.chains index ≡ Some chain = get_at l.chains index chain below c.index_mut.ensures.value in
    let before : Noted = record { chain = chain; notes = l.notes } in
    let after : Noted = record { chain = c.note_rest.new.chain; notes = c.note_rest.new.list.items } in
    let ends : after ≡ noted_rest i l.makings a before = ended ∙ ap (λ x. noted_rest i l.makings x before) c.resident.view_is in
    let m : Log = with_noted l index after in
    let logged : m ≡ log_rest i l index a = ap (with_noted l index) ends ∙ sym (ap (log_rest_by i l index a) at) in
    subst (λ x. IsNotedAt i actors x index (slice_set items index new) m) c.log.view_is (record {
      actor = a;
      there = subst (λ (as_ : List ActorState). slice_get as_ index ≡ Some a) c.residents.view_is there;
      new_is = ap (slice_set items index) rests ∙ ap (λ (as_ : List ActorState). slice_set as_ index (rest i a)) c.residents.view_is;
      logged = logged;
    })

pub returns : goal.returns
returns c =
    elim c.match-note_rest.branch [
      | in-Ok w ↦ (let fact = noted c w.in-Ok.ensures.rests w.in-Ok.ensures.noted in rw w.result-is (rw w.residents-is fact))
      | in-Err w ↦ rw w.result-is tt
    ]
