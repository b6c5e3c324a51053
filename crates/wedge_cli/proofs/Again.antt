-- The schedule of a run, replayed over the image that was run, gives the report of the run.
use Rattle.std.proofs.Common.{◌≡◌, ◌≤◌, ℕ, List, [], ◌∷◌, length, refl, sym, ap, ◌∙◌, arith}
use Rattle.std.specs.Prelude.{Ok}
use Rattle.wedge_base.specs.Images.{Image}
use Rattle.wedge_events.specs.Journals.{turns_of}
use Rattle.wedge_events.specs.declared.events.LogEntry.{LogEntry}
use Rattle.wedge_base.specs.declared.outcome.Outcome.{Outcome}
use Rattle.image_form.specs.Rules.{Encodes}
use Rattle.report_text.specs.Reports.{report_of}
use Rattle.report_text.specs.Schedules.{actors_of, names_in}
use Rattle.machine.specs.Worlds.{initial_state}
use Rattle.world_turns.specs.Replay.{replay_from, names_of}
use Rattle.run_laws.specs.CompleteRuns.{IsJournaledRun}
use Rattle.world_turns.proofs.Replays.{journals_replay}
use Rattle.cli_inputs.specs.declared.loading.FileKind.TheVariants as kind
use Rattle.cli_inputs.specs.Loading.{image_from_bytes, most_of}
use Rattle.cli_inputs.specs.Replaying.{replay_text, report_made, text_of_read, schedule_by, text_made}
use Rattle.command_texts.proofs.Replays.{text_within}

-- the actors of entries are those of their turns
actors_are : (entries : List LogEntry) → actors_of entries ≡ names_of (turns_of entries)
actors_are [] = refl
actors_are (e ∷ es) = ap (λ names. e.actor ∷ names) (actors_are es)

pub schedule_replays : (i : Image) (bytes schedule : List ℕ) (entries : List LogEntry) (outcome : Outcome) → Encodes i bytes → image_from_bytes bytes ≡ Ok i → IsJournaledRun i entries outcome
    → names_in schedule ≡ Ok (actors_of entries) → length schedule ≤ most_of kind.Schedule → replay_text bytes schedule ≡ Ok (report_of outcome)
schedule_replays i bytes schedule entries outcome encoded accepted whole read short =
    let within : length bytes ≤ most_of kind.Image = omega (arith, ap length encoded.encoded, encoded.valid.small) in
    let replay = journals_replay i entries outcome whole in
    text_within report_made bytes schedule within short
    ∙ ap (λ m. text_of_read report_made m (schedule_by (names_in schedule))) accepted
    ∙ ap (λ n. text_of_read report_made (Ok i) (schedule_by n)) read
    ∙ ap (λ names. text_made report_made i names (replay_from (initial_state i) 1 names)) (actors_are entries)
    ∙ ap (text_made report_made i (names_of (turns_of entries))) replay.1
    ∙ ap (λ (o : Outcome). Ok (report_of o)) (sym replay.2)
