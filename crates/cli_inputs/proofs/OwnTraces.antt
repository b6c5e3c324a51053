-- A run's own trace permits all of the run.
use Rattle.std.proofs.Common.{◌≡◌, ℕ, ◌<◌, ◌^◌, Bool, true, false, List, [], length, refl, sym, ap, subst, ◌∙◌, arith}
use Rattle.std.specs.Prelude.{None, Result, Ok, Err, nat_lt, if◌then◌else◌}
use Rattle.std.proofs.lemmas.Bool.{le-ltb}
use mathlib.Core.List.{append-nil}
use Rattle.wedge_base.specs.Images.{Image}
use Rattle.image_form.specs.Reading.{reading}
use Rattle.image_form.specs.Rules.{IsImage}
use Rattle.image_form.specs.declared.fault.Fault.{Fault}
use Rattle.image_form.proofs.ImageForm.{is_found}
use Rattle.machine.specs.Worlds.{WorldState}
use Rattle.report_text.specs.Schedules.{names_in}
use Rattle.world_turns.specs.declared.error.Why.{Why}
use Rattle.world_turns.specs.Replay.{replay_of}
use Rattle.trace_form.specs.FirstFault.{first_fault}
use Rattle.trace_form.specs.Records.{records_of}
use Rattle.trace_form.proofs.Accepts.{trace_sound, trace_read}
use Rattle.cb_analyze.specs.Sheets.{sheets_of}
use Rattle.cb_log.specs.Logs.{records_of as run_records, trace_of}
use Rattle.cb_log.specs.Marks.{marks_of}
use Rattle.cb_log.proofs.InGrammar.{in_grammar}
use Rattle.sheet_enforce.specs.Violations.{violations_of}
use Rattle.sheet_enforce.proofs.Permitted.{own_sheets_permit}
use Rattle.cli_inputs.specs.declared.loading.FileKind.TheVariants as kind
use Rattle.cli_inputs.specs.declared.refusal.Refusal.{Refusal}
use Rattle.cli_inputs.specs.Loading.{image_from_bytes, image_by, most_of, too_long}
use Rattle.cli_inputs.specs.Replaying.{Making, text_of_replay, text_of_read, schedule_by, text_made, report_made, trace_made, replay_text}
use Rattle.cli_inputs.specs.Enforcing.{Check, emulated, enforced, text_checked, violations_by, trace_by, text_of_three, text_of_check, emulate_text, enforce_text, IsOwnTrace, OwnTracesPermit}

-- ---- what a text of a replay is made of

-- an image and a schedule that are accepted, and a run
record IsMade (make : Making) (m : Result Image Refusal) (n : Result (List (List ℕ)) Refusal) (text : List ℕ) : Type 0 where
  image : Image
  image_is : m ≡ Ok image
  names : List (List ℕ)
  names_are : n ≡ Ok names
  made : text_made make image names (replay_of image names) ≡ Ok text

made_by : (make : Making) (m : Result Image Refusal) (n : Result (List (List ℕ)) Refusal) (text : List ℕ)
    → text_of_read make m n ≡ Ok text → IsMade make m n text
made_by make (Err why) n text e = absurd cc
made_by make (Ok i) (Err why) text e = absurd cc
made_by make (Ok i) (Ok names) text e =
    record { image = i; image_is = refl; names = names; names_are = refl; made = e }

-- neither file is too long
record AreShort (image names : List ℕ) : Type 0 where
  first : nat_lt (most_of kind.Image) (length image) ≡ false
  second : nat_lt (most_of kind.Schedule) (length names) ≡ false

short_by : (make : Making) (image names text : List ℕ) (a b : Bool)
    → nat_lt (most_of kind.Image) (length image) ≡ a → nat_lt (most_of kind.Schedule) (length names) ≡ b
    → (let answer : Result (List ℕ) Refusal = if a then Err (too_long kind.Image) else if b then Err (too_long kind.Schedule)
    else text_of_read make (image_from_bytes image) (schedule_by (names_in names)) in answer ≡ Ok text)
    → AreShort image names × (text_of_read make (image_from_bytes image) (schedule_by (names_in names)) ≡ Ok text)
short_by make image names text true b first second e = absurd cc
short_by make image names text false true first second e = absurd cc
short_by make image names text false false first second e = (record { first = first; second = second }, e)

are_short : (make : Making) (image names text : List ℕ) → text_of_replay make image names ≡ Ok text
    → AreShort image names × (text_of_read make (image_from_bytes image) (schedule_by (names_in names)) ≡ Ok text)
unfolding text_of_replay
are_short make image names text e = short_by make image names text _ _ refl refl e

-- ---- its trace

trace_is : (i : Image) (names : List (List ℕ)) (m : Result WorldState (ℕ × Why)) (text : List ℕ)
    → text_made trace_made i names m ≡ Ok text → text ≡ trace_of i names
trace_is i names (Ok w) text e = let is : trace_of i names ≡ text = cc in sym is
trace_is i names (Err fault) text e = absurd cc

read_as : (m : Result Image Fault) (i : Image) → image_by m ≡ Ok i → m ≡ Ok i
read_as (Ok k) i e = let is : k ≡ i = cc in ap (λ j. Ok j) is
read_as (Err fault) i e = absurd cc

-- ---- what is emulated or enforced by it

-- a check that changes nothing where all is permitted
abbrev Keeps : Check → Type 0
Keeps check = (text : List ℕ) → check [] text ≡ Ok text

emulated_keeps : Keeps emulated
emulated_keeps text = ap (λ t. Ok t) (append-nil text)

enforced_keeps : Keeps enforced
enforced_keeps text = refl

module _ (image names trace : List ℕ) (h : IsOwnTrace image names trace) where
  shorts : AreShort image names × (text_of_read trace_made (image_from_bytes image) (schedule_by (names_in names)) ≡ Ok trace)
  shorts = are_short trace_made image names trace h.own

  made : IsMade trace_made (image_from_bytes image) (schedule_by (names_in names)) trace
  made = made_by trace_made (image_from_bytes image) (schedule_by (names_in names)) trace shorts.1

  valid : IsImage made.image
  valid = (is_found image made.image h.bytes (read_as (reading image) made.image made.image_is)).valid

  text_is : trace ≡ trace_of made.image made.names
  text_is = trace_is made.image made.names (replay_of made.image made.names) trace made.made

  small : length (trace_of made.image made.names) < 2 ^ 64
  small = omega (arith, h.within, ap length text_is)

  none : first_fault trace ≡ None
  none =
      ap first_fault text_is
      ∙ trace_sound (trace_of made.image made.names) (run_records made.image made.names) (in_grammar made.image made.names valid) small

  same_records : records_of trace ≡ run_records made.image made.names
  same_records =
      ap records_of text_is
      ∙ trace_read (trace_of made.image made.names) (run_records made.image made.names) (in_grammar made.image made.names valid) small

  permitted : violations_by made.image made.names (records_of trace) ≡ []
  permitted =
      ap (λ rs. violations_of (marks_of made.image made.names) rs (sheets_of (records_of trace))) (sym same_records)
      ∙ own_sheets_permit trace (marks_of made.image made.names) none

  replayed_is : replay_text image names ≡ text_of_read report_made (image_from_bytes image) (schedule_by (names_in names))
  unfolding text_of_replay
  replayed_is =
      let first = shorts.0.first in
      let second = shorts.0.second in
      rw (first, second) refl

  module _ (check : Check) (keeps : Keeps check) where
    -- of the run, what is checked is what is made without
    unchanged : (m : Result (List ℕ) Refusal) → text_checked check [] m ≡ m
    unchanged (Ok text) = keeps text
    unchanged (Err why) = refl

    run_is : text_of_three check (image_from_bytes image) (schedule_by (names_in names)) (trace_by trace (first_fault trace))
        ≡ text_of_read report_made (image_from_bytes image) (schedule_by (names_in names))
    run_is =
        ap (λ m. text_of_three check m (schedule_by (names_in names)) (trace_by trace (first_fault trace))) made.image_is
        ∙ ap (λ n. text_of_three check (Ok made.image) n (trace_by trace (first_fault trace))) made.names_are
        ∙ ap (λ o. text_of_three check (Ok made.image) (Ok made.names) (trace_by trace o)) none
        ∙ ap (λ vs. text_checked check vs (text_made report_made made.image made.names (replay_of made.image made.names))) permitted
        ∙ unchanged (text_made report_made made.image made.names (replay_of made.image made.names))
        ∙ sym (ap (λ n. text_of_read report_made (Ok made.image) n) made.names_are)
        ∙ sym (ap (λ m. text_of_read report_made m (schedule_by (names_in names))) made.image_is)

    checked_is : text_of_check check image names trace
        ≡ text_of_three check (image_from_bytes image) (schedule_by (names_in names)) (trace_by trace (first_fault trace))
    unfolding text_of_check
    checked_is =
        let first = shorts.0.first in
        let second = shorts.0.second in
        let third : nat_lt (most_of kind.Trace) (length trace) ≡ false = le-ltb (most_of kind.Trace) (length trace) h.within in
        rw (first, second, third) refl

    own_checked : text_of_check check image names trace ≡ replay_text image names
    own_checked = checked_is ∙ run_is ∙ sym replayed_is

  pub own_emulated : emulate_text image names trace ≡ replay_text image names
  own_emulated = own_checked emulated emulated_keeps

  pub own_enforced : enforce_text image names trace ≡ replay_text image names
  own_enforced = own_checked enforced enforced_keeps

pub own_traces_permit : OwnTracesPermit
own_traces_permit image names trace h = (own_emulated image names trace h, own_enforced image names trace h)
