-- The answer of a replay, from what was read and done.
use Rattle.std.proofs.Common.{◌≡◌, ℕ, ◌<◌, ◌≤◌, inl, inr, true, false, List, length, refl, sym, ap, subst, ◌∙◌, arith}
use Rattle.std.specs.Prelude.{Option, Result, Ok, Err, nat_lt}
use Rattle.std.proofs.lemmas.Bool.{le-ltb, lt-ltb}
use Rattle.host_io.specs.Exposed.{WhereExposed}
use Rattle.wedge_base.specs.Images.{Image}
use Rattle.image_form.specs.declared.fault.Fault.{Fault}
use Rattle.elf_in.specs.declared.fault.Fault.{Fault as ElfFault}
use Rattle.image_form.specs.Reading.{reading}
use Rattle.report_text.specs.Schedules.{names_in}
use Rattle.machine.specs.Worlds.{WorldState, initial_state}
use Rattle.world_turns.specs.declared.error.Why.{Why}
use Rattle.world_turns.specs.Replay.{replay_from}
use Rattle.cli_inputs.specs.declared.loading.FileKind.TheVariants as kind
use Rattle.cli_inputs.specs.declared.refusal.Refusal.{Refusal}
use Rattle.cli_inputs.specs.declared.refusal.Refusal.TheVariants as refusal
use Rattle.cli_inputs.specs.declared.refusal.PartRefusal.{PartRefusal}
use Rattle.cli_inputs.specs.declared.refusal.ScheduleRefusal.{ScheduleRefusal}
use Rattle.cli_inputs.specs.declared.refusal.ScheduleRefusal.TheVariants as schedule
use Rattle.cli_inputs.specs.Loading.{image_from_bytes, image_by, most_of, too_long, IsRefusalOf, IsUnread}
use Rattle.cli_inputs.specs.Replaying.{Making, text_of_replay, text_of_read, schedule_by, text_made, IsRefusalIn}
use Rattle.command_texts.specs.Causes.{IsReplayAnswer, IsReplayRefused}
use Rattle.cli_inputs.proofs.TooLong.{long_image}

-- ---- the text

-- of files that are not too long
pub text_within : (make : Making) (a b : List ℕ) → length a ≤ most_of kind.Image → length b ≤ most_of kind.Schedule → text_of_replay make a b ≡ text_of_read make (image_from_bytes a) (schedule_by (names_in b))
unfolding text_of_replay
text_within make a b la lb =
    let short_a : nat_lt (most_of kind.Image) (length a) ≡ false = le-ltb (most_of kind.Image) (length a) la in
    let short_b : nat_lt (most_of kind.Schedule) (length b) ≡ false = le-ltb (most_of kind.Schedule) (length b) lb in
    rw (short_a, short_b) refl

-- of an image's file that is too long
long_first : (make : Making) (a b : List ℕ) → most_of kind.Image < length a → text_of_replay make a b ≡ Err (too_long kind.Image)
unfolding text_of_replay
long_first make a b lt = let long : nat_lt (most_of kind.Image) (length a) ≡ true = lt-ltb (most_of kind.Image) (length a) lt in rw long refl

-- of a schedule's that is too long
long_second : (make : Making) (a b : List ℕ) → length a ≤ most_of kind.Image → most_of kind.Schedule < length b → text_of_replay make a b ≡ Err (too_long kind.Schedule)
unfolding text_of_replay
long_second make a b la lt =
    let short : nat_lt (most_of kind.Image) (length a) ≡ false = le-ltb (most_of kind.Image) (length a) la in
    let long : nat_lt (most_of kind.Schedule) (length b) ≡ true = lt-ltb (most_of kind.Schedule) (length b) lt in
    rw (short, long) refl

-- ---- refusals of the text

pub image_refused : (make : Making) (m : Result Image Refusal) (n : Result (List (List ℕ)) Refusal) (r : Refusal) → IsRefusalOf m r → IsRefusalIn (text_of_read make m n) r
image_refused make m n refusal.NoMemory h = tt
image_refused make m n (refusal.Read file) h = absurd h
image_refused make m n (refusal.Image fault) h = ap (λ x. text_of_read make x n) h
image_refused make m n (refusal.Partition p) h = ap (λ x. text_of_read make x n) h
image_refused make m n (refusal.Schedule s) h = absurd h
image_refused make m n (refusal.Trace fault) h = absurd h
image_refused make m n (refusal.Elf fault) h = absurd h
image_refused make m n (refusal.NoSuchName item) h = absurd h
image_refused make m n (refusal.Violation v) h = absurd h

pub names_refused : (make : Making) (m : Result Image Refusal) (i : Image) (n : Result (List (List ℕ)) Refusal) (r : Refusal) → m ≡ Ok i → IsRefusalIn n r → IsRefusalIn (text_of_read make m n) r
names_refused make m i n refusal.NoMemory is h = tt
names_refused make m i n (refusal.Read file) is h = absurd h
names_refused make m i n (refusal.Image fault) is h = ap (λ x. text_of_read make x n) is ∙ ap (λ x. text_of_read make (Ok i) x) h
names_refused make m i n (refusal.Partition p) is h = ap (λ x. text_of_read make x n) is ∙ ap (λ x. text_of_read make (Ok i) x) h
names_refused make m i n (refusal.Schedule s) is h = ap (λ x. text_of_read make x n) is ∙ ap (λ x. text_of_read make (Ok i) x) h
names_refused make m i n (refusal.Trace fault) is h = absurd h
names_refused make m i n (refusal.Elf fault) is h = ap (λ x. text_of_read make x n) is ∙ ap (λ x. text_of_read make (Ok i) x) h
names_refused make m i n (refusal.NoSuchName item) is h = absurd h
names_refused make m i n (refusal.Violation v) is h = absurd h

-- ---- which refusals come of the image

made_cause : (make : Making) (i : Image) (names : List (List ℕ)) (m : Result WorldState (ℕ × Why)) (r : Refusal) → ((s : ScheduleRefusal) → r ≡ refusal.Schedule s → ⊥) → text_made make i names m ≡ Err r → ⊥
made_cause make i names (Ok w) r unlike e = cc
made_cause make i names (Err f) r unlike e = unlike (schedule.Replay f.0 f.1) (let is : refusal.Schedule (schedule.Replay f.0 f.1) ≡ r = cc in sym is)

image_cause : (make : Making) (m : Result Image Refusal) (n : Result (List (List ℕ)) ℕ) (r : Refusal) → ((s : ScheduleRefusal) → r ≡ refusal.Schedule s → ⊥)
    → text_of_read make m (schedule_by n) ≡ Err r → m ≡ Err r
image_cause make (Err why) n r unlike e = let is : why ≡ r = cc in ap (λ x. Err x) is
image_cause make (Ok i) (Err at) r unlike e = absurd (unlike (schedule.Form at) (let is : refusal.Schedule (schedule.Form at) ≡ r = cc in sym is))
image_cause make (Ok i) (Ok names) r unlike e = absurd (made_cause make i names (replay_from (initial_state i) 1 names) r unlike e)

no_elf_by : (m : Result Image Fault) (f : ElfFault) → image_by m ≡ Err (refusal.Elf f) → ⊥
no_elf_by (Ok i) f e = cc
no_elf_by (Err g) f e = cc

no_partition_by : (m : Result Image Fault) (p : PartRefusal) → image_by m ≡ Err (refusal.Partition p) → ⊥
no_partition_by (Ok i) p e = cc
no_partition_by (Err f) p e = cc

-- ---- the causes of a refused replay

-- the image's file was not read
pub first_unread : (make : Making) (image schedule : List ℕ) (files : List ℕ → Option (List ℕ)) (before after : List ℕ → ℕ) (r : Refusal)
    → IsUnread kind.Image image (files image) (before image) (after image) r → IsReplayRefused make image schedule files before after r
first_unread make image schedule files before after refusal.NoMemory h = tt
first_unread make image schedule files before after (refusal.Read file) h = inl h
first_unread make image schedule files before after (refusal.Image fault) h = (
  λ a b image_is schedule_is. long_first make a b (h.longer a image_is) ∙ ap (λ r. Err r) (sym h.is),
  λ a image_is. long_image a (h.longer a image_is) ∙ ap (λ r. Err r) (sym h.is),
)
first_unread make image schedule files before after (refusal.Partition p) h = let e = h.is in absurd cc
first_unread make image schedule files before after (refusal.Schedule s) h = let e = h.is in absurd cc
first_unread make image schedule files before after (refusal.Trace fault) h = let e = h.is in absurd cc
first_unread make image schedule files before after (refusal.Elf fault) h = let e = h.is in absurd cc
first_unread make image schedule files before after (refusal.NoSuchName item) h = absurd h
first_unread make image schedule files before after (refusal.Violation v) h = absurd h

-- the schedule's was not, after the image's
pub second_unread : (make : Making) (image schedule : List ℕ) (files : List ℕ → Option (List ℕ)) (before after : List ℕ → ℕ) (middle : ℕ) (bytes : List ℕ) (r : Refusal)
    → before schedule ≤ middle → WhereExposed (files image) (λ b. bytes ≡ b) → length bytes ≤ most_of kind.Image
    → IsUnread kind.Schedule schedule (files schedule) middle (after schedule) r → IsReplayRefused make image schedule files before after r
second_unread make image schedule files before after middle bytes refusal.NoMemory low same within h = tt
second_unread make image schedule files before after middle bytes (refusal.Read file) low same within h =
    let rose = h.rose in
    inr (record { named = h.named; rose = omega arith }, λ b exposed. subst (λ x. length x ≤ most_of kind.Image) (same b exposed) within)
second_unread make image schedule files before after middle bytes (refusal.Image fault) low same within h = let e = h.is in absurd cc
second_unread make image schedule files before after middle bytes (refusal.Partition p) low same within h = let e = h.is in absurd cc
second_unread make image schedule files before after middle bytes (refusal.Schedule s) low same within h = λ a b image_is schedule_is.
    long_second make a b (subst (λ x. length x ≤ most_of kind.Image) (same a image_is) within) (h.longer b schedule_is) ∙ ap (λ r. Err r) (sym h.is)
second_unread make image schedule files before after middle bytes (refusal.Trace fault) low same within h = let e = h.is in absurd cc
second_unread make image schedule files before after middle bytes (refusal.Elf fault) low same within h = let e = h.is in absurd cc
second_unread make image schedule files before after middle bytes (refusal.NoSuchName item) low same within h = absurd h
second_unread make image schedule files before after middle bytes (refusal.Violation v) low same within h = absurd h

-- both were read
answered : (make : Making) (image schedule : List ℕ) (files : List ℕ → Option (List ℕ)) (bytes names : List ℕ) (answer : Result (List ℕ) Refusal)
    → WhereExposed (files image) (λ b. bytes ≡ b) → WhereExposed (files schedule) (λ b. names ≡ b) → text_of_replay make bytes names ≡ answer → IsReplayAnswer make image schedule files answer
answered make image schedule files bytes names answer same same_names h = λ a b image_is schedule_is.
    ap (λ x. text_of_replay make x b) (sym (same a image_is)) ∙ ap (λ x. text_of_replay make bytes x) (sym (same_names b schedule_is)) ∙ h

image_meant : (make : Making) (files_image : Option (List ℕ)) (bytes names : List ℕ) (r : Refusal) → ((s : ScheduleRefusal) → r ≡ refusal.Schedule s → ⊥)
    → WhereExposed files_image (λ b. bytes ≡ b) → length bytes ≤ most_of kind.Image → length names ≤ most_of kind.Schedule → text_of_replay make bytes names ≡ Err r
    → WhereExposed files_image (λ b. image_from_bytes b ≡ Err r)
image_meant make files_image bytes names r unlike same within within_names h = λ b exposed.
    subst (λ x. image_from_bytes x ≡ Err r) (same b exposed) (image_cause make (image_from_bytes bytes) (names_in names) r unlike (sym (text_within make bytes names within within_names) ∙ h))

pub both_read : (make : Making) (image schedule : List ℕ) (files : List ℕ → Option (List ℕ)) (before after : List ℕ → ℕ) (bytes names : List ℕ) (r : Refusal)
    → WhereExposed (files image) (λ b. bytes ≡ b) → WhereExposed (files schedule) (λ b. names ≡ b)
    → length bytes ≤ most_of kind.Image → length names ≤ most_of kind.Schedule
    → IsRefusalIn (text_of_replay make bytes names) r → IsReplayRefused make image schedule files before after r
both_read make image schedule files before after bytes names refusal.NoMemory same same_names within within_names h = tt
both_read make image schedule files before after bytes names (refusal.Read file) same same_names within within_names h = absurd h
both_read make image schedule files before after bytes names (refusal.Image fault) same same_names within within_names h = (
  answered make image schedule files bytes names (Err (refusal.Image fault)) same same_names h,
  image_meant make (files image) bytes names (refusal.Image fault) (λ s e. cc) same within within_names h,
)
both_read make image schedule files before after bytes names (refusal.Partition p) same same_names within within_names h =
    no_partition_by (reading bytes) p (image_cause make (image_from_bytes bytes) (names_in names) (refusal.Partition p) (λ s e. cc) (sym (text_within make bytes names within within_names) ∙ h))
both_read make image schedule files before after bytes names (refusal.Schedule s) same same_names within within_names h =
    answered make image schedule files bytes names (Err (refusal.Schedule s)) same same_names h
both_read make image schedule files before after bytes names (refusal.Trace fault) same same_names within within_names h = absurd h
both_read make image schedule files before after bytes names (refusal.Elf fault) same same_names within within_names h =
    no_elf_by (reading bytes) fault (image_cause make (image_from_bytes bytes) (names_in names) (refusal.Elf fault) (λ s e. cc) (sym (text_within make bytes names within within_names) ∙ h))
both_read make image schedule files before after bytes names (refusal.NoSuchName item) same same_names within within_names h = absurd h
both_read make image schedule files before after bytes names (refusal.Violation v) same same_names within within_names h = absurd h
