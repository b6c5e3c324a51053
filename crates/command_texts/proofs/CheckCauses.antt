-- The answer of a replay that is checked, from what was read and done.
use Rattle.std.proofs.Common.{◌≡◌, ℕ, ◌<◌, ◌≤◌, inl, inr, true, false, List, [], ◌∷◌, length, refl, sym, ap, subst, ◌∙◌, arith}
use Rattle.std.specs.Prelude.{Option, Some, None, Result, Ok, Err, nat_lt}
use Rattle.std.proofs.lemmas.Bool.{le-ltb, lt-ltb}
use Rattle.host_io.specs.Exposed.{WhereExposed}
use Rattle.wedge_base.specs.Images.{Image}
use Rattle.image_form.specs.declared.fault.Fault.{Fault}
use Rattle.report_text.specs.Schedules.{names_in}
use Rattle.machine.specs.Worlds.{WorldState}
use Rattle.world_turns.specs.declared.error.Why.{Why}
use Rattle.world_turns.specs.Replay.{replay_of}
use Rattle.trace_form.specs.declared.fault.TraceFault.{TraceFault}
use Rattle.trace_form.specs.FirstFault.{first_fault}
use Rattle.trace_form.specs.Records.{records_of}
use Rattle.sheet_enforce.specs.declared.violations.Violation.{Violation}
use Rattle.cli_inputs.specs.declared.loading.FileKind.TheVariants as kind
use Rattle.cli_inputs.specs.declared.refusal.Refusal.{Refusal}
use Rattle.cli_inputs.specs.declared.refusal.Refusal.TheVariants as refusal
use Rattle.cli_inputs.specs.Loading.{image_from_bytes, most_of, too_long, IsUnread}
use Rattle.cli_inputs.specs.Replaying.{schedule_by, text_made, report_made}
use Rattle.cli_inputs.specs.Enforcing.{Check, emulated, enforced, text_checked, violations_by, trace_by, text_of_three, text_of_check, IsCheckRefusalIn, IsEnforceRefusalIn}
use Rattle.command_texts.specs.Causes.{IsCheckAnswer, IsCheckRefused, IsEnforceRefused}
use Rattle.cli_inputs.proofs.TooLong.{long_image}

-- ---- the text

module _ (check : Check) (a b c : List ℕ) where
  -- of files that are not too long
  text_within : length a ≤ most_of kind.Image → length b ≤ most_of kind.Schedule → length c ≤ most_of kind.Trace
      → text_of_check check a b c ≡ text_of_three check (image_from_bytes a) (schedule_by (names_in b)) (trace_by c (first_fault c))
  unfolding text_of_check
  text_within la lb lc =
      let short_a : nat_lt (most_of kind.Image) (length a) ≡ false = le-ltb (most_of kind.Image) (length a) la in
      let short_b : nat_lt (most_of kind.Schedule) (length b) ≡ false = le-ltb (most_of kind.Schedule) (length b) lb in
      let short_c : nat_lt (most_of kind.Trace) (length c) ≡ false = le-ltb (most_of kind.Trace) (length c) lc in
      rw (short_a, short_b, short_c) refl

  -- of an image's file that is too long
  long_first : most_of kind.Image < length a → text_of_check check a b c ≡ Err (too_long kind.Image)
  unfolding text_of_check
  long_first lt = let long : nat_lt (most_of kind.Image) (length a) ≡ true = lt-ltb (most_of kind.Image) (length a) lt in rw long refl

  -- of a schedule's
  long_second : length a ≤ most_of kind.Image → most_of kind.Schedule < length b → text_of_check check a b c ≡ Err (too_long kind.Schedule)
  unfolding text_of_check
  long_second la lt =
      let short : nat_lt (most_of kind.Image) (length a) ≡ false = le-ltb (most_of kind.Image) (length a) la in
      let long : nat_lt (most_of kind.Schedule) (length b) ≡ true = lt-ltb (most_of kind.Schedule) (length b) lt in
      rw (short, long) refl

  -- of a trace's
  long_third : length a ≤ most_of kind.Image → length b ≤ most_of kind.Schedule → most_of kind.Trace < length c
      → text_of_check check a b c ≡ Err (too_long kind.Trace)
  unfolding text_of_check
  long_third la lb lt =
      let short_a : nat_lt (most_of kind.Image) (length a) ≡ false = le-ltb (most_of kind.Image) (length a) la in
      let short_b : nat_lt (most_of kind.Schedule) (length b) ≡ false = le-ltb (most_of kind.Schedule) (length b) lb in
      let long : nat_lt (most_of kind.Trace) (length c) ≡ true = lt-ltb (most_of kind.Trace) (length c) lt in
      rw (short_a, short_b, long) refl

-- ---- which refusals come of the image

-- a check has no fault of an image
abbrev pub HasNoFault : Check → Type 0
HasNoFault check = (vs : List Violation) (text : List ℕ) (f : Fault) → check vs text ≡ Err (refusal.Image f) → ⊥

pub emulated_none : HasNoFault emulated
emulated_none vs text f e = cc

pub enforced_none : HasNoFault enforced
enforced_none [] text f e = cc
enforced_none (v ∷ vs) text f e = cc

module _ (check : Check) (none : HasNoFault check) (f : Fault) where
  made_cause : (i : Image) (names : List (List ℕ)) (vs : List Violation) (m : Result WorldState (ℕ × Why))
      → text_checked check vs (text_made report_made i names m) ≡ Err (refusal.Image f) → ⊥
  made_cause i names vs (Ok w) e = none vs (report_made i names w) f e
  made_cause i names vs (Err at) e = cc

  trace_cause : (i : Image) (names : List (List ℕ)) (c : List ℕ) (o : Option TraceFault)
      → text_of_three check (Ok i) (Ok names) (trace_by c o) ≡ Err (refusal.Image f) → ⊥
  trace_cause i names c None e =
      made_cause i names (violations_by i names (records_of c)) (replay_of i names) e
  trace_cause i names c (Some fault) e = cc

  image_cause : (m : Result Image Refusal) (n : Result (List (List ℕ)) ℕ) (c : List ℕ) (o : Option TraceFault)
      → text_of_three check m (schedule_by n) (trace_by c o) ≡ Err (refusal.Image f) → m ≡ Err (refusal.Image f)
  image_cause (Err why) n c o e = let is : why ≡ refusal.Image f = cc in ap (λ x. Err x) is
  image_cause (Ok i) (Err at) c o e = absurd cc
  image_cause (Ok i) (Ok names) c o e = absurd (trace_cause i names c o e)

-- ---- the causes of a refused check

module _ (image schedule trace : List ℕ) (files : List ℕ → Option (List ℕ)) (before after : List ℕ → ℕ) where
  abbrev pub Refused : Check → Refusal → Type 0
  Refused check r = IsCheckRefused check image schedule trace files before after r

  -- the image's file was not read
  pub first_unread : (r : Refusal) → IsUnread kind.Image image (files image) (before image) (after image) r → (check : Check) → Refused check r
  first_unread refusal.NoMemory h check = tt
  first_unread (refusal.Read file) h check = inl (inl h)
  first_unread (refusal.Image fault) h check = (
    λ a b c image_is schedule_is trace_is. long_first check a b c (h.longer a image_is) ∙ ap (λ r. Err r) (sym h.is),
    λ a image_is. long_image a (h.longer a image_is) ∙ ap (λ r. Err r) (sym h.is),
  )
  first_unread (refusal.Partition p) h check = let e = h.is in absurd cc
  first_unread (refusal.Schedule s) h check = let e = h.is in absurd cc
  first_unread (refusal.Trace fault) h check = let e = h.is in absurd cc
  first_unread (refusal.Elf fault) h check = let e = h.is in absurd cc
  first_unread (refusal.NoSuchName item) h check = absurd h
  first_unread (refusal.Violation v) h check = absurd h

  module _ (bytes : List ℕ) (same : WhereExposed (files image) (λ b. bytes ≡ b)) (within : length bytes ≤ most_of kind.Image) where
    image_within : WhereExposed (files image) (λ b. length b ≤ most_of kind.Image)
    image_within = λ b exposed. subst (λ x. length x ≤ most_of kind.Image) (same b exposed) within

    -- the schedule's was not, after the image's
    pub second_unread : (middle : ℕ) (r : Refusal) → before schedule ≤ middle
        → IsUnread kind.Schedule schedule (files schedule) middle (after schedule) r → (check : Check) → Refused check r
    second_unread middle refusal.NoMemory low h check = tt
    second_unread middle (refusal.Read file) low h check =
        let rose = h.rose in inl (inr (record { named = h.named; rose = omega arith }, image_within))
    second_unread middle (refusal.Image fault) low h check = let e = h.is in absurd cc
    second_unread middle (refusal.Partition p) low h check = let e = h.is in absurd cc
    second_unread middle (refusal.Schedule s) low h check = λ a b c image_is schedule_is trace_is.
        long_second check a b c (image_within a image_is) (h.longer b schedule_is) ∙ ap (λ r. Err r) (sym h.is)
    second_unread middle (refusal.Trace fault) low h check = let e = h.is in absurd cc
    second_unread middle (refusal.Elf fault) low h check = let e = h.is in absurd cc
    second_unread middle (refusal.NoSuchName item) low h check = absurd h
    second_unread middle (refusal.Violation v) low h check = absurd h

    module _ (names : List ℕ) (same_names : WhereExposed (files schedule) (λ b. names ≡ b)) (within_names : length names ≤ most_of kind.Schedule) where
      names_within : WhereExposed (files schedule) (λ b. length b ≤ most_of kind.Schedule)
      names_within = λ b exposed. subst (λ x. length x ≤ most_of kind.Schedule) (same_names b exposed) within_names

      -- the trace's was not, after these
      pub third_unread : (middle : ℕ) (r : Refusal) → before trace ≤ middle
          → IsUnread kind.Trace trace (files trace) middle (after trace) r → (check : Check) → Refused check r
      third_unread middle refusal.NoMemory low h check = tt
      third_unread middle (refusal.Read file) low h check =
          let rose = h.rose in inr (record { named = h.named; rose = omega arith }, image_within, names_within)
      third_unread middle (refusal.Image fault) low h check = let e = h.is in absurd cc
      third_unread middle (refusal.Partition p) low h check = let e = h.is in absurd cc
      third_unread middle (refusal.Schedule s) low h check = let e = h.is in absurd cc
      third_unread middle (refusal.Trace fault) low h check = λ a b c image_is schedule_is trace_is.
          long_third check a b c (image_within a image_is) (names_within b schedule_is) (h.longer c trace_is) ∙ ap (λ r. Err r) (sym h.is)
      third_unread middle (refusal.Elf fault) low h check = let e = h.is in absurd cc
      third_unread middle (refusal.NoSuchName item) low h check = absurd h
      third_unread middle (refusal.Violation v) low h check = absurd h

      module _ (records : List ℕ) (same_records : WhereExposed (files trace) (λ b. records ≡ b)) (within_records : length records ≤ most_of kind.Trace) where
        -- all were read
        answered : (check : Check) (answer : Result (List ℕ) Refusal) → text_of_check check bytes names records ≡ answer
            → IsCheckAnswer check image schedule trace files answer
        answered check answer h = λ a b c image_is schedule_is trace_is.
            ap (λ x. text_of_check check x b c) (sym (same a image_is)) ∙ ap (λ x. text_of_check check bytes x c) (sym (same_names b schedule_is))
            ∙ ap (λ x. text_of_check check bytes names x) (sym (same_records c trace_is)) ∙ h

        image_meant : (check : Check) (f : Fault) → HasNoFault check → text_of_check check bytes names records ≡ Err (refusal.Image f)
            → WhereExposed (files image) (λ b. image_from_bytes b ≡ Err (refusal.Image f))
        image_meant check f none h = λ b exposed.
            subst (λ x. image_from_bytes x ≡ Err (refusal.Image f)) (same b exposed)
            (image_cause check none f (image_from_bytes bytes) (names_in names) records (first_fault records)
            (sym (text_within check bytes names records within within_names within_records) ∙ h))

        pub three_read : (check : Check) → HasNoFault check → (r : Refusal)
            → IsCheckRefusalIn (text_of_check check bytes names records) r → Refused check r
        three_read check none refusal.NoMemory h = tt
        three_read check none (refusal.Read file) h = absurd h
        three_read check none (refusal.Image fault) h = (answered check (Err (refusal.Image fault)) h, image_meant check fault none h)
        three_read check none (refusal.Partition p) h = absurd h
        three_read check none (refusal.Schedule s) h = answered check (Err (refusal.Schedule s)) h
        three_read check none (refusal.Trace fault) h = answered check (Err (refusal.Trace fault)) h
        three_read check none (refusal.Elf fault) h = absurd h
        three_read check none (refusal.NoSuchName item) h = absurd h
        three_read check none (refusal.Violation v) h = absurd h

        pub three_enforced : (r : Refusal) → IsEnforceRefusalIn (text_of_check enforced bytes names records) r
            → IsEnforceRefused image schedule trace files before after r
        three_enforced refusal.NoMemory h = tt
        three_enforced (refusal.Read file) h = absurd h
        three_enforced (refusal.Image fault) h = three_read enforced enforced_none (refusal.Image fault) h
        three_enforced (refusal.Partition p) h = absurd h
        three_enforced (refusal.Schedule s) h = three_read enforced enforced_none (refusal.Schedule s) h
        three_enforced (refusal.Trace fault) h = three_read enforced enforced_none (refusal.Trace fault) h
        three_enforced (refusal.Elf fault) h = absurd h
        three_enforced (refusal.NoSuchName item) h = absurd h
        three_enforced (refusal.Violation v) h = answered enforced (Err (refusal.Violation v)) h

  -- what is not checked is not enforced
  pub unread_enforced : (r : Refusal) → Refused enforced r → IsEnforceRefused image schedule trace files before after r
  unread_enforced refusal.NoMemory h = tt
  unread_enforced (refusal.Read file) h = h
  unread_enforced (refusal.Image fault) h = h
  unread_enforced (refusal.Partition p) h = h
  unread_enforced (refusal.Schedule s) h = h
  unread_enforced (refusal.Trace fault) h = h
  unread_enforced (refusal.Elf fault) h = h
  unread_enforced (refusal.NoSuchName item) h = h
  unread_enforced (refusal.Violation v) h = absurd h
