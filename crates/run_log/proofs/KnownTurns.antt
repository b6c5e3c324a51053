-- A turn leaves what its run made known to the log.
use Rattle.std.proofs.Common.{◌≡◌, inl, inr, ℕ, ◌+◌, ◌-◌, ◌<◌, ◌≤◌, Bool, true, false, List, [], ◌∷◌, ◌++◌, length, refl, sym, ap, subst, ◌∙◌, arith, true≢false}
use Rattle.std.proofs.lemmas.Bool.{eqb-true}
use Rattle.std.specs.Prelude.{Option, Some, None, find, slice_get, ◌==◌, ◌||◌, ◌⊎◌, if◌then◌else◌}
use Rattle.std.specs.List.{list_any}
use Rattle.wedge_base.specs.Images.{Image}
use Rattle.wedge_base.specs.declared.image.FileEntry.{FileEntry}
use Rattle.wedge_base.specs.Maps.{Map, at, with}
use Rattle.wedge_base.specs.Names.{same}
use Rattle.wedge_events.specs.Directories.{Directory, Claim, claim, claim_reply, claim_next, is_claimed}
use Rattle.wedge_events.specs.declared.cells.DirectoryAsk.TheVariants as directory_ask
use Rattle.wedge_events.specs.declared.cells.DirectoryReply.TheVariants as directory_reply
use Rattle.wedge_events.specs.declared.cells.SlotAsk.TheVariants as slot_ask
use Rattle.wedge_events.specs.declared.cells.SlotReply.TheVariants as slot_reply
use Rattle.wedge_events.specs.declared.cells.StreamAsk.{StreamAsk}
use Rattle.wedge_events.specs.declared.cells.StreamAsk.TheVariants as stream_ask
use Rattle.wedge_events.specs.declared.cells.StreamReply.{StreamReply}
use Rattle.wedge_events.specs.declared.cells.StreamReply.TheVariants as stream_reply
use Rattle.wedge_events.specs.declared.events.Event.{Event}
use Rattle.wedge_events.specs.declared.events.Event.TheVariants as event
use Rattle.wedge_events.specs.declared.events.SlotWant.TheVariants as slot_want
use Rattle.wedge_events.specs.declared.events.Want.{Want}
use Rattle.wedge_events.specs.declared.events.Want.TheVariants as want
use Rattle.machine.specs.Actors.{ActorState}
use Rattle.machine.specs.Calls.{a0}
use Rattle.machine.specs.Cells.{Cells}
use Rattle.machine.specs.Local.{is_running, rest}
use Rattle.machine.specs.Opening.{FileOpening}
use Rattle.machine.specs.Take.{takes, actor_begun}
use Rattle.machine.specs.Worlds.{WorldState, actor_named, put_actor, turn_of, ready, resumed}
use Rattle.machine.specs.declared.opening.StreamLabel.{StreamLabel}
use Rattle.machine.specs.declared.phase.Phase.{Phase}
use Rattle.machine.specs.declared.phase.Phase.TheVariants as phase
use Rattle.machine.proofs.Resting.{rest-stays, rest-name}
use Rattle.run_laws.specs.CellHistories.{StreamMode, mode, mode_in, mode_by, mode_after_event, places_after_event}
use Rattle.run_laws.specs.Occupancy.{tag_of_call}
use Rattle.run_laws.specs.Requests.{Opens}
use Rattle.run_laws.proofs.Between.{event_for, opened_at, takes_name}
use Rattle.run_laws.proofs.Bounding.{with_same, with_other}
use Rattle.run_laws.proofs.CellChanging.{turn_changes}
use Rattle.run_laws.proofs.Directing.{claimed_rises}
use Rattle.run_laws.proofs.Happening.{Happens, Requested, Joined, Snaps, GateSnaps, Started, Opens as OpensTag, Releases, Numbers, OpensFile, LastJoined, Ended, EntersGate, LeavesGate, EntersRecycled, LeavesRecycled}
use Rattle.run_laws.proofs.Meeting.{IsRequest, LoadsAt}
use Rattle.run_laws.proofs.Named.{named_begun, named_put_other, same_equal}
use Rattle.run_laws.proofs.Settling.{AllReady, turn_happens, turned_there}
use Rattle.run_laws.proofs.Trees.{IsPut, found_put, found_else}
use Rattle.run_laws.proofs.Turns.{Readies, Stays, Back, readies, ready_name, Turned}
use Rattle.run_notes.specs.Doers.{doer_of}
use Rattle.run_notes.specs.Items.{with_label, last_label, makings_after}
use Rattle.run_notes.specs.declared.items.Makings.{Makings}
use Rattle.run_notes.specs.declared.items.Origin.{Origin}
use Rattle.run_log.specs.NamedNotes.{BeginsAt, IsFileOf}
use Rattle.run_log.proofs.KnownItems.{IsMade, HasPath, IsComing, Knows}
use Rattle.run_log.proofs.Suiting.{asked_suits}

-- ---- what an event makes

-- no stream is opened
abbrev pub OpensNoStream : Event → Type 0
OpensNoStream (event.Fd fd (stream_ask.Open k bytes) r) = ⊥
OpensNoStream e = Unit {0}

-- by its actor: nothing, a tag, or a file
pub data Makes (i : Image) (b : ActorState) (m : Makings) (e : Event) (n : Makings) : Type 0 where
  MakesNone : n ≡ m → tag_of_call b.phase ≡ None → OpensNoStream e → Makes i b m e n
  MakesTag : (slot tag pages : ℕ) → b.phase ≡ phase.Opening slot tag → OpensNoStream e → e ≡ event.Slot slot (slot_ask.Open tag pages) slot_reply.Opened → n ≡ record m { tags = with m.tags tag (record { compartment = b.compartment; pc = b.hart.pc }) } → Makes i b m e n
  MakesFile : (fd : ℕ) (o : FileOpening) → b.phase ≡ phase.OpeningFile o → IsFileOf i o.path → e ≡ event.Fd fd (stream_ask.Open o.kind o.bytes) stream_reply.Opened → n ≡ record m { files = with m.files fd o.path } → Makes i b m e n

request_makes : (i : Image) (c : Cells) (b : ActorState) (m : Makings) (N : ℕ → Type 0) (q : Want) (labels : List StreamLabel) → IsRequest N b q → tag_of_call b.phase ≡ None → Makes i b m (event_for c b q) (makings_after m (doer_of b) labels (event_for c b q))
request_makes i c b m N (want.Slots q) labels own none = MakesNone refl none tt
request_makes i c b m N (want.Slot slot (slot_want.Close tag)) labels own none = MakesNone refl none tt
request_makes i c b m N (want.Slot slot (slot_want.Load offset width)) labels own none = MakesNone refl none tt
request_makes i c b m N (want.Slot slot (slot_want.Store offset width value)) labels own none = MakesNone refl none tt
request_makes i c b m N (want.Slot slot (slot_want.Smalloc tag size)) labels own none = MakesNone refl none tt
request_makes i c b m N (want.Slot slot (slot_want.Sfree offset)) labels own none = MakesNone refl none tt
request_makes i c b m N (want.Slot slot (slot_want.Open tag pages)) labels own none = absurd own
request_makes i c b m N (want.Slot slot (slot_want.Snap tag)) labels own none = absurd own
request_makes i c b m N (want.Fd fd (stream_ask.Open k bytes)) labels own none = absurd own
request_makes i c b m N (want.Fd fd (stream_ask.Read bits count)) labels own none = MakesNone refl none tt
request_makes i c b m N (want.Fd fd (stream_ask.Append bits bytes)) labels own none = MakesNone refl none tt
request_makes i c b m N (want.Fd fd (stream_ask.Close bits)) labels own none = MakesNone refl none tt
request_makes i c b m N (want.Lives q) labels own none = MakesNone refl none tt
request_makes i c b m N q labels own none = absurd own

found_any : (fs : List FileEntry) (path : List ℕ) (f : FileEntry) → find (λ g. same g.path path) fs ≡ Some f → list_any (λ g. same g.path path) fs ≡ true
found_any [] path f e = absurd cc
found_any (g ∷ gs) path f e = by_path (same g.path path) e (found_any gs path f)
  where
    by_path : (t : Bool) → (if t then Some g else find (λ h. same h.path path) gs) ≡ Some f → (find (λ h. same h.path path) gs ≡ Some f → list_any (λ h. same h.path path) gs ≡ true) → (t || list_any (λ h. same h.path path) gs) ≡ true
    by_path true h others = refl
    by_path false h others = others h

get_last : (xs : List StreamLabel) (l : StreamLabel) → slice_get (xs ++ l ∷ []) (length xs) ≡ Some l
get_last [] l = refl
get_last (x ∷ xs) l = get_last xs l

length_push : (xs : List StreamLabel) (l : StreamLabel) → length (xs ++ l ∷ []) ≡ length xs + 1
length_push [] l = refl
length_push (x ∷ xs) l = (let h = length_push xs l in omega (arith, h))

last_pushed : (xs : List StreamLabel) (l : StreamLabel) → last_label (xs ++ l ∷ []) ≡ Some l
last_pushed xs l =
    let h = length_push xs l in
    let same_index : length (xs ++ l ∷ []) - 1 ≡ length xs = omega (arith, h) in
    ap (slice_get (xs ++ l ∷ [])) same_index ∙ get_last xs l

-- the path under which a file is opened is known
file_makes : (i : Image) (b : ActorState) (m : Makings) (o : FileOpening) (fd : ℕ) → b.phase ≡ phase.OpeningFile o → IsFileOf i o.path
    → Makes i b m (event.Fd fd (stream_ask.Open o.kind o.bytes) stream_reply.Opened)
    (makings_after m (doer_of b) (takes i b (event.Fd fd (stream_ask.Open o.kind o.bytes) stream_reply.Opened)).labels (event.Fd fd (stream_ask.Open o.kind o.bytes) stream_reply.Opened))
file_makes i b m o fd at_ file =
    let x = takes i b (event.Fd fd (stream_ask.Open o.kind o.bytes) stream_reply.Opened) in
    let l : StreamLabel = record { number = fd; path = o.path } in
    let labels : x.labels ≡ b.labels ++ l ∷ [] = ap (λ (y : ActorState). y.labels) (opened_at i b o fd (stream_ask.Open o.kind o.bytes) at_) in
    let last : last_label x.labels ≡ Some l = ap last_label labels ∙ last_pushed b.labels l in
    MakesFile fd o at_ file refl (ap (λ q. record m { files = with_label m.files fd q }) last)

pub event_makes : (w : WorldState) (b : ActorState) (e : Event) (m : Makings) → Happens w b e → Makes w.image b m e (makings_after m (doer_of b) (takes w.image b e).labels e)
event_makes w b e m h = by_case h
  where
    by_case : Happens w b e → Makes w.image b m e (makings_after m (doer_of b) (takes w.image b e).labels e)
    by_case (Requested r) = subst (λ y. Makes w.image b m y (makings_after m (doer_of b) (takes w.image b y).labels y)) (sym r.is) (request_makes w.image w.cells b m (LoadsAt w.image b.hart r.rd r.is_signed) r.want (takes w.image b (event_for w.cells b r.want)).labels r.own (ap tag_of_call r.at))
    by_case (Joined j) = subst (λ y. Makes w.image b m y (makings_after m (doer_of b) (takes w.image b y).labels y)) (sym j.join.is) (MakesNone refl (ap tag_of_call j.at) tt)
    by_case (Snaps s) = subst (λ y. Makes w.image b m y (makings_after m (doer_of b) (takes w.image b y).labels y)) (sym s.is) (MakesNone refl (ap tag_of_call s.at) tt)
    by_case (GateSnaps s) = subst (λ y. Makes w.image b m y (makings_after m (doer_of b) (takes w.image b y).labels y)) (sym s.is) (MakesNone refl (ap tag_of_call s.at) tt)
    by_case (Started s) = subst (λ y. Makes w.image b m y (makings_after m (doer_of b) (takes w.image b y).labels y)) (sym s.is) (MakesNone refl (ap tag_of_call s.at) tt)
    by_case (OpensTag o) = subst (λ y. Makes w.image b m y (makings_after m (doer_of b) (takes w.image b y).labels y)) (sym o.is) (MakesTag o.slot o.tag (a0 b) o.at tt refl refl)
    by_case (Releases r) = subst (λ y. Makes w.image b m y (makings_after m (doer_of b) (takes w.image b y).labels y)) (sym r.is) (MakesNone refl (ap tag_of_call r.at) tt)
    by_case (Numbers n) = subst (λ y. Makes w.image b m y (makings_after m (doer_of b) (takes w.image b y).labels y)) (sym n.is) (MakesNone refl (ap tag_of_call n.at) tt)
    by_case (OpensFile f) =
        let told = asked_suits w.image w.cells b (Opens f.opens.path f.opens.file f.opens.bits) (f.opens.told w.cells) in
        let path : f.opening.path ≡ f.opens.path = ap (λ (o : FileOpening). o.path) f.opens.is in
        let file : IsFileOf w.image f.opening.path = subst (IsFileOf w.image) (sym path) (found_any w.image.files f.opens.path f.opens.file told) in
        subst (λ y. Makes w.image b m y (makings_after m (doer_of b) (takes w.image b y).labels y)) (sym f.is) (file_makes w.image b m f.opening f.fd f.at file)
    by_case (LastJoined j) = subst (λ y. Makes w.image b m y (makings_after m (doer_of b) (takes w.image b y).labels y)) (sym j.join.is) (MakesNone refl (ap tag_of_call j.at) tt)
    by_case (Ended x) = subst (λ y. Makes w.image b m y (makings_after m (doer_of b) (takes w.image b y).labels y)) (sym x.is) (MakesNone refl (ap tag_of_call x.at) tt)
    by_case (EntersGate x) = subst (λ y. Makes w.image b m y (makings_after m (doer_of b) (takes w.image b y).labels y)) (sym x.is) (MakesNone refl (ap tag_of_call x.at) tt)
    by_case (EntersRecycled x) = subst (λ y. Makes w.image b m y (makings_after m (doer_of b) (takes w.image b y).labels y)) (sym x.is) (MakesNone refl (ap tag_of_call x.at) tt)
    by_case (LeavesGate l) = subst (λ y. Makes w.image b m y (makings_after m (doer_of b) (takes w.image b y).labels y)) (sym l.is) (MakesNone refl (ap tag_of_call l.at) tt)
    by_case (LeavesRecycled l) = subst (λ y. Makes w.image b m y (makings_after m (doer_of b) (takes w.image b y).labels y)) (sym l.is) (MakesNone refl (ap tag_of_call l.at) tt)

-- ---- what is kept under a number

same_or : {X : Type 0} (m : Map X) (k : ℕ) (v : X) (n : ℕ) (x : X) → at (with m k v) n ≡ Some x → (x ≡ v) ⊎ (at m n ≡ Some x)
same_or m k v n x e = by_key (n == k) refl
  where
    by_key : (t : Bool) → (n == k) ≡ t → (x ≡ v) ⊎ (at m n ≡ Some x)
    by_key true is =
        let same_key : n ≡ k = eqb-true n k is in
        let both : Some v ≡ Some x = sym (with_same m k v) ∙ (ap (at (with m k v)) (sym same_key) ∙ e) in
        let same_value : v ≡ x = cc in
        inl (sym same_value)
    by_key false is = inr (sym (with_other m k v n (λ same_key. true≢false (sym (itself n) ∙ (ap (λ j. n == j) same_key ∙ is)))) ∙ e)
      where
        itself : (j : ℕ) → (j == j) ≡ true
        itself j = grind arith

still_there : {X : Type 0} (m : Map X) (k : ℕ) (v : X) (n : ℕ) → (x : X) × (at m n ≡ Some x) → (x : X) × (at (with m k v) n ≡ Some x)
still_there {X = X} m k v n there = by_key (n == k) refl
  where
    itself : (j : ℕ) → (j == j) ≡ true
    itself j = grind arith

    by_key : (t : Bool) → (n == k) ≡ t → (x : X) × (at (with m k v) n ≡ Some x)
    by_key true is = (v, ap (at (with m k v)) (eqb-true n k is) ∙ with_same m k v)
    by_key false is = (there.0, with_other m k v n (λ same_key. true≢false (sym (itself n) ∙ (ap (λ j. n == j) same_key ∙ is))) ∙ there.1)

-- what is known stays known
pub keeps_made : (i : Image) (b : ActorState) (m : Makings) (e : Event) (n : Makings) (tag : ℕ) → Makes i b m e n → IsMade m tag → IsMade n tag
keeps_made i b m e n tag (MakesNone is none quiet) made = subst (λ x. IsMade x tag) (sym is) made
keeps_made i b m e n tag (MakesTag slot t pages at_ quiet is_event is) made = subst (λ x. IsMade x tag) (sym is) (still_there m.tags t (record { compartment = b.compartment; pc = b.hart.pc }) tag made)
keeps_made i b m e n tag (MakesFile fd o at_ file is_event is) made = subst (λ x. IsMade x tag) (sym is) made

pub keeps_path : (i : Image) (b : ActorState) (m : Makings) (e : Event) (n : Makings) (fd : ℕ) → Makes i b m e n → HasPath m fd → HasPath n fd
keeps_path i b m e n fd (MakesNone is none quiet) has_path = subst (λ x. HasPath x fd) (sym is) has_path
keeps_path i b m e n fd (MakesTag slot t pages at_ quiet is_event is) has_path = subst (λ x. HasPath x fd) (sym is) has_path
keeps_path i b m e n fd (MakesFile f o at_ file is_event is) has_path = subst (λ x. HasPath x fd) (sym is) (still_there m.files f o.path fd has_path)

next_origins : (i : Image) (b : ActorState) (m : Makings) (e : Event) (n : Makings) → Makes i b m e n → BeginsAt i b.compartment → ((t : ℕ) (o : Origin) → at m.tags t ≡ Some o → BeginsAt i o.compartment)
    → (t : ℕ) (o : Origin) → at n.tags t ≡ Some o → BeginsAt i o.compartment
next_origins i b m e n (MakesNone is none quiet) own old t o there = old t o (subst (λ (x : Makings). at x.tags t ≡ Some o) is there)
next_origins i b m e n (MakesFile fd opening at_ file is_event is) own old t o there = old t o (subst (λ (x : Makings). at x.tags t ≡ Some o) is there)
next_origins i b m e n (MakesTag slot tag pages at_ quiet is_event is) own old t o there =
    elim (same_or m.tags tag (record { compartment = b.compartment; pc = b.hart.pc }) t o (subst (λ (x : Makings). at x.tags t ≡ Some o) is there)) [
      | inl new ↦ subst (λ (x : Origin). BeginsAt i x.compartment) (sym new) own
      | inr before ↦ old t o before
    ]

next_paths : (i : Image) (b : ActorState) (m : Makings) (e : Event) (n : Makings) → Makes i b m e n → ((fd : ℕ) (path : List ℕ) → at m.files fd ≡ Some path → IsFileOf i path)
    → (fd : ℕ) (path : List ℕ) → at n.files fd ≡ Some path → IsFileOf i path
next_paths i b m e n (MakesNone is none quiet) old fd path there = old fd path (subst (λ (x : Makings). at x.files fd ≡ Some path) is there)
next_paths i b m e n (MakesTag slot tag pages at_ quiet is_event is) old fd path there = old fd path (subst (λ (x : Makings). at x.files fd ≡ Some path) is there)
next_paths i b m e n (MakesFile f o at_ file is_event is) old fd path there =
    elim (same_or m.files f o.path fd path (subst (λ (x : Makings). at x.files fd ≡ Some path) is there)) [
      | inl new ↦ subst (IsFileOf i) (sym new) file
      | inr before ↦ old fd path before
    ]

-- ---- streams

-- an event that opens none leaves streams where there were some
closed_had : (old : Option StreamMode) (k : StreamMode) (r : StreamReply) (bits : _) → mode_by old (stream_ask.Close bits) r ≡ Some k → (x : StreamMode) × (old ≡ Some x)
closed_had None k stream_reply.Closed bits e = absurd cc
closed_had (Some x) k stream_reply.Closed bits e = (x, refl)
closed_had old k r bits e = (k, e)

asked_had : (old : Option StreamMode) (k : StreamMode) (fd : ℕ) (q : StreamAsk) (r : StreamReply) → OpensNoStream (event.Fd fd q r) → mode_by old q r ≡ Some k → (x : StreamMode) × (old ≡ Some x)
asked_had old k fd (stream_ask.Open kind bytes) r quiet e = absurd quiet
asked_had old k fd (stream_ask.Close bits) r quiet e = closed_had old k r bits e
asked_had old k fd (stream_ask.Read bits count) r quiet e = (k, e)
asked_had old k fd (stream_ask.Append bits bytes) r quiet e = (k, e)

had_stream : (fd : ℕ) (old : Option StreamMode) (k : StreamMode) (e : Event) → OpensNoStream e → mode_after_event fd old e ≡ Some k → (x : StreamMode) × (old ≡ Some x)
had_stream fd old k (event.Fd n q r) quiet is = by_fd (n == fd) is
  where
    by_fd : (t : Bool) → (if t then mode_by old q r else old) ≡ Some k → (x : StreamMode) × (old ≡ Some x)
    by_fd true is = asked_had old k n q r quiet is
    by_fd false is = (k, is)
had_stream fd old k e quiet is = (k, is)

next_streams : (i : Image) (b : ActorState) (m : Makings) (e : Event) (n : Makings) (fd : ℕ) (old : Option StreamMode) (k : StreamMode) → Makes i b m e n
    → ((x : StreamMode) → old ≡ Some x → (fd < length i.fds) ⊎ HasPath m fd) → mode_after_event fd old e ≡ Some k → (fd < length i.fds) ⊎ HasPath n fd
next_streams i b m e n fd old k makes known is = by_case makes
  where
    keeps : (fd < length i.fds) ⊎ HasPath m fd → (fd < length i.fds) ⊎ HasPath n fd
    keeps (inl below) = inl below
    keeps (inr has_path) = inr (keeps_path i b m e n fd makes has_path)

    by_case : Makes i b m e n → (fd < length i.fds) ⊎ HasPath n fd
    by_case (MakesNone same_makings none quiet) = (let h = had_stream fd old k e quiet is in keeps (known h.0 h.1))
    by_case (MakesTag slot tag pages at_ quiet is_event same_makings) = (let h = had_stream fd old k e quiet is in keeps (known h.0 h.1))
    by_case (MakesFile f o at_ file is_event same_makings) = by_fd (f == fd) refl (subst (λ y. mode_after_event fd old y ≡ Some k) is_event is)
      where
        by_fd : (t : Bool) → (f == fd) ≡ t → (if t then Some (mode o.kind true) else old) ≡ Some k → (fd < length i.fds) ⊎ HasPath n fd
        by_fd true same_fd h =
            let there : at (with m.files f o.path) fd ≡ Some o.path = ap (at (with m.files f o.path)) (sym (eqb-true f fd same_fd)) ∙ with_same m.files f o.path in
            inr (subst (λ (x : Makings). HasPath x fd) (sym same_makings) (o.path, there))
        by_fd false apart h = keeps (known k h)

-- ---- tags

-- a number of a tag was given out before, or is given out by this event
release_stays : (d : Directory) (place : ℕ) → (if is_claimed d place then record d { released = place ∷ d.released } else d).number ≡ d.number
release_stays d place = by_test (is_claimed d place)
  where
    by_test : (t : Bool) → (if t then record d { released = place ∷ d.released } else d).number ≡ d.number
    by_test true = refl
    by_test false = refl

abbrev GivenBy : Event → ℕ → Type 0
GivenBy e tag = (slot : ℕ) × (e ≡ event.Slots directory_ask.Claim (directory_reply.Claimed slot tag))

claim_gives : (d : Directory) (o : Option Claim) (tag : ℕ) → claim d ≡ o → tag < (claim_next d o).number → (tag < d.number) ⊎ GivenBy (event.Slots directory_ask.Claim (claim_reply d o)) tag
claim_gives d None tag is lt = inl lt
claim_gives d (Some c) tag is lt = by_number (tag == d.number) refl
  where
    below : (t n l : ℕ) → l ≡ n + 1 → t < l → (t == n) ≡ false → t < n
    below t n l up lt apart = grind (arith, up, lt, apart)

    by_number : (t : Bool) → (tag == d.number) ≡ t → (tag < d.number) ⊎ GivenBy (event.Slots directory_ask.Claim (directory_reply.Claimed c.place d.number)) tag
    by_number true same_number = inr (c.place, ap (λ n. event.Slots directory_ask.Claim (directory_reply.Claimed c.place n)) (sym (eqb-true tag d.number same_number)))
    by_number false apart = inl (below tag d.number c.left.number (claimed_rises d c is) lt apart)

request_gives : (c : Cells) (b : ActorState) (N : ℕ → Type 0) (q : Want) (tag : ℕ) → IsRequest N b q → tag < (places_after_event c.places (event_for c b q)).number → (tag < c.places.number) ⊎ GivenBy (event_for c b q) tag
request_gives c b N (want.Slots directory_ask.Claim) tag own lt = claim_gives c.places (claim c.places) tag refl lt
request_gives c b N (want.Slots (directory_ask.Release place)) tag own lt = absurd own
request_gives c b N (want.Slot slot q) tag own lt = inl lt
request_gives c b N (want.Fd fd q) tag own lt = inl lt
request_gives c b N (want.Lives q) tag own lt = inl lt
request_gives c b N q tag own lt = absurd own

gives : (w : WorldState) (b : ActorState) (e : Event) (tag : ℕ) → Happens w b e → tag < (places_after_event w.cells.places e).number → (tag < w.cells.places.number) ⊎ GivenBy e tag
gives w b e tag (Requested r) lt = subst (λ y. (tag < w.cells.places.number) ⊎ GivenBy y tag) (sym r.is) (request_gives w.cells b _ r.want tag r.own (subst (λ y. tag < (places_after_event w.cells.places y).number) r.is lt))
gives w b e tag (Joined j) lt = inl (subst (λ y. tag < (places_after_event w.cells.places y).number) j.join.is lt)
gives w b e tag (Snaps s) lt = inl (subst (λ y. tag < (places_after_event w.cells.places y).number) s.is lt)
gives w b e tag (GateSnaps s) lt = inl (subst (λ y. tag < (places_after_event w.cells.places y).number) s.is lt)
gives w b e tag (Started s) lt = inl (subst (λ y. tag < (places_after_event w.cells.places y).number) s.is lt)
gives w b e tag (OpensTag o) lt = inl (subst (λ y. tag < (places_after_event w.cells.places y).number) o.is lt)
gives w b e tag (Releases r) lt = inl (subst (λ n. tag < n) (release_stays w.cells.places r.slot) (subst (λ y. tag < (places_after_event w.cells.places y).number) r.is lt))
gives w b e tag (Numbers n) lt = inl (subst (λ y. tag < (places_after_event w.cells.places y).number) n.is lt)
gives w b e tag (OpensFile f) lt = inl (subst (λ y. tag < (places_after_event w.cells.places y).number) f.is lt)
gives w b e tag (LastJoined j) lt = inl (subst (λ y. tag < (places_after_event w.cells.places y).number) j.join.is lt)
gives w b e tag (Ended x) lt = inl (subst (λ y. tag < (places_after_event w.cells.places y).number) x.is lt)
gives w b e tag (EntersGate x) lt = inl (subst (λ y. tag < (places_after_event w.cells.places y).number) x.is lt)
gives w b e tag (EntersRecycled x) lt = inl (subst (λ y. tag < (places_after_event w.cells.places y).number) x.is lt)
gives w b e tag (LeavesGate l) lt = inl (subst (λ y. tag < (places_after_event w.cells.places y).number) l.is lt)
gives w b e tag (LeavesRecycled l) lt = inl (subst (λ y. tag < (places_after_event w.cells.places y).number) l.is lt)

-- who is given a number is about to open the tag
given_called : (i : Image) (b : ActorState) (slot tag : ℕ) → tag_of_call (takes i b (event.Slots directory_ask.Claim (directory_reply.Claimed slot tag))).phase ≡ Some tag
unfolding takes
given_called i b slot tag = refl

-- an actor that is about to open a tag is so still as it comes to its event
opening_of : (p : Phase) (tag : ℕ) → tag_of_call p ≡ Some tag → (slot : ℕ) × (p ≡ phase.Opening slot tag)
opening_of (phase.Opening slot t) tag e = let same_tag : t ≡ tag = cc in (slot, ap (phase.Opening slot) same_tag)
opening_of phase.Running tag e = absurd cc
opening_of (phase.Within q) tag e = absurd cc
opening_of (phase.Starting p) tag e = absurd cc
opening_of (phase.MakingGate p) tag e = absurd cc
opening_of (phase.Releasing slot) tag e = absurd cc
opening_of (phase.Entering x) tag e = absurd cc
opening_of (phase.Waiting k) tag e = absurd cc
opening_of (phase.OpeningFile o) tag e = absurd cc
opening_of (phase.Ending x) tag e = absurd cc
opening_of (phase.Ended x) tag e = absurd cc

called_ready : (actors : List ActorState) (a : ActorState) (tag : ℕ) → tag_of_call a.phase ≡ Some tag → ready actors a ≡ a
called_ready actors a tag called = by_case (readies actors a)
  where
    by_case : Readies actors a → ready actors a ≡ a
    by_case (Stays is) = is
    by_case (Back k at_ r is) = let f : None ≡ Some tag = sym (ap tag_of_call at_) ∙ called in absurd cc

called_at_rest : (i : Image) (a : ActorState) (tag : ℕ) → tag_of_call a.phase ≡ Some tag → tag_of_call (rest i a).phase ≡ Some tag
called_at_rest i a tag called =
    let o = opening_of a.phase tag called in
    ap (λ (x : ActorState). tag_of_call x.phase) (rest-stays i a (ap is_running o.1)) ∙ called

-- it opens it, and so makes it
called_makes : (i : Image) (b : ActorState) (m : Makings) (e : Event) (n : Makings) (tag : ℕ) → Makes i b m e n → tag_of_call b.phase ≡ Some tag → IsMade n tag
called_makes i b m e n tag (MakesNone is none quiet) called = let f : None ≡ Some tag = sym none ∙ called in absurd cc
called_makes i b m e n tag (MakesFile fd o at_ file is_event is) called = let f : None ≡ Some tag = sym (ap tag_of_call at_) ∙ called in absurd cc
called_makes i b m e n tag (MakesTag slot t pages at_ quiet is_event is) called =
    let o : Origin = record { compartment = b.compartment; pc = b.hart.pc } in
    let both : Some t ≡ Some tag = sym (ap tag_of_call at_) ∙ called in
    let same_tag : t ≡ tag = cc in
    subst (λ (x : Makings). IsMade x tag) (sym is) (o, ap (at (with m.tags t o)) (sym same_tag) ∙ with_same m.tags t o)

-- ---- a turn

abbrev pub makings_of_turn : Image → Makings → ActorState → Event → Makings
makings_of_turn i m b e = makings_after m (doer_of b) (takes i b e).labels e

pub turn_knows : (w : WorldState) (name : List ℕ) (e : Event) (new : WorldState) (m : Makings) → AllReady w → turn_of w name ≡ Some (record { event = e; world = new }) → (p : Turned w name e new)
    → BeginsAt w.image (rest w.image p.parts.actor).compartment → Knows w.image w.cells w.actors m → Knows w.image new.cells new.actors (makings_of_turn w.image m (rest w.image p.parts.actor) e)
turn_knows w name e new m all turn p own k = record { tags = tags; origins = next_origins w.image b m e n makes own k.origins; streams = streams; paths = next_paths w.image b m e n makes k.paths }
  where
    v : WorldState
    v = resumed w p.actor

    a : ActorState
    a = p.parts.actor

    b : ActorState
    b = rest w.image a

    x : ActorState
    x = takes w.image b e

    n : Makings
    n = makings_of_turn w.image m b e

    happens : Happens v b e
    happens = turn_happens w name e new all p

    makes : Makes w.image b m e n
    makes = event_makes v b e m happens

    put : IsPut v.actors a x
    put = record { name = takes_name w.image b e ∙ rest-name w.image a; there = turned_there v name a p.parts.named }

    -- whoever is found once the doer is put is found after the turn
    found : (j : List ℕ) (y : ActorState) → actor_named (put_actor v.actors x) j ≡ Some y → actor_named new.actors j ≡ Some y
    found j y there = ap (λ (u : WorldState). actor_named u.actors j) p.parts.new_is ∙ named_begun (put_actor v.actors x) (actor_begun w.image b e) j y there

    by_given : (tag : ℕ) → GivenBy e tag → IsComing new.actors tag
    by_given tag given = record {
      name = a.name;
      actor = x;
      there = found a.name x (found_put v.actors a x put);
      called = subst (λ y. tag_of_call (takes w.image b y).phase ≡ Some tag) (sym given.1) (given_called w.image b given.0 tag);
    }

    by_coming : (tag : ℕ) (c : IsComing w.actors tag) (t : Bool) → same p.actor.name c.name ≡ t → IsMade n tag ⊎ IsComing new.actors tag
    by_coming tag c true is =
        let named : actor_named w.actors c.name ≡ Some p.actor = ap (actor_named w.actors) (sym (same_equal p.actor.name c.name is)) ∙ turned_there w name p.actor p.named in
        let both : Some c.actor ≡ Some p.actor = sym c.there ∙ named in
        let one : c.actor ≡ p.actor = cc in
        let called : tag_of_call p.actor.phase ≡ Some tag = subst (λ (y : ActorState). tag_of_call y.phase ≡ Some tag) one c.called in
        let goes : a ≡ p.actor = p.is ∙ called_ready w.actors p.actor tag called in
        inl (called_makes w.image b m e n tag makes (called_at_rest w.image a tag (subst (λ (y : ActorState). tag_of_call y.phase ≡ Some tag) (sym goes) called)))
    by_coming tag c false apart =
        let other : same (ready w.actors p.actor).name c.name ≡ false = ap (λ q. same q c.name) (ready_name w.actors p.actor) ∙ apart in
        let goes : actor_named v.actors c.name ≡ Some c.actor = named_put_other w.actors (ready w.actors p.actor) c.name other ∙ c.there in
        let other_too : same a.name c.name ≡ false = ap (λ (y : ActorState). same y.name c.name) p.is ∙ other in
        inr (record { name = c.name; actor = c.actor; there = found c.name c.actor (found_else v.actors a x c.name put other_too ∙ goes); called = c.called })

    tags : (tag : ℕ) → length w.image.tags ≤ tag → tag < new.cells.places.number → IsMade n tag ⊎ IsComing new.actors tag
    tags tag above given =
        let changed = turn_changes w (record { actor = name; event = e }) new all turn in
        elim (gives v b e tag happens (subst (λ (d : Directory). tag < d.number) changed.places given)) [
          | inl before ↦ elim (k.tags tag above before) [
            | inl made ↦ inl (keeps_made w.image b m e n tag makes made)
            | inr coming ↦ by_coming tag coming (same p.actor.name coming.name) refl
          ]
          | inr now ↦ inr (by_given tag now)
        ]

    streams : (fd : ℕ) (s : StreamMode) → mode_in new.cells fd ≡ Some s → (fd < length w.image.fds) ⊎ HasPath n fd
    streams fd s is =
        let changed = turn_changes w (record { actor = name; event = e }) new all turn in
        next_streams w.image b m e n fd (mode_in w.cells fd) s makes (λ y h. k.streams fd y h) (sym (changed.modes fd) ∙ is)
