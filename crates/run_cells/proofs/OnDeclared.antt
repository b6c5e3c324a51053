-- Entries on the slots of declared tags, as logs grow.
use Rattle.std.proofs.Common.{◌≡◌, ℕ, zero, suc, ◌+◌, ◌<◌, ◌≤◌, nat_lt, Bool, true, false, if◌then◌else◌, List, [], ◌∷◌, ◌++◌, length, map, Option, Some, None, IsSomeAnd, Result, Ok, Err, IfOk, OnErr, refl, sym, ap, subst, ◌∙◌, arith}
use Rattle.std.proofs.lemmas.Bool.Decides.{nat_tests}
use Rattle.std.proofs.lemmas.List.{append-nil, append_assoc}
use Rattle.wedge_base.specs.Images.{Image}
use Rattle.wedge_base.specs.declared.errors.NoMemory.{NoMemory}
use Rattle.wedge_events.specs.declared.events.CellName.TheVariants as cell
use Rattle.wedge_events.specs.declared.events.Event.{Event}
use Rattle.wedge_events.specs.declared.events.Event.TheVariants as event
use Rattle.wedge_events.specs.declared.events.LogEntry.{LogEntry}
use Rattle.wedge_events.specs.Journals.{cell_of}
use Rattle.machine.specs.Take.{actor_begun}
use Rattle.thread_laws.specs.Joining.{all_logged}
use Rattle.thread_laws.specs.declared.gathered.ActorLog.{ActorLog}
use Rattle.thread_laws.specs.KeptEntries.{is_on_declared}
use Rattle.tag_laws.specs.DeclaredTags.{entries_on_declared}
use Rattle.thread_laws.specs.ActorProgresses.{ActorProgress}
use Rattle.run_cells.specs.Entries.{IsOnSlot, IsOnNoSlot, IsCreatingEntry, IsNextActor}
use Rattle.run_cells.specs.TagPasses.{all_entered}

pub declared_append : (n : ℕ) (xs ys : List LogEntry) → entries_on_declared n (xs ++ ys) ≡ entries_on_declared n xs ++ entries_on_declared n ys
declared_append n [] ys = refl
declared_append n (e ∷ xs) ys = by_test (is_on_declared n e.event) (declared_append n xs ys)
  where
    by_test : (t : Bool) → entries_on_declared n (xs ++ ys) ≡ entries_on_declared n xs ++ entries_on_declared n ys
        → (if t then e ∷ entries_on_declared n (xs ++ ys) else entries_on_declared n (xs ++ ys)) ≡ (if t then e ∷ entries_on_declared n xs else entries_on_declared n xs) ++ entries_on_declared n ys
    by_test true h = ap (λ zs. e ∷ zs) h
    by_test false h = h

-- ---- one entry

tested : (n : ℕ) (e : LogEntry) (t : Bool) → is_on_declared n e.event ≡ t → entries_on_declared n (e ∷ []) ≡ (if t then e ∷ [] else [])
tested n e t is = ap (λ u. if u then e ∷ [] else []) is

on_slot : (n slot : ℕ) (v : Event) → cell_of v ≡ Some (cell.Slot slot) → is_on_declared n v ≡ nat_lt slot n
on_slot n slot (event.Slot s q r) is = let same : s ≡ slot = cc in ap (λ m. nat_lt m n) same
on_slot n slot (event.Slots q r) is = absurd cc
on_slot n slot (event.Fds q r) is = absurd cc
on_slot n slot (event.Fd fd q r) is = absurd cc
on_slot n slot (event.Lives q r) is = absurd cc
on_slot n slot (event.Gate id q r) is = absurd cc
on_slot n slot (event.Start c) is = absurd cc
on_slot n slot (event.Join c how fuel) is = absurd cc
on_slot n slot (event.Enter run) is = absurd cc
on_slot n slot (event.Leave how) is = absurd cc

is_below : (slot n : ℕ) → slot < n → nat_lt slot n ≡ true
is_below slot n h = grind (arith, nat_tests, h)

is_not_below : (slot n : ℕ) → n ≤ slot → nat_lt slot n ≡ false
is_not_below slot n h = grind (arith, nat_tests, h)

pub declared_one : (n slot : ℕ) (e : LogEntry) → IsOnSlot slot e → slot < n → entries_on_declared n (e ∷ []) ≡ e ∷ []
declared_one n slot e is h = tested n e true (on_slot n slot e.event is ∙ is_below slot n h)

pub declared_not : (n slot : ℕ) (e : LogEntry) → IsOnSlot slot e → n ≤ slot → entries_on_declared n (e ∷ []) ≡ []
declared_not n slot e is h = tested n e false (on_slot n slot e.event is ∙ is_not_below slot n h)

on_none : (n : ℕ) (v : Event) → ((slot : ℕ) → cell_of v ≡ Some (cell.Slot slot) → ⊥) → is_on_declared n v ≡ false
on_none n (event.Slot s q r) h = absurd (h s refl)
on_none n (event.Slots q r) h = refl
on_none n (event.Fds q r) h = refl
on_none n (event.Fd fd q r) h = refl
on_none n (event.Lives q r) h = refl
on_none n (event.Gate id q r) h = refl
on_none n (event.Start c) h = refl
on_none n (event.Join c how fuel) h = refl
on_none n (event.Enter run) h = refl
on_none n (event.Leave how) h = refl

pub declared_none : (n : ℕ) (e : LogEntry) → IsOnNoSlot e → entries_on_declared n (e ∷ []) ≡ []
declared_none n e h = tested n e false (on_none n e.event h)

-- one more entry that is on no slot
pub none_more : (n : ℕ) (es : List LogEntry) (e : LogEntry) → IsOnNoSlot e → entries_on_declared n (es ++ e ∷ []) ≡ entries_on_declared n es
none_more n es e h = declared_append n es (e ∷ []) ∙ (ap (λ zs. entries_on_declared n es ++ zs) (declared_none n e h) ∙ append-nil (entries_on_declared n es))

-- one more entry, and what the pass has more
pub one_more : (n : ℕ) (entered now_ es : List LogEntry) (e : LogEntry) → entered ≡ entries_on_declared n es → now_ ≡ entered ++ entries_on_declared n (e ∷ []) → now_ ≡ entries_on_declared n (es ++ e ∷ [])
one_more n entered now_ es e was is = is ∙ (ap (λ zs. zs ++ entries_on_declared n (e ∷ [])) was ∙ sym (declared_append n es (e ∷ [])))

-- ---- which entries are on no slot

pub creating_on_no_slot : (i : Image) (r : ActorProgress) (e : LogEntry) → IsCreatingEntry i r e → IsOnNoSlot e
creating_on_no_slot i r e h = by_event e.event h.creates
  where
    by_event : (v : Event) → IsSomeAnd (actor_begun i r.state v) (IsNextActor r.state) → (slot : ℕ) → cell_of v ≡ Some (cell.Slot slot) → ⊥
    by_event (event.Slot s q reply) begun slot is = begun
    by_event (event.Slots q reply) begun slot is = cc
    by_event (event.Fds q reply) begun slot is = cc
    by_event (event.Fd fd q reply) begun slot is = cc
    by_event (event.Lives q reply) begun slot is = cc
    by_event (event.Gate id q reply) begun slot is = cc
    by_event (event.Start c) begun slot is = cc
    by_event (event.Join c how fuel) begun slot is = cc
    by_event (event.Enter run) begun slot is = cc
    by_event (event.Leave how) begun slot is = cc

-- ---- the lists of several passes and logs

pub all_entered_append : (xs ys : List (List LogEntry)) → all_entered (xs ++ ys) ≡ all_entered xs ++ all_entered ys
all_entered_append [] ys = refl
all_entered_append (x ∷ xs) ys = ap (λ zs. x ++ zs) (all_entered_append xs ys) ∙ sym (append_assoc x (all_entered xs) (all_entered ys))

pub all_logged_append : (xs ys : List ActorLog) → all_logged (xs ++ ys) ≡ all_logged xs ++ all_logged ys
all_logged_append [] ys = refl
all_logged_append (g ∷ xs) ys = ap (λ zs. g.entries ++ zs) (all_logged_append xs ys) ∙ sym (append_assoc g.entries (all_logged xs) (all_logged ys))

-- what one family entered is what its logs have, behind the others
pub family_more : (n : ℕ) (own before its now_ : List LogEntry) (logs its_logs : List ActorLog) → before ≡ own ++ entries_on_declared n (all_logged logs)
    → its ≡ entries_on_declared n (all_logged its_logs) → now_ ≡ before ++ its → now_ ≡ own ++ entries_on_declared n (all_logged (logs ++ its_logs))
family_more n own before its now_ logs its_logs was theirs is =
    is ∙ (ap (λ zs. zs ++ its) was ∙ (append_assoc own (entries_on_declared n (all_logged logs)) its
    ∙ ap (λ zs. own ++ zs) (ap (λ zs. entries_on_declared n (all_logged logs) ++ zs) theirs
    ∙ (sym (declared_append n (all_logged logs) (all_logged its_logs)) ∙ ap (entries_on_declared n) (sym (all_logged_append logs its_logs))))))

-- the logs of a whole family, that of its first actor first
pub whole_family : (n : ℕ) (own now_ entries : List LogEntry) (g : ActorLog) (others : List ActorLog) → own ≡ entries_on_declared n entries → g.entries ≡ entries
    → now_ ≡ own ++ entries_on_declared n (all_logged others) → now_ ≡ entries_on_declared n (all_logged (g ∷ others))
whole_family n own now_ entries g others tracked is all =
    all ∙ (ap (λ zs. zs ++ entries_on_declared n (all_logged others)) (tracked ∙ ap (entries_on_declared n) (sym is)) ∙ sym (declared_append n g.entries (all_logged others)))

-- an event that is on no slot
pub event_on_no_slot : (e : LogEntry) (v : Event) → e.event ≡ v → ((slot : ℕ) → cell_of v ≡ Some (cell.Slot slot) → ⊥) → IsOnNoSlot e
event_on_no_slot e v is h = λ slot at. h slot (sym (ap cell_of is) ∙ at)
