-- No actor of a run has more rights on what the image declares than the root: a tag that it made is none of those.
use Rattle.std.proofs.Common.{◌≡◌, ◌≢◌, ℕ, ◌+◌, ◌≤◌, ◌<◌, Bool, true, false, List, [], ◌∷◌, length, refl, sym, ap, subst, ◌∙◌, arith, inl, inr}
use Rattle.std.proofs.lemmas.Bool.Decides.{nat_tests}
use Rattle.std.specs.Cmp.{nat_cmp_total}
use Rattle.std.specs.FinMap.Entries.{find-put}
use Rattle.std.specs.Ordering.{nat_cmp, eq_by_cmp}
use Rattle.std.specs.Prelude.{Option, Some, None, is_some, option_map, unwrap_or, nat_le, nat_lt, ◌&&◌, ◌||◌, ◌⊎◌, if◌then◌else◌}
use Rattle.wedge_events.specs.declared.cells.GateReply.TheVariants as gate_reply
use Rattle.wedge_events.specs.declared.cells.GateAsk.TheVariants as gate_ask
use Rattle.wedge_base.specs.Images.{Image}
use Rattle.wedge_base.specs.Maps.{Map, at, has, with}
use Rattle.wedge_base.specs.Names.{same, root_name}
use Rattle.wedge_base.specs.Rights.{rank, at_least, no_bits, bits_within}
use Rattle.wedge_base.specs.Paths.{parts_of, is_front, under}
use Rattle.wedge_base.specs.Sheets.{Sheet, Made, nothing_made, right_on, bits_on, bits_in, either_bits}
use Rattle.wedge_base.specs.declared.rights.Right.{Right}
use Rattle.wedge_base.specs.declared.rights.Right.TheVariants as right
use Rattle.wedge_base.specs.declared.rights.FdBits.{FdBits}
use Rattle.wedge_base.specs.declared.rights.Grant.{Grant}
use Rattle.wedge_events.specs.declared.events.Event.{Event}
use Rattle.wedge_events.specs.declared.events.Event.TheVariants as event
use Rattle.wedge_events.specs.declared.events.Turn.{Turn}
use Rattle.wedge_events.specs.declared.events.Want.{Want}
use Rattle.wedge_events.specs.declared.events.Want.TheVariants as want
use Rattle.wedge_events.specs.declared.cells.DirectoryAsk.TheVariants as directory_ask
use Rattle.wedge_events.specs.declared.cells.DirectoryReply.TheVariants as directory_reply
use Rattle.wedge_events.specs.declared.cells.LivesAsk.TheVariants as lives_ask
use Rattle.wedge_events.specs.declared.cells.LivesReply.TheVariants as lives_reply
use Rattle.wedge_events.specs.declared.cells.SlotReply.TheVariants as slot_reply
use Rattle.wedge_events.specs.Directories.{Directory, Claim, no_number, claim_from, claim, claim_reply, claim_next, directory_reply as directory_reply_of, directory_next}
use Rattle.machine.specs.declared.phase.Phase.{Phase}
use Rattle.machine.specs.declared.phase.Phase.TheVariants as phase
use Rattle.machine.specs.Actors.{ActorState, root, right_of, bits_of}
use Rattle.machine.specs.Between.{IsBetween}
use Rattle.run_laws.specs.Bounds.{HasNoMoreThanRoot}
use Rattle.machine.specs.Cells.{Cells, cells_after}
use Rattle.machine.specs.Opening.{FileOpening}
use Rattle.machine.specs.Children.{child_name}
use Rattle.run_laws.specs.Families.{IsChild, IsRun, made_under, made_by}
use Rattle.machine.specs.Local.{rest}
use Rattle.machine.specs.Take.{next_start, takes, actor_begun, child_of, run_by}
use Rattle.machine.specs.Worlds.{WorldState, initial_state, actor_named, put_actor, with_begun, ready, resumed, Runs}
use Rattle.run_laws.proofs.Between.{event_for, Leaves, IsPreparing, MayPrepare, MayNumber, MayWait, takes_name, takes_between}
use Rattle.run_laws.proofs.Directing.{claimed_number, next_number}
use Rattle.run_laws.proofs.Meeting.{IsRequest}
use Rattle.run_laws.proofs.Families.{MadeBy, MadeNothing, MadeTag, MadeFd, takes_made, takes_sheet, happens_made, child_begins, run_begins}
use Rattle.run_laws.proofs.FamilyRuns.{Acts, ActsAlone, Starts, Enters, Joins, acts, one_begins, kept_at_rest}
use Rattle.run_laws.proofs.Happening.{Happens, Requested, Joined, Snaps, GateSnaps, Started, Opens, Releases, Numbers, OpensFile, LastJoined, Ended, EntersGate, LeavesGate, EntersRecycled, LeavesRecycled, happens_claim, happens_number, opens_by_claim}
use Rattle.run_laws.proofs.Named.{same_equal, same_self}
use Rattle.machine.proofs.Resting.{rest-name, rest-uncalm}
use Rattle.run_laws.proofs.Settling.{AllReady, turn_happens, turned_there}
use Rattle.run_laws.proofs.Trees.{IsPut, IsDoer, IsOther, FoundPut, find_put, found_or_last}
use Rattle.run_laws.proofs.Turns.{ready_is, ready_name, Turned, turn_from}

pub least_of : (o : Option Right) (g r : Right) → at_least o g ≡ true → at_least (Some g) r ≡ true → at_least o r ≡ true
least_of None g r e f = absurd cc
least_of (Some h) g r e f = between (rank r) (rank g) (rank h) f e
  where
    between : (l m n : ℕ) → nat_le l m ≡ true → nat_le m n ≡ true → nat_le l n ≡ true
    between l m n e f = grind (arith, nat_tests, e, f)

within_bit : (p q r : Bool) → (if p then q else true) ≡ true → (if q then r else true) ≡ true → (if p then r else true) ≡ true
within_bit true true r e f = f
within_bit true false r e f = absurd cc
within_bit false q r e f = refl

both_of : (p q : Bool) → (p && q) ≡ true → (p ≡ true) × (q ≡ true)
both_of true q e = (refl, e)
both_of false q e = absurd cc

both_are : (p q : Bool) → p ≡ true → q ≡ true → (p && q) ≡ true
both_are true q e f = f
both_are false q e f = absurd cc

pub record IsBounded (i : Image) (a : ActorState) : Type 0 where
  pub tags : (tag : ℕ) (r : Right) → tag < length i.tags → at_least (right_of a tag) r ≡ true → at_least (right_of (root i) tag) r ≡ true
  pub fds : (fd : ℕ) → fd < length i.fds → bits_within (bits_of a fd) (bits_of (root i) fd) ≡ true
  pub opens : (slot tag : ℕ) → a.phase ≡ phase.Opening slot tag → length i.tags ≤ tag
  pub files : (o : FileOpening) (fd : ℕ) → a.phase ≡ phase.OpeningFile o → o.number ≡ Some fd → length i.fds ≤ fd
  pub user : i.user ≢ 0 → (a.sheet.user ≡ i.user) × (a.sheet.root ≡ i.root)
  pub directory : under i.root a.sheet.root ≡ true

-- ---- directories

front_through : (xs ys zs : List (List ℕ)) → is_front xs ys ≡ true → is_front ys zs ≡ true → is_front xs zs ≡ true
front_through [] ys zs e f = refl
front_through (x ∷ xs) [] zs e f = absurd cc
front_through (x ∷ xs) (y ∷ ys) [] e f = absurd cc
front_through (x ∷ xs) (y ∷ ys) (z ∷ zs) e f =
    let p = both_of (same x y) (is_front xs ys) e in
    let q = both_of (same y z) (is_front ys zs) f in
    both_are (same x z) (is_front xs zs) (subst (λ m. same m z ≡ true) (sym (same_equal x y p.0)) q.0) (front_through xs ys zs p.1 q.1)

front_itself : (xs : List (List ℕ)) → is_front xs xs ≡ true
front_itself [] = refl
front_itself (x ∷ xs) = both_are (same x x) (is_front xs xs) (same_self x) (front_itself xs)

-- a sheet within one that has the root's user and directory, or is user 0, has them too
pub child_user : (i : Image) (b c : Sheet) → (c.user ≡ b.user) ⊎ (b.user ≡ 0) → (c.root ≡ b.root) ⊎ ((b.user ≡ 0) × (under b.root c.root ≡ true))
    → (i.user ≢ 0 → (b.user ≡ i.user) × (b.root ≡ i.root)) → i.user ≢ 0 → (c.user ≡ i.user) × (c.root ≡ i.root)
child_user i b c (inr zero_is) r own some = absurd (some (sym (own some).0 ∙ zero_is))
child_user i b c (inl same_user) (inr d) own some = absurd (some (sym (own some).0 ∙ d.0))
child_user i b c (inl same_user) (inl same_root) own some = (same_user ∙ (own some).0, same_root ∙ (own some).1)

pub child_directory : (top : List ℕ) (b c : Sheet) → (c.root ≡ b.root) ⊎ ((b.user ≡ 0) × (under b.root c.root ≡ true)) → under top b.root ≡ true → under top c.root ≡ true
child_directory top b c (inl same_root) own = ap (under top) same_root ∙ own
child_directory top b c (inr d) own = front_through (parts_of top) (parts_of b.root) (parts_of c.root) own d.1

pub within_bits : (x y z : FdBits) → bits_within x y ≡ true → bits_within y z ≡ true → bits_within x z ≡ true
within_bits x y z e f =
    let p = both_of _ _ e in
    let q = both_of _ _ f in
    both_are _ _ (within_bit x.read y.read z.read p.0 q.0) (within_bit x.append y.append z.append p.1 q.1)

or_nothing : (p : Bool) → (p || false) ≡ p
or_nothing true = refl
or_nothing false = refl

pub given_alone : (x : FdBits) → either_bits x no_bits ≡ x
given_alone x = ap (λ r. record { read = r; append = x.append || false }) (or_nothing x.read) ∙ ap (λ a. record { read = x.read; append = a }) (or_nothing x.append)

-- numbers that compare as equal are one
pub equal_keys : (a b : ℕ) → eq_by_cmp nat_cmp a b ≡ true → a ≡ b
equal_keys a b e = grind (arith, e)

-- what is put under a number is there, and what is under others stays
pub with_same : {X : Type 0} (m : Map X) (k : ℕ) (v : X) → at (with m k v) k ≡ Some v
with_same m k v = find-put nat_cmp nat_cmp_total k k v m ∙ ap (λ t. if t then Some v else at m k) (itself k)
  where
    itself : (n : ℕ) → eq_by_cmp nat_cmp n n ≡ true
    itself n = grind (arith)

pub with_other : {X : Type 0} (m : Map X) (k : ℕ) (v : X) (n : ℕ) → (n ≡ k → ⊥) → at (with m k v) n ≡ at m n
with_other m k v n apart = find-put nat_cmp nat_cmp_total n k v m ∙ by_key (eq_by_cmp nat_cmp n k) refl
  where
    by_key : (t : Bool) → eq_by_cmp nat_cmp n k ≡ t → (if t then Some v else at m n) ≡ at m n
    by_key true e = absurd (apart (equal_keys n k e))
    by_key false e = refl

-- a child has at most what its starter has
child_bounded : (i : Image) (b c : ActorState) → IsChild b c → IsBounded i b → IsBounded i c
child_bounded i b c child bounded = record {
  tags = λ tag r inside e. by_grant tag r inside (at c.sheet.tags tag) refl (ap (λ m. at_least (right_on c.sheet m tag) r) (sym child.fresh.0) ∙ e);
  fds = λ fd inside.
      within_bits (bits_of c fd) (bits_of b fd) (bits_of (root i) fd) (ap (λ x. bits_within x (bits_of b fd)) (ap (λ m. bits_on c.sheet m fd) child.fresh.0 ∙ given_alone (bits_in c.sheet.fds fd)) ∙ child.within.fds fd) (bounded.fds fd inside);
  opens = λ slot tag is. let f : phase.Running ≡ phase.Opening slot tag = sym child.fresh.5 ∙ is in absurd cc;
  files = λ o fd is some. let f : phase.Running ≡ phase.OpeningFile o = sym child.fresh.5 ∙ is in absurd cc;
  user = child_user i b.sheet c.sheet child.within.user child.within.root bounded.user;
  directory = child_directory i.root b.sheet c.sheet child.within.root bounded.directory;
}
  where
    by_grant : (tag : ℕ) (r : Right) → tag < length i.tags → (o : Option Grant) → at c.sheet.tags tag ≡ o → at_least (option_map (λ g. g.right) (at c.sheet.tags tag)) r ≡ true → at_least (right_of (root i) tag) r ≡ true
    by_grant tag r inside None there e = let f = ap (λ (x : Option Grant). at_least (option_map (λ g. g.right) x) r) (sym there) ∙ e in absurd cc
    by_grant tag r inside (Some g) there e =
        bounded.tags tag r inside (least_of (right_of b tag) g.right r (child.within.tags tag g there) (ap (λ (x : Option Grant). at_least (option_map (λ y. y.right) x) r) (sym there) ∙ e))

-- the run of a gate has what its sheet gives, and nothing more
run_bounded : (i : Image) (b c : ActorState) → IsRun b c → HasNoMoreThanRoot i c.sheet nothing_made → IsBounded i c
run_bounded i b c run own = record {
  tags = λ tag r inside e. own.tags tag inside r (ap (λ m. at_least (right_on c.sheet m tag) r) (sym run.fresh.0) ∙ e);
  fds = λ fd inside. ap (λ m. bits_within (bits_on c.sheet m fd) (bits_of (root i) fd)) run.fresh.0 ∙ own.fds fd inside;
  opens = λ slot tag is. let f : phase.Running ≡ phase.Opening slot tag = sym run.fresh.5 ∙ is in absurd cc;
  files = λ o fd is some. let f : phase.Running ≡ phase.OpeningFile o = sym run.fresh.5 ∙ is in absurd cc;
  user = own.user;
  directory = own.directory;
}

-- an actor at rest has the rights that it had
pub rest_bounded : (i : Image) (a : ActorState) → IsBounded i a → IsBounded i (rest i a)
rest_bounded i a bounded =
    let k = kept_at_rest i a _ refl in
    record {
      tags = λ tag r inside e. bounded.tags tag r inside (ap (λ o. at_least o r) (sym (k.sheet_ tag)) ∙ e);
      fds = λ fd inside. ap (λ b. bits_within b (bits_of (root i) fd)) (k.bits_ fd) ∙ bounded.fds fd inside;
      opens = λ slot tag is. bounded.opens slot tag (rest-uncalm i a (phase.Opening slot tag) (λ h. h) is);
      files = λ o fd is some. bounded.files o fd (rest-uncalm i a (phase.OpeningFile o) (λ h. let f : None ≡ Some fd = sym h ∙ some in cc) is) some;
      user = λ some. (ap (λ (x : Sheet). x.user) k.sheet ∙ (bounded.user some).0, ap (λ (x : Sheet). x.root) k.sheet ∙ (bounded.user some).1);
      directory = ap (λ (x : Sheet). under i.root x.root) k.sheet ∙ bounded.directory;
    }

-- what an actor has made, of the tags and of the descriptors that are declared
made_declared : (w : WorldState) (b : ActorState) (e : Event) → IsBounded w.image b → MadeBy w b e → (tag : ℕ) → tag < length w.image.tags → has (made_by b (Some e)).tags tag ≡ has b.made.tags tag
made_declared w b e bounded (MadeNothing none) tag inside = ap (λ (m : Made). has m.tags tag) none
made_declared w b e bounded (MadeTag o) tag inside =
    let from = bounded.opens o.slot o.tag o.at in
    ap (λ y. has (made_by b (Some y)).tags tag) o.is ∙ ap (λ x. is_some x) (with_other b.made.tags o.tag o.slot tag (λ same_tag. absurd (omega (arith, inside, from, same_tag))))
made_declared w b e bounded (MadeFd f) tag inside = ap (λ y. has (made_by b (Some y)).tags tag) f.is ∙ ap (λ p. has (made_under b.made p f.fd).tags tag) f.at

made_fds : (w : WorldState) (b : ActorState) (e : Event) → IsBounded w.image b → MadeBy w b e → (fd : ℕ) → fd < length w.image.fds → bits_in (made_by b (Some e)).fds fd ≡ bits_in b.made.fds fd
made_fds w b e bounded (MadeNothing none) fd inside = ap (λ (m : Made). bits_in m.fds fd) none
made_fds w b e bounded (MadeTag o) fd inside = ap (λ y. bits_in (made_by b (Some y)).fds fd) o.is
made_fds w b e bounded (MadeFd f) fd inside =
    let from = bounded.files f.opening f.fd f.at f.some in
    ap (λ y. bits_in (made_by b (Some y)).fds fd) f.is ∙ (ap (λ p. bits_in (made_under b.made p f.fd).fds fd) f.at
    ∙ ap (λ (k : Option FdBits). unwrap_or k no_bits) (with_other b.made.fds f.fd f.opening.bits fd (λ same_fd. absurd (omega (arith, inside, from, same_fd)))))

-- the numbers of descriptors that are given out are above those that are declared: none is ever released
pub record GivesAbove (n : ℕ) (d : Directory) : Type 0 where
  pub unused : n ≤ d.unused
  pub released : d.released ≡ []

claim_above : (n : ℕ) (d : Directory) (ps : List ℕ) (c : Claim) → GivesAbove n d → ps ≡ [] → claim_from d ps ≡ Some c → (n ≤ c.place) × GivesAbove n c.left
claim_above n d (p ∷ ps) c h none e = absurd cc
claim_above n d [] c h none e = by_room (nat_lt d.unused d.places) e
  where
    by_room : (t : Bool) → (if t then Some (record { place = d.unused; left = record d { number = d.number + 1; unused = d.unused + 1 } }) else None) ≡ Some c → (n ≤ c.place) × GivesAbove n c.left
    by_room false e = absurd cc
    by_room true e =
        let is : record { place = d.unused; left = record d { number = d.number + 1; unused = d.unused + 1 } } ≡ c = cc in
        let from = h.unused in
        subst (λ (x : Claim). (n ≤ x.place) × GivesAbove n x.left) is (h.unused, record { unused = omega (arith, from); released = h.released })

claimed_above : (n : ℕ) (d : Directory) (c : Claim) → GivesAbove n d → claim d ≡ Some c → (n ≤ c.place) × GivesAbove n c.left
claimed_above n d c h e = by_number (nat_lt d.number no_number) e
  where
    by_number : (t : Bool) → (if t then claim_from d d.released else None) ≡ Some c → (n ≤ c.place) × GivesAbove n c.left
    by_number true e = claim_above n d d.released c h h.released e
    by_number false e = absurd cc

place_above : (n : ℕ) (d : Directory) (place number : ℕ) → GivesAbove n d → directory_reply_of d directory_ask.Claim ≡ directory_reply.Claimed place number → n ≤ place
place_above n d place number h e = by_claim (claim d) refl e
  where
    by_claim : (o : Option Claim) → claim d ≡ o → claim_reply d o ≡ directory_reply.Claimed place number → n ≤ place
    by_claim None is e = absurd cc
    by_claim (Some c) is e = let same_place : c.place ≡ place = cc in subst (λ k. n ≤ k) same_place (claimed_above n d c h is).0

next_above : (n : ℕ) (d : Directory) → GivesAbove n d → GivesAbove n (directory_next d directory_ask.Claim)
next_above n d h = by_claim (claim d) refl
  where
    by_claim : (o : Option Claim) → claim d ≡ o → GivesAbove n (claim_next d o)
    by_claim None is = h
    by_claim (Some c) is = (claimed_above n d c h is).1

-- no event releases a number
request_above : (n : ℕ) (N : ℕ → Type 0) (c : Cells) (b : ActorState) (q : Want) → IsRequest N b q → GivesAbove n c.numbers → GivesAbove n (cells_after c (event_for c b q)).numbers
request_above n N c b (want.Slots q) own h = h
request_above n N c b (want.Slot slot q) own h = h
request_above n N c b (want.Fd fd q) own h = h
request_above n N c b (want.Lives q) own h = h
request_above n N c b q own h = absurd own

cells_above : (n : ℕ) (w : WorldState) (b : ActorState) (e : Event) → Happens w b e → GivesAbove n w.cells.numbers → GivesAbove n (cells_after w.cells e).numbers
cells_above n w b e (Requested r) h = subst (λ y. GivesAbove n (cells_after w.cells y).numbers) (sym r.is) (request_above n _ w.cells b r.want r.own h)
cells_above n w b e (Joined j) h = subst (λ y. GivesAbove n (cells_after w.cells y).numbers) (sym j.join.is) h
cells_above n w b e (Snaps s) h = subst (λ y. GivesAbove n (cells_after w.cells y).numbers) (sym s.is) h
cells_above n w b e (GateSnaps s) h = subst (λ y. GivesAbove n (cells_after w.cells y).numbers) (sym s.is) h
cells_above n w b e (Started s) h = subst (λ y. GivesAbove n (cells_after w.cells y).numbers) (sym s.is) h
cells_above n w b e (Opens o) h = subst (λ y. GivesAbove n (cells_after w.cells y).numbers) (sym o.is) h
cells_above n w b e (Releases r) h = subst (λ y. GivesAbove n (cells_after w.cells y).numbers) (sym r.is) h
cells_above n w b e (Numbers m) h = subst (λ y. GivesAbove n (cells_after w.cells y).numbers) (sym m.is) (next_above n w.cells.numbers h)
cells_above n w b e (OpensFile f) h = subst (λ y. GivesAbove n (cells_after w.cells y).numbers) (sym f.is) h
cells_above n w b e (LastJoined j) h = subst (λ y. GivesAbove n (cells_after w.cells y).numbers) (sym j.join.is) h
cells_above n w b e (Ended f) h = subst (λ y. GivesAbove n (cells_after w.cells y).numbers) (sym f.is) h
cells_above n w b e (EntersGate x) h = subst (λ y. GivesAbove n (cells_after w.cells y).numbers) (sym x.is) h
cells_above n w b e (EntersRecycled x) h = subst (λ y. GivesAbove n (cells_after w.cells y).numbers) (sym x.is) h
cells_above n w b e (LeavesGate l) h = subst (λ y. GivesAbove n (cells_after w.cells y).numbers) (sym l.is) h
cells_above n w b e (LeavesRecycled l) h = subst (λ y. GivesAbove n (cells_after w.cells y).numbers) (sym l.is) h

-- an actor has a number for its file only once it claimed one, or had one before
numbered_by : (i : Image) (b : ActorState) (e : Event) (o : FileOpening) (fd : ℕ) → (takes i b e).phase ≡ phase.OpeningFile o → o.number ≡ Some fd
    → (number : ℕ) × (e ≡ event.Fds directory_ask.Claim (directory_reply.Claimed fd number))
numbered_by i b e o fd is some = leaves_number e (takes i b e).phase (takes_between i b e) is
  where
    between : (p : Phase) → IsBetween p → p ≡ phase.OpeningFile o → ⊥
    between p h at_ = subst IsBetween at_ h

    prepares : (p : Phase) → MayPrepare p → p ≡ phase.OpeningFile o → ⊥
    prepares p h at_ = subst MayPrepare at_ h

    leaves_number : (y : Event) (p : Phase) → Leaves y p → p ≡ phase.OpeningFile o → (number : ℕ) × (y ≡ event.Fds directory_ask.Claim (directory_reply.Claimed fd number))
    leaves_number (event.Fds directory_ask.Claim (directory_reply.Claimed place number)) p h at_ =
        let same_number : Some place ≡ Some fd = sym (subst (MayNumber place) at_ h) ∙ some in
        let same_place : place ≡ fd = cc in
        (number, ap (λ n. event.Fds directory_ask.Claim (directory_reply.Claimed n number)) same_place)
    leaves_number (event.Fds directory_ask.Claim directory_reply.Full) p h at_ = absurd (between p h at_)
    leaves_number (event.Fds directory_ask.Claim directory_reply.Released) p h at_ = absurd (between p h at_)
    leaves_number (event.Fds (directory_ask.Release place) r) p h at_ = absurd (between p h at_)
    leaves_number (event.Lives lives_ask.Claim lives_reply.Claimed) p h at_ = absurd (subst IsPreparing at_ h)
    leaves_number (event.Lives lives_ask.Claim lives_reply.Full) p h at_ = absurd (between p h at_)
    leaves_number (event.Lives lives_ask.Claim lives_reply.Released) p h at_ = absurd (between p h at_)
    leaves_number (event.Lives (lives_ask.Release x) r) p h at_ = absurd (between p h at_)
    leaves_number (event.Slots directory_ask.Claim (directory_reply.Claimed slot tag)) p h at_ = let f : phase.Opening slot tag ≡ phase.OpeningFile o = sym h ∙ at_ in absurd cc
    leaves_number (event.Slots directory_ask.Claim directory_reply.Full) p h at_ = absurd (between p h at_)
    leaves_number (event.Slots directory_ask.Claim directory_reply.Released) p h at_ = absurd (between p h at_)
    leaves_number (event.Slots (directory_ask.Release place) r) p h at_ = absurd (between p h at_)
    leaves_number (event.Slot s q slot_reply.Closed) p h at_ = let f : phase.Releasing s ≡ phase.OpeningFile o = sym h ∙ at_ in absurd cc
    leaves_number (event.Slot s q (slot_reply.Snapped pages)) p h at_ = absurd (prepares p h at_)
    leaves_number (event.Slot s q slot_reply.Gone) p h at_ = absurd (prepares p h at_)
    leaves_number (event.Slot s q r) p h at_ = absurd (between p h at_)
    leaves_number (event.Enter run) p h at_ = absurd (subst MayWait at_ h)
    leaves_number (event.Gate id (gate_ask.Enter run first) (gate_reply.Entered memory)) p h at_ = absurd (subst MayWait at_ h)
    leaves_number y p h at_ = absurd (between p h at_)

-- so its event leaves its actor bounded
doer_bounded : (w : WorldState) (b : ActorState) (e : Event) → length w.image.tags ≤ w.cells.places.number → GivesAbove (length w.image.fds) w.cells.numbers → Happens w b e → IsBounded w.image b → IsBounded w.image (takes w.image b e)
doer_bounded w b e counted above h bounded =
    let x = takes w.image b e in
    let sheet = takes_sheet w.image b e in
    let made = takes_made w.image b e in
    let by = happens_made w b e h in
    record {
      tags = λ tag r inside e2. bounded.tags tag r inside (sym (ap (λ o. at_least o r) (ap (λ s. right_on s x.made tag) sheet ∙ (ap (λ m. right_on b.sheet m tag) made
          ∙ ap (λ t. if t then Some right.ReadWrite else option_map (λ g. g.right) (at b.sheet.tags tag)) (made_declared w b e bounded by tag inside)))) ∙ e2);
      fds = λ fd inside.
          ap (λ y. bits_within y (bits_of (root w.image) fd))
          (ap (λ s. bits_on s x.made fd) sheet ∙ (ap (λ m. bits_on b.sheet m fd) made ∙ ap (λ f. either_bits (bits_in b.sheet.fds fd) f) (made_fds w b e bounded by fd inside)))
          ∙ bounded.fds fd inside;
      opens = λ slot tag is.
          let claim = happens_claim w b e slot tag h (opens_by_claim e x.phase slot tag (takes_between w.image b e) is) in
          let number = claimed_number w.cells.places slot tag claim.1 in
          omega (arith, counted, number);
      files = λ o fd is some.
          let from = numbered_by w.image b e o fd is some in
          place_above (length w.image.fds) w.cells.numbers fd from.0 above (happens_number w b e fd from.0 h from.1).1;
      user = λ some. (ap (λ (y : Sheet). y.user) sheet ∙ (bounded.user some).0, ap (λ (y : Sheet). y.root) sheet ∙ (bounded.user some).1);
      directory = ap (λ (y : Sheet). under w.image.root y.root) sheet ∙ bounded.directory;
    }

pub record AllBounded (w : WorldState) : Type 0 where
  pub counted : length w.image.tags ≤ w.cells.places.number
  pub above : GivesAbove (length w.image.fds) w.cells.numbers
  pub actors : (m : List ℕ) (a : ActorState) → actor_named w.actors m ≡ Some a → IsBounded w.image a

-- an event leaves the numbers of tags above those that are declared
cells_counted : (n : ℕ) (c : Cells) (e : Event) → n ≤ c.places.number → n ≤ (cells_after c e).places.number
cells_counted n c (event.Slots q r) h = let up = next_number c.places q in omega (arith, h, up)
cells_counted n c (event.Slot slot q r) h = h
cells_counted n c (event.Fds q r) h = h
cells_counted n c (event.Fd fd q r) h = h
cells_counted n c (event.Lives q r) h = h
cells_counted n c (event.Gate id q r) h = h
cells_counted n c (event.Start child) h = h
cells_counted n c (event.Join k end fuel) h = h
cells_counted n c (event.Enter run) h = h
cells_counted n c (event.Leave end) h = h

-- an actor that goes on has the rights that it had
pub back_bounded : (i : Image) (actors : List ActorState) (a : ActorState) → IsBounded i a → IsBounded i (ready actors a)
back_bounded i actors a h =
    ready_is (IsBounded i) actors a h
    (λ k e fuel. record { tags = h.tags; fds = h.fds; opens = λ slot tag is. absurd cc; files = λ o fd is some. absurd cc; user = h.user; directory = h.directory })

resumed_bounded : (w : WorldState) (a : ActorState) → AllBounded w → actor_named w.actors a.name ≡ Some a → AllBounded (resumed w a)
resumed_bounded w a bounded there = record { counted = bounded.counted; above = bounded.above; actors = λ m y found. goes m y (find_put w.actors a (ready w.actors a) m y (record { name = ready_name w.actors a; there = there }) found) }
  where
    goes : (m : List ℕ) (y : ActorState) → FoundPut w.actors a (ready w.actors a) m y → IsBounded w.image y
    goes m y (IsDoer is f) = subst (IsBounded w.image) (sym f) (back_bounded w.image w.actors a (bounded.actors a.name a there))
    goes m y (IsOther apart f) = bounded.actors m y f

-- a turn, where the run of a gate that may begin by it has no more than the root
pub turn_bounded : (w : WorldState) (name : List ℕ) (e : Event) (new : WorldState) → AllReady w → AllBounded w → (p : Turned w name e new)
    → ((c : ActorState) → IsRun (rest w.image p.parts.actor) c → HasNoMoreThanRoot w.image c.sheet nothing_made) → AllBounded new
turn_bounded w name e new all bounded p runs =
    let v = resumed w p.actor in
    let a = p.parts.actor in
    let b = rest w.image a in
    let x = takes w.image b e in
    let h = turn_happens w name e new all p in
    let goes = resumed_bounded w p.actor bounded (turned_there w name p.actor p.named) in
    let there = turned_there v name a p.parts.named in
    let put : IsPut v.actors a x = record { name = takes_name w.image b e ∙ rest-name w.image a; there = there } in
    let doer = doer_bounded v b e bounded.counted bounded.above h (rest_bounded w.image a (goes.actors a.name a there)) in
    let child = begins_bounded v b e (acts v b e h) (rest_bounded w.image a (goes.actors a.name a there)) runs in
    subst AllBounded (sym p.parts.new_is)
    (record { counted = cells_counted (length w.image.tags) w.cells e bounded.counted; above = cells_above (length w.image.fds) v b e h bounded.above; actors = by_begun v a x goes put doer (actor_begun w.image b e) child })
  where
    by_found : (w : WorldState) (a x : ActorState) → AllBounded w → IsPut w.actors a x → IsBounded w.image x → (m : List ℕ) (y : ActorState) → FoundPut w.actors a x m y → IsBounded w.image y
    by_found w a x bounded put doer m y (IsDoer is f) = subst (IsBounded w.image) (sym f) doer
    by_found w a x bounded put doer m y (IsOther apart f) = bounded.actors m y f

    by_begun : (w : WorldState) (a x : ActorState) → AllBounded w → IsPut w.actors a x → IsBounded w.image x → (o : Option ActorState) → ((c : ActorState) → o ≡ Some c → IsBounded w.image c) → (m : List ℕ) (y : ActorState)
        → actor_named (with_begun (put_actor w.actors x) o) m ≡ Some y → IsBounded w.image y
    by_begun w a x bounded put doer None child m y found = by_found w a x bounded put doer m y (find_put w.actors a x m y put found)
    by_begun w a x bounded put doer (Some c) child m y found = elim (found_or_last (put_actor w.actors x) c m y found) [
      | inl f ↦ by_found w a x bounded put doer m y (find_put w.actors a x m y put f)
      | inr is ↦ subst (IsBounded w.image) (sym is) (child c refl)
    ]

    begins_bounded : (w : WorldState) (b : ActorState) (e : Event) → Acts w b e → IsBounded w.image b → ((c : ActorState) → IsRun b c → HasNoMoreThanRoot w.image c.sheet nothing_made) → (c : ActorState) → actor_begun w.image b e ≡ Some c → IsBounded w.image c
    begins_bounded w b e (ActsAlone one) bounded runs c is = let f : None ≡ Some c = sym (one_begins w.image b e one) ∙ is in absurd cc
    begins_bounded w b e (Starts s) bounded runs c is =
        let child = child_of w.image b (child_name b.name (next_start b)) in
        let both : Some child ≡ Some c = sym (ap (actor_begun w.image b) s.is) ∙ is in
        let same_child : child ≡ c = cc in
        subst (IsBounded w.image) same_child (child_bounded w.image b child (child_begins w.image b s.preparation s.at s.complete s.ready) bounded)
    begins_bounded w b e (Enters x) bounded runs c is =
        let name = child_name b.name (next_start b) in
        let run = run_by b name x.kept x.entrance in
        let both : Some run ≡ Some c = sym x.begins ∙ is in
        let same_run : run ≡ c = cc in
        let begins = run_begins b x.kept x.entrance x.at x.may in
        subst (IsBounded w.image) same_run (run_bounded w.image b run begins (runs run begins))
    begins_bounded w b e (Joins k listed j) bounded runs c is = let f : None ≡ Some c = sym (ap (actor_begun w.image b) j.is) ∙ is in absurd cc

pub opening_bounded : (i : Image) → AllBounded (initial_state i)
opening_bounded i = record { counted = omega arith; above = record { unused = omega arith; released = refl }; actors = λ m y found. by_name (same root_name m) (opening_found m y found) }
  where
    by_name : (t : Bool) {y : ActorState} → (if t then Some (root i) else None) ≡ Some y → IsBounded i y
    by_name true e = let is : root i ≡ _ = cc in subst (IsBounded i) is root_bounded
      where
        bits_self : (x : FdBits) → bits_within x x ≡ true
        bits_self x = both_are _ _ (itself x.read) (itself x.append)
          where
            itself : (p : Bool) → (if p then p else true) ≡ true
            itself true = refl
            itself false = refl

        root_bounded : IsBounded i (root i)
        root_bounded = unfold root in record { tags = λ tag r inside e. e; fds = λ fd inside. bits_self (bits_of (root i) fd); opens = λ slot tag is. absurd cc; files = λ o fd is some. absurd cc; user = λ some. (refl, refl); directory = front_itself (parts_of i.root) }
    by_name false e = absurd cc

    opening_found : (m : List ℕ) (y : ActorState) → actor_named (initial_state i).actors m ≡ Some y → (if same root_name m then Some (root i) else None) ≡ Some y
    opening_found m y e = unfold root in e

pub run_image : (old : WorldState) (turns : List Turn) (new : WorldState) → Runs old turns new → new.image ≡ old.image
run_image old [] new run = ap (λ (w : WorldState). w.image) run
run_image old (t ∷ ts) new run = run_image run.0 ts new run.2 ∙ ap (λ (w : WorldState). w.image) (turn_from old t.actor t.event run.0 run.1).parts.new_is
