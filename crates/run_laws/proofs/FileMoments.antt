-- The moments of the call that opens a file: the claim of a number, and the opening of the stream on it.
use Rattle.std.proofs.Common.{◌≡◌, ℕ, Bool, true, false, List, refl, sym, ap, subst, ◌∙◌}
use Rattle.std.specs.Prelude.{Option, Some, None, is_some, unwrap_or, slice_set, ◌&&◌, ◌||◌, if◌then◌else◌}
use Rattle.wedge_events.specs.Directories.{Directory, Claim, claim, claim_reply, claim_next as left_by, directory_reply as directory_reply_of}
use Rattle.wedge_base.specs.Images.{Image}
use Rattle.wedge_base.specs.Rights.{no_bits, bits_within}
use Rattle.wedge_base.specs.Sheets.{bits_in, either_bits, made_fd}
use Rattle.wedge_events.specs.Streams.{new_stream}
use Rattle.wedge_base.specs.declared.rights.Code.TheVariants as code
use Rattle.wedge_base.specs.declared.rights.FdBits.{FdBits}
use Rattle.wedge_events.specs.declared.events.Event.{Event}
use Rattle.wedge_events.specs.declared.events.Event.TheVariants as event
use Rattle.wedge_events.specs.declared.cells.DirectoryAsk.{DirectoryAsk}
use Rattle.wedge_events.specs.declared.cells.DirectoryAsk.TheVariants as directory_ask
use Rattle.wedge_events.specs.declared.cells.DirectoryReply.{DirectoryReply}
use Rattle.wedge_events.specs.declared.cells.DirectoryReply.TheVariants as directory_reply
use Rattle.wedge_events.specs.declared.cells.StreamAsk.{StreamAsk}
use Rattle.wedge_events.specs.declared.cells.StreamAsk.TheVariants as stream_ask
use Rattle.wedge_events.specs.declared.cells.StreamReply.TheVariants as stream_reply
use Rattle.machine.specs.declared.phase.Phase.TheVariants as phase
use Rattle.machine.specs.Actors.{ActorState, bits_of, refuses}
use Rattle.run_laws.specs.Ends.{end_of}
use Rattle.run_laws.specs.FileCalls.{OpensAt, ClaimsNumber, OpensFile}
use Rattle.machine.specs.Local.{has_ended}
use Rattle.machine.specs.Opening.{FileOpening}
use Rattle.run_laws.specs.Refusals.{full, RefusesNumber, RefusesOpening, is_refusal, refused}
use Rattle.machine.specs.Take.{has_number, takes}
use Rattle.machine.specs.Worlds.{WorldState, put_actor, with_actor}
use Rattle.run_laws.proofs.Between.{numbered_is, opened_is, opened_file, opened_at}
use Rattle.run_laws.proofs.Bounding.{with_same}
use Rattle.run_laws.proofs.Checking.{after, stayed}
use Rattle.run_laws.proofs.Going.{IsNext}
use Rattle.run_laws.proofs.Happening.{AtNumber, AtFile}
use Rattle.run_laws.proofs.Named.{put_put}
use Rattle.run_laws.proofs.TagMoments.{slots_told}

-- ---- what each leaves of its actor

pub number_denials : (i : Image) (b : ActorState) (q : DirectoryAsk) (r : DirectoryReply) → (takes i b (event.Fds q r)).denials ≡ b.denials
unfolding takes
number_denials i b (directory_ask.Release place) r = refl
number_denials i b directory_ask.Claim (directory_reply.Claimed fd number) = numbered_is (λ x. x.denials ≡ b.denials) b b.phase fd refl (λ o. refl)
number_denials i b directory_ask.Claim directory_reply.Full = refl
number_denials i b directory_ask.Claim directory_reply.Released = refl

pub file_denials : (i : Image) (b : ActorState) (fd : ℕ) (q : StreamAsk) → (takes i b (event.Fd fd q stream_reply.Opened)).denials ≡ b.denials
unfolding takes
file_denials i b fd q = opened_is (λ x. x.denials ≡ b.denials) b b.phase fd refl (λ o. refl)

pub number_end : (i : Image) (b : ActorState) (q : DirectoryAsk) (r : DirectoryReply) → (end_of (takes i b (event.Fds q r)).phase ≡ None) × (has_ended (takes i b (event.Fds q r)).phase ≡ false)
unfolding takes
number_end i b (directory_ask.Release place) r = (refl, refl)
number_end i b directory_ask.Claim (directory_reply.Claimed fd number) =
    numbered_is (λ x. (end_of x.phase ≡ None) × (has_ended x.phase ≡ false)) b b.phase fd (refl, refl) (λ o. (refl, refl))
number_end i b directory_ask.Claim directory_reply.Full = (refl, refl)
number_end i b directory_ask.Claim directory_reply.Released = (refl, refl)

pub file_end : (i : Image) (b : ActorState) (fd : ℕ) (q : StreamAsk)
    → (end_of (takes i b (event.Fd fd q stream_reply.Opened)).phase ≡ None) × (has_ended (takes i b (event.Fd fd q stream_reply.Opened)).phase ≡ false)
unfolding takes
file_end i b fd q = opened_is (λ x. (end_of x.phase ≡ None) × (has_ended x.phase ≡ false)) b b.phase fd (refl, refl) (λ o. (refl, refl))

-- ---- what it is while a file is opened

numbered_at : (i : Image) (b : ActorState) (o : FileOpening) (d : Directory) (c : Claim) → b.phase ≡ phase.OpeningFile o
    → takes i b (event.Fds directory_ask.Claim (claim_reply d (Some c))) ≡ record b { phase = phase.OpeningFile (record o { number = Some c.place }) }
unfolding takes
numbered_at i b o d c at_ = ap (λ p. has_number b p c.place) at_

pub number_next : (i : Image) (b : ActorState) (o : FileOpening) (k : Option Claim) (d : Directory) → b.phase ≡ phase.OpeningFile o → IsNext b.hart (takes i b (event.Fds directory_ask.Claim (claim_reply d k)))
unfolding takes
number_next i b o None d at_ = (λ e. refl, λ e. absurd cc)
number_next i b o (Some c) d at_ = subst (IsNext b.hart) (sym (numbered_at i b o d c at_)) (λ e. absurd cc, λ e. refl)

pub file_next : (i : Image) (b : ActorState) (o : FileOpening) (fd : ℕ) (q : StreamAsk) → b.phase ≡ phase.OpeningFile o → IsNext b.hart (takes i b (event.Fd fd q stream_reply.Opened))
file_next i b o fd q at_ = subst (IsNext b.hart) (sym (opened_at i b o fd q at_)) (λ e. refl, λ e. absurd cc)

-- ---- refusals

-- the world after a claim that came to this
abbrev number_world : WorldState → ActorState → Directory → Option Claim → WorldState
number_world w b d k = record w { cells = record w.cells { numbers = left_by d k }; actors = put_actor w.actors (takes w.image b (event.Fds directory_ask.Claim (claim_reply d k))) }

number_refused : (w : WorldState) (b : ActorState) (n : ℕ) (k : Option Claim) → (if is_some k then None else Some full) ≡ Some n → number_world w b w.cells.numbers k ≡ with_actor (with_actor w b) (refused b n)
unfolding takes
number_refused w b n (Some c) told = absurd cc
number_refused w b n None told =
    let same : full ≡ n = cc in
    subst (λ m. number_world w b w.cells.numbers None ≡ with_actor (with_actor w b) (refused b m)) same (stayed w b (refuses b code.Full) w.cells refl refl)

number_passed : (k : Option Claim) (d : Directory) → (if is_some k then None else Some full) ≡ None → is_refusal (event.Fds directory_ask.Claim (claim_reply d k)) ≡ false
number_passed (Some c) d told = refl
number_passed None d told = absurd cc

refuses_number : (w : WorldState) (b : ActorState)
    → RefusesNumber (with_actor w b) b (event.Fds directory_ask.Claim (directory_reply_of w.cells.numbers directory_ask.Claim)) (after w b (event.Fds directory_ask.Claim (directory_reply_of w.cells.numbers directory_ask.Claim)))
refuses_number w b = record {
  refused = λ n told. number_refused w b n (claim w.cells.numbers) (sym (slots_told w.cells.numbers) ∙ told);
  passed = λ told. number_passed (claim w.cells.numbers) w.cells.numbers (sym (slots_told w.cells.numbers) ∙ told);
}

pub number_refuses : (w : WorldState) (b : ActorState) (e : Event) (n : AtNumber w b e) → RefusesOpening (with_actor w b) b n.opening.number e (after w b e)
number_refuses w b e n = subst (λ m. RefusesOpening (with_actor w b) b m e (after w b e)) (sym n.none) (subst (λ y. RefusesNumber (with_actor w b) b y (after w b y)) (sym n.is) (refuses_number w b))

pub file_refuses : (w : WorldState) (b : ActorState) (e : Event) (f : AtFile w b e) → RefusesOpening (with_actor w b) b f.opening.number e (after w b e)
file_refuses w b e f = subst (λ m. RefusesOpening (with_actor w b) b m e (after w b e)) (sym f.some) (ap is_refusal f.is)

-- ---- what they make

number_makes : (w : WorldState) (b : ActorState) (o : FileOpening) → b.phase ≡ phase.OpeningFile o
    → ClaimsNumber (with_actor w b) b o (event.Fds directory_ask.Claim (directory_reply_of w.cells.numbers directory_ask.Claim)) (after w b (event.Fds directory_ask.Claim (directory_reply_of w.cells.numbers directory_ask.Claim)))
number_makes w b o at_ = λ c there. (
  ap (λ k. event.Fds directory_ask.Claim (claim_reply w.cells.numbers k)) there,
  ap (number_world w b w.cells.numbers) there
      ∙ (ap (λ x. record w { cells = record w.cells { numbers = c.left }; actors = put_actor w.actors x }) (numbered_at w.image b o w.cells.numbers c at_)
      ∙ ap (λ (as_ : List ActorState). record w { cells = record w.cells { numbers = c.left }; actors = as_ }) (sym (put_put w.actors b (record b { phase = phase.OpeningFile (record o { number = Some c.place }) }) refl))),
)

-- who opened a file has the bits that it asked for
bit_among : (p q : Bool) → (if q then p || q else true) ≡ true
bit_among true true = refl
bit_among false true = refl
bit_among p false = refl

bits_among : (x y : FdBits) → bits_within y (either_bits x y) ≡ true
bits_among x y = both _ _ (bit_among x.read y.read) (bit_among x.append y.append)
  where
    both : (p q : Bool) → p ≡ true → q ≡ true → (p && q) ≡ true
    both true q e f = f
    both false q e f = absurd cc

opened_held : (b : ActorState) (fd : ℕ) (bits : FdBits) → bits_within bits (bits_of (record b { made = made_fd b.made fd bits }) fd) ≡ true
opened_held b fd bits =
    let there : bits_in (made_fd b.made fd bits).fds fd ≡ bits = ap (λ (k : Option FdBits). unwrap_or k no_bits) (with_same b.made.fds fd bits) in
    subst (λ x. bits_within bits (either_bits (bits_in b.sheet.fds fd) x) ≡ true) (sym there) (bits_among (bits_in b.sheet.fds fd) bits)

file_makes : (w : WorldState) (b : ActorState) (o : FileOpening) (fd : ℕ) → b.phase ≡ phase.OpeningFile o
    → OpensFile (with_actor w b) b o fd (event.Fd fd (stream_ask.Open o.kind o.bytes) stream_reply.Opened) (after w b (event.Fd fd (stream_ask.Open o.kind o.bytes) stream_reply.Opened))
file_makes w b o fd at_ = (
  refl,
  ap (λ x. record w { cells = record w.cells { streams = slice_set w.cells.streams fd (Some (new_stream o.kind o.bytes)) }; actors = put_actor w.actors x }) (opened_at w.image b o fd (stream_ask.Open o.kind o.bytes) at_)
      ∙ ap (λ (as_ : List ActorState). record w { cells = record w.cells { streams = slice_set w.cells.streams fd (Some (new_stream o.kind o.bytes)) }; actors = as_ }) (sym (put_put w.actors b (opened_file b o fd) refl)),
  opened_held b fd o.bits,
)

pub claims_number : (w : WorldState) (b : ActorState) (e : Event) (n : AtNumber w b e) → OpensAt (with_actor w b) b n.opening n.opening.number e (after w b e)
claims_number w b e n = subst (λ m. OpensAt (with_actor w b) b n.opening m e (after w b e)) (sym n.none) (subst (λ y. ClaimsNumber (with_actor w b) b n.opening y (after w b y)) (sym n.is) (number_makes w b n.opening n.at))

pub opens_file : (w : WorldState) (b : ActorState) (e : Event) (f : AtFile w b e) → OpensAt (with_actor w b) b f.opening f.opening.number e (after w b e)
opens_file w b e f = subst (λ m. OpensAt (with_actor w b) b f.opening m e (after w b e)) (sym f.some) (subst (λ y. OpensFile (with_actor w b) b f.opening f.fd y (after w b y)) (sym f.is) (file_makes w b f.opening f.fd f.at))
