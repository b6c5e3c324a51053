-- A schedule with its log, name by name.
use Rattle.std.proofs.Common.{◌≡◌, ℕ, zero, suc, ◌+◌, ◌<◌, ◌≤◌, true, false, List, [], ◌∷◌, length, get_or, drop, refl, sym, ap, subst, ◌∙◌, arith}
use Rattle.std.specs.Prelude.{Option, Some, None, IsOk}
use Rattle.wedge_base.specs.Images.{Image}
use Rattle.machine.specs.Worlds.{WorldState, Taken, initial_state, is_complete}
use Rattle.wedge_events.specs.declared.events.Event.{Event}
use Rattle.run_laws.proofs.Turns.{turn_from}
use Rattle.run_notes.specs.Procedures.{AreProceduresOf}
use Rattle.run_log.specs.declared.log.RunLog.{RunLog}
use Rattle.run_log.specs.Logs.{Log}
use Rattle.run_log.specs.Logging.{opening_log, log_turn, log_from, log_of}
use Rattle.run_log.specs.LoggedParts.{IsLogOf, TookLogged}
use Rattle.world_turns.specs.Progress.{Progress, IsTurn, initial_progress}
use Rattle.world_turns.specs.Replay.{Follows, replay_of, replay_from}
use Rattle.world_turns.proofs.Replays.{IsReplaying, replayed_complete}

drop_at : {X : Type 0} (xs : List X) (n : ℕ) (x : X) → n < length xs → x ≡ get_or xs n x → drop n xs ≡ x ∷ drop (suc n) xs
drop_at [] n x lt is = absurd (omega (arith, lt))
drop_at (y ∷ ys) zero x lt is = ap (λ z. z ∷ ys) (sym is)
drop_at (y ∷ ys) (suc n) x lt is = drop_at ys n x (omega (arith, lt)) is

-- the names that are left, from one that takes its turn on
pub names_left : (names : List (List ℕ)) (n : ℕ) (name : List ℕ) → n < length names → name ≡ get_or names n name → drop n names ≡ name ∷ drop (n + 1) names
names_left names n name lt is =
    let one : suc n ≡ n + 1 = omega arith in
    drop_at names n name lt is ∙ ap (λ k. name ∷ drop k names) one

-- the log so far, and what the names that are left make of it
pub record IsLogging (i : Image) (names : List (List ℕ)) (n : ℕ) (p : Progress) (l : Log) : Type 0 where
  pub logged : log_from p.state l (drop n names) ≡ log_of i names

pub logging_first : (i : Image) (names : List (List ℕ)) (p : Progress) (l : Log) → p ≡ record { state = initial_state i; turns = []; stopped = false } → l ≡ opening_log i → IsLogging i names 0 p l
logging_first i names p l is opens =
    subst (λ q. IsLogging i names 0 q l) (sym is) (subst (IsLogging i names 0 (record { state = initial_state i; turns = []; stopped = false })) (sym opens) (record { logged = refl }))

pub logging_next : (i : Image) (names : List (List ℕ)) (n : ℕ) (name : List ℕ) (p q : Progress) (l m : Log) → n < length names → name ≡ get_or names n name
    → IsLogging i names n p l → TookLogged p l name q m → IsLogging i names (n + 1) q m
unfolding log_from
logging_next i names n name p q l m lt is was t =
    let rest = drop (n + 1) names in
    let left : drop n names ≡ name ∷ rest = names_left names n name lt is in
    let step : log_from p.state l (name ∷ rest) ≡ log_from q.state (log_turn p.state l name t.0) rest =
    ap (λ (o : Option Taken). elim o [ None ↦ l | Some u ↦ log_from u.world (log_turn p.state l name u.event) rest ]) t.1.turn in
    record {
      logged = ap (λ x. log_from q.state x rest) t.1.logged ∙ (sym step ∙ (ap (log_from p.state l) (sym left) ∙ was.logged));
    }

pub drop_none : {X : Type 0} (xs : List X) (n : ℕ) → length xs ≤ n → drop n xs ≡ []
drop_none [] zero le = refl
drop_none [] (suc n) le = refl
drop_none (x ∷ xs) zero le = absurd (omega arith)
drop_none (x ∷ xs) (suc n) le = drop_none xs n (omega (arith, le))

pub logging_last : (i : Image) (names : List (List ℕ)) (n : ℕ) (p : Progress) (l : Log) → length names ≤ n → IsLogging i names n p l → l ≡ log_of i names
unfolding log_from
logging_last i names n p l le was = ap (log_from p.state l) (sym (drop_none names n le)) ∙ was.logged

pub follows : (p q : Progress) (l m : Log) (name : List ℕ) → is_complete p.state ≡ false → TookLogged p l name q m → Follows p name q
follows p q l m name going t = record { event = t.0; goes_on = going; turn = t.1.turn; noted = t.1.noted; going = t.1.going }

-- all names took their turns, and the root has ended: the schedule is one of a complete run
pub replayed_all : (i : Image) (names : List (List ℕ)) (n : ℕ) (p : Progress) → length names ≤ n → is_complete p.state ≡ true → IsReplaying i names n p → IsOk (replay_of i names)
replayed_all i names n p le whole was =
    subst IsOk (sym (was.told ∙ (ap (replay_from p.state (n + 1)) (drop_none names n le) ∙ replayed_complete p.state (n + 1) whole))) refl

-- ---- the log of the world that a turn leads to

turn_image : (w : WorldState) (name : List ℕ) (e : Event) (new : WorldState) → IsTurn w name e new → new.image ≡ w.image
turn_image w name e new turn = ap (λ (v : WorldState). v.image) (turn_from w name e new turn).parts.new_is

pub goes_with : (p q : Progress) (l m : RunLog) (name : List ℕ) → IsLogOf p l → TookLogged p l.log name q m.log → m.procedures ≡ l.procedures → IsLogOf q m
goes_with p q l m name was t same =
    record {
      in_step = t.1.in_step;
      procedures = subst (λ i. AreProceduresOf i m.procedures) (sym (turn_image p.state name t.0 q.state t.1.turn)) (subst (AreProceduresOf p.state.image) (sym same) was.procedures);
    }

pub opens : (i : Image) (p : Progress) (l : RunLog) → p ≡ initial_progress i → l.log ≡ opening_log i → AreProceduresOf i l.procedures → IsLogOf p l
opens i p l is log procedures = record {
  in_step = ap (λ (x : Log). length x.chains) log ∙ sym (ap (λ (x : Progress). length x.state.actors) is);
  procedures = subst (λ j. AreProceduresOf j l.procedures) (sym (ap (λ (x : Progress). x.state.image) is)) procedures;
}
