-- The turns of the notes of a schedule, name by name.
use Rattle.std.proofs.Common.{◌≡◌, ℕ, ◌+◌, ◌-◌, ◌<◌, ◌≤◌, false, List, [], ◌∷◌, ◌++◌, length, get_or, drop, replicate, sym, ap, ◌∙◌, append_assoc, append-nil, arith}
use Rattle.std.proofs.lemmas.List.{length-append, length-replicate}
use Rattle.std.specs.Prelude.{Option, Some, None}
use Rattle.wedge_base.specs.Images.{Image}
use Rattle.wedge_events.specs.declared.events.Event.{Event}
use Rattle.machine.specs.Worlds.{WorldState, Taken, initial_state}
use Rattle.run_log.specs.Logs.{Log}
use Rattle.run_log.specs.Logging.{opening_log, log_turn}
use Rattle.run_log.specs.LoggedParts.{TookLogged}
use Rattle.run_log.specs.NoteTurns.{turns_added, note_turns_from, note_turns}
use Rattle.run_log.proofs.Behind.{all_behind, turn_behind}
use Rattle.run_log.proofs.LoggedReplays.{names_left, drop_none}
use Rattle.world_turns.specs.Progress.{Progress}

-- a turn only adds notes
pub turn_adds : (w : WorldState) (l : Log) (name : List ℕ) (e : Event) → length l.notes ≤ length (log_turn w l name e).notes
turn_adds w l name e =
    let apart : Log = record l { notes = [] } in
    let own = (log_turn w apart name e).notes in
    let is : (log_turn w l name e).notes ≡ l.notes ++ own = ap (λ (x : Log). x.notes) (ap (λ x. log_turn w x name e) (sym (all_behind l)) ∙ turn_behind w l.notes apart name e) in
    let count : length (log_turn w l name e).notes ≡ length l.notes + length own = ap length is ∙ length-append l.notes own in
    omega (arith, count)

pub took_adds : (p q : Progress) (l m : Log) (name : List ℕ) → TookLogged p l name q m → length l.notes ≤ length m.notes
took_adds p q l m name t = (let count = ap (λ (x : Log). length x.notes) t.1.logged in let more = turn_adds p.state l name t.0 in omega (arith, count, more))

-- the turns of the notes so far, and those of the names that are left
pub record AreNumbered (i : Image) (names : List (List ℕ)) (n : ℕ) (p : Progress) (l : Log) (turns : List ℕ) : Type 0 where
  pub each : length turns ≡ length l.notes
  pub so_far : turns ++ note_turns_from p.state l n (drop n names) ≡ note_turns i names

pub numbered_first : (i : Image) (names : List (List ℕ)) (p : Progress) (l : Log) (turns : List ℕ) → p ≡ record { state = initial_state i; turns = []; stopped = false } → l ≡ opening_log i → turns ≡ [] → AreNumbered i names 0 p l turns
numbered_first i names p l turns is opens none = record {
  each = ap length none ∙ sym (ap (λ (x : Log). length x.notes) opens);
  so_far =
      ap (λ ts. ts ++ note_turns_from p.state l 0 names) none
      ∙ (ap (λ (q : Progress). note_turns_from q.state l 0 names) is
      ∙ ap (λ x. note_turns_from (initial_state i) x 0 names) opens);
}

pub numbered_next : (i : Image) (names : List (List ℕ)) (n : ℕ) (name : List ℕ) (p q : Progress) (l m : Log) (turns more : List ℕ) → n < length names → name ≡ get_or names n name
    → AreNumbered i names n p l turns → TookLogged p l name q m → more ≡ turns ++ replicate (length m.notes - length turns) (n + 1) → AreNumbered i names (n + 1) q m more
unfolding note_turns_from
numbered_next i names n name p q l m turns more lt is was t adds =
    let rest = drop (n + 1) names in
    let number = n + 1 in
    let own = turns_added number l m in
    let later = note_turns_from q.state m number rest in
    let step : note_turns_from p.state l n (name ∷ rest) ≡ turns_added number l (log_turn p.state l name t.0) ++ note_turns_from q.state (log_turn p.state l name t.0) number rest =
    ap (λ (o : Option Taken). elim o [ None ↦ [] | Some u ↦ turns_added number l (log_turn p.state l name u.event) ++ note_turns_from u.world (log_turn p.state l name u.event) number rest ]) t.1.turn in
    let all : own ++ later ≡ note_turns_from p.state l n (drop n names) =
    ap (λ x. turns_added number l x ++ note_turns_from q.state x number rest) t.1.logged ∙ (sym step ∙ ap (note_turns_from p.state l n) (sym (names_left names n name lt is))) in
    let added : more ≡ turns ++ own = adds ∙ ap (λ c. turns ++ replicate (length m.notes - c) number) was.each in
    let count : length more ≡ length turns + (length m.notes - length l.notes) = ap length added ∙ (length-append turns own ∙ ap (λ c. length turns + c) (length-replicate (length m.notes - length l.notes) number)) in
    let each = was.each in
    let no_less = took_adds p q l m name t in
    record {
      each = omega (arith, count, each, no_less);
      so_far = ap (λ ts. ts ++ later) added ∙ (append_assoc turns own later ∙ (ap (λ ts. turns ++ ts) all ∙ was.so_far));
    }

pub numbered_last : (i : Image) (names : List (List ℕ)) (n : ℕ) (p : Progress) (l : Log) (turns : List ℕ) → length names ≤ n → AreNumbered i names n p l turns → turns ≡ note_turns i names
unfolding note_turns_from
numbered_last i names n p l turns le was = sym (append-nil turns) ∙ (ap (λ ns. turns ++ note_turns_from p.state l n ns) (sym (drop_none names n le)) ∙ was.so_far)
