-- The turns of notes are those in which the schedule's notes were made.
use Rattle.std.proofs.Common.{◌≡◌, ℕ, zero, suc, ◌+◌, ◌-◌, ◌*◌, ◌<◌, ◌≤◌, false, cond, List, [], ◌∷◌, ◌++◌, length, take, replicate, count_by, nat_le, refl, ap, subst, ◌∙◌, arith}
use Rattle.std.proofs.lemmas.Bool.{le-leb, lt-leb}
use Rattle.std.proofs.lemmas.List.{length-append, length-replicate}
use Rattle.std.proofs.lemmas.List.Folds.{sum_by-replicate}
use Rattle.std.proofs.lemmas.List.Sums.{sum_by-cons, sum_by-append}
use Rattle.std.specs.Prelude.{⊤, Option, Some, None, slice_index_or}
use Rattle.std.specs.List.{AllByRecursion}
use Rattle.wedge_base.specs.Images.{Image}
use Rattle.machine.specs.Worlds.{WorldState, Taken, initial_state, turn_of}
use Rattle.run_log.specs.Logs.{Log}
use Rattle.run_log.specs.Logging.{opening_log, log_turn, log_from, log_of}
use Rattle.run_log.specs.NoteTurns.{turns_added, note_turns_from, note_turns}
use Rattle.run_log.specs.TurnLaws.{EachNoteHasItsTurn}
use Rattle.run_log.proofs.NoteTurns.{turn_adds}

-- ---- numbers that do not fall, between two

abbrev AreBetween : ℕ → ℕ → List ℕ → Type 0
AreBetween low high [] = ⊤
AreBetween low high (t ∷ ts) = (low ≤ t) × (t ≤ high) × AreBetween t high ts

between_from : (low first high : ℕ) (ts : List ℕ) → low ≤ first → AreBetween first high ts → AreBetween low high ts
between_from low first high [] le are = tt
between_from low first high (t ∷ ts) le are = (let more = are.0 in omega (arith, le, more), are.1, are.2)

between_added : (count number low high : ℕ) (ts : List ℕ) → low ≤ number → number ≤ high → AreBetween number high ts → AreBetween low high (replicate count number ++ ts)
between_added zero number low high ts above below later = between_from low number high ts above later
between_added (suc count) number low high ts above below later = (above, below, between_added count number number high ts (omega arith) below later)

between_all : (low high : ℕ) (ts : List ℕ) → 1 ≤ low → AreBetween low high ts → AllByRecursion (λ t. (1 ≤ t) × (t ≤ high)) ts
between_all low high [] le are = tt
between_all low high (t ∷ ts) le are =
    let positive : 1 ≤ t = (let more = are.0 in omega (arith, le, more)) in
    ((positive, are.1), between_all t high ts positive are.2)

between_least : (low high : ℕ) (ts : List ℕ) → AreBetween low high ts → (j d : ℕ) → j < length ts → low ≤ slice_index_or ts j d
between_least low high [] are j d lt = absurd (omega (arith, lt))
between_least low high (t ∷ ts) are zero d lt = are.0
between_least low high (t ∷ ts) are (suc j) d lt = (let first = are.0 in let later = between_least t high ts are.2 j d (omega (arith, lt)) in omega (arith, first, later))

between_ordered : (low high : ℕ) (ts : List ℕ) → AreBetween low high ts → (i j d : ℕ) → i ≤ j → j < length ts → slice_index_or ts i d ≤ slice_index_or ts j d
between_ordered low high [] are i j d le lt = absurd (omega (arith, lt))
between_ordered low high (t ∷ ts) are zero zero d le lt = omega arith
between_ordered low high (t ∷ ts) are zero (suc j) d le lt = between_least t high ts are.2 j d (omega (arith, lt))
between_ordered low high (t ∷ ts) are (suc i) zero d le lt = absurd (omega (arith, le))
between_ordered low high (t ∷ ts) are (suc i) (suc j) d le lt = between_ordered t high ts are.2 i j d (omega (arith, le)) (omega (arith, lt))

-- none is below the least
none_below : (low high k : ℕ) (ts : List ℕ) → k < low → AreBetween low high ts → count_by (λ t. nat_le t k) ts ≡ 0
none_below low high k [] lt are = refl
none_below low high k (t ∷ ts) lt are =
    let first = are.0 in
    let above : k < t = omega (arith, lt, first) in
    let later = none_below t high k ts above are.2 in
    let all : count_by (λ x. nat_le x k) (t ∷ ts) ≡ cond {A = ℕ} false 1 0 + count_by (λ x. nat_le x k) ts = sum_by-cons (λ x. cond (nat_le x k) 1 0) t ts ∙ ap (λ b. cond b 1 0 + count_by (λ x. nat_le x k) ts) (lt-leb t k above) in
    omega (arith, all, later)

-- those of one turn are all up to it
added_count : (count number k : ℕ) (ts : List ℕ) → number ≤ k → count_by (λ t. nat_le t k) (replicate count number ++ ts) ≡ count + count_by (λ t. nat_le t k) ts
added_count count number k ts le =
    let f : ℕ → ℕ = λ x. cond (nat_le x k) 1 0 in
    let own : count_by (λ t. nat_le t k) (replicate count number) ≡ count * 1 = sum_by-replicate f count number ∙ ap (λ b. count * cond b 1 0) (le-leb number k le) in
    let both : count_by (λ t. nat_le t k) (replicate count number ++ ts) ≡ count_by (λ t. nat_le t k) (replicate count number) + count_by (λ t. nat_le t k) ts = sum_by-append f (replicate count number) ts in
    omega (arith, own, both)

-- ---- the turns of a schedule's notes, name by name

turns_between : (names : List (List ℕ)) (w : WorldState) (l : Log) (n : ℕ) → AreBetween (n + 1) (n + length names) (note_turns_from w l n names)
unfolding note_turns_from
turns_between [] w l n = tt
turns_between (name ∷ names) w l n = by_turn (λ v m. turns_between names v m (n + 1)) (turn_of w name)
  where
    by_turn : ((v : WorldState) (m : Log) → AreBetween (n + 1 + 1) (n + 1 + length names) (note_turns_from v m (n + 1) names)) → (o : Option Taken)
        → AreBetween (n + 1) (n + length (name ∷ names)) (elim o [ None ↦ [] | Some t ↦ turns_added (n + 1) l (log_turn w l name t.event) ++ note_turns_from t.world (log_turn w l name t.event) (n + 1) names ])
    by_turn more None = tt
    by_turn more (Some t) =
        let m = log_turn w l name t.event in
        let ts = note_turns_from t.world m (n + 1) names in
        let high = n + length (name ∷ names) in
        let same : n + 1 + length names ≡ high = omega arith in
        let later : AreBetween (n + 1) high ts = between_from (n + 1) (n + 1 + 1) high ts (omega arith) (subst (λ h. AreBetween (n + 1 + 1) h ts) same (more t.world m)) in
        between_added (length m.notes - length l.notes) (n + 1) (n + 1) high ts (omega arith) (omega arith) later

-- as many are of the next k turns as these have notes
turns_up_to : (names : List (List ℕ)) (k : ℕ) (w : WorldState) (l : Log) (n : ℕ) → count_by (λ t. nat_le t (n + k)) (note_turns_from w l n names) + length l.notes ≡ length (log_from w l (take k names)).notes
unfolding note_turns_from log_from
turns_up_to names zero w l n =
    let below : n + 0 < n + 1 = omega arith in
    let none = none_below (n + 1) (n + length names) (n + 0) (note_turns_from w l n names) below (turns_between names w l n) in
    omega (arith, none)
turns_up_to [] (suc k) w l n = omega arith
turns_up_to (name ∷ names) (suc k) w l n = by_turn (λ v m. turns_up_to names k v m (n + 1)) (turn_of w name)
  where
    by_turn : ((v : WorldState) (m : Log) → count_by (λ t. nat_le t (n + 1 + k)) (note_turns_from v m (n + 1) names) + length m.notes ≡ length (log_from v m (take k names)).notes) → (o : Option Taken)
        → (let x : Log = elim o [ None ↦ l | Some t ↦ log_from t.world (log_turn w l name t.event) (take k names) ] in
        count_by (λ t. nat_le t (n + suc k)) (elim o [ None ↦ [] | Some t ↦ turns_added (n + 1) l (log_turn w l name t.event) ++ note_turns_from t.world (log_turn w l name t.event) (n + 1) names ]) + length l.notes ≡ length x.notes)
    by_turn more None = omega arith
    by_turn more (Some t) =
        let m = log_turn w l name t.event in
        let ts = note_turns_from t.world m (n + 1) names in
        let own = length m.notes - length l.notes in
        let same : n + 1 + k ≡ n + suc k = omega arith in
        let later : count_by (λ x. nat_le x (n + suc k)) ts + length m.notes ≡ length (log_from t.world m (take k names)).notes = subst (λ h. count_by (λ x. nat_le x h) ts + length m.notes ≡ length (log_from t.world m (take k names)).notes) same (more t.world m) in
        let both : count_by (λ x. nat_le x (n + suc k)) (replicate own (n + 1) ++ ts) ≡ own + count_by (λ x. nat_le x (n + suc k)) ts = added_count own (n + 1) (n + suc k) ts (omega arith) in
        let no_less = turn_adds w l name t.event in
        omega (arith, later, both, no_less)

turns_count : (names : List (List ℕ)) (w : WorldState) (l : Log) (n : ℕ) → length (note_turns_from w l n names) + length l.notes ≡ length (log_from w l names).notes
unfolding note_turns_from log_from
turns_count [] w l n = omega arith
turns_count (name ∷ names) w l n = by_turn (λ v m. turns_count names v m (n + 1)) (turn_of w name)
  where
    by_turn : ((v : WorldState) (m : Log) → length (note_turns_from v m (n + 1) names) + length m.notes ≡ length (log_from v m names).notes) → (o : Option Taken)
        → (let x : Log = elim o [ None ↦ l | Some t ↦ log_from t.world (log_turn w l name t.event) names ] in
        length {A = ℕ} (elim o [ None ↦ [] | Some t ↦ turns_added (n + 1) l (log_turn w l name t.event) ++ note_turns_from t.world (log_turn w l name t.event) (n + 1) names ]) + length l.notes ≡ length x.notes)
    by_turn more None = omega arith
    by_turn more (Some t) =
        let m = log_turn w l name t.event in
        let ts = note_turns_from t.world m (n + 1) names in
        let own = length m.notes - length l.notes in
        let later = more t.world m in
        let both : length (replicate own (n + 1) ++ ts) ≡ length (replicate own (n + 1)) + length ts = length-append (replicate own (n + 1)) ts in
        let count : length (replicate own (n + 1)) ≡ own = length-replicate own (n + 1) in
        let no_less = turn_adds w l name t.event in
        omega (arith, later, both, count, no_less)

pub as_many_turns : (i : Image) (names : List (List ℕ)) → length (note_turns i names) ≡ length (log_of i names).notes
as_many_turns i names = (let count = turns_count names (initial_state i) (opening_log i) 0 in omega (arith, count))

pub each_has_its_turn : EachNoteHasItsTurn
each_has_its_turn i names =
    let w = initial_state i in
    let l = opening_log i in
    let ts = note_turns i names in
    let last : 0 + length names ≡ length names = omega arith in
    let are : AreBetween 1 (length names) ts = subst (λ high. AreBetween 1 high ts) last (turns_between names w l 0) in
    record {
      each = as_many_turns i names;
      within = between_all 1 (length names) ts (omega arith) are;
      in_order = between_ordered 1 (length names) ts are;
      up_to = λ k.
          (let same : 0 + k ≡ k = omega arith in
          let count : count_by (λ t. nat_le t k) ts + length l.notes ≡ length (log_of i (take k names)).notes = subst (λ h. count_by (λ t. nat_le t h) ts + length l.notes ≡ length (log_of i (take k names)).notes) same (turns_up_to names k w l 0) in
          omega (arith, count));
    }
