-- A turn that is taken back.
use Rattle.std.proofs.Common.{◌≡◌, ◌-◌, ◌<◌, Bool, true, List, [], ◌∷◌, ◌++◌, length, take, refl, sym, ap, subst, ◌∙◌, arith}
use Rattle.wedge_base.specs.Images.{Image}
use Rattle.wedge_events.specs.Journals.{turns_of, numbered}
use Rattle.wedge_events.specs.declared.events.LogEntry.{LogEntry}
use Rattle.wedge_events.specs.declared.events.Turn.{Turn}
use Rattle.machine.specs.Actors.{ActorState}
use Rattle.machine.specs.Cells.{Cells}
use Rattle.machine.specs.Worlds.{WorldState, initial_state, Runs}
use Rattle.world_turns.proofs.Advancing.{IsKept, IsUndone, undone, stopped_run}
use Rattle.world_turns.proofs.Numbering.{turns_of-numbered}

-- the run up to the last turn
shorter : (old new : WorldState) (turns : List Turn) (t : Turn) → Runs old (turns ++ t ∷ []) new → (mid : WorldState) × Runs old turns mid
shorter old new [] t run = (old, refl)
shorter old new (u ∷ us) t run = let more = shorter run.0 new us t run.2 in (more.0, (run.0, run.1, more.1))

-- a list that is not empty ends with something
split : (x : Turn) (xs : List Turn) → (front : List Turn) × (t : Turn) × (x ∷ xs ≡ front ++ t ∷ [])
split x [] = ([], x, refl)
split x (y ∷ ys) = let more = split y ys in (x ∷ more.0, more.1, ap (λ zs. x ∷ zs) more.2)

pub split_last : (xs : List Turn) → 0 < length xs → (front : List Turn) × (t : Turn) × (xs ≡ front ++ t ∷ [])
split_last [] some = absurd (omega (arith, some))
split_last (x ∷ xs) some = split x xs

-- what a list but its last is does not depend on how it is split
same_front : (xs ys : List Turn) (t u : Turn) → xs ++ t ∷ [] ≡ ys ++ u ∷ [] → xs ≡ ys
same_front [] [] t u e = refl
same_front [] (y ∷ []) t u e = absurd cc
same_front [] (y ∷ z ∷ zs) t u e = absurd cc
same_front (x ∷ []) [] t u e = absurd cc
same_front (x ∷ z ∷ zs) [] t u e = absurd cc
same_front (x ∷ xs) (y ∷ ys) t u e =
    let heads : x ≡ y = cc in
    let tails : xs ++ t ∷ [] ≡ ys ++ u ∷ [] = cc in
    ap (λ z. z ∷ xs) heads ∙ ap (λ zs. y ∷ zs) (same_front xs ys t u tails)

-- nor does the last
pub last_of : (xs ys : List Turn) (t u : Turn) → xs ++ t ∷ [] ≡ ys ++ u ∷ [] → u.event ≡ t.event
last_of [] [] t u e = let one : t ≡ u = cc in ap (λ (x : Turn). x.event) (sym one)
last_of [] (y ∷ []) t u e = absurd cc
last_of [] (y ∷ z ∷ zs) t u e = absurd cc
last_of (x ∷ []) [] t u e = absurd cc
last_of (x ∷ z ∷ zs) [] t u e = absurd cc
last_of (x ∷ xs) (y ∷ ys) t u e = (let tails : xs ++ t ∷ [] ≡ ys ++ u ∷ [] = cc in last_of xs ys t u tails)

-- a world without its last entry that has stopped keeps what it keeps
pub record IsBack (i : Image) (cells : Cells) (actors : List ActorState) (entries popped : List LogEntry) : Type 0 where
  pub kept : IsKept i cells actors popped true
  pub turns : (before : List Turn) (t : Turn) → turns_of entries ≡ before ++ t ∷ [] → turns_of popped ≡ before

pub taken_back : (i : Image) (cells : Cells) (actors : List ActorState) (entries popped : List LogEntry) (stopped : Bool) → IsKept i cells actors entries stopped → 0 < length (turns_of entries)
    → popped ≡ take (length entries - 1) entries → IsBack i cells actors entries popped
taken_back i cells actors entries popped stopped k some is =
    let s = split_last (turns_of entries) some in
    let front = s.0 in
    let t = s.1 in
    let back : IsUndone (numbered 1 front) popped = undone (numbered 1 front) entries popped t k.numbered (s.2 ∙ ap (λ ts. ts ++ t ∷ []) (sym (turns_of-numbered 1 front))) is in
    let turns : turns_of popped ≡ front = back.turns ∙ turns_of-numbered 1 front in
    let mid = shorter (initial_state i) k.run.last front t (subst (λ ts. Runs (initial_state i) ts k.run.last) s.2 k.run.run) in
    record {
      kept = record {
        numbered = back.numbered;
        run = stopped_run i i cells actors front (turns_of popped) mid.0 refl turns mid.1;
        family = λ e. absurd cc;
      };
      turns = λ before u noted. turns ∙ same_front front before t u (sym s.2 ∙ noted);
    }
