-- The cells of a run begin as the rules of the cells have it.
use Rattle.std.proofs.Common.{◌≡◌, ℕ, zero, suc, ◌+◌, List, [], ◌∷◌, ◌++◌, map, refl, ap, ◌∙◌, arith}
use Rattle.std.specs.Prelude.{Option, Some, None, option_map, slice_get}
use Rattle.wedge_base.specs.Images.{Image}
use Rattle.wedge_events.specs.Slots.{declared_segment, declared_slots}
use Rattle.wedge_events.specs.Streams.{declared_stream}
use Rattle.wedge_base.specs.declared.image.TagEntry.{TagEntry}
use Rattle.wedge_base.specs.declared.image.FdEntry.{FdEntry}
use Rattle.machine.specs.Cells.{held, nothings}
use Rattle.run_laws.specs.Laws.{CellsOpen}

-- cells with nothing in them, alone and behind others
in_nothings : {X : Type 0} (k n : ℕ) → held (slice_get (nothings {X = X} k) n) ≡ None
unfolding nothings
in_nothings zero n = refl
in_nothings (suc k) zero = refl
in_nothings (suc k) (suc n) = in_nothings k n

before_nothings : {X : Type 0} (xs : List (Option X)) (k n : ℕ) → held (slice_get (xs ++ nothings k) n) ≡ held (slice_get xs n)
before_nothings [] k n = in_nothings k n
before_nothings (x ∷ xs) k zero = refl
before_nothings (x ∷ xs) k (suc n) = before_nothings xs k n

slot_at : (n k m : ℕ) (ts : List TagEntry) → n + k ≡ m → held (slice_get (declared_slots n ts) k) ≡ option_map (declared_segment m) (slice_get ts k)
slot_at n k m [] e = refl
slot_at n zero m (t ∷ ts) e = let same : n ≡ m = omega arith in ap (λ x. Some (declared_segment x t)) same
slot_at n (suc k) m (t ∷ ts) e = let next : n + 1 + k ≡ m = omega arith in slot_at (n + 1) k m ts next

stream_at : (k : ℕ) (fs : List FdEntry) → held (slice_get (map (λ f. Some (declared_stream f)) fs) k) ≡ option_map declared_stream (slice_get fs k)
stream_at k [] = refl
stream_at zero (f ∷ fs) = refl
stream_at (suc k) (f ∷ fs) = stream_at k fs

pub cells_open : (i : Image) → CellsOpen i
cells_open i = record {
  places = refl;
  slots = λ slot. let same : 0 + slot ≡ slot = omega arith in before_nothings (declared_slots 0 i.tags) _ slot ∙ slot_at 0 slot slot i.tags same;
  numbers = refl;
  streams = λ fd. before_nothings (map (λ f. Some (declared_stream f)) i.fds) _ fd ∙ stream_at fd i.fds;
  lives = refl;
  gates = λ id. refl;
}
