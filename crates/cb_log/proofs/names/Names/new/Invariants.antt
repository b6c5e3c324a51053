use Rattle.std.proofs.Common.{◌≡◌, ◌≤◌, ◌==◌, ℕ, drop, length}
use Rattle.std.specs.Prelude.{find, option_map, nat_eq}
use Rattle.std.specs.HashMap.{get}
use Rattle.cb_log.proofs.names.Names.new.Given as goal

-- the procedures from a place on are noted
abbrev pub invariant-loop-left : goal.invariant-loop-left
invariant-loop-left l = record {
  inside : l.left ≤ length l.procedures;
  noted : (q : ℕ) → option_map (λ name. name.now) (get nat_eq l.names q) ≡ option_map (λ p. p.name) (find (λ p. p.address == q) (drop l.left l.procedures));
}

abbrev pub decreases-loop-left : goal.decreases-loop-left
decreases-loop-left l = l.left
