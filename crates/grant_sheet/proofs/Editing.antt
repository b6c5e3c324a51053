-- A draft with one grant more asks for exactly that at its place, and for all else as before; so with
-- what an actor made.
use Rattle.std.proofs.Common.{◌≡◌, ℕ, ◌+◌, ◌≤◌, Bool, true, false, ◌||◌, cond, List, [], ◌∷◌, Some, refl, sym, ap, ◌∙◌, arith}
use Rattle.std.specs.Ordering.{nat_cmp, is_eq, eq_by_cmp}
use Rattle.std.specs.declared.cmp.Ordering.{Ordering}
use Rattle.std.specs.declared.cmp.Ordering.TheVariants.{Less, Equal, Greater}
use Rattle.std.specs.Cmp.{nat_cmp_total}
use Rattle.std.specs.FinMap.Entries.{by_order, find-put, is_sorted-put}
use Rattle.std.proofs.lemmas.Bool.Decides.{nat_tests}
use Rattle.wedge_base.specs.Maps.{Map, at, with, with_number, is_among, AreRising}
use Rattle.wedge_base.specs.Sheets.{Made, Draft, with_tag, with_fd, with_gate, made_tag, made_fd, made_gate}
use Rattle.wedge_base.specs.declared.grants.GateId.{GateId}
use Rattle.wedge_base.specs.declared.rights.FdBits.{FdBits}
use Rattle.wedge_base.specs.declared.rights.Right.{Right}
use Rattle.grant_sheet.specs.Missing.{IsSortedDraft}
use Rattle.grant_sheet.specs.Editing.{HasTagMore, HasFdMore, HasGateMore, MadeTagMore, MadeFdMore, MadeGateMore, DraftsTakeOneGrant}

equal : (k n : ℕ) → k ≡ n → eq_by_cmp nat_cmp k n ≡ true
equal k n e = grind (arith, nat_tests)

unequal : (k n : ℕ) → (k ≡ n → ⊥) → eq_by_cmp nat_cmp k n ≡ false
unequal k n ne = by_test (eq_by_cmp nat_cmp k n) refl
  where
    alike : (k n : ℕ) → eq_by_cmp nat_cmp k n ≡ true → k ≡ n
    alike k n e = grind (arith, nat_tests)

    by_test : (t : Bool) → eq_by_cmp nat_cmp k n ≡ t → t ≡ false
    by_test true e = absurd (ne (alike k n e))
    by_test false e = refl

-- ---- a map with a value put at a key

module _ {X : Type 0} (m : Map X) (k : ℕ) (v : X) where
  at_key : at (with m k v) k ≡ Some v
  at_key = find-put nat_cmp nat_cmp_total k k v m ∙ ap (λ t. cond t (Some v) (at m k)) (equal k k refl)

  at_others : (q : ℕ) → (q ≡ k → ⊥) → at (with m k v) q ≡ at m q
  at_others q ne = find-put nat_cmp nat_cmp_total q k v m ∙ ap (λ t. cond t (Some v) (at m q)) (unequal q k ne)

-- ---- numbers with one more

abbrev is_number : ℕ → ℕ → Bool
is_number q n = is_eq (nat_cmp q n)

twice : (x y : Bool) → (x || y) ≡ (x || (x || y))
twice true y = refl
twice false y = refl

swapped : (x y z : Bool) → (x || (y || z)) ≡ (y || (x || z))
swapped true true z = refl
swapped true false z = refl
swapped false true z = refl
swapped false false z = refl

same_number : (k n : ℕ) → nat_cmp k n ≡ Equal → k ≡ n
same_number k n e = grind (arith, nat_tests)

among_if : (n k q : ℕ) (ns : List ℕ) (o : Ordering) → nat_cmp k n ≡ o
    → is_among (with_number ns k) q ≡ (is_number q k || is_among ns q)
    → is_among (by_order o (k ∷ n ∷ ns) (n ∷ ns) (n ∷ with_number ns k)) q ≡ (is_number q k || (is_number q n || is_among ns q))
among_if n k q ns Less e rest = refl
among_if n k q ns Equal e rest =
    twice (is_number q n) (is_among ns q)
    ∙ ap (λ x. is_number q x || (is_number q n || is_among ns q)) (sym (same_number k n e))
among_if n k q ns Greater e rest =
    ap (λ t. is_number q n || t) rest ∙ swapped (is_number q n) (is_number q k) (is_among ns q)

-- what is among numbers with one more is that one, or among them
among_with : (ns : List ℕ) (k q : ℕ) → is_among (with_number ns k) q ≡ (is_number q k || is_among ns q)
among_with [] k q = refl
among_with (n ∷ ns) k q = among_if n k q ns (nat_cmp k n) refl (among_with ns k q)

among_itself : (ns : List ℕ) (k : ℕ) → is_among (with_number ns k) k ≡ true
among_itself ns k = among_with ns k k ∙ ap (λ t. t || is_among ns k) (equal k k refl)

among_others : (ns : List ℕ) (k q : ℕ) → (q ≡ k → ⊥) → is_among (with_number ns k) q ≡ is_among ns q
among_others ns k q ne = among_with ns k q ∙ ap (λ t. t || is_among ns q) (unequal q k ne)

-- ---- drafts

tag_more : (d : Draft) (k : ℕ) (asked : Right) → HasTagMore d k asked (with_tag d k asked)
tag_more d k asked = record {
  there = at_key d.tags k asked;
  others = at_others d.tags k asked;
  fds = refl;
  gates = refl;
  user = refl;
  root = refl;
}

fd_more : (d : Draft) (k : ℕ) (asked : FdBits) → HasFdMore d k asked (with_fd d k asked)
fd_more d k asked = record {
  there = at_key d.fds k asked;
  others = at_others d.fds k asked;
  tags = refl;
  gates = refl;
  user = refl;
  root = refl;
}

gate_more : (d : Draft) (k : ℕ) → HasGateMore d k (with_gate d k)
gate_more d k = record {
  there = among_itself d.gates k;
  others = among_others d.gates k;
  tags = refl;
  fds = refl;
  user = refl;
  root = refl;
}

-- ---- what an actor made

tag_made_more : (m : Made) (k slot : ℕ) → MadeTagMore m k slot (made_tag m k slot)
tag_made_more m k slot = record {
  there = at_key m.tags k slot;
  others = at_others m.tags k slot;
  fds = refl;
  gates = refl;
  count = refl;
}

fd_made_more : (m : Made) (k : ℕ) (bits : FdBits) → MadeFdMore m k bits (made_fd m k bits)
fd_made_more m k bits = record {
  there = at_key m.fds k bits;
  others = at_others m.fds k bits;
  tags = refl;
  gates = refl;
  count = refl;
}

gate_made_more : (m : Made) (k : ℕ) (gate : GateId) → MadeGateMore m k gate (made_gate m k gate)
gate_made_more m k gate = record {
  there = at_key m.gates k gate;
  others = at_others m.gates k gate;
  count = refl;
  tags = refl;
  fds = refl;
}

-- ---- order

rise_if : (low n k : ℕ) (ns : List ℕ) (o : Ordering) → nat_cmp k n ≡ o → low ≤ k → AreRising low (n ∷ ns)
    → (n + 1 ≤ k → AreRising (n + 1) (with_number ns k))
    → AreRising low (by_order o (k ∷ n ∷ ns) (n ∷ ns) (n ∷ with_number ns k))
rise_if low n k ns Less e from rising rest = (from, (grind (arith, e), rising.1))
rise_if low n k ns Equal e from rising rest = rising
rise_if low n k ns Greater e from rising rest = (rising.0, rest (grind (arith, e)))

pub rising_with : (low k : ℕ) (ns : List ℕ) → low ≤ k → AreRising low ns → AreRising low (with_number ns k)
rising_with low k [] from rising = (from, tt)
rising_with low k (n ∷ ns) from rising =
    rise_if low n k ns (nat_cmp k n) refl from rising (λ above. rising_with (n + 1) k ns above rising.1)

tag_in_order : (d : Draft) (k : ℕ) (asked : Right) → IsSortedDraft d → IsSortedDraft (with_tag d k asked)
tag_in_order d k asked sorted =
    record { tags = is_sorted-put nat_cmp nat_cmp_total k asked d.tags sorted.tags; fds = sorted.fds; gates = sorted.gates }

fd_in_order : (d : Draft) (k : ℕ) (asked : FdBits) → IsSortedDraft d → IsSortedDraft (with_fd d k asked)
fd_in_order d k asked sorted =
    record { tags = sorted.tags; fds = is_sorted-put nat_cmp nat_cmp_total k asked d.fds sorted.fds; gates = sorted.gates }

gate_in_order : (d : Draft) (k : ℕ) → IsSortedDraft d → IsSortedDraft (with_gate d k)
gate_in_order d k sorted =
    record { tags = sorted.tags; fds = sorted.fds; gates = rising_with 0 k d.gates (omega arith) sorted.gates }

pub one_grant_taken : DraftsTakeOneGrant
one_grant_taken = record {
  tag = tag_more;
  fd = fd_more;
  gate = gate_more;
  tag_made = tag_made_more;
  fd_made = fd_made_more;
  gate_made = gate_made_more;
  empty_sorted = record { tags = tt; fds = tt; gates = tt };
  tag_sorted = tag_in_order;
  fd_sorted = fd_in_order;
  gate_sorted = gate_in_order;
}
