-- Private copies by slot: one removed, and one written in place. The slots rise.
use Rattle.std.proofs.Common.{◌≡◌, ℕ, Bool, true, false, not, List, [], ◌∷◌, length, refl, sym, ap, subst, ◌∙◌, arith}
use Rattle.std.specs.Prelude.{Some, None, if◌then◌else◌}
use Rattle.std.specs.BTreeMap.{is_at}
use Rattle.std.specs.List.{AllByRecursion}
use Rattle.std.specs.List.Sorted.{IsStrictlySortedBy}
use Rattle.std.specs.Map.{remove_entry, set_value, keys_of}
use Rattle.std.specs.Ordering.{nat_cmp, is_eq, match_ordering}
use Rattle.std.specs.declared.cmp.Ordering.{Ordering}
use Rattle.std.specs.declared.cmp.Ordering.TheVariants.{Less, Equal, Greater}
use Rattle.std.proofs.lemmas.Map.Steps.{set_value_same}
use Rattle.wedge_base.specs.Bytes.{overwrite}
use Rattle.cow_pages.specs.Copies.{Copies, copy_at, with_copy, without_copy, holds_copy, stored_in, stored_copy}

-- ---- where all slots are greater

none_left : (k : ℕ) (cs : Copies) → AllByRecursion (λ c. nat_cmp k c ≡ Less) (keys_of cs) → without_copy cs k ≡ cs
none_left k [] h = refl
none_left k (c ∷ cs) h = ap (λ o. if not (is_eq o) then c ∷ without_copy cs k else without_copy cs k) h.0 ∙ ap (λ ds. c ∷ ds) (none_left k cs h.1)

none_there : (k : ℕ) (cs : Copies) → AllByRecursion (λ c. nat_cmp k c ≡ Less) (keys_of cs) → copy_at cs k ≡ None
none_there k [] h = refl
none_there k (c ∷ cs) h = ap (λ o. if is_eq o then Some c.1 else copy_at cs k) h.0 ∙ none_there k cs h.1

cmp_below : (x y z : ℕ) → nat_cmp x y ≡ Less → nat_cmp y z ≡ Less → nat_cmp x z ≡ Less
cmp_below x y z e f = grind (arith, e, f)

all_greater : (k j : ℕ) (ks : List ℕ) → nat_cmp k j ≡ Less → AllByRecursion (λ c. nat_cmp j c ≡ Less) ks → AllByRecursion (λ c. nat_cmp k c ≡ Less) ks
all_greater k j [] e h = tt
all_greater k j (c ∷ ks) e h = (cmp_below k j c e h.0, all_greater k j ks e h.1)

-- ---- a copy removed

pub removed_is : (k : ℕ) (cs : Copies) → IsStrictlySortedBy nat_cmp (keys_of cs) → remove_entry (is_at (nat_cmp k)) cs ≡ without_copy cs k
unfolding IsStrictlySortedBy
removed_is k [] h = refl
removed_is k (c ∷ cs) h = by_order (nat_cmp k c.0) refl (removed_is k cs h.1)
  where
    cmp_same : (x y : ℕ) → nat_cmp x y ≡ Equal → x ≡ y
    cmp_same x y e = grind (arith, e)

    by_order : (o : Ordering) → nat_cmp k c.0 ≡ o → remove_entry (is_at (nat_cmp k)) cs ≡ without_copy cs k → (if is_eq o then cs else c ∷ remove_entry (is_at (nat_cmp k)) cs) ≡ (if not (is_eq o) then c ∷ without_copy cs k else without_copy cs k)
    by_order Less e others = ap (λ ds. c ∷ ds) others
    by_order Greater e others = ap (λ ds. c ∷ ds) others
    by_order Equal e others = sym (none_left k cs (subst (λ n. AllByRecursion (λ d. nat_cmp n d ≡ Less) (keys_of cs)) (sym (cmp_same k c.0 e)) h.0))

-- ---- a copy written in place

pub set_is : (k : ℕ) (cs : Copies) (bytes new : List ℕ) → IsStrictlySortedBy nat_cmp (keys_of cs) → copy_at cs k ≡ Some bytes → set_value (is_at (nat_cmp k)) cs new ≡ with_copy cs k new
unfolding IsStrictlySortedBy
set_is k [] bytes new h there = absurd cc
set_is k (c ∷ cs) bytes new h there = by_order (nat_cmp k c.0) refl there (set_is k cs bytes new h.1)
  where
    by_order : (o : Ordering) → nat_cmp k c.0 ≡ o → (if is_eq o then Some c.1 else copy_at cs k) ≡ Some bytes → (copy_at cs k ≡ Some bytes → set_value (is_at (nat_cmp k)) cs new ≡ with_copy cs k new)
        → (if is_eq o then (c.0, new) ∷ cs else c ∷ set_value (is_at (nat_cmp k)) cs new) ≡ match_ordering o ((k, new) ∷ c ∷ cs) ((c.0, new) ∷ cs) (c ∷ with_copy cs k new)
    by_order Less e found others = let none = none_there k cs (all_greater k c.0 (keys_of cs) e h.0) in absurd cc
    by_order Equal e found others = refl
    by_order Greater e found others = ap (λ ds. c ∷ ds) (others found)

pub stored_is : (cs : Copies) (k offset : ℕ) (bytes now after : List ℕ) (held : Bool) → IsStrictlySortedBy nat_cmp (keys_of cs) → copy_at cs k ≡ Some now → held ≡ holds_copy offset (length bytes) now
    → (held ≡ true → after ≡ overwrite now offset bytes) → (held ≡ false → after ≡ now) → set_value (is_at (nat_cmp k)) cs after ≡ stored_copy cs k offset bytes
stored_is cs k offset bytes now after true h there holds writes stays =
    ap (set_value (is_at (nat_cmp k)) cs) (writes refl)
    ∙ set_is k cs now (overwrite now offset bytes) h there
    ∙ ap (λ (b : Bool). if b then with_copy cs k (overwrite now offset bytes) else cs) holds
    ∙ ap (stored_in cs k offset bytes) (sym there)
stored_is cs k offset bytes now after false h there holds writes stays =
    ap (set_value (is_at (nat_cmp k)) cs) (stays refl)
    ∙ set_value_same (is_at (nat_cmp k)) cs now there
    ∙ ap (λ (b : Bool). if b then with_copy cs k (overwrite now offset bytes) else cs) holds
    ∙ ap (stored_in cs k offset bytes) (sym there)
