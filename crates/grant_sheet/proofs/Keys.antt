-- The keys of the maps of sheets rise: of one that a draft gives as the draft's do, and of the root's by their numbers.
use Rattle.std.proofs.Common.{◌≡◌, ℕ, ◌+◌, ◌≤◌, Bool, true, false, ◌||◌, List, [], ◌∷◌, ◌++◌, drop, length, map, filter_map, Option, Some, None, is_some, if◌then◌else◌, refl, sym, ap, subst, ◌∙◌, arith}
use Rattle.std.specs.List.{cons_option}
use Rattle.std.proofs.lemmas.List.{append-nil, drop_all}
use Rattle.std.specs.Option.{option_map}
use Rattle.std.specs.Ordering.{nat_cmp, is_eq}
use Rattle.std.specs.declared.cmp.Ordering.{Ordering}
use Rattle.std.specs.declared.cmp.Ordering.TheVariants.{Less, Equal, Greater}
use Rattle.std.specs.FinMap.Entries.{by_order}
use Rattle.wedge_base.specs.Maps.{Map, at, has, with, keys, with_number, is_among, AreRising}
use Rattle.wedge_base.specs.Sheets.{Sheet, Made, tag_granted, gate_granted, gate_at, with_grant, root_tags, root_fds}
use Rattle.wedge_base.specs.declared.grants.GateId.{GateId}
use Rattle.wedge_base.specs.declared.rights.Grant.{Grant}
use Rattle.wedge_base.specs.declared.rights.Right.{Right}
use Rattle.wedge_base.specs.declared.rights.FdBits.{FdBits}
use Rattle.wedge_base.specs.declared.image.TagEntry.{TagEntry}
use Rattle.wedge_base.specs.declared.image.FdEntry.{FdEntry}

pub keys_granted : (s : Sheet) (m : Made) (es : Map Right) → keys (map (tag_granted s m) es) ≡ keys es
keys_granted s m [] = refl
keys_granted s m (e ∷ es) = ap (λ ns. e.0 ∷ ns) (keys_granted s m es)

pub rising_weaker : (low high : ℕ) (ns : List ℕ) → low ≤ high → AreRising high ns → AreRising low ns
rising_weaker low high [] le rising = tt
rising_weaker low high (n ∷ ns) le rising = (omega (arith, rising.0), rising.1)

gates_if : (low n : ℕ) (o : Option GateId) (rest : Map GateId) → low ≤ n → AreRising (n + 1) (keys rest)
    → AreRising low (keys (cons_option (option_map (λ id. (n, id)) o) rest))
gates_if low n None rest le rising = rising_weaker low (n + 1) (keys rest) (omega arith) rising
gates_if low n (Some id) rest le rising = (le, rising)

pub rising_gates : (s : Sheet) (m : Made) (low : ℕ) (ns : List ℕ) → AreRising low ns → AreRising low (keys (filter_map (gate_granted s m) ns))
rising_gates s m low [] rising = tt
rising_gates s m low (n ∷ ns) rising =
    gates_if low n (gate_at s m n) (filter_map (gate_granted s m) ns) rising.0 (rising_gates s m (n + 1) ns rising.1)

keys_if : {X : Type 0} (k : ℕ) (v : X) (e : ℕ × X) (es : Map X) (o : Ordering) → keys (with es k v) ≡ with_number (keys es) k
    → keys (by_order o ((k, v) ∷ e ∷ es) ((e.0, v) ∷ es) (e ∷ with es k v)) ≡ by_order o (k ∷ e.0 ∷ keys es) (e.0 ∷ keys es) (e.0 ∷ with_number (keys es) k)
keys_if k v e es Less rest = refl
keys_if k v e es Equal rest = refl
keys_if k v e es Greater rest = ap (λ ns. e.0 ∷ ns) rest

-- a value put at a key puts the key among the numbers
pub keys_with : {X : Type 0} (es : Map X) (k : ℕ) (v : X) → keys (with es k v) ≡ with_number (keys es) k
keys_with [] k v = refl
keys_with (e ∷ es) k v = keys_if k v e es (nat_cmp k e.0) (keys_with es k v)

has_if : {X : Type 0} (k : ℕ) (e : ℕ × X) (es : Map X) (b : Bool) → is_among (keys es) k ≡ has es k → (b || is_among (keys es) k) ≡ is_some (if b then Some e.1 else at es k)
has_if k e es true rest = refl
has_if k e es false rest = rest

pub among_keys : {X : Type 0} (es : Map X) (k : ℕ) → is_among (keys es) k ≡ has es k
among_keys [] k = refl
among_keys (e ∷ es) k = has_if k e es (is_eq (nat_cmp k e.0)) (among_keys es k)

-- ---- the root's sheet

grant_rising : (low n : ℕ) (r : Option Right) (rest : Map Grant) → low ≤ n → AreRising (n + 1) (keys rest)
    → AreRising low (keys (with_grant n r rest))
grant_rising low n None rest le rising = rising_weaker low (n + 1) (keys rest) (omega arith) rising
grant_rising low n (Some r) rest le rising = (le, rising)

root_tags_rising : (n : ℕ) (ts : List TagEntry) → AreRising n (keys (root_tags n ts))
root_tags_rising n [] = tt
root_tags_rising n (t ∷ ts) =
    grant_rising n n t.right (root_tags (n + 1) ts) (omega arith) (root_tags_rising (n + 1) ts)

root_fds_rising : (n : ℕ) (fs : List FdEntry) → AreRising n (keys (root_fds n fs))
root_fds_rising n [] = tt
root_fds_rising n (f ∷ fs) = (omega arith, root_fds_rising (n + 1) fs)

-- ---- as a loop that makes a map ends

module _ {X Y : Type 0} (f : List X → List Y) (nothing : f [] ≡ []) where
  all_made : (made all : List Y) (xs : List X) (i : ℕ) → length xs ≤ i → made ++ f (drop i xs) ≡ all → made ≡ all
  all_made made all xs i past e =
      sym (append-nil made) ∙ ap (λ ys. made ++ ys) (sym (ap f (drop_all i xs past) ∙ nothing)) ∙ e

pub granted_rising : (s : Sheet) (m : Made) (gs : Map Grant) (es : Map Right) (i : ℕ) → length es ≤ i
    → gs ++ map (tag_granted s m) (drop i es) ≡ map (tag_granted s m) es → AreRising 0 (keys es) → AreRising 0 (keys gs)
granted_rising s m gs es i past e rising =
    let made = all_made (map (tag_granted s m)) refl gs (map (tag_granted s m) es) es i past e in
    subst (AreRising 0) (sym (ap keys made ∙ keys_granted s m es)) rising

pub gates_rising : (s : Sheet) (m : Made) (gs : Map GateId) (es : List (ℕ × Unit {0})) (i : ℕ) → length es ≤ i
    → gs ++ filter_map (gate_granted s m) (keys (drop i es)) ≡ filter_map (gate_granted s m) (keys es)
    → AreRising 0 (keys es) → AreRising 0 (keys gs)
gates_rising s m gs es i past e rising =
    let made = all_made (λ l. filter_map (gate_granted s m) (keys l)) refl gs (filter_map (gate_granted s m) (keys es)) es i past e in
    subst (λ l. AreRising 0 (keys l)) (sym made) (rising_gates s m 0 (keys es) rising)

pub tags_rising : (gs : Map Grant) (ts : List TagEntry) (n i : ℕ) → length ts ≤ i
    → gs ++ root_tags n (drop i ts) ≡ root_tags 0 ts → AreRising 0 (keys gs)
tags_rising gs ts n i past e =
    let made = all_made (root_tags n) refl gs (root_tags 0 ts) ts i past e in
    subst (λ l. AreRising 0 (keys l)) (sym made) (root_tags_rising 0 ts)

pub fds_rising : (bs : Map FdBits) (fs : List FdEntry) (n i : ℕ) → length fs ≤ i
    → bs ++ root_fds n (drop i fs) ≡ root_fds 0 fs → AreRising 0 (keys bs)
fds_rising bs fs n i past e =
    let made = all_made (root_fds n) refl bs (root_fds 0 fs) fs i past e in
    subst (λ l. AreRising 0 (keys l)) (sym made) (root_fds_rising 0 fs)
