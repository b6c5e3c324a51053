-- The entries of executions that fit together, put in the order of their stamps, are a merge of them.
use Rattle.std.proofs.Common.{◌≡◌, ℕ, ◌<◌, ◌≤◌, Bool, true, false, true≢false, List, [], ◌∷◌, ◌++◌, refl, sym, ap, subst, ◌∙◌, arith, inl, inr, Less, Equal, Greater}
use Rattle.std.proofs.lemmas.Bool.{eqb-true}
use Rattle.std.proofs.lemmas.Bool.Decides.{nat_tests}
use Rattle.std.proofs.lemmas.List.{append_assoc, append-nil}
use Rattle.std.specs.Prelude.{Option, Some, None, ◌==◌, nat_lt, if◌then◌else◌}
use Rattle.std.specs.Ordering.{nat_cmp, is_lt, ordering_then}
use Rattle.std.specs.declared.cmp.Ordering.{Ordering}
use Rattle.std.specs.Cmp.Lexicographic.{slice_cmp}
use Rattle.stable_sort.specs.Sorting.{insert_sorted, sorted_onto}
use Rattle.wedge_base.specs.Images.{Image}
use Rattle.wedge_base.specs.Names.{same}
use Rattle.wedge_events.specs.declared.events.LogEntry.{LogEntry}
use Rattle.machine.specs.Actors.{ActorState}
use Rattle.machine.specs.Take.{takes}
use Rattle.run_laws.specs.Walks.{entries_of}
use Rattle.run_laws.proofs.Named.{same_equal}
use Rattle.thread_laws.specs.Executions.{LearnedEnd, at_next_event, IsWalkWith, Execution, IsExecution}
use Rattle.thread_laws.specs.Merging.{execution_named, entries_in_execution, AreExecutions, IsBelowAll, IsNondecreasing}
use Rattle.thread_laws.specs.Forests.{IsNewName, AreApart}
use Rattle.thread_laws.specs.Sorting.{comes_before, all_entries, OrderIsMerge}
use Rattle.thread_laws.proofs.Creations.{taken_name}
use Rattle.thread_laws.proofs.Forests.{IsIn, found_in}

-- ---- the order

abbrev compared : ℕ → ℕ → Ordering → Bool → Bool → Bool
compared x y o t u = is_lt (ordering_then (if t then Less else (if u then Equal else Greater)) o)

compared_is : (x y : ℕ) (o : Ordering) (t u : Bool) → nat_lt x y ≡ t → (x == y) ≡ u → is_lt (ordering_then (nat_cmp x y) o) ≡ compared x y o t u
compared_is x y o t u lt eq =
    ap (λ b. is_lt (ordering_then (if b then Less else (if x == y then Equal else Greater)) o)) lt
    ∙ ap (λ b. is_lt (ordering_then (if t then Less else (if b then Equal else Greater)) o)) eq

chosen : (x y : ℕ) (o : Ordering) (t u : Bool) → nat_lt x y ≡ t → (x == y) ≡ u → compared x y o t u ≡ true → x ≤ y
chosen x y o true u lt eq h = grind (arith, nat_tests, lt)
chosen x y o false true lt eq h = let is : x ≡ y = eqb-true x y eq in omega (arith, is)
chosen x y o false false lt eq h = absurd (true≢false (sym h))

before_le : (x y : LogEntry) → comes_before x y ≡ true → x.stamp ≤ y.stamp
before_le x y h =
    let o = slice_cmp nat_cmp x.actor y.actor in
    let t = nat_lt x.stamp y.stamp in
    let u = x.stamp == y.stamp in
    chosen x.stamp y.stamp o t u refl refl (sym (compared_is x.stamp y.stamp o t u refl refl) ∙ h)

not_before : (x y : ℕ) (o : Ordering) (t u : Bool) → nat_lt x y ≡ t → compared x y o t u ≡ false → y ≤ x
not_before x y o true u lt h = absurd (true≢false h)
not_before x y o false u lt h = grind (arith, nat_tests, lt)

not_before_le : (x y : LogEntry) → comes_before x y ≡ false → y.stamp ≤ x.stamp
not_before_le x y h =
    let o = slice_cmp nat_cmp x.actor y.actor in
    let t = nat_lt x.stamp y.stamp in
    let u = x.stamp == y.stamp in
    not_before x.stamp y.stamp o t u refl (sym (compared_is x.stamp y.stamp o t u refl refl) ∙ h)

-- ---- stamps never fall

below_insert : (s : ℕ) (x : LogEntry) (ys : List LogEntry) → s ≤ x.stamp → IsBelowAll s ys → IsBelowAll s (insert_sorted comes_before x ys)
below_insert s x [] le h = (le, tt)
below_insert s x (y ∷ ys) le h = by_order (comes_before x y) (below_insert s x ys le h.1)
  where
    by_order : (t : Bool) → IsBelowAll s (insert_sorted comes_before x ys) → IsBelowAll s (if t then x ∷ y ∷ ys else y ∷ insert_sorted comes_before x ys)
    by_order true others = (le, h)
    by_order false others = (h.0, others)

below_less : (s r : ℕ) (ys : List LogEntry) → s ≤ r → IsBelowAll r ys → IsBelowAll s ys
below_less s r [] le h = tt
below_less s r (y ∷ ys) le h = let more = h.0 in (omega (arith, le, more), below_less s r ys le h.1)

rising_insert : (x : LogEntry) (ys : List LogEntry) → IsNondecreasing ys → IsNondecreasing (insert_sorted comes_before x ys)
rising_insert x [] h = (tt, tt)
rising_insert x (y ∷ ys) h = by_order (comes_before x y) refl (rising_insert x ys h.1)
  where
    by_order : (t : Bool) → comes_before x y ≡ t → IsNondecreasing (insert_sorted comes_before x ys) → IsNondecreasing (if t then x ∷ y ∷ ys else y ∷ insert_sorted comes_before x ys)
    by_order true e others = let le = before_le x y e in ((le, below_less x.stamp y.stamp ys le h.0), h)
    by_order false e others = (below_insert y.stamp x ys (not_before_le x y e) h.0, others)

rising_sorted : (done xs : List LogEntry) → IsNondecreasing done → IsNondecreasing (sorted_onto comes_before done xs)
rising_sorted done [] h = h
rising_sorted done (x ∷ xs) h = rising_sorted (insert_sorted comes_before x done) xs (rising_insert x done h)

-- ---- the entries of one actor

-- an entry of another makes no difference
other_insert : (m : List ℕ) (x : LogEntry) (ys : List LogEntry) → same x.actor m ≡ false → entries_of m (insert_sorted comes_before x ys) ≡ entries_of m ys
other_insert m x [] other = ap (λ t. if t then x ∷ [] else []) other
other_insert m x (y ∷ ys) other = by_order (comes_before x y) (other_insert m x ys other)
  where
    by_order : (t : Bool) → entries_of m (insert_sorted comes_before x ys) ≡ entries_of m ys → entries_of m (if t then x ∷ y ∷ ys else y ∷ insert_sorted comes_before x ys) ≡ entries_of m (y ∷ ys)
    by_order true others = ap (λ t. if t then x ∷ entries_of m (y ∷ ys) else entries_of m (y ∷ ys)) other
    by_order false others = ap (λ own. if same y.actor m then y ∷ own else own) others

-- stamps up to a number
abbrev AreUpTo : ℕ → List LogEntry → Type 0
AreUpTo s [] = Unit {0}
AreUpTo s (e ∷ es) = (e.stamp ≤ s) × AreUpTo s es

-- where all entries are from a stamp on, and all of one actor below it, there are none of this one
none_own : (m : List ℕ) (s r : ℕ) (ys : List LogEntry) → r < s → IsBelowAll s ys → AreUpTo r (entries_of m ys) → entries_of m ys ≡ []
none_own m s r [] less low up = refl
none_own m s r (y ∷ ys) less low up = by_name (same y.actor m) up (none_own m s r ys less low.1)
  where
    by_name : (t : Bool) → AreUpTo r (if t then y ∷ entries_of m ys else entries_of m ys) → (AreUpTo r (entries_of m ys) → entries_of m ys ≡ []) → (if t then y ∷ entries_of m ys else entries_of m ys) ≡ []
    by_name true h others = let a = h.0 in let b = low.0 in absurd (omega (arith, a, b, less))
    by_name false h others = others h

-- its own entry, above all others of it, comes behind them
own_insert : (m : List ℕ) (r : ℕ) (x : LogEntry) (ys : List LogEntry) → same x.actor m ≡ true → r < x.stamp → IsNondecreasing ys → AreUpTo r (entries_of m ys) → entries_of m (insert_sorted comes_before x ys) ≡ entries_of m ys ++ x ∷ []
own_insert m r x [] own less rise up = ap (λ t. if t then x ∷ [] else []) own
own_insert m r x (y ∷ ys) own less rise up = by_order (comes_before x y) refl (own_insert m r x ys own less rise.1)
  where
    tail_up : (t : Bool) → AreUpTo r (if t then y ∷ entries_of m ys else entries_of m ys) → AreUpTo r (entries_of m ys)
    tail_up true h = h.1
    tail_up false h = h

    by_name : (t : Bool) → entries_of m (insert_sorted comes_before x ys) ≡ entries_of m ys ++ x ∷ []
        → (if t then y ∷ entries_of m (insert_sorted comes_before x ys) else entries_of m (insert_sorted comes_before x ys)) ≡ (if t then y ∷ entries_of m ys else entries_of m ys) ++ x ∷ []
    by_name true others = ap (λ zs. y ∷ zs) others
    by_name false others = others

    by_order : (t : Bool) → comes_before x y ≡ t → (AreUpTo r (entries_of m ys) → entries_of m (insert_sorted comes_before x ys) ≡ entries_of m ys ++ x ∷ [])
        → entries_of m (if t then x ∷ y ∷ ys else y ∷ insert_sorted comes_before x ys) ≡ entries_of m (y ∷ ys) ++ x ∷ []
    by_order true e others =
        let le = before_le x y e in
        let none : entries_of m (y ∷ ys) ≡ [] = none_own m x.stamp r (y ∷ ys) less (le, below_less x.stamp y.stamp ys le rise.0) up in
        ap (λ t. if t then x ∷ entries_of m (y ∷ ys) else entries_of m (y ∷ ys)) own ∙ (ap (λ zs. x ∷ zs) none ∙ sym (ap (λ zs. zs ++ x ∷ []) none))
    by_order false e others = by_name (same y.actor m) (others (tail_up (same y.actor m) up))

-- stamps rise strictly, from above a number on
abbrev pub IsClimbing : ℕ → List LogEntry → Type 0
IsClimbing s [] = Unit {0}
IsClimbing s (e ∷ es) = (s < e.stamp) × IsClimbing e.stamp es

up_behind : (r : ℕ) (x : LogEntry) (ys : List LogEntry) → r < x.stamp → AreUpTo r ys → AreUpTo x.stamp (ys ++ x ∷ [])
up_behind r x [] less h = (omega arith, tt)
up_behind r x (y ∷ ys) less h = let le = h.0 in (omega (arith, le, less), up_behind r x ys less h.1)

own_sorted : (m : List ℕ) (r : ℕ) (done xs : List LogEntry) → IsNondecreasing done → AreUpTo r (entries_of m done) → IsClimbing r (entries_of m xs) → entries_of m (sorted_onto comes_before done xs) ≡ entries_of m done ++ entries_of m xs
own_sorted m r done [] rise up climb = sym (append-nil (entries_of m done))
own_sorted m r done (x ∷ xs) rise up climb = by_name (same x.actor m) refl climb (λ s. own_sorted m s (insert_sorted comes_before x done) xs (rising_insert x done rise))
  where
    by_name : (t : Bool) → same x.actor m ≡ t → IsClimbing r (if t then x ∷ entries_of m xs else entries_of m xs)
        → ((s : ℕ) → AreUpTo s (entries_of m (insert_sorted comes_before x done)) → IsClimbing s (entries_of m xs) → entries_of m (sorted_onto comes_before (insert_sorted comes_before x done) xs) ≡ entries_of m (insert_sorted comes_before x done) ++ entries_of m xs)
        → entries_of m (sorted_onto comes_before (insert_sorted comes_before x done) xs) ≡ entries_of m done ++ (if t then x ∷ entries_of m xs else entries_of m xs)
    by_name true is c others =
        let put = own_insert m r x done is c.0 rise up in
        others x.stamp (subst (AreUpTo x.stamp) (sym put) (up_behind r x (entries_of m done) c.0 up)) c.1
        ∙ (ap (λ zs. zs ++ entries_of m xs) put ∙ append_assoc (entries_of m done) (x ∷ []) (entries_of m xs))
    by_name false is c others =
        let put = other_insert m x done is in
        others r (subst (AreUpTo r) (sym put) up) c ∙ ap (λ zs. zs ++ entries_of m xs) put

-- ---- the entries of executions

walk_climbs : (i : Image) (learned : List LearnedEnd) (a : ActorState) (clock : ℕ) (es : List LogEntry) → IsWalkWith i learned a clock es → IsClimbing clock es
walk_climbs i learned a clock [] w = tt
walk_climbs i learned a clock (e ∷ es) w = (w.0.above, walk_climbs i learned (takes i (at_next_event i learned a) e.event) e.stamp es w.1)

-- each is of the actor whose execution it is
abbrev AreOf : List ℕ → List LogEntry → Type 0
AreOf n [] = Unit {0}
AreOf n (e ∷ es) = (e.actor ≡ n) × AreOf n es

walk_own : (i : Image) (learned : List LearnedEnd) (a : ActorState) (clock : ℕ) (es : List LogEntry) → IsWalkWith i learned a clock es → AreOf a.name es
walk_own i learned a clock [] w = tt
walk_own i learned a clock (e ∷ es) w = (w.0.own, subst (λ n. AreOf n es) (taken_name i learned a e.event) (walk_own i learned (takes i (at_next_event i learned a) e.event) e.stamp es w.1))

own_kept : (m n : List ℕ) (es others : List LogEntry) → AreOf n es → same n m ≡ true → entries_of m (es ++ others) ≡ es ++ entries_of m others
own_kept m n [] others own is = refl
own_kept m n (e ∷ es) others own is = ap (λ t. if t then e ∷ entries_of m (es ++ others) else entries_of m (es ++ others)) (ap (λ x. same x m) own.0 ∙ is) ∙ ap (λ zs. e ∷ zs) (own_kept m n es others own.1 is)

other_dropped : (m n : List ℕ) (es others : List LogEntry) → AreOf n es → same n m ≡ false → entries_of m (es ++ others) ≡ entries_of m others
other_dropped m n [] others own is = refl
other_dropped m n (e ∷ es) others own is = ap (λ t. if t then e ∷ entries_of m (es ++ others) else entries_of m (es ++ others)) (ap (λ x. same x m) own.0 ∙ is) ∙ other_dropped m n es others own.1 is

-- what each execution needs for it
abbrev AllWalk : Image → List Execution → Type 0
AllWalk i [] = Unit {0}
AllWalk i (l ∷ ls) = IsExecution i l × AllWalk i ls

no_execution : (m : List ℕ) (ls : List Execution) → IsNewName m ls → execution_named ls m ≡ None
no_execution m [] h = refl
no_execution m (l ∷ ls) h = ap (λ t. if t then Some l else execution_named ls m) h.0 ∙ no_execution m ls h.1

all_own : (i : Image) (m : List ℕ) (ls : List Execution) → AllWalk i ls → AreApart ls → entries_of m (all_entries ls) ≡ entries_in_execution (execution_named ls m)
all_own i m [] h apart = refl
all_own i m (l ∷ ls) h apart = by_name (same l.began.name m) refl (all_own i m ls h.1 apart.1)
  where
    own : AreOf l.began.name l.entries
    own = walk_own i l.learned l.began l.low l.entries h.0.walk

    by_name : (t : Bool) → same l.began.name m ≡ t → entries_of m (all_entries ls) ≡ entries_in_execution (execution_named ls m) → entries_of m (l.entries ++ all_entries ls) ≡ entries_in_execution (if t then Some l else execution_named ls m)
    by_name true is others =
        let none : execution_named ls m ≡ None = no_execution m ls (subst (λ n. IsNewName n ls) (same_equal l.began.name m is) apart.0) in
        own_kept m l.began.name l.entries (all_entries ls) own is ∙ (ap (λ zs. l.entries ++ zs) (others ∙ ap entries_in_execution none) ∙ append-nil l.entries)
    by_name false is others = other_dropped m l.began.name l.entries (all_entries ls) own is ∙ others

all_walk : (i : Image) (ls ks : List Execution) → AreExecutions i ls → AreApart ls → ((k : Execution) → IsIn k ks → IsIn k ls) → AllWalk i ks
all_walk i ls [] all apart sub = tt
all_walk i ls (k ∷ ks) all apart sub = (all.each k.began.name k (found_in ls k apart (sub k (inl refl))), all_walk i ls ks all apart (λ x x_in. sub x (inr x_in)))

-- the entries of a execution climb
execution_climbs : (i : Image) (ls : List Execution) (m : List ℕ) (o : Option Execution) → AreExecutions i ls → execution_named ls m ≡ o → (r : ℕ) × AreUpTo r [] × IsClimbing r (entries_in_execution o)
execution_climbs i ls m None all is = (0, tt, tt)
execution_climbs i ls m (Some l) all is = (l.low, tt, walk_climbs i l.learned l.began l.low l.entries (all.each m l is).walk)

pub order_is_merge : OrderIsMerge
order_is_merge i ls all apart = record {
  rising = rising_sorted [] (all_entries ls) tt;
  each = λ m.
      let own = all_own i m ls (all_walk i ls ls all apart (λ k k_in. k_in)) apart in
      let climbs = execution_climbs i ls m (execution_named ls m) all refl in
      own_sorted m climbs.0 [] (all_entries ls) tt climbs.1 (subst (IsClimbing climbs.0) (sym own) climbs.2) ∙ own;
}
