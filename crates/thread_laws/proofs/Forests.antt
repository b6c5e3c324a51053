-- The root with all that it began are executions that fit together, each of a name of its own.
use Rattle.std.proofs.Common.{◌≡◌, ℕ, ◌<◌, Bool, true, false, true≢false, List, [], ◌∷◌, ◌++◌, refl, sym, ap, subst, ◌∙◌, arith, inl, inr}
use Rattle.std.proofs.lemmas.Bool.{eqb-true, eq-eqb}
use Rattle.std.proofs.lemmas.List.{append_assoc}
use Rattle.std.specs.Prelude.{Some, ◌⊎◌, ◌==◌, ◌&&◌, if◌then◌else◌}
use Rattle.wedge_base.specs.Images.{Image}
use Rattle.wedge_base.specs.Names.{same, root_name}
use Rattle.machine.specs.Actors.{ActorState, root}
use Rattle.machine.specs.Children.{child_name}
use Rattle.run_laws.proofs.Named.{same_self, same_equal}
use Rattle.thread_laws.specs.Executions.{LearnedEnd, learned_of, Execution, IsExecution, Creation, creations}
use Rattle.thread_laws.specs.Merging.{execution_named, IsLearnedOf, AllHaveExecutions, IsNamedBy, IsCreated, IsRootExecution, AreExecutions}
use Rattle.thread_laws.specs.Forests.{Forest, nobody, someone, executions, IsLearnedBy, IsLearnedIn, AllLearnedIn, IsTreeOf, IsForestOf, root_creation, IsNewName, AreApart, ForestIsExecutions}
use Rattle.thread_laws.proofs.Creations.{AreNumbered, creations_numbered, AreNamed, creations_named}

-- ---- executions among executions

abbrev pub IsIn : Execution → List Execution → Type 0
IsIn l [] = ⊥
IsIn l (k ∷ ks) = (l ≡ k) ⊎ IsIn l ks

in_left : (l : Execution) (ks ls : List Execution) → IsIn l ks → IsIn l (ks ++ ls)
in_left l [] ls h = absurd h
in_left l (k ∷ ks) ls (inl is) = inl is
in_left l (k ∷ ks) ls (inr h) = inr (in_left l ks ls h)

in_right : (l : Execution) (ks ls : List Execution) → IsIn l ls → IsIn l (ks ++ ls)
in_right l [] ls h = h
in_right l (k ∷ ks) ls h = inr (in_right l ks ls h)

abbrev AllOf : (Execution → Type 0) → List Execution → Type 0
AllOf P [] = Unit {0}
AllOf P (l ∷ ls) = P l × AllOf P ls

all_append : (P : Execution → Type 0) (ks ls : List Execution) → AllOf P ks → AllOf P ls → AllOf P (ks ++ ls)
all_append P [] ls h k = k
all_append P (l ∷ ks) ls h k = (h.0, all_append P ks ls h.1 k)

-- what holds of all holds of the one of a name
named_is : (P : Execution → Type 0) (ls : List Execution) (m : List ℕ) (l : Execution) → AllOf P ls → execution_named ls m ≡ Some l → P l × (l.began.name ≡ m)
named_is P [] m l all e = absurd cc
named_is P (k ∷ ks) m l all e = by_name (same k.began.name m) refl e (named_is P ks m l all.1)
  where
    by_name : (t : Bool) → same k.began.name m ≡ t → (if t then Some k else execution_named ks m) ≡ Some l → (execution_named ks m ≡ Some l → P l × (l.began.name ≡ m)) → P l × (l.began.name ≡ m)
    by_name true is h others = let one : k ≡ l = cc in (subst P one all.0, ap (λ (y : Execution). y.began.name) (sym one) ∙ same_equal k.began.name m is)
    by_name false is h others = others h

-- in a list of names of their own each is found under its name
new_name : (m : List ℕ) (ls : List Execution) (l : Execution) → IsNewName m ls → IsIn l ls → same l.began.name m ≡ false
new_name m [] l new h = absurd h
new_name m (k ∷ ks) l new (inl is) = ap (λ (y : Execution). same y.began.name m) is ∙ new.0
new_name m (k ∷ ks) l new (inr h) = new_name m ks l new.1 h

pub found_in : (ls : List Execution) (l : Execution) → AreApart ls → IsIn l ls → execution_named ls l.began.name ≡ Some l
found_in [] l apart h = absurd h
found_in (k ∷ ks) l apart (inl is) = subst (λ y. execution_named (k ∷ ks) y.began.name ≡ Some y) (sym is) (ap (λ t. if t then Some k else execution_named ks k.began.name) (same_self k.began.name))
found_in (k ∷ ks) l apart (inr h) = by_name (found_in ks l apart.1 h) (same k.began.name l.began.name) refl
  where
    by_name : execution_named ks l.began.name ≡ Some l → (t : Bool) → same k.began.name l.began.name ≡ t → execution_named (k ∷ ks) l.began.name ≡ Some l
    by_name there false e = ap (λ u. if u then Some k else execution_named ks l.began.name) e ∙ there
    by_name there true e =
        let other = new_name k.began.name ks l apart.0 h in
        let one : same l.began.name k.began.name ≡ true = ap (λ n. same n k.began.name) (sym (same_equal k.began.name l.began.name e)) ∙ same_self k.began.name in
        absurd (true≢false (sym one ∙ other))

-- ---- names

-- a name is under another, behind which this number stands
record IsUnder (p : List ℕ) (floor : ℕ) (l : Execution) : Type 0 where
  number : ℕ
  others : List ℕ
  name : l.began.name ≡ p ++ number ∷ others
  above : floor < number

-- and further down
record IsDeep (p : List ℕ) (n : ℕ) (l : Execution) : Type 0 where
  number : ℕ
  others : List ℕ
  name : l.began.name ≡ p ++ n ∷ number ∷ others

unequal : (m n : ℕ) → n < m → (m == n) ≡ false
unequal m n less = by_test (m == n) refl
  where
    by_test : (t : Bool) → (m == n) ≡ t → (m == n) ≡ false
    by_test false e = e
    by_test true e = let is : m ≡ n = eqb-true m n e in absurd (omega (arith, is, less))

and_false : (t : Bool) → (t && false) ≡ false
and_false true = refl
and_false false = refl

later_apart : (p : List ℕ) (m n : ℕ) (r s : List ℕ) → n < m → same (p ++ m ∷ r) (p ++ n ∷ s) ≡ false
later_apart [] m n r s less = ap (λ t. t && same r s) (unequal m n less)
later_apart (x ∷ p) m n r s less = ap (λ t. t && same (p ++ m ∷ r) (p ++ n ∷ s)) (eq-eqb x x refl) ∙ later_apart p m n r s less

deeper_apart : (p : List ℕ) (n k : ℕ) (r : List ℕ) → same (p ++ n ∷ k ∷ r) (p ++ n ∷ []) ≡ false
deeper_apart [] n k r = and_false (n == n)
deeper_apart (x ∷ p) n k r = ap (λ t. t && same (p ++ n ∷ k ∷ r) (p ++ n ∷ [])) (eq-eqb x x refl) ∙ deeper_apart p n k r

above_less : (p : List ℕ) (m n : ℕ) (ls : List Execution) → m < n → AllOf (IsUnder p n) ls → AllOf (IsUnder p m) ls
above_less p m n [] less h = tt
above_less p m n (l ∷ ls) less h =
    let above = h.0.above in
    (record { number = h.0.number; others = h.0.others; name = h.0.name; above = omega (arith, above, less) }, above_less p m n ls less h.1)

deep_of : (p : List ℕ) (n floor : ℕ) (ls : List Execution) → AllOf (IsUnder (p ++ n ∷ []) floor) ls → AllOf (IsDeep p n) ls
deep_of p n floor [] h = tt
deep_of p n floor (l ∷ ls) h =
    (record { number = h.0.number; others = h.0.others; name = h.0.name ∙ append_assoc p (n ∷ []) (h.0.number ∷ h.0.others) }, deep_of p n floor ls h.1)

under_of : (p : List ℕ) (n floor : ℕ) (ls : List Execution) → floor < n → AllOf (IsDeep p n) ls → AllOf (IsUnder p floor) ls
under_of p n floor [] less h = tt
under_of p n floor (l ∷ ls) less h = (record { number = n; others = h.0.number ∷ h.0.others; name = h.0.name; above = less }, under_of p n floor ls less h.1)

names_deep : (i : Image) (p : List ℕ) (n : ℕ) (b : Creation) (l : Execution) (its : Forest) → b.began.name ≡ child_name p n → IsTreeOf i b l its → AllOf (IsUnder l.began.name l.began.starts) (executions its) → AllOf (IsDeep p n) (executions its)
names_deep i p n b l its named forest under =
    let name : l.began.name ≡ p ++ n ∷ [] = ap (λ (y : ActorState). y.name) forest.began ∙ named in
    deep_of p n l.began.starts (executions its) (subst (λ m. AllOf (IsUnder m l.began.starts) (executions its)) name under)

-- the names of forest are under that of whom began them
names_under : (i : Image) (p : List ℕ) (floor : ℕ) (bs : List Creation) (k : Forest) → AreNumbered p floor bs → IsForestOf i bs k → AllOf (IsUnder p floor) (executions k)
names_under i p floor [] nobody num h = tt
names_under i p floor [] (someone l its next) num h = absurd h
names_under i p floor (b ∷ bs) nobody num h = absurd h
names_under i p floor (b ∷ bs) (someone l its next) num h =
    let under = names_under i l.began.name l.began.starts (creations i l.learned l.began l.entries) its (creations_numbered i l.learned l.began l.low l.entries h.0.execution.walk) h.1 in (
      record { number = num.0; others = []; name = ap (λ (y : ActorState). y.name) h.0.began ∙ num.1; above = num.2 },
      all_append (IsUnder p floor) (executions its) (executions next) (under_of p num.0 floor (executions its) num.2 (names_deep i p num.0 b l its num.1 h.0 under)) (above_less p floor num.0 (executions next) num.2 (names_under i p num.0 bs next num.3 h.2)),
    )

-- so they are names of their own
new_append : (m : List ℕ) (ks ls : List Execution) → IsNewName m ks → IsNewName m ls → IsNewName m (ks ++ ls)
new_append m [] ls h k = k
new_append m (x ∷ ks) ls h k = (h.0, new_append m ks ls h.1 k)

new_deep : (p : List ℕ) (n : ℕ) (ls : List Execution) → AllOf (IsDeep p n) ls → IsNewName (p ++ n ∷ []) ls
new_deep p n [] h = tt
new_deep p n (l ∷ ls) h = (ap (λ m. same m (p ++ n ∷ [])) h.0.name ∙ deeper_apart p n h.0.number h.0.others, new_deep p n ls h.1)

new_later : (p : List ℕ) (n : ℕ) (s : List ℕ) (ls : List Execution) → AllOf (IsUnder p n) ls → IsNewName (p ++ n ∷ s) ls
new_later p n s [] h = tt
new_later p n s (l ∷ ls) h = (ap (λ m. same m (p ++ n ∷ s)) h.0.name ∙ later_apart p h.0.number n h.0.others s h.0.above, new_later p n s ls h.1)

apart_append : (ks ls : List Execution) → AreApart ks → AreApart ls → AllOf (λ k. IsNewName k.began.name ls) ks → AreApart (ks ++ ls)
apart_append [] ls h k cross = k
apart_append (x ∷ ks) ls h k cross = (new_append x.began.name ks ls h.0 cross.0, apart_append ks ls h.1 k cross.1)

cross_deep : (p : List ℕ) (n : ℕ) (ks ls : List Execution) → AllOf (IsDeep p n) ks → AllOf (IsUnder p n) ls → AllOf (λ k. IsNewName k.began.name ls) ks
cross_deep p n [] ls h under = tt
cross_deep p n (k ∷ ks) ls h under = (subst (λ m. IsNewName m ls) (sym h.0.name) (new_later p n (h.0.number ∷ h.0.others) ls under), cross_deep p n ks ls h.1 under)

names_apart : (i : Image) (p : List ℕ) (floor : ℕ) (bs : List Creation) (k : Forest) → AreNumbered p floor bs → IsForestOf i bs k → AreApart (executions k)
names_apart i p floor [] nobody num h = tt
names_apart i p floor [] (someone l its next) num h = absurd h
names_apart i p floor (b ∷ bs) nobody num h = absurd h
names_apart i p floor (b ∷ bs) (someone l its next) num h =
    let n = num.0 in
    let name : l.began.name ≡ p ++ n ∷ [] = ap (λ (y : ActorState). y.name) h.0.began ∙ num.1 in
    let walk = creations_numbered i l.learned l.began l.low l.entries h.0.execution.walk in
    let deep = names_deep i p n b l its num.1 h.0 (names_under i l.began.name l.began.starts (creations i l.learned l.began l.entries) its walk h.1) in
    let under = names_under i p n bs next num.3 h.2 in (
      subst (λ m. IsNewName m (executions its ++ executions next)) (sym name) (new_append (p ++ n ∷ []) (executions its) (executions next) (new_deep p n (executions its) deep) (new_later p n [] (executions next) under)),
      apart_append (executions its) (executions next) (names_apart i l.began.name l.began.starts (creations i l.learned l.began l.entries) its walk h.1) (names_apart i p n bs next num.3 h.2) (cross_deep p n (executions its) (executions next) deep under),
    )

-- ---- each execution among all

abbrev AllLearnedAmong : Image → List Execution → List ℕ → List LearnedEnd → Type 0
AllLearnedAmong i all name [] = Unit {0}
AllLearnedAmong i all name (t ∷ ts) = ((c : Execution) × IsIn c all × IsLearnedBy i name t c) × AllLearnedAmong i all name ts

abbrev AllBegunAmong : List Execution → List Creation → Type 0
AllBegunAmong all [] = Unit {0}
AllBegunAmong all (b ∷ bs) = ((c : Execution) × IsIn c all × (c.began ≡ b.began) × (c.low ≡ b.stamp)) × AllBegunAmong all bs

abbrev IsCreatedAmong : Image → List Execution → ActorState → ℕ → Type 0
IsCreatedAmong i all began low = ((began ≡ root i) × (low ≡ 0)) ⊎ ((p : Execution) × IsIn p all × IsNamedBy began.name low p.entries)

abbrev AllCreatedAmong : Image → List Execution → List Creation → Type 0
AllCreatedAmong i all [] = Unit {0}
AllCreatedAmong i all (b ∷ bs) = IsCreatedAmong i all b.began b.stamp × AllCreatedAmong i all bs

record IsPart (i : Image) (all : List Execution) (l : Execution) : Type 0 where
  execution : IsExecution i l
  learned : AllLearnedAmong i all l.began.name l.learned
  begun : AllBegunAmong all (creations i l.learned l.began l.entries)
  origin : IsCreatedAmong i all l.began l.low

learned_in : (i : Image) (all : List Execution) (name : List ℕ) (t : LearnedEnd) (k : Forest) → ((l : Execution) → IsIn l (executions k) → IsIn l all) → IsLearnedIn i name t k → (c : Execution) × IsIn c all × IsLearnedBy i name t c
learned_in i all name t nobody sub h = absurd h
learned_in i all name t (someone l its next) sub (inl is) = (l, sub l (inl refl), is)
learned_in i all name t (someone l its next) sub (inr h) = learned_in i all name t next (λ x x_in. sub x (inr (in_right x (executions its) (executions next) x_in))) h

all_learned : (i : Image) (all : List Execution) (name : List ℕ) (ts : List LearnedEnd) (k : Forest) → ((l : Execution) → IsIn l (executions k) → IsIn l all) → AllLearnedIn i name ts k → AllLearnedAmong i all name ts
all_learned i all name [] k sub h = tt
all_learned i all name (t ∷ ts) k sub h = (learned_in i all name t k sub h.0, all_learned i all name ts k sub h.1)

all_begun : (i : Image) (all : List Execution) (bs : List Creation) (k : Forest) → ((l : Execution) → IsIn l (executions k) → IsIn l all) → IsForestOf i bs k → AllBegunAmong all bs
all_begun i all [] nobody sub h = tt
all_begun i all [] (someone l its next) sub h = absurd h
all_begun i all (b ∷ bs) nobody sub h = absurd h
all_begun i all (b ∷ bs) (someone l its next) sub h =
    ((l, sub l (inl refl), h.0.began, h.0.low), all_begun i all bs next (λ x x_in. sub x (inr (in_right x (executions its) (executions next) x_in))) h.2)

all_created : (i : Image) (all : List Execution) (p : Execution) (bs : List Creation) → IsIn p all → AreNamed p.entries bs → AllCreatedAmong i all bs
all_created i all p [] p_in h = tt
all_created i all p (b ∷ bs) p_in h = (inr (p, p_in, h.0), all_created i all p bs p_in h.1)

forest_parts : (i : Image) (all : List Execution) (bs : List Creation) (k : Forest) → ((l : Execution) → IsIn l (executions k) → IsIn l all) → AllCreatedAmong i all bs → IsForestOf i bs k → AllOf (IsPart i all) (executions k)
forest_parts i all [] nobody sub origin h = tt
forest_parts i all [] (someone l its next) sub origin h = absurd h
forest_parts i all (b ∷ bs) nobody sub origin h = absurd h
forest_parts i all (b ∷ bs) (someone l its next) sub origin h =
    let of_its : (x : Execution) → IsIn x (executions its) → IsIn x all = λ x x_in. sub x (inr (in_left x (executions its) (executions next) x_in)) in
    let of_next : (x : Execution) → IsIn x (executions next) → IsIn x all = λ x x_in. sub x (inr (in_right x (executions its) (executions next) x_in)) in
    let l_in = sub l (inl refl) in
    let named = creations_named i l.learned l.began l.low l.entries h.0.execution.walk in (
      record {
        execution = h.0.execution;
        learned = all_learned i all l.began.name l.learned its of_its h.0.learned;
        begun = all_begun i all (creations i l.learned l.began l.entries) its of_its h.1;
        origin = subst (λ a. IsCreatedAmong i all a l.low) (sym h.0.began) (subst (IsCreatedAmong i all b.began) (sym h.0.low) origin.0);
      },
      all_append (IsPart i all) (executions its) (executions next)
          (forest_parts i all (creations i l.learned l.began l.entries) its of_its (all_created i all l (creations i l.learned l.began l.entries) l_in named) h.1)
          (forest_parts i all bs next of_next origin.1 h.2),
    )

-- ---- by name

learned_named : (i : Image) (all : List Execution) (name : List ℕ) (ts : List LearnedEnd) (k : ℕ) (t : LearnedEnd) → AreApart all → AllLearnedAmong i all name ts → learned_of ts k ≡ Some t → IsLearnedOf i all (child_name name k) t
learned_named i all name [] k t apart h e = absurd cc
learned_named i all name (u ∷ us) k t apart h e = by_number (u.number == k) refl e (learned_named i all name us k t apart h.1)
  where
    by_number : (b : Bool) → (u.number == k) ≡ b → (if b then Some u else learned_of us k) ≡ Some t → (learned_of us k ≡ Some t → IsLearnedOf i all (child_name name k) t) → IsLearnedOf i all (child_name name k) t
    by_number false is g others = others g
    by_number true is g others =
        let one : u ≡ t = cc in
        let number : u.number ≡ k = eqb-true u.number k is in
        let c = h.0.0 in
        let by = h.0.2 in
        let so : IsLearnedOf i all (child_name name k) u = record { execution = c; there = ap (execution_named all) (sym (by.number ∙ ap (child_name name) number)) ∙ found_in all c apart h.0.1; ended = by.ended; stamp = by.stamp } in
        subst (IsLearnedOf i all (child_name name k)) one so

begun_named : (all : List Execution) (bs : List Creation) → AreApart all → AllBegunAmong all bs → AllHaveExecutions all bs
begun_named all [] apart h = tt
begun_named all (b ∷ bs) apart h =
    let c = h.0.0 in
    (record { execution = c; there = ap (execution_named all) (sym (ap (λ (y : ActorState). y.name) h.0.2)) ∙ found_in all c apart h.0.1; began = h.0.2; low = h.0.3 }, begun_named all bs apart h.1)

origin_named : (i : Image) (all : List Execution) (m : List ℕ) (l : Execution) → AreApart all → l.began.name ≡ m → IsCreatedAmong i all l.began l.low → IsRootExecution i l ⊎ IsCreated all m l.low
origin_named i all m l apart name (inl r) = inl (record { began = r.0; low = r.1 })
origin_named i all m l apart name (inr p) = inr (record { parent = p.0.began.name; execution = p.0; there = found_in all p.0 apart p.1; entry = subst (λ n. IsNamedBy n l.low p.0.entries) name p.2 })

root_named : (i : Image) → (root i).name ≡ child_name [] 0
unfolding root
root_named i = refl

pub forest_is_executions : ForestIsExecutions
forest_is_executions i nobody h = absurd h
forest_is_executions i (someone l its (someone k mine next)) h = absurd h.2
forest_is_executions i (someone l its nobody) h = record { executions_ = fits; apart = apart }
  where
    all : List Execution
    all = executions (someone l its nobody)

    name : l.began.name ≡ child_name [] 0
    name = ap (λ (y : ActorState). y.name) h.0.began ∙ root_named i

    deep : AllOf (IsDeep [] 0) (executions its)
    deep = names_deep i [] 0 (root_creation i) l its (root_named i) h.0 (names_under i l.began.name l.began.starts (creations i l.learned l.began l.entries) its (creations_numbered i l.learned l.began l.low l.entries h.0.execution.walk) h.1)

    apart : AreApart all
    apart = (
      subst (λ m. IsNewName m (executions its ++ [])) (sym name) (new_append (0 ∷ []) (executions its) [] (new_deep [] 0 (executions its) deep) tt),
      apart_append (executions its) [] (names_apart i l.began.name l.began.starts (creations i l.learned l.began l.entries) its (creations_numbered i l.learned l.began l.low l.entries h.0.execution.walk) h.1) tt (cross_deep [] 0 (executions its) [] deep tt),
    )

    parts : AllOf (IsPart i all) all
    parts = forest_parts i all (root_creation i ∷ []) (someone l its nobody) (λ x x_in. x_in) (inl (refl, refl), tt) h

    there : execution_named all root_name ≡ Some l
    there = subst (λ m. execution_named all m ≡ Some l) name (found_in all l apart (inl refl))

    fits : AreExecutions i all
    fits = record {
      root_ = l;
      root_there = there;
      root_begins = record { began = h.0.began; low = h.0.low };
      each = λ m k lived. (named_is (IsPart i all) all m k parts lived).0.execution;
      learned = λ m k lived n t is.
          let p = named_is (IsPart i all) all m k parts lived in
          subst (λ x. IsLearnedOf i all (child_name x n) t) p.1 (learned_named i all k.began.name k.learned n t apart p.0.learned is);
      begun = λ m k lived. begun_named all (creations i k.learned k.began k.entries) apart (named_is (IsPart i all) all m k parts lived).0.begun;
      origin = λ m k lived. let p = named_is (IsPart i all) all m k parts lived in origin_named i all m k apart p.1 p.0.origin;
    }
