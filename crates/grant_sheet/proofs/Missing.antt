-- The first excess of a draft is the first part of it that is missing, by look-ups in maps.
use Rattle.std.proofs.Common.{◌≡◌, ℕ, ◌+◌, ◌<◌, ◌≤◌, ◌==◌, ◌&&◌, ◌||◌, Bool, true, false, not, cond, List, [], ◌∷◌, ◌++◌, map, Option, Some, None, is_some, unwrap_or, if◌then◌else◌, refl, sym, ap, subst, ◌∙◌, inl, inr, arith}
use Rattle.std.specs.Prelude.{find, MatchOption, ◌⊎◌}
use Rattle.std.specs.Option.{option_map, option_or}
use Rattle.std.specs.Ordering.{nat_cmp, is_eq, is_lt}
use Rattle.std.specs.FinMap.Entries.{is_sorted, below_all}
use Rattle.std.specs.Cmp.Lexicographic.{bytes_decides}
use Rattle.std.proofs.Math.Dec.{T}
use Rattle.std.proofs.lemmas.Bool.{eqb-true, eq-eqb, or_cases, and_parts}
use Rattle.std.proofs.lemmas.Bool.Decides.{nat_tests}
use Rattle.std.proofs.lemmas.Option.{same_Some}
use Rattle.wedge_base.specs.Maps.{Map, at, is_among, AreRising}
use Rattle.wedge_base.specs.Names.{same}
use Rattle.wedge_base.specs.Paths.{under}
use Rattle.wedge_base.specs.Rights.{at_least, no_bits}
use Rattle.wedge_base.specs.Sheets.{Sheet, Made, Draft, bits_in, may_grant, may_be_user, may_be_root, tag_item, fd_item, items, item_excess, first_excess}
use Rattle.wedge_base.specs.declared.grants.GateId.{GateId}
use Rattle.wedge_base.specs.declared.grants.Item.{Item}
use Rattle.wedge_base.specs.declared.grants.Item.TheVariants as item
use Rattle.wedge_base.specs.declared.rights.Denial.{Denial}
use Rattle.wedge_base.specs.declared.rights.Denial.TheVariants as denial
use Rattle.wedge_base.specs.declared.rights.FdBits.{FdBits}
use Rattle.wedge_base.specs.declared.rights.Grant.{Grant}
use Rattle.wedge_base.specs.declared.rights.Right.{Right}
use Rattle.wedge_base.specs.declared.rights.Right.TheVariants as right
use Rattle.grant_sheet.specs.Missing.{IsAsked, ComesBefore, IsSortedDraft, IsAtMost, HoldsItem, HoldsItems, MayGiveUser, MayGiveRoot, IsAllHeld, IsItemMissing, IsMissing, ExcessNamesTheMissingGrant}

-- ---- a tag may be granted exactly where it is held

at_most : (asked held : Right) → at_least (Some held) asked ≡ true → IsAtMost asked held
at_most right.Cow right.Cow e = tt
at_most right.Cow right.Read e = tt
at_most right.Cow right.ReadWrite e = tt
at_most right.Read right.Cow e = absurd cc
at_most right.Read right.Read e = tt
at_most right.Read right.ReadWrite e = tt
at_most right.ReadWrite right.Cow e = absurd cc
at_most right.ReadWrite right.Read e = absurd cc
at_most right.ReadWrite right.ReadWrite e = tt

enough : (asked held : Right) → IsAtMost asked held → at_least (Some held) asked ≡ true
enough right.Cow right.Cow h = refl
enough right.Cow right.Read h = refl
enough right.Cow right.ReadWrite h = refl
enough right.Read right.Cow h = absurd h
enough right.Read right.Read h = refl
enough right.Read right.ReadWrite h = refl
enough right.ReadWrite right.Cow h = absurd h
enough right.ReadWrite right.Read h = absurd h
enough right.ReadWrite right.ReadWrite h = refl

all_allowed : (asked : Right) → IsAtMost asked right.ReadWrite
all_allowed right.Cow = tt
all_allowed right.Read = tt
all_allowed right.ReadWrite = tt

abbrev TagHeld : Option ℕ → Option Grant → Right → Type 0
TagHeld made given asked = ((slot : ℕ) × (made ≡ Some slot)) ⊎ ((g : Grant) × (given ≡ Some g) × IsAtMost asked g.right)

abbrev tag_test : Option ℕ → Option Grant → Right → Bool
tag_test made given asked = at_least (if is_some made then Some right.ReadWrite else option_map (λ g. g.right) given) asked

tag_held : (made : Option ℕ) (given : Option Grant) (asked : Right) → tag_test made given asked ≡ true → TagHeld made given asked
tag_held (Some slot) given asked e = inl (slot, refl)
tag_held None (Some g) asked e = inr (g, refl, at_most asked g.right e)
tag_held None None asked e = absurd cc

tag_may : (made : Option ℕ) (given : Option Grant) (asked : Right) → TagHeld made given asked → tag_test made given asked ≡ true
tag_may (Some slot) given asked h = enough asked right.ReadWrite (all_allowed asked)
tag_may None (Some g) asked (inl made) = let e = made.1 in absurd cc
tag_may None (Some g) asked (inr held) = enough asked g.right (subst (λ (x : Grant). IsAtMost asked x.right) (sym (same_Some g held.0 held.1)) held.2)
tag_may None None asked (inl made) = let e = made.1 in absurd cc
tag_may None None asked (inr held) = let e = held.1 in absurd cc

-- ---- bits on a descriptor

first_on : (x y : Bool) → x ≡ true → (x || y) ≡ true
first_on true y e = refl
first_on false y e = absurd cc

second_on : (x y : Bool) → y ≡ true → (x || y) ≡ true
second_on true y e = refl
second_on false y e = e

module _ (bit : FdBits → Bool) (off : bit no_bits ≡ false) where
  abbrev BitHeld : Option FdBits → Option FdBits → Type 0
  BitHeld given opened = ((b : FdBits) × (given ≡ Some b) × (bit b ≡ true)) ⊎ ((b : FdBits) × (opened ≡ Some b) × (bit b ≡ true))

  bit_on : (o : Option FdBits) → bit (unwrap_or o no_bits) ≡ true → (b : FdBits) × (o ≡ Some b) × (bit b ≡ true)
  bit_on (Some b) e = (b, refl, e)
  bit_on None e = absurd cc

  bit_held : (given opened : Option FdBits) → (bit (unwrap_or given no_bits) || bit (unwrap_or opened no_bits)) ≡ true → BitHeld given opened
  bit_held given opened e = elim (or_cases (bit (unwrap_or given no_bits)) (bit (unwrap_or opened no_bits)) e) [
    | inl h ↦ inl (bit_on given h)
    | inr h ↦ inr (bit_on opened h)
  ]

  bit_there : (o : Option FdBits) (b : FdBits) → o ≡ Some b → bit b ≡ true → bit (unwrap_or o no_bits) ≡ true
  bit_there o b e on = ap (λ x. bit (unwrap_or x no_bits)) e ∙ on

  bit_may : (given opened : Option FdBits) → BitHeld given opened → (bit (unwrap_or given no_bits) || bit (unwrap_or opened no_bits)) ≡ true
  bit_may given opened (inl h) = first_on _ (bit (unwrap_or opened no_bits)) (bit_there given h.0 h.1 h.2)
  bit_may given opened (inr h) = second_on (bit (unwrap_or given no_bits)) _ (bit_there opened h.0 h.1 h.2)

asked_on : (asked held : Bool) → (if asked then held else true) ≡ true → asked ≡ true → held ≡ true
asked_on true held e on = e
asked_on false held e on = absurd cc

asked_may : (asked held : Bool) → (asked ≡ true → held ≡ true) → (if asked then held else true) ≡ true
asked_may true held h = h refl
asked_may false held h = refl

both_true : (x y : Bool) → x ≡ true → y ≡ true → (x && y) ≡ true
both_true true y e h = h
both_true false y e h = absurd cc

-- ---- a gate

gate_held : (made given : Option GateId) → is_some (option_or made given) ≡ true → ((gate : GateId) × (made ≡ Some gate)) ⊎ ((gate : GateId) × (given ≡ Some gate))
gate_held (Some gate) given e = inl (gate, refl)
gate_held None (Some gate) e = inr (gate, refl)
gate_held None None e = absurd cc

gate_may : (made given : Option GateId) → ((gate : GateId) × (made ≡ Some gate)) ⊎ ((gate : GateId) × (given ≡ Some gate)) → is_some (option_or made given) ≡ true
gate_may (Some gate) given h = refl
gate_may None (Some gate) h = refl
gate_may None None (inl h) = let e = h.1 in absurd cc
gate_may None None (inr h) = let e = h.1 in absurd cc

-- ---- an item may be granted exactly where it is held, a user or a root directory exactly where it may be given

module _ (s : Sheet) (m : Made) where
  abbrev held_bit : ℕ → (FdBits → Bool) → Bool
  held_bit fd bit = bit (bits_in s.fds fd) || bit (bits_in m.fds fd)

  abbrev if_asked : Bool → Bool → Bool
  if_asked asked held = if asked then held else true

  item_held : (i : Item) → may_grant s m i ≡ true → HoldsItem s m i
  item_held (item.Tag tag asked) e = tag_held (at m.tags tag) (at s.tags tag) asked e
  item_held (item.Fd fd asked) e =
      let parts = and_parts (if_asked asked.read (held_bit fd (λ b. b.read))) (if_asked asked.append (held_bit fd (λ b. b.append))) e in
      record {
        read = λ on. bit_held (λ b. b.read) refl (at s.fds fd) (at m.fds fd) (asked_on asked.read (held_bit fd (λ b. b.read)) parts.0 on);
        append = λ on. bit_held (λ b. b.append) refl (at s.fds fd) (at m.fds fd) (asked_on asked.append (held_bit fd (λ b. b.append)) parts.1 on);
      }
  item_held (item.Gate entry) e = gate_held (at m.gates entry) (at s.gates entry) e

  item_may : (i : Item) → HoldsItem s m i → may_grant s m i ≡ true
  item_may (item.Tag tag asked) h = tag_may (at m.tags tag) (at s.tags tag) asked h
  item_may (item.Fd fd asked) h =
      both_true (if_asked asked.read (held_bit fd (λ b. b.read))) (if_asked asked.append (held_bit fd (λ b. b.append)))
      (asked_may asked.read (held_bit fd (λ b. b.read)) (λ on. bit_may (λ b. b.read) refl (at s.fds fd) (at m.fds fd) (h.read on)))
      (asked_may asked.append (held_bit fd (λ b. b.append)) (λ on. bit_may (λ b. b.append) refl (at s.fds fd) (at m.fds fd) (h.append on)))
  item_may (item.Gate entry) h = gate_may (at m.gates entry) (at s.gates entry) h

  user_given : (u : Option ℕ) → may_be_user s u ≡ true → (u ≡ None) ⊎ ((u ≡ Some s.user) ⊎ (s.user ≡ 0))
  user_given None e = inl refl
  user_given (Some user) e = elim (or_cases (user == s.user) (s.user == 0) e) [
    | inl h ↦ inr (inl (ap Some (eqb-true user s.user h)))
    | inr h ↦ inr (inr (eqb-true s.user 0 h))
  ]

  user_may : (u : Option ℕ) → (u ≡ None) ⊎ ((u ≡ Some s.user) ⊎ (s.user ≡ 0)) → may_be_user s u ≡ true
  user_may None h = refl
  user_may (Some user) (inl e) = absurd cc
  user_may (Some user) (inr (inl e)) = rw (eq-eqb user s.user (same_Some user s.user e)) refl
  user_may (Some user) (inr (inr e)) = by_test (user == s.user)
    where
      by_test : (t : Bool) → (t || (s.user == 0)) ≡ true
      by_test true = refl
      by_test false = eq-eqb s.user 0 e

  abbrev RootGiven : Option (List ℕ) → Type 0
  RootGiven r = (r ≡ None) ⊎ ((r ≡ Some s.root) ⊎ ((root : List ℕ) × (s.user ≡ 0) × (r ≡ Some root) × (under s.root root ≡ true)))

  root_given : (r : Option (List ℕ)) → may_be_root s r ≡ true → RootGiven r
  root_given None e = inl refl
  root_given (Some root) e = elim (or_cases (same root s.root) ((s.user == 0) && under s.root root) e) [
    | inl h ↦ inr (inl (ap Some ((bytes_decides root s.root).0 h)))
    | inr h ↦ inr (inr (let both = and_parts (s.user == 0) (under s.root root) h in (root, eqb-true s.user 0 both.0, refl, both.1)))
  ]

  root_may : (r : Option (List ℕ)) → RootGiven r → may_be_root s r ≡ true
  root_may None h = refl
  root_may (Some root) (inl e) = absurd cc
  root_may (Some root) (inr (inl e)) = rw ((bytes_decides root s.root).1 (same_Some root s.root e)) refl
  root_may (Some root) (inr (inr h)) = by_test (same root s.root)
    where
      by_test : (t : Bool) → (t || ((s.user == 0) && under s.root root)) ≡ true
      by_test true = refl
      by_test false = both_true (s.user == 0) (under s.root root) (eq-eqb s.user 0 h.1) (ap (under s.root) (same_Some root h.0 h.2) ∙ h.3)

-- ---- what is in a list

abbrev IsIn : Item → List Item → Type 0
IsIn i [] = ⊥
IsIn i (x ∷ xs) = (i ≡ x) ⊎ IsIn i xs

in_either : (i : Item) (xs ys : List Item) → IsIn i (xs ++ ys) → IsIn i xs ⊎ IsIn i ys
in_either i [] ys h = inr h
in_either i (x ∷ xs) ys (inl e) = inl (inl e)
in_either i (x ∷ xs) ys (inr h) = elim (in_either i xs ys h) [ inl k ↦ inl (inr k) | inr k ↦ inr k ]

in_first : (i : Item) (xs ys : List Item) → IsIn i xs → IsIn i (xs ++ ys)
in_first i [] ys h = absurd h
in_first i (x ∷ xs) ys (inl e) = inl e
in_first i (x ∷ xs) ys (inr h) = inr (in_first i xs ys h)

in_second : (i : Item) (xs ys : List Item) → IsIn i ys → IsIn i (xs ++ ys)
in_second i [] ys h = h
in_second i (x ∷ xs) ys h = inr (in_second i xs ys h)

-- each item comes before those behind it
abbrev AreSortedItems : List Item → Type 0
AreSortedItems [] = Unit {0}
AreSortedItems (x ∷ xs) = ((i : Item) → IsIn i xs → ComesBefore x i) × AreSortedItems xs

sorted_both : (xs ys : List Item) → AreSortedItems xs → AreSortedItems ys → ((i j : Item) → IsIn i xs → IsIn j ys → ComesBefore i j) → AreSortedItems (xs ++ ys)
sorted_both [] ys first second apart = second
sorted_both (x ∷ xs) ys first second apart = (
  λ i h. elim (in_either i xs ys h) [ inl k ↦ first.0 i k | inr k ↦ apart x i (inl refl) k ],
  sorted_both xs ys first.1 second (λ i j h k. apart i j (inr h) k),
)

not_both : (i j : Item) → ComesBefore i j → ComesBefore j i → ⊥
not_both (item.Tag tag r) (item.Tag other q) h k = omega arith
not_both (item.Tag tag r) (item.Fd fd b) h k = k
not_both (item.Tag tag r) (item.Gate entry) h k = k
not_both (item.Fd fd b) (item.Tag tag r) h k = h
not_both (item.Fd fd b) (item.Fd other c) h k = omega arith
not_both (item.Fd fd b) (item.Gate entry) h k = k
not_both (item.Gate entry) (item.Tag tag r) h k = h
not_both (item.Gate entry) (item.Fd fd b) h k = h
not_both (item.Gate entry) (item.Gate other) h k = omega arith

-- ---- what is found in a sorted list

-- an item of a list that passes a test, and those that come before it do not
record IsFirstPassing (p : Item → Bool) (is : List Item) (j : Item) : Type 0 where
  pub inside : IsIn j is
  pub passes : p j ≡ true
  pub before : (i : Item) → IsIn i is → ComesBefore i j → p i ≡ false

module _ (p : Item → Bool) where
  none_found : (is : List Item) → find p is ≡ None → (i : Item) → IsIn i is → p i ≡ false
  none_found [] e i h = absurd h
  none_found (x ∷ xs) e i h = by_test (p x) refl e h (λ f. none_found xs f i)
    where
      by_test : (t : Bool) → p x ≡ t → (if t then Some x else find p xs) ≡ None → (i ≡ x) ⊎ IsIn i xs → (find p xs ≡ None → IsIn i xs → p i ≡ false) → p i ≡ false
      by_test true q f k later = absurd cc
      by_test false q f (inl here) later = ap p here ∙ q
      by_test false q f (inr k) later = later f k

  all_fail : (is : List Item) → ((i : Item) → IsIn i is → p i ≡ false) → find p is ≡ None
  all_fail [] h = refl
  all_fail (x ∷ xs) h = rw (h x (inl refl)) (all_fail xs (λ i k. h i (inr k)))

  first_found : (is : List Item) (j : Item) → AreSortedItems is → find p is ≡ Some j → IsFirstPassing p is j
  first_found [] j sorted e = absurd cc
  first_found (x ∷ xs) j sorted e = by_test (p x) refl e (first_found xs j sorted.1)
    where
      early : (i : Item) → x ≡ j → (i ≡ x) ⊎ IsIn i xs → ComesBefore i j → ⊥
      early i here (inl e) h = let twice = subst (λ y. ComesBefore y j) (e ∙ here) h in not_both j j twice twice
      early i here (inr k) h = not_both x i (sorted.0 i k) (subst (ComesBefore i) (sym here) h)

      by_first : p x ≡ false → IsFirstPassing p xs j → (i : Item) → (i ≡ x) ⊎ IsIn i xs → ComesBefore i j → p i ≡ false
      by_first q later i (inl e) h = ap p e ∙ q
      by_first q later i (inr k) h = later.before i k h

      by_test : (t : Bool) → p x ≡ t → (if t then Some x else find p xs) ≡ Some j → (find p xs ≡ Some j → IsFirstPassing p xs j) → IsFirstPassing p (x ∷ xs) j
      by_test true q f later =
          let here : x ≡ j = same_Some x j f in
          record { inside = inl (sym here); passes = ap p (sym here) ∙ q; before = λ i k h. absurd (early i here k h) }
      by_test false q f later =
          let rest = later f in
          record { inside = inr rest.inside; passes = rest.passes; before = by_first q rest }

  found_first : (is : List Item) (j : Item) → AreSortedItems is → IsFirstPassing p is j → find p is ≡ Some j
  found_first [] j sorted first = absurd first.inside
  found_first (x ∷ xs) j sorted first =
      by_place first.inside (λ k. found_first xs j sorted.1 (record { inside = k; passes = first.passes; before = λ i h. first.before i (inr h) }))
    where
      by_place : (j ≡ x) ⊎ IsIn j xs → (IsIn j xs → find p xs ≡ Some j) → (if p x then Some x else find p xs) ≡ Some j
      by_place (inl e) later = rw (ap p (sym e) ∙ first.passes) (ap Some (sym e))
      by_place (inr k) later = rw (first.before x (inl refl) (sorted.0 j k)) (later k)

-- ---- the entries of a map in order

below_first : (x y : ℕ) (t : Bool) → T (is_lt (nat_cmp x y) && t) → x < y
below_first x y t h = by_test (is_lt (nat_cmp x y)) refl h
  where
    by_test : (b : Bool) → is_lt (nat_cmp x y) ≡ b → T (b && t) → x < y
    by_test true e k = grind (arith, nat_tests)
    by_test false e k = absurd k

both_hold : (x y : Bool) → T (x && y) → T x × T y
both_hold true y h = (tt, h)
both_hold false y h = absurd h

of_kind : {Y : Type 0} (P : Item → Type 0) (make : Y → Item) → ((y : Y) → P (make y)) → (ys : List Y) (i : Item) → IsIn i (map make ys) → P i
of_kind P make all [] i h = absurd h
of_kind P make all (y ∷ ys) i (inl e) = subst P (sym e) (all y)
of_kind P make all (y ∷ ys) i (inr h) = of_kind P make all ys i h

-- items that are made of a number and a value, and come in the order of their numbers
record AreByNumber {X : Type 0} (make : ℕ × X → Item) : Type 0 where
  pub before : (e f : ℕ × X) → e.0 < f.0 → ComesBefore (make e) (make f)
  pub below : (e f : ℕ × X) → ComesBefore (make e) (make f) → e.0 < f.0
  pub alike : (e f : ℕ × X) → make e ≡ make f → e ≡ f

module _ {X : Type 0} (make : ℕ × X → Item) where
  in_entries : (es : Map X) (k : ℕ) (v : X) → at es k ≡ Some v → IsIn (make (k, v)) (map make es)
  in_entries [] k v e = absurd cc
  in_entries (x ∷ xs) k v e = by_key (is_eq (nat_cmp k x.0)) refl e (in_entries xs k v)
    where
      by_key : (t : Bool) → is_eq (nat_cmp k x.0) ≡ t → cond t (Some x.1) (at xs k) ≡ Some v → (at xs k ≡ Some v → IsIn (make (k, v)) (map make xs)) → IsIn (make (k, v)) (map make (x ∷ xs))
      by_key true q f later =
          let key : x.0 ≡ k = grind (arith, nat_tests) in
          inl (sym (ap (λ n. make (n, x.1)) key ∙ ap (λ w. make (k, w)) (same_Some x.1 v f)))
      by_key false q f later = inr (later f)

  module _ (numbered : AreByNumber make) where
    behind_all : (e : ℕ × X) (es : Map X) → T (below_all nat_cmp e.0 es) → (i : Item) → IsIn i (map make es) → ComesBefore (make e) i
    behind_all e [] h i k = absurd k
    behind_all e (x ∷ xs) h i (inl here) = subst (ComesBefore (make e)) (sym here) (numbered.before e x (below_first e.0 x.0 (below_all nat_cmp e.0 xs) h))
    behind_all e (x ∷ xs) h i (inr k) = behind_all e xs (both_hold (is_lt (nat_cmp e.0 x.0)) (below_all nat_cmp e.0 xs) h).1 i k

    entries_sorted : (es : Map X) → T (is_sorted nat_cmp es) → AreSortedItems (map make es)
    entries_sorted [] h = tt
    entries_sorted (x ∷ xs) h =
        let parts = both_hold (below_all nat_cmp x.0 xs) (is_sorted nat_cmp xs) h in
        (behind_all x xs parts.0, entries_sorted xs parts.1)

    -- in a map that is sorted, a look-up finds each entry
    at_entries : (es : Map X) → T (is_sorted nat_cmp es) → (e : ℕ × X) → IsIn (make e) (map make es) → at es e.0 ≡ Some e.1
    at_entries [] sorted e h = absurd h
    at_entries (x ∷ xs) sorted e (inl here) =
        let alike : e ≡ x = numbered.alike e x here in
        subst (λ (y : ℕ × X). at (x ∷ xs) y.0 ≡ Some y.1) (sym alike) at_head
      where
        self : is_eq (nat_cmp x.0 x.0) ≡ true
        self = grind (arith, nat_tests)

        at_head : at (x ∷ xs) x.0 ≡ Some x.1
        at_head = rw self refl
    at_entries (x ∷ xs) sorted e (inr h) =
        let parts = both_hold (below_all nat_cmp x.0 xs) (is_sorted nat_cmp xs) sorted in
        let below : x.0 < e.0 = numbered.below x e (behind_all x xs parts.0 (make e) h) in
        rw (apart e.0 x.0 below) (at_entries xs parts.1 e h)
      where
        apart : (k n : ℕ) → n < k → is_eq (nat_cmp k n) ≡ false
        apart k n lt = grind (arith, nat_tests)

abbrev as_entry : {X : Type 0} → ℕ → X → ℕ × X
as_entry k v = (k, v)

same_entry : {X : Type 0} (e f : ℕ × X) → e.0 ≡ f.0 → e.1 ≡ f.1 → e ≡ f
same_entry e f keys values = ap (λ k. as_entry k e.1) keys ∙ ap (as_entry f.0) values

tags_numbered : AreByNumber tag_item
tags_numbered = record { before = λ e f lt. lt; below = λ e f lt. lt; alike = λ e f here. same_entry e f (cc) (cc) }

fds_numbered : AreByNumber fd_item
fds_numbered = record { before = λ e f lt. lt; below = λ e f lt. lt; alike = λ e f here. same_entry e f (cc) (cc) }

-- ---- the entries of gates in order

in_gates : (ns : List ℕ) (entry : ℕ) → is_among ns entry ≡ true → IsIn (item.Gate entry) (map item.Gate ns)
in_gates [] entry e = absurd cc
in_gates (n ∷ ns) entry e = by_key (is_eq (nat_cmp entry n)) refl e (in_gates ns entry)
  where
    by_key : (t : Bool) → is_eq (nat_cmp entry n) ≡ t → (t || is_among ns entry) ≡ true → (is_among ns entry ≡ true → IsIn (item.Gate entry) (map item.Gate ns)) → IsIn (item.Gate entry) (map item.Gate (n ∷ ns))
    by_key true q f later = let key : entry ≡ n = grind (arith, nat_tests) in inl (ap item.Gate key)
    by_key false q f later = inr (later f)

among_gates : (ns : List ℕ) (entry : ℕ) → IsIn (item.Gate entry) (map item.Gate ns) → is_among ns entry ≡ true
among_gates [] entry h = absurd h
among_gates (n ∷ ns) entry (inl e) = let key : entry ≡ n = cc in first_on _ (is_among ns entry) (equal entry n key)
  where
    equal : (k n : ℕ) → k ≡ n → is_eq (nat_cmp k n) ≡ true
    equal k n e = grind (arith, nat_tests)
among_gates (n ∷ ns) entry (inr h) = second_on (is_eq (nat_cmp entry n)) _ (among_gates ns entry h)

gates_behind : (k low : ℕ) (ns : List ℕ) → k < low → AreRising low ns → (i : Item) → IsIn i (map item.Gate ns) → ComesBefore (item.Gate k) i
gates_behind k low [] lt rising i h = absurd h
gates_behind k low (n ∷ ns) lt rising i (inl e) =
    let above : low ≤ n = rising.0 in
    let after : k < n = omega arith in
    subst (ComesBefore (item.Gate k)) (sym e) after
gates_behind k low (n ∷ ns) lt rising i (inr h) =
    let above : low ≤ n = rising.0 in
    gates_behind k (n + 1) ns (omega arith) rising.1 i h

gates_sorted : (low : ℕ) (ns : List ℕ) → AreRising low ns → AreSortedItems (map item.Gate ns)
gates_sorted low [] rising = tt
gates_sorted low (n ∷ ns) rising = (gates_behind n (n + 1) ns (omega arith) rising.1, gates_sorted (n + 1) ns rising.1)

-- ---- the items of a draft are those that it asks for, in order

abbrev IsTagItem : Item → Type 0
IsTagItem (item.Tag tag r) = Unit {0}
IsTagItem other = ⊥

abbrev IsFdItem : Item → Type 0
IsFdItem (item.Fd fd b) = Unit {0}
IsFdItem other = ⊥

abbrev IsGateItem : Item → Type 0
IsGateItem (item.Gate entry) = Unit {0}
IsGateItem other = ⊥

module _ (d : Draft) where
  abbrev tag_items : List Item
  tag_items = map tag_item d.tags

  abbrev fd_items : List Item
  fd_items = map fd_item d.fds

  abbrev gate_items : List Item
  gate_items = map item.Gate d.gates

  asked_in : (i : Item) → IsAsked d i → IsIn i (items d)
  asked_in (item.Tag tag r) h =
      in_first (item.Tag tag r) (tag_items ++ fd_items) gate_items
      (in_first (item.Tag tag r) tag_items fd_items (in_entries tag_item d.tags tag r h))
  asked_in (item.Fd fd b) h =
      in_first (item.Fd fd b) (tag_items ++ fd_items) gate_items
      (in_second (item.Fd fd b) tag_items fd_items (in_entries fd_item d.fds fd b h))
  asked_in (item.Gate entry) h =
      in_second (item.Gate entry) (tag_items ++ fd_items) gate_items (in_gates d.gates entry h)

  in_three : (i : Item) → IsIn i (items d) → IsIn i tag_items ⊎ (IsIn i fd_items ⊎ IsIn i gate_items)
  in_three i h = elim (in_either i (tag_items ++ fd_items) gate_items h) [
    | inl k ↦ elim (in_either i tag_items fd_items k) [ inl t ↦ inl t | inr f ↦ inr (inl f) ]
    | inr g ↦ inr (inr g)
  ]

  in_asked : IsSortedDraft d → (i : Item) → IsIn i (items d) → IsAsked d i
  in_asked sorted (item.Tag tag r) h = elim (in_three (item.Tag tag r) h) [
    | inl t ↦ at_entries tag_item tags_numbered d.tags sorted.tags (tag, r) t
    | inr k ↦ elim k [
      | inl f ↦ absurd (of_kind IsFdItem fd_item (λ e. tt) d.fds (item.Tag tag r) f)
      | inr g ↦ absurd (of_kind IsGateItem item.Gate (λ n. tt) d.gates (item.Tag tag r) g)
    ]
  ]
  in_asked sorted (item.Fd fd b) h = elim (in_three (item.Fd fd b) h) [
    | inl t ↦ absurd (of_kind IsTagItem tag_item (λ e. tt) d.tags (item.Fd fd b) t)
    | inr k ↦ elim k [
      | inl f ↦ at_entries fd_item fds_numbered d.fds sorted.fds (fd, b) f
      | inr g ↦ absurd (of_kind IsGateItem item.Gate (λ n. tt) d.gates (item.Fd fd b) g)
    ]
  ]
  in_asked sorted (item.Gate entry) h = elim (in_three (item.Gate entry) h) [
    | inl t ↦ absurd (of_kind IsTagItem tag_item (λ e. tt) d.tags (item.Gate entry) t)
    | inr k ↦ elim k [
      | inl f ↦ absurd (of_kind IsFdItem fd_item (λ e. tt) d.fds (item.Gate entry) f)
      | inr g ↦ among_gates d.gates entry g
    ]
  ]

  items_sorted : IsSortedDraft d → AreSortedItems (items d)
  items_sorted sorted =
      sorted_both (tag_items ++ fd_items) gate_items
      (sorted_both tag_items fd_items (entries_sorted tag_item tags_numbered d.tags sorted.tags) (entries_sorted fd_item fds_numbered d.fds sorted.fds) tags_first)
      (gates_sorted 0 d.gates sorted.gates)
      gates_last
    where
      tags_first : (i j : Item) → IsIn i tag_items → IsIn j fd_items → ComesBefore i j
      tags_first i j h k =
          of_kind (λ x. ComesBefore x j) tag_item (λ e. of_kind (ComesBefore (tag_item e)) fd_item (λ f. tt) d.fds j k) d.tags i h

      gates_last : (i j : Item) → IsIn i (tag_items ++ fd_items) → IsIn j gate_items → ComesBefore i j
      gates_last i j h k = elim (in_either i tag_items fd_items h) [
        | inl t ↦ of_kind (λ x. ComesBefore x j) tag_item (λ e. of_kind (ComesBefore (tag_item e)) item.Gate (λ n. tt) d.gates j k) d.tags i t
        | inr f ↦ of_kind (λ x. ComesBefore x j) fd_item (λ e. of_kind (ComesBefore (fd_item e)) item.Gate (λ n. tt) d.gates j k) d.fds i f
      ]

-- ---- the first excess

is_true : (b : Bool) → not b ≡ false → b ≡ true
is_true true e = refl
is_true false e = absurd cc

module _ (s : Sheet) (m : Made) (d : Draft) where
  abbrev denied : Item → Bool
  denied i = not (may_grant s m i)

  not_denied : (i : Item) → denied i ≡ false → HoldsItem s m i
  not_denied i e = item_held s m i (is_true (may_grant s m i) e)

  is_lacking : (i : Item) → denied i ≡ true → HoldsItem s m i → ⊥
  is_lacking i e h = let may : may_grant s m i ≡ true = item_may s m i h in let off : denied i ≡ false = ap not may in absurd cc

  is_denied : (i : Item) → (HoldsItem s m i → ⊥) → denied i ≡ true
  is_denied i lacks = by_test (may_grant s m i) refl
    where
      by_test : (t : Bool) → may_grant s m i ≡ t → not t ≡ true
      by_test true e = absurd (lacks (item_held s m i e))
      by_test false e = refl

  user_lacking : may_be_user s d.user ≡ false → MayGiveUser s d → ⊥
  user_lacking e h = let may : may_be_user s d.user ≡ true = user_may s m d.user h in absurd cc

  root_lacking : may_be_root s d.root ≡ false → MayGiveRoot s d → ⊥
  root_lacking e h = let may : may_be_root s d.root ≡ true = root_may s m d.root h in absurd cc

  user_denied : (MayGiveUser s d → ⊥) → may_be_user s d.user ≡ false
  user_denied lacks = by_test (may_be_user s d.user) refl
    where
      by_test : (t : Bool) → may_be_user s d.user ≡ t → t ≡ false
      by_test true e = absurd (lacks (user_given s m d.user e))
      by_test false e = refl

  root_denied : (MayGiveRoot s d → ⊥) → may_be_root s d.root ≡ false
  root_denied lacks = by_test (may_be_root s d.root) refl
    where
      by_test : (t : Bool) → may_be_root s d.root ≡ t → t ≡ false
      by_test true e = absurd (lacks (root_given s m d.root e))
      by_test false e = refl

  module _ (sorted : IsSortedDraft d) where
    holds_items : item_excess s m (items d) ≡ None → HoldsItems s m d
    holds_items e i asked = not_denied i (none_found denied (items d) e i (asked_in d i asked))

    no_item_excess : HoldsItems s m d → item_excess s m (items d) ≡ None
    no_item_excess all = all_fail denied (items d) (λ i h. ap not (item_may s m i (all i (in_asked d sorted i h))))

    item_missing : (i : Item) → item_excess s m (items d) ≡ Some i → IsItemMissing s m d i
    item_missing i e =
        let first = first_found denied (items d) i (items_sorted d sorted) e in
        record {
          asked = in_asked d sorted i first.inside;
          lacking = is_lacking i first.passes;
          before = λ j asked earlier. not_denied j (first.before j (asked_in d j asked) earlier);
        }

    item_named : (i : Item) → IsItemMissing s m d i → item_excess s m (items d) ≡ Some i
    item_named i missing =
        found_first denied (items d) i (items_sorted d sorted) (record {
          inside = asked_in d i missing.asked;
          passes = is_denied i missing.lacking;
          before = λ j h earlier. ap not (item_may s m j (missing.before j (in_asked d sorted j h) earlier));
        })

    abbrev NamesMissing : Option Denial → Type 0
    NamesMissing o = MatchOption o (IsAllHeld s m d) (IsMissing s m d)

    names_if : (o : Option Item) (u r : Bool) → item_excess s m (items d) ≡ o → may_be_user s d.user ≡ u → may_be_root s d.root ≡ r
        → NamesMissing (option_or (option_map denial.Grant o) (if not u then Some denial.User else if not r then Some denial.Root else None))
    names_if (Some i) u r e f g = item_missing i e
    names_if None false r e f g = record { items = holds_items e; lacking = user_lacking f }
    names_if None true false e f g = record { items = holds_items e; user = user_given s m d.user f; lacking = root_lacking g }
    names_if None true true e f g = record { items = holds_items e; user = user_given s m d.user f; root = root_given s m d.root g }

    names : NamesMissing (first_excess s m d)
    names = names_if (item_excess s m (items d)) (may_be_user s d.user) (may_be_root s d.root) refl refl refl

    no_excess : IsAllHeld s m d → first_excess s m d ≡ None
    no_excess all = rw (no_item_excess all.items, user_may s m d.user all.user, root_may s m d.root all.root) refl

    named : (x : Denial) → IsMissing s m d x → first_excess s m d ≡ Some x
    named (denial.Grant i) missing = rw (item_named i missing) refl
    named denial.User missing = rw (no_item_excess missing.items, user_denied missing.lacking) refl
    named denial.Root missing = rw (no_item_excess missing.items, user_may s m d.user missing.user, root_denied missing.lacking) refl
    named (denial.Tag tag r) missing = absurd missing
    named (denial.Fd fd b) missing = absurd missing
    named (denial.Gate entry) missing = absurd missing
    named (denial.NotMaker tag) missing = absurd missing
    named (denial.File path) missing = absurd missing

pub names_missing : ExcessNamesTheMissingGrant
names_missing = record {
  none = λ s m d sorted. (λ e. subst (NamesMissing s m d sorted) e (names s m d sorted), no_excess s m d sorted);
  some = λ s m d x sorted. (λ e. subst (NamesMissing s m d sorted) e (names s m d sorted), named s m d sorted x);
}
