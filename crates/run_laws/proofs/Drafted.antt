-- The sheet of a draft has what the draft asks for, grant by grant.

use Rattle.std.proofs.Common.{◌≡◌, ℕ, Bool, true, false, ◌||◌, cond, List, [], ◌∷◌, ◌++◌, map, filter_map, Option, Some, None, if◌then◌else◌, refl, sym, subst, ◌∙◌, arith}
use Rattle.std.specs.Prelude.{find, is_some, not}
use Rattle.std.specs.List.{cons_option}
use Rattle.std.specs.Option.{option_map, option_or}
use Rattle.std.specs.Ordering.{nat_cmp, is_eq}
use Rattle.std.proofs.lemmas.Bool.Decides.{nat_tests}
use Rattle.wedge_base.specs.Maps.{Map, at, is_among}
use Rattle.wedge_base.specs.Sheets.{Sheet, Made, Draft, gate_at, tag_granted, gate_granted, sheet_of_draft, first_excess, item_excess, user_excess, items, may_grant, tag_item, fd_item}
use Rattle.wedge_base.specs.declared.rights.Denial.{Denial}
use Rattle.wedge_base.specs.declared.rights.Denial.TheVariants as denial
use Rattle.wedge_base.specs.declared.grants.Item.{Item}
use Rattle.wedge_base.specs.declared.grants.Item.TheVariants as item
use Rattle.wedge_base.specs.declared.grants.GateId.{GateId}
use Rattle.wedge_base.specs.declared.rights.Grant.{Grant}
use Rattle.wedge_base.specs.declared.rights.Right.{Right}
use Rattle.run_laws.specs.Holding.{IsDrafted}

tags_asked : (s : Sheet) (m : Made) (es : Map Right) (tag : ℕ) → option_map (λ (g : Grant). g.right) (at (map (tag_granted s m) es) tag) ≡ at es tag
tags_asked s m [] tag = refl
tags_asked s m (e ∷ es) tag = by_key (is_eq (nat_cmp tag e.0)) (tags_asked s m es tag)
  where
    by_key : (b : Bool) → option_map (λ (g : Grant). g.right) (at (map (tag_granted s m) es) tag) ≡ at es tag
        → option_map (λ (g : Grant). g.right) (cond b (Some (tag_granted s m e).1) (at (map (tag_granted s m) es) tag)) ≡ cond b (Some e.1) (at es tag)
    by_key true others = refl
    by_key false others = others

gates_asked : (s : Sheet) (m : Made) (ns : List ℕ) (entry : ℕ) → at (filter_map (gate_granted s m) ns) entry ≡ (if is_among ns entry then gate_at s m entry else None)
gates_asked s m [] entry = refl
gates_asked s m (n ∷ ns) entry = by_gate (gate_at s m n) refl (gates_asked s m ns entry)
  where
    others : Map GateId
    others = filter_map (gate_granted s m) ns

    either : (t : Bool) → gate_at s m entry ≡ None → (if t then gate_at s m entry else None) ≡ None
    either true gone = gone
    either false gone = refl

    none_here : (b : Bool) → is_eq (nat_cmp entry n) ≡ b → gate_at s m n ≡ None → at others entry ≡ (if is_among ns entry then gate_at s m entry else None)
        → at others entry ≡ (if b || is_among ns entry then gate_at s m entry else None)
    none_here true q here h =
        let key : n ≡ entry = grind (arith, nat_tests) in
        let gone : gate_at s m entry ≡ None = subst (λ k. gate_at s m k ≡ None) key here in
        h ∙ (either (is_among ns entry) gone ∙ sym gone)
    none_here false q here h = h

    some_here : (b : Bool) (id : GateId) → is_eq (nat_cmp entry n) ≡ b → gate_at s m n ≡ Some id → at others entry ≡ (if is_among ns entry then gate_at s m entry else None)
        → cond b (Some id) (at others entry) ≡ (if b || is_among ns entry then gate_at s m entry else None)
    some_here true id q here h =
        let key : n ≡ entry = grind (arith, nat_tests) in
        sym (subst (λ k. gate_at s m k ≡ Some id) key here)
    some_here false id q here h = h

    by_gate : (o : Option GateId) → gate_at s m n ≡ o → at others entry ≡ (if is_among ns entry then gate_at s m entry else None)
        → at (cons_option (option_map (λ id. (n, id)) o) others) entry ≡ (if is_eq (nat_cmp entry n) || is_among ns entry then gate_at s m entry else None)
    by_gate None here h = none_here (is_eq (nat_cmp entry n)) refl here h
    by_gate (Some id) here h = some_here (is_eq (nat_cmp entry n)) id refl here h

-- nothing that may not be granted is among the gates that are asked for
no_item : (o : Option Item) (u : Option Denial) → option_or (option_map denial.Grant o) u ≡ None → o ≡ None
no_item None u e = refl
no_item (Some i) u e = absurd cc

none_behind : (p : Item → Bool) (xs ys : List Item) → find p (xs ++ ys) ≡ None → find p ys ≡ None
none_behind p [] ys e = e
none_behind p (x ∷ xs) ys e = by_first (p x) e (none_behind p xs ys)
  where
    by_first : (t : Bool) → (if t then Some x else find p (xs ++ ys)) ≡ None → (find p (xs ++ ys) ≡ None → find p ys ≡ None) → find p ys ≡ None
    by_first true h others = absurd cc
    by_first false h others = others h

none_lacks : (s : Sheet) (m : Made) (ns : List ℕ) (entry : ℕ) → find (λ i. not (may_grant s m i)) (map item.Gate ns) ≡ None → is_among ns entry ≡ true → is_some (gate_at s m entry) ≡ true
none_lacks s m [] entry e among = absurd cc
none_lacks s m (n ∷ ns) entry e among = by_held (is_some (gate_at s m n)) refl e (none_lacks s m ns entry)
  where
    by_entry : (b : Bool) → is_eq (nat_cmp entry n) ≡ b → (b || is_among ns entry) ≡ true → is_some (gate_at s m n) ≡ true → (is_among ns entry ≡ true → is_some (gate_at s m entry) ≡ true) → is_some (gate_at s m entry) ≡ true
    by_entry true q h here others = let key : n ≡ entry = grind (arith, nat_tests) in subst (λ k. is_some (gate_at s m k) ≡ true) key here
    by_entry false q h here others = others h

    by_held : (t : Bool) → is_some (gate_at s m n) ≡ t → (if not t then Some (item.Gate n) else find (λ i. not (may_grant s m i)) (map item.Gate ns)) ≡ None
        → (find (λ i. not (may_grant s m i)) (map item.Gate ns) ≡ None → is_among ns entry ≡ true → is_some (gate_at s m entry) ≡ true) → is_some (gate_at s m entry) ≡ true
    by_held false q h others = absurd cc
    by_held true q h others = by_entry (is_eq (nat_cmp entry n)) refl among q (others h)

pub is_drafted : (s : Sheet) (m : Made) (d : Draft) → first_excess s m d ≡ None → IsDrafted s m d (sheet_of_draft s m d)
is_drafted s m d allowed =
    let p : Item → Bool = λ i. not (may_grant s m i) in
    let none : find p ((map tag_item d.tags ++ map fd_item d.fds) ++ map item.Gate d.gates) ≡ None = no_item (item_excess s m (items d)) (user_excess s d) allowed in
    record {
      tags = λ tag. tags_asked s m d.tags tag;
      fds = λ fd. refl;
      gates = λ entry. gates_asked s m d.gates entry;
      user = refl;
      held = λ entry among. none_lacks s m d.gates entry (none_behind p (map tag_item d.tags ++ map fd_item d.fds) (map item.Gate d.gates) none) among;
      root = refl;
    }
