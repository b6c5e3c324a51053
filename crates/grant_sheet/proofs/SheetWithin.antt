-- The sheet of a draft without excess is within what its creator holds.
use Rattle.std.proofs.Common.{◌≡◌, ℕ, ◌==◌, Bool, true, false, ◌&&◌, cond, List, [], ◌∷◌, ◌++◌, map, filter_map, Option, Some, None, is_some, unwrap_or, if◌then◌else◌, refl, sym, ap, subst, ◌∙◌, inl, inr, arith}
use Rattle.std.specs.Prelude.{All, MatchOption, ◌⊎◌}
use Rattle.std.specs.List.{cons_option}
use Rattle.std.specs.Option.{option_map, option_or}
use Rattle.std.specs.Ordering.{nat_cmp, is_eq}
use Rattle.std.specs.Cmp.Lexicographic.{bytes_decides}
use Rattle.std.proofs.lemmas.Bool.{eqb-true, or_cases, and_parts}
use Rattle.std.proofs.lemmas.Bool.Decides.{nat_tests}
use Rattle.std.proofs.lemmas.List.Elements.{All-cons, All-tail}
use Rattle.std.proofs.lemmas.Option.{same_Some}
use Rattle.wedge_base.specs.Maps.{Map, at}
use Rattle.wedge_base.specs.Names.{same}
use Rattle.wedge_base.specs.Paths.{under}
use Rattle.wedge_base.specs.Rights.{at_least, bits_within, no_bits}
use Rattle.wedge_base.specs.Sheets.{Sheet, Made, Draft, right_on, bits_on, bits_in, gate_at, slot_on, may_grant, may_be_user, may_be_root, tag_item, fd_item, first_excess, tag_granted, gate_granted, sheet_of_draft}
use Rattle.wedge_base.specs.declared.grants.GateId.{GateId}
use Rattle.wedge_base.specs.declared.grants.Item.TheVariants as item
use Rattle.wedge_base.specs.declared.rights.Right.{Right}
use Rattle.wedge_base.specs.declared.rights.Right.TheVariants as right
use Rattle.wedge_base.specs.declared.rights.FdBits.{FdBits}
use Rattle.wedge_base.specs.declared.rights.Grant.{Grant}
use Rattle.grant_sheet.specs.Excess.{MayGrant, IsDraftWithin, IsExcess}
use Rattle.grant_sheet.specs.Granting.{IsWithin}
use Rattle.grant_sheet.proofs.FirstExcess.{excess_means}

module _ (s : Sheet) (m : Made) where
  abbrev IsTagWithin : ℕ → Grant → Type 0
  IsTagWithin tag g = (at_least (right_on s m tag) g.right ≡ true) × (g.slot ≡ unwrap_or (slot_on s m tag) 0)

  tag_if : (tag : ℕ) (g : Grant) (e : ℕ × Right) (es : Map Right) (b : Bool) → is_eq (nat_cmp tag e.0) ≡ b
      → may_grant s m (tag_item e) ≡ true → cond b (Some (tag_granted s m e).1) (at (map (tag_granted s m) es) tag) ≡ Some g
      → (at (map (tag_granted s m) es) tag ≡ Some g → IsTagWithin tag g) → IsTagWithin tag g
  tag_if tag g e es true q may found rest =
      let key : e.0 ≡ tag = grind (arith, nat_tests) in
      subst (IsTagWithin tag) (same_Some _ g found) (subst (λ t. at_least (right_on s m t) e.1 ≡ true) key may, ap (λ t. unwrap_or (slot_on s m t) 0) key)
  tag_if tag g e es false q may found rest = rest found

  tag_within : (es : Map Right) → All (MayGrant s m) (map tag_item es) → (tag : ℕ) (g : Grant) → at (map (tag_granted s m) es) tag ≡ Some g → IsTagWithin tag g
  tag_within [] all tag g found = absurd (cc)
  tag_within (e ∷ es) all tag g found =
      tag_if tag g e es (is_eq (nat_cmp tag e.0)) refl (all 0 (tag_item e) (omega arith)) found
      (tag_within es (All-tail (MayGrant s m) (tag_item e) (map tag_item es) all) tag g)

  abbrev IsFdWithin : ℕ → FdBits → Type 0
  IsFdWithin fd bits = bits_within bits (bits_on s m fd) ≡ true

  fd_if : (fd : ℕ) (e : ℕ × FdBits) (es : Map FdBits) (b : Bool) → is_eq (nat_cmp fd e.0) ≡ b
      → may_grant s m (fd_item e) ≡ true → IsFdWithin fd (bits_in es fd) → IsFdWithin fd (unwrap_or (cond b (Some e.1) (at es fd)) no_bits)
  fd_if fd e es true q may rest =
      let key : e.0 ≡ fd = grind (arith, nat_tests) in
      subst (λ f. IsFdWithin f e.1) key may
  fd_if fd e es false q may rest = rest

  fd_within : (es : Map FdBits) → All (MayGrant s m) (map fd_item es) → (fd : ℕ) → IsFdWithin fd (bits_in es fd)
  fd_within [] all fd = refl
  fd_within (e ∷ es) all fd =
      fd_if fd e es (is_eq (nat_cmp fd e.0)) refl (all 0 (fd_item e) (omega arith)) (fd_within es (All-tail (MayGrant s m) (fd_item e) (map fd_item es) all) fd)

  abbrev IsGateWithin : ℕ → Map GateId → Type 0
  IsGateWithin entry gs = (gate : GateId) → at gs entry ≡ Some gate → gate_at s m entry ≡ Some gate

  gate_key_if : (entry n : ℕ) (id : GateId) (rest : Map GateId) (b : Bool) → is_eq (nat_cmp entry n) ≡ b → gate_at s m n ≡ Some id
      → IsGateWithin entry rest → (gate : GateId) → cond b (Some id) (at rest entry) ≡ Some gate → gate_at s m entry ≡ Some gate
  gate_key_if entry n id rest true q here within gate found =
      let key : n ≡ entry = grind (arith, nat_tests) in
      subst (λ k. gate_at s m k ≡ Some gate) key (here ∙ found)
  gate_key_if entry n id rest false q here within gate found = within gate found

  gate_if : (entry n : ℕ) (o : Option GateId) (rest : Map GateId) → gate_at s m n ≡ o → IsGateWithin entry rest
      → IsGateWithin entry (cons_option (option_map (λ id. (n, id)) o) rest)
  gate_if entry n None rest here within = within
  gate_if entry n (Some id) rest here within = gate_key_if entry n id rest (is_eq (nat_cmp entry n)) refl here within

  gate_within : (ns : List ℕ) (entry : ℕ) → IsGateWithin entry (filter_map (gate_granted s m) ns)
  gate_within [] entry = λ gate found. absurd (cc)
  gate_within (n ∷ ns) entry = gate_if entry n (gate_at s m n) (filter_map (gate_granted s m) ns) refl (gate_within ns entry)

  held_if : (a : Option ℕ) (b : Option Grant) (r : Right) → at_least (if is_some a then Some right.ReadWrite else option_map (λ g. g.right) b) r ≡ true
      → option_or a (option_map (λ g. g.slot) b) ≡ Some (unwrap_or (option_or a (option_map (λ g. g.slot) b)) 0)
  held_if (Some x) b r may = refl
  held_if None (Some g) r may = refl
  held_if None None r may = absurd (cc)

  slot_within : (tag : ℕ) (g : Grant) → IsTagWithin tag g → slot_on s m tag ≡ Some g.slot
  slot_within tag g within = held_if (at m.tags tag) (at s.tags tag) g.right within.0 ∙ ap Some (sym within.1)

  user_within : (u : Option ℕ) → may_be_user s u ≡ true → (unwrap_or u s.user ≡ s.user) ⊎ (s.user ≡ 0)
  user_within None may = inl refl
  user_within (Some u) may = elim (or_cases (u == s.user) (s.user == 0) may) [ inl e ↦ inl (eqb-true u s.user e) | inr e ↦ inr (eqb-true s.user 0 e) ]

  root_within : (r : Option (List ℕ)) → may_be_root s r ≡ true → (unwrap_or r s.root ≡ s.root) ⊎ ((s.user ≡ 0) × (under s.root (unwrap_or r s.root) ≡ true))
  root_within None may = inl refl
  root_within (Some r) may = elim (or_cases (same r s.root) ((s.user == 0) && under s.root r) may) [
    | inl e ↦ inl ((bytes_decides r s.root).0 e)
    | inr e ↦ inr (let both = and_parts (s.user == 0) (under s.root r) e in (eqb-true s.user 0 both.0, both.1))
  ]

  first_all : {X : Type 0} (P : X → Type 0) (xs ys : List X) → All P (xs ++ ys) → All P xs
  first_all P [] ys all = λ k d lt. absurd (omega arith)
  first_all P (x ∷ xs) ys all = All-cons P x xs (all 0 x (omega arith)) (first_all P xs ys (All-tail P x (xs ++ ys) all))

  second_all : {X : Type 0} (P : X → Type 0) (xs ys : List X) → All P (xs ++ ys) → All P ys
  second_all P [] ys all = all
  second_all P (x ∷ xs) ys all = second_all P xs ys (All-tail P x (xs ++ ys) all)

  pub granted_within : (d : Draft) → IsDraftWithin s m d → IsWithin s m (sheet_of_draft s m d)
  granted_within d within =
      let tags_fds = first_all (MayGrant s m) (map tag_item d.tags ++ map fd_item d.fds) (map item.Gate d.gates) within.items in
      let tags = first_all (MayGrant s m) (map tag_item d.tags) (map fd_item d.fds) tags_fds in
      let fds = second_all (MayGrant s m) (map tag_item d.tags) (map fd_item d.fds) tags_fds in
      record {
        tags = λ tag g found. (tag_within d.tags tags tag g found).0;
        slots = λ tag g found. slot_within tag g (tag_within d.tags tags tag g found);
        fds = fd_within d.fds fds;
        gates = λ entry gate found. gate_within d.gates entry gate found;
        user = user_within d.user within.user;
        root = root_within d.root within.root;
      }

-- the sheet of a draft without excess is within what its creator holds
pub sheet_within : (s : Sheet) (m : Made) (d : Draft) → first_excess s m d ≡ None → IsWithin s m (sheet_of_draft s m d)
sheet_within s m d e = granted_within s m d (subst (λ o. MatchOption o (IsDraftWithin s m d) (IsExcess s m d)) e (excess_means s m d))
