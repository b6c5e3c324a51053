-- The slots in which the tags of an actor were opened are below 4,096.
use Rattle.std.proofs.Common.{◌≡◌, ℕ, ◌+◌, ◌<◌, ◌≤◌, Bool, true, false, List, [], ◌∷◌, length, refl, sym, subst, arith}
use Rattle.std.specs.List.{AllByRecursion}
use Rattle.std.specs.Option.{option_or}
use Rattle.std.specs.Ordering.{nat_cmp}
use Rattle.std.specs.declared.cmp.Ordering.{Ordering}
use Rattle.std.specs.declared.cmp.Ordering.TheVariants.{Less, Equal, Greater}
use Rattle.std.specs.FinMap.Entries.{by_order}
use Rattle.std.specs.Prelude.{Option, Some, None, IfSome, map, unwrap_or, option_map, if◌then◌else◌}
use Rattle.callgate.specs.Gate.{gate_named}
use Rattle.callgate.specs.declared.gate.Gate.{Gate}
use Rattle.wedge_base.specs.Identities.{same_gate}
use Rattle.wedge_base.specs.Images.{slots}
use Rattle.wedge_base.specs.Maps.{Map, at, has, with, map_union}
use Rattle.wedge_base.specs.Sheets.{Sheet, Made, Draft, is_copy, nothing_made, with_grant, root_tags, root_sheet, slot_on, tag_granted, sheet_of_draft, made_tag, lent_to}
use Rattle.wedge_base.specs.declared.image.TagEntry.{TagEntry}
use Rattle.wedge_base.specs.declared.image.FdEntry.{FdEntry}
use Rattle.wedge_base.specs.declared.grants.GateId.{GateId}
use Rattle.wedge_base.specs.declared.rights.Grant.{Grant}
use Rattle.wedge_base.specs.declared.rights.Right.{Right}
use Rattle.machine.specs.declared.copy_grant.CopyGrant.{CopyGrant}
use Rattle.machine.specs.Between.{AreInSlots, AreGatesPlaced, HoldsInSlots, HasValidSlots}
use Rattle.machine.specs.CopyGrant.{copy_grants}
use Rattle.machine.specs.Preparation.{behind_first}

-- what is found among such entries is such
found : {X : Type 0} (f : X → ℕ) (es : Map X) (k : ℕ) (x : X) → AllByRecursion (λ e. f e.1 < slots) es → at es k ≡ Some x → f x < slots
found f [] k x all e = absurd cc
found f (y ∷ ys) k x all e = by_key _ e (found f ys k x all.1)
  where
    by_key : (t : Bool) → (if t then Some y.1 else at ys k) ≡ Some x → (at ys k ≡ Some x → f x < slots) → f x < slots
    by_key true h others = let is : y.1 ≡ x = cc in subst (λ z. f z < slots) is all.0
    by_key false h others = others h

pub held_inside : (s : Sheet) (m : Made) (tag : ℕ) → HoldsInSlots s m → unwrap_or (slot_on s m tag) 0 < slots
held_inside s m tag h = by_made (at m.tags tag) refl
  where
    by_sheet : (o : Option Grant) → at s.tags tag ≡ o → unwrap_or (option_map (λ g. g.slot) o) 0 < slots
    by_sheet None e = omega arith
    by_sheet (Some g) e = found (λ g. g.slot) s.tags tag g h.0 e

    by_made : (o : Option ℕ) → at m.tags tag ≡ o → unwrap_or (option_or o (option_map (λ g. g.slot) (at s.tags tag))) 0 < slots
    by_made (Some slot) e = found (λ n. n) m.tags tag slot h.1 e
    by_made None e = by_sheet (at s.tags tag) refl

-- the root's tags are in the slots of their numbers
root_entries : (n : ℕ) (ts : List TagEntry) → n + length ts ≤ slots → AllByRecursion (λ e. e.1.slot < slots) (root_tags n ts)
root_entries n [] few = tt
root_entries n (t ∷ ts) few = by_right t.right (root_entries (n + 1) ts (omega (arith, few)))
  where
    by_right : (o : Option Right) → AllByRecursion (λ e. e.1.slot < slots) (root_tags (n + 1) ts) → AllByRecursion (λ e. e.1.slot < slots) (with_grant n o (root_tags (n + 1) ts))
    by_right None others = others
    by_right (Some r) others = (omega (arith, few), others)

pub root_inside : (s : Sheet) (ts : List TagEntry) (fs : List FdEntry) (user : ℕ) (root : List ℕ) → s ≡ root_sheet ts fs user root → length ts ≤ 256 → HoldsInSlots s nothing_made
root_inside s ts fs user root is few = subst (λ (x : Sheet). HoldsInSlots x nothing_made) (sym is) (root_entries 0 ts (omega (arith, few)), tt)

-- those of a child are where those of its starter are
granted_entries : (s : Sheet) (m : Made) (es : Map Right) → HoldsInSlots s m → AllByRecursion (λ e. e.1.slot < slots) (map (tag_granted s m) es)
granted_entries s m [] h = tt
granted_entries s m (e ∷ es) h = (held_inside s m e.0 h, granted_entries s m es h)

pub granted_inside : (s : Sheet) (m : Made) (d : Draft) → HoldsInSlots s m → HoldsInSlots (sheet_of_draft s m d) nothing_made
granted_inside s m d h = (granted_entries s m d.tags h, tt)

-- so are the copies that a child is to have
copy_inside : (t : Bool) (g : CopyGrant) (gs : List CopyGrant) → g.slot < slots → AreInSlots gs → AreInSlots (if t then g ∷ gs else gs)
copy_inside true g gs inside all = (inside, all)
copy_inside false g gs inside all = all

pub copies_inside : (s : Sheet) (m : Made) (es : Map Right) (gs : List CopyGrant) → gs ≡ copy_grants (map (tag_granted s m) es) → HoldsInSlots s m → AreInSlots gs
copies_inside s m es gs is h = subst AreInSlots (sym is) (all es)
  where
    all : (rs : Map Right) → AreInSlots (copy_grants (map (tag_granted s m) rs))
    all [] = tt
    all (r ∷ rs) = copy_inside (is_copy r.1) (record { tag = r.0; slot = unwrap_or (slot_on s m r.0) 0 }) (copy_grants (map (tag_granted s m) rs)) (held_inside s m r.0 h) (all rs)

pub behind_inside : (gs : List CopyGrant) → AreInSlots gs → AreInSlots (behind_first gs)
behind_inside [] all = tt
behind_inside (g ∷ gs) all = all.1

-- and one that is made is where it is opened
with_entry : {X : Type 0} (f : X → ℕ) (es : Map X) (k : ℕ) (x : X) → f x < slots → AllByRecursion (λ e. f e.1 < slots) es → AllByRecursion (λ e. f e.1 < slots) (with es k x)
with_entry f [] k x inside all = (inside, tt)
with_entry f (e ∷ es) k x inside all = by_key (nat_cmp k e.0) (with_entry f es k x inside all.1)
  where
    by_key : (o : Ordering) → AllByRecursion (λ y. f y.1 < slots) (with es k x) → AllByRecursion (λ y. f y.1 < slots) (by_order o ((k, x) ∷ e ∷ es) ((e.0, x) ∷ es) (e ∷ with es k x))
    by_key Less others = (inside, all)
    by_key Equal others = (inside, all.1)
    by_key Greater others = (all.0, others)

pub made_inside : (m new : Made) (tag slot : ℕ) → new ≡ made_tag m tag slot → slot < slots → AllByRecursion (λ e. e.1 < slots) m.tags → AllByRecursion (λ e. e.1 < slots) new.tags
made_inside m new tag slot is inside all = subst (λ (x : Made). AllByRecursion (λ e. e.1 < slots) x.tags) (sym is) (with_entry (λ n. n) m.tags tag slot inside all)

-- those of a gate that is found among others are where the others' are
pub named_inside : (gates : List Gate) (id : GateId) (g : Gate) → Some g ≡ gate_named gates id → AreGatesPlaced gates → HasValidSlots g.sheet
named_inside [] id g is all = absurd cc
named_inside (x ∷ xs) id g is all = by_name (same_gate x.id id) is (λ h. named_inside xs id g h all.1)
  where
    by_name : (t : Bool) → Some g ≡ (if t then Some x else gate_named xs id) → (Some g ≡ gate_named xs id → HasValidSlots g.sheet) → HasValidSlots g.sheet
    by_name true h others = let e : x ≡ g = cc in subst (λ (y : Gate). HasValidSlots y.sheet) e all.0
    by_name false h others = others h

-- those of a run are where its gate's are, and those that are lent
joined_entries : (es ls : Map Grant) → AllByRecursion (λ e. e.1.slot < slots) es → AllByRecursion (λ e. e.1.slot < slots) ls → AllByRecursion (λ e. e.1.slot < slots) (map_union es ls)
joined_entries es [] all lent = all
joined_entries es (l ∷ ls) all lent = joined_entries (if has es l.0 then es else with es l.0 l.1) ls (by_key (has es l.0)) lent.1
  where
    by_key : (t : Bool) → AllByRecursion (λ e. e.1.slot < slots) (if t then es else with es l.0 l.1)
    by_key true = all
    by_key false = with_entry (λ g. g.slot) es l.0 l.1 lent.0 all

pub run_inside : (run gate : Sheet) (lent : Option Sheet) → run ≡ lent_to gate lent → HasValidSlots gate → IfSome lent HasValidSlots → HasValidSlots run
run_inside run gate lent is own others = subst HasValidSlots (sym is) (by_lent lent others)
  where
    by_lent : (o : Option Sheet) → IfSome o HasValidSlots → HasValidSlots (lent_to gate o)
    by_lent None h = own
    by_lent (Some s) h = joined_entries gate.tags s.tags own h
