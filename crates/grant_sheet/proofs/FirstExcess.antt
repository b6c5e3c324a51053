-- The first excess of a draft is what a first excess means, and there is none exactly where the draft is within what its
-- creator holds.
use Rattle.std.proofs.Common.{◌≡◌, Bool, true, false, not, cond, List, [], ◌∷◌, ◌++◌, map, Option, Some, None, if◌then◌else◌, refl, sym, ap, subst, ◌∙◌, arith}
use Rattle.std.specs.Prelude.{All, find, MatchOption, IfNone, IfSome}
use Rattle.std.specs.Option.{option_map, option_or}
use Rattle.std.proofs.lemmas.List.Elements.{All-cons, All-tail}
use Rattle.std.proofs.lemmas.List.Folds.{find-append}
use Rattle.std.proofs.lemmas.Option.{same_Some}
use Rattle.wedge_base.specs.Sheets.{Sheet, Made, Draft, may_grant, may_be_user, may_be_root, tag_item, fd_item, items, item_excess, first_excess}
use Rattle.wedge_base.specs.declared.grants.Item.{Item}
use Rattle.wedge_base.specs.declared.grants.Item.TheVariants as item
use Rattle.wedge_base.specs.declared.rights.Denial.{Denial}
use Rattle.wedge_base.specs.declared.rights.Denial.TheVariants as denial
use Rattle.grant_sheet.specs.Excess.{MayGrant, IsDraftWithin, IsFirstDenied, IsExcess}

-- ---- the first item that may not be granted

module _ (s : Sheet) (m : Made) where
  none_if : (i : Item) (is : List Item) (b : Bool) → may_grant s m i ≡ b → cond (not b) (Some i) (item_excess s m is) ≡ None
      → (item_excess s m is ≡ None → All (MayGrant s m) is) → All (MayGrant s m) (i ∷ is)
  none_if i is true q e rest = All-cons (MayGrant s m) i is q (rest e)
  none_if i is false q e rest = absurd (cc)

  -- where none is denied, all may be granted
  all_granted : (is : List Item) → item_excess s m is ≡ None → All (MayGrant s m) is
  all_granted [] e = λ k d lt. absurd (omega arith)
  all_granted (i ∷ is) e = none_if i is (may_grant s m i) refl e (all_granted is)

  none_denied : (is : List Item) → All (MayGrant s m) is → item_excess s m is ≡ None
  none_denied [] all = refl
  none_denied (i ∷ is) all =
      let one : may_grant s m i ≡ true = all 0 i (omega arith) in
      rw one (none_denied is (All-tail (MayGrant s m) i is all))

  pub first_of_three : (d : Draft) → item_excess s m (items d)
      ≡ option_or (option_or (item_excess s m (map tag_item d.tags)) (item_excess s m (map fd_item d.fds))) (item_excess s m (map item.Gate d.gates))
  first_of_three d =
      let denied = λ (i : Item). not (may_grant s m i) in
      find-append denied (map tag_item d.tags ++ map fd_item d.fds) (map item.Gate d.gates)
      ∙ ap (λ o. option_or o (find denied (map item.Gate d.gates))) (find-append denied (map tag_item d.tags) (map fd_item d.fds))

  denied_if : (i j : Item) (is : List Item) (b : Bool) → may_grant s m i ≡ b → cond (not b) (Some i) (item_excess s m is) ≡ Some j
      → (item_excess s m is ≡ Some j → IsFirstDenied s m is j) → IsFirstDenied s m (i ∷ is) j
  denied_if i j is true q e rest =
      let first = rest e in
      record {
        before = i ∷ first.before;
        after = first.after;
        split = ap (λ l. i ∷ l) first.split;
        granted = All-cons (MayGrant s m) i first.before q first.granted;
        denied = first.denied;
      }
  denied_if i j is false q e rest =
      let is_i : i ≡ j = same_Some i j e in
      record {
        before = [];
        after = is;
        split = ap (λ x. x ∷ is) is_i;
        granted = λ k d lt. absurd (omega arith);
        denied = subst (λ x. may_grant s m x ≡ false) is_i q;
      }

  first_denied : (is : List Item) (j : Item) → item_excess s m is ≡ Some j → IsFirstDenied s m is j
  first_denied [] j e = absurd (cc)
  first_denied (i ∷ is) j e = denied_if i j is (may_grant s m i) refl e (first_denied is j)

  -- ---- the first excess

  abbrev Means : Draft → Option Denial → Type 0
  Means d o = MatchOption o (IsDraftWithin s m d) (IsExcess s m d)

  means_if : (d : Draft) (o : Option Item) (u r : Bool) → item_excess s m (items d) ≡ o → may_be_user s d.user ≡ u → may_be_root s d.root ≡ r
      → Means d (option_or (option_map denial.Grant o) (if not u then Some denial.User else if not r then Some denial.Root else None))
  means_if d (Some i) u r e f g = first_denied (items d) i e
  means_if d None false r e f g = record { items = all_granted (items d) e; denied = f }
  means_if d None true false e f g = record { items = all_granted (items d) e; user = f; denied = g }
  means_if d None true true e f g = record { items = all_granted (items d) e; user = f; root = g }

  pub excess_means : (d : Draft) → MatchOption (first_excess s m d) (IsDraftWithin s m d) (IsExcess s m d)
  excess_means d = means_if d (item_excess s m (items d)) (may_be_user s d.user) (may_be_root s d.root) refl refl refl

  pub no_excess : (d : Draft) → IsDraftWithin s m d → first_excess s m d ≡ None
  no_excess d within = rw (none_denied (items d) within.items, within.user, within.root)

-- ---- the clauses of an answer that is the first excess

pub excess_none : (s : Sheet) (m : Made) (d : Draft) (o : Option Denial) → o ≡ first_excess s m d → IfNone o (IsDraftWithin s m d)
excess_none s m d None e = subst (λ x. MatchOption x (IsDraftWithin s m d) (IsExcess s m d)) (sym e) (excess_means s m d)
excess_none s m d (Some x) e = tt

pub excess_some : (s : Sheet) (m : Made) (d : Draft) (o : Option Denial) → o ≡ first_excess s m d → IfSome o (IsExcess s m d)
excess_some s m d None e = tt
excess_some s m d (Some x) e = subst (λ y. MatchOption y (IsDraftWithin s m d) (IsExcess s m d)) (sym e) (excess_means s m d)

pub excess_within : (s : Sheet) (m : Made) (d : Draft) (o : Option Denial) → o ≡ first_excess s m d → IsDraftWithin s m d → o ≡ None
excess_within s m d o e within = e ∙ no_excess s m d within
