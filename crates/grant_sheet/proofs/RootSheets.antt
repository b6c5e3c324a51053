-- The root of a run begins with the rights, the bits, the user and the root directory that are
-- declared.
use Rattle.std.proofs.Common.{◌≡◌, ℕ, zero, suc, ◌+◌, ◌<◌, true, false, cond, List, [], ◌∷◌, Option, Some, None, slice_get, refl, sym, ap, ◌∙◌, arith}
use Rattle.std.specs.Option.{option_map, option_and_then}
use Rattle.std.specs.Ordering.{nat_cmp, eq_by_cmp}
use Rattle.std.proofs.lemmas.Bool.Decides.{nat_tests}
use Rattle.std.proofs.lemmas.Option.{same_Some}
use Rattle.wedge_base.specs.Maps.{Map, at}
use Rattle.wedge_base.specs.Sheets.{with_grant, root_tags, root_fds}
use Rattle.wedge_base.specs.declared.image.TagEntry.{TagEntry}
use Rattle.wedge_base.specs.declared.image.FdEntry.{FdEntry}
use Rattle.wedge_base.specs.declared.rights.Grant.{Grant}
use Rattle.wedge_base.specs.declared.rights.Right.{Right}
use Rattle.grant_sheet.specs.RootSheets.{RootSheetsAreDeclared}

-- ---- numbers that are compared

same_key : (q n : ℕ) → q ≡ n → eq_by_cmp nat_cmp q n ≡ true
same_key q n e = grind (arith, nat_tests)

lower_key : (q n : ℕ) → q < n → eq_by_cmp nat_cmp q n ≡ false
lower_key q n below = grind (arith, nat_tests)

higher_key : (q n : ℕ) → n < q → eq_by_cmp nat_cmp q n ≡ false
higher_key q n above = grind (arith, nat_tests)

-- ---- an entry ahead of the others

module _ {X : Type 0} (n : ℕ) (v : X) (es : Map X) where
  at_head : (q : ℕ) → q ≡ n → at ((n, v) ∷ es) q ≡ Some v
  at_head q e = ap (λ t. cond t (Some v) (at es q)) (same_key q n e)

  at_lower : (q : ℕ) → q < n → at ((n, v) ∷ es) q ≡ at es q
  at_lower q below = ap (λ t. cond t (Some v) (at es q)) (lower_key q n below)

  at_higher : (q : ℕ) → n < q → at ((n, v) ∷ es) q ≡ at es q
  at_higher q above = ap (λ t. cond t (Some v) (at es q)) (higher_key q n above)

-- ---- tags

-- the right that is declared for the tag of an index, if one is
abbrev right_in : List TagEntry → ℕ → Option Right
right_in ts i = option_and_then (λ t. t.right) (slice_get ts i)

-- the grant of a right on a tag, in the slot of its number
abbrev declared_grant : ℕ → Option Right → Option Grant
declared_grant n r = option_map (λ x. record { right = x; slot = n }) r

grant_head : (n q : ℕ) (r : Option Right) (rest : Map Grant) → q ≡ n → at rest q ≡ None
    → at (with_grant n r rest) q ≡ declared_grant q r
grant_head n q None rest e none = none
grant_head n q (Some r) rest e none =
    at_head n (record { right = r; slot = n }) rest q e
    ∙ ap (λ k. declared_grant k (Some r)) (sym e)

grant_lower : (n q : ℕ) (r : Option Right) (rest : Map Grant) → q < n
    → at (with_grant n r rest) q ≡ at rest q
grant_lower n q None rest below = refl
grant_lower n q (Some r) rest below = at_lower n (record { right = r; slot = n }) rest q below

grant_higher : (n q : ℕ) (r : Option Right) (rest : Map Grant) → n < q
    → at (with_grant n r rest) q ≡ at rest q
grant_higher n q None rest above = refl
grant_higher n q (Some r) rest above = at_higher n (record { right = r; slot = n }) rest q above

tags_lower : (n q : ℕ) (ts : List TagEntry) → q < n → at (root_tags n ts) q ≡ None
tags_lower n q [] below = refl
tags_lower n q (t ∷ ts) below =
    grant_lower n q t.right (root_tags (n + 1) ts) below
    ∙ tags_lower (n + 1) q ts (omega (arith, below))

-- where numbers begin at n, the tag of index i has the number n + i
tags_at : (n i q : ℕ) (ts : List TagEntry) → q ≡ n + i
    → at (root_tags n ts) q ≡ declared_grant q (right_in ts i)
tags_at n i q [] e = refl
tags_at n zero q (t ∷ ts) e =
    grant_head n q t.right (root_tags (n + 1) ts) (omega (arith, e))
    (tags_lower (n + 1) q ts (omega (arith, e)))
tags_at n (suc i) q (t ∷ ts) e =
    grant_higher n q t.right (root_tags (n + 1) ts) (omega (arith, e))
    ∙ tags_at (n + 1) i q ts (omega (arith, e))

right_of : (n : ℕ) (r : Option Right) → option_map (λ g. g.right) (declared_grant n r) ≡ r
right_of n None = refl
right_of n (Some r) = refl

slot_of : (n : ℕ) (r : Option Right) (g : Grant) → declared_grant n r ≡ Some g → g.slot ≡ n
slot_of n None g e = absurd cc
slot_of n (Some r) g e = ap (λ x. x.slot) (sym (same_Some (record { right = r; slot = n }) g e))

-- ---- descriptors

-- where numbers begin at n, the descriptor of index i has the number n + i
fds_at : (n i q : ℕ) (fs : List FdEntry) → q ≡ n + i
    → at (root_fds n fs) q ≡ option_map (λ f. f.bits) (slice_get fs i)
fds_at n i q [] e = refl
fds_at n zero q (f ∷ fs) e = at_head n f.bits (root_fds (n + 1) fs) q (omega (arith, e))
fds_at n (suc i) q (f ∷ fs) e =
    at_higher n f.bits (root_fds (n + 1) fs) q (omega (arith, e))
    ∙ fds_at (n + 1) i q fs (omega (arith, e))

-- ---- the sheet

declared_at : (ts : List TagEntry) (tag : ℕ)
    → at (root_tags 0 ts) tag ≡ declared_grant tag (right_in ts tag)
declared_at ts tag = tags_at 0 tag tag ts (omega arith)

pub root_declared : RootSheetsAreDeclared
root_declared ts fs user root = record {
  rights = λ tag.
      ap (option_map (λ g. g.right)) (declared_at ts tag) ∙ right_of tag (right_in ts tag);
  slots = λ tag g e. slot_of tag (right_in ts tag) g (sym (declared_at ts tag) ∙ e);
  bits = λ fd. fds_at 0 fd fd fs (omega arith);
  gates = refl;
  user = refl;
  root = refl;
}
