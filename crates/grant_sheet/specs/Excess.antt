-- Drafts of which an actor may grant every part, and the first part of one that it may not grant.
use Rattle.std.specs.Prelude.{◌≡◌, true, false, List, ◌∷◌, ◌++◌, All}
use Rattle.wedge_base.specs.Sheets.{Sheet, Made, Draft, may_grant, may_be_user, may_be_root, items}
use Rattle.wedge_base.specs.declared.grants.Item.{Item}
use Rattle.wedge_base.specs.declared.rights.Denial.{Denial}
use Rattle.wedge_base.specs.declared.rights.Denial.TheVariants as denial

-- an actor with this sheet, having made these, may grant an item
abbrev pub MayGrant : Sheet → Made → Item → Type 0
MayGrant s m i = may_grant s m i ≡ true

-- an actor may grant every part of a draft
pub record IsDraftWithin (s : Sheet) (m : Made) (d : Draft) : Type 0 where
  pub items : All (MayGrant s m) (items d)
  pub user : may_be_user s d.user ≡ true
  pub root : may_be_root s d.root ≡ true

-- an item is the first of a list that an actor may not grant
pub record IsFirstDenied (s : Sheet) (m : Made) (is : List Item) (i : Item) : Type 0 where
  pub before : List Item
  pub after : List Item
  pub split : is ≡ before ++ i ∷ after
  pub granted : All (MayGrant s m) before
  pub denied : may_grant s m i ≡ false

-- an actor may grant each item of a draft, and not its user
pub record IsUserDenied (s : Sheet) (m : Made) (d : Draft) : Type 0 where
  pub items : All (MayGrant s m) (items d)
  pub denied : may_be_user s d.user ≡ false

-- an actor may grant each item of a draft and its user, and not its root directory
pub record IsRootDenied (s : Sheet) (m : Made) (d : Draft) : Type 0 where
  pub items : All (MayGrant s m) (items d)
  pub user : may_be_user s d.user ≡ true
  pub denied : may_be_root s d.root ≡ false

-- a denial names the first part of a draft that an actor may not grant
abbrev pub IsExcess : Sheet → Made → Draft → Denial → Type 0
IsExcess s m d (denial.Grant i) = IsFirstDenied s m (items d) i
IsExcess s m d denial.User = IsUserDenied s m d
IsExcess s m d denial.Root = IsRootDenied s m d
IsExcess s m d other = ⊥
