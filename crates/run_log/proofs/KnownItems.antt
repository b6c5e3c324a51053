-- What a run made is known to its log: so whatever is accessed has a name.
use Rattle.std.proofs.Common.{◌≡◌, inl, inr, ℕ, ◌<◌, ◌≤◌, Bool, true, false, List, [], ◌∷◌, length, refl, sym, ap, subst, ◌∙◌, arith}
use Rattle.std.specs.Option.{option_or}
use Rattle.std.specs.Ordering.{nat_cmp, eq_by_cmp}
use Rattle.std.specs.Prelude.{Option, Some, None, is_some, max, nat_le, nat_lt, option_map, ◌⊎◌, if◌then◌else◌}
use Rattle.wedge_base.specs.Images.{Image}
use Rattle.wedge_base.specs.Maps.{Map, at}
use Rattle.wedge_base.specs.Sheets.{Sheet}
use Rattle.wedge_base.specs.declared.rights.Grant.{Grant}
use Rattle.machine.specs.Actors.{ActorState}
use Rattle.machine.specs.Cells.{Cells, tag_in}
use Rattle.machine.specs.Worlds.{actor_named}
use Rattle.run_laws.specs.CellHistories.{StreamMode, mode_in}
use Rattle.run_laws.specs.Occupancy.{AreOccupied, HasIn, tag_of_call}
use Rattle.run_notes.specs.Items.{made_item, tag_item, file_item, fd_item, is_copy_in, greater_so_far, greatest_copy}
use Rattle.run_notes.specs.declared.items.NoteItem.TheVariants as item
use Rattle.run_notes.specs.declared.items.Makings.{Makings}
use Rattle.run_notes.specs.declared.items.Origin.{Origin}
use Rattle.run_log.specs.NamedNotes.{BeginsAt, IsFileOf, IsTagNamed, IsStreamNamed}

pub lt_of : (a b : ℕ) → nat_lt a b ≡ true → a < b
lt_of a b e = grind arith

pub le_of : (a b : ℕ) → nat_lt a b ≡ false → b ≤ a
le_of a b e = grind arith

-- ---- what is known

-- by whom a tag was made, and under which path a file was opened
abbrev pub IsMade : Makings → ℕ → Type 0
IsMade m tag = (o : Origin) × (at m.tags tag ≡ Some o)

abbrev pub HasPath : Makings → ℕ → Type 0
HasPath m fd = (path : List ℕ) × (at m.files fd ≡ Some path)

-- the call of an actor is about to open a tag
pub record IsComing (actors : List ActorState) (tag : ℕ) : Type 0 where
  pub name : List ℕ
  pub actor : ActorState
  pub there : actor_named actors name ≡ Some actor
  pub called : tag_of_call actor.phase ≡ Some tag

-- each number of a tag that was given out is one of the image's, is known, or is of a tag that is to
-- be opened; each stream is one of the image's, or known
pub record Knows (i : Image) (c : Cells) (actors : List ActorState) (m : Makings) : Type 0 where
  pub tags : (tag : ℕ) → length i.tags ≤ tag → tag < c.places.number → IsMade m tag ⊎ IsComing actors tag
  pub origins : (tag : ℕ) (o : Origin) → at m.tags tag ≡ Some o → BeginsAt i o.compartment
  pub streams : (fd : ℕ) (k : StreamMode) → mode_in c fd ≡ Some k → (fd < length i.fds) ⊎ HasPath m fd
  pub paths : (fd : ℕ) (path : List ℕ) → at m.files fd ≡ Some path → IsFileOf i path

-- ---- what is known has a name

abbrev pub KnowsTag : Image → Makings → ℕ → Type 0
KnowsTag i m tag = (tag < length i.tags) ⊎ IsMade m tag

pub tag_named : (i : Image) (m : Makings) (tag : ℕ) → ((t : ℕ) (o : Origin) → at m.tags t ≡ Some o → BeginsAt i o.compartment) → KnowsTag i m tag → IsTagNamed i (tag_item i m tag)
tag_named i m tag origins known = by_test (nat_lt tag (length i.tags)) refl
  where
    by_made : (o : Option Origin) → at m.tags tag ≡ o → IsMade m tag → IsTagNamed i (made_item tag o)
    by_made None e made = let f : Some made.0 ≡ None = sym made.1 ∙ e in absurd cc
    by_made (Some o) e made = origins tag o e

    by_test : (t : Bool) → nat_lt tag (length i.tags) ≡ t → IsTagNamed i (if t then item.Declared tag else made_item tag (at m.tags tag))
    by_test true e = lt_of tag (length i.tags) e
    by_test false e = elim known [
      | inl below ↦ absurd (let over = le_of tag (length i.tags) e in omega (arith, below, over))
      | inr made ↦ by_made (at m.tags tag) refl made
    ]

pub fd_named : (i : Image) (m : Makings) (fd : ℕ) → ((n : ℕ) (path : List ℕ) → at m.files n ≡ Some path → IsFileOf i path) → (fd < length i.fds) ⊎ HasPath m fd → IsStreamNamed i (fd_item i m fd)
fd_named i m fd paths known = by_test (nat_lt fd (length i.fds)) refl
  where
    by_path : (o : Option (List ℕ)) → at m.files fd ≡ o → HasPath m fd → IsStreamNamed i (file_item fd o)
    by_path None e has_path = let f : Some has_path.0 ≡ None = sym has_path.1 ∙ e in absurd cc
    by_path (Some path) e has_path = paths fd path e

    by_test : (t : Bool) → nat_lt fd (length i.fds) ≡ t → IsStreamNamed i (if t then item.Fd fd else file_item fd (at m.files fd))
    by_test true e = lt_of fd (length i.fds) e
    by_test false e = elim known [
      | inl below ↦ absurd (let over = le_of fd (length i.fds) e in omega (arith, below, over))
      | inr has_path ↦ by_path (at m.files fd) refl has_path
    ]

-- ---- a tag that lives, and one that an actor holds, is known

known_unless : (i : Image) (c : Cells) (actors : List ActorState) (m : Makings) (tag : ℕ) → Knows i c actors m → tag < c.places.number → (IsComing actors tag → ⊥) → KnowsTag i m tag
known_unless i c actors m tag k given none = by_test (nat_lt tag (length i.tags)) refl
  where
    by_test : (t : Bool) → nat_lt tag (length i.tags) ≡ t → KnowsTag i m tag
    by_test true e = inl (lt_of tag (length i.tags) e)
    by_test false e = elim (k.tags tag (le_of tag (length i.tags) e) given) [
      | inl made ↦ inr made
      | inr coming ↦ absurd (none coming)
    ]

pub living_known : (i : Image) (c : Cells) (actors : List ActorState) (m : Makings) (slot tag : ℕ) → AreOccupied c actors → Knows i c actors m → tag_in c slot ≡ Some tag → KnowsTag i m tag
living_known i c actors m slot tag occ k lives = known_unless i c actors m tag k (occ.numbered slot tag lives) (λ x. (occ.coming x.name x.actor tag x.there x.called).1 slot lives)

pub held_known : (i : Image) (c : Cells) (actors : List ActorState) (m : Makings) (name : List ℕ) (a : ActorState) (tag slot : ℕ) → AreOccupied c actors → Knows i c actors m → actor_named actors name ≡ Some a → HasIn a tag slot → KnowsTag i m tag
held_known i c actors m name a tag slot occ k named h =
    known_unless i c actors m tag k (occ.held name a tag slot named h).0 (λ x. occ.unheld x.name name x.actor a tag slot x.there named x.called h)

-- ---- and so is one of which a sheet grants a copy

pub max_is : (a b : ℕ) → (max a b ≡ a) ⊎ (max a b ≡ b)
max_is a b = by_le (nat_le a b) refl
  where
    by_le : (t : Bool) → nat_le a b ≡ t → (max a b ≡ a) ⊎ (max a b ≡ b)
    by_le true e = inr (grind arith)
    by_le false e = inl (grind arith)

itself : (n : ℕ) → eq_by_cmp nat_cmp n n ≡ true
itself n = grind (arith)

first_has : (x : ℕ × Grant) (gs : Map Grant) (tag : ℕ) → x.0 ≡ tag → is_some (at (x ∷ gs) tag) ≡ true
first_has x gs tag is = ap (λ t. is_some (if t then Some x.1 else at gs tag)) (subst (λ n. eq_by_cmp nat_cmp tag n ≡ true) (sym is) (itself tag))

others_have : (x : ℕ × Grant) (gs : Map Grant) (tag : ℕ) → is_some (at gs tag) ≡ true → is_some (at (x ∷ gs) tag) ≡ true
others_have x gs tag there = by_key (eq_by_cmp nat_cmp tag x.0)
  where
    by_key : (t : Bool) → is_some (if t then Some x.1 else at gs tag) ≡ true
    by_key true = refl
    by_key false = there

greatest_has : (slot : ℕ) (gs : Map Grant) (best : Option ℕ) (tag : ℕ) → greatest_copy slot best gs ≡ Some tag → (best ≡ Some tag) ⊎ (is_some (at gs tag) ≡ true)
greatest_has slot [] best tag e = inl e
greatest_has slot (x ∷ gs) best tag e = by_copy (is_copy_in slot x.1) (greatest_has slot gs (if is_copy_in slot x.1 then Some (greater_so_far x.0 best) else best) tag e)
  where
    by_best : (b : Option ℕ) → Some (greater_so_far x.0 b) ≡ Some tag → (b ≡ Some tag) ⊎ (is_some (at (x ∷ gs) tag) ≡ true)
    by_best None is = let same : x.0 ≡ tag = cc in inr (first_has x gs tag same)
    by_best (Some b) is =
        let same : max b x.0 ≡ tag = cc in
        elim (max_is b x.0) [
          | inl old ↦ inl (ap (λ n. Some n) (sym old ∙ same))
          | inr new ↦ inr (first_has x gs tag (sym new ∙ same))
        ]

    by_copy : (t : Bool) → ((if t then Some (greater_so_far x.0 best) else best) ≡ Some tag) ⊎ (is_some (at gs tag) ≡ true) → (best ≡ Some tag) ⊎ (is_some (at (x ∷ gs) tag) ≡ true)
    by_copy true (inl is) = by_best best is
    by_copy true (inr there) = inr (others_have x gs tag there)
    by_copy false (inl is) = inl is
    by_copy false (inr there) = inr (others_have x gs tag there)

-- an actor has each tag that its sheet grants
granted_has : (a : ActorState) (tag : ℕ) → is_some (at a.sheet.tags tag) ≡ true → (slot : ℕ) × HasIn a tag slot
granted_has a tag there = by_made (at a.made.tags tag) refl (at a.sheet.tags tag) refl
  where
    by_made : (o : Option ℕ) → at a.made.tags tag ≡ o → (g : Option Grant) → at a.sheet.tags tag ≡ g → (slot : ℕ) × HasIn a tag slot
    by_made (Some slot) e g f = (slot, inl (ap (λ o. option_or o (option_map (λ (x : Grant). x.slot) (at a.sheet.tags tag))) e))
    by_made None e None f = let none : false ≡ true = ap is_some (sym f) ∙ there in absurd cc
    by_made None e (Some g) f =
        (g.slot, inl (ap (λ o. option_or o (option_map (λ (x : Grant). x.slot) (at a.sheet.tags tag))) e ∙ ap (option_map (λ (x : Grant). x.slot)) f))

-- each copy that a sheet grants has a name
abbrev pub CopiesAreNamed : Image → Makings → Sheet → Type 0
CopiesAreNamed i m s = (slot tag : ℕ) → greatest_copy slot None s.tags ≡ Some tag → IsTagNamed i (tag_item i m tag)

pub copies_named : (i : Image) (c : Cells) (actors : List ActorState) (m : Makings) (name : List ℕ) (a : ActorState) → AreOccupied c actors → Knows i c actors m → actor_named actors name ≡ Some a → CopiesAreNamed i m a.sheet
copies_named i c actors m name a occ k named slot tag e = elim (greatest_has slot a.sheet.tags None tag e) [
  | inl none ↦ absurd (let f : None ≡ Some tag = none in cc)
  | inr there ↦ (let h = granted_has a tag there in tag_named i m tag k.origins (held_known i c actors m name a tag h.0 occ k named h.1))
]
