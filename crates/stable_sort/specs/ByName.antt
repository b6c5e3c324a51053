-- The entries of an image by name or by path, in byte order, and that these are strict weak orders.
use Rattle.std.specs.Prelude.{ℕ, Bool, List}
use Rattle.std.specs.Cmp.{IsStrictWeakOrder}
use Rattle.std.specs.Cmp.Lexicographic.{nat_list_cmp_total}
use Rattle.std.proofs.lemmas.List.Sorted.{ranks_by}
use Rattle.wedge_base.specs.declared.image.Procedure.{Procedure}
use Rattle.wedge_base.specs.declared.image.TagEntry.{TagEntry}
use Rattle.wedge_base.specs.declared.image.FdEntry.{FdEntry}
use Rattle.wedge_base.specs.declared.image.FileEntry.{FileEntry}
use Rattle.image_form.specs.Forms.{is_below}

abbrev pub procedure_before : Procedure → Procedure → Bool
procedure_before a b = is_below a.name b.name

abbrev pub tag_before : TagEntry → TagEntry → Bool
tag_before a b = is_below a.name b.name

abbrev pub fd_before : FdEntry → FdEntry → Bool
fd_before a b = is_below a.name b.name

abbrev pub file_before : FileEntry → FileEntry → Bool
file_before a b = is_below a.path b.path

by_name : {X : Type 0} (name : X → List ℕ) → IsStrictWeakOrder (λ x y. is_below (name x) (name y))
unfolding is_below
by_name name = ranks_by nat_list_cmp_total name

pub procedure_order : IsStrictWeakOrder procedure_before
procedure_order = by_name (λ p. p.name)

pub tag_order : IsStrictWeakOrder tag_before
tag_order = by_name (λ t. t.name)

pub fd_order : IsStrictWeakOrder fd_before
fd_order = by_name (λ f. f.name)

pub file_order : IsStrictWeakOrder file_before
file_order = by_name (λ f. f.path)
