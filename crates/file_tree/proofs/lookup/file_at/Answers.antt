use Rattle.std.proofs.Common.{rules, sym, ap, ◌∙◌, Some}
use Rattle.std.proofs.lemmas.Fn.{always_returns_same}
use Rattle.std.specs.Ordering.{nat_cmp}
use Rattle.std.specs.Cmp.Lexicographic.{slice_cmp}
use Rattle.file_tree.proofs.FileSearch.{find-found, find-absent}
use Rattle.file_tree.proofs.lookup.file_at.Goals as goal

-- the closure compares a file's path with the path that is looked for; the file where the search ended is
-- the first of that path
pub returns-in-Ok : goal.returns-in-Ok
returns-in-Ok c =
    let equal = c.in-Ok.ensures.position (λ f. slice_cmp nat_cmp f.path c.args.path.now) (always_returns_same _ _ _ (λ a r g called. search rules)) in
    ap Some c.index-files-position.is
    ∙ sym (find-found c.args.files.now c.args.path.now _ c.index-files-position.result c.requires c.in-Ok.ensures.bound equal)

-- the search ended at no file, so none has the path
pub returns-in-Err : goal.returns-in-Err
returns-in-Err c =
    let parted = c.in-Err.ensures.position (λ f. slice_cmp nat_cmp f.path c.args.path.now) (always_returns_same _ _ _ (λ a r g called. search rules)) in
    sym (find-absent c.args.files.now c.args.path.now _ c.requires parted)
