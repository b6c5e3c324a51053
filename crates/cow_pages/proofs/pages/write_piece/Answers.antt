use Rattle.std.proofs.Common.{◌%◌, ◌/◌, ◌∙◌, ap, sym, length}
use Rattle.std.specs.Arc.{arc_value}
use Rattle.std.proofs.lemmas.Result.{on_ok_weaker, on_err_weaker}
use Rattle.wedge_base.specs.Bytes.{overwrite}
use Rattle.wedge_base.specs.Images.{page}
use Rattle.cow_pages.proofs.SharedPages.{write_shared, same_shared, whole_shared, whole_at}
use Rattle.cow_pages.proofs.pages.write_piece.Goals as goal

pub write_in_page-requires-clause-whole : goal.write_in_page-requires-clause-whole
write_in_page-requires-clause-whole c = ap (λ (a : _). length (arc_value a)) (sym c.index-pages-start.is) ∙ whole_at c.args.pages.now (c.args.start / page) c.index-pages-start.result c.requires.whole c.requires.inside c.index-pages-start.is

pub returns-clause-whole : goal.returns-clause-whole
returns-clause-whole c = whole_shared c.args.pages.now (c.args.start / page) c.write_in_page.new.shared c.requires.whole c.write_in_page.ensures.whole

pub returns-clause-ok : goal.returns-clause-ok
returns-clause-ok c =
    on_ok_weaker c.write_in_page.result (λ e. write_shared c.args.pages.now c.args.start c.args.new.now c.index-pages-start.result c.write_in_page.new.shared c.requires.whole c.requires.inside c.requires.one_page c.index-pages-start.is
    (e ∙ ap (λ (a : _). overwrite (arc_value a) (c.args.start % page) c.args.new.now) (sym c.index-pages-start.is)))
    c.write_in_page.ensures.ok

pub returns-clause-err : goal.returns-clause-err
returns-clause-err c =
    on_err_weaker c.write_in_page.result (λ e. same_shared c.args.pages.now (c.args.start / page) c.index-pages-start.result c.write_in_page.new.shared c.requires.inside c.index-pages-start.is
    (e ∙ ap (λ (a : _). arc_value a) (sym c.index-pages-start.is)))
    c.write_in_page.ensures.err
