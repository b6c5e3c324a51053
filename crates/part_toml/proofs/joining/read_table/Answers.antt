use Rattle.std.proofs.Common.{◌≡◌, true, ◌∙◌}
use Rattle.toml.specs.View.{table_view}
use Rattle.part_toml.proofs.Large.{large_refused, image_joins}
use Rattle.part_toml.proofs.joining.read_table.Goals as goal

pub returns-then-not-fits_in-clause-exact : goal.returns-then-not-fits_in-clause-exact
returns-then-not-fits_in-clause-exact c =
    large_refused c.args.program.now (table_view c.args.top.now) c.in_ok-check_document.ensures (λ small.
    let fits : c.fits_in.result ≡ true = c.fits_in.ensures.1 small in
    cc c.if-not-fits_in.true)

pub returns-clause-joins : goal.returns-clause-joins
returns-clause-joins c =
    image_joins c.args.program.now (table_view c.args.top.now) c.in_ok-finish_image.field-0 (c.in_ok-finish_image.ensures.same ∙ c.in_ok-parts.ensures)
