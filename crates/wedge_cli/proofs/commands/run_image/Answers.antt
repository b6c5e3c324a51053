use Rattle.std.proofs.Common.{rules}
use Rattle.wedge_cli.proofs.commands.run_image.Goals as goal

pub texts_of-requires : goal.texts_of-requires
texts_of-requires g c =
    let enough = c.needs_all.ensures c.in_ok-journal.field-0.journal (λ is. c.in_ok-journal.ensures.whole is) in
    search (rules, enough)
