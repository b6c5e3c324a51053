use Rattle.std.proofs.Common.{rules, tests}
use Rattle.std.proofs.lemmas.Iterator.{YieldsList-from_slice, YieldsList-from_map_by}
use Rattle.std.proofs.lemmas.Iterator.Consumers.{map_from_collect}
use Rattle.std.proofs.lemmas.Result.{IfOk-at_ok}
use Rattle.rv_asm.specs.Parsing.{statement_of}
use Rattle.rv_asm.specs.Views.{statement_view}
use Rattle.rv_asm.proofs.assembly.statements_of.Goals as goal

pub returns : goal.returns
returns c =
    IfOk-at_ok _ c.in_ok-statements.was (map_from_collect _ c.collect.ensures.ran
    (YieldsList-from_map_by _ statement_view (λ line. statement_of line.now) (YieldsList-from_slice c.args.lines.now cc) c.map.ensures.closure (λ x r q k. search (rules, tests))))
