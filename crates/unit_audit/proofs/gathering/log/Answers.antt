use Rattle.std.proofs.Common.{◌≡◌, ap, sym, ◌∙◌, length}
use Rattle.run_audit.proofs.KeptInLogs.{elsewhere_all}
use Rattle.unit_audit.proofs.gathering.log.Goals as goal

pub returns : goal.returns
returns c =
    let all : c.seen-all.result ≡ c.args.entries.items = c.seen-all.ensures ∙ c.as_slice.ensures.value in
    record {
      kept = c.new-5.ensures ∙ (sym all ∙ sym (elsewhere_all c.seen-all.result));
      count = c.len-count.ensures ∙ (c.args.entries.ok.0 ∙ ap length (sym all));
    }
