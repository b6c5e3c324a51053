use Rattle.run_log.proofs.TurnLaws.{each_has_its_turn}
use Rattle.run_log.proofs.laws.each_note_has_its_turn.Goals as goal

pub returns : goal.returns
returns c = each_has_its_turn
