use Rattle.wedge_core.proofs.SerialSteps.{living_go_on, serial_goes_on}
use Rattle.wedge_core.proofs.serially.serial_order_goes_on.Goals as goal

pub returns-clause-living : goal.returns-clause-living
returns-clause-living c = living_go_on

pub returns-clause-serial : goal.returns-clause-serial
returns-clause-serial c = serial_goes_on
