-- The numbers of the service calls are small.
use Rattle.std.proofs.Common.{◌≤◌, arith}
use Rattle.wedge_base.specs.declared.service.Service.{Service}
use Rattle.wedge_base.specs.declared.service.Service.TheVariants as service
use Rattle.wedge_base.specs.Services.{service_number}

pub service_number_small : (s : Service) → service_number s ≤ 18
service_number_small service.Exit = omega arith
service_number_small s = omega arith
