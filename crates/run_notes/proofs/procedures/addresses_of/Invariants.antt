use Rattle.std.proofs.Common.{◌≡◌, take}
use Rattle.image_form.specs.Rules as rules
use Rattle.run_notes.proofs.procedures.addresses_of.Given as goal

-- The addresses so far were added.
abbrev pub invariant-loop-procedure : goal.invariant-loop-procedure
invariant-loop-procedure l = l.addresses.items ≡ rules.addresses (take l.procedure-index l.procedures)
