-- The entries on one of the first slots are among those on all of these.
use Rattle.std.proofs.Common.{◌≡◌, ℕ, ◌<◌, Bool, true, false, [], ◌∷◌, refl, sym, ap, ◌∙◌, arith}
use Rattle.std.proofs.lemmas.Bool.Decides.{nat_tests}
use Rattle.std.specs.Prelude.{if◌then◌else◌}
use Rattle.wedge_events.specs.declared.events.CellName.TheVariants as cell
use Rattle.wedge_events.specs.declared.events.Event.{Event}
use Rattle.wedge_events.specs.declared.events.Event.TheVariants as event
use Rattle.thread_laws.specs.Histories.{is_of, entries_on}
use Rattle.thread_laws.specs.KeptEntries.{is_on_declared}
use Rattle.tag_laws.specs.DeclaredTags.{entries_on_declared, DeclaredHaveAll}

-- an event that is on none of the first n slots is not on this one of them
not_on : (n slot : ℕ) (e : Event) → slot < n → is_on_declared n e ≡ false → is_of (cell.Slot slot) e ≡ false
not_on n slot (event.Slot other q r) less none = grind (arith, nat_tests, less, none)
not_on n slot e less none = refl

pub declared_have_all : DeclaredHaveAll
declared_have_all n [] slot less = refl
declared_have_all n (e ∷ es) slot less = by_slot (is_on_declared n e.event) refl (declared_have_all n es slot less)
  where
    by_slot : (b : Bool) → is_on_declared n e.event ≡ b → entries_on (cell.Slot slot) (entries_on_declared n es) ≡ entries_on (cell.Slot slot) es
        → entries_on (cell.Slot slot) (if b then e ∷ entries_on_declared n es else entries_on_declared n es) ≡ entries_on (cell.Slot slot) (e ∷ es)
    by_slot true one rest = ap (λ l. if is_of (cell.Slot slot) e.event then e ∷ l else l) rest
    by_slot false none rest = rest ∙ sym (ap (λ b. if b then e ∷ entries_on (cell.Slot slot) es else entries_on (cell.Slot slot) es) (not_on n slot e.event less none))
