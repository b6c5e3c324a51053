-- The histories of the slots of declared tags have just the logged entries.
use Rattle.std.proofs.Common.{◌≡◌, ℕ, List, IsPermutation, subst, ap, ◌∙◌}
use Rattle.wedge_events.specs.declared.events.CellName.TheVariants as cell
use Rattle.wedge_events.specs.declared.events.LogEntry.{LogEntry}
use Rattle.thread_laws.specs.Histories.{entries_on}
use Rattle.thread_laws.specs.Replaying.{history_of}
use Rattle.thread_laws.specs.declared.gathered.CellHistory.{CellHistory}
use Rattle.tag_laws.specs.DeclaredTags.{entries_on_declared, AreRuled}
use Rattle.tag_laws.proofs.OnDeclared.{declared_have_all}

-- what the passes entered are the logged entries on the first n slots, and so on each of them
pub ruled_slots : (n m : ℕ) (entered es : List LogEntry) (cells : List CellHistory) → entered ≡ entries_on_declared n es → n ≡ m → AreRuled n entered cells → AreRuled m es cells
ruled_slots n m entered es cells is same h = subst (λ k. AreRuled k es cells) same (λ slot inside.
    subst (IsPermutation (history_of cells (cell.Slot slot))) (ap (entries_on (cell.Slot slot)) is ∙ declared_have_all n es slot inside) (h slot inside))
