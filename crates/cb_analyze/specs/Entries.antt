-- The code's tables, entry by entry, and what they stand for.
use Rattle.std.specs.Prelude.{ℕ, List, [], ◌∷◌, ◌++◌, unwrap_or}
use Rattle.std.specs.Borrow.{Bor}
use Rattle.std.specs.Map.{lookup}
use Rattle.std.specs.Str.{bytes_eq}
use Rattle.indexmap.specs.IndexMap.{insert_entry}
use Rattle.trace_form.specs.Grammar.{TraceRecord}
use Rattle.cb_analyze.specs.declared.fitting.Fitting.{Fitting}
use Rattle.cb_analyze.specs.declared.sheets.HolderKey.{HolderKey}
use Rattle.cb_analyze.specs.Fitting.{fitting_of, with_use, lowest_fitting}
use Rattle.cb_analyze.specs.Sheets.{Holder, Holding, holder_of, same_holder}
use Rattle.cb_analyze.specs.Texts.{sheet_line, holding_line}

abbrev pub holder_view : HolderKey → Holder
holder_view h = record { comp = h.comp.now; item = h.item.now }

abbrev pub holding_view : HolderKey × Fitting → Holding
holding_view e = record { holder = holder_view e.0; grant = lowest_fitting e.1 }

-- ---- the grants that fit, by compartment and item

abbrev pub Table : Type 0
Table = List (Holder × Fitting)

abbrev pub entry_view : HolderKey × Fitting → Holder × Fitting
entry_view e = (holder_view e.0, e.1)

unfoldable pub table_with : Table → TraceRecord → Table
table_with t r =
    insert_entry same_holder t (holder_of r)
    (with_use (unwrap_or (lookup (same_holder (holder_of r)) t) (fitting_of [])) r.kind r.mode)

abbrev pub table_with_all : Table → List TraceRecord → Table
table_with_all t [] = t
table_with_all t (r ∷ rs) = table_with_all (table_with t r) rs

-- ---- the texts of sheets, by compartment

abbrev pub Texts : Type 0
Texts = List (List ℕ × List ℕ)

abbrev pub text_view : Bor (List ℕ) × List ℕ → List ℕ × List ℕ
text_view e = (e.0.now, e.1)

unfoldable pub texts_with : Texts → Holding → Texts
texts_with t x =
    insert_entry bytes_eq t x.holder.comp
    (unwrap_or (lookup (bytes_eq x.holder.comp) t) (sheet_line x.holder.comp) ++ holding_line x)

abbrev pub texts_with_all : Texts → List Holding → Texts
texts_with_all t [] = t
texts_with_all t (x ∷ xs) = texts_with_all (texts_with t x) xs
