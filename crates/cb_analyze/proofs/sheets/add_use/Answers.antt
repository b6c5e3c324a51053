use Rattle.std.proofs.Common.{◌≡◌, [], map, unwrap_or, ap, ◌∙◌, refl}
use Rattle.std.specs.Map.{lookup}
use Rattle.indexmap.specs.IndexMap.{insert_entry}
use Rattle.trace_form.specs.TraceRecord.{record_view}
use Rattle.cb_analyze.specs.declared.fitting.Fitting.{Fitting}
use Rattle.cb_analyze.specs.declared.sheets.HolderKey.{HolderKey}
use Rattle.cb_analyze.specs.contracts.sheets.HolderKeyPartialEq.TheImpl.{eq-value}
use Rattle.cb_analyze.specs.Sheets.{same_holder, holder_of}
use Rattle.cb_analyze.specs.Fitting.{fitting_of, with_use}
use Rattle.cb_analyze.specs.Entries.{table_with, entry_view, holder_view}
use Rattle.cb_analyze.proofs.EntryViews.{lookup_view, insert_view}
use Rattle.cb_analyze.proofs.sheets.add_use.Goals as goal

pub returns : goal.returns
unfolding table_with
returns c =
    let es = c.args.fitting.now.entries in
    let row = record_view c.args.row.now in
    let key : HolderKey = record { comp = c.args.row.now.comp; item = c.args.row.now.item } in
    let kept : c.unwrap_or-so_far.result ≡ unwrap_or (lookup (same_holder (holder_of row)) (map entry_view es)) (fitting_of []) =
    c.unwrap_or-so_far.ensures
    ∙ ap (unwrap_or c.copied.result) c.all.ensures
    ∙ ap (λ o. unwrap_or o (fitting_of [])) (c.copied.ensures ∙ c.get.ensures.value ∙ lookup_view eq-value.it same_holder holder_view (λ a b. refl) key es) in
    ap (map entry_view) c.in_ok-insert.ensures.entries
    ∙ insert_view eq-value.it same_holder holder_view (λ a b. refl) es key c.with.result
    ∙ ap (insert_entry same_holder (map entry_view es) (holder_of row)) (c.with.ensures ∙ ap (λ (f : Fitting). with_use f row.kind row.mode) kept)
