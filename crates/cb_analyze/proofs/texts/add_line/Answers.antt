use Rattle.std.proofs.Common.{◌≡◌, ℕ, Bool, true, List, ◌++◌, map, unwrap_or, Bor, refl, ap, ◌∙◌}
use Rattle.std.specs.Map.{lookup}
use Rattle.std.specs.Str.{bytes_eq}
use Rattle.std.proofs.lemmas.Slice.Eq.{bytes_eq-Decides}
use Rattle.indexmap.specs.IndexMap.{insert_entry}
use Rattle.cb_analyze.specs.Texts.{holding_line, sheet_line}
use Rattle.cb_analyze.specs.Entries.{holding_view, text_view, texts_with}
use Rattle.cb_analyze.proofs.EntryViews.{lookup_view, insert_view}
use Rattle.cb_analyze.proofs.SheetTexts.{insert_twice}
use Rattle.cb_analyze.proofs.texts.add_line.Goals as goal

abbrev same_ref : Bor (List ℕ) → Bor (List ℕ) → Bool
same_ref x y = bytes_eq x.now y.now

own : (x : Bor (List ℕ)) → same_ref x x ≡ true
own x = (bytes_eq-Decides x.now x.now).1 refl

pub returns : goal.returns
unfolding texts_with
returns c =
    let es = c.args.sheets.now.entries in
    let key = c.args.holder.now.comp in
    let x = holding_view (c.args.holder.now, c.args.fitting.now) in
    let before : c.in_ok-begun.begun ≡ unwrap_or (lookup (bytes_eq key.now) (map text_view es)) (sheet_line key.now) =
    c.in_ok-begun.ensures
    ∙ ap (λ o. unwrap_or o (sheet_line key.now)) (c.in_ok-before.ensures.old ∙ lookup_view same_ref bytes_eq (λ k. k.now) (λ a b. refl) key es) in
    let line : c.new-3.result ≡ unwrap_or (lookup (bytes_eq key.now) (map text_view es)) (sheet_line key.now) ++ holding_line x =
    c.new-3.ensures ∙ c.in_ok-write_line.ensures ∙ ap (λ (t : List ℕ). t ++ holding_line x) (c.into_vec-text.ensures ∙ before) in
    ap (map text_view)
    (c.in_ok-insert.ensures.entries
    ∙ ap (λ (m : List (Bor (List ℕ) × List ℕ)). insert_entry same_ref m key c.new-3.result) c.in_ok-before.ensures.entries
    ∙ insert_twice same_ref own es key c.new-2.result c.new-3.result)
    ∙ insert_view same_ref bytes_eq (λ k. k.now) (λ a b. refl) es key c.new-3.result
    ∙ ap (insert_entry bytes_eq (map text_view es) key.now) line
