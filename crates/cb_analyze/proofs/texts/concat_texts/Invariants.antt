use Rattle.std.proofs.Common.{◌≡◌, ℕ, List, ◌++◌, map}
use Rattle.std.specs.List.{flat_map}
use Rattle.cb_analyze.specs.Entries.{text_view}
use Rattle.cb_analyze.proofs.texts.concat_texts.Given as goal

-- The texts so far, with those that are left, are all.
abbrev pub invariant-loop-text : goal.invariant-loop-text
invariant-loop-text l =
    l.out.items ++ flat_map (λ (e : List ℕ × List ℕ). e.1) (map text_view l.text-iterator)
    ≡ flat_map (λ (e : List ℕ × List ℕ). e.1) (map text_view l.sheets.entries)
