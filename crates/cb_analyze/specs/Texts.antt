-- The text of sheets.
use Rattle.std.specs.Prelude.{ℕ, List, [], ◌∷◌, ◌++◌, filter, codes, Option, Some, None}
use Rattle.std.specs.List.{flat_map}
use Rattle.std.specs.Str.{bytes_eq}
use Rattle.report_text.specs.Reports.{right_text, bits_text}
use Rattle.trace_form.specs.Grammar.{space, with_end}
use Rattle.cb_analyze.specs.declared.grants.ItemGrant.{ItemGrant}
use Rattle.cb_analyze.specs.declared.grants.ItemGrant.TheVariants as grant
use Rattle.cb_analyze.specs.Sheets.{Holding, comps}

abbrev pub grant_word : ItemGrant → List ℕ
grant_word (grant.Tag r) = right_text r
grant_word (grant.Fd bits) = bits_text bits
grant_word grant.Gate = codes "enter"

-- an item and its grant; no line where there is none
abbrev pub grant_line : List ℕ → Option ItemGrant → List ℕ
grant_line item None = []
grant_line item (Some g) = with_end (item ++ space ∷ grant_word g)

unfoldable pub holding_line : Holding → List ℕ
holding_line x = grant_line x.holder.item x.grant

unfoldable pub sheet_line : List ℕ → List ℕ
sheet_line comp = with_end (codes "sheet " ++ comp)

-- the line of a compartment, and one for each item on which its sheet has a grant
abbrev pub sheet_text : List Holding → List ℕ → List ℕ
sheet_text xs comp =
    sheet_line comp ++ flat_map holding_line (filter (λ x. bytes_eq comp x.holder.comp) xs)

unfoldable pub sheets_text : List Holding → List ℕ
sheets_text xs = flat_map (sheet_text xs) (comps xs)
