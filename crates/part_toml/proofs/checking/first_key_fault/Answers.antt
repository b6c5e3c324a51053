use Rattle.std.proofs.Common.{◌≡◌, Option, None, List, ℕ, cond, fold, ap, ◌∙◌}
use Rattle.toml.specs.View.{table_view}
use Rattle.part_toml.specs.declared.keys.Key.TheVariants as key
use Rattle.part_toml.specs.declared.keys.Field.{Field}
use Rattle.part_toml.specs.Keys.{name_of, part_fields}
use Rattle.part_toml.specs.Values.{has_key}
use Rattle.part_toml.specs.Faults.{lesser, missing, unknown, is_content_wrong}
use Rattle.part_toml.proofs.Least.{same_choice, least_of_all}
use Rattle.part_toml.proofs.checking.first_key_fault.Goals as goal

pub returns : goal.returns
returns c =
    let ms = table_view c.args.table.now in
    let p = c.args.part in
    let given = c.fields-fields.result.now in
    let hex = name_of key.Hex in
    let wrong : c.is_content_wrong-wrong.result ≡ is_content_wrong p (has_key key.Text ms) (has_key key.Hex ms) =
    c.is_content_wrong-wrong.ensures
    ∙ ap (λ t. is_content_wrong p t c.has-2.result) c.has.ensures
    ∙ ap (λ h. is_content_wrong p (has_key key.Text ms) h) c.has-2.ensures in
    let first = c.lesser_if-doubled.ensures ∙ same_choice _ _ None _ _ wrong c.name.ensures in
    c.least_unknown.ensures
    ∙ ap (λ (o : Option (List ℕ)). fold lesser o (unknown given ms)) (c.least_missing-missing.ensures ∙ ap (λ (o : Option (List ℕ)). fold lesser o (missing given ms)) first)
    ∙ ap (λ (fs : List Field). fold lesser (fold lesser (cond (is_content_wrong p (has_key key.Text ms) (has_key key.Hex ms)) (lesser None hex) None) (missing fs ms)) (unknown fs ms)) c.fields-fields.ensures
    ∙ least_of_all (is_content_wrong p (has_key key.Text ms) (has_key key.Hex ms)) hex (missing (part_fields p) ms) (unknown (part_fields p) ms)
