use Rattle.std.proofs.Common.{◌≡◌, ℕ, List, map, filter, fold, not, string_bytes, sym, ap, ◌∙◌}
use Rattle.std.specs.Option.{option_copied}
use Rattle.std.specs.Map.Iter.{deref}
use Rattle.std.proofs.lemmas.Map.Iter.{rest_more, rest_all}
use Rattle.part_toml.specs.Faults.{lesser, is_field_name}
use Rattle.part_toml.proofs.Least.{same_choice, least_next, keys-view}
use Rattle.part_toml.proofs.checking.least_unknown.Goals as goal

pub loop-key-init : goal.loop-key-init
loop-key-init c =
    let first = option_copied c.args.first in
    let strange = λ (n : List ℕ). not (is_field_name c.args.fields.now n) in
    ap (λ ks. fold lesser first (filter strange (map string_bytes ks))) (c.into_iter-key-iterator.ensures.into_iter_gives ∙ c.keys-key-items.ensures.rest)
    ∙ ap (λ ns. fold lesser first (filter strange ns)) (sym (keys-view c.args.table.now.entries))

pub loop-key-preserved : goal.loop-key-preserved
loop-key-preserved c =
    let best = option_copied c.loop-key.best in
    let strange = λ (n : List ℕ). not (is_field_name c.args.fields.now n) in
    let left = c.next.new.self in
    let n = string_bytes c.in-Some.key.now in
    let more = rest_more deref c.loop-key.key-iterator left c.next.result c.in-Some.key c.in-Some.is c.next.ensures.steps in
    let named = c.as_str-name.ensures.value in
    let known : not c.is_known.result ≡ strange n = ap not (c.is_known.ensures ∙ ap (is_field_name c.args.fields.now) named) in
    ap (λ b. fold lesser b (filter strange (map string_bytes left))) (c.lesser_if-best.ensures ∙ same_choice _ _ best _ _ known named)
    ∙ least_next strange best n (map string_bytes left)
    ∙ ap (λ ks. fold lesser best (filter strange (map string_bytes ks))) (sym more)
    ∙ c.loop-key.invariant

pub returns : goal.returns
returns c =
    let best = option_copied c.loop-key.best in
    let strange = λ (n : List ℕ). not (is_field_name c.args.fields.now n) in
    let none = rest_all deref c.loop-key.key-iterator c.next.new.self c.next.result c.in-None.is c.next.ensures.steps in
    sym (ap (λ ks. fold lesser best (filter strange (map string_bytes ks))) none) ∙ c.loop-key.invariant
