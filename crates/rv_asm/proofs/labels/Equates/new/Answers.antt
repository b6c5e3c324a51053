use Rattle.std.proofs.Common.{◌≡◌, ◌+◌, cond, [], ◌∷◌, ◌++◌, Some, take, is_some, ap, sym, ◌∙◌}
use Rattle.std.specs.HashMap.{get_by}
use Rattle.std.specs.Str.{bytes_eq}
use Rattle.std.proofs.lemmas.List.{take_more, take_all}
use Rattle.std.proofs.lemmas.Map.Text.{hash_map_updates_str}
use Rattle.rv_asm.specs.Assembly.{equates_of}
use Rattle.rv_asm.proofs.Equating.{skipped, added}
use Rattle.rv_asm.proofs.labels.Equates.new.Goals as goal
use Rattle.rv_asm.proofs.labels.Equates.new.Goals.{then-not-contains_key+in_ok-insert, else-not-contains_key}

pub returns : goal.returns
returns c =
    let all : take c.loop-equate.equate-index c.args.names.now ≡ c.args.names.now = take_all c.loop-equate.equate-index c.args.names.now c.loop-equate-test.false in
    λ i q. (c.loop-equate.invariant q ∙ ap (λ es. equates_of es q) all) i

pub loop-equate-preserved : goal.loop-equate-preserved
loop-equate-preserved c = λ q.
    let x = c.equate-item.result in
    let front = take c.loop-equate.equate-index c.args.names.now in
    let more : take (c.loop-equate.equate-index + 1) c.args.names.now ≡ front ++ x ∷ [] =
    take_more c.args.names.now c.loop-equate.equate-index x c.loop-equate-test.true ∙ ap (λ y. front ++ y ∷ []) (sym c.equate-item.is) in
    let there : c.contains_key.result ≡ is_some (equates_of front x.name) =
    c.contains_key.ensures
    ∙ ap (λ n. is_some (get_by (λ k. bytes_eq n k.now) c.loop-equate.map)) c.as_slice-name.ensures
    ∙ ap is_some (c.loop-equate.invariant x.name) in
    elim c.if-not-contains_key.branch [
      | then-not-contains_key+in_ok-insert w ↦
          ap (λ m. get_by (λ k. bytes_eq q k.now) m) w.map-is
          ∙ hash_map_updates_str c.as_slice-name.result.now c.loop-equate.map w.insert.new.self _ w.in_ok-insert.ensures.updates q
          ∙ ap (λ n. cond (bytes_eq n q) (Some x.value) (get_by (λ k. bytes_eq q k.now) c.loop-equate.map)) c.as_slice-name.ensures
          ∙ ap (λ o. cond (bytes_eq x.name q) (Some x.value) o) (c.loop-equate.invariant q)
          ∙ sym (ap (λ es. equates_of es q) more ∙ added front x (sym there ∙ w.if-not-contains_key.true) q)
      | else-not-contains_key w ↦
          ap (λ m. get_by (λ k. bytes_eq q k.now) m) w.map-is
          ∙ c.loop-equate.invariant q
          ∙ sym (ap (λ es. equates_of es q) more ∙ skipped front x (sym there ∙ w.if-not-contains_key.false) q)
    ]
