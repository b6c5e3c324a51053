use Rattle.std.proofs.Common.{◌≡◌, ℕ, ◌++◌, sym, ap, ◌∙◌, arith}
use Rattle.std.specs.List.{flat_map, range_with_len}
use Rattle.std.specs.Int.{w32, to_le_bytes}
use Rattle.workload.specs.Workload.{input_word}
use Rattle.workload.proofs.Making.{bytes_more}
use Rattle.workload.proofs.generating.input_bytes.Goals as goal

pub loop-i-preserved : goal.loop-i-preserved
loop-i-preserved c =
    let n = c.args.workers in
    let i = c.loop-i.i in
    c.in_ok-extend_from_slice.ensures.items
    ∙ ap (λ l. l ++ c.to_le_bytes.result) c.loop-i.invariant
    ∙ ap (λ l. flat_map (λ (k : ℕ). to_le_bytes w32 (input_word n k)) (range_with_len 0 i) ++ l) (c.to_le_bytes.ensures ∙ ap (to_le_bytes w32) c.input_word.ensures)
    ∙ sym (bytes_more (λ (k : ℕ). to_le_bytes w32 (input_word n k)) i)

pub returns : goal.returns
returns c =
    let all : c.loop-i.i ≡ 64 = omega arith in
    c.new.ensures
    ∙ c.loop-i.invariant
    ∙ ap (λ k. flat_map (λ (j : ℕ). to_le_bytes w32 (input_word c.args.workers j)) (range_with_len 0 k)) all
