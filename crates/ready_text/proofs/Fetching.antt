-- The decoded word at an address.
use Rattle.std.proofs.Common.{◌≡◌, ℕ, ◌+◌, ◌*◌, ◌/◌, ◌%◌, ◌-◌, ◌<◌, ◌≤◌, ◌^◌, Bool, true, false, List, [], ◌∷◌, map, length, refl, sym, ap, subst, ◌∙◌, arith}
use Rattle.std.specs.Prelude.{Option, Some, None, IfSome, option_map, slice_get, suc, zero, if◌then◌else◌}
use Rattle.std.specs.List.{AllByRecursion}
use Rattle.std.proofs.Common.{get_or}
use Rattle.std.proofs.lemmas.List.{length-map}
use Rattle.image_form.specs.Rules.{IsImage}
use Rattle.std.proofs.lemmas.Option.{slice_get-map, slice_get-get_or}
use Rattle.wedge_base.specs.Images.{Image, fetch, in_text}
use Rattle.rv_isa.specs.declared.Instr.{Instr}
use Rattle.rv_isa.specs.Table.{decode, IsOfRow, HasRegisters}

-- inside the text the word is at its index
pub fetch_inside : (i : Image) (pc : ℕ) → i.base ≤ pc → pc + 4 ≤ i.base + 4 * length i.words → fetch i pc ≡ slice_get i.words ((pc - i.base) / 4)
fetch_inside i pc low high = grind arith

pub fetch_outside : (i : Image) (pc : ℕ) → in_text i pc 4 ≡ false → fetch i pc ≡ None
fetch_outside i pc e = grind arith

-- each word that is an instruction has its registers
pub registers_at : (ws : List ℕ) (k : ℕ) → ((i : Instr) → IsOfRow i → HasRegisters i) → AllByRecursion (λ w. w < 2 ^ 32) ws → IfSome (option_map decode (slice_get ws k)) (λ o. IfSome o HasRegisters)
registers_at [] k law fit = grind arith
registers_at (w ∷ ws) zero law fit = of_word (decode w) refl
  where
    of_word : (o : Option Instr) → decode w ≡ o → IfSome o HasRegisters
    of_word None e = tt
    of_word (Some i) e = law i (record { word = w; fits = fit.0; is = e })
registers_at (w ∷ ws) (suc k) law fit = registers_at ws k law fit.1

-- at an offset that is not past the last word there is the decoded word
pub at_offset : (i : Image) (pc base last : ℕ) (code : List (Option Instr)) (d : Option Instr) → IsImage i → pc < 2 ^ 32 → base ≡ i.base → last + 4 ≡ 4 * length i.words
    → code ≡ map decode i.words → (pc + (4294967296 - base)) % 4294967296 ≤ last
    → Some (get_or code ((pc + (4294967296 - base)) % 4294967296 / 4) d) ≡ option_map decode (fetch i pc)
at_offset i pc base last code d valid fits is_base is_last is_code inside =
    let k = (pc + (4294967296 - base)) % 4294967296 in
    let high : i.base + 4 * length i.words ≤ 0x10000000 = valid.text.end_high in
    let low : i.base ≤ pc = omega arith in
    let at : k ≡ pc - i.base = omega arith in
    let below : pc + 4 ≤ i.base + 4 * length i.words = omega arith in
    let len : length code ≡ length i.words = ap length is_code ∙ length-map i.words decode in
    let small : k / 4 < length code = omega arith in
    let word = fetch_inside i pc low below ∙ ap (λ n. slice_get i.words (n / 4)) (sym at) in
    sym (ap (option_map decode) word ∙ sym (slice_get-map decode i.words (k / 4)) ∙ ap (λ c. slice_get c (k / 4)) (sym is_code) ∙ slice_get-get_or code (k / 4) d small)

-- past the last word there is none
pub past_offset : (i : Image) (pc base last : ℕ) → IsImage i → pc < 2 ^ 32 → base ≡ i.base → last + 4 ≡ 4 * length i.words
    → last < (pc + (4294967296 - base)) % 4294967296 → fetch i pc ≡ None
past_offset i pc base last valid fits is_base is_last outside =
    let high : i.base + 4 * length i.words ≤ 0x10000000 = valid.text.end_high in
    fetch_outside i pc (grind arith)

pub fetch_registers : (i : Image) (pc : ℕ) → ((ins : Instr) → IsOfRow ins → HasRegisters ins) → IsImage i → IfSome (option_map decode (fetch i pc)) (λ o. IfSome o HasRegisters)
fetch_registers i pc law valid = by_test (in_text i pc 4)
  where
    by_test : (b : Bool) → IfSome (option_map decode (if b then slice_get i.words ((pc - i.base) / 4) else None)) (λ o. IfSome o HasRegisters)
    by_test true = registers_at i.words ((pc - i.base) / 4) law valid.text.words_fit
    by_test false = tt
