-- The two passes over statements, a statement at a time.
use Rattle.std.proofs.Common.{◌≡◌, ℕ, ◌+◌, ◌<◌, ◌≤◌, List, [], ◌∷◌, length, get_or, drop, map, Result, Ok, Err, refl, ap, sym, ◌∙◌}
use Rattle.std.proofs.lemmas.List.{drop_more, drop_all}
use Rattle.rv_asm.specs.Statements.{Statement}
use Rattle.rv_asm.specs.declared.assembled.Assembled.{Assembled}
use Rattle.rv_asm.specs.declared.assembled.Equate.{Equate}
use Rattle.rv_asm.specs.Lexing.{lines}
use Rattle.rv_asm.specs.Parsing.{statement_of}
use Rattle.rv_asm.specs.declared.fault.Fault.{Fault}
use Rattle.rv_asm.specs.declared.fault.Why.{Why}
use Rattle.rv_asm.specs.Assembly.{Equates, Labels, equates_of, no_labels, nothing, assembled, labels_from, define_label, name_given, address_after, assembled_from, words, procedures, with_line_words, on_line, ◌>>=◌}

module _ {X : Type 0} (view : X → Statement) (es : Equates) (xs : List X) where
  pub labels_step : (ls : Labels) (line at i : ℕ) (x : X) → i < length xs → x ≡ get_or xs i x → labels_from es ls line at (map view (drop i xs)) ≡ labels_from es (define_label es line at ls (name_given (view x))) (line + 1) (address_after es at (view x)) (map view (drop (i + 1) xs))
  unfolding labels_from
  labels_step ls line at i x h e = ap (λ ys. labels_from es ls line at (map view ys)) (drop_more xs i x h ∙ ap (λ y. y ∷ drop (i + 1) xs) (sym e))

  pub labels_end : (ls : Labels) (line at i : ℕ) → length xs ≤ i → labels_from es ls line at (map view (drop i xs)) ≡ ls
  unfolding labels_from
  labels_end ls line at i h = ap (λ ys. labels_from es ls line at (map view ys)) (drop_all i xs h)

  module _ (ls : Labels) where
    next_line : Assembled → ℕ → ℕ → ℕ → Statement → Result (List ℕ) Why → Result Assembled Fault
    next_line front line at i s r = on_line line r >>= λ ws. assembled_from es ls (with_line_words front ws (procedures at s)) (line + 1) (address_after es at s) (map view (drop (i + 1) xs))

    step : (front : Assembled) (line at i : ℕ) (x : X) → i < length xs → x ≡ get_or xs i x → assembled_from es ls front line at (map view (drop i xs)) ≡ next_line front line at i (view x) (words es ls line at (view x))
    unfolding assembled_from next_line
    step front line at i x h e = ap (λ ys. assembled_from es ls front line at (map view ys)) (drop_more xs i x h ∙ ap (λ y. y ∷ drop (i + 1) xs) (sym e))

    -- a line with words
    pub assembled_step : (front : Assembled) (line at i : ℕ) (x : X) (ws : List ℕ) → i < length xs → x ≡ get_or xs i x → Ok ws ≡ words es ls line at (view x) → assembled_from es ls front line at (map view (drop i xs)) ≡ assembled_from es ls (with_line_words front ws (procedures at (view x))) (line + 1) (address_after es at (view x)) (map view (drop (i + 1) xs))
    unfolding next_line
    assembled_step front line at i x ws h e w = step front line at i x h e ∙ ap (next_line front line at i (view x)) (sym w)

    -- a invalid line
    pub assembled_fault : (front : Assembled) (line at i : ℕ) (x : X) (why : Why) → i < length xs → x ≡ get_or xs i x → Err why ≡ words es ls line at (view x) → assembled_from es ls front line at (map view (drop i xs)) ≡ Err (record { line = line; why = why })
    unfolding next_line
    assembled_fault front line at i x why h e w = step front line at i x h e ∙ ap (next_line front line at i (view x)) (sym w)

    pub assembled_end : (front : Assembled) (line at i : ℕ) → length xs ≤ i → assembled_from es ls front line at (map view (drop i xs)) ≡ Ok front
    unfolding assembled_from
    assembled_end front line at i h = ap (λ ys. assembled_from es ls front line at (map view ys)) (drop_all i xs h)

-- what the passes give together
pub whole : (text : List ℕ) (base : ℕ) (names : List Equate) (es : Equates) (ls : Labels) (ss : List Statement)
    → es ≡ equates_of names → ss ≡ map statement_of (lines text) → ls ≡ labels_from es no_labels 1 base ss → assembled_from es ls nothing 1 base ss ≡ assembled text base names
unfolding assembled
whole text base names es ls ss same listed labelled =
    ap (λ (l : Labels). assembled_from es l nothing 1 base ss) labelled
    ∙ ap (λ (e : Equates). assembled_from e (labels_from e no_labels 1 base ss) nothing 1 base ss) same
    ∙ ap (λ (s : List Statement). assembled_from (equates_of names) (labels_from (equates_of names) no_labels 1 base s) nothing 1 base s) listed

pub map_twice : {X Y Z : Type 0} (f : X → Y) (g : Y → Z) (xs : List X) → map (λ x. g (f x)) xs ≡ map g (map f xs)
map_twice f g [] = refl
map_twice f g (x ∷ xs) = ap (λ ys. g (f x) ∷ ys) (map_twice f g xs)
