-- A piece of two lists of shared pages, compared in the page in which it lies.
use Rattle.std.proofs.Common.{◌≡◌, ◌↔◌, ℕ, ◌+◌, ◌/◌, ◌%◌, ◌<◌, ◌≤◌, Bool, true, List, length, get_or, sym, ap, ◌∙◌, arith, slice_range}
use Rattle.std.specs.Arc.{arc_value}
use Rattle.std.specs.declared.sync.Arc.{Arc}
use Rattle.wedge_base.specs.Images.{page}
use Rattle.cow_pages.specs.SharedPages.{HaveLength, contents, bytes_in}
use Rattle.cow_pages.proofs.SharedPages.{length-bytes_in, read_shared}

abbrev piece : List ℕ → ℕ → ℕ → List ℕ
piece xs from count = slice_range xs from (from + count)

module _ {Z : Type 0} where
  in_page : (ps : List (Arc (List ℕ) Z)) (next count size : ℕ) (a : Arc (List ℕ) Z) (now : List ℕ) → HaveLength page (contents ps) → size ≤ length (bytes_in ps) → next < size → next % page + count ≤ page → a ≡ get_or ps (next / page) a → now ≡ arc_value a → piece (bytes_in ps) next count ≡ piece now (next % page) count
  in_page ps next count size a now whole inside lt one is value =
      let all = length-bytes_in ps whole in
      let on_page : next / page < length ps = omega (arith, all) in
      read_shared ps next count a whole on_page one is ∙ ap (λ z. piece z (next % page) count) (sym value)

  pub piece_of : (ps qs : List (Arc (List ℕ) Z)) (next count size : ℕ) (a b : Arc (List ℕ) Z) (left right : List ℕ) (alike : Bool)
      → HaveLength page (contents ps) → HaveLength page (contents qs) → size ≤ length (bytes_in ps) → size ≤ length (bytes_in qs) → next < size → next % page + count ≤ page
      → a ≡ get_or ps (next / page) a → b ≡ get_or qs (next / page) b → left ≡ arc_value a → right ≡ arc_value b
      → (alike ≡ true) ↔ (piece left (next % page) count ≡ piece right (next % page) count)
      → (alike ≡ true) ↔ (piece (bytes_in ps) next count ≡ piece (bytes_in qs) next count)
  piece_of ps qs next count size a b left right alike whole others in_left in_right lt one isa isb va vb is =
      let l = in_page ps next count size a left whole in_left lt one isa va in
      let r = in_page qs next count size b right others in_right lt one isb vb in
      (λ e. l ∙ is.0 e ∙ sym r, λ e. is.1 (sym l ∙ e ∙ r))
