-- Values of an array, seen as tables.
use Rattle.std.proofs.Common.{◌≡◌, ℕ, ◌+◌, ◌<◌, ◌≤◌, ◌&&◌, List, [], ◌∷◌, ◌++◌, length, get_or, drop, map, Option, Some, None, option_map, is_some, refl, ap, sym, ◌∙◌, append_assoc, append-nil, arith}
use Rattle.std.proofs.lemmas.List.{drop_more, drop_all, map-append}
use Rattle.std.specs.List.{list_all}
use Rattle.std.specs.Option.{option_to_list}
use Rattle.toml.specs.Data.{Members, as_table}
use Rattle.toml.specs.View.{view, items_view}
use Rattle.toml.specs.declared.value.Value.{Value}
use Rattle.part_toml.specs.Values.{are_tables, tables_of}

pub are_tables-view : (vs : List Value) → list_all (λ v. is_some (as_table (view v))) vs ≡ are_tables (items_view vs)
are_tables-view [] = refl
are_tables-view (v ∷ vs) = ap (λ b. is_some (as_table (view v)) && b) (are_tables-view vs)

-- the tables of one more value of an array
pub tables_of-more : (front : List Members) (vs : List Value) (i : ℕ) (v : Value) → i < length vs → v ≡ get_or vs i v → front ++ option_to_list (as_table (view v)) ++ tables_of (items_view (drop (i + 1) vs)) ≡ front ++ tables_of (items_view (drop i vs))
tables_of-more front vs i v h e =
    append_assoc front (option_to_list (as_table (view v))) (tables_of (items_view (drop (i + 1) vs)))
    ∙ ap (λ ys. front ++ tables_of (items_view ys)) (sym (drop_more vs i v h ∙ ap (λ y. y ∷ drop (i + 1) vs) (sym e)))

pub tables_of-end : (front : List Members) (vs : List Value) (i : ℕ) → length vs ≤ i → front ++ tables_of (items_view (drop i vs)) ≡ front
tables_of-end front vs i h = ap (λ ys. front ++ tables_of (items_view ys)) (drop_all i vs h) ∙ append-nil front

module _ {X Y : Type 0} (f : X → Y) (front : List X) (o : Option X) (seen : Option Y) (same : option_map f o ≡ seen) where
  -- one more item, where there is one
  pub map-pushed : (new : List X) (x : X) → o ≡ Some x → new ≡ front ++ x ∷ [] → map f new ≡ map f front ++ option_to_list seen
  map-pushed new x is n =
      ap (map f) n ∙ map-append f front (x ∷ []) ∙ ap (λ t. map f front ++ option_to_list t) (sym (ap (option_map f) is) ∙ same)

  pub map-kept : o ≡ None → map f front ≡ map f front ++ option_to_list seen
  map-kept is = sym (append-nil (map f front)) ∙ ap (λ t. map f front ++ option_to_list t) (sym (ap (option_map f) is) ∙ same)

pub nothing_left : {X : Type 0} (l : List X) → length l ≡ 0 → l ≡ []
nothing_left [] h = refl
nothing_left (x ∷ xs) h = absurd (omega arith)
