-- Errors of the code, and the faults that they report.
use Rattle.std.proofs.Common.{◌≡◌, ℕ, ◌+◌, ◌<◌, ◌≤◌, List, ◌∷◌, length, get_or, drop, map, Option, Some, None, refl, ap, sym, subst, ◌∙◌}
use Rattle.std.proofs.lemmas.List.{drop_more, drop_all}
use Rattle.std.specs.Option.{option_or}
use Rattle.toml.specs.Data.{Members}
use Rattle.part_toml.specs.declared.fault.PartFault.{PartFault}
use Rattle.part_toml.specs.declared.fault.PartFault.TheVariants as fault
use Rattle.part_toml.specs.declared.keys.Part.{Part}
use Rattle.part_toml.specs.Faults.{Refusal, table_fault, tables_fault}
use Rattle.part_toml.specs.Partition.{Reports}

-- only running out of memory reports no fault
pub reports_nothing : (e : PartFault) → Reports e None → e ≡ fault.NoMemory
reports_nothing fault.NoMemory h = refl
reports_nothing fault.Toml h = absurd (cc)
reports_nothing (fault.Key name) h = absurd (cc)
reports_nothing (fault.Kind name) h = absurd (cc)
reports_nothing (fault.Asm line w) h = absurd (cc)
reports_nothing (fault.Image at w) h = absurd (cc)

-- what reports a fault reports it also where more checks follow
pub reports_or : (e : PartFault) (a b : Option Refusal) → Reports e a → Reports e (option_or a b)
reports_or e (Some r) b h = h
reports_or e None b h = subst (λ f. Reports f b) (sym (reports_nothing e h)) tt

module _ {X : Type 0} (view : X → Members) (p : Part) (xs : List X) where
  step : (i : ℕ) (x : X) → i < length xs → x ≡ get_or xs i x → tables_fault p (map view (drop i xs)) ≡ option_or (table_fault p (view x)) (tables_fault p (map view (drop (i + 1) xs)))
  step i x h e = ap (λ ys. tables_fault p (map view ys)) (drop_more xs i x h ∙ ap (λ y. y ∷ drop (i + 1) xs) (sym e))

  -- a table that is valid
  pub tables_more : (i : ℕ) (x : X) → i < length xs → x ≡ get_or xs i x → table_fault p (view x) ≡ None → tables_fault p (map view (drop i xs)) ≡ tables_fault p (map view (drop (i + 1) xs))
  tables_more i x h e fine = step i x h e ∙ ap (λ o. option_or o (tables_fault p (map view (drop (i + 1) xs)))) fine

  -- a table that is not
  pub tables_told : (i : ℕ) (x : X) (f : PartFault) → i < length xs → x ≡ get_or xs i x → Reports f (table_fault p (view x)) → Reports f (tables_fault p (map view (drop i xs)))
  tables_told i x f h e told = subst (Reports f) (sym (step i x h e)) (reports_or f (table_fault p (view x)) _ told)

  pub tables_end : (i : ℕ) → length xs ≤ i → tables_fault p (map view (drop i xs)) ≡ None
  tables_end i h = ap (λ ys. tables_fault p (map view ys)) (drop_all i xs h)
