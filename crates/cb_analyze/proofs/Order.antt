-- Derived sheets have compartments and items in the order in which they are first seen.
use Rattle.std.proofs.Common.{◌≡◌, ℕ, List, [], ◌∷◌, map, refl, ap, subst, sym, ◌∙◌}
use Rattle.std.specs.Str.{bytes_eq}
use Rattle.trace_form.specs.Grammar.{TraceRecord}
use Rattle.cb_analyze.specs.FirstSeen.{without_repeats, IsFirstSeen}
use Rattle.cb_analyze.specs.Grants.{lowest}
use Rattle.cb_analyze.specs.Sheets.{Holder, Holding, holder_of, same_holder, uses_of, holders_of, sheets_of, comps, IsInOrder}
use Rattle.cb_analyze.proofs.FirstSeen.{first_seen, without_repeats_map}
use Rattle.cb_analyze.proofs.UseTables.{same_is, same_itself}
use Rattle.cb_analyze.proofs.SheetTexts.{exact, itself}

abbrev holding : List TraceRecord → Holder → Holding
holding rs h = record { holder = h; grant = lowest (uses_of h rs) }

holders_are : (rs : List TraceRecord) (hs : List Holder) → map (λ (x : Holding). x.holder) (map (holding rs) hs) ≡ hs
holders_are rs [] = refl
holders_are rs (h ∷ hs) = ap (λ (l : List Holder). h ∷ l) (holders_are rs hs)

comps_are : (rs : List TraceRecord) (hs : List Holder) → map (λ (x : Holding). x.holder.comp) (map (holding rs) hs) ≡ map (λ (h : Holder). h.comp) hs
comps_are rs [] = refl
comps_are rs (h ∷ hs) = ap (λ (l : List (List ℕ)). h.comp ∷ l) (comps_are rs hs)

comps_of : (rs : List TraceRecord) → map (λ (h : Holder). h.comp) (map holder_of rs) ≡ map (λ (r : TraceRecord). r.comp) rs
comps_of [] = refl
comps_of (r ∷ rs) = ap (λ (l : List (List ℕ)). r.comp ∷ l) (comps_of rs)

-- the compartments of derived sheets are those of the records
comps_is : (rs : List TraceRecord) → comps (sheets_of rs) ≡ without_repeats bytes_eq (map (λ (r : TraceRecord). r.comp) rs)
unfolding sheets_of
comps_is rs =
    ap (without_repeats bytes_eq) (comps_are rs (holders_of rs))
    ∙ without_repeats_map same_holder same_is same_itself bytes_eq exact itself (λ (h : Holder). h.comp) (map holder_of rs)
    ∙ ap (without_repeats bytes_eq) (comps_of rs)

holders_is : (rs : List TraceRecord) → map (λ (x : Holding). x.holder) (sheets_of rs) ≡ holders_of rs
unfolding sheets_of
holders_is rs = holders_are rs (holders_of rs)

pub sheets_in_order : (rs : List TraceRecord) → IsInOrder (sheets_of rs) rs
sheets_in_order rs =
    let P : List Holder → Type 0 = λ ys. IsFirstSeen same_holder (map holder_of rs) ys in
    let Q : List (List ℕ) → Type 0 = λ ys. IsFirstSeen bytes_eq (map (λ (r : TraceRecord). r.comp) rs) ys in
    record {
      holders = subst P (sym (holders_is rs)) (first_seen same_holder same_is same_itself (map holder_of rs));
      compartments = subst Q (sym (comps_is rs)) (first_seen bytes_eq exact itself (map (λ (r : TraceRecord). r.comp) rs));
    }
