-- The table of grants that fit, as each record is added.
use Rattle.std.proofs.Common.{◌≡◌, ℕ, Bool, true, false, cond, ◌&&◌, ◌||◌, List, [], ◌∷◌, ◌++◌, map, filter, Option, Some, None, unwrap_or, refl, ap, sym, ◌∙◌, append_assoc, append-nil}
use Rattle.std.specs.List.{list_any}
use Rattle.std.specs.Map.{lookup}
use Rattle.std.specs.Str.{bytes_eq}
use Rattle.std.proofs.lemmas.Bool.{and_parts}
use Rattle.std.proofs.lemmas.List.{map-append}
use Rattle.std.proofs.lemmas.List.Folds.{list_all-append}
use Rattle.std.proofs.lemmas.Slice.Eq.{bytes_eq-Decides}
use Rattle.indexmap.specs.IndexMap.{insert_entry}
use Rattle.trace_form.specs.Grammar.{TraceRecord}
use Rattle.cb_analyze.specs.declared.grants.ItemGrant.{ItemGrant}
use Rattle.cb_analyze.specs.declared.fitting.Fitting.{Fitting}
use Rattle.cb_analyze.specs.declared.sheets.HolderKey.{HolderKey}
use Rattle.cb_analyze.specs.contracts.sheets.HolderKeyPartialEq.TheImpl.{eq-value}
use Rattle.cb_analyze.specs.FirstSeen.{with_element, with_elements, AreAllDifferent}
use Rattle.cb_analyze.specs.Grants.{permits, option_permits, permits_all, lowest}
use Rattle.cb_analyze.specs.Sheets.{Holder, Holding, holder_of, same_holder, is_use_of, uses_of, holders_of, sheets_of, grant_on, permits_record}
use Rattle.cb_analyze.specs.Fitting.{fitting_of, with_use, lowest_fitting}
use Rattle.cb_analyze.specs.Entries.{Table, table_with, table_with_all, entry_view, holder_view, holding_view}
use Rattle.cb_analyze.proofs.EntryViews.{lookup_view}
use Rattle.cb_analyze.proofs.FirstSeen.{with_elements_more, any_with_elements, with_elements_distinct}
use Rattle.cb_analyze.proofs.KeyTables.{table_by, insert_table, lookup_table}

pub same_is : (a b : Holder) → same_holder a b ≡ true → a ≡ b
same_is a b h =
    let p = and_parts (bytes_eq a.comp b.comp) (bytes_eq a.item b.item) h in
    let c : a.comp ≡ b.comp = (bytes_eq-Decides a.comp b.comp).0 p.0 in
    let i : a.item ≡ b.item = (bytes_eq-Decides a.item b.item).0 p.1 in
    let make : List ℕ → List ℕ → Holder = λ x y. record { comp = x; item = y } in
    ap (λ x. make x a.item) c ∙ ap (λ y. make b.comp y) i

pub same_itself : (a : Holder) → same_holder a a ≡ true
same_itself a = rw ((bytes_eq-Decides a.comp a.comp).1 refl, (bytes_eq-Decides a.item a.item).1 refl) refl

and_true : (b : Bool) → (b && true) ≡ b
and_true true = refl
and_true false = refl

all_push : (us : List TraceRecord) (r : TraceRecord) (g : ItemGrant) → permits_all (us ++ r ∷ []) g ≡ (permits_all us g && permits g r.kind r.mode)
all_push us r g = list_all-append (λ r. permits g r.kind r.mode) us (r ∷ []) ∙ ap (λ b. permits_all us g && b) (and_true (permits g r.kind r.mode))

-- those that permit one access more
fitting_push : (us : List TraceRecord) (r : TraceRecord) → fitting_of (us ++ r ∷ []) ≡ with_use (fitting_of us) r.kind r.mode
fitting_push us r = simp (all_push us r)

filter_push : (p : TraceRecord → Bool) (xs : List TraceRecord) (x : TraceRecord) → filter p (xs ++ x ∷ []) ≡ cond (p x) (filter p xs ++ x ∷ []) (filter p xs)
filter_push p [] x = refl
filter_push p (y ∷ ys) x = by_test (p y) (p x) (filter_push p ys x)
  where
    by_test : (b t : Bool) → filter p (ys ++ x ∷ []) ≡ cond t (filter p ys ++ x ∷ []) (filter p ys) → cond b (y ∷ filter p (ys ++ x ∷ [])) (filter p (ys ++ x ∷ [])) ≡ cond t (cond b (y ∷ filter p ys) (filter p ys) ++ x ∷ []) (cond b (y ∷ filter p ys) (filter p ys))
    by_test true true later = ap (λ (t : List TraceRecord). y ∷ t) later
    by_test true false later = ap (λ (t : List TraceRecord). y ∷ t) later
    by_test false true later = later
    by_test false false later = later

no_uses : (h : Holder) (rs : List TraceRecord) → list_any (same_holder h) (map holder_of rs) ≡ false → uses_of h rs ≡ []
no_uses h [] n = refl
no_uses h (r ∷ rs) n = by_test (is_use_of h r) refl n (no_uses h rs)
  where
    by_test : (b : Bool) → is_use_of h r ≡ b → (b || list_any (same_holder h) (map holder_of rs)) ≡ false → (list_any (same_holder h) (map holder_of rs) ≡ false → uses_of h rs ≡ []) → cond b (r ∷ uses_of h rs) (uses_of h rs) ≡ []
    by_test true e m later = absurd cc
    by_test false e m later = later m

abbrev pub fits_of : List TraceRecord → Holder → Fitting
fits_of rs h = fitting_of (uses_of h rs)

abbrev pub table_of : List TraceRecord → Table
table_of rs = table_by same_holder same_is same_itself (fits_of rs) (holders_of rs)

pub apart : (rs : List TraceRecord) → AreAllDifferent same_holder (holders_of rs)
apart rs = with_elements_distinct same_holder same_is same_itself [] (map holder_of rs) tt

absent : (done : List TraceRecord) (k : Holder) → list_any (same_holder k) (holders_of done) ≡ false → fits_of done k ≡ fitting_of []
absent done k n = ap fitting_of (no_uses k done (sym (any_with_elements same_holder same_is same_itself k [] (map holder_of done)) ∙ n))

step : (done : List TraceRecord) (r : TraceRecord) → table_with (table_of done) r ≡ table_of (done ++ r ∷ [])
unfolding table_with
step done r =
    let k = holder_of r in
    let F = fits_of done in
    let G = fits_of (done ++ r ∷ []) in
    let at_k : G k ≡ with_use (F k) r.kind r.mode =
    ap fitting_of (filter_push (is_use_of k) done r ∙ ap (λ b. cond b (uses_of k done ++ r ∷ []) (uses_of k done)) (same_itself k)) ∙ fitting_push (uses_of k done) r in
    let others : (h : Holder) → same_holder h k ≡ false → G h ≡ F h =
    λ h n. ap fitting_of (filter_push (is_use_of h) done r ∙ ap (λ b. cond b (uses_of h done ++ r ∷ []) (uses_of h done)) n) in
    let so_far : unwrap_or (lookup (same_holder k) (table_of done)) (fitting_of []) ≡ F k = lookup_table same_holder same_is same_itself F k (fitting_of []) (holders_of done) (absent done k) in
    let more : holders_of (done ++ r ∷ []) ≡ with_element same_holder (holders_of done) k =
    ap (with_elements same_holder []) (map-append holder_of done (r ∷ [])) ∙ with_elements_more same_holder [] (map holder_of done) k in
    ap (λ f. insert_entry same_holder (table_of done) k (with_use f r.kind r.mode)) so_far
    ∙ ap (insert_entry same_holder (table_of done) k) (sym at_k)
    ∙ insert_table same_holder same_is same_itself F G k others (holders_of done) (apart done)
    ∙ ap (table_by same_holder same_is same_itself G) (sym more)

run : (done rs : List TraceRecord) → table_with_all (table_of done) rs ≡ table_of (done ++ rs)
run done [] = ap table_of (sym (append-nil done))
run done (r ∷ rs) = ap (λ t. table_with_all t rs) (step done r) ∙ run (done ++ r ∷ []) rs ∙ ap table_of (append_assoc done (r ∷ []) rs)

-- what all records make is this table
pub table_of_all : (rs : List TraceRecord) → table_with_all [] rs ≡ table_of rs
table_of_all rs = run [] rs

from_entry : Holder × Fitting → Holding
from_entry e = record { holder = e.0; grant = lowest_fitting e.1 }

holding_by_entry : (es : List (HolderKey × Fitting)) → map holding_view es ≡ map from_entry (map entry_view es)
unfolding from_entry
holding_by_entry [] = refl
holding_by_entry (e ∷ es) = ap (λ (xs : List Holding). holding_view e ∷ xs) (holding_by_entry es)

of_table : (rs : List TraceRecord) (hs : List Holder) → map from_entry (table_by same_holder same_is same_itself (fits_of rs) hs) ≡ map (λ h. record { holder = h; grant = lowest (uses_of h rs) }) hs
unfolding from_entry
of_table rs [] = refl
of_table rs (h ∷ hs) = ap (λ (xs : List Holding). record { holder = h; grant = lowest (uses_of h rs) } ∷ xs) (of_table rs hs)

-- and the entries stand for the sheets
pub table_sheets : (es : List (HolderKey × Fitting)) (rs : List TraceRecord) → map entry_view es ≡ table_with_all [] rs → map holding_view es ≡ sheets_of rs
unfolding sheets_of
table_sheets es rs h = holding_by_entry es ∙ ap (map from_entry) (h ∙ table_of_all rs) ∙ of_table rs (holders_of rs)

-- the grant of sheets on an item, by the map
abbrev pub option_lowest : Option Fitting → Option ItemGrant
option_lowest None = None
option_lowest (Some f) = lowest_fitting f

by_holder : (b : Bool) (e : Holder × Fitting) (o : Option Fitting) → cond b (lowest_fitting e.1) (option_lowest o) ≡ option_lowest (cond b (Some e.1) o)
by_holder true e o = refl
by_holder false e o = refl

grant_found : (es : List (Holder × Fitting)) (h : Holder) → grant_on (map from_entry es) h ≡ option_lowest (lookup (same_holder h) es)
unfolding from_entry
grant_found [] h = refl
grant_found (e ∷ es) h = ap (cond (same_holder h e.0) (lowest_fitting e.1)) (grant_found es h) ∙ by_holder (same_holder h e.0) e (lookup (same_holder h) es)

pub grant_by_map : (es : List (HolderKey × Fitting)) (h : Holder) → grant_on (map holding_view es) h ≡ option_lowest (lookup (same_holder h) (map entry_view es))
grant_by_map es h = ap (λ xs. grant_on xs h) (holding_by_entry es) ∙ grant_found (map entry_view es) h

-- whether the sheets permit a record, by the map
pub permits_by_map : (es : List (HolderKey × Fitting)) (xs : List Holding) (key : HolderKey) (r : TraceRecord) → map holding_view es ≡ xs → holder_view key ≡ holder_of r → permits_record xs r ≡ option_permits (option_lowest (lookup (eq-value.it key) es)) r.kind r.mode
unfolding permits_record
permits_by_map es xs key r seen is =
    ap (λ ys. option_permits (grant_on ys (holder_of r)) r.kind r.mode) (sym seen)
    ∙ ap (λ h. option_permits (grant_on (map holding_view es) h) r.kind r.mode) (sym is)
    ∙ ap (λ g. option_permits g r.kind r.mode) (grant_by_map es (holder_view key))
    ∙ ap (λ o. option_permits (option_lowest o) r.kind r.mode) (sym (lookup_view eq-value.it same_holder holder_view (λ a b. refl) key es))
