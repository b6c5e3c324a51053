-- The texts of compartments, as each line is added.
use Rattle.std.proofs.Common.{◌≡◌, ℕ, Bool, true, false, cond, ◌||◌, List, [], ◌∷◌, ◌++◌, map, filter, unwrap_or, refl, ap, sym, ◌∙◌, append_assoc, append-nil}
use Rattle.std.specs.List.{list_any, flat_map}
use Rattle.std.specs.Map.{lookup}
use Rattle.std.specs.Str.{bytes_eq}
use Rattle.std.proofs.lemmas.List.{map-append}
use Rattle.std.proofs.lemmas.Slice.Eq.{bytes_eq-Decides}
use Rattle.indexmap.specs.IndexMap.{insert_entry}
use Rattle.cb_analyze.specs.FirstSeen.{with_element, with_elements}
use Rattle.cb_analyze.specs.Sheets.{Holding, comps}
use Rattle.cb_analyze.specs.Texts.{holding_line, sheet_line, sheet_text, sheets_text}
use Rattle.cb_analyze.specs.Entries.{Texts, texts_with, texts_with_all}
use Rattle.cb_analyze.proofs.FirstSeen.{with_elements_more, any_with_elements, with_elements_distinct}
use Rattle.cb_analyze.proofs.KeyTables.{table_by, insert_table, lookup_table}

pub exact : (a b : List ℕ) → bytes_eq a b ≡ true → a ≡ b
exact a b h = (bytes_eq-Decides a b).0 h

pub itself : (a : List ℕ) → bytes_eq a a ≡ true
itself a = (bytes_eq-Decides a a).1 refl

-- a value that is written to an entry twice
module _ {X V : Type 0} (same : X → X → Bool) (own : (a : X) → same a a ≡ true) where
  pub insert_twice : (es : List (X × V)) (k : X) (v w : V) → insert_entry same (insert_entry same es k v) k w ≡ insert_entry same es k w
  insert_twice [] k v w = ap (λ b. cond b ((k, w) ∷ []) ((k, v) ∷ (k, w) ∷ [])) (own k)
  insert_twice (e ∷ es) k v w = by_key (same k e.0) refl (insert_twice es k v w)
    where
      by_key : (b : Bool) → same k e.0 ≡ b → insert_entry same (insert_entry same es k v) k w ≡ insert_entry same es k w → insert_entry same (cond b ((e.0, v) ∷ es) (e ∷ insert_entry same es k v)) k w ≡ cond b ((e.0, w) ∷ es) (e ∷ insert_entry same es k w)
      by_key true h later = ap (λ b. cond b ((e.0, w) ∷ es) ((e.0, v) ∷ insert_entry same es k w)) h
      by_key false h later = ap (λ b. cond b ((e.0, w) ∷ insert_entry same es k v) (e ∷ insert_entry same (insert_entry same es k v) k w)) h ∙ ap (λ (t : List (X × V)). e ∷ t) later

abbrev lines_of : List Holding → List ℕ → List ℕ
lines_of xs comp = flat_map holding_line (filter (λ x. bytes_eq comp x.holder.comp) xs)

line_push : (xs : List Holding) (x : Holding) (c : List ℕ) → lines_of (xs ++ x ∷ []) c ≡ cond (bytes_eq c x.holder.comp) (lines_of xs c ++ holding_line x) (lines_of xs c)
line_push [] x c = by_test (bytes_eq c x.holder.comp)
  where
    by_test : (b : Bool) → flat_map holding_line (cond b (x ∷ []) []) ≡ cond b (holding_line x) []
    by_test true = append-nil (holding_line x)
    by_test false = refl
line_push (y ∷ ys) x c = by_test (bytes_eq c y.holder.comp) (bytes_eq c x.holder.comp) (line_push ys x c)
  where
    by_test : (a b : Bool) → lines_of (ys ++ x ∷ []) c ≡ cond b (lines_of ys c ++ holding_line x) (lines_of ys c) → flat_map holding_line (cond a (y ∷ filter (λ x. bytes_eq c x.holder.comp) (ys ++ x ∷ [])) (filter (λ x. bytes_eq c x.holder.comp) (ys ++ x ∷ []))) ≡ cond b (flat_map holding_line (cond a (y ∷ filter (λ x. bytes_eq c x.holder.comp) ys) (filter (λ x. bytes_eq c x.holder.comp) ys)) ++ holding_line x) (flat_map holding_line (cond a (y ∷ filter (λ x. bytes_eq c x.holder.comp) ys) (filter (λ x. bytes_eq c x.holder.comp) ys)))
    by_test true true later = ap (λ (t : List ℕ). holding_line y ++ t) later ∙ sym (append_assoc (holding_line y) (lines_of ys c) (holding_line x))
    by_test true false later = ap (λ (t : List ℕ). holding_line y ++ t) later
    by_test false b later = later

no_lines : (c : List ℕ) (xs : List Holding) → list_any (bytes_eq c) (map (λ x. x.holder.comp) xs) ≡ false → lines_of xs c ≡ []
no_lines c [] n = refl
no_lines c (x ∷ xs) n = by_test (bytes_eq c x.holder.comp) n (no_lines c xs)
  where
    by_test : (b : Bool) → (b || list_any (bytes_eq c) (map (λ x. x.holder.comp) xs)) ≡ false → (list_any (bytes_eq c) (map (λ x. x.holder.comp) xs) ≡ false → lines_of xs c ≡ []) → flat_map holding_line (cond b (x ∷ filter (λ x. bytes_eq c x.holder.comp) xs) (filter (λ x. bytes_eq c x.holder.comp) xs)) ≡ []
    by_test true m later = absurd cc
    by_test false m later = later m

abbrev texts : List Holding → Texts
texts xs = table_by bytes_eq exact itself (sheet_text xs) (comps xs)

absent : (done : List Holding) (k : List ℕ) → list_any (bytes_eq k) (comps done) ≡ false → sheet_text done k ≡ sheet_line k
absent done k n =
    ap (λ (t : List ℕ). sheet_line k ++ t) (no_lines k done (sym (any_with_elements bytes_eq exact itself k [] (map (λ x. x.holder.comp) done)) ∙ n))
    ∙ append-nil (sheet_line k)

step : (done : List Holding) (x : Holding) → texts_with (texts done) x ≡ texts (done ++ x ∷ [])
unfolding texts_with
step done x =
    let k = x.holder.comp in
    let F = sheet_text done in
    let G = sheet_text (done ++ x ∷ []) in
    let at_k : G k ≡ F k ++ holding_line x =
    ap (λ (t : List ℕ). sheet_line k ++ t) (line_push done x k ∙ ap (λ b. cond b (lines_of done k ++ holding_line x) (lines_of done k)) (itself k))
    ∙ sym (append_assoc (sheet_line k) (lines_of done k) (holding_line x)) in
    let others : (c : List ℕ) → bytes_eq c k ≡ false → G c ≡ F c =
    λ c n. ap (λ (t : List ℕ). sheet_line c ++ t) (line_push done x c ∙ ap (λ b. cond b (lines_of done c ++ holding_line x) (lines_of done c)) n) in
    let so_far : unwrap_or (lookup (bytes_eq k) (texts done)) (sheet_line k) ≡ F k =
    found_in F k (sheet_line k) (comps done) (absent done k) in
    let more : comps (done ++ x ∷ []) ≡ with_element bytes_eq (comps done) k =
    ap (with_elements bytes_eq []) (map-append (λ x. x.holder.comp) done (x ∷ [])) ∙ with_elements_more bytes_eq [] (map (λ x. x.holder.comp) done) k in
    ap (λ (t : List ℕ). insert_entry bytes_eq (texts done) k (t ++ holding_line x)) so_far
    ∙ ap (insert_entry bytes_eq (texts done) k) (sym at_k)
    ∙ insert_table bytes_eq exact itself F G k others (comps done) (with_elements_distinct bytes_eq exact itself [] (map (λ x. x.holder.comp) done) tt)
    ∙ ap (table_by bytes_eq exact itself G) (sym more)
  where
    found_in : (F : List ℕ → List ℕ) (k d : List ℕ) (hs : List (List ℕ)) → (list_any (bytes_eq k) hs ≡ false → F k ≡ d) → unwrap_or (lookup (bytes_eq k) (table_by bytes_eq exact itself F hs)) d ≡ F k
    found_in F k d hs h = ap (λ (es : List (List ℕ × List ℕ)). unwrap_or (lookup (bytes_eq k) es) d) (as_map F hs) ∙ lookup_table bytes_eq exact itself F k d hs h
      where
        as_map : (F : List ℕ → List ℕ) (hs : List (List ℕ)) → table_by bytes_eq exact itself F hs ≡ map (λ h. (h, F h)) hs
        as_map F [] = refl
        as_map F (h ∷ hs) = ap (λ (es : List (List ℕ × List ℕ)). (h, F h) ∷ es) (as_map F hs)

run : (done xs : List Holding) → texts_with_all (texts done) xs ≡ texts (done ++ xs)
run done [] = ap texts (sym (append-nil done))
run done (x ∷ xs) = ap (λ t. texts_with_all t xs) (step done x) ∙ run (done ++ x ∷ []) xs ∙ ap texts (append_assoc done (x ∷ []) xs)

concat_table : (F : List ℕ → List ℕ) (cs : List (List ℕ)) → flat_map (λ (e : List ℕ × List ℕ). e.1) (table_by bytes_eq exact itself F cs) ≡ flat_map F cs
concat_table F [] = refl
concat_table F (c ∷ cs) = ap (λ (t : List ℕ). F c ++ t) (concat_table F cs)

-- the texts that all lines make, without a separator, are the text of the sheets
pub texts_concat : (xs : List Holding) → flat_map (λ (e : List ℕ × List ℕ). e.1) (texts_with_all [] xs) ≡ sheets_text xs
unfolding sheets_text
texts_concat xs = ap (flat_map (λ (e : List ℕ × List ℕ). e.1)) (run [] xs) ∙ concat_table (sheet_text xs) (comps xs)
