-- The procedures of a program: none begins where another does or has its name, and one begins at the base and at the entry.
use Rattle.std.proofs.Common.{◌≡◌, ℕ, Bool, true, false, true≢false, cond, not, ◌&&◌, ◌||◌, eqb, List, [], ◌∷◌, ◌++◌, fold, Some, None, refl, sym, ap, ◌∙◌, arith}
use Rattle.std.specs.List.{list_any, filter_map, cons_option}
use Rattle.std.specs.Str.{bytes_eq}
use Rattle.std.specs.Ordering.{nat_cmp, is_lt, is_eq, ordering_reverse}
use Rattle.std.specs.declared.cmp.Ordering.{Ordering}
use Rattle.std.specs.declared.cmp.Ordering.TheVariants.{Less, Equal, Greater}
use Rattle.std.specs.Cmp.Lexicographic.{slice_cmp, nat_list_cmp_total}
use Rattle.std.proofs.lemmas.Bool.Decides.{nat_tests}
use Rattle.std.proofs.lemmas.List.Folds.{list_any-append}
use Rattle.std.proofs.lemmas.Map.Text.{is_eq-slice_cmp}
use Rattle.std.proofs.lemmas.Slice.Eq.{bytes_eq-Decides}
use Rattle.wedge_base.specs.Texts.{is_name}
use Rattle.image_form.specs.Forms.{is_below}
use Rattle.wedge_base.specs.declared.image.Procedure.{Procedure}
use Rattle.elf_in.specs.declared.procedures.Candidate.{Candidate}
use Rattle.elf_in.specs.declared.headers.Symbol.{Symbol}
use Rattle.elf_in.specs.Headers.{is_function}
use Rattle.elf_in.specs.Symbols.{SymbolTable, name_at}
use Rattle.stable_sort.specs.Sorting.{insert_sorted, sorted_onto, sorted}
use Rattle.stable_sort.specs.ByName.{procedure_before, procedure_order}
use Rattle.wedge_base.specs.Images.{begins_at, is_text_address}
use Rattle.elf_in.specs.Procedures.{has_name, with_candidate, with_start, candidates, candidate, candidate_before, procedures_of, is_usable, text_start, entry_start}
use Rattle.elf_in.specs.Laws.{Differ, PrecedesAll, Ascend, AreElfProcedures}
use Rattle.stable_sort.proofs.Sorted.{IsLow, Rises, rises_onto}

-- ---- tests

swap_or : (a b c : Bool) → (a || (b || c)) ≡ (b || (a || c))
swap_or true true c = refl
swap_or true false c = refl
swap_or false true c = refl
swap_or false false c = refl

regroup_or : (a b c : Bool) → ((a || b) || c) ≡ (b || (a || c))
regroup_or true true c = refl
regroup_or true false c = refl
regroup_or false true c = refl
regroup_or false false c = refl

neither : (a b : Bool) → (a || b) ≡ false → (a ≡ false) × (b ≡ false)
neither true b h = absurd (true≢false h)
neither false b h = (refl, h)

both_false : (a b : Bool) → a ≡ false → b ≡ false → (a || b) ≡ false
both_false a b p q = (λ i. p i || q i)

with_last : (a b : Bool) → a ≡ false → b ≡ false → (a || (b || false)) ≡ false
with_last a b p q = (λ i. p i || (q i || false))

other_way : (a b : ℕ) → eqb a b ≡ false → eqb b a ≡ false
other_way a b h = grind (arith, nat_tests)

same_test : (a b : List ℕ) (v : Bool) → bytes_eq b a ≡ v → bytes_eq a b ≡ false → bytes_eq b a ≡ false
same_test a b true e h = absurd (true≢false (sym ((bytes_eq-Decides a b).1 (sym ((bytes_eq-Decides b a).0 e))) ∙ h))
same_test a b false e h = e

other_text : (a b : List ℕ) → bytes_eq a b ≡ false → bytes_eq b a ≡ false
other_text a b h = same_test a b (bytes_eq b a) refl h

-- ---- tests of sorted lists

module _ {X : Type 0} (lt : X → X → Bool) (p : X → Bool) where
  any_put_at : (x y : X) (ys : List X) (b : Bool) → list_any p (insert_sorted lt x ys) ≡ (p x || list_any p ys) → list_any p (cond b (x ∷ y ∷ ys) (y ∷ insert_sorted lt x ys)) ≡ (p x || (p y || list_any p ys))
  any_put_at x y ys true h = refl
  any_put_at x y ys false h = ap (λ b. p y || b) h ∙ swap_or (p y) (p x) (list_any p ys)

  any_put : (x : X) (ys : List X) → list_any p (insert_sorted lt x ys) ≡ (p x || list_any p ys)
  any_put x [] = refl
  any_put x (y ∷ ys) = any_put_at x y ys (lt x y) (any_put x ys)

  none_or : (b : Bool) → b ≡ (b || false)
  none_or true = refl
  none_or false = refl

  any_onto : (done xs : List X) → list_any p (sorted_onto lt done xs) ≡ (list_any p done || list_any p xs)
  any_onto done [] = none_or (list_any p done)
  any_onto done (x ∷ xs) =
      any_onto (insert_sorted lt x done) xs
      ∙ ap (λ b. b || list_any p xs) (any_put x done)
      ∙ regroup_or (p x) (list_any p done) (list_any p xs)

  pub any_sorted : (xs : List X) → list_any p (sorted lt xs) ≡ list_any p xs
  any_sorted xs = any_onto [] xs

-- ---- procedures apart

differ_push : (ps : List Procedure) (q : Procedure) → Differ ps → begins_at ps q.address ≡ false → has_name ps q.name ≡ false → Differ (ps ++ q ∷ [])
differ_push [] q d a n = (refl, refl, tt)
differ_push (p ∷ ps) q d a n =
    let x = neither (eqb p.address q.address) (begins_at ps q.address) a in
    let y = neither (bytes_eq p.name q.name) (has_name ps q.name) n in (
      list_any-append (λ r. eqb r.address p.address) ps (q ∷ []) ∙ with_last (begins_at ps p.address) (eqb q.address p.address) d.0 (other_way p.address q.address x.0),
      list_any-append (λ r. bytes_eq r.name p.name) ps (q ∷ []) ∙ with_last (has_name ps p.name) (bytes_eq q.name p.name) d.1 (other_text p.name q.name y.0),
      differ_push ps q d.2 x.1 y.1,
    )

differ_candidate_at : (ps : List Procedure) (c : Candidate) (b : Bool) → (begins_at ps c.address || has_name ps c.name) ≡ b → Differ ps → Differ (cond b ps (ps ++ record { name = c.name; address = c.address } ∷ []))
differ_candidate_at ps c true e d = d
differ_candidate_at ps c false e d =
    let x = neither (begins_at ps c.address) (has_name ps c.name) e in
    differ_push ps (record { name = c.name; address = c.address }) d x.0 x.1

differ_fold : (ps : List Procedure) (cs : List Candidate) → Differ ps → Differ (fold with_candidate ps cs)
differ_fold ps [] d = d
differ_fold ps (c ∷ cs) d = differ_fold (with_candidate ps c) cs (differ_candidate_at ps c (begins_at ps c.address || has_name ps c.name) refl d)

differ_start_at : (name : List ℕ) (a : ℕ) (ps : List Procedure) (b : Bool) → begins_at ps a ≡ b → has_name ps name ≡ false → Differ ps → Differ (cond b ps (ps ++ record { name = name; address = a } ∷ []))
differ_start_at name a ps true e n d = d
differ_start_at name a ps false e n d = differ_push ps (record { name = name; address = a }) d e n

differ_start : (name : List ℕ) (a : ℕ) (ps : List Procedure) → has_name ps name ≡ false → Differ ps → Differ (with_start name a ps)
differ_start name a ps n d = differ_start_at name a ps (begins_at ps a) refl n d

-- none of some procedures begins where one of others does or has its name
abbrev Apart : List Procedure → List Procedure → Type 0
Apart done [] = Unit {0}
Apart done (x ∷ xs) = (begins_at done x.address ≡ false) × (has_name done x.name ≡ false) × Apart done xs

module _ (lt : Procedure → Procedure → Bool) where
  differ_put_at : (x y : Procedure) (ys : List Procedure) (b : Bool) → Differ (y ∷ ys) → begins_at (y ∷ ys) x.address ≡ false → has_name (y ∷ ys) x.name ≡ false → Differ (insert_sorted lt x ys)
      → Differ (cond b (x ∷ y ∷ ys) (y ∷ insert_sorted lt x ys))
  differ_put_at x y ys true d a n rest = (a, n, d)
  differ_put_at x y ys false d a n rest =
      let e = neither (eqb y.address x.address) (begins_at ys x.address) a in
      let f = neither (bytes_eq y.name x.name) (has_name ys x.name) n in (
        any_put lt (λ r. eqb r.address y.address) x ys ∙ both_false (eqb x.address y.address) (begins_at ys y.address) (other_way y.address x.address e.0) d.0,
        any_put lt (λ r. bytes_eq r.name y.name) x ys ∙ both_false (bytes_eq x.name y.name) (has_name ys y.name) (other_text y.name x.name f.0) d.1,
        rest,
      )

  differ_put : (x : Procedure) (ys : List Procedure) → Differ ys → begins_at ys x.address ≡ false → has_name ys x.name ≡ false → Differ (insert_sorted lt x ys)
  differ_put x [] d a n = (refl, refl, tt)
  differ_put x (y ∷ ys) d a n =
      let e = neither (eqb y.address x.address) (begins_at ys x.address) a in
      let f = neither (bytes_eq y.name x.name) (has_name ys x.name) n in
      differ_put_at x y ys (lt x y) d a n (differ_put x ys d.2 e.1 f.1)

  apart_put : (x : Procedure) (done xs : List Procedure) → Apart done xs → begins_at xs x.address ≡ false → has_name xs x.name ≡ false → Apart (insert_sorted lt x done) xs
  apart_put x done [] h a n = tt
  apart_put x done (z ∷ zs) h a n =
      let e = neither (eqb z.address x.address) (begins_at zs x.address) a in
      let f = neither (bytes_eq z.name x.name) (has_name zs x.name) n in (
        any_put lt (λ r. eqb r.address z.address) x done ∙ both_false (eqb x.address z.address) (begins_at done z.address) (other_way z.address x.address e.0) h.0,
        any_put lt (λ r. bytes_eq r.name z.name) x done ∙ both_false (bytes_eq x.name z.name) (has_name done z.name) (other_text z.name x.name f.0) h.1,
        apart_put x done zs h.2 e.1 f.1,
      )

  differ_onto : (done xs : List Procedure) → Differ done → Differ xs → Apart done xs → Differ (sorted_onto lt done xs)
  differ_onto done [] d e h = d
  differ_onto done (x ∷ xs) d e h = differ_onto (insert_sorted lt x done) xs (differ_put x done d h.0 h.1) e.2 (apart_put x done xs h.2 e.0 e.1)

  nothing_apart : (xs : List Procedure) → Apart [] xs
  nothing_apart [] = tt
  nothing_apart (x ∷ xs) = (refl, refl, nothing_apart xs)

  differ_sorted : (xs : List Procedure) → Differ xs → Differ (sorted lt xs)
  differ_sorted xs d = differ_onto [] xs tt d (nothing_apart xs)

-- ---- no candidate has a name that is added

abbrev Lack : List ℕ → List Candidate → Type 0
Lack n [] = Unit {0}
Lack n (c ∷ cs) = (bytes_eq c.name n ≡ false) × Lack n cs

not_true : (b : Bool) → not b ≡ true → b ≡ false
not_true true h = absurd (true≢false (sym h))
not_true false h = refl

all_true : (a b : Bool) → (a && b) ≡ true → (a ≡ true) × (b ≡ true)
all_true true b h = (refl, h)
all_true false b h = absurd (true≢false (sym h))

usable_names : (name : List ℕ) → is_usable name ≡ true → (bytes_eq name text_start ≡ false) × (bytes_eq name entry_start ≡ false)
usable_names name h =
    let a = all_true (is_name name && not (bytes_eq name text_start)) (not (bytes_eq name entry_start)) h in
    let b = all_true (is_name name) (not (bytes_eq name text_start)) a.0 in
    (not_true (bytes_eq name text_start) b.1, not_true (bytes_eq name entry_start) a.1)

module _ (n : List ℕ) (lacks : (name : List ℕ) → is_usable name ≡ true → bytes_eq name n ≡ false) where
  lack_at : (c : Candidate) (cs : List Candidate) (b : Bool) → (b ≡ true → is_usable c.name ≡ true) → Lack n cs → Lack n (cons_option (cond b (Some c) None) cs)
  lack_at c cs true h rest = (lacks c.name (h refl), rest)
  lack_at c cs false h rest = rest

  lack_filter : (base count : ℕ) (names : List ℕ) (ss : List Symbol) → Lack n (filter_map (candidate base count names) ss)
  lack_filter base count names [] = tt
  lack_filter base count names (s ∷ ss) =
      let first = is_function s && is_text_address base count s.value in
      lack_at (record { address = s.value; name = name_at names s.name }) (filter_map (candidate base count names) ss)
      (first && is_usable (name_at names s.name))
      (λ h. (all_true first (is_usable (name_at names s.name)) h).1)
      (lack_filter base count names ss)

  lack_put_at : (lt : Candidate → Candidate → Bool) (c d : Candidate) (ds : List Candidate) (b : Bool) → bytes_eq c.name n ≡ false → Lack n (d ∷ ds) → Lack n (insert_sorted lt c ds) → Lack n (cond b (c ∷ d ∷ ds) (d ∷ insert_sorted lt c ds))
  lack_put_at lt c d ds true h l rest = (h, l)
  lack_put_at lt c d ds false h l rest = (l.0, rest)

  lack_put : (lt : Candidate → Candidate → Bool) (c : Candidate) (ds : List Candidate) → bytes_eq c.name n ≡ false → Lack n ds → Lack n (insert_sorted lt c ds)
  lack_put lt c [] h l = (h, tt)
  lack_put lt c (d ∷ ds) h l = lack_put_at lt c d ds (lt c d) h l (lack_put lt c ds h l.1)

  lack_onto : (lt : Candidate → Candidate → Bool) (done cs : List Candidate) → Lack n done → Lack n cs → Lack n (sorted_onto lt done cs)
  lack_onto lt done [] l m = l
  lack_onto lt done (c ∷ cs) l m = lack_onto lt (insert_sorted lt c done) cs (lack_put lt c done m.0 l) m.1

  lack_named_at : (ps : List Procedure) (c : Candidate) (b : Bool) → has_name ps n ≡ false → bytes_eq c.name n ≡ false → has_name (cond b ps (ps ++ record { name = c.name; address = c.address } ∷ [])) n ≡ false
  lack_named_at ps c true h e = h
  lack_named_at ps c false h e = list_any-append (λ r. bytes_eq r.name n) ps (record { name = c.name; address = c.address } ∷ []) ∙ with_last (has_name ps n) (bytes_eq c.name n) h e

  lack_fold : (ps : List Procedure) (cs : List Candidate) → has_name ps n ≡ false → Lack n cs → has_name (fold with_candidate ps cs) n ≡ false
  lack_fold ps [] h l = h
  lack_fold ps (c ∷ cs) h l = lack_fold (with_candidate ps c) cs (lack_named_at ps c (begins_at ps c.address || has_name ps c.name) h l.0) l.1

  lack_candidates : (base count : ℕ) (t : SymbolTable) → has_name (fold with_candidate [] (candidates base count t)) n ≡ false
  unfolding candidates
  lack_candidates base count t = lack_fold [] _ refl (lack_onto candidate_before [] _ tt (lack_filter base count t.names t.symbols))

-- ---- one begins at the base, and one at the entry

start_there_at : (name : List ℕ) (a : ℕ) (ps : List Procedure) (b : Bool) → begins_at ps a ≡ b → begins_at (cond b ps (ps ++ record { name = name; address = a } ∷ [])) a ≡ true
start_there_at name a ps true e = e
start_there_at name a ps false e = list_any-append (λ r. eqb r.address a) ps (record { name = name; address = a } ∷ []) ∙ last_there (begins_at ps a) where
  last_there : (b : Bool) → (b || (eqb a a || false)) ≡ true
  last_there b = grind (arith, nat_tests)

start_keeps_at : (name : List ℕ) (a q : ℕ) (ps : List Procedure) (b : Bool) → begins_at ps q ≡ true → begins_at (cond b ps (ps ++ record { name = name; address = a } ∷ [])) q ≡ true
start_keeps_at name a q ps true h = h
start_keeps_at name a q ps false h = list_any-append (λ r. eqb r.address q) ps (record { name = name; address = a } ∷ []) ∙ ap (λ b. b || (eqb a q || false)) h

start_lacks_at : (name other : List ℕ) (a : ℕ) (ps : List Procedure) (b : Bool) → has_name ps other ≡ false → bytes_eq name other ≡ false → has_name (cond b ps (ps ++ record { name = name; address = a } ∷ [])) other ≡ false
start_lacks_at name other a ps true h e = h
start_lacks_at name other a ps false h e = list_any-append (λ r. bytes_eq r.name other) ps (record { name = name; address = a } ∷ []) ∙ with_last (has_name ps other) (bytes_eq name other) h e

-- ---- names ascend

below_cases : (r s : Ordering) → r ≡ ordering_reverse s → is_lt s ≡ false → is_eq r ≡ false → is_lt r ≡ true
below_cases Less s e l q = refl
below_cases Equal s e l q = absurd (true≢false q)
below_cases Greater Less e l q = absurd (true≢false l)
below_cases Greater Equal e l q = absurd (cc)
below_cases Greater Greater e l q = absurd (cc)

below : (p q : Procedure) → procedure_before q p ≡ false → bytes_eq p.name q.name ≡ false → procedure_before p q ≡ true
unfolding is_below
below p q l n = below_cases (slice_cmp nat_cmp p.name q.name) (slice_cmp nat_cmp q.name p.name) (nat_list_cmp_total.antisymm p.name q.name) l (is_eq-slice_cmp p.name q.name ∙ n)

precedes_all : (p : Procedure) (qs : List Procedure) → IsLow procedure_before procedure_order p qs → has_name qs p.name ≡ false → PrecedesAll p qs
precedes_all p [] l n = tt
precedes_all p (q ∷ qs) l n =
    let e = neither (bytes_eq q.name p.name) (has_name qs p.name) n in
    (below p q l.0 (other_text q.name p.name e.0), precedes_all p qs l.1 e.1)

ascend_of : (ps : List Procedure) → Rises procedure_before procedure_order ps → Differ ps → Ascend ps
ascend_of [] u d = tt
ascend_of (p ∷ ps) u d = (precedes_all p ps u.0 d.1, ascend_of ps u.1 d.2)

-- ---- the whole

pub procedures_law : (base count entry : ℕ) (t : SymbolTable) → AreElfProcedures base entry (procedures_of base count entry t)
unfolding procedures_of
procedures_law base count entry t =
    let found = fold with_candidate [] (candidates base count t) in
    let lack_text = lack_candidates text_start (λ name h. (usable_names name h).0) base count t in
    let lack_entry = lack_candidates entry_start (λ name h. (usable_names name h).1) base count t in
    let one = with_start text_start base found in
    let two = with_start entry_start entry one in
    let apart_one : Differ one = differ_start text_start base found lack_text (differ_fold [] (candidates base count t) tt) in
    let lack_one : has_name one entry_start ≡ false = start_lacks_at text_start entry_start base found (begins_at found base) lack_entry refl in
    let apart_two : Differ two = differ_start entry_start entry one lack_one apart_one in
    let apart_all : Differ (sorted procedure_before two) = differ_sorted procedure_before two apart_two in
    record {
      differ = apart_all;
      ascend = ascend_of (sorted procedure_before two) (rises_onto procedure_before procedure_order [] two tt) apart_all;
      at_base = any_sorted procedure_before (λ r. eqb r.address base) two ∙ start_keeps_at entry_start entry base one (begins_at one entry) (start_there_at text_start base found (begins_at found base) refl);
      at_entry = any_sorted procedure_before (λ r. eqb r.address entry) two ∙ start_there_at entry_start entry one (begins_at one entry) refl;
    }
