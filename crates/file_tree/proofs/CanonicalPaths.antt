-- The text of a canonical root's parts, and then of those that a path adds to them, is canonical.
use Rattle.std.proofs.Common.{◌≡◌, ℕ, zero, suc, ◌-◌, ◌==◌, Bool, true, false, not, ◌&&◌, ◌||◌, List, [], ◌∷◌, ◌++◌, length, filter, take, if◌then◌else◌, refl, ap, sym, subst, ◌∙◌}
use Rattle.std.specs.Prelude.{nat_lt}
use Rattle.std.specs.List.{list_all, onto_first}
use Rattle.std.proofs.lemmas.Bool.{and_parts, and_from}
use Rattle.std.proofs.lemmas.List.Folds.{list_all-append}
use Rattle.wedge_base.specs.Names.{same}
use Rattle.wedge_base.specs.Texts.{is_printed}
use Rattle.wedge_base.specs.Paths.{pieces, parts_of, after_slashes, text_of, resolve_parts, is_path, is_part, is_canonical}
use Rattle.file_tree.proofs.Pieces.{AreParts, pieces-joined}
use Rattle.file_tree.proofs.Walks.{AreParts-resolved}

-- each part passes a test
abbrev Each : (List ℕ → Bool) → List (List ℕ) → Type 0
Each test [] = Unit {0}
Each test (p ∷ ps) = (test p ≡ true) × Each test ps

abbrev are_printed : List ℕ → Bool
are_printed p = list_all is_printed p

-- each part is one of a canonical path
abbrev AreCanonical : List (List ℕ) → Type 0
AreCanonical ps = Each is_part ps × Each are_printed ps

-- ---- tests of each part

Each-from_list_all : (test : List ℕ → Bool) (ps : List (List ℕ)) → list_all test ps ≡ true → Each test ps
Each-from_list_all test [] h = tt
Each-from_list_all test (p ∷ ps) h =
    let both = and_parts (test p) (list_all test ps) h in
    (both.0, Each-from_list_all test ps both.1)

list_all-from_Each : (test : List ℕ → Bool) (ps : List (List ℕ)) → Each test ps → list_all test ps ≡ true
list_all-from_Each test [] h = refl
list_all-from_Each test (p ∷ ps) h = and_from (test p) (list_all test ps) h.0 (list_all-from_Each test ps h.1)

Each-take : (test : List ℕ → Bool) (n : ℕ) (ps : List (List ℕ)) → Each test ps → Each test (take n ps)
Each-take test zero ps h = tt
Each-take test (suc n) [] h = tt
Each-take test (suc n) (p ∷ ps) h = (h.0, Each-take test n ps h.1)

Each-append : (test : List ℕ → Bool) (ps qs : List (List ℕ)) → Each test ps → Each test qs → Each test (ps ++ qs)
Each-append test [] qs h k = k
Each-append test (p ∷ ps) qs h k = (h.0, Each-append test ps qs h.1 k)

Each-if : (test : List ℕ → Bool) (p : List ℕ) (t : Bool) (ps : List (List ℕ)) → test p ≡ true → Each test ps → Each test (if t then p ∷ ps else ps)
Each-if test p true ps h k = (h, k)
Each-if test p false ps h k = k

Each-filter : (test keep : List ℕ → Bool) (ps : List (List ℕ)) → Each test ps → Each test (filter keep ps)
Each-filter test keep [] h = tt
Each-filter test keep (p ∷ ps) h = Each-if test p (keep p) (filter keep ps) h.0 (Each-filter test keep ps h.1)

-- ---- the walk

-- each piece that a walk keeps passes a test
abbrev EachKept : (List ℕ → Bool) → List (List ℕ) → Type 0
EachKept test [] = Unit {0}
EachKept test (p ∷ ps) = (same p [] ≡ false → same p (46 ∷ []) ≡ false → same p (46 ∷ 46 ∷ []) ≡ false → test p ≡ true) × EachKept test ps

-- what a piece makes of the parts kept, whatever it is compared with
Each-step : (test : List ℕ → Bool) (kept : List (List ℕ)) (p : List ℕ) (ps : List (List ℕ)) (empty here up : Bool) → (empty ≡ false → here ≡ false → up ≡ false → test p ≡ true) → Each test kept
    → ((others : List (List ℕ)) → Each test others → Each test (resolve_parts others ps))
    → Each test (if empty || here then resolve_parts kept ps else if up then resolve_parts (take (length kept - 1) kept) ps else resolve_parts (kept ++ p ∷ []) ps)
Each-step test kept p ps true here up passes h more = more kept h
Each-step test kept p ps false true up passes h more = more kept h
Each-step test kept p ps false false true passes h more = more (take (length kept - 1) kept) (Each-take test (length kept - 1) kept h)
Each-step test kept p ps false false false passes h more = more (kept ++ p ∷ []) (Each-append test kept (p ∷ []) h (passes refl refl refl, tt))

Each-walked : (test : List ℕ → Bool) (kept ps : List (List ℕ)) → Each test kept → EachKept test ps → Each test (resolve_parts kept ps)
Each-walked test kept [] h k = h
Each-walked test kept (p ∷ ps) h k =
    Each-step test kept p ps (same p []) (same p (46 ∷ [])) (same p (46 ∷ 46 ∷ [])) k.0 h (λ others o. Each-walked test others ps o k.1)

not-one : (a : Bool) → (a && true) ≡ false → not a ≡ true
not-one true h = absurd cc
not-one false h = refl

not-two : (a b : Bool) → (a && (b && true)) ≡ false → not (a && b) ≡ true
not-two true true h = absurd cc
not-two true false h = refl
not-two false b h = refl

-- what is neither empty nor `.` nor `..` is a part
is_part-kept : (p : List ℕ) → same p [] ≡ false → same p (46 ∷ []) ≡ false → same p (46 ∷ 46 ∷ []) ≡ false → is_part p ≡ true
is_part-kept [] e h u = absurd cc
is_part-kept (c ∷ []) e h u = not-one (c == 46) h
is_part-kept (c ∷ d ∷ []) e h u = not-two (c == 46) (d == 46) u
is_part-kept (c ∷ d ∷ f ∷ rest) e h u = refl

EachKept-is_part : (ps : List (List ℕ)) → EachKept is_part ps
EachKept-is_part [] = tt
EachKept-is_part (p ∷ ps) = (is_part-kept p, EachKept-is_part ps)

EachKept-from : (test : List ℕ → Bool) (ps : List (List ℕ)) → Each test ps → EachKept test ps
EachKept-from test [] h = tt
EachKept-from test (p ∷ ps) h = ((λ e k u. h.0), EachKept-from test ps h.1)

-- ---- the pieces of printed texts

printed-onto : (b : ℕ) (ps : List (List ℕ)) → is_printed b ≡ true → Each are_printed ps → Each are_printed (onto_first b ps)
printed-onto b [] h k = (and_from (is_printed b) true h refl, tt)
printed-onto b (p ∷ ps) h k = (and_from (is_printed b) (list_all is_printed p) h k.0, k.1)

printed-if : (b : ℕ) (t : Bool) (ps : List (List ℕ)) → is_printed b ≡ true → Each are_printed ps → Each are_printed (if t then [] ∷ ps else onto_first b ps)
printed-if b true ps h k = (refl, k)
printed-if b false ps h k = printed-onto b ps h k

printed-pieces : (bs : List ℕ) → list_all is_printed bs ≡ true → Each are_printed (pieces bs)
printed-pieces [] h = (refl, tt)
printed-pieces (b ∷ bs) h =
    let both = and_parts (is_printed b) (list_all is_printed bs) h in
    printed-if b (b == 47) (pieces bs) both.0 (printed-pieces bs both.1)

pieces-slash : (b : ℕ) (bs : List ℕ) → (b == 47) ≡ true → pieces (b ∷ bs) ≡ [] ∷ pieces bs
pieces-slash b bs h = rw h

-- the pieces of a path are printed
printed-path : (path : List ℕ) → is_path path ≡ true → Each are_printed (pieces path)
printed-path [] h = absurd cc
printed-path (b ∷ bs) h =
    let all = and_parts (b == 47 && nat_lt (length bs) 256) (list_all is_printed bs) h in
    let front = and_parts (b == 47) (nat_lt (length bs) 256) all.0 in
    subst (Each are_printed) (sym (pieces-slash b bs front.0)) (refl, printed-pieces bs all.1)

-- ---- canonical paths

abbrev is_filled : List ℕ → Bool
is_filled p = not (same p [])

parts_of-slash : (b : ℕ) (bs : List ℕ) → (b == 47) ≡ true → parts_of (b ∷ bs) ≡ parts_of bs
parts_of-slash b bs h = ap (λ ps. filter is_filled ps) (pieces-slash b bs h)

-- the parts of a canonical path
AreCanonical-parts_of : (root : List ℕ) → is_canonical root ≡ true → AreCanonical (parts_of root)
unfolding is_canonical
AreCanonical-parts_of [] h = absurd cc
AreCanonical-parts_of (b ∷ []) h = subst AreCanonical (sym (parts_of-slash b [] h)) (tt, tt)
AreCanonical-parts_of (b ∷ c ∷ cs) h =
    let all = and_parts (b == 47 && list_all is_printed (c ∷ cs)) (list_all is_part (pieces (c ∷ cs))) h in
    let front = and_parts (b == 47) (list_all is_printed (c ∷ cs)) all.0 in
    subst AreCanonical (sym (parts_of-slash b (c ∷ cs) front.0)) (
      Each-filter is_part is_filled (pieces (c ∷ cs)) (Each-from_list_all is_part (pieces (c ∷ cs)) all.1),
      Each-filter are_printed is_filled (pieces (c ∷ cs)) (printed-pieces (c ∷ cs) front.1),
    )

printed-after_slashes : (ps : List (List ℕ)) → Each are_printed ps → list_all is_printed (after_slashes ps) ≡ true
printed-after_slashes [] h = refl
printed-after_slashes (p ∷ ps) h =
    list_all-append is_printed p (after_slashes ps) ∙ and_from (list_all is_printed p) (list_all is_printed (after_slashes ps)) h.0 (printed-after_slashes ps h.1)

-- their text is canonical
is_canonical-text_of : (ps : List (List ℕ)) → AreParts ps → AreCanonical ps → is_canonical (text_of ps) ≡ true
unfolding is_canonical
is_canonical-text_of [] k h = refl
is_canonical-text_of ([] ∷ ps) k h = let e : true ≡ false = k.0.0 in absurd cc
is_canonical-text_of ((c ∷ cs) ∷ ps) k h =
    let text = (c ∷ cs) ++ after_slashes ps in
    let split : pieces text ≡ (c ∷ cs) ∷ ps = pieces-joined (c ∷ cs) ps k.0.1 k.1 in
    and_from (list_all is_printed text) (list_all is_part (pieces text))
    (printed-after_slashes ((c ∷ cs) ∷ ps) h.1)
    (ap (λ qs. list_all is_part qs) split ∙ list_all-from_Each is_part ((c ∷ cs) ∷ ps) h.0)

-- what is put after a canonical root is canonical
pub canonical_resolved : (root path : List ℕ) → is_canonical root ≡ true → is_path path ≡ true → is_canonical (text_of (parts_of root ++ resolve_parts [] (pieces path))) ≡ true
canonical_resolved root path h k =
    let is = AreCanonical-parts_of root h in
    let added = resolve_parts [] (pieces path) in
    is_canonical-text_of (parts_of root ++ added) (AreParts-resolved root path) (
      Each-append is_part (parts_of root) added is.0 (Each-walked is_part [] (pieces path) tt (EachKept-is_part (pieces path))),
      Each-append are_printed (parts_of root) added is.1 (Each-walked are_printed [] (pieces path) tt (EachKept-from are_printed (pieces path) (printed-path path k))),
    )
