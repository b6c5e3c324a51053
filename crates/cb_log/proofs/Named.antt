-- Names, paths and addresses that a note has are of the forms that a trace asks for.
use Rattle.std.proofs.Common.{◌≡◌, ℕ, zero, suc, ◌+◌, ◌/◌, ◌%◌, ◌^◌, ◌<◌, Bool, true, false, List, [], ◌∷◌, length, map, refl, ap, subst, ◌∙◌, arith}
use Rattle.std.proofs.lemmas.Bool.{and_parts, eqb-true}
use Rattle.std.proofs.lemmas.Bool.Decides.{nat_tests}
use Rattle.std.specs.Prelude.{Some, option_map, unwrap_or, find, slice_get, nat_le, nat_lt, ◌&&◌, ◌||◌, ◌==◌, if◌then◌else◌}
use Rattle.std.specs.List.{AllByRecursion, list_any, list_all}
use Rattle.wedge_base.specs.Images.{Image, begins_at, procedure_name}
use Rattle.wedge_base.specs.Names.{same}
use Rattle.wedge_base.specs.Texts.{is_name}
use Rattle.wedge_base.specs.declared.image.FdEntry.{FdEntry}
use Rattle.wedge_base.specs.declared.image.FileEntry.{FileEntry}
use Rattle.wedge_base.specs.declared.image.Procedure.{Procedure}
use Rattle.wedge_base.specs.declared.image.TagEntry.{TagEntry}
use Rattle.image_form.specs.Forms.{is_entry_path}
use Rattle.image_form.specs.Rules.{IsImage, IsProcedure, IsTag, IsFd, IsFile}
use Rattle.report_text.specs.Reports.{hex_digit, address_text}
use Rattle.trace_form.specs.Forms.{is_file_path, is_hex_digit, is_address}
use Rattle.cb_log.specs.Texts.{tag_name, fd_name}

-- ---- names

procedure_named : (ps : List Procedure) (base count address : ℕ) → AllByRecursion (IsProcedure base count) ps → begins_at ps address ≡ true → is_name (unwrap_or (option_map (λ p. p.name) (find (λ p. p.address == address) ps)) []) ≡ true
procedure_named [] base count address all e = absurd cc
procedure_named (p ∷ ps) base count address all e = by_address (p.address == address) e (procedure_named ps base count address all.1)
  where
    by_address : (t : Bool) → (t || begins_at ps address) ≡ true → (begins_at ps address ≡ true → is_name (unwrap_or (option_map (λ q. q.name) (find (λ q. q.address == address) ps)) []) ≡ true)
        → is_name (unwrap_or (option_map (λ q. q.name) (if t then Some p else find (λ q. q.address == address) ps)) []) ≡ true
    by_address true h others = all.0.named
    by_address false h others = others h

pub name_of_procedure : (i : Image) (address : ℕ) → IsImage i → begins_at i.procedures address ≡ true → is_name (procedure_name i address) ≡ true
name_of_procedure i address valid e = procedure_named i.procedures i.base (length i.words) address valid.procedures.each e

tag_there : (ts : List TagEntry) (n : ℕ) → AllByRecursion IsTag ts → n < length ts → is_name (unwrap_or (option_map (λ t. t.name) (slice_get ts n)) []) ≡ true
tag_there [] n all lt = absurd (omega (arith, lt))
tag_there (t ∷ ts) zero all lt = all.0.named
tag_there (t ∷ ts) (suc n) all lt = tag_there ts n all.1 (omega (arith, lt))

pub name_of_tag : (i : Image) (tag : ℕ) → IsImage i → tag < length i.tags → is_name (tag_name i tag) ≡ true
name_of_tag i tag valid lt = tag_there i.tags tag valid.tags.each lt

fd_there : (fs : List FdEntry) (n : ℕ) → AllByRecursion IsFd fs → n < length fs → is_name (unwrap_or (option_map (λ f. f.name) (slice_get fs n)) []) ≡ true
fd_there [] n all lt = absurd (omega (arith, lt))
fd_there (f ∷ fs) zero all lt = all.0.named
fd_there (f ∷ fs) (suc n) all lt = fd_there fs n all.1 (omega (arith, lt))

pub name_of_fd : (i : Image) (fd : ℕ) → IsImage i → fd < length i.fds → is_name (fd_name i fd) ≡ true
name_of_fd i fd valid lt = fd_there i.fds fd valid.fds.each lt

-- ---- paths

same_is : (xs ys : List ℕ) → same xs ys ≡ true → xs ≡ ys
same_is [] [] e = refl
same_is [] (y ∷ ys) e = absurd cc
same_is (x ∷ xs) [] e = absurd cc
same_is (x ∷ xs) (y ∷ ys) e =
    let b = and_parts (x == y) (same xs ys) e in
    ap (λ z. z ∷ xs) (eqb-true x y b.0) ∙ ap (λ zs. y ∷ zs) (same_is xs ys b.1)

path_form : (text : List ℕ) → is_entry_path text ≡ true → is_file_path text ≡ true
unfolding is_entry_path is_file_path
path_form text e = e

path_there : (fs : List FileEntry) (path : List ℕ) → AllByRecursion IsFile fs → list_any (λ f. same f.path path) fs ≡ true → is_file_path path ≡ true
path_there [] path all e = absurd cc
path_there (f ∷ fs) path all e = by_path (same f.path path) refl e (path_there fs path all.1)
  where
    by_path : (t : Bool) → same f.path path ≡ t → (t || list_any (λ g. same g.path path) fs) ≡ true → (list_any (λ g. same g.path path) fs ≡ true → is_file_path path ≡ true) → is_file_path path ≡ true
    by_path true is h others = subst (λ q. is_file_path q ≡ true) (same_is f.path path is) (path_form f.path all.0.canonical)
    by_path false is h others = others h

pub path_of_file : (i : Image) (path : List ℕ) → IsImage i → list_any (λ f. same f.path path) i.files ≡ true → is_file_path path ≡ true
path_of_file i path valid e = path_there i.files path valid.files.each e

-- ---- addresses

digit_is : (d : ℕ) → d < 16 → is_hex_digit (hex_digit d) ≡ true
unfolding hex_digit
digit_is d lt = by_ten (nat_lt d 10) refl
  where
    low : (n : ℕ) → nat_lt n 10 ≡ true → ((nat_le 48 (48 + n) && nat_le (48 + n) 57) || (nat_le 97 (48 + n) && nat_le (48 + n) 102)) ≡ true
    low n e = grind (arith, nat_tests, e)

    high : (n : ℕ) → nat_lt n 10 ≡ false → n < 16 → ((nat_le 48 (87 + n) && nat_le (87 + n) 57) || (nat_le 97 (87 + n) && nat_le (87 + n) 102)) ≡ true
    high n e below = grind (arith, nat_tests, e, below)

    by_ten : (t : Bool) → nat_lt d 10 ≡ t → is_hex_digit (if t then 48 + d else 87 + d) ≡ true
    by_ten true e = low d e
    by_ten false e = high d e lt

below_16 : (n : ℕ) → n % 16 < 16
below_16 n = omega arith

digits_are : (n : ℕ) (places : List ℕ) → list_all is_hex_digit (map (λ place. hex_digit (n / 16 ^ place % 16)) places) ≡ true
digits_are n [] = refl
digits_are n (p ∷ ps) = ap (λ t. t && list_all is_hex_digit (map (λ place. hex_digit (n / 16 ^ place % 16)) ps)) (digit_is (n / 16 ^ p % 16) (below_16 (n / 16 ^ p))) ∙ digits_are n ps

pub address_is : (n : ℕ) → is_address (address_text n) ≡ true
unfolding is_address
address_is n = digits_are n (7 ∷ 6 ∷ 5 ∷ 4 ∷ 3 ∷ 2 ∷ 1 ∷ 0 ∷ [])
