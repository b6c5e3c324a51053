-- The forms of tags, descriptors and files, and of a whole image.
use Rattle.std.proofs.Common.{◌≡◌, inl, inr, ℕ, zero, suc, ◌+◌, ◌*◌, ◌^◌, ◌<◌, ◌≤◌, Bool, true, false, cond, eqb, leb, List, [], ◌∷◌, ◌++◌, length, map, Option, Some, None, Result, Ok, Err, refl, sym, ap, subst, ◌∙◌, append_assoc, arith}
use Rattle.std.specs.Prelude.{IfOk}
use Rattle.std.specs.List.{AllByRecursion}
use Rattle.std.proofs.lemmas.Bool.{eqb-true}
use Rattle.std.proofs.lemmas.Bool.Decides.{nat_tests}
use Rattle.std.proofs.lemmas.List.{append-nil, nil_from_length}
use Rattle.wedge_base.specs.Images.{Image, page, most_pages, begins_at}
use Rattle.wedge_base.specs.declared.image.Procedure.{Procedure}
use Rattle.wedge_base.specs.declared.image.TagEntry.{TagEntry}
use Rattle.wedge_base.specs.declared.image.FdEntry.{FdEntry}
use Rattle.wedge_base.specs.declared.image.FileEntry.{FileEntry}
use Rattle.wedge_base.specs.declared.rights.Right.{Right}
use Rattle.wedge_base.specs.declared.rights.Right.TheVariants as right
use Rattle.wedge_base.specs.declared.rights.FdBits.{FdBits}
use Rattle.wedge_base.specs.declared.rights.StreamKind.{StreamKind}
use Rattle.wedge_base.specs.declared.rights.StreamKind.TheVariants as kind
use Rattle.image_form.specs.declared.fault.Why.TheVariants.{Magic, Version, Range, Limit, Trailing}
use Rattle.image_form.specs.declared.fault.ImageError.{ImageError}
use Rattle.wedge_base.specs.Texts.{is_name}
use Rattle.image_form.specs.Forms.{is_entry_path, is_root, is_below, ascend}
use Rattle.image_form.specs.Encoding.{most_bytes, magic, version, encode_number, encode_table, right_code, encode_tag, kind_code, bits_code, encode_fd, encode_file, encoding}
use Rattle.image_form.specs.Rules.{most_fuel, most_tags, most_declared_fds, most_files, may_hold, IsText, IsProcedure, AreProcedures, AreRanges, IsTag, AreTags, IsFd, AreFds, IsFile, AreFiles, IsImage, Encodes}
use Rattle.image_form.specs.Reading.{◌>>=◌, Read, last_of, checked_at, table_at, right_from_code, right_at, is_page_count, tag_at, tags_at, kind_from_code, kind_at, bits_from_code, bits_at, fd_at, fds_at, file_entry_at, files_at, header_at, is_base, image_at, reading, place, IsImageAnswer}
use Rattle.image_form.proofs.Form.{IsBytes, bind_ok, demand_ok, ok_is, IsForm, seq, ended, reworded}
use Rattle.image_form.proofs.FieldForms.{number_form, checked_form, formed_form, key_form, content_form}
use Rattle.image_form.proofs.TableForms.{table_form, either, scan_there, scan_back, plain_there, plain_back}
use Rattle.image_form.proofs.Scans.{names_scan, base_there, base_back, leb_there, leb_back, name_short, path_short, root_short}
use Rattle.image_form.proofs.EntryForms.{words_form, procedures_form, ranges_form}

-- ---- codes

right_again : (n : ℕ) → n ≤ 3 → right_code (right_from_code n) ≡ n
right_again zero h = refl
right_again (suc zero) h = refl
right_again (suc (suc zero)) h = refl
right_again (suc (suc (suc n))) h = omega arith

right_small : (r : Option Right) → right_code r ≤ 3
right_small None = omega arith
right_small (Some right.Cow) = omega arith
right_small (Some right.Read) = omega arith
right_small (Some right.ReadWrite) = omega arith

right_back : (r : Option Right) → r ≡ right_from_code (right_code r)
right_back None = refl
right_back (Some right.Cow) = refl
right_back (Some right.Read) = refl
right_back (Some right.ReadWrite) = refl

kind_again : (n : ℕ) → n ≤ 1 → kind_code (kind_from_code n) ≡ n
kind_again zero h = refl
kind_again (suc n) h = omega arith

kind_small : (k : StreamKind) → kind_code k ≤ 1
kind_small kind.Source = omega arith
kind_small kind.Append = omega arith

kind_back : (k : StreamKind) → k ≡ kind_from_code (kind_code k)
kind_back kind.Source = refl
kind_back kind.Append = refl

bits_again : (n : ℕ) → n ≤ 3 → bits_code (bits_from_code n) ≡ n
bits_again zero h = refl
bits_again (suc zero) h = refl
bits_again (suc (suc zero)) h = refl
bits_again (suc (suc (suc zero))) h = refl
bits_again (suc (suc (suc (suc n)))) h = absurd (omega arith)

small_code : (r a : Bool) → cond r 1 0 + cond a 2 0 ≤ 3
small_code true true = omega arith
small_code true false = omega arith
small_code false true = omega arith
small_code false false = omega arith

bits_small : (b : FdBits) → bits_code b ≤ 3
bits_small b = small_code b.read b.append

code_back : (r a : Bool) → record { read = r; append = a } ≡ bits_from_code (cond r 1 0 + cond a 2 0)
code_back true true = refl
code_back true false = refl
code_back false true = refl
code_back false false = refl

bits_back : (b : FdBits) → b ≡ bits_from_code (bits_code b)
bits_back b = code_back b.read b.append

-- a code: one of a few numbers, each of which encodes a value
coded_form : {X : Type 0} (of : ℕ → X) (code : X → ℕ) (most total : ℕ) → most < 2 ^ 32 → ((n : ℕ) → n ≤ most → code (of n) ≡ n) → ((x : X) → code x ≤ most) → ((x : X) → x ≡ of (code x))
    → IsForm (λ bytes. checked_at (λ n. leb n most) Range total bytes >>= λ n rest. Ok (of n, rest)) (λ x. encode_number (code x)) (λ x. Unit {0})
coded_form of code most total few again small back =
    reworded (λ x. encode_number (code x)) (λ x. Unit {0})
    (seq _ _ _ code (checked_form (λ n. leb n most) Range total) (λ n good. ended (of n)) (λ n x good e. ap code e ∙ again n (leb_there n most good.0)))
    (λ x good. (append-nil (encode_number (code x)), tt))
    (λ x u. ((leb_back (code x) most (small x), omega (arith, small x, few)), back x))

pub right_form : (total : ℕ) → IsForm (right_at total) (λ r. encode_number (right_code r)) (λ r. Unit {0})
unfolding right_at
right_form total = coded_form right_from_code right_code 3 total (omega arith) right_again right_small right_back

pub kind_form : (total : ℕ) → IsForm (kind_at total) (λ k. encode_number (kind_code k)) (λ k. Unit {0})
unfolding kind_at
kind_form total = coded_form kind_from_code kind_code 1 total (omega arith) kind_again kind_small kind_back

pub bits_form : (total : ℕ) → IsForm (bits_at total) (λ b. encode_number (bits_code b)) (λ b. Unit {0})
unfolding bits_at
bits_form total = coded_form bits_from_code bits_code 3 total (omega arith) bits_again bits_small bits_back

-- ---- entries

page_count_there : (n : ℕ) → is_page_count n ≡ true → (1 ≤ n) × (n ≤ most_pages)
page_count_there n h = grind (arith, nat_tests)

page_count_back : (n : ℕ) → 1 ≤ n → n ≤ most_pages → is_page_count n ≡ true
page_count_back n a b = grind (arith, nat_tests)

-- the name or path of an entry is above that of the one before it
abbrev IsAfter : {X : Type 0} → (X → List ℕ) → List X → X → Type 0
IsAfter key front x = is_below (last_of key [] front) (key x) ≡ true

tag_form : (total : ℕ) (front : List TagEntry) → IsForm (tag_at total front) encode_tag (λ t. IsAfter (λ x. x.name) front t × IsTag t)
unfolding tag_at
tag_form total front =
    reworded encode_tag (λ t. IsAfter (λ x. x.name) front t × IsTag t)
    (seq _ _ _ (λ t. t.name) (key_form is_name (last_of (λ x. x.name) [] front) total)
    (λ name g. seq _ _ _ (λ t. t.pages) (checked_form is_page_count Range total)
    (λ pages h. seq _ _ _ (λ t. t.right) (right_form total)
    (λ right u. seq _ _ _ (λ t. t.content) (content_form (λ n. leb n (pages * page)) total)
    (λ content k. ended (record { name = name; pages = pages; right = right; content = content }))
    (λ content t k e. ap (λ x. x.content) e))
    (λ right t u e. ap (λ x. x.right) e.1))
    (λ pages t h e. ap (λ x. x.pages) e.1.1))
    (λ name t g e. ap (λ x. x.name) e.1.1.1))
    (λ t good.
    let pages = page_count_there t.pages good.1.0.0 in
    (refl, (good.0.0, record { named = good.0.1.0; some_page = pages.0; not_too_many_pages = pages.1; content_fits = leb_there _ _ good.1.1.1.0.0 })))
    (λ t rule.
    let is = rule.1 in (
      (rule.0, (is.named, omega (arith, name_short t.name is.named))),
      (
        (page_count_back t.pages is.some_page is.not_too_many_pages, omega (arith, is.not_too_many_pages)),
        (tt, ((leb_back _ _ is.content_fits, omega (arith, is.content_fits, is.not_too_many_pages)), refl)),
      ),
    ))

fd_form : (total : ℕ) (front : List FdEntry) → IsForm (fd_at total front) encode_fd (λ f. IsAfter (λ x. x.name) front f × IsFd f)
unfolding fd_at
fd_form total front =
    reworded encode_fd (λ f. IsAfter (λ x. x.name) front f × IsFd f)
    (seq _ _ _ (λ f. f.name) (key_form is_name (last_of (λ x. x.name) [] front) total)
    (λ name g. seq _ _ _ (λ f. f.kind) (kind_form total)
    (λ kind h. seq _ _ _ (λ f. f.bits) (bits_form total)
    (λ bits u. seq _ _ _ (λ f. f.content) (content_form (may_hold kind) total)
    (λ content k. ended (record { name = name; kind = kind; bits = bits; content = content }))
    (λ content f k e. ap (λ x. x.content) e))
    (λ bits f u e. ap (λ x. x.bits) e.1))
    (λ kind f h e. ap (λ x. x.kind) e.1.1))
    (λ name f g e. ap (λ x. x.name) e.1.1.1))
    (λ f good. (refl, (good.0.0, record { named = good.0.1.0; content_suits = good.1.1.1.0.0; length_fits = good.1.1.1.0.1 })))
    (λ f rule.
    let is = rule.1 in
    ((rule.0, (is.named, omega (arith, name_short f.name is.named))), (tt, (tt, ((is.content_suits, is.length_fits), refl)))))

file_form : (total : ℕ) (front : List FileEntry) → IsForm (file_entry_at total front) encode_file (λ f. IsAfter (λ x. x.path) front f × IsFile f)
unfolding file_entry_at
file_form total front =
    reworded encode_file (λ f. IsAfter (λ x. x.path) front f × IsFile f)
    (seq _ _ _ (λ f. f.path) (key_form is_entry_path (last_of (λ x. x.path) [] front) total)
    (λ path g. seq _ _ _ (λ f. f.owner) (number_form total)
    (λ owner s. seq _ _ _ (λ f. f.mode) (checked_form (λ n. leb n 15) Range total)
    (λ mode m. seq _ _ _ (λ f. f.kind) (kind_form total)
    (λ kind h. seq _ _ _ (λ f. f.content) (content_form (may_hold kind) total)
    (λ content k. ended (record { path = path; owner = owner; mode = mode; kind = kind; content = content }))
    (λ content f k e. ap (λ x. x.content) e))
    (λ kind f h e. ap (λ x. x.kind) e.1))
    (λ mode f m e. ap (λ x. x.mode) e.1.1))
    (λ owner f s e. ap (λ x. x.owner) e.1.1.1))
    (λ path f g e. ap (λ x. x.path) e.1.1.1.1))
    (λ f good.
    let mode : f.mode < 16 = omega (arith, leb_there f.mode 15 good.1.1.0.0) in
    (refl, (good.0.0, record { canonical = good.0.1.0; owner_fits = good.1.0; mode_fits = mode; content_suits = good.1.1.1.1.0.0; length_fits = good.1.1.1.1.0.1 })))
    (λ f rule.
    let is = rule.1 in (
      (rule.0, (is.canonical, omega (arith, path_short f.path is.canonical))),
      (is.owner_fits, ((leb_back f.mode 15 (omega (arith, is.mode_fits)), omega (arith, is.mode_fits)), (tt, ((is.content_suits, is.length_fits), refl)))),
    ))

-- ---- tables

-- entries in the order of their texts
keyed_form : {X : Type 0} (key : X → List ℕ) (entry : List X → List ℕ → Read X) (encode : X → List ℕ) (Rule : X → Type 0) (most total : ℕ) → most < 2 ^ 32
    → ((front : List X) → IsForm (entry front) encode (λ x. IsAfter key front x × Rule x))
    → IsForm (table_at most entry total) (encode_table encode) (λ xs. (length xs ≤ most) × (AllByRecursion Rule xs × (ascend (map key xs) ≡ true)))
keyed_form key entry encode Rule most total few form =
    reworded (encode_table encode) (λ xs. (length xs ≤ most) × (AllByRecursion Rule xs × (ascend (map key xs) ≡ true)))
    (table_form entry encode (λ front x. IsAfter key front x × Rule x) form most total few)
    (λ xs good.
    let a = scan_there (names_scan key) (λ f x. Rule x) [] xs good.1 in
    (refl, (good.0, (plain_there Rule [] xs a.1, a.0))))
    (λ xs rule. (rule.0, scan_back (names_scan key) (λ f x. Rule x) [] xs rule.1.1 (plain_back Rule [] xs rule.1.0)))

tags_form : (total : ℕ) → IsForm (tags_at total) (encode_table encode_tag) AreTags
unfolding tags_at
tags_form total =
    reworded (encode_table encode_tag) AreTags (keyed_form (λ (t : TagEntry). t.name) (tag_at total) encode_tag IsTag most_tags total (omega arith) (tag_form total))
    (λ ts g. (refl, record { not_too_many = g.0; each = g.1.0; names_ascend = g.1.1 }))
    (λ ts r. (r.not_too_many, (r.each, r.names_ascend)))

fds_form : (total : ℕ) → IsForm (fds_at total) (encode_table encode_fd) AreFds
unfolding fds_at
fds_form total =
    reworded (encode_table encode_fd) AreFds (keyed_form (λ (f : FdEntry). f.name) (fd_at total) encode_fd IsFd most_declared_fds total (omega arith) (fd_form total))
    (λ fs g. (refl, record { not_too_many = g.0; each = g.1.0; names_ascend = g.1.1 }))
    (λ fs r. (r.not_too_many, (r.each, r.names_ascend)))

files_form : (total : ℕ) → IsForm (files_at total) (encode_table encode_file) AreFiles
unfolding files_at
files_form total =
    reworded (encode_table encode_file) AreFiles (keyed_form (λ (f : FileEntry). f.path) (file_entry_at total) encode_file IsFile most_files total (omega arith) (file_form total))
    (λ fs g. (refl, record { not_too_many = g.0; each = g.1.0; paths_ascend = g.1.1 }))
    (λ fs r. (r.not_too_many, (r.each, r.paths_ascend)))

-- ---- the whole

abbrev header : ℕ → List ℕ
header fuel = encode_number magic ++ (encode_number version ++ encode_number fuel)

header_form : (total : ℕ) → IsForm (header_at total) header (λ fuel. fuel ≤ most_fuel)
unfolding header_at
header_form total =
    reworded header (λ fuel. fuel ≤ most_fuel)
    (seq _ _ _ (λ _. magic) (checked_form (λ n. eqb n magic) Magic total)
    (λ m g. seq _ _ _ (λ _. version) (checked_form (λ n. eqb n version) Version total)
    (λ v h. checked_form (λ n. leb n most_fuel) Limit total)
    (λ v fuel h k. sym (eqb-true v version h.0)))
    (λ m fuel g h. sym (eqb-true m magic g.0)))
    (λ fuel good. (refl, leb_there fuel most_fuel good.1.1.0))
    (λ fuel small. ((refl, omega arith), ((refl, omega arith), (leb_back fuel most_fuel small, omega (arith, small)))))

pub entry_small : (base count : ℕ) (ps : List Procedure) (n : ℕ) → AllByRecursion (IsProcedure base count) ps → begins_at ps n ≡ true → n < base + 4 * count
entry_small base count [] n each h = absurd cc
entry_small base count (p ∷ ps) n each h =
    elim (either (eqb p.address n) (begins_at ps n) h) [
      | inl here ↦ omega (arith, eqb-true p.address n here, each.0.below)
      | inr later ↦ entry_small base count ps n each.1 later
    ]

-- all rules but the one on the length of the encoding
pub record MeetsRules (i : Image) : Type 0 where
  pub fuel_small : i.fuel ≤ most_fuel
  pub text : IsText i.base i.words
  pub procedures : AreProcedures i.base (length i.words) i.procedures
  pub entry_is_procedure : begins_at i.procedures i.entry ≡ true
  pub ranges : AreRanges i.base (length i.words) i.ranges
  pub tags : AreTags i.tags
  pub fds : AreFds i.fds
  pub files : AreFiles i.files
  pub user_fits : i.user < 2 ^ 32
  pub root_canonical : is_root i.root ≡ true

after_header : (fuel : ℕ) (rest : List ℕ) → header fuel ++ rest ≡ encode_number magic ++ (encode_number version ++ (encode_number fuel ++ rest))
after_header fuel rest = append_assoc (encode_number magic) (encode_number version ++ encode_number fuel) rest ∙ ap (λ x. encode_number magic ++ x) (append_assoc (encode_number version) (encode_number fuel) rest)

pub image_form : (total : ℕ) → IsForm (image_at total) encoding MeetsRules
unfolding image_at encoding
image_form total =
    reworded encoding MeetsRules
    (seq _ _ _ (λ i. i.fuel) (header_form total) (λ fuel g0.
    seq _ _ _ (λ i. i.base) (checked_form is_base Range total) (λ base g1.
    seq _ _ _ (λ i. i.words) (words_form base total) (λ words g2.
    seq _ _ _ (λ i. i.procedures) (procedures_form base (length words) total g2.inside) (λ procedures g3.
    seq _ _ _ (λ i. i.entry) (checked_form (begins_at procedures) Range total) (λ entry g4.
    seq _ _ _ (λ i. i.ranges) (ranges_form base (length words) total) (λ ranges g5.
    seq _ _ _ (λ i. i.tags) (tags_form total) (λ tags g6.
    seq _ _ _ (λ i. i.fds) (fds_form total) (λ fds g7.
    seq _ _ _ (λ i. i.files) (files_form total) (λ files g8.
    seq _ _ _ (λ i. i.user) (number_form total) (λ user g9.
    seq _ _ _ (λ i. i.root) (formed_form is_root total) (λ root g10.
    ended (record { fuel = fuel; base = base; words = words; procedures = procedures; entry = entry; ranges = ranges; tags = tags; fds = fds; files = files; user = user; root = root }))
    (λ root i g e. ap (λ x. x.root) e))
    (λ user i g e. ap (λ x. x.user) e.1))
    (λ files i g e. ap (λ x. x.files) e.1.1))
    (λ fds i g e. ap (λ x. x.fds) e.1.1.1))
    (λ tags i g e. ap (λ x. x.tags) e.1.1.1.1))
    (λ ranges i g e. ap (λ x. x.ranges) e.1.1.1.1.1))
    (λ entry i g e. ap (λ x. x.entry) e.1.1.1.1.1.1))
    (λ procedures i g e. ap (λ x. x.procedures) e.1.1.1.1.1.1.1))
    (λ words i g e. ap (λ x. x.words) e.1.1.1.1.1.1.1.1))
    (λ base i g e. ap (λ x. x.base) e.1.1.1.1.1.1.1.1.1))
    (λ fuel i g e. ap (λ x. x.fuel) e.1.1.1.1.1.1.1.1.1.1))
    (λ i good.
    let base = base_there i.base good.1.0.0 in
    let words = good.1.1.0 in (
      after_header i.fuel _,
      record {
        fuel_small = good.0;
        text = record { base_aligned = base.0; base_low = base.1; base_high = base.2; some_word = words.some; end_high = words.inside; words_fit = words.fit };
        procedures = good.1.1.1.0;
        entry_is_procedure = good.1.1.1.1.0.0;
        ranges = good.1.1.1.1.1.0;
        tags = good.1.1.1.1.1.1.0;
        fds = good.1.1.1.1.1.1.1.0;
        files = good.1.1.1.1.1.1.1.1.0;
        user_fits = good.1.1.1.1.1.1.1.1.1.0;
        root_canonical = good.1.1.1.1.1.1.1.1.1.1.0.0;
      },
    ))
    (λ i rule.
    let text = rule.text in
    let entry = entry_small i.base (length i.words) i.procedures i.entry rule.procedures.each rule.entry_is_procedure in (
      rule.fuel_small,
      (
        (base_back i.base text.base_aligned text.base_low text.base_high, omega (arith, text.base_high)),
        (
          record { some = text.some_word; inside = text.end_high; fit = text.words_fit },
          (
            rule.procedures,
            (
              (rule.entry_is_procedure, omega (arith, entry, text.end_high)),
              (rule.ranges, (rule.tags, (rule.fds, (rule.files, (rule.user_fits, ((rule.root_canonical, omega (arith, root_short i.root rule.root_canonical)), refl)))))),
            ),
          ),
        ),
      ),
    ))

-- ---- all of the bytes

trailing_none : (rest : List ℕ) → eqb (length rest) 0 ≡ true → rest ≡ []
trailing_none rest h = nil_from_length rest (eqb-true _ _ h)

pub is_image : (i : Image) → MeetsRules i → length (encoding i) ≤ most_bytes → IsImage i
is_image i rule small = record {
  fuel_small = rule.fuel_small;
  text = rule.text;
  procedures = rule.procedures;
  entry_is_procedure = rule.entry_is_procedure;
  ranges = rule.ranges;
  tags = rule.tags;
  fds = rule.fds;
  files = rule.files;
  user_fits = rule.user_fits;
  root_canonical = rule.root_canonical;
  small = small;
}

meets : (i : Image) → IsImage i → MeetsRules i
meets i is = record {
  fuel_small = is.fuel_small;
  text = is.text;
  procedures = is.procedures;
  entry_is_procedure = is.entry_is_procedure;
  ranges = is.ranges;
  tags = is.tags;
  fds = is.fds;
  files = is.files;
  user_fits = is.user_fits;
  root_canonical = is.root_canonical;
}

-- what is read is an image, and the bytes are its encoding
pub is_found : (bytes : List ℕ) (i : Image) → IsBytes bytes → reading bytes ≡ Ok i → Encodes i bytes
unfolding reading
is_found bytes i fits e =
    let a = demand_ok (leb (length bytes) most_bytes) most_bytes Limit _ i e in
    let b = bind_ok (image_at (length bytes) bytes) _ i a.1 in
    let g = demand_ok (eqb (length b.0.1) 0) (place (length bytes) b.0.1) Trailing (Ok b.0.0) i b.2 in
    let t = (image_form (length bytes)).takes bytes b.0.0 b.0.1 fits b.1 in
    let none : b.0.1 ≡ [] = trailing_none b.0.1 g.0 in
    let same : b.0.0 ≡ i = ok_is b.0.0 i g.1 in
    let encoded : bytes ≡ encoding b.0.0 = t.0.parts ∙ ap (λ r. encoding b.0.0 ++ r) none ∙ append-nil (encoding b.0.0) in
    let small : length bytes ≤ most_bytes = leb_there _ _ a.0 in
    subst (λ j. Encodes j bytes) same (record { valid = is_image b.0.0 t.1 (omega (arith, small, ap length encoded)); encoded = encoded })

-- the encoding of an image is read as that image
pub is_read : (i : Image) → IsImage i → reading (encoding i) ≡ Ok i
unfolding reading
is_read i is =
    let total = length (encoding i) in
    let whole : image_at total (encoding i) ≡ Ok (i, []) = ap (image_at total) (sym (append-nil (encoding i))) ∙ (image_form total).again i [] (meets i is) in
    rw (leb_back total most_bytes is.small, whole) refl

pub is_given : {X : Type 0} (view : X → Image) (bytes : List ℕ) (r : Result X ImageError) → IsBytes bytes → IsImageAnswer view r (reading bytes) → IfOk r (λ x. Encodes (view x) bytes)
is_given view bytes (Ok x) fits given = is_found bytes (view x) fits given
is_given view bytes (Err e) fits given = tt

pub is_only : {X : Type 0} (view : X → Image) (bytes : List ℕ) (r : Result X ImageError) → IsImageAnswer view r (reading bytes) → (i : Image) → Encodes i bytes → IsImageAnswer view r (Ok i)
is_only view bytes r given i encodes = subst (λ read. IsImageAnswer view r read) (ap reading encodes.encoded ∙ is_read i encodes.valid) given
