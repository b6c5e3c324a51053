-- In every run each draft of an actor has at most 1,024 grants, so a child has at most as many copies.
use Rattle.std.proofs.Common.{◌≡◌, ℕ, zero, suc, ◌+◌, ◌≤◌, Bool, true, false, not, List, [], ◌∷◌, ◌++◌, length, refl, sym, ap, subst, ◌∙◌, arith, ◌<◌}
use Rattle.std.proofs.lemmas.Bool.Decides.{nat_tests}
use Rattle.std.proofs.lemmas.List.{length-map}
use Rattle.std.proofs.Math.Dec.{T}
use Rattle.std.specs.List.{AllByRecursion, list_any}
use Rattle.std.specs.Ordering.{nat_cmp, is_eq}
use Rattle.std.specs.declared.cmp.Ordering.{Ordering}
use Rattle.std.specs.declared.cmp.Ordering.TheVariants.{Less, Equal, Greater}
use Rattle.std.specs.Cmp.{nat_cmp_total}
use Rattle.std.specs.FinMap.Entries.{by_order, is_sorted, is_sorted-put, length-put}
use Rattle.std.specs.Prelude.{Option, Some, None, ◌==◌, ◌||◌, slice_get, slice_set, unwrap_or, if◌then◌else◌}
use Rattle.wedge_base.specs.Images.{Image, fetch}
use Rattle.wedge_base.specs.Maps.{Map, has, with, with_number, is_among, AreRising}
use Rattle.wedge_base.specs.Sheets.{Draft, is_copy, empty_draft, grant_count, sheet_of_draft, tag_granted, most_grants, is_full, takes_tag, takes_fd, takes_gate, with_tag, with_fd, with_gate}
use Rattle.grant_sheet.proofs.Editing.{rising_with}
use Rattle.wedge_events.specs.declared.events.Event.{Event}
use Rattle.wedge_base.specs.declared.rights.FdBits.{FdBits}
use Rattle.wedge_base.specs.declared.rights.Grant.{Grant}
use Rattle.wedge_base.specs.declared.rights.Right.{Right}
use Rattle.rv_isa.specs.declared.Instr.{Instr}
use Rattle.rv_isa.specs.Table.{decode}
use Rattle.rv_hart.specs.declared.Need.{Need}
use Rattle.rv_hart.specs.declared.Need.TheVariants as need
use Rattle.rv_hart.specs.Local.{local, reg}
use Rattle.machine.specs.declared.copy_grant.CopyGrant.{CopyGrant}
use Rattle.machine.specs.Actors.{ActorState}
use Rattle.machine.specs.Calls.{a0, draft_at}
use Rattle.machine.specs.CopyGrant.{copy_grants}
use Rattle.run_laws.specs.Drafting.{edited, with_new, right_of_number, bits_of_number, drafts_by_call, drafts_by_need, drafts_by_instr, drafts_by_fuel, drafts_by_word}
use Rattle.machine.specs.Local.{is_running, step, run_local, rest}
use Rattle.run_laws.specs.Refusals.{bad, full, new_refusal, right_refusal, bits_refusal, gate_refusal, user_refusal, root_refusal}
use Rattle.run_laws.specs.Requests.{path_at}
use Rattle.machine.specs.Take.{copies_asked, takes}
use Rattle.run_laws.proofs.DraftEdits.{step_edits, event_edits}
use Rattle.machine.proofs.Resting.{stays, goes_on}

-- a draft with at most 1,024 grants, whose items are in order
pub record IsFew (d : Draft) : Type 0 where
  pub few : grant_count d ≤ most_grants
  pub tags : T (is_sorted nat_cmp d.tags)
  pub fds : T (is_sorted nat_cmp d.fds)
  pub gates : AreRising 0 d.gates

abbrev pub AreFew : List Draft → Type 0
AreFew ds = AllByRecursion IsFew ds

empty_few : IsFew empty_draft
empty_few = record { few = omega arith; tags = tt; fds = tt; gates = tt }

-- ---- one grant more

room : (d : Draft) (t : Bool) (n old : ℕ) → (t || not (is_full d)) ≡ true → grant_count d ≤ most_grants → n ≡ (if t then old else old + 1) → old ≤ grant_count d → grant_count d + n ≤ most_grants + old
room d true n old taken few more inside = omega (arith, few, more)
room d false n old taken few more inside = grind (arith, nat_tests, taken, more)

tag_few : (d : Draft) (tag : ℕ) (r : Right) → takes_tag d tag ≡ true → IsFew d → IsFew (with_tag d tag r)
tag_few d tag r taken f =
    let inside : length d.tags ≤ grant_count d = omega arith in
    let all = room d (has d.tags tag) (length (with d.tags tag r)) (length d.tags) taken f.few (length-put nat_cmp nat_cmp_total tag r d.tags f.tags) inside in
    record { few = omega (arith, all); tags = is_sorted-put nat_cmp nat_cmp_total tag r d.tags f.tags; fds = f.fds; gates = f.gates }

fd_few : (d : Draft) (fd : ℕ) (b : FdBits) → takes_fd d fd ≡ true → IsFew d → IsFew (with_fd d fd b)
fd_few d fd b taken f =
    let inside : length d.fds ≤ grant_count d = omega arith in
    let all = room d (has d.fds fd) (length (with d.fds fd b)) (length d.fds) taken f.few (length-put nat_cmp nat_cmp_total fd b d.fds f.fds) inside in
    record { few = omega (arith, all); tags = f.tags; fds = is_sorted-put nat_cmp nat_cmp_total fd b d.fds f.fds; gates = f.gates }

-- an entry more: entries rise strictly, so that each is there once
above_all : (low k : ℕ) (ns : List ℕ) → AreRising low ns → k < low → is_among ns k ≡ false
above_all low k [] rising below = refl
above_all low k (n ∷ ns) rising below = by_ordering (nat_cmp k n) refl (above_all (n + 1) k ns rising.1 (omega (arith, rising.0, below)))
  where
    by_ordering : (o : Ordering) → nat_cmp k n ≡ o → is_among ns k ≡ false → (is_eq o || is_among ns k) ≡ false
    by_ordering Less e others = others
    by_ordering Equal e others = let same : k ≡ n = grind (arith, e) in absurd (omega (arith, same, rising.0, below))
    by_ordering Greater e others = others

entries_counted : (low k : ℕ) (ns : List ℕ) → AreRising low ns → length (with_number ns k) ≡ (if is_among ns k then length ns else suc (length ns))
entries_counted low k [] rising = refl
entries_counted low k (n ∷ ns) rising = by_ordering (nat_cmp k n) refl (is_among ns k) refl (entries_counted (n + 1) k ns rising.1)
  where
    by_ordering : (o : Ordering) → nat_cmp k n ≡ o → (t : Bool) → is_among ns k ≡ t → length (with_number ns k) ≡ (if is_among ns k then length ns else suc (length ns))
        → length (by_order o (k ∷ n ∷ ns) (n ∷ ns) (n ∷ with_number ns k)) ≡ (if is_eq o || is_among ns k then suc (length ns) else suc (suc (length ns)))
    by_ordering Less e t is later =
        let below : k < n + 1 = grind (arith, e) in
        ap (λ u. if u then suc (length ns) else suc (suc (length ns))) (sym (above_all (n + 1) k ns rising.1 below))
    by_ordering Equal e t is later = refl
    by_ordering Greater e true is later = rw is (ap suc (later ∙ ap (λ u. if u then length ns else suc (length ns)) is))
    by_ordering Greater e false is later = rw is (ap suc (later ∙ ap (λ u. if u then length ns else suc (length ns)) is))

one_more : (n : ℕ) → suc n ≡ n + 1
one_more n = omega arith

gate_few : (d : Draft) (entry : ℕ) → takes_gate d entry ≡ true → IsFew d → IsFew (with_gate d entry)
gate_few d entry taken f =
    let inside : length d.gates ≤ grant_count d = omega arith in
    let all = room d (is_among d.gates entry) (length (with_number d.gates entry)) (length d.gates) taken f.few (entries_counted 0 entry d.gates f.gates ∙ ap (λ n. if is_among d.gates entry then length d.gates else n) (one_more (length d.gates))) inside in
    record { few = omega (arith, all); tags = f.tags; fds = f.fds; gates = rising_with 0 entry d.gates (omega arith) f.gates }

-- ---- the calls on drafts

new_few : (ds : List Draft) → AreFew ds → AreFew (ds ++ empty_draft ∷ [])
new_few [] all = (empty_few, tt)
new_few (d ∷ ds) all = (all.0, new_few ds all.1)

with_new_few : (ds : List Draft) (o : Option ℕ) → AreFew ds → AreFew (with_new ds o)
with_new_few ds None all = new_few ds all
with_new_few ds (Some code) all = all

set_few : (ds : List Draft) (k : ℕ) (d : Draft) → IsFew d → AreFew ds → AreFew (slice_set ds k d)
set_few [] k d few all = all
set_few (x ∷ xs) zero d few all = (few, all.1)
set_few (x ∷ xs) (suc k) d few all = (all.0, set_few xs k d few all.1)

pub get_few : (ds : List Draft) (k : ℕ) (d : Draft) → AreFew ds → slice_get ds k ≡ Some d → IsFew d
get_few [] k d all e = absurd cc
get_few (x ∷ xs) zero d all e = let is : x ≡ d = cc in subst IsFew is all.0
get_few (x ∷ xs) (suc k) d all e = get_few xs k d all.1 e

edited_few : (ds : List Draft) (k : ℕ) (o : Option ℕ) (edit : Draft → Draft) (found : Option Draft) → ((d : Draft) → found ≡ Some d → o ≡ None → IsFew (edit d)) → AreFew ds → AreFew (edited ds k o edit found)
edited_few ds k (Some code) edit found h all = all
edited_few ds k None edit None h all = all
edited_few ds k None edit (Some d) h all = set_few ds k (edit d) (h d refl refl) all

-- what a call on a draft is refused with, by its number and by room
abbrev refused_by : Bool → Bool → Option ℕ
refused_by t u = if not t then Some bad else if u then None else Some full

right_allowed : (tag n : ℕ) (d : Draft) → right_refusal tag n (Some d) ≡ None → takes_tag d tag ≡ true
right_allowed tag n d e = by_tests ((n == 1) || ((n == 2) || (n == 3))) (takes_tag d tag) e
  where
    by_tests : (t u : Bool) → refused_by t u ≡ None → u ≡ true
    by_tests false u f = absurd cc
    by_tests true true f = refl
    by_tests true false f = absurd cc

bits_allowed : (fd n : ℕ) (d : Draft) → bits_refusal fd n (Some d) ≡ None → takes_fd d fd ≡ true
bits_allowed fd n d e = by_tests ((n == 1) || ((n == 2) || (n == 3))) (takes_fd d fd) e
  where
    by_tests : (t u : Bool) → refused_by t u ≡ None → u ≡ true
    by_tests false u f = absurd cc
    by_tests true true f = refl
    by_tests true false f = absurd cc

gate_allowed : (i : Image) (entry : ℕ) (d : Draft) → gate_refusal i entry (Some d) ≡ None → takes_gate d entry ≡ true
gate_allowed i entry d e = by_tests (list_any (λ p. p.address == entry) i.procedures) (takes_gate d entry) e
  where
    by_tests : (t u : Bool) → refused_by t u ≡ None → u ≡ true
    by_tests false u f = absurd cc
    by_tests true true f = refl
    by_tests true false f = absurd cc

few_if : (t : Bool) (x y : List Draft) → AreFew x → AreFew y → AreFew (if t then x else y)
few_if true x y h k = h
few_if false x y h k = k

-- another user or another root directory is no grant
user_few : (d : Draft) (user : Option ℕ) → IsFew d → IsFew (record d { user = user })
user_few d user f = record { few = f.few; tags = f.tags; fds = f.fds; gates = f.gates }

root_few : (d : Draft) (root : Option (List ℕ)) → IsFew d → IsFew (record d { root = root })
root_few d root f = record { few = f.few; tags = f.tags; fds = f.fds; gates = f.gates }

call_few : (i : Image) (a : ActorState) (regs : List ℕ) (n : ℕ) → AreFew a.drafts → AreFew (drafts_by_call i a regs n)
call_few i a regs n all =
    let ds = a.drafts in
    let found = slice_get a.drafts (reg regs 10) in
    few_if (n == 7) _ _ (with_new_few ds (new_refusal ds) all)
    (few_if (n == 8) _ _ (edited_few ds (reg regs 10) (right_refusal (reg regs 11) (reg regs 12) found) _ found
    (λ d there told. tag_few d (reg regs 11) (right_of_number (reg regs 12)) (right_allowed (reg regs 11) (reg regs 12) d (ap (right_refusal (reg regs 11) (reg regs 12)) (sym there) ∙ told)) (get_few ds (reg regs 10) d all there)) all)
    (few_if (n == 9) _ _ (edited_few ds (reg regs 10) (bits_refusal (reg regs 11) (reg regs 12) found) _ found
    (λ d there told. fd_few d (reg regs 11) (bits_of_number (reg regs 12)) (bits_allowed (reg regs 11) (reg regs 12) d (ap (bits_refusal (reg regs 11) (reg regs 12)) (sym there) ∙ told)) (get_few ds (reg regs 10) d all there)) all)
    (few_if (n == 10) _ _ (edited_few ds (reg regs 10) (gate_refusal i (reg regs 11) found) _ found
    (λ d there told. gate_few d (reg regs 11) (gate_allowed i (reg regs 11) d (ap (gate_refusal i (reg regs 11)) (sym there) ∙ told)) (get_few ds (reg regs 10) d all there)) all)
    (few_if (n == 11) _ _ (edited_few ds (reg regs 10) (user_refusal found) _ found (λ d there told. user_few d (Some (reg regs 11)) (get_few ds (reg regs 10) d all there)) all)
    (few_if (n == 12) _ ds (edited_few ds (reg regs 10) (root_refusal a (reg regs 12) (path_at i a (reg regs 11) (reg regs 12)) found) _ found
    (λ d there told. root_few d (path_at i a (reg regs 11) (reg regs 12)) (get_few ds (reg regs 10) d all there)) all) all)))))

need_few : (i : Image) (a : ActorState) (n : Need) → AreFew a.drafts → AreFew (drafts_by_need i a n)
need_few i a need.Call all = call_few i a a.hart.regs (reg a.hart.regs 17) all
need_few i a need.Done all = all
need_few i a (need.Load address width s) all = all
need_few i a (need.Store address width value) all = all
need_few i a need.Break all = all
need_few i a need.JumpMisaligned all = all

instr_few : (i : Image) (a : ActorState) (o : Option Instr) → AreFew a.drafts → AreFew (drafts_by_instr i a o)
instr_few i a None all = all
instr_few i a (Some ins) all = need_few i a (local ins a.hart).need all

fuel_few : (i : Image) (a : ActorState) (word n : ℕ) → AreFew a.drafts → AreFew (drafts_by_fuel i a word n)
fuel_few i a word zero all = all
fuel_few i a word (suc n) all = instr_few i (record a { fuel = n }) (decode word) all

word_few : (i : Image) (a : ActorState) (o : Option ℕ) → AreFew a.drafts → AreFew (drafts_by_word i a o)
word_few i a None all = all
word_few i a (Some word) all = fuel_few i a word a.fuel all

-- ---- an instruction, a rest and an event

step_few : (i : Image) (a : ActorState) → AreFew a.drafts → AreFew (step i a).drafts
step_few i a all = subst AreFew (sym (step_edits i a)) (word_few i a (fetch i a.hart.pc) all)

pub run_few : (i : Image) (n : ℕ) (a : ActorState) (t : Bool) → is_running a.phase ≡ t → AreFew a.drafts → AreFew (run_local i n a).drafts
run_few i n a false e all = subst (λ (x : ActorState). AreFew x.drafts) (sym (stays i n a e)) all
run_few i zero a true e all = unfold run_local in all
run_few i (suc n) a true e all = subst (λ (x : ActorState). AreFew x.drafts) (sym (goes_on i n a e)) (run_few i n (step i a) _ refl (step_few i a all))

pub rest_few : (i : Image) (a : ActorState) → AreFew a.drafts → AreFew (rest i a).drafts
unfolding rest
rest_few i a all = run_few i (a.fuel + 1) a _ refl all

pub takes_few : (i : Image) (a : ActorState) (e : Event) → AreFew a.drafts → AreFew (takes i a e).drafts
takes_few i a e all = subst AreFew (sym (event_edits i a e)) all

-- ---- the copies of a draft

one_grant : (t : Bool) (g : CopyGrant) (gs : List CopyGrant) → length (if t then g ∷ gs else gs) ≤ length gs + 1
one_grant true g gs = omega arith
one_grant false g gs = omega arith

all_grants : (es : Map Grant) → length (copy_grants es) ≤ length es
all_grants [] = omega arith
all_grants (e ∷ es) = let one = one_grant (is_copy e.1.right) (record { tag = e.0; slot = e.1.slot }) (copy_grants es) in let later = all_grants es in omega (arith, one, later)

draft_few : (ds : List Draft) (k : ℕ) → AreFew ds → IsFew (draft_at ds k)
draft_few ds k all = by_found (slice_get ds k) refl
  where
    by_found : (o : Option Draft) → slice_get ds k ≡ o → IsFew (unwrap_or o empty_draft)
    by_found None e = empty_few
    by_found (Some d) e = get_few ds k d all e

pub few_copies : (a : ActorState) → AreFew a.drafts → length (copies_asked a) ≤ most_grants
few_copies a all =
    let d = draft_at a.drafts (a0 a) in
    let few = draft_few a.drafts (a0 a) all in
    let copies = all_grants (sheet_of_draft a.sheet a.made d).tags in
    let same : length (sheet_of_draft a.sheet a.made d).tags ≡ length d.tags = length-map d.tags (tag_granted a.sheet a.made) in
    let most = few.few in omega (arith, most, copies, same)
