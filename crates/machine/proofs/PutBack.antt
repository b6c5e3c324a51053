-- A draft without room for a grant is put back as it was, and its actor is refused.
use Rattle.std.proofs.Common.{◌≡◌, ℕ, zero, suc, ◌<◌, false, List, [], ◌∷◌, length, get_or, sym, ap, ◌∙◌, arith, true}
use Rattle.std.proofs.lemmas.List.{set-get_or}
use Rattle.std.specs.Prelude.{Some, slice_get, slice_set, if◌then◌else◌, not}
use Rattle.wedge_base.specs.Sheets.{Draft, takes_tag, takes_fd, with_tag, with_fd, takes_gate, with_gate}
use Rattle.wedge_base.specs.declared.rights.Code.TheVariants as code
use Rattle.wedge_base.specs.declared.rights.FdBits.{FdBits}
use Rattle.wedge_base.specs.declared.rights.Right.{Right}
use Rattle.machine.specs.Actors.{ActorState, answers, refuses}
use Rattle.machine.specs.Calls.{right_asked, bits_asked, with_draft, add_right, add_right_to, sc_mem_add, add_bits, add_bits_to, sc_fd_add, a0, a1, a2, is_procedure, add_gate_to, sc_cgate_add}
use Rattle.wedge_base.specs.Images.{Image}

pub get_at : (ds : List Draft) (n : ℕ) (d : Draft) → n < length ds → d ≡ get_or ds n d → slice_get ds n ≡ Some d
get_at [] n d inside there = absurd (omega arith)
get_at (x ∷ xs) zero d inside there = ap (λ y. Some y) (sym there)
get_at (x ∷ xs) (suc n) d inside there = get_at xs n d (omega arith) there

same_draft : (ds : List Draft) (n : ℕ) (d new : Draft) → d ≡ get_or ds n d → new ≡ d → slice_set ds n new ≡ ds
same_draft ds n d new there same = ap (λ x. slice_set ds n x) (same ∙ there) ∙ set-get_or ds n d

-- refused, with these drafts
abbrev pub RefusedWith : ActorState → List Draft → ActorState
RefusedWith a ds = record (refuses a code.Full) { drafts = ds }

pub right_full : (a : ActorState) (n : ℕ) (d new : Draft) (k : Right) → n ≡ a0 a → n < length a.drafts → d ≡ get_or a.drafts n d → new ≡ d → right_asked (a2 a) ≡ Some k → takes_tag d (a1 a) ≡ false
    → RefusedWith a (slice_set a.drafts n new) ≡ sc_mem_add a
right_full a n d new k is inside there same asked full =
    ap (RefusedWith a) (same_draft a.drafts n d new there same)
    ∙ sym (ap (add_right_to a) (ap (slice_get a.drafts) (sym is) ∙ get_at a.drafts n d inside there) ∙ ap (add_right a d) asked
    ∙ ap (λ t. if t then answers (with_draft a (a0 a) (with_tag d (a1 a) k)) 0 else refuses a code.Full) full)

pub bits_full : (a : ActorState) (n : ℕ) (d new : Draft) (b : FdBits) → n ≡ a0 a → n < length a.drafts → d ≡ get_or a.drafts n d → new ≡ d → bits_asked (a2 a) ≡ Some b → takes_fd d (a1 a) ≡ false
    → RefusedWith a (slice_set a.drafts n new) ≡ sc_fd_add a
bits_full a n d new b is inside there same asked full =
    ap (RefusedWith a) (same_draft a.drafts n d new there same)
    ∙ sym (ap (add_bits_to a) (ap (slice_get a.drafts) (sym is) ∙ get_at a.drafts n d inside there) ∙ ap (add_bits a d) asked
    ∙ ap (λ t. if t then answers (with_draft a (a0 a) (with_fd d (a1 a) b)) 0 else refuses a code.Full) full)

pub gate_full : (i : Image) (a : ActorState) (n : ℕ) (d new : Draft) → n ≡ a0 a → n < length a.drafts → d ≡ get_or a.drafts n d → new ≡ d → is_procedure i (a1 a) ≡ true → takes_gate d (a1 a) ≡ false
    → RefusedWith a (slice_set a.drafts n new) ≡ sc_cgate_add i a
gate_full i a n d new is inside there same begins full =
    ap (RefusedWith a) (same_draft a.drafts n d new there same)
    ∙ sym (ap (add_gate_to i a) (ap (slice_get a.drafts) (sym is) ∙ get_at a.drafts n d inside there)
    ∙ ap (λ t. if not t then refuses a code.Bad else if takes_gate d (a1 a) then answers (with_draft a (a0 a) (with_gate d (a1 a))) 0 else refuses a code.Full) begins
    ∙ ap (λ t. if t then answers (with_draft a (a0 a) (with_gate d (a1 a))) 0 else refuses a code.Full) full)
