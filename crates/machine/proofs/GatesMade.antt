-- The call that makes a gate, whose draft is there.
use Rattle.std.proofs.Common.{◌≡◌, ℕ, ◌<◌, true, false, List, [], ◌∷◌, length, get_or, refl, sym, ap, ◌∙◌}
use Rattle.std.specs.Prelude.{Option, Some, not, map, slice_get, unwrap_or, if◌then◌else◌}
use Rattle.std.specs.Arc.{arc_value}
use Rattle.std.specs.List.{AllZip}
use Rattle.std.specs.declared.sync.Arc.{Arc}
use Rattle.wedge_base.specs.Images.{Image}
use Rattle.wedge_base.specs.Sheets.{Draft, empty_draft, first_excess}
use Rattle.wedge_base.specs.declared.rights.Code.TheVariants as code
use Rattle.wedge_base.specs.declared.rights.Denial.{Denial}
use Rattle.machine.specs.declared.copy_grant.CopyGrant.{CopyGrant}
use Rattle.machine.specs.Actors.{ActorState, refuses}
use Rattle.machine.specs.Calls.{a0, draft_at, new_gate, has_gate, makes_or_waits, continue_gate, may_be_gate, make_checked, make_with, cgate_make}
use Rattle.machine.specs.Preparation.{Preparation}
use Rattle.machine.proofs.PutBack.{get_at}
use Rattle.machine.specs.declared.phase.Phase.{Phase}

-- with no copy left the gate is made now
pub makes_now : (a : ActorState) (d : Draft) (p : Preparation) → p.left ≡ [] → has_gate a (new_gate a d p.memory) ≡ continue_gate a d p
makes_now a d p none = ap (makes_or_waits a d p) (sym none)

-- the draft of the number is there
pub drafted_at : (a : ActorState) (n : ℕ) (d : Draft) → n ≡ a0 a → n < length a.drafts → d ≡ get_or a.drafts n d → slice_get a.drafts (a0 a) ≡ Some d
drafted_at a n d is inside there = ap (slice_get a.drafts) (sym is) ∙ get_at a.drafts n d inside there

pub no_gate : (i : Image) (a : ActorState) (d : Draft) → slice_get a.drafts (a0 a) ≡ Some d → may_be_gate i a d ≡ false → refuses a code.Bad ≡ cgate_make i a
no_gate i a d there may = sym (ap (make_with i a) there ∙ ap (λ t. if not t then refuses a code.Bad else make_checked i a d (first_excess a.sheet a.made d)) may)

pub may_make : (i : Image) (a : ActorState) (d e : Draft) (o : Option Denial) → slice_get a.drafts (a0 a) ≡ Some d → slice_get a.drafts (a0 a) ≡ Some e → may_be_gate i a d ≡ true → o ≡ first_excess a.sheet a.made e
    → make_checked i a (draft_at a.drafts (a0 a)) o ≡ cgate_make i a
may_make i a d e o there again may excess =
    let same : e ≡ d = let both : Some e ≡ Some d = sym again ∙ there in cc in
    ap (λ x. make_checked i a (unwrap_or x empty_draft) o) there
    ∙ (ap (make_checked i a d) (excess ∙ ap (first_excess a.sheet a.made) same)
    ∙ sym (ap (make_with i a) there ∙ ap (λ t. if not t then refuses a code.Bad else make_checked i a d (first_excess a.sheet a.made d)) may))

pub excess_of : (a : ActorState) (d : Draft) (o : Option Denial) → slice_get a.drafts (a0 a) ≡ Some d → o ≡ first_excess a.sheet a.made d → o ≡ first_excess a.sheet a.made (draft_at a.drafts (a0 a))
excess_of a d o there is = is ∙ sym (ap (λ x. first_excess a.sheet a.made (unwrap_or x empty_draft)) there)

-- the same gates, by pointers that both hold
module _ {X Z : Type 0} where
  pub shared : (ps qs : List (Arc X Z)) → AllZip (λ (a b : Arc X Z). arc_value b ≡ arc_value a) ps qs → map arc_value qs ≡ map arc_value ps
  shared [] [] h = refl
  shared [] (q ∷ qs) h = absurd h
  shared (p ∷ ps) [] h = absurd h
  shared (p ∷ ps) (q ∷ qs) h = let e = shared ps qs h.1 in let f : arc_value q ≡ arc_value p = h.0 in cc

-- what the actor is at makes no difference to the gate that it makes
pub making_at : (a : ActorState) (ph : Phase) (d : Draft) (p : Preparation) → continue_gate (record a { phase = ph }) d p ≡ continue_gate a d p
making_at a ph d p = by_left p.left
  where
    by_left : (gs : List CopyGrant) → makes_or_waits (record a { phase = ph }) d p gs ≡ makes_or_waits a d p gs
    by_left [] = refl
    by_left (g ∷ gs) = refl
