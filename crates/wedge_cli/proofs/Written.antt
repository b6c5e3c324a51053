-- Texts that are written.
use Rattle.std.proofs.Common.{◌≡◌, ◌⊎◌, inl, inr, ℕ, ◌≤◌, List, [], ◌∷◌, refl, sym, ap, subst, ◌∙◌, arith}
use Rattle.std.specs.Prelude.{None}
use Rattle.wedge_cli.specs.declared.status.Ended.{Ended}
use Rattle.wedge_cli.specs.declared.writing.SinkName.{SinkName}
use Rattle.wedge_cli.specs.declared.writing.SinkName.TheVariants as sink
use Rattle.wedge_cli.specs.declared.writing.KeptRun.{KeptRun}
use Rattle.wedge_cli.specs.declared.writing.Text.{Text}
use Rattle.refusal_lines.specs.Lines.{write_fault_line}
use Rattle.wedge_cli.specs.Outside.{Device, Sinks, Rises, Takes, IsFailedWrite, Tried}
use Rattle.wedge_cli.specs.Ended.{on_out, on_err, on_both, no_run, TakesOn, FailsOn, AreTaken, OneFails, TellsFault, IsWritten, IsSaid}

-- a fault of one of the sinks
abbrev pub Rise : Sinks → Sinks → Type 0
Rise before after = Rises before.out after.out ⊎ Rises before.err after.err

same_faults : (d e : Device) → d ≡ e → d.faults ≡ e.faults
same_faults d e h = ap (λ (x : Device). x.faults) h

-- a sink that was tried has no fewer faults
tried_rises : (text : List ℕ) (e f : Device) → Tried text e f → e.faults ≤ f.faults
tried_rises text e f (inl took) = let same = took.1 in omega arith
tried_rises text e f (inr fails) = let more = fails.rises in omega arith

fails_rises : (k : SinkName) (bytes : List ℕ) (s u : Sinks) → FailsOn k bytes s u → Rise s u
fails_rises sink.Out bytes s u h = inl h.0.rises
fails_rises sink.Err bytes s u h = inr h.0.rises

rises_later : (k : SinkName) (bytes : List ℕ) (s m u : Sinks) → TakesOn k bytes s m → Rise m u → Rise s u
rises_later sink.Out bytes s m u h (inl r) = let same = h.0.1 in inl (omega arith)
rises_later sink.Out bytes s m u h (inr r) = let same = same_faults m.err s.err h.1 in inr (omega arith)
rises_later sink.Err bytes s m u h (inl r) = let same = same_faults m.out s.out h.1 in inl (omega arith)
rises_later sink.Err bytes s m u h (inr r) = let same = h.0.1 in inr (omega arith)

pub one_rises : (ts : List Text) (s u : Sinks) → OneFails ts s u → Rise s u
one_rises [] s u h = absurd h
one_rises (t ∷ ts) s u (inl h) = fails_rises t.sink t.bytes s u h
one_rises (t ∷ ts) s u (inr h) = rises_later t.sink t.bytes s h.between u h.one (one_rises ts h.between u h.other)

told_rises : (s m u : Sinks) → Rise s m → TellsFault m u → Rise s u
told_rises s m u (inl r) h = let same = same_faults u.out m.out h.1 in inl (omega arith)
told_rises s m u (inr r) h = let more = tried_rises _ m.err u.err h.0 in inr (omega arith)

pub written_status : (status : ℕ) (kept : KeptRun) (ts : List Text) (ended : Ended) (s u : Sinks) → IsWritten status kept ts ended s u
    → (ended.status ≡ status) ⊎ ((ended.status ≡ 5) × Rise s u)
written_status status kept ts ended s u w =
    elim w.cases [
      | inl done ↦ inl done.1
      | inr fault ↦ inr (fault.1, told_rises s fault.0.between u (one_rises ts s fault.0.between fault.0.one) fault.0.other)
    ]

one_more : (d e f : Device) → Rise (record { out = d; err = e }) (record { out = d; err = f }) → Rises e f
one_more d e f (inl r) = absurd (omega arith)
one_more d e f (inr r) = r

pub said_status : (status : ℕ) (text : List ℕ) (ended : Ended) (e f : Device) → IsSaid status text ended e f → (ended.status ≡ status) ⊎ ((ended.status ≡ 5) × Rises e f)
said_status status text ended e f said =
    elim (written_status status no_run (on_err text) ended (record { out = e; err = e }) (record { out = e; err = f }) (said e)) [
      | inl is ↦ inl is
      | inr fault ↦ inr (fault.0, one_more e e f fault.1)
    ]

-- what is said does not say that anything differs
pub said_nothing : (status : ℕ) (text : List ℕ) (ended : Ended) (e f : Device) → IsSaid status text ended e f → ended.differs ≡ None
said_nothing status text ended e f said = elim (said e).cases [ inl done ↦ done.2 | inr fault ↦ fault.2 ]

-- one text on the output that was taken
pub took_out : (bytes : List ℕ) (s u : Sinks) → AreTaken (on_out bytes) s u → Takes bytes s.out u.out × (u.err ≡ s.err)
took_out bytes s u h = subst (λ m. TakesOn sink.Out bytes s m) (sym h.other) h.one

-- and one on the error stream
pub took_err : (bytes : List ℕ) (s u : Sinks) → AreTaken (on_err bytes) s u → Takes bytes s.err u.err
took_err bytes s u h = let both : TakesOn sink.Err bytes s u = subst (λ m. TakesOn sink.Err bytes s m) (sym h.other) h.one in both.0

-- a text on the output and one on the error stream that were taken
pub took_both : (a b : List ℕ) (s u : Sinks) → AreTaken (on_both a b) s u → Takes a s.out u.out × Takes b s.err u.err
took_both a b s u h =
    let k = h.other in
    let out : u.out ≡ h.between.out = ap (λ (x : Sinks). x.out) k.other ∙ k.one.1 in
    let err : u.err ≡ k.between.err = ap (λ (x : Sinks). x.err) k.other in (
      subst (λ d. Takes a s.out d) (sym out) h.one.0,
      subst (λ d. Takes b d u.err) h.one.1 (subst (λ d. Takes b h.between.err d) (sym err) k.one.0),
    )

-- a line on the error stream that failed
pub said_fault : (status : ℕ) (text : List ℕ) (ended : Ended) (e m f : Device) → ended.journal ≡ None → ended.status ≡ 5 → ended.differs ≡ None
    → IsFailedWrite text e m → Tried write_fault_line m f → IsSaid status text ended e f
said_fault status text ended e m f none is nothing fails tried = λ out. record {
  journal = none;
  cases = inr (record { between = record { out = out; err = m }; one = inl (fails, refl); other = (tried, refl) }, is, nothing);
}

-- one that was said of a sink, said of an equal text and an equal status
pub said_as : (status n : ℕ) (text line : List ℕ) (ended : Ended) (e f : Device) → status ≡ n → text ≡ line → IsSaid status text ended e f → IsSaid n line ended e f
said_as status n text line ended e f same_status same_text said =
    subst (λ t. IsSaid n t ended e f) same_text (subst (λ k. IsSaid k text ended e f) same_status said)
