-- What is wrong with a trace's file.
use Rattle.std.proofs.Common.{◌≡◌, ℕ, ◌<◌, ◌≤◌, Bool, true, false, List, length, refl, sym, ap, ◌∙◌}
use Rattle.std.specs.Prelude.{Option, Some, None, nat_lt, if◌then◌else◌}
use Rattle.std.proofs.lemmas.Bool.{le-ltb, lt-ltb}
use Rattle.trace_form.specs.declared.fault.TraceFault.{TraceFault}
use Rattle.trace_form.specs.FirstFault.{first_fault}
use Rattle.cli_inputs.specs.declared.loading.FileKind.TheVariants as kind
use Rattle.cli_inputs.specs.declared.refusal.Refusal.{Refusal}
use Rattle.cli_inputs.specs.declared.refusal.Refusal.TheVariants as refusal
use Rattle.cli_inputs.specs.Loading.{most_trace, long_trace, IsUnread}
use Rattle.cli_inputs.specs.Traces.{trace_fault, IsTraceRefused, IsQueryRefused}
use Rattle.cli_inputs.specs.declared.words.Query.{Query}

none_of : (b : Bool) (f : TraceFault) (m : Option TraceFault) → (let fault : Option TraceFault = if b then Some f else m in fault ≡ None) → m ≡ None
none_of true f m e = absurd cc
none_of false f m e = e

-- a trace that is accepted has no invalid line
pub no_first_fault : (bytes : List ℕ) → trace_fault bytes ≡ None → first_fault bytes ≡ None
unfolding trace_fault
no_first_fault bytes e = none_of (nat_lt most_trace (length bytes)) long_trace (first_fault bytes) e

-- of a file that is not too long the lines decide
pub short_fault : (bytes : List ℕ) → length bytes ≤ most_trace → trace_fault bytes ≡ first_fault bytes
unfolding trace_fault
short_fault bytes le = let short : nat_lt most_trace (length bytes) ≡ false = le-ltb most_trace (length bytes) le in rw short refl

long_fault : (bytes : List ℕ) → most_trace < length bytes → trace_fault bytes ≡ Some long_trace
unfolding trace_fault
long_fault bytes lt = let long : nat_lt most_trace (length bytes) ≡ true = lt-ltb most_trace (length bytes) lt in rw long refl

trace_of : (f g : TraceFault) → refusal.Trace f ≡ refusal.Trace g → f ≡ g
trace_of f g e = cc

-- a trace's file that was not read
pub unread_trace : (name : List ℕ) (content : Option (List ℕ)) (before after : ℕ) (r : Refusal)
    → IsUnread kind.Trace name content before after r → IsTraceRefused name content before after r
unread_trace name content before after refusal.NoMemory h = tt
unread_trace name content before after (refusal.Read file) h = h
unread_trace name content before after (refusal.Image fault) h = let e = h.is in absurd cc
unread_trace name content before after (refusal.Partition p) h = let e = h.is in absurd cc
unread_trace name content before after (refusal.Schedule s) h = let e = h.is in absurd cc
unread_trace name content before after (refusal.Trace fault) h =
    λ bytes exposed. long_fault bytes (h.longer bytes exposed) ∙ ap (λ f. Some f) (sym (trace_of fault long_trace h.is))
unread_trace name content before after (refusal.Elf fault) h = let e = h.is in absurd cc
unread_trace name content before after (refusal.NoSuchName item) h = absurd h
unread_trace name content before after (refusal.Violation v) h = absurd h

-- a trace that is not had has no query that is answered
pub query_unread : (query : Query) (asked name : List ℕ) (content : Option (List ℕ)) (before after : ℕ) (r : Refusal)
    → IsTraceRefused name content before after r → IsQueryRefused query asked name content before after r
query_unread query asked name content before after refusal.NoMemory h = tt
query_unread query asked name content before after (refusal.Read file) h = h
query_unread query asked name content before after (refusal.Image fault) h = h
query_unread query asked name content before after (refusal.Partition p) h = h
query_unread query asked name content before after (refusal.Schedule s) h = h
query_unread query asked name content before after (refusal.Trace fault) h = h
query_unread query asked name content before after (refusal.Elf fault) h = h
query_unread query asked name content before after (refusal.NoSuchName item) h = absurd h
query_unread query asked name content before after (refusal.Violation v) h = absurd h
