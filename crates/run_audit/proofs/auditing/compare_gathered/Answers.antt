use Rattle.std.proofs.Common.{rules}
use Rattle.std.specs.Prelude.{Some, None, length}
use Rattle.thread_laws.specs.Joining.{journal_of}
use Rattle.thread_laws.specs.Replaying.{all_histories}
use Rattle.run_audit.proofs.ComparedCells.{keep_gathered, of_gathered, others_agree, at_another, first_of_all}
use Rattle.run_audit.proofs.auditing.compare_gathered.Goals as goal

pub compared_journal-requires : goal.compared_journal-requires
compared_journal-requires c =
    keep_gathered c.args.gathered.now c.as_slice-declared.result.now c.as_slice.result.now c.as_slice-declared.ensures c.as_slice.ensures c.requires

pub returns-in-Some-clause-found : goal.returns-in-Some-clause-found
returns-in-Some-clause-found c =
    let g = c.args.gathered.now in
    let h = of_gathered g c.as_slice-declared.result.now c.as_slice.result.now c.as_slice-2.result.now c.as_slice-entries.result.now c.in_ok-journal.journal.items c.in_ok-difference.field-0 (Some c.in-Some.difference)
    c.as_slice-declared.ensures c.as_slice.ensures c.as_slice-2.ensures c.as_slice-entries.ensures.value c.in_ok-journal.ensures c.in-Some.is c.in_ok-difference.ensures in
    first_of_all (length g.declared) (all_histories g) (journal_of g.logs) c.in-Some.difference h

pub returns-in-Some-clause-cell : goal.returns-in-Some-clause-cell
returns-in-Some-clause-cell c =
    let g = c.args.gathered.now in
    let h = of_gathered g c.as_slice-declared.result.now c.as_slice.result.now c.as_slice-2.result.now c.as_slice-entries.result.now c.in_ok-journal.journal.items c.in_ok-difference.field-0 (Some c.in-Some.difference)
    c.as_slice-declared.ensures c.as_slice.ensures c.as_slice-2.ensures c.as_slice-entries.ensures.value c.in_ok-journal.ensures c.in-Some.is c.in_ok-difference.ensures in
    at_another (length g.declared) (all_histories g) (journal_of g.logs) c.in-Some.difference h

pub returns-clause-found : goal.returns-clause-found
returns-clause-found c =
    let g = c.args.gathered.now in
    let h = of_gathered g c.as_slice-declared.result.now c.as_slice.result.now c.as_slice-2.result.now c.as_slice-entries.result.now c.in_ok-journal.journal.items c.in_ok-difference.field-0 None
    c.as_slice-declared.ensures c.as_slice.ensures c.as_slice-2.ensures c.as_slice-entries.ensures.value c.in_ok-journal.ensures c.in_default.is c.in_ok-difference.ensures in
    record {
      agree = others_agree (length g.declared) (all_histories g) (journal_of g.logs) h;
      outcome = search rules;
      caches = search rules;
    }
