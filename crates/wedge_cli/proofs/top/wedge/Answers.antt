use Rattle.std.proofs.Common.{inl, inr}
use Rattle.wedge_cli.proofs.GenEnds.{gen_done, gen_again, gen_ended}
use Rattle.wedge_cli.proofs.RunEnds.{run_done, schedule_done, stats_done, run_again, run_ended}
use Rattle.wedge_cli.proofs.Statuses.{replay_done, log_done, emulate_done, enforce_done, own_emulate_done, own_enforce_done, enforced_only, link_answered, link_done, derive_done, analyze_done, rejected_only, name_only, elf_only, usage_only, image_only, read_only, write_only, unwritten, differs_only, differs_7}
use Rattle.wedge_cli.proofs.top.wedge.Goals as goal

pub returns-clause-run : goal.returns-clause-run
returns-clause-run g c = λ image bytes asked exposed is. run_done image bytes _ _ _ (c.does.ensures.answer.command _ asked) exposed is

pub returns-clause-schedule : goal.returns-clause-schedule
returns-clause-schedule g c = λ image bytes asked exposed is. schedule_done image bytes _ _ _ (c.does.ensures.answer.command _ asked) exposed is

pub returns-clause-stats : goal.returns-clause-stats
returns-clause-stats g c = λ image bytes asked exposed is. stats_done image bytes _ _ _ (c.does.ensures.answer.command _ asked) exposed is

pub returns-clause-replay : goal.returns-clause-replay
returns-clause-replay g c = λ image schedule bytes names asked image_is schedule_is. replay_done image schedule bytes names _ _ _ (c.does.ensures.answer.command _ asked) image_is schedule_is

pub returns-clause-log : goal.returns-clause-log
returns-clause-log g c = λ image schedule bytes names asked image_is schedule_is. log_done image schedule bytes names _ _ _ (c.does.ensures.answer.command _ asked) image_is schedule_is

pub returns-clause-rejected_only : goal.returns-clause-rejected_only
returns-clause-rejected_only g c = λ a asked is. rejected_only a _ _ _ (c.does.ensures.answer.command a asked) is

pub returns-clause-usage_only : goal.returns-clause-usage_only
returns-clause-usage_only g c = usage_only _ _ _ _ c.does.ensures.answer

pub returns-clause-image_only : goal.returns-clause-image_only
returns-clause-image_only g c = λ a asked is. image_only a _ _ _ (c.does.ensures.answer.command a asked) is

pub returns-clause-read_only : goal.returns-clause-read_only
returns-clause-read_only g c = λ a asked is. read_only a _ _ _ (c.does.ensures.answer.command a asked) is

pub returns-clause-write_only : goal.returns-clause-write_only
returns-clause-write_only g c = write_only _ _ _ _ c.does.ensures.answer

pub returns-clause-derive : goal.returns-clause-derive
returns-clause-derive g c = λ trace bytes asked exposed. derive_done trace bytes _ _ _ (c.does.ensures.answer.command _ asked) exposed

pub returns-clause-analyze : goal.returns-clause-analyze
returns-clause-analyze g c = λ trace name bytes query asked exposed. analyze_done query name trace bytes _ _ _ (c.does.ensures.answer.command _ asked) exposed

pub returns-clause-name_only : goal.returns-clause-name_only
returns-clause-name_only g c = λ a asked is. name_only a _ _ _ (c.does.ensures.answer.command a asked) is

pub returns-clause-link : goal.returns-clause-link
returns-clause-link g c = λ elf part bytes text asked elf_is part_is. link_answered elf part bytes text _ _ _ (c.does.ensures.answer.command _ asked) elf_is part_is

pub returns-clause-link_done : goal.returns-clause-link_done
returns-clause-link_done g c = λ elf part bytes asked elf_is is. link_done elf part bytes _ _ _ (c.does.ensures.answer.command _ asked) elf_is is

pub returns-clause-elf_only : goal.returns-clause-elf_only
returns-clause-elf_only g c = λ a asked is. elf_only a _ _ _ (c.does.ensures.answer.command a asked) is

pub returns-clause-again : goal.returns-clause-again
returns-clause-again g c = λ image bytes flag asked exposed is. run_again image bytes flag _ _ _ (c.does.ensures.answer.command _ asked) exposed is

pub returns-clause-run_ends : goal.returns-clause-run_ends
returns-clause-run_ends g c = λ image bytes flag asked exposed. run_ended image bytes flag _ _ _ (c.does.ensures.answer.command _ asked) exposed

pub returns-clause-differs_only : goal.returns-clause-differs_only
returns-clause-differs_only g c = differs_only _ _ _ _ c.does.ensures.answer

pub returns-clause-differs : goal.returns-clause-differs
returns-clause-differs g c = differs_7 _ _ _ _ c.does.ensures.answer

pub returns-clause-unwritten : goal.returns-clause-unwritten
returns-clause-unwritten g c = unwritten _ _ _ _ c.does.ensures.answer

pub returns-clause-workload : goal.returns-clause-workload
returns-clause-workload g c = λ workers asked is. gen_done workers _ _ _ (c.does.ensures.answer.command _ asked) is

pub returns-clause-workload_again : goal.returns-clause-workload_again
returns-clause-workload_again g c = λ workers asked is. gen_again workers _ _ _ (c.does.ensures.answer.command _ asked) is

pub returns-clause-workload_ends : goal.returns-clause-workload_ends
returns-clause-workload_ends g c = λ workers asked. gen_ended workers _ _ _ (c.does.ensures.answer.command _ asked)

pub returns-clause-emulate : goal.returns-clause-emulate
returns-clause-emulate g c = λ image schedule trace bytes names records asked image_is schedule_is trace_is.
    emulate_done image schedule trace bytes names records _ _ _ (c.does.ensures.answer.command _ asked) image_is schedule_is trace_is

pub returns-clause-enforce : goal.returns-clause-enforce
returns-clause-enforce g c = λ image schedule trace bytes names records asked image_is schedule_is trace_is.
    enforce_done image schedule trace bytes names records _ _ _ (c.does.ensures.answer.command _ asked) image_is schedule_is trace_is

pub returns-clause-own_trace : goal.returns-clause-own_trace
returns-clause-own_trace g c = λ image schedule trace bytes names records asked image_is schedule_is trace_is own.
    elim asked [
      | inl emulates ↦ own_emulate_done image schedule trace bytes names records _ _ _ (c.does.ensures.answer.command _ emulates) image_is schedule_is trace_is own
      | inr enforces ↦ own_enforce_done image schedule trace bytes names records _ _ _ (c.does.ensures.answer.command _ enforces) image_is schedule_is trace_is own
    ]

pub returns-clause-enforced_only : goal.returns-clause-enforced_only
returns-clause-enforced_only g c = λ a asked is. enforced_only a _ _ _ (c.does.ensures.answer.command a asked) is
