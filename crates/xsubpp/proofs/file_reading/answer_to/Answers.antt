use Rattle.std.proofs.Common.{Ok, Err, refl, ap, ◌∙◌}
use Rattle.std.proofs.lemmas.Result.{IfOk-weaker}
use Rattle.xs_base.specs.declared.source.FileOf.TheVariants.{Xs}
use Rattle.xs_call.specs.Jobs.{call_of, compile_of}
use Rattle.xsubpp.specs.Answers.{accepted_of, unread}
use Rattle.xsubpp.specs.CommandLine.{Compile, Call, Check, command_view}
use Rattle.xsubpp.proofs.Finishing.{both, by_job, by_reads, not_read}
use Rattle.xsubpp.proofs.file_reading.answer_to.Goals as goal

pub returns-in-Err-clause-reads : goal.returns-in-Err-clause-reads
returns-in-Err-clause-reads g c =
    IfOk-weaker c.unread.result _ _ (λ a e. not_read (command_view c.args.command) c.in-Err.fault a (e
    ∙ ap (λ name. unread name Xs c.in-Err.fault) c.name_of-name.ensures)) c.unread.ensures.answer

pub returns-in-Compile-clause-reads : goal.returns-in-Compile-clause-reads
returns-in-Compile-clause-reads g c =
    IfOk-weaker c.done_or_refused.result _ _
    (λ a e. by_job (command_view c.args.command) (Compile c.in-Compile._file.now) (both (Ok c.in-Ok.bytes) (Ok c.in-Ok.bytes))
    (compile_of c.in-Ok.bytes) c.compile.result a (ap command_view c.in-Compile.is) refl c.compile.ensures e)
    c.done_or_refused.ensures

pub returns-in-Err-read-clause-reads : goal.returns-in-Err-read-clause-reads
returns-in-Err-read-clause-reads g c =
    IfOk-weaker c.unread-in-Err-read.result _ _
    (λ a e. by_reads (command_view c.args.command) (Call c.in-Call._file.now c.in-Call.script.now) (both (Ok c.in-Ok.bytes) (Err c.in-Err-read.fault)) a
    (ap command_view c.in-Call.is) e) c.unread-in-Err-read.ensures.answer

pub returns-in-Call-clause-reads : goal.returns-in-Call-clause-reads
returns-in-Call-clause-reads g c =
    IfOk-weaker c.done_or_refused-in-Call.result _ _
    (λ a e. by_job (command_view c.args.command) (Call c.in-Call._file.now c.in-Call.script.now) (both (Ok c.in-Ok.bytes) (Ok c.in-Ok-read.bytes))
    (call_of c.in-Ok.bytes c.in-Ok-read.bytes) c.call.result a (ap command_view c.in-Call.is) refl
    c.call.ensures e) c.done_or_refused-in-Call.ensures

pub returns-clause-reads : goal.returns-clause-reads
returns-clause-reads g c =
    IfOk-weaker c.done_or_refused-in-Check.result _ _
    (λ a e. by_job (command_view c.args.command) (Check c.in-Check._file.now) (both (Ok c.in-Ok.bytes) (Ok c.in-Ok.bytes))
    (accepted_of c.in-Ok.bytes) c.accept.result a (ap command_view c.in-Check.is) refl c.accept.ensures e)
    c.done_or_refused-in-Check.ensures
