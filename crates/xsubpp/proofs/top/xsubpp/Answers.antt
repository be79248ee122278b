use Rattle.std.proofs.Common.{inl, inr, subst, sym, refl}
use Rattle.xs_base.specs.Sinks.{AppendsPrefix}
use Rattle.xs_call.proofs.JobsJoin.{text_leaves_nothing, text_runs}
use Rattle.xsubpp.specs.declared.status.Status.TheVariants.{Done, Refused, Missing, ReadFault}
use Rattle.xsubpp.specs.Answers.{usage}
use Rattle.xsubpp.specs.Reads.{IsAnswerByReads}
use Rattle.xsubpp.specs.CommandLine.{command_view}
use Rattle.xsubpp.proofs.Ending.{as_status, complete, decided, decided_usage, ends, ends_by_reads, is_out, no_command, prefix, untouched}
use Rattle.xsubpp.proofs.FilesReported.{lacks_file_where, missing}
use Rattle.xsubpp.proofs.FilesRefused.{faulty_file_where, refused}
use Rattle.xsubpp.proofs.TextsWritten.{granted, wrote, wrote_by_reads}
use Rattle.xsubpp.proofs.top.xsubpp.Goals as goal

pub returns-in-Ok-clause-done : goal.returns-in-Ok-clause-done
returns-in-Ok-clause-done g c is files reports =
    ends _ files _ _ _ _ c.in-Ok.a Done _ _ _ _ _ c.in-Ok.ensures.reported c.in-Some.ensures reports
    (is_out c.in-Ok.a _ _ _ _ _ _ _ c.finish-in-Ok.ensures.is_out c.as_slice.ensures c.as_slice-in-Ok.ensures) (λ e. cc) (λ e. cc) is

pub returns-in-Ok-clause-refused : goal.returns-in-Ok-clause-refused
returns-in-Ok-clause-refused g c is files reports =
    ends _ files _ _ _ _ c.in-Ok.a Refused _ _ _ _ _ c.in-Ok.ensures.reported c.in-Some.ensures reports
    (is_out c.in-Ok.a _ _ _ _ _ _ _ c.finish-in-Ok.ensures.is_out c.as_slice.ensures c.as_slice-in-Ok.ensures) (λ e. cc) (λ e. cc) is

pub returns-in-Ok-clause-missing : goal.returns-in-Ok-clause-missing
returns-in-Ok-clause-missing g c is files reports =
    ends _ files _ _ _ _ c.in-Ok.a Missing _ _ _ _ _ c.in-Ok.ensures.reported c.in-Some.ensures reports
    (is_out c.in-Ok.a _ _ _ _ _ _ _ c.finish-in-Ok.ensures.is_out c.as_slice.ensures c.as_slice-in-Ok.ensures) (λ e. cc) (λ e. cc) is

pub returns-in-Ok-clause-untouched : goal.returns-in-Ok-clause-untouched
returns-in-Ok-clause-untouched g c no_done no_write =
    untouched _ _ _ _ c.in-Ok.a _ _ _ _ _ c.in-Ok.ensures.reported
    (is_out c.in-Ok.a _ _ _ _ _ _ _ c.finish-in-Ok.ensures.is_out c.as_slice.ensures c.as_slice-in-Ok.ensures) no_done no_write

pub returns-in-Ok-clause-prefix : goal.returns-in-Ok-clause-prefix
returns-in-Ok-clause-prefix g c is files reports =
    prefix _ files _ _ _ _ c.in-Ok.a _ _ c.in-Ok.ensures.reported c.in-Some.ensures reports
    (subst (AppendsPrefix _ _) c.as_slice.ensures c.finish-in-Ok.ensures.prefix)

pub returns-in-Ok-clause-complete : goal.returns-in-Ok-clause-complete
returns-in-Ok-clause-complete g c files reports desk_fine out_fine err_fine =
    inl (complete _ files _ _ _ _ c.in-Ok.a _ c.in-Ok.ensures.reported c.in-Some.ensures reports c.finish-in-Ok.ensures.is_out.was desk_fine
    (λ e. elim (c.finish-in-Ok.ensures.cause e) [ inl rose ↦ out_fine rose | inr rose ↦ err_fine rose ]))

pub returns-in_default-clause-complete : goal.returns-in_default-clause-complete
returns-in_default-clause-complete g c files reports desk_fine out_fine err_fine =
    inl (no_command _ files _ c.in_default.ensures
    (elim c.finish.ensures.is_out.was [
      | inl is ↦ is
      | inr e ↦ absurd (elim (c.finish.ensures.cause e) [ inl rose ↦ out_fine rose | inr rose ↦ err_fine rose ])
    ]))

pub returns-in-Ok-clause-done_by_reads : goal.returns-in-Ok-clause-done_by_reads
returns-in-Ok-clause-done_by_reads g c is =
    ends_by_reads _ (command_view c.in-Some.command) c.in-Ok.a Done _ _ _ _ _ c.in-Some.ensures c.in-Ok.ensures.reads
    (is_out c.in-Ok.a _ _ _ _ _ _ _ c.finish-in-Ok.ensures.is_out c.as_slice.ensures c.as_slice-in-Ok.ensures) (λ e. cc) is

pub returns-in-Ok-clause-refused_by_reads : goal.returns-in-Ok-clause-refused_by_reads
returns-in-Ok-clause-refused_by_reads g c is =
    ends_by_reads _ (command_view c.in-Some.command) c.in-Ok.a Refused _ _ _ _ _ c.in-Some.ensures c.in-Ok.ensures.reads
    (is_out c.in-Ok.a _ _ _ _ _ _ _ c.finish-in-Ok.ensures.is_out c.as_slice.ensures c.as_slice-in-Ok.ensures) (λ e. cc) is

pub returns-in-Ok-clause-missing_by_reads : goal.returns-in-Ok-clause-missing_by_reads
returns-in-Ok-clause-missing_by_reads g c is =
    ends_by_reads _ (command_view c.in-Some.command) c.in-Ok.a Missing _ _ _ _ _ c.in-Some.ensures c.in-Ok.ensures.reads
    (is_out c.in-Ok.a _ _ _ _ _ _ _ c.finish-in-Ok.ensures.is_out c.as_slice.ensures c.as_slice-in-Ok.ensures) (λ e. cc) is

pub returns-in-Ok-clause-read_fault_by_reads : goal.returns-in-Ok-clause-read_fault_by_reads
returns-in-Ok-clause-read_fault_by_reads g c is =
    ends_by_reads _ (command_view c.in-Some.command) c.in-Ok.a ReadFault _ _ _ _ _ c.in-Some.ensures c.in-Ok.ensures.reads
    (is_out c.in-Ok.a _ _ _ _ _ _ _ c.finish-in-Ok.ensures.is_out c.as_slice.ensures c.as_slice-in-Ok.ensures) (λ e. cc) is

pub returns-in-Ok-clause-prefix_by_reads : goal.returns-in-Ok-clause-prefix_by_reads
returns-in-Ok-clause-prefix_by_reads g c is =
    record {
      a = c.in-Ok.a;
      is_answer = subst (λ o. IsAnswerByReads o c.in-Ok.a) (sym c.in-Some.ensures) c.in-Ok.ensures.reads;
      out_is = subst (AppendsPrefix _ _) c.as_slice.ensures c.finish-in-Ok.ensures.prefix;
    }

pub returns-in_default-clause-prefix_by_reads : goal.returns-in_default-clause-prefix_by_reads
returns-in_default-clause-prefix_by_reads g c is =
    record {
      a = usage;
      is_answer = subst (λ o. IsAnswerByReads o usage) (sym c.in_default.ensures) refl;
      out_is = c.finish.ensures.prefix;
    }

pub returns-in-Ok-clause-decided : goal.returns-in-Ok-clause-decided
returns-in-Ok-clause-decided g c files reports desk_fine =
    decided _ files _ _ _ _ c.in-Ok.a _ c.in-Ok.ensures.reported c.in-Some.ensures reports c.finish-in-Ok.ensures.is_out.was desk_fine

pub returns-in-Ok-clause-missing_exact : goal.returns-in-Ok-clause-missing_exact
returns-in-Ok-clause-missing_exact g c files reports desk_fine lacks =
    as_status _ Missing _ (missing c.args.words.now files lacks)
    (decided _ files _ _ _ _ c.in-Ok.a _ c.in-Ok.ensures.reported c.in-Some.ensures reports c.finish-in-Ok.ensures.is_out.was desk_fine)

pub returns-in-Ok-clause-granted : goal.returns-in-Ok-clause-granted
returns-in-Ok-clause-granted g c files reports desk_fine is_granted =
    as_status _ Done _ (granted c.args.words.now files is_granted)
    (decided _ files _ _ _ _ c.in-Ok.a _ c.in-Ok.ensures.reported c.in-Some.ensures reports c.finish-in-Ok.ensures.is_out.was desk_fine)

pub returns-in_default-clause-decided : goal.returns-in_default-clause-decided
returns-in_default-clause-decided g c files reports desk_fine =
    decided_usage _ files _ c.in_default.ensures c.finish.ensures.is_out.was

pub returns-in_default-clause-missing_exact : goal.returns-in_default-clause-missing_exact
returns-in_default-clause-missing_exact g c files reports desk_fine lacks =
    as_status _ Missing _ (missing c.args.words.now files lacks) (decided_usage _ files _ c.in_default.ensures c.finish.ensures.is_out.was)

pub returns-in_default-clause-granted : goal.returns-in_default-clause-granted
returns-in_default-clause-granted g c files reports desk_fine is_granted =
    as_status _ Done _ (granted c.args.words.now files is_granted) (decided_usage _ files _ c.in_default.ensures c.finish.ensures.is_out.was)

pub returns-in-Ok-clause-lacking : goal.returns-in-Ok-clause-lacking
returns-in-Ok-clause-lacking g c is files reports =
    lacks_file_where c.args.words.now files _ _ _ _ (returns-in-Ok-clause-missing g c is files reports)

pub returns-in-Ok-clause-written : goal.returns-in-Ok-clause-written
returns-in-Ok-clause-written g c is files reports =
    wrote text_runs text_leaves_nothing c.args.words.now files _ _ _ _ (returns-in-Ok-clause-done g c is files reports)

pub returns-in-Ok-clause-written_by_reads : goal.returns-in-Ok-clause-written_by_reads
returns-in-Ok-clause-written_by_reads g c is =
    wrote_by_reads text_runs text_leaves_nothing _ _ _ _ _ (returns-in-Ok-clause-done_by_reads g c is)

pub returns-in-Ok-clause-faulty : goal.returns-in-Ok-clause-faulty
returns-in-Ok-clause-faulty g c is files reports =
    faulty_file_where c.args.words.now files _ _ _ _ (returns-in-Ok-clause-refused g c is files reports)

pub returns-in-Ok-clause-faulty_exact : goal.returns-in-Ok-clause-faulty_exact
returns-in-Ok-clause-faulty_exact g c files reports desk_fine is_faulty =
    as_status _ Refused _ (refused c.args.words.now files is_faulty)
    (decided _ files _ _ _ _ c.in-Ok.a _ c.in-Ok.ensures.reported c.in-Some.ensures reports c.finish-in-Ok.ensures.is_out.was desk_fine)

pub returns-in_default-clause-faulty_exact : goal.returns-in_default-clause-faulty_exact
returns-in_default-clause-faulty_exact g c files reports desk_fine is_faulty =
    as_status _ Refused _ (refused c.args.words.now files is_faulty) (decided_usage _ files _ c.in_default.ensures c.finish.ensures.is_out.was)
