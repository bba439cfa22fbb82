use Rattle.ascend_top.proofs.FilesLaws.{output_file, report_printed, trace_file}
use Rattle.ascend_top.proofs.laws.reported_runs_leave_their_files.Goals as goal

pub returns-clause-output : goal.returns-clause-output
returns-clause-output c given run old new files done told differs =
    output_file given run old new done files told differs

pub returns-clause-trace : goal.returns-clause-trace
returns-clause-trace c given run old new files name done told named =
    trace_file given run old new done name files told named

pub returns-clause-printed : goal.returns-clause-printed
returns-clause-printed c given run old new done = report_printed given run old new done
