use Rattle.ux_dela.proofs.RoundTripLemmas.{printed_is_line, printed_reads}
use Rattle.ux_dela.proofs.printing.print_delaf.Goals as goal

pub returns-in_err-put_entry-clause-alone : goal.returns-in_err-put_entry-clause-alone
returns-in_err-put_entry-clause-alone c = printed_is_line c.args.entry.now

pub returns-in_err-put_entry-clause-same : goal.returns-in_err-put_entry-clause-same
returns-in_err-put_entry-clause-same c = printed_reads c.args.entry.now

pub returns-clause-alone : goal.returns-clause-alone
returns-clause-alone c = printed_is_line c.args.entry.now

pub returns-clause-same : goal.returns-clause-same
returns-clause-same c = printed_reads c.args.entry.now
