-- A job's calls on a bench (01, 'Jobs').
use Rattle.protocol.specs.Parts.{Call}
use Rattle.protocol.specs.Calls.{call_table, call_from}
use Rattle.job_format.specs.Job.{CallNumbers}

-- The bench's call of a job's call. No accepted job has a call with a tag that is not in the table.
abbrev pub bench_call : CallNumbers → Call
bench_call c = call_from call_table c.tag c.tile c.word c.value
