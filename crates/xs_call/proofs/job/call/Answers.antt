use Rattle.std.proofs.Common.{rules, Ok}
use Rattle.xs_call.proofs.JobsJoin.{call_gives}
use Rattle.xs_call.proofs.job.call.Goals as goal

pub returns : goal.returns
returns c = call_gives c.args.xs.now c.args.script.now c.in_ok-m.m _ c.in_ok-calls.calls
    (Ok c.in_ok-reported.reported) c.in_ok-m.ensures c.in_ok-commands.ensures.exact (search rules) (search rules)
