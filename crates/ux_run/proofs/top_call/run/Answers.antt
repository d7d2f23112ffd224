use Rattle.std.proofs.Common.{inr, map, string_bytes, rules}
use Rattle.ux_base.specs.Outside.{Rose}
use Rattle.ux_status.specs.declared.status.Status.TheVariants.{WriteFault}
use Rattle.ux_command_line.specs.Requests.{request_of}
use Rattle.ux_run.specs.Running.{asked_if}
use Rattle.ux_run.proofs.Ending.{denied_ends, ended_memory, ended_stop, front_line, never_answered, not_done_denied}
use Rattle.ux_run.proofs.top_call.run.Goals as goal

pub returns-in-Err-clause-complete : goal.returns-in-Err-clause-complete
returns-in-Err-clause-complete g c =
    let seen = g.F.Folder.seen in
    let request = request_of (map string_bytes c.args.words.now) in
    λ ready unfaulted wrote.
    ended_memory (asked_if request) (seen c.args.folder.now) (seen c.answer.new.folder) c.in-Err.status
    c.ended.result c.in-Err.ensures.err c.ended.ensures.status ready unfaulted
    (λ rose. wrote (inr rose))

pub returns-in-Err-clause-refused : goal.returns-in-Err-clause-refused
returns-in-Err-clause-refused g c =
    let seen = g.F.Folder.seen in
    let asked = asked_if (request_of (map string_bytes c.args.words.now)) in
    λ stop stopped unfaulted wrote.
    ended_stop asked (seen c.args.folder.now) (seen c.answer.new.folder) c.in-Err.status
    c.ended.result c.in-Err.ensures.err c.ended.ensures.status stop stopped unfaulted wrote

pub returns-in-Err-clause-cut_line : goal.returns-in-Err-clause-cut_line
returns-in-Err-clause-cut_line g c =
    let seen = g.F.Folder.seen in
    let written = g.E.Sink.written in
    let asked = asked_if (request_of (map string_bytes c.args.words.now)) in
    let faults = Rose (g.S.Sink.faults c.args.out.now) (g.S.Sink.faults c.args.out.now) in
    let unwritten = Rose (g.E.Sink.faults c.args.err.now) (g.E.Sink.faults c.ended.new.err) in
    λ is rose. (
      c.in-Err.status,
      not_done_denied asked (seen c.args.folder.now) (seen c.answer.new.folder) c.in-Err.status
          c.in-Err.ensures.err,
      denied_ends asked (seen c.args.folder.now) (seen c.answer.new.folder) faults
          c.in-Err.status c.in-Err.ensures.err,
      front_line (written c.args.err.now) (written c.ended.new.err) c.ended.result
          c.in-Err.status unwritten c.ended.ensures.status,
    )

pub returns-clause-cut_line : goal.returns-clause-cut_line
returns-clause-cut_line g c =
    let written = g.E.Sink.written in
    let ended = c.ended-in-Err-write_all in
    let unwritten = Rose (g.E.Sink.faults c.args.err.now) (g.E.Sink.faults ended.new.err) in
    λ is rose. (
      WriteFault,
      λ is. cc,
      c.in-Err-write_all.ensures.cause,
      front_line (written c.args.err.now) (written ended.new.err) ended.result WriteFault unwritten
          ended.ensures.status,
    )

-- by name, so that a wrong body is refused at once
pub returns-in-Ok-write_all-clause-causes : goal.returns-in-Ok-write_all-clause-causes
returns-in-Ok-write_all-clause-causes g c = search rules

pub returns-in-Ok-write_all-clause-write_line : goal.returns-in-Ok-write_all-clause-write_line
returns-in-Ok-write_all-clause-write_line g c = search rules

pub returns-in-Ok-write_all-clause-cut_line : goal.returns-in-Ok-write_all-clause-cut_line
returns-in-Ok-write_all-clause-cut_line g c = search rules

pub returns-in-Ok-write_all-clause-complete : goal.returns-in-Ok-write_all-clause-complete
returns-in-Ok-write_all-clause-complete g c = search rules

-- what is stopped by its files has no answer
pub returns-in-Ok-write_all-clause-refused : goal.returns-in-Ok-write_all-clause-refused
returns-in-Ok-write_all-clause-refused g c =
    let asked = asked_if (request_of (map string_bytes c.args.words.now)) in
    λ stop stopped unfaulted wrote.
    absurd (never_answered asked (g.F.Folder.seen c.args.folder.now) stop c.in-Ok.result.items
    stopped c.in-Ok.ensures.ok)

pub returns-clause-refused : goal.returns-clause-refused
returns-clause-refused g c =
    let asked = asked_if (request_of (map string_bytes c.args.words.now)) in
    λ stop stopped unfaulted wrote.
    absurd (never_answered asked (g.F.Folder.seen c.args.folder.now) stop c.in-Ok.result.items
    stopped c.in-Ok.ensures.ok)
