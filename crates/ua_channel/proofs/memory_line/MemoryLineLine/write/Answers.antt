use Rattle.std.proofs.Common.{rules, ◌<◌, length, drop, ◌∙◌, ap}
use Rattle.ua_channel.specs.Line.{one_more}
use Rattle.ua_channel.proofs.MemoryLines.{some_moved, traffic_with, wrapped}
use Rattle.ua_channel.specs.MemoryLine.{Memory, after_call, traffic_of_stored}
use Rattle.ua_channel.proofs.memory_line.MemoryLineLine.write.Goals as goal

pub returns-in_default-clause-failed : goal.returns-in_default-clause-failed
returns-in_default-clause-failed c =
    let fits : c.self.inside.failures < 18446744073709551616 = search rules in
    wrapped c.self.inside.failures fits ∙ ap (λ (l : Memory). one_more l.failures) c.self.view_is

pub returns-in_default-clause-octets : goal.returns-in_default-clause-octets
returns-in_default-clause-octets c = ap (λ (l : Memory). traffic_of_stored l.traffic) c.self.view_is

pub returns-in_default-clause-writes : goal.returns-in_default-clause-writes
returns-in_default-clause-writes c = c.in_default.ensures.behind ∙ ap (λ (l : Memory). after_call l.writes) c.self.view_is

pub returns-in_default-clause-reads : goal.returns-in_default-clause-reads
returns-in_default-clause-reads c = ap (λ (l : Memory). l.reads) c.self.view_is

pub returns-in-Ok-extend_from_slice-clause-some : goal.returns-in-Ok-extend_from_slice-clause-some
returns-in-Ok-extend_from_slice-clause-some c = some_moved c.self.inside.writes c.in-Ok.n (length c.args.octets.now) c.in-Ok.ensures.moves

pub returns-in-Err-clause-failed : goal.returns-in-Err-clause-failed
returns-in-Err-clause-failed c =
    let fits : c.self.inside.failures < 18446744073709551616 = search rules in
    wrapped c.self.inside.failures fits ∙ ap (λ (l : Memory). one_more l.failures) c.self.view_is

pub returns-in-Err-clause-octets : goal.returns-in-Err-clause-octets
returns-in-Err-clause-octets c =
    ap (traffic_with (drop c.self.inside.read c.self.inside.octets.items)) c.in-Err.ensures.items
    ∙ ap (λ (l : Memory). traffic_of_stored l.traffic) c.self.view_is

pub returns-in-Err-clause-writes : goal.returns-in-Err-clause-writes
returns-in-Err-clause-writes c = c.in-Ok.ensures.behind ∙ ap (λ (l : Memory). after_call l.writes) c.self.view_is

pub returns-in-Err-clause-reads : goal.returns-in-Err-clause-reads
returns-in-Err-clause-reads c = ap (λ (l : Memory). l.reads) c.self.view_is
