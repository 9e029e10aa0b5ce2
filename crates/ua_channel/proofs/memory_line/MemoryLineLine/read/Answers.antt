use Rattle.std.proofs.Common.{rules, ◌≡◌, ◌≤◌, ◌<◌, ◌++◌, ◌+◌, ◌-◌, ℕ, List, length, drop, take, min, Ok, Err, Result, sym, ◌∙◌, ap, subst}
use Rattle.ua_channel.specs.MemoryLine.{Memory, after_call, moves, traffic_of_stored}
use Rattle.ua_channel.specs.declared.line.LineFault.{LineFault}
use Rattle.ua_channel.specs.declared.line.LineFault.TheVariants.{Failed}
use Rattle.ua_channel.proofs.MemoryLines.{handed, none_moved, only_fault, read_paced, wrapped}
use Rattle.ua_channel.specs.Line.{one_more}
use Rattle.ua_channel.proofs.memory_line.MemoryLineLine.read.Goals as goal

-- src/memory_line.rt:124:5
pub returns-in-Ok-clause-octets : goal.returns-in-Ok-clause-octets
returns-in-Ok-clause-octets c =
    let i = c.self.inside in
    let few : i.read + c.in-Ok.n ≤ length i.octets.items = search rules in
    let a = handed i.octets.items c.args.buffer.now i.read c.in-Ok.n few in
    let told : Ok c.in-Ok.n ≡ moves i.reads (min (length i.octets.items - i.read) (length c.args.buffer.now)) = search rules in
    let b = none_moved i.reads i.octets.items i.read (length c.args.buffer.now) c.in-Ok.n told in
    let put : c.copy_from_slice.new.self ≡ take c.in-Ok.n (drop i.read i.octets.items) = search rules in
    let room : length (c.copy_from_slice.new.self ++ drop c.in-Ok.n c.args.buffer.now) ≡ length c.args.buffer.now = search rules in
    let from : c.args.self.now.traffic.coming ≡ drop i.read i.octets.items = search rules in
    let kept : i.written.items ≡ c.args.self.now.traffic.written = search rules in
    let whole = from ∙ (a ∙ ap (λ (t : List ℕ). take c.in-Ok.n (t ++ drop c.in-Ok.n c.args.buffer.now) ++ drop (i.read + c.in-Ok.n) i.octets.items) (sym put))
    in
    (λ more. whole, kept, λ z r. from ∙ b z (subst (λ (k : ℕ). 0 < k) room r))

abbrev fault_of : LineFault → Result ℕ LineFault
fault_of f = Err f

pub returns-in-Ok-clause-failed : goal.returns-in-Ok-clause-failed
returns-in-Ok-clause-failed c = ap (λ (l : Memory). l.failures) c.self.view_is

pub returns-in-Ok-clause-paced : goal.returns-in-Ok-clause-paced
returns-in-Ok-clause-paced c =
    read_paced c.args.self.now c.self.inside.octets.items c.self.inside.reads (length c.args.buffer.now) c.len.result c.self.inside.read c.min.result
    (Ok c.in-Ok.n) (ap (λ (l : Memory). l.reads) (sym c.self.view_is)) (ap (λ (l : Memory). l.traffic.coming) (sym c.self.view_is)) (c.len.ensures
    ∙ c.self.inside.octets.ok.0)
    c.min.ensures c.in-Ok.ensures.moves

pub returns-in-Ok-clause-reads : goal.returns-in-Ok-clause-reads
returns-in-Ok-clause-reads c = c.in-Ok.ensures.behind ∙ ap (λ (l : Memory). after_call l.reads) c.self.view_is

pub returns-in-Ok-clause-writes : goal.returns-in-Ok-clause-writes
returns-in-Ok-clause-writes c = ap (λ (l : Memory). l.writes) c.self.view_is

pub returns-in-Err-clause-failed : goal.returns-in-Err-clause-failed
returns-in-Err-clause-failed c =
    let fits : c.self.inside.failures < 18446744073709551616 = search rules in
    wrapped c.self.inside.failures fits ∙ ap (λ (l : Memory). one_more l.failures) c.self.view_is

pub returns-in-Err-clause-octets : goal.returns-in-Err-clause-octets
returns-in-Err-clause-octets c = ap (λ (l : Memory). traffic_of_stored l.traffic) c.self.view_is

pub returns-in-Err-clause-paced : goal.returns-in-Err-clause-paced
returns-in-Err-clause-paced c =
    read_paced c.args.self.now c.self.inside.octets.items c.self.inside.reads (length c.args.buffer.now) c.len.result c.self.inside.read c.min.result
    (Err Failed) (ap (λ (l : Memory). l.reads) (sym c.self.view_is)) (ap (λ (l : Memory). l.traffic.coming) (sym c.self.view_is)) (c.len.ensures
    ∙ c.self.inside.octets.ok.0)
    c.min.ensures (ap fault_of (sym (only_fault c.in-Err.field-0)) ∙ c.in-Err.ensures.moves)

pub returns-in-Err-clause-reads : goal.returns-in-Err-clause-reads
returns-in-Err-clause-reads c = c.in-Err.ensures.behind ∙ ap (λ (l : Memory). after_call l.reads) c.self.view_is

pub returns-in-Err-clause-writes : goal.returns-in-Err-clause-writes
returns-in-Err-clause-writes c = ap (λ (l : Memory). l.writes) c.self.view_is
