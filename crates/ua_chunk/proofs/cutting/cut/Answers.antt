use Rattle.std.proofs.Common.{◌≡◌, ◌++◌, ◌+◌, ◌-◌, List, ℕ, length, take, refl, sym, ap, ◌∙◌, arith}
use lib.Seq.{take-append_seam}
use Rattle.ua_chunk.specs.Cutting.{chunks_of, chunks_octets}
use Rattle.ua_chunk.proofs.CutFaults.{refused_for}
use Rattle.ua_chunk.proofs.cutting.cut.Goals as goal

pub returns-in-Some-clause-faults : goal.returns-in-Some-clause-faults
returns-in-Some-clause-faults c = refused_for c.args.lane.now c.args.body.now c.in-Some.fault (c.in-Some.ensures c.args.body.now refl)

pub returns-in_default-octets_of_chunks-clause-faults : goal.returns-in_default-octets_of_chunks-clause-faults
returns-in_default-octets_of_chunks-clause-faults c = sym (c.in_default.ensures c.args.body.now refl)

pub returns-then-is_err-clause-faults : goal.returns-then-is_err-clause-faults
returns-then-is_err-clause-faults c = sym (c.in_default.ensures c.args.body.now refl)

pub returns-in-Ok-clause-faults : goal.returns-in-Ok-clause-faults
returns-in-Ok-clause-faults c = sym (c.in_default.ensures c.args.body.now refl)

pub returns-in-Err-clause-faults : goal.returns-in-Err-clause-faults
returns-in-Err-clause-faults c = sym (c.in_default.ensures c.args.body.now refl)

pub returns-in-Ok-clause-chunks : goal.returns-in-Ok-clause-chunks
returns-in-Ok-clause-chunks c =
    c.in-Ok.ensures.ok.0
    ∙ ap (λ (t : List ℕ). t ++ chunks_octets (chunks_of c.args.lane.now c.args.body.now c.args.sequence c.args.request)) c.reserve.ensures.items

pub returns-in-Ok-clause-next : goal.returns-in-Ok-clause-next
returns-in-Ok-clause-next c = c.in-Ok.ensures.ok.1

pub returns-in-Ok-clause-range : goal.returns-in-Ok-clause-range
returns-in-Ok-clause-range c = c.in-Ok.ensures.range

pub returns-then-is_err-clause-err : goal.returns-then-is_err-clause-err
returns-then-is_err-clause-err c = c.reserve.ensures.items

pub returns-in-Err-clause-err : goal.returns-in-Err-clause-err
returns-in-Err-clause-err c =
    let long : c.len-len.result ≡ length c.reserve.new.self.items = omega (arith, c.len-len.ensures) in
    c.truncate.ensures.items
    ∙ ap (λ (n : ℕ). take n c.append_chunks.new.out.items) long
    ∙ ap (λ (t : List ℕ). take (length c.reserve.new.self.items) t) c.in-Err.ensures.err.parts
    ∙ take-append_seam c.reserve.new.self.items c.in-Err.ensures.err.more
    ∙ c.reserve.ensures.items
