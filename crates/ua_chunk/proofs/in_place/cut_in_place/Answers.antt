use Rattle.std.proofs.Common.{◌≡◌, ◌++◌, ◌+◌, ◌-◌, List, ℕ, length, take, drop, sym, ap, ◌∙◌, arith, cond, Bool, replicate}
use lib.Seq.{take-append_seam}
use Rattle.ua_chunk.specs.Cutting.{pieces, chunks_of, chunks_octets, number_after}
use Rattle.ua_chunk.proofs.CutFaults.{refused_for, kept_front}
use Rattle.ua_chunk.proofs.in_place.cut_in_place.Goals as goal

pub returns-in-Some-clause-faults : goal.returns-in-Some-clause-faults
returns-in-Some-clause-faults c = refused_for c.args.lane.now c.args.body.now.items c.in-Some.fault
    (c.in-Some.ensures c.args.body.now.items (omega (arith, c.len-len.ensures)))

pub returns-in_default-octets_of_headers-clause-faults : goal.returns-in_default-octets_of_headers-clause-faults
returns-in_default-octets_of_headers-clause-faults c = sym (c.in_default.ensures c.args.body.now.items (omega (arith, c.len-len.ensures)))

pub returns-in_default-checked_add-clause-faults : goal.returns-in_default-checked_add-clause-faults
returns-in_default-checked_add-clause-faults c = sym (c.in_default.ensures c.args.body.now.items (omega (arith, c.len-len.ensures)))

pub returns-then-is_err-clause-faults : goal.returns-then-is_err-clause-faults
returns-then-is_err-clause-faults c = sym (c.in_default.ensures c.args.body.now.items (omega (arith, c.len-len.ensures)))

pub returns-then-is_err-clause-err : goal.returns-then-is_err-clause-err
returns-then-is_err-clause-err c = c.resize.ensures.items
    ∙ ap (λ (b : Bool). cond b (take c.in-Some-checked_add.size c.args.body.now.items ++ replicate (c.in-Some-checked_add.size - c.args.body.now.len) 0)
    c.args.body.now.items) c.if-is_err.ensures.negation

pub place_chunks-requires-clause-headers : goal.place_chunks-requires-clause-headers
place_chunks-requires-clause-headers c =
    c.as_mut_slice.ensures.len
    ∙ c.resize.ensures.len
    ∙ ap (λ (b : Bool). cond b c.in-Some-checked_add.size c.args.body.now.len) c.if-is_err.ensures.negation
    ∙ c.in-Some-checked_add.ensures.1
    ∙ ap (λ (n : ℕ). c.len-len.result + n) c.in-Some-octets_of_headers.ensures

pub returns : goal.returns
returns c =
    let items : c.resize.new.self.items
    ≡ take c.in-Some-checked_add.size c.args.body.now.items ++ replicate (c.in-Some-checked_add.size - c.args.body.now.len) 0 =
    c.resize.ensures.items
    ∙ ap (λ (b : Bool). cond b (take c.in-Some-checked_add.size c.args.body.now.items ++ replicate (c.in-Some-checked_add.size - c.args.body.now.len) 0)
    c.args.body.now.items) c.if-is_err.ensures.negation in
    let front : take c.len-len.result c.as_mut_slice.result.now ≡ c.args.body.now.items =
    ap (λ (t : List ℕ). take c.len-len.result t) (c.as_mut_slice.ensures.value ∙ items)
    ∙ kept_front c.len-len.result c.in-Some-checked_add.size (c.in-Some-checked_add.size - c.args.body.now.len) c.args.body.now.items
    (omega (arith, c.len-len.ensures)) (omega (arith, c.in-Some-checked_add.ensures)) in
    let long : c.resize.new.self.len ≡ length c.place_chunks.new.octets = omega (arith, c.as_mut_slice.ensures.len, c.place_chunks.auto.octets) in
    let rest = drop (length c.place_chunks.new.octets) c.resize.new.self.items in
    record {
      chunks =
          ap (λ (n : ℕ). take n (c.place_chunks.new.octets ++ rest)) long
          ∙ take-append_seam c.place_chunks.new.octets rest
          ∙ c.place_chunks.ensures.chunks
          ∙ ap (λ (t : List ℕ). chunks_octets (chunks_of c.args.lane.now t c.args.sequence c.args.request)) front;
      next = c.place_chunks.ensures.next ∙ ap (λ (t : List ℕ). number_after c.args.sequence (pieces c.args.lane.now.room t)) front;
      range = c.place_chunks.ensures.range;
      faults = sym (c.in_default.ensures c.args.body.now.items (omega (arith, c.len-len.ensures)));
      err = tt;
    }
