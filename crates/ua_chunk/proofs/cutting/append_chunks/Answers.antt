use Rattle.std.proofs.Common.{List, ℕ, ◌++◌, ◌∙◌, ap, arith, refl, append-nil, sym, []}
use Rattle.ua_frame.specs.Frames.{frame_octets}
use Rattle.ua_chunk.specs.declared.flag.Flag.TheVariants.{C}
use Rattle.ua_chunk.specs.Cutting.{chunk_of}
use Rattle.ua_chunk.specs.Layout.{frame_of}
use Rattle.std.proofs.lemmas.Result.{err_from_is_err_and}
use Rattle.ua_chunk.proofs.Pieces.{cut_more, cut_last, extends_then}
use Rattle.ua_chunk.proofs.cutting.append_chunks.Goals as goal

pub loop-rest-preserved : goal.loop-rest-preserved
loop-rest-preserved c =
    cut_more c.args.lane.now c.args.request c.args.sequence c.loop-rest.number c.next_number-number.result c.args.body.now c.args.out.now.items
    c.loop-rest.rest.now c.split_at.result.1.now c.loop-rest.out.items c.append_chunk.new.out.items
    c.loop-rest.invariant c.requires.room (omega arith)
    (c.in_ok-append_chunk.ensures.ok
    ∙ ap (λ (t : List ℕ). c.loop-rest.out.items ++ frame_octets (frame_of (chunk_of c.args.lane.now C c.loop-rest.number c.args.request t)))
    c.split_at.ensures.front)
    c.next_number-number.ensures.next
    c.split_at.ensures.back

pub returns-clause-ok : goal.returns-clause-ok
returns-clause-ok c =
    let whole = cut_last c.args.lane.now c.args.request c.args.sequence c.loop-rest.number c.next_number.result c.args.body.now c.args.out.now.items
    c.loop-rest.rest.now c.loop-rest.out.items c.append_chunk-2.new.out.items
    c.loop-rest.invariant (omega arith) c.in_ok-append_chunk-2.ensures.ok c.next_number.ensures.next in
    (whole.octets, whole.after)

pub loop-rest-init : goal.loop-rest-init
loop-rest-init c = record {
  parts = refl;
  after = refl;
  some = c.requires.body;
  small = c.requires.sequence;
  extends = record { more = []; parts = sym (append-nil c.args.out.now.items) };
}

pub append_chunk-requires : goal.append_chunk-requires
append_chunk-requires c = omega (arith, c.split_at.ensures.front_len)

pub loop-rest-smaller : goal.loop-rest-smaller
loop-rest-smaller c = omega (arith, c.split_at.ensures.back_len)

pub append_chunk-requires-2 : goal.append_chunk-requires-2
append_chunk-requires-2 c = omega arith

pub returns-in_err-append_chunk-clause-err : goal.returns-in_err-append_chunk-clause-err
returns-in_err-append_chunk-clause-err c =
    let p = err_from_is_err_and c.from_residual.result c.from_residual.ensures.1 in
    rw p.1 (extends_then _ _ _ c.loop-rest.invariant.extends c.in_err-append_chunk.ensures.err)

pub returns-in_err-append_chunk-2-clause-err : goal.returns-in_err-append_chunk-2-clause-err
returns-in_err-append_chunk-2-clause-err c =
    let p = err_from_is_err_and c.from_residual-in_err-append_chunk-2.result c.from_residual-in_err-append_chunk-2.ensures.1 in
    rw p.1 (extends_then _ _ _ c.loop-rest.invariant.extends c.in_err-append_chunk-2.ensures.err)

pub returns-clause-range : goal.returns-clause-range
returns-clause-range c = c.next_number.ensures.range
