use Rattle.std.proofs.Common.{List, ℕ, ◌++◌, ◌∙◌, [], append-nil, ap, arith, sym}
use Rattle.std.proofs.lemmas.Result.{err_from_is_err_and}
use Rattle.ua_chunk.proofs.Pieces.{chunk_appended}
use Rattle.ua_chunk.proofs.cutting.append_chunk.Goals as goal

pub returns-clause-ok : goal.returns-clause-ok
returns-clause-ok c =
    chunk_appended c.args.lane.now c.args.flag _ c.args.sequence c.args.request c.args.out.now.items c.extend_from_slice.new.self.items
    c.extend_from_slice-2.new.self.items c.args.piece.now (omega arith)
    (c.in_ok-extend_from_slice.ensures.items ∙ ap (λ (t : List ℕ). c.args.out.now.items ++ t) c.headers.ensures) c.in_ok-extend_from_slice-2.ensures.items

pub returns-in_err-extend_from_slice-clause-err : goal.returns-in_err-extend_from_slice-clause-err
returns-in_err-extend_from_slice-clause-err c =
    let p = err_from_is_err_and c.from_residual.result c.from_residual.ensures.1 in
    rw p.1 (record { more = []; parts = c.in_err-extend_from_slice.ensures.items ∙ sym (append-nil c.args.out.now.items) })

pub returns-in_err-extend_from_slice-2-clause-err : goal.returns-in_err-extend_from_slice-2-clause-err
returns-in_err-extend_from_slice-2-clause-err c =
    let p = err_from_is_err_and c.from_residual-in_err-extend_from_slice-2.result c.from_residual-in_err-extend_from_slice-2.ensures.1 in
    rw p.1 (record {
      more = c.headers.result;
      parts = c.in_err-extend_from_slice-2.ensures.items ∙ c.in_ok-extend_from_slice.ensures.items;
    })
