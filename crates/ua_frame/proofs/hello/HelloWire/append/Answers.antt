use Rattle.std.proofs.lemmas.Result.{err_from_is_err_and}
use Rattle.ua_frame.specs.Messages.{hello}
use Rattle.ua_wire.proofs.Appends.{then_more, then_some}
use Rattle.ua_frame.proofs.hello.HelloWire.append.Goals as goal

pub returns-in_err-append-clause-err : goal.returns-in_err-append-clause-err
returns-in_err-append-clause-err c =
    let p = err_from_is_err_and c.from_residual.result c.from_residual.ensures.1 in
    rw p.1 c.in_err-append.ensures.err

pub returns-in_err-append-2-clause-err : goal.returns-in_err-append-2-clause-err
returns-in_err-append-2-clause-err c =
    let p = err_from_is_err_and c.from_residual-in_err-append-2.result c.from_residual-in_err-append-2.ensures.1 in
    rw p.1 (then_some _ _ _ _ c.in_ok-append.ensures.ok c.in_err-append-2.ensures.err)

pub returns-in_err-append-3-clause-err : goal.returns-in_err-append-3-clause-err
returns-in_err-append-3-clause-err c =
    let p = err_from_is_err_and c.from_residual-in_err-append-3.result c.from_residual-in_err-append-3.ensures.1 in
    rw p.1 (then_some _ _ _ _ c.in_ok-append.ensures.ok (then_some _ _ _ _ c.in_ok-append-2.ensures.ok c.in_err-append-3.ensures.err))

pub returns-in_err-append-4-clause-err : goal.returns-in_err-append-4-clause-err
returns-in_err-append-4-clause-err c =
    let p = err_from_is_err_and c.from_residual-in_err-append-4.result c.from_residual-in_err-append-4.ensures.1 in
    rw p.1 (then_some _ _ _ _ c.in_ok-append.ensures.ok
    (then_some _ _ _ _ c.in_ok-append-2.ensures.ok (then_some _ _ _ _ c.in_ok-append-3.ensures.ok c.in_err-append-4.ensures.err)))

pub returns-in_err-append-5-clause-err : goal.returns-in_err-append-5-clause-err
returns-in_err-append-5-clause-err c =
    let p = err_from_is_err_and c.from_residual-in_err-append-5.result c.from_residual-in_err-append-5.ensures.1 in
    rw p.1 (then_some _ _ _ _ c.in_ok-append.ensures.ok
    (then_some _ _ _ _ c.in_ok-append-2.ensures.ok
    (then_some _ _ _ _ c.in_ok-append-3.ensures.ok (then_some _ _ _ _ c.in_ok-append-4.ensures.ok c.in_err-append-5.ensures.err))))

pub returns-in_err-append-6-clause-err : goal.returns-in_err-append-6-clause-err
returns-in_err-append-6-clause-err c =
    let p = err_from_is_err_and c.from_residual-in_err-append-6.result c.from_residual-in_err-append-6.ensures.1 in
    rw p.1 (then_some _ _ _ _ c.in_ok-append.ensures.ok
    (then_some _ _ _ _ c.in_ok-append-2.ensures.ok
    (then_some _ _ _ _ c.in_ok-append-3.ensures.ok
    (then_some _ _ _ _ c.in_ok-append-4.ensures.ok (then_some _ _ _ _ c.in_ok-append-5.ensures.ok c.in_err-append-6.ensures.err)))))

pub returns-clause-ok : goal.returns-clause-ok
unfolding hello
returns-clause-ok c =
    then_more c.args.out.now.items _ _ _ _ c.in_ok-append.ensures.ok
    (then_more c.append.new.out.items _ _ _ _ c.in_ok-append-2.ensures.ok
    (then_more c.append-2.new.out.items _ _ _ _ c.in_ok-append-3.ensures.ok
    (then_more c.append-3.new.out.items _ _ _ _ c.in_ok-append-4.ensures.ok
    (then_more c.append-4.new.out.items _ _ _ _ c.in_ok-append-5.ensures.ok c.in_ok-append-6.ensures.ok))))
