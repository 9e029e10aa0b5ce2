use Rattle.std.proofs.Common.{refl}
use Rattle.ua_judge.proofs.Begins.{kept_begun, kind_from}
use Rattle.ua_judge.proofs.requests.push_chunk.Goals as goal

pub returns-in_ok-push-clause-begun : goal.returns-in_ok-push-clause-begun
returns-in_ok-push-clause-begun c = λ before h.
    kept_begun c.args.begun.now.items c.as_slice.result.now c.keep.new.begun.items before c.args.frame.now c.args.place c.number_from-number.result
    c.in_ok-own.own c.message_kind-kind.result _ c.requires.kind c.requires.place refl
    c.number_from-number.ensures (kind_from c.args.frame.now c.args.place c.in_ok-own.own c.in_ok-own.ensures) c.as_slice.ensures.value
    c.message_kind-kind.ensures c.in_ok-keep.ensures h

pub returns-else-frame-eq70-clause-begun : goal.returns-else-frame-eq70-clause-begun
returns-else-frame-eq70-clause-begun c = λ before h.
    kept_begun c.args.begun.now.items c.as_slice.result.now c.keep.new.begun.items before c.args.frame.now c.args.place c.number_from-number.result
    c.in_ok-own.own c.message_kind-kind.result _ c.requires.kind c.requires.place refl
    c.number_from-number.ensures (kind_from c.args.frame.now c.args.place c.in_ok-own.own c.in_ok-own.ensures) c.as_slice.ensures.value
    c.message_kind-kind.ensures c.in_ok-keep.ensures h
