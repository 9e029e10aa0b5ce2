use Rattle.std.proofs.Common.{◌≡◌, Bool, true, false, ◌&&◌, ◌∙◌, ap}
use Rattle.ua_chunk.proofs.AbortsRead.{unreadable_code, unreadable_reason, readable_whole}
use Rattle.ua_chunk.proofs.abort.is_readable.Goals as goal

both : (r e t : Bool) → true ≡ e → r ≡ t → r ≡ (e && t)
both r e t h k = k ∙ ap (λ (b : Bool). b && t) h

one : (r e t : Bool) → false ≡ e → r ≡ false → r ≡ (e && t)
one r e t h k = k ∙ ap (λ (b : Bool). b && t) h

pub returns-in_default : goal.returns-in_default
returns-in_default c = unreadable_code c.args.body.now c.in_default.ensures

pub returns-in_default-split_counted : goal.returns-in_default-split_counted
returns-in_default-split_counted c = unreadable_reason c.args.body.now c.in-Some.rest.now c.in-Some.field-0-0 c.in-Some.ensures
    c.in_default-split_counted.ensures

pub returns-then-is_empty : goal.returns-then-is_empty
returns-then-is_empty c =
    both _ _ _ c.if-is_empty.ensures c.is_text.ensures
    ∙ readable_whole c.args.body.now c.in-Some.rest.now c.in-Some-split_counted.rest.now c.in-Some.field-0-0 _ c.in-Some.ensures c.in-Some-split_counted.ensures

pub returns-else-is_empty : goal.returns-else-is_empty
returns-else-is_empty c =
    one _ _ _ c.if-is_empty.ensures c.if-is_empty.false
    ∙ readable_whole c.args.body.now c.in-Some.rest.now c.in-Some-split_counted.rest.now c.in-Some.field-0-0 _ c.in-Some.ensures c.in-Some-split_counted.ensures
