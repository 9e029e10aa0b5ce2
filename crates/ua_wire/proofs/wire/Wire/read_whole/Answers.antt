use Rattle.std.proofs.Common.{◌∙◌, ap, subst, sym, append-nil, length, None, List, [], ℕ}
use Rattle.ua_wire.specs.Format.{IsWhole}
use Rattle.ua_wire.proofs.ReadAnswers.{not_whole}
use Rattle.ua_wire.proofs.wire.Wire.read_whole.Goals as goal

pub returns-in-Ok-2-clause-read : goal.returns-in-Ok-2-clause-read
returns-in-Ok-2-clause-read g c =
    subst (λ (t : List ℕ). IsWhole g.Self.Wire.format t None) c.new-src.ensures
    (not_whole g.Self.Wire.format c.lawful.ensures c.new-src.result c.read.new.src c.in-Ok.value c.in-Ok.ensures.found c.in-Ok.ensures.levels
    (λ e. c.if-left-eq0.false (c.left.ensures ∙ ap length e)))

pub returns-in-Err-NoValue-clause-read : goal.returns-in-Err-NoValue-clause-read
returns-in-Err-NoValue-clause-read g c = λ v within encoded. c.in-Err-NoValue.ensures.none (rw c.in-Err-NoValue.field-0-is) v c.args.octets.now []
    (c.new-src.ensures ∙ sym (append-nil c.args.octets.now)) within encoded
