use Rattle.std.proofs.Common.{sym, ap, ◌∙◌, ◌++◌, List, ℕ}
use Rattle.ua_builtin.proofs.NullObject.{null_written}
use Rattle.ua_builtin.proofs.extension_object.ExtensionObjectWire.append.Goals as goal

pub returns-then-is_null-clause-ok : goal.returns-then-is_null-clause-ok
returns-then-is_null-clause-ok c =
    c.in_ok-extend_from_slice.ensures.items
    ∙ ap (λ (t : List ℕ). c.args.out.now.items ++ t) (sym (null_written c.args.self.now (c.is_null.ensures.0 c.if-is_null.true)))
