use Rattle.std.proofs.Common.{rules, ◌≡◌}
use Rattle.std.specs.Prelude.{IsErrOf}
use Rattle.ua_wire.specs.declared.fault.ReadFault.TheVariants.{NoValue}
use Rattle.ua_builtin.specs.NodeId.{null_id}
use Rattle.ua_server.proofs.Identities.{carried, not_carried}
use Rattle.ua_server.proofs.sessions.is_nobody.Goals as goal

pub returns-in-Ok : goal.returns-in-Ok
returns-in-Ok c = carried c.args.identity.now c.in-Ok.token c.in-Ok.ensures.found

pub returns-in-Err-NoValue : goal.returns-in-Err-NoValue
returns-in-Err-NoValue c =
    let other : (c.args.identity.now.type_id ≡ null_id → ⊥) = λ e. search rules in
    let failed : IsErrOf c.read_identity.result NoValue = search rules in
    not_carried c.args.identity.now other (c.read_identity.ensures.none failed)
