use Rattle.std.proofs.Common.{◌∙◌, ap}
use Rattle.ua_builtin.specs.ExtensionObject.{extension_object}
use Rattle.ua_services.specs.SessionRequests.{activate_session_as, anonymous_identity}
use Rattle.ua_services.proofs.Words.{identity_fits, not_refused}
use Rattle.ua_services.proofs.session_requests.activate_session_request.Goals as goal

pub unreachable-requires : goal.unreachable-requires
unreachable-requires c = not_refused _ c.in-Err-NotWritable.field-0 _ c.in_ok-policy_id.ensures c.activate_session_request_as.ensures.refused
    c.in-Err-NotWritable.is c.in-Err-NotWritable.field-0-is

pub returns-in-Ok-clause-value : goal.returns-in-Ok-clause-value
returns-in-Ok-clause-value c = c.in-Ok.ensures.value ∙ ap (λ p. activate_session_as p c.args.token c.args.moment c.args.handle) c.in_ok-policy_id.ensures

pub returns-in-Ok-clause-encodable : goal.returns-in-Ok-clause-encodable
returns-in-Ok-clause-encodable c = λ h. c.in-Ok.ensures.encodable h (ap (λ p. (extension_object).encodable (anonymous_identity p)) c.in_ok-policy_id.ensures
    ∙ identity_fits)
