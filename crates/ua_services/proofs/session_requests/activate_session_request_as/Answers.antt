use Rattle.std.proofs.Common.{◌∙◌, ap}
use Rattle.ua_builtin.specs.ExtensionObject.{extension_object}
use Rattle.ua_services.specs.declared.request.Request.TheVariants.{ActivateSession}
use Rattle.ua_opening.specs.Plain.{request_header_of}
use Rattle.ua_structures.specs.Plain.{activate_session_of}
use Rattle.ua_services.proofs.Asked.{activate_session_fits, unnamed}
use Rattle.ua_services.proofs.Words.{identity_named, not_refused_by, refused_by}
use Rattle.ua_services.proofs.session_requests.activate_session_request_as.Goals as goal

pub returns-in-Err-clause-refused : goal.returns-in-Err-clause-refused
returns-in-Err-clause-refused c = refused_by c.in-Err.fault _ c.anonymous_token.result c.anonymous_token.ensures.named c.in-Err.ensures.refused

pub returns-in-Err-clause-unwritable : goal.returns-in-Err-clause-unwritable
returns-in-Err-clause-unwritable c = λ refused.
    unnamed c.args.policy_id c.args.token c.args.moment c.args.handle c.anonymous_token.ensures.utf8
    ((refused_by c.in-Err.fault _ c.anonymous_token.result c.anonymous_token.ensures.named c.in-Err.ensures.refused).0 refused)

pub returns-clause-value : goal.returns-clause-value
returns-clause-value c =
    ap ActivateSession (c.new.ensures.value ∙ ap (λ h. activate_session_of h c.in-Ok.identity) c.new-header.ensures.value
    ∙ ap (activate_session_of (request_header_of c.args.token c.args.moment c.args.handle)) (c.in-Ok.ensures.ok
    ∙ identity_named _ c.anonymous_token.result c.anonymous_token.ensures.named))

pub returns-clause-encodable : goal.returns-clause-encodable
returns-clause-encodable c = λ h fits.
    let is = c.in-Ok.ensures.ok ∙ identity_named _ c.anonymous_token.result c.anonymous_token.ensures.named in
    activate_session_fits c.new.result (c.new.ensures.encodable (c.new-header.ensures.encodable h) (ap (λ o. (extension_object).encodable o) is ∙ fits))

pub returns-clause-refused : goal.returns-clause-refused
returns-clause-refused c = not_refused_by c.in-Ok.identity _ _ c.anonymous_token.result c.anonymous_token.ensures.named c.in-Ok.ensures.refused
